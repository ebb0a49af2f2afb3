use Rattle.std.proofs.Common.{◌≡◌, ℕ, ◌+◌, ◌-◌, ◌*◌, ◌/◌, ◌%◌, ◌^◌, ◌≤◌, ◌<◌, sym, subst, ap, ◌∙◌, IsTrue, arith, inl, inr}
use Rattle.std.proofs.lemmas.Bool.{cases_lt}
use Rattle.bit_columns.specs.Bits.{code}
use Rattle.bit_columns.proofs.Fours.{four_fit}
use Rattle.bit_columns.proofs.limit.are_fours_at_most.Goals as goal

pub returns-then-not-are_four_at_most : goal.returns-then-not-are_four_at_most
returns-then-not-are_four_at_most c =
    let i = c.loop-i.i in
    let width = c.args.width in
    let most = c.args.most in (
      λ no. let never : ⊥ = cc in absurd never,
      λ all.
          let each : (j : ℕ) → j < 4 → c.word_from.result / 2 ^ (j * width) % 2 ^ width ≤ most = λ j few. subst (λ n. n ≤ most) (sym (c.word_from.ensures j (four_fit width j (i * 4 * width) c.requires.few few))) (all (i * 4 + j) (omega (arith, few))) in
          subst IsTrue c.if-not-are_four_at_most.true (c.are_four_at_most.ensures.1 each),
    )

pub loop-i-preserved : goal.loop-i-preserved
loop-i-preserved c =
    let bytes = c.args.bytes.now in
    let i = c.loop-i.i in
    let width = c.args.width in
    let most = c.args.most in
    λ k h. elim (cases_lt k (i * 4)) [
      | inl before ↦ c.loop-i.invariant k before
      | inr here ↦
          let j = k - i * 4 in
          let few : j < 4 = omega arith in
          let place : i * 4 + j ≡ k = omega arith in
          let seen = c.word_from.ensures j (four_fit width j (i * 4 * width) c.requires.few few) ∙ ap (code bytes width) place in
          subst (λ n. n ≤ most) seen (c.are_four_at_most.ensures.0 c.if-not-are_four_at_most.false j few)
    ]
