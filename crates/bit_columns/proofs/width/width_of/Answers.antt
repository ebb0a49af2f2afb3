use Rattle.std.proofs.Common.{◌≡◌, ℕ, suc, ◌-◌, ◌^◌, ◌<◌, ◌≤◌, slice_index, arith, inl, inr}
use Rattle.std.proofs.Math.Nat.{pow-le-pow_right, pow-suc}
use Rattle.std.proofs.lemmas.Bool.{cases_lt}
use Rattle.std.proofs.lemmas.Nat.{le_or_l, le_or_r, or_lt, leading_length}
use Rattle.std.proofs.lemmas.List.{get_or_default}
use Rattle.std.specs.Int.{w64, leading_zeros}
use Rattle.bit_columns.proofs.width.width_of.Goals as goal

width_holds : (n : ℕ) → n < 2 ^ 64 → n < 2 ^ (64 - leading_zeros w64 n)
width_holds n h =
    let found = leading_length 64 n h in
    let m = found.0 in
    let e : m ≡ 64 - leading_zeros w64 n = omega (arith, found.1) in
    let below : n < 2 ^ m = found.2 in
    rw e at below

width_least : (n width : ℕ) → n < 2 ^ 64 → n < 2 ^ width → 64 - leading_zeros w64 n ≤ width
width_least n width h fits =
    let found = leading_length 64 n h in
    let m = found.0 in
    let e : m ≡ 64 - leading_zeros w64 n = omega (arith, found.1) in
    elim (cases_lt width m) [
      | inl less ↦
          let twice : 2 ^ suc width ≤ 2 ^ m = pow-le-pow_right {n = 2} (omega arith) {i = suc width} {j = m} (omega arith) in
          absurd (omega (arith, twice, pow-suc 2 width, found.3))
      | inr enough ↦ omega arith
    ]

pub loop-value-preserved : goal.loop-value-preserved
loop-value-preserved c =
    let ones = c.loop-value.ones in
    let i = c.loop-value.value-index in
    let values = c.args.values.now in
    let value = slice_index values i in
    record {
      within = λ k h. elim (cases_lt k i) [
        | inl before ↦ omega (arith, c.loop-value.invariant.within k before, le_or_l ones value)
        | inr here ↦ let same : k ≡ i = omega arith in rw same (le_or_r ones value)
      ];
      least = λ width h. or_lt width ones value (c.loop-value.invariant.least width (λ k before. h k (omega arith))) (h i (omega arith));
    }

pub returns-clause-fits : goal.returns-clause-fits
returns-clause-fits c = λ k d h.
    let values = c.args.values.now in
    let bound = c.loop-value.invariant.within k (omega arith) in
    omega (arith, get_or_default values k d 0 h, bound, width_holds c.loop-value.ones (omega arith))

pub returns-clause-least : goal.returns-clause-least
returns-clause-least c = λ width all.
    width_least c.loop-value.ones width (omega arith) (c.loop-value.invariant.least width (λ k h. all k 0 (omega arith)))
