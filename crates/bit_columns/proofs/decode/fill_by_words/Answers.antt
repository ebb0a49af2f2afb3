use Rattle.std.proofs.Common.{◌≡◌, ◌∙◌, arith, inl, inr}
use Rattle.std.proofs.lemmas.Bool.{cases_lt}
use Rattle.std.proofs.lemmas.List.{get_or-set_same, get_or-set_other}
use Rattle.bit_columns.proofs.decode.fill_by_words.Goals as goal

pub loop-i-preserved : goal.loop-i-preserved
loop-i-preserved c =
    let out = c.loop-i.out in
    let i = c.loop-i.i in
    let value = c.loaded.result in
    λ k h. elim (cases_lt k i) [
      | inl before ↦ get_or-set_other out i k value 0 (omega arith) ∙ c.loop-i.invariant k before
      | inr last ↦
          let same : k ≡ i = omega arith in
          rw same (get_or-set_same out i value 0 (omega arith) ∙ c.loaded.ensures)
    ]
