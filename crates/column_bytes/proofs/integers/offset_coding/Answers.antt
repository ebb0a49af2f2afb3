use Rattle.std.proofs.Common.{rules, ◌≡◌, ◌+ℤ◌, pos, slice_index, slice_index_or, w64, FitsSigned, subst, sym, ap, ◌∙◌, arith}
use Rattle.std.proofs.lemmas.Int.{to_z-of_z}
use Rattle.row_model.specs.declared.rows.Value.TheVariants as values
use Rattle.dictionaries.specs.Fields.{i64_at}
use Rattle.column_bytes.proofs.integers.offset_coding.Goals as goal

pub returns-clause-codes : goal.returns-clause-codes
returns-clause-codes c =
    let base = c.least_of-base.result in
    let extra = c.in_ok-extra.extra.items in
    let fits : FitsSigned w64 base = search rules in
    let stands : i64_at extra 0 ≡ base = c.in_ok-extra.ensures.each 0 (omega arith) ∙ to_z-of_z w64 _ fits in
    record {
      same = c.in_ok-codes.ensures.same;
      each = λ i h.
          let back = to_z-of_z w64 base fits in
          let sum : i64_at extra 0 +ℤ pos (slice_index c.in_ok-codes.codes.items i) ≡ slice_index_or c.args.integers.now i (pos 0)
          = ap (λ b. b +ℤ pos (slice_index c.in_ok-codes.codes.items i)) (stands ∙ sym back) ∙ c.in_ok-codes.ensures.each i h in
          (ap values.Int sum, subst (FitsSigned w64) (sym sum) (c.in_ok-codes.ensures.fit i h));
    }
