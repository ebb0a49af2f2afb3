use Rattle.std.proofs.Common.{◌≡◌, ◌*◌, length, pos, slice_index_or, sym, ap, ap₂, ◌∙◌, arith}
use Rattle.std.specs.Int.{div_ceil}
use Rattle.std.proofs.lemmas.List.FromFn.{fill_by_all}
use Rattle.delta_codes.specs.Slots.{slot}
use Rattle.delta_codes.proofs.Slots.{slots_at}
use Rattle.row_model.specs.declared.rows.Value.TheVariants as values
use Rattle.dictionaries.specs.Fields.{i64_at}
use Rattle.column_bytes.specs.Cells.{anchors_at}
use Rattle.column_bytes.proofs.integers.delta_coding.Goals as goal

pub returns-clause-codes : goal.returns-clause-codes
returns-clause-codes c =
    let integers = c.args.integers.now in
    let n = length integers in
    let extra = c.in_ok-extra.extra.items in
    let deltas = c.in_ok-deltas.deltas in
    let made = c.in_ok-deltas.ensures in
    let lent : c.as_slice.result.now ≡ deltas.anchors = c.as_slice.ensures in
    let anchors : deltas.anchors ≡ anchors_at n extra
    = fill_by_all (λ k. i64_at extra (8 * k)) deltas.anchors (div_ceil n 64) (pos 0) made.anchored
    (λ k h. sym (c.in_ok-extra.ensures.each k (omega (arith, made.anchored, ap length lent)) ∙ ap (λ xs. slice_index_or xs k (pos 0)) lent)) in
    let codes : c.into_inner.result.items ≡ deltas.codes = c.into_inner.ensures in
    record {
      same = ap length codes ∙ made.coded;
      each = λ i h. (
        ap values.Int (ap₂ (λ xs ys. slot xs ys i) (sym anchors) codes
            ∙ sym (slots_at deltas.anchors deltas.codes i (pos 0) (omega (arith, made.coded)))
            ∙ ap (λ xs. slice_index_or xs i (pos 0)) made.same),
        tt,
      );
    }
