use Rattle.std.proofs.Common.{◌++◌, take, subst, sym, ap, ap₂, ◌∙◌}
use Rattle.std.specs.Int.{w64, to_le_bytes}
use Rattle.bit_columns.specs.Number.{number, WrittenBits, AreBytes}
use Rattle.bit_columns.proofs.Numbers.{AreBytes-append, AreBytes-take, AreBytes-to_le_bytes}
use Rattle.bit_columns.proofs.Writing.{written_last}
use Rattle.bit_columns.proofs.packing.BitWriter.finish.Goals as goal

pub returns-clause-value : goal.returns-clause-value
returns-clause-value c =
    let inside = c.self.inside in
    let items = c.in_ok-extend_from_slice.ensures.items
    ∙ ap₂ (λ n word. inside.bytes.items ++ take n word) c.div_ceil-used.ensures c.to_le_bytes.ensures in
    ap number items
    ∙ written_last inside.bytes.items inside.waiting inside.count c.self.invariant.few c.self.invariant.below (AreBytes-to_le_bytes inside.waiting)
    ∙ ap (λ (w : WrittenBits). w.value) c.self.view_is

pub returns-clause-bytes : goal.returns-clause-bytes
returns-clause-bytes c =
    let inside = c.self.inside in
    let word = to_le_bytes w64 inside.waiting in
    let items = c.in_ok-extend_from_slice.ensures.items ∙ ap (λ w. inside.bytes.items ++ take c.div_ceil-used.result w) c.to_le_bytes.ensures in
    subst AreBytes (sym items)
    (AreBytes-append inside.bytes.items (take c.div_ceil-used.result word) c.self.invariant.each
    (AreBytes-take c.div_ceil-used.result word (AreBytes-to_le_bytes inside.waiting)))
