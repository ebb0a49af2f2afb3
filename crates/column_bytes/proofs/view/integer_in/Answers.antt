use Rattle.std.proofs.Common.{rules, ◌≡◌, ◌-◌, ◌+ℤ◌, pos, sym, ap, ap₂, ◌∙◌, subst, w64, FitsSigned}
use Rattle.std.proofs.lemmas.Int.{to_z-of_z}
use Rattle.bit_columns.specs.Bits.{codes}
use Rattle.row_model.specs.declared.rows.Value.TheVariants as values
use Rattle.delta_codes.specs.Slots.{slot}
use Rattle.column_bytes.specs.declared.form.Form.{Form}
use Rattle.column_bytes.specs.Cells.{anchors_at, book_of, value_at}
use Rattle.column_bytes.proofs.Parts.{codes_at, same_integer}
use Rattle.column_bytes.proofs.view.integer_in.Goals as goal

pub slot_behind-requires-clause-before : goal.slot_behind-requires-clause-before
slot_behind-requires-clause-before c = λ some.
    let packed = c.args.packed.now in let extra = c.args.extra.now in let i = c.args.i in
    let before : values.Int (slot (anchors_at packed.count extra) (codes packed.bytes packed.width packed.count) (i - 1)) ≡ values.Int c.args.before
    = subst (λ (f : Form). value_at (book_of f packed.count extra) (codes packed.bytes packed.width packed.count) (i - 1) ≡ values.Int c.args.before) c.in-Delta.is (c.requires.before some) in
    to_z-of_z w64 c.args.before c.ranges.before ∙ sym (same_integer _ _ before)

pub returns-in-Offset : goal.returns-in-Offset
returns-in-Offset c =
    let packed = c.args.packed.now in let extra = c.args.extra.now in let i = c.args.i in
    let fits : FitsSigned w64 c.offset_value.result = search rules in
    let base : FitsSigned w64 c.i64_at.result = search rules in
    rw c.in-Offset.is (ap values.Int (sym (to_z-of_z w64 _ fits ∙ c.offset_value.ensures
    ∙ ap₂ (λ n code. n +ℤ pos code) (to_z-of_z w64 _ base ∙ c.i64_at.ensures) (c.get-code.ensures.code ∙ sym (codes_at packed.bytes packed.width packed.count i c.requires.inside)))))

pub returns-in-Delta : goal.returns-in-Delta
returns-in-Delta c =
    let fits : FitsSigned w64 c.slot_behind.result = search rules in
    rw c.in-Delta.is (ap values.Int (sym (to_z-of_z w64 _ fits ∙ c.slot_behind.ensures)))
