use Rattle.std.proofs.Common.{ℕ, ◌<◌, length, Some, sym, ap, ◌∙◌, subst, arith}
use Rattle.bit_columns.specs.Bits.{code, codes}
use Rattle.column_bytes.specs.Cells.{Coded, IsCode, book_of, value_at, cell_at}
use Rattle.column_bytes.proofs.Parts.{length-codes, each-from_are_codes, present_below, cell_there, cell_missing}
use Rattle.column_bytes.proofs.view.ColumnView.cell.Goals as goal

pub is_there-requires : goal.is_there-requires
is_there-requires c =
    let inside = c.self.inside in
    let len = length-codes inside.packed.bytes inside.packed.width inside.count in
    present_below inside.presence inside.count c.args.i c.self.invariant.presence
    (omega (arith, len, ap (λ (v : Coded). length v.codes) c.self.view_is, c.requires))

pub value_in-requires-clause-inside : goal.value_in-requires-clause-inside
value_in-requires-clause-inside c =
    let inside = c.self.inside in
    let len = length-codes inside.packed.bytes inside.packed.width inside.count in
    omega (arith, len, ap (λ (v : Coded). length v.codes) c.self.view_is, c.requires, c.self.invariant.codes)

pub value_in-requires-clause-code : goal.value_in-requires-clause-code
value_in-requires-clause-code c =
    let inside = c.self.inside in
    let len = length-codes inside.packed.bytes inside.packed.width inside.count in
    let within : c.args.i < inside.count = omega (arith, len, ap (λ (v : Coded). length v.codes) c.self.view_is, c.requires) in
    subst (λ (n : ℕ). IsCode (book_of inside.form n inside.extra.now) (code inside.packed.bytes inside.packed.width c.args.i)) (sym c.self.invariant.codes)
    (each-from_are_codes inside.form inside.count inside.presence inside.packed inside.extra.now c.self.invariant.each c.args.i within (sym c.is_there.ensures ∙ c.if-is_there.true))

pub returns-then-is_there : goal.returns-then-is_there
returns-then-is_there c =
    let inside = c.self.inside in
    let len = length-codes inside.packed.bytes inside.packed.width inside.count in
    let within : c.args.i < inside.count = omega (arith, len, ap (λ (v : Coded). length v.codes) c.self.view_is, c.requires) in
    ap Some (c.value_in.ensures ∙ ap (λ n. value_at (book_of inside.form n inside.extra.now) (codes inside.packed.bytes inside.packed.width n) c.args.i) c.self.invariant.codes)
    ∙ sym (cell_there inside.form inside.count inside.presence inside.packed inside.extra.now c.args.i within (sym c.is_there.ensures ∙ c.if-is_there.true))
    ∙ ap (λ v. cell_at v c.args.i) c.self.view_is

pub returns-else-is_there : goal.returns-else-is_there
returns-else-is_there c =
    let inside = c.self.inside in
    let len = length-codes inside.packed.bytes inside.packed.width inside.count in
    let within : c.args.i < inside.count = omega (arith, len, ap (λ (v : Coded). length v.codes) c.self.view_is, c.requires) in
    sym (cell_missing inside.form inside.count inside.presence inside.packed inside.extra.now c.args.i within (sym c.is_there.ensures ∙ c.if-is_there.false))
    ∙ ap (λ v. cell_at v c.args.i) c.self.view_is
