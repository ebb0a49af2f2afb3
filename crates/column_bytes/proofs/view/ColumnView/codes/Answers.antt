use Rattle.std.proofs.Common.{◌≡◌, ℕ, List, false, length, slice_index, slice_index_or, IfSome, sym, subst, ap, ap₂, ◌∙◌, arith}
use Rattle.bit_columns.specs.Bits.{codes}
use Rattle.column_bytes.specs.Cells.{Coded, AreCodes, IsCode, entries, entry_cells, there}
use Rattle.column_bytes.proofs.Parts.{length-codes, cells-from_entries, below-from_entries}
use Rattle.column_bytes.proofs.view.ColumnView.codes.Goals as goal

pub fill-requires : goal.fill-requires
fill-requires c =
    let inside = c.self.inside in
    omega (arith, length-codes inside.packed.bytes inside.packed.width inside.count, ap (λ (v : Coded). length v.codes) c.self.view_is, c.requires.codes, c.self.invariant.codes)

pub fill_present-requires-clause-few : goal.fill_present-requires-clause-few
fill_present-requires-clause-few c =
    let inside = c.self.inside in
    omega (arith, length-codes inside.packed.bytes inside.packed.width inside.count, ap (λ (v : Coded). length v.codes) c.self.view_is, c.requires.present, c.self.invariant.few)

pub fill_present-requires-clause-same : goal.fill_present-requires-clause-same
fill_present-requires-clause-same c =
    let inside = c.self.inside in
    let same : inside.count ≡ length c.args.present.now
    = omega (arith, length-codes inside.packed.bytes inside.packed.width inside.count, ap (λ (v : Coded). length v.codes) c.self.view_is, c.requires.present) in
    subst (λ m. IfSome inside.presence (λ bits. bits.count ≡ m)) same c.self.invariant.presence

pub returns-clause-cells : goal.returns-clause-cells
returns-clause-cells c =
    let inside = c.self.inside in
    let coded = c.args.self.now in
    let sized : length c.args.present.now ≡ inside.count
    = omega (arith, length-codes inside.packed.bytes inside.packed.width inside.count, ap (λ (v : Coded). length v.codes) c.self.view_is, c.requires.present) in
    let present : c.fill_present.new.present ≡ coded.present
    = c.fill_present.ensures ∙ ap (there inside.presence) sized ∙ ap (λ (v : Coded). v.present) c.self.view_is in
    let list : c.fill.new.out ≡ coded.codes
    = c.fill.ensures ∙ ap (codes inside.packed.bytes inside.packed.width) c.self.invariant.codes ∙ ap (λ (v : Coded). v.codes) c.self.view_is in
    cells-from_entries coded c.requires.kind (subst AreCodes c.self.view_is c.self.invariant.each) ∙ ap₂ (entry_cells (entries coded.book)) (sym present) (sym list)

pub returns-clause-below : goal.returns-clause-below
returns-clause-below c = λ i h there_is.
    let inside = c.self.inside in
    let coded = c.args.self.now in
    let sized : length c.args.present.now ≡ inside.count
    = omega (arith, length-codes inside.packed.bytes inside.packed.width inside.count, ap (λ (v : Coded). length v.codes) c.self.view_is, c.requires.present) in
    let present : c.fill_present.new.present ≡ coded.present
    = c.fill_present.ensures ∙ ap (there inside.presence) sized ∙ ap (λ (v : Coded). v.present) c.self.view_is in
    let list : c.fill.new.out ≡ coded.codes
    = c.fill.ensures ∙ ap (codes inside.packed.bytes inside.packed.width) c.self.invariant.codes ∙ ap (λ (v : Coded). v.codes) c.self.view_is in
    let are : AreCodes coded = subst AreCodes c.self.view_is c.self.invariant.each in
    let code = are i h (ap (λ p. slice_index_or p i false) (sym present) ∙ there_is) in
    below-from_entries coded.book (slice_index c.fill.new.out i) c.requires.kind (subst (λ (xs : List ℕ). IsCode coded.book (slice_index xs i)) (sym list) code)
