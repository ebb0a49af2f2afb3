use Rattle.std.proofs.Common.{◌≡◌, ℕ, ◌<◌, List, length, slice_index, slice_index_or, pos, IfSome, sym, subst, ap, ◌∙◌, arith}
use Rattle.row_model.specs.declared.rows.Value.TheVariants as values
use Rattle.bit_columns.specs.Bits.{codes}
use Rattle.column_bytes.specs.Cells.{Coded, IsCode, IsExtra, book_of, cells_of, coded_of, integer_cells, there, value_at}
use Rattle.column_bytes.proofs.Parts.{length-codes, length-there, cells-from_integers}
use Rattle.column_bytes.proofs.view.ColumnView.integers.Goals as goal

pub fill-requires : goal.fill-requires
fill-requires c =
    let inside = c.self.inside in
    omega (arith, length-codes inside.packed.bytes inside.packed.width inside.count, ap (λ (v : Coded). length v.codes) c.self.view_is, c.requires.codes, c.self.invariant.codes)

pub fill_present-requires-clause-few : goal.fill_present-requires-clause-few
fill_present-requires-clause-few c =
    let inside = c.self.inside in
    omega (arith, length-codes inside.packed.bytes inside.packed.width inside.count, ap (λ (v : Coded). length v.codes) c.self.view_is, c.requires.present, c.self.invariant.few)

pub fill_present-requires-clause-same : goal.fill_present-requires-clause-same
fill_present-requires-clause-same c =
    let inside = c.self.inside in
    let same : inside.count ≡ length c.args.present.now
    = omega (arith, length-codes inside.packed.bytes inside.packed.width inside.count, ap (λ (v : Coded). length v.codes) c.self.view_is, c.requires.present) in
    subst (λ m. IfSome inside.presence (λ bits. bits.count ≡ m)) same c.self.invariant.presence

pub fill_values-requires-clause-extra : goal.fill_values-requires-clause-extra
fill_values-requires-clause-extra c =
    let inside = c.self.inside in
    let same : inside.count ≡ length c.fill.new.out
    = sym (ap length c.fill.ensures ∙ length-codes inside.packed.bytes inside.packed.width inside.packed.count ∙ c.self.invariant.codes) in
    subst (λ m. IsExtra inside.form m inside.extra.now) same c.self.invariant.extra

pub returns : goal.returns
returns c =
    let inside = c.self.inside in
    let n = inside.count in let form = inside.form in let packed = inside.packed in let extra = inside.extra.now in
    let out = c.fill.new.out in let written = c.fill_values.new.values in
    let coded = coded_of form n inside.presence packed extra in
    let list = codes packed.bytes packed.width n in
    let sized : length c.args.present.now ≡ n
    = omega (arith, length-codes packed.bytes packed.width n, ap (λ (v : Coded). length v.codes) c.self.view_is, c.requires.present) in
    let present_is : c.fill_present.new.present ≡ there inside.presence n = c.fill_present.ensures ∙ ap (there inside.presence) sized in
    let out_is : out ≡ list = c.fill.ensures ∙ ap (codes packed.bytes packed.width) c.self.invariant.codes in
    let each : (i : ℕ) → i < length list → IsCode (book_of form (length list) extra) (slice_index list i)
    → value_at (book_of form (length list) extra) list i ≡ values.Int (slice_index_or written i (pos 0))
    = subst (λ (xs : List ℕ). (i : ℕ) → i < length xs → IsCode (book_of form (length xs) extra) (slice_index xs i)
    → value_at (book_of form (length xs) extra) xs i ≡ values.Int (slice_index_or written i (pos 0))) out_is c.fill_values.ensures in
    let of : (i : ℕ) → i < length list → IsCode (book_of form n extra) (slice_index list i)
    → value_at (book_of form n extra) list i ≡ values.Int (slice_index_or written i (pos 0))
    = subst (λ (m : ℕ). (i : ℕ) → i < length list → IsCode (book_of form m extra) (slice_index list i)
    → value_at (book_of form m extra) list i ≡ values.Int (slice_index_or written i (pos 0))) (length-codes packed.bytes packed.width n) each in
    ap cells_of (sym c.self.view_is)
    ∙ cells-from_integers coded written c.self.invariant.each (length-there inside.presence n ∙ sym (length-codes packed.bytes packed.width n)) of
    ∙ ap (λ p. integer_cells p written) (sym present_is)
