use Rattle.std.proofs.Common.{rules, ◌≡◌, ℕ, ◌-◌, ◌<◌, length, sym, ap, ◌∙◌, subst, arith, w64, FitsSigned, to_z, of_z}
use Rattle.std.proofs.lemmas.Int.{to_z-of_z}
use Rattle.bit_columns.specs.Bits.{code, codes}
use Rattle.row_model.specs.declared.rows.Value.TheVariants as values
use Rattle.column_bytes.specs.declared.kind.Kind.TheVariants as kinds
use Rattle.column_bytes.specs.Cells.{Coded, IsCode, book_of, cell_at, coded_of, kind_of_book, value_at}
use Rattle.column_bytes.proofs.Parts.{length-codes, there_at, each-from_are_codes, holds_value, cell_holds, integer_kind}
use Rattle.column_bytes.proofs.view.ColumnView.next_integer.Goals as goal

pub integer_in-requires-clause-inside : goal.integer_in-requires-clause-inside
integer_in-requires-clause-inside c =
    let inside = c.self.inside in
    let len = length-codes inside.packed.bytes inside.packed.width inside.count in
    omega (arith, len, ap (λ (v : Coded). length v.codes) c.self.view_is, c.requires.inside, c.self.invariant.codes)

pub integer_in-requires-clause-kind : goal.integer_in-requires-clause-kind
integer_in-requires-clause-kind c =
    let inside = c.self.inside in let i = c.args.i in let n = c.requires.integer.0 in
    let coded = coded_of inside.form inside.count inside.presence inside.packed inside.extra.now in
    let holds = holds_value coded i (values.Int n) (ap (λ v. cell_at v i) c.self.view_is ∙ c.requires.integer.1) in
    subst (λ (m : ℕ). kind_of_book (book_of inside.form m inside.extra.now) ≡ kinds.Ints) (sym c.self.invariant.codes) (integer_kind coded.book coded.codes i n holds.is)

pub integer_in-requires-clause-code : goal.integer_in-requires-clause-code
integer_in-requires-clause-code c =
    let inside = c.self.inside in let i = c.args.i in
    let coded = coded_of inside.form inside.count inside.presence inside.packed inside.extra.now in
    let len = length-codes inside.packed.bytes inside.packed.width inside.count in
    let within : i < inside.count = omega (arith, len, ap (λ (v : Coded). length v.codes) c.self.view_is, c.requires.inside) in
    let holds = holds_value coded i (values.Int c.requires.integer.0) (ap (λ v. cell_at v i) c.self.view_is ∙ c.requires.integer.1) in
    subst (λ (m : ℕ). IsCode (book_of inside.form m inside.extra.now) (code inside.packed.bytes inside.packed.width i)) (sym c.self.invariant.codes)
    (each-from_are_codes inside.form inside.count inside.presence inside.packed inside.extra.now c.self.invariant.each i within (sym (there_at inside.presence inside.count i _ within) ∙ holds.present))

pub integer_in-requires-clause-before : goal.integer_in-requires-clause-before
integer_in-requires-clause-before c = λ some.
    let inside = c.self.inside in let i = c.args.i in
    let coded = coded_of inside.form inside.count inside.presence inside.packed inside.extra.now in
    let holds = holds_value coded (i - 1) (values.Int c.args.before) (ap (λ v. cell_at v (i - 1)) c.self.view_is ∙ c.requires.before some) in
    subst (λ (m : ℕ). value_at (book_of inside.form m inside.extra.now) (codes inside.packed.bytes inside.packed.width m) (i - 1) ≡ values.Int c.args.before) (sym c.self.invariant.codes) holds.is
    ∙ ap values.Int (sym (to_z-of_z w64 c.args.before c.ranges.before))

pub returns : goal.returns
returns c =
    let inside = c.self.inside in let i = c.args.i in
    let coded = coded_of inside.form inside.count inside.presence inside.packed inside.extra.now in
    let holds = holds_value coded i (values.Int c.requires.integer.0) (ap (λ v. cell_at v i) c.self.view_is ∙ c.requires.integer.1) in
    let fits : FitsSigned w64 c.integer_in.result = search rules in
    let value : value_at coded.book coded.codes i ≡ values.Int (to_z w64 (of_z w64 c.integer_in.result))
    = subst (λ (m : ℕ). value_at (book_of inside.form m inside.extra.now) (codes inside.packed.bytes inside.packed.width m) i ≡ values.Int c.integer_in.result) c.self.invariant.codes c.integer_in.ensures ∙ ap values.Int (sym (to_z-of_z w64 _ fits)) in
    ap (λ v. cell_at v i) (sym c.self.view_is) ∙ cell_holds coded i (values.Int (to_z w64 (of_z w64 c.integer_in.result))) holds.present value
