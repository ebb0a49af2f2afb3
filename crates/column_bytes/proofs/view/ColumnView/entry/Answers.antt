use Rattle.std.proofs.Common.{◌<◌, [], length, slice_index_or, sym, ap, ◌∙◌, arith}
use Rattle.std.proofs.lemmas.List.{get_or-map, length-map}
use Rattle.row_model.specs.declared.rows.Value.TheVariants as values
use Rattle.column_bytes.specs.declared.form.Form.{Form}
use Rattle.dictionaries.specs.Dictionary.{text_count, texts_at}
use Rattle.dictionaries.specs.Sets.{sets_at, sets_part}
use Rattle.column_bytes.specs.Cells.{Coded, book_of, entries, no_value}
use Rattle.dictionaries.proofs.Places.{length-texts, texts_at_place}
use Rattle.dictionaries.proofs.SetParts.{length-sets, sets_at_place}
use Rattle.column_bytes.proofs.view.ColumnView.entry.Goals as goal

pub text_of-requires-clause-within : goal.text_of-requires-clause-within
text_of-requires-clause-within c =
    let inside = c.self.inside in
    let count = sym (length-map (texts_at inside.extra.now) values.Text ∙ length-texts inside.extra.now)
    ∙ ap (λ (f : Form). length (entries (book_of f inside.count inside.extra.now))) (sym c.in-Dictionary.is)
    ∙ ap (λ (v : Coded). length (entries v.book)) c.self.view_is in
    omega (arith, count, c.requires)

pub of-requires-clause-within : goal.of-requires-clause-within
of-requires-clause-within c =
    let inside = c.self.inside in
    let count = sym (length-map (sets_at inside.extra.now) values.Set ∙ length-sets inside.extra.now)
    ∙ ap (λ (f : Form). length (entries (book_of f inside.count inside.extra.now))) (sym c.in-Sets.is)
    ∙ ap (λ (v : Coded). length (entries v.book)) c.self.view_is in
    omega (arith, count, c.requires)

pub returns-in-Dictionary : goal.returns-in-Dictionary
returns-in-Dictionary c =
    let inside = c.self.inside in
    let code = c.args.code in
    let texts = texts_at inside.extra.now in
    let count = sym (length-map texts values.Text ∙ length-texts inside.extra.now)
    ∙ ap (λ (f : Form). length (entries (book_of f inside.count inside.extra.now))) (sym c.in-Dictionary.is)
    ∙ ap (λ (v : Coded). length (entries v.book)) c.self.view_is in
    let within : code < text_count inside.extra.now = omega (arith, count, c.requires) in
    ap values.Text (c.text_of.ensures ∙ sym (texts_at_place inside.extra.now code within))
    ∙ sym (get_or-map values.Text texts code [] no_value (omega (arith, within, length-texts inside.extra.now)))
    ∙ ap (λ (f : Form). slice_index_or (entries (book_of f inside.count inside.extra.now)) code no_value) (sym c.in-Dictionary.is)
    ∙ ap (λ (v : Coded). slice_index_or (entries v.book) code no_value) c.self.view_is

pub returns-in-Sets : goal.returns-in-Sets
returns-in-Sets c =
    let inside = c.self.inside in
    let code = c.args.code in
    let sets = sets_at inside.extra.now in
    let count = sym (length-map sets values.Set ∙ length-sets inside.extra.now)
    ∙ ap (λ (f : Form). length (entries (book_of f inside.count inside.extra.now))) (sym c.in-Sets.is)
    ∙ ap (λ (v : Coded). length (entries v.book)) c.self.view_is in
    let within : code < text_count (sets_part inside.extra.now) = omega (arith, count, c.requires) in
    ap values.Set (c.of.ensures ∙ sym (sets_at_place inside.extra.now code within))
    ∙ sym (get_or-map values.Set sets code [] no_value (omega (arith, within, length-sets inside.extra.now)))
    ∙ ap (λ (f : Form). slice_index_or (entries (book_of f inside.count inside.extra.now)) code no_value) (sym c.in-Sets.is)
    ∙ ap (λ (v : Coded). slice_index_or (entries v.book) code no_value) c.self.view_is
