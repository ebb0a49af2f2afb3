use Rattle.std.proofs.Common.{length, sym, ap, ◌∙◌}
use Rattle.std.proofs.lemmas.List.{length-map}
use Rattle.row_model.specs.declared.rows.Value.TheVariants as values
use Rattle.column_bytes.specs.declared.form.Form.{Form}
use Rattle.dictionaries.specs.Dictionary.{texts_at}
use Rattle.dictionaries.specs.Sets.{sets_at}
use Rattle.column_bytes.specs.Cells.{Coded, book_of, entries}
use Rattle.dictionaries.proofs.Places.{length-texts}
use Rattle.dictionaries.proofs.SetParts.{length-sets}
use Rattle.column_bytes.proofs.view.ColumnView.entries.Goals as goal

pub returns-in-Dictionary : goal.returns-in-Dictionary
returns-in-Dictionary c =
    let inside = c.self.inside in
    c.text_count.ensures ∙ sym (length-map (texts_at inside.extra.now) values.Text ∙ length-texts inside.extra.now)
    ∙ ap (λ (f : Form). length (entries (book_of f inside.count inside.extra.now))) (sym c.in-Dictionary.is)
    ∙ ap (λ (v : Coded). length (entries v.book)) c.self.view_is

pub returns-in-Sets : goal.returns-in-Sets
returns-in-Sets c =
    let inside = c.self.inside in
    c.set_count.ensures ∙ sym (length-map (sets_at inside.extra.now) values.Set ∙ length-sets inside.extra.now)
    ∙ ap (λ (f : Form). length (entries (book_of f inside.count inside.extra.now))) (sym c.in-Sets.is)
    ∙ ap (λ (v : Coded). length (entries v.book)) c.self.view_is
