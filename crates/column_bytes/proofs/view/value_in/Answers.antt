use Rattle.std.proofs.Common.{rules, ◌<◌, ◌+ℤ◌, pos, slice_index_or, [], sym, ap, ap₂, ◌∙◌, subst, arith, w64, FitsSigned}
use Rattle.std.proofs.lemmas.Int.{to_z-of_z}
use Rattle.bit_columns.specs.Bits.{code}
use Rattle.row_model.specs.declared.rows.Value.TheVariants as values
use Rattle.dictionaries.specs.Dictionary.{text_count, texts_at}
use Rattle.column_bytes.specs.declared.form.Form.{Form}
use Rattle.column_bytes.specs.Cells.{IsCode, book_of}
use Rattle.dictionaries.proofs.Places.{length-texts, texts_at_place}
use Rattle.column_bytes.proofs.Parts.{codes_at}
use Rattle.dictionaries.specs.Sets.{sets_at, sets_part}
use Rattle.dictionaries.proofs.SetParts.{length-sets, sets_at_place}
use Rattle.column_bytes.proofs.view.value_in.Goals as goal

pub text_of-requires-clause-within : goal.text_of-requires-clause-within
text_of-requires-clause-within c =
    let packed = c.args.packed.now in let extra = c.args.extra.now in
    let below = subst (λ (f : Form). IsCode (book_of f packed.count extra) (code packed.bytes packed.width c.args.i)) c.in-Dictionary.is c.requires.code in
    omega (arith, c.get-in-Dictionary.ensures.code, length-texts extra, below)

pub returns-in-Offset : goal.returns-in-Offset
returns-in-Offset c =
    let packed = c.args.packed.now in let extra = c.args.extra.now in let i = c.args.i in
    let fits : FitsSigned w64 c.offset_value.result = search rules in
    let base : FitsSigned w64 c.i64_at.result = search rules in
    rw c.in-Offset.is (ap values.Int (to_z-of_z w64 _ fits ∙ c.offset_value.ensures
    ∙ ap₂ (λ n code. n +ℤ pos code) (to_z-of_z w64 _ base ∙ c.i64_at.ensures) (c.get.ensures.code ∙ sym (codes_at packed.bytes packed.width packed.count i c.requires.inside))))

pub returns-in-Dictionary : goal.returns-in-Dictionary
returns-in-Dictionary c =
    let packed = c.args.packed.now in let extra = c.args.extra.now in let i = c.args.i in
    let below = subst (λ (f : Form). IsCode (book_of f packed.count extra) (code packed.bytes packed.width i)) c.in-Dictionary.is c.requires.code in
    let within : c.get-in-Dictionary.result < text_count extra = omega (arith, c.get-in-Dictionary.ensures.code, length-texts extra, below) in
    rw c.in-Dictionary.is (ap values.Text (c.text_of.ensures ∙ sym (texts_at_place extra c.get-in-Dictionary.result within)
    ∙ ap (λ k. slice_index_or (texts_at extra) k []) (c.get-in-Dictionary.ensures.code ∙ sym (codes_at packed.bytes packed.width packed.count i c.requires.inside))))

pub of-requires-clause-within : goal.of-requires-clause-within
of-requires-clause-within c =
    let packed = c.args.packed.now in let extra = c.args.extra.now in let i = c.args.i in
    let below = subst (λ (f : Form). IsCode (book_of f packed.count extra) (code packed.bytes packed.width i)) c.in-Sets.is c.requires.code in
    omega (arith, c.get-in-Sets.ensures.code, length-sets extra, below)

pub returns-in-Sets : goal.returns-in-Sets
returns-in-Sets c =
    let packed = c.args.packed.now in let extra = c.args.extra.now in let i = c.args.i in
    let below = subst (λ (f : Form). IsCode (book_of f packed.count extra) (code packed.bytes packed.width i)) c.in-Sets.is c.requires.code in
    let within : c.get-in-Sets.result < text_count (sets_part extra) = omega (arith, c.get-in-Sets.ensures.code, length-sets extra, below) in
    rw c.in-Sets.is (ap values.Set (c.of.ensures ∙ sym (sets_at_place extra c.get-in-Sets.result within)
    ∙ ap (λ k. slice_index_or (sets_at extra) k []) (c.get-in-Sets.ensures.code ∙ sym (codes_at packed.bytes packed.width packed.count i c.requires.inside))))
