use Rattle.std.proofs.Common.{sym, subst, ◌∙◌, arith}
use Rattle.column_bytes.specs.Cells.{IsCode, book_of}
use Rattle.dictionaries.proofs.Places.{length-texts}
use Rattle.dictionaries.proofs.SetParts.{length-sets}
use Rattle.column_bytes.proofs.view.last_code.Goals as goal

pub returns-in-Dictionary : goal.returns-in-Dictionary
returns-in-Dictionary c =
    let e = c.from.ensures ∙ c.text_count.ensures ∙ sym (length-texts c.args.extra.now) in
    let some = subst (λ form. IsCode (book_of form c.args.count c.args.extra.now) 0) c.in-Dictionary.is c.requires.some in
    rw c.in-Dictionary.is (omega (arith, e, some))

pub returns-in-Sets : goal.returns-in-Sets
returns-in-Sets c =
    let e = c.from-in-Sets.ensures ∙ c.set_count.ensures ∙ sym (length-sets c.args.extra.now) in
    let some = subst (λ form. IsCode (book_of form c.args.count c.args.extra.now) 0) c.in-Sets.is c.requires.some in
    rw c.in-Sets.is (omega (arith, e, some))
