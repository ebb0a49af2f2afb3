use Rattle.std.proofs.Common.{◌≡◌, ◌++◌, sym, ap, subst, ◌∙◌, append_assoc, arith}
use Rattle.column_bytes.specs.Coding.{joined}
use Rattle.dictionaries.specs.Dictionary.{lent}
use Rattle.dictionaries.specs.Sets.{number_bytes, numbers_in}
use Rattle.column_bytes.proofs.Distinct.{length-lent}
use Rattle.column_bytes.proofs.SetBytes.{IsSetsMade, members_few, sets_made}
use Rattle.column_bytes.proofs.SetCoding.{length-numbers_in}
use Rattle.column_bytes.proofs.set_codes.set_dictionary_bytes.Goals as goal

pub set_ends-requires-clause-small : goal.set_ends-requires-clause-small
set_ends-requires-clause-small c =
    let most = members_few (lent c.args.texts.now) (numbers_in c.args.sets.now) c.requires.held in
    omega (arith, most, c.requires.few, length-numbers_in c.args.sets.now)

the_sets : (c : goal.After-drop-ends-2) → IsSetsMade c.put_sets.new.out.items (lent c.args.texts.now) (numbers_in c.args.sets.now)
the_sets c =
    let texts = lent c.args.texts.now in let vecs = c.args.sets.now in let sets = numbers_in vecs in
    let dict = c.in_ok-bytes.bytes.items in let front = c.in_ok-ends.ends.items in
    let count = length-numbers_in vecs in
    let spelled : c.put_sets.new.out.items ≡ dict ++ (front ++ number_bytes (joined sets))
    = c.in_ok-put_sets.ensures ∙ ap (λ b. b ++ number_bytes (joined sets)) (c.in_ok-extend_from_slice.ensures.items ∙ ap (λ e. dict ++ e) c.deref.ensures.value) ∙ append_assoc dict front (number_bytes (joined sets)) in
    subst (λ b. IsSetsMade b texts sets) (sym spelled)
    (sets_made texts sets dict front c.in_ok-bytes.ensures.dictionary c.in_ok-bytes.ensures.same c.in_ok-bytes.ensures.small c.requires.held
    (omega (arith, c.requires.few, count)) (omega (arith, c.requires.few_texts, length-lent c.args.texts.now))
    (omega (arith, c.in_ok-ends.ensures.len, count)) (c.in_ok-ends.ensures.count ∙ sym count) (λ k h. c.in_ok-ends.ensures.ends k (omega (arith, h, count))))

pub returns-clause-dictionary : goal.returns-clause-dictionary
returns-clause-dictionary c = (the_sets c).is

pub returns-clause-same : goal.returns-clause-same
returns-clause-same c = (the_sets c).same

pub returns-clause-small : goal.returns-clause-small
returns-clause-small c = (the_sets c).small
