use Rattle.std.proofs.Common.{◌+◌, ◌*◌, sym, ap, ◌∙◌, arith}
use Rattle.dictionaries.specs.Dictionary.{lent}
use Rattle.column_bytes.proofs.Distinct.{length-lent}
use Rattle.column_bytes.proofs.JoinedTexts.{IsMade, made}
use Rattle.column_bytes.proofs.text_codes.dictionary_bytes.Goals as goal

is_made : (c : goal.In_ok-put_texts) → IsMade c.put_texts.new.out.items (lent c.args.texts.now)
is_made c =
    let texts = c.args.texts.now in
    let front = c.in_ok-bytes.bytes.items in
    let n = length-lent texts in
    let few = c.requires.few in
    made (lent texts) front c.put_texts.new.out.items (omega (arith, n)) c.requires.small c.requires.texts
    (c.in_ok-bytes.ensures.len ∙ ap (λ m. 4 + 4 * m) (sym n))
    (c.in_ok-bytes.ensures.count ∙ sym n)
    (λ k h. c.in_ok-bytes.ensures.ends k (omega (arith, n))) c.in_ok-put_texts.ensures

pub returns-clause-dictionary : goal.returns-clause-dictionary
returns-clause-dictionary c = (is_made c).is

pub returns-clause-same : goal.returns-clause-same
returns-clause-same c = (is_made c).same

pub returns-clause-small : goal.returns-clause-small
returns-clause-small c = (is_made c).small
