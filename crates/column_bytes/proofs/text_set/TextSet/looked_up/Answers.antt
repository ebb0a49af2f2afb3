use Rattle.std.proofs.Common.{ap, sym, ◌∙◌}
use Rattle.std.proofs.lemmas.Slice.Eq.{bytes_eq-Decides}
use Rattle.dictionaries.specs.Dictionary.{with_text, lent}
use Rattle.column_bytes.proofs.Distinct.{lent_insert, lent_found}
use Rattle.column_bytes.proofs.text_set.TextSet.looked_up.Goals as goal

pub returns-clause-texts : goal.returns-clause-texts
returns-clause-texts c =
    ap lent c.in_ok-code.ensures.keys ∙ lent_insert c.self.inside.texts.keys c.args.text ∙ ap (λ seen. with_text seen c.args.text.now) c.self.view_is

pub returns-clause-code : goal.returns-clause-code
returns-clause-code c =
    let stored = c.in_ok-code.ensures.stored in
    let keys = c.insert_full.new.self.keys in
    lent_found keys c.in_ok-code.code stored.0 stored.1 ∙ sym ((bytes_eq-Decides c.args.text.now stored.0.now).0 stored.2)

pub returns-clause-utf8 : goal.returns-clause-utf8
returns-clause-utf8 c = c.utf8.text
