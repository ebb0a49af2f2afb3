use Rattle.std.proofs.Common.{ap, sym, ◌∙◌}
use Rattle.std.proofs.lemmas.Slice.Eq.{bytes_eq-Decides}
use Rattle.dictionaries.specs.Dictionary.{with_text}
use Rattle.dictionaries.specs.Sets.{numbers_in}
use Rattle.column_bytes.proofs.SetCoding.{numbers_insert, numbers_found}
use Rattle.column_bytes.proofs.set_numbers.SetNumbers.code_of.Goals as goal

pub returns-clause-sets : goal.returns-clause-sets
returns-clause-sets c =
    ap numbers_in c.in_ok-code.ensures.keys ∙ numbers_insert c.self.inside.sets.keys c.args.numbers ∙ ap (λ seen. with_text seen c.args.numbers.items) c.self.view_is

pub returns-clause-code : goal.returns-clause-code
returns-clause-code c =
    let stored = c.in_ok-code.ensures.stored in
    numbers_found c.insert_full.new.self.keys c.in_ok-code.code stored.0 stored.1 ∙ sym ((bytes_eq-Decides c.args.numbers.items stored.0.items).0 stored.2)
