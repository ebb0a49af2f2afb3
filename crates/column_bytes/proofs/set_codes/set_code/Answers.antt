use Rattle.std.proofs.Common.{sym, subst}
use Rattle.leaf_model.specs.declared.lent_cells.LentValue.{LentValue}
use Rattle.leaf_model.specs.Lent.{lent_value}
use Rattle.row_model.specs.Values.{IsSet}
use Rattle.column_bytes.specs.declared.kind.Kind.TheVariants as kinds
use Rattle.column_bytes.specs.Coding.{IsOfKind}
use Rattle.dictionaries.specs.Sets.{AreSetCodes}
use Rattle.column_bytes.proofs.SetCoding.{codes_with}
use Rattle.column_bytes.proofs.set_codes.set_code.Goals as goal

pub returns-clause-held : goal.returns-clause-held
returns-clause-held c =
    let new = c.numbers_of.new.texts in
    let found = c.in_ok-numbers-in-Set.ensures in
    let is = subst (λ (value : LentValue). IsOfKind kinds.Sets (lent_value value)) c.in-Set.is c.requires.kind in
    λ held. subst (AreSetCodes new) (sym c.in_ok-code-in-Set.ensures.sets)
    (codes_with c.args.texts.now new c.args.sets.now c.in_ok-numbers-in-Set.numbers.items found.kept (found.texts held.each_text) found.numbers.0 (subst IsSet (sym found.numbers.1) is) held)
