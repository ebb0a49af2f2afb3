use Rattle.std.proofs.Common.{◌≤◌, length, sym, subst}
use Rattle.leaf_model.specs.declared.lent_cells.LentValue.{LentValue}
use Rattle.leaf_model.specs.Lent.{lent_value}
use Rattle.column_bytes.specs.declared.kind.Kind.TheVariants as kinds
use Rattle.column_bytes.specs.Coding.{IsOfKind}
use Rattle.dictionaries.specs.Dictionary.{AreTexts}
use Rattle.column_bytes.proofs.Distinct.{texts_with}
use Rattle.column_bytes.proofs.text_codes.value_code.Goals as goal

pub returns-clause-texts : goal.returns-clause-texts
returns-clause-texts c =
    let text = c.in-Text.text.now in
    let short : length text ≤ 65535 = subst (λ (value : LentValue). IsOfKind kinds.Texts (lent_value value)) c.in-Text.is c.requires in
    λ are. subst AreTexts (sym c.in_ok-code-in-Text.ensures.texts) (texts_with c.args.set.now text are (record { utf8 = c.code_of.ensures.utf8; short = short }))
