use Rattle.std.proofs.Common.{ap, sym, ◌∙◌}
use Rattle.std.proofs.lemmas.Result.{IfOk-weaker}
use Rattle.standing_query.specs.Spread.{back, rows_shown}
use Rattle.leaf_model.specs.Groups.{groups}
use Rattle.standing_query.specs.Parts.{all_joined}
use Rattle.standing_query.proofs.Going.{err_of, none_told, some_told}
use Rattle.standing_query.proofs.Held.{parts_told}
use Rattle.standing_query.proofs.told.tell.Goals as goal

pub returns-then-are_empty-clause-value : goal.returns-then-are_empty-clause-value
returns-then-are_empty-clause-value c = c.of.ensures ∙ c.new.ensures.items ∙ ap (back c.args.query.now) (sym (none_told c.args.parts.now (sym c.if-are_empty.ensures)))

pub returns-clause-value : goal.returns-clause-value
returns-clause-value c =
    IfOk-weaker c.told_parts.result _ _
    (λ gs is. is ∙ parts_told c.args.query.now c.args.names.now c.args.parts.now ∙ ap (λ names. groups c.args.query.now (rows_shown names (all_joined c.args.parts.now))) c.requires.names)
    c.told_parts.ensures

pub returns-clause-memory : goal.returns-clause-memory
returns-clause-memory c = err_of c.told_parts.result (some_told c.args.parts.now (sym c.if-are_empty.ensures))
