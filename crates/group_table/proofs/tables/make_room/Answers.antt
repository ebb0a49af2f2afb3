use Rattle.std.proofs.Common.{◌∙◌}
use Rattle.group_table.proofs.Laws.{joined-nil}
use Rattle.group_table.proofs.Split.{settled_all}
use Rattle.group_table.proofs.tables.make_room.Goals as goal

pub returns-clause-value : goal.returns-clause-value
returns-clause-value c = rw (c.into_inner-settled.ensures ∙ c.in_ok-join_both.ensures, c.new.ensures.items) (joined-nil _)

pub returns-clause-split : goal.returns-clause-split
returns-clause-split c = λ n q split. rw (c.into_inner-settled.ensures ∙ c.in_ok-join_both.ensures, c.new.ensures.items) (settled_all n q _ _ split)
