use Rattle.std.proofs.Common.{pos, rules}
use Rattle.table_state.proofs.Ahead.{none_ahead}
use Rattle.table_state.proofs.Stood.{none_stand, none_told}
use Rattle.table_state.proofs.table.TableState.new.Goals as goal

pub invariant_of-result : goal.invariant_of-result
invariant_of-result c = (none_stand c.new.result c.new-2.result (pos 0) c.new.ensures c.new-2.ensures (search rules), none_ahead c.new.result 0 (pos 0))

pub returns : goal.returns
returns c = none_told c.new.result c.new-2.result c.new-3.result c.new.ensures c.new-2.ensures c.new-3.ensures
