use Rattle.std.proofs.Common.{subst}
use Rattle.leaf_table.specs.Calls.{MadeTurn}
use Rattle.leaf_table.proofs.shared.SharedTable.turn_at.Goals as goal

pub returns-clause-made : goal.returns-clause-made
returns-clause-made g c = let b = c.args.self.now.site.base in subst (λ now. MadeTurn b.name.value b.base now c.args.steward.now c.args.turn c.turn.result c.turn.new.seat) c.requires.clock c.turn.ensures.made
