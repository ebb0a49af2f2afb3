use Rattle.std.proofs.Common.{◌*◌, ◌^◌, arith}
use Rattle.group_table.proofs.Within.{joined_fit}
use Rattle.aggregator.proofs.sorting.merge_few.Goals as goal

pub merge-requires : goal.merge-requires
merge-requires c = let few = c.requires.few in joined_fit (c.args.leaves * 2 ^ 40) (2 ^ 40) c.args.mine c.args.theirs (omega (arith, few)) c.requires.mine c.requires.theirs

pub returns-clause-within : goal.returns-clause-within
returns-clause-within c = c.merge.ensures.within (c.args.leaves * 2 ^ 40) (2 ^ 40) c.requires.mine c.requires.theirs
