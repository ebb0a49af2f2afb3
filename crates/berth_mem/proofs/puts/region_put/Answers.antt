use Rattle.std.proofs.Common.{rules}
use Rattle.berth_mem.proofs.puts.region_put.Goals as goal

pub returns-clause-call : goal.returns-clause-call
returns-clause-call c = (c.in_ok-wrote.wrote, c.in_ok-wrote.ensures c.args.bytes.now (search rules), search rules)
