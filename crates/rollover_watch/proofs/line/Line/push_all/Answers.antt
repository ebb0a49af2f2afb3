use Rattle.std.proofs.Common.{rules}
use Rattle.rollover_watch.proofs.Cuts.{one_more_fits, all_that_fits}
use Rattle.rollover_watch.proofs.line.Line.push_all.Goals as goal

pub loop-byte-preserved : goal.loop-byte-preserved
loop-byte-preserved c = record {
  so_far = one_more_fits c.args.self.now _ c.loop-byte.byte-index c.loop-byte.invariant.room c.loop-byte-test.true c.loop-byte.self c.loop-byte.invariant.so_far _ c.push.ensures;
  room = search rules;
  printable = search rules;
}

pub returns : goal.returns
returns c =
    all_that_fits c.args.self.now c.args.text.now c.self.inside.bytes c.self.inside.len c.self.view_is c.self.invariant.short c.self.told
    c.min.result c.min.ensures c.loop-byte.byte-index c.loop-byte-test.false c.loop-byte.self c.loop-byte.invariant.so_far
