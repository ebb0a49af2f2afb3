use Rattle.std.proofs.Common.{rules}
use Rattle.std.proofs.lemmas.List.{length-map}
use Rattle.rollover_watch.proofs.Tellings.{telling_begins, telling_ends, stays_here, halts_here, leaves_here}
use Rattle.rollover_watch.proofs.telling.tell_all.Goals as goal

pub loop-place-init : goal.loop-place-init
loop-place-init g c = telling_begins c.args.event.now _

pub loop-place-preserved-in-Stay : goal.loop-place-preserved-in-Stay
loop-place-preserved-in-Stay g c =
    stays_here _ c.args.event.now _ c.loop-place.watches.items c.loop-place.place c.loop-place.halted c.index_mut.result.now _ c.loop-place.invariant (search rules) c.index_mut.ensures.value (search rules) (search rules)

pub loop-place-preserved-in-Leave : goal.loop-place-preserved-in-Leave
loop-place-preserved-in-Leave g c =
    leaves_here _ c.args.event.now _ c.loop-place.watches.items c.loop-place.place c.loop-place.halted c.index_mut.result.now c.tell.new.watch c.loop-place.invariant (search rules) c.index_mut.ensures.value (search rules) _ (search rules)

pub loop-place-preserved : goal.loop-place-preserved
loop-place-preserved g c =
    halts_here _ c.args.event.now _ c.loop-place.watches.items c.loop-place.place c.loop-place.halted c.index_mut.result.now _ c.loop-place.invariant (search rules) c.index_mut.ensures.value (search rules) (search rules)

pub returns-clause-told : goal.returns-clause-told
returns-clause-told g c =
    (telling_ends c.args.event.now _ _ c.loop-place.place c.loop-place.halted c.loop-place.invariant (search (rules, length-map))).0

pub returns-clause-halt : goal.returns-clause-halt
returns-clause-halt g c =
    (telling_ends c.args.event.now _ _ c.loop-place.place c.loop-place.halted c.loop-place.invariant (search (rules, length-map))).1
