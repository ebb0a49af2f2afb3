use Rattle.std.proofs.Common.{ap}
use Rattle.printed_lines.specs.declared.line.Deed.TheVariants as deed
use Rattle.leaf_deeds.specs.Held.{berth_of, leaf_state}
use Rattle.leaf_deeds.proofs.Moved.{does_as}
use Rattle.leaf_deeds.proofs.leaf.OneLeaf.deed.Goals as goal

pub returns-in-Start-clause-does : goal.returns-in-Start-clause-does
returns-in-Start-clause-does g c =
    let meaning = g.B.Berth.meaning in
    let then = c.start in
    does_as deed.Start c.args.deed (meaning (berth_of c.args.self)) (meaning (berth_of then.result.0)) (leaf_state c.args.self) then.new.notes then.result.1 (leaf_state then.result.0) c.in-Start.is
    then.ensures.moves then.ensures.carries then.ensures.cause then.ensures.reads

pub returns-in-Flush-clause-does : goal.returns-in-Flush-clause-does
returns-in-Flush-clause-does g c =
    let meaning = g.B.Berth.meaning in
    let then = c.flush-ending in
    does_as (deed.Flush c.in-Flush.table) c.args.deed (meaning (berth_of c.args.self)) (meaning (berth_of then.new.self)) (leaf_state c.args.self) then.new.notes then.result (leaf_state then.new.self) c.in-Flush.is
    then.ensures.moves then.ensures.carries then.ensures.cause (λ none. then.ensures.reads)

pub returns-in-Drain-clause-does : goal.returns-in-Drain-clause-does
returns-in-Drain-clause-does g c =
    let meaning = g.B.Berth.meaning in
    let then = c.drain in
    does_as (deed.Drain c.in-Drain.stop) c.args.deed (meaning (berth_of c.args.self)) (meaning (berth_of then.result.0)) (leaf_state c.args.self) then.new.notes then.result.1 (leaf_state then.result.0) c.in-Drain.is
    then.ensures.drains.moves then.ensures.drains.carries then.ensures.cause (λ none. then.ensures.drains.reads)

pub returns-in-Kill-clause-does : goal.returns-in-Kill-clause-does
returns-in-Kill-clause-does g c =
    let meaning = g.B.Berth.meaning in
    let then = c.kill in
    does_as deed.Kill c.args.deed (meaning (berth_of c.args.self)) (meaning (berth_of then.result.0)) (leaf_state c.args.self) then.new.notes then.result.1 (leaf_state then.result.0) c.in-Kill.is
    then.ensures.moves then.ensures.carries then.ensures.cause (λ none. ap (λ b. (meaning b).disk_reads) then.ensures.berth)
