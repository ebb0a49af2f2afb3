use Rattle.std.proofs.Common.{List, sym, subst, Err}
use Rattle.std.specs.Prelude.{Result}
use Rattle.std.proofs.lemmas.Result.{err_from_is_err_and}
use Rattle.leaf_model.specs.declared.writes.Write.{Write}
use Rattle.table_state.specs.declared.fault.AddFault.{AddFault}
use Rattle.table_state.specs.Tables.{columns_most}
use Rattle.log_recovery.specs.Applying.{ReplaysAll}
use Rattle.log_recovery.proofs.Replaying.{Replayed, replayed_more, replayed_err}
use Rattle.log_recovery.proofs.Counting.{replayed_few}
use Rattle.log_recovery.proofs.apply.replay_all.Goals as goal

pub loop-write-preserved : goal.loop-write-preserved
loop-write-preserved c =
    let from = c.args.table.now in
    let all = c.args.writes.items in
    let rest = c.pop_front.new.self.items in
    let so_far = subst (λ (l : List Write). Replayed from all l c.loop-write.table) c.in-Some.ensures.items c.loop-write.invariant.replayed in
    record {
      replayed = replayed_more from all rest c.in-Some.write c.loop-write.table so_far c.replay.new.self c.in_ok-replay.ensures.does.0 c.in_ok-replay.ensures.does.1;
      columns = replayed_few all rest c.loop-write.rest.items c.in-Some.write (columns_most from.store) (columns_most c.loop-write.table.store) (columns_most c.replay.new.self.store) c.loop-write.invariant.columns c.in-Some.ensures.items c.in_ok-replay.ensures.columns;
    }

pub returns-in_err-replay-clause-does : goal.returns-in_err-replay-clause-does
returns-in_err-replay-clause-does c =
    let from = c.args.table.now in
    let all = c.args.writes.items in
    let rest = c.pop_front.new.self.items in
    let now = c.replay.new.self in
    let so_far = subst (λ (l : List Write). Replayed from all l c.loop-write.table) c.in-Some.ensures.items c.loop-write.invariant.replayed in
    let p = err_from_is_err_and c.from_residual.result c.from_residual.ensures.1 in
    let here = replayed_err from all rest c.in-Some.write c.loop-write.table so_far c.in_err-replay.field-0.0 now c.in_err-replay.ensures.does in
    let told = subst (λ (fault : AddFault). ReplaysAll from all (Err fault) now) (sym p.2) here in
    subst (λ (r : Result (Unit {0}) AddFault). ReplaysAll from all r now) (sym p.1) told
