use Rattle.std.proofs.Common.{◌≡◌, ◌<◌, ℕ, length, sym, subst, arith}
use Rattle.leaf_table.specs.Calls.{SeesShut}
use Rattle.crash_states.specs.Standing.{Runs}
use Rattle.leaf_steward.specs.Seated.{AreFounded, AreSeated, AtEach, watched_by}
use Rattle.leaf_machine.specs.States.{RestsOn, Shutting}
use Rattle.leaf_machine.proofs.Kills.{kill_down, kill_rests}
use Rattle.leaf_machine.proofs.preparing.Preparing.kill.Goals as goal

pub invariant_of-result : goal.invariant_of-result
invariant_of-result g c =
    let x : Shutting = record { serving = record { seated = c.self.inside.seats; owing = c.self.inside.log }; closed = c.self.inside.tables.closed; waits = c.self.inside.tables.waits } in
    let m = g.B.Berth.meaning c.self.inside.berth in
    let first : ℕ = c.first_open-first.result in
    let sits : AreSeated x.serving.seated = subst (λ v. AreSeated v.0.serving.seated) (sym c.self.view_is) c.first_open-first.ensures.seated in
    let here : first ≡ length x.closed = subst (λ v. first ≡ length v.0.closed) (sym c.self.view_is) c.first_open-first.ensures.place in
    let says = c.shut_rest.ensures in
    let closed : AtEach (λ place t v. place < first → SeesShut t v) x.serving.seated = λ place t v at was before. (c.self.invariant.0.closed_are place t v at was (omega (arith, before, here))).shut in
    kill_down first x.serving c.shut_rest.new.self m c.shut_rest.new.notes sits says.made closed says.each c.self.invariant.0.stands says.shut says.before

pub returns-clause-crash : goal.returns-clause-crash
returns-clause-crash g c = λ writes.
    let x : Shutting = record { serving = record { seated = c.self.inside.seats; owing = c.self.inside.log }; closed = c.self.inside.tables.closed; waits = c.self.inside.tables.waits } in
    let m = g.B.Berth.meaning c.self.inside.berth in
    let first : ℕ = c.first_open-first.result in
    let sits : AreSeated x.serving.seated = subst (λ v. AreSeated v.0.serving.seated) (sym c.self.view_is) c.first_open-first.ensures.seated in
    let here : first ≡ length x.closed = subst (λ v. first ≡ length v.0.closed) (sym c.self.view_is) c.first_open-first.ensures.place in
    let says = c.shut_rest.ensures in
    let y = c.shut_rest.new.self in
    let closed : AtEach (λ place t v. place < first → SeesShut t v) x.serving.seated = λ place t v at was before. (c.self.invariant.0.closed_are place t v at was (omega (arith, before, here))).shut in
    subst (λ v. AreFounded v.0.serving.seated → Runs (watched_by v.0.serving.seated) v.0.serving.owing.owner v.0.serving.owing.log writes (g.B.Berth.meaning v.1) → RestsOn v.0.serving.seated y (g.B.Berth.meaning v.1) m)
    c.self.view_is (kill_rests first x.serving y m c.shut_rest.new.notes sits says.made closed says.each writes)
