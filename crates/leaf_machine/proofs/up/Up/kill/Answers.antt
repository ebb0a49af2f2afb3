use Rattle.std.proofs.Common.{subst, sym, arith}
use Rattle.crash_states.specs.Standing.{Runs}
use Rattle.leaf_steward.specs.Seated.{AreFounded, watched_by}
use Rattle.leaf_machine.specs.States.{Serving, RestsOn}
use Rattle.leaf_machine.proofs.Kills.{kill_rests, kill_down}
use Rattle.leaf_machine.proofs.up.Up.kill.Goals as goal

pub invariant_of-result : goal.invariant_of-result
invariant_of-result g c =
    let x : Serving = record { seated = c.self.inside.seats; owing = c.self.inside.log } in
    kill_down _ x c.shut_rest.new.self (g.B.Berth.meaning c.self.inside.berth) c.shut_rest.new.notes c.sits.ensures c.shut_rest.ensures.made (λ place t v at sat lower. absurd (omega (arith, lower))) c.shut_rest.ensures.each
    c.self.invariant.stands c.shut_rest.ensures.shut c.shut_rest.ensures.before

pub returns-clause-crash : goal.returns-clause-crash
returns-clause-crash g c = λ writes founded runs.
    let x : Serving = record { seated = c.self.inside.seats; owing = c.self.inside.log } in
    subst (λ s. RestsOn s.0.seated c.shut_rest.new.self (g.B.Berth.meaning s.1) (g.B.Berth.meaning c.self.inside.berth)) c.self.view_is
    (kill_rests _ x c.shut_rest.new.self (g.B.Berth.meaning c.self.inside.berth) c.shut_rest.new.notes c.sits.ensures c.shut_rest.ensures.made (λ place t v at sat lower. absurd (omega (arith, lower))) c.shut_rest.ensures.each
    writes (subst (λ s. AreFounded s.0.seated) (sym c.self.view_is) founded)
    (subst (λ s. Runs (watched_by s.0.seated) s.0.owing.owner s.0.owing.log writes (g.B.Berth.meaning s.1)) (sym c.self.view_is) runs))
