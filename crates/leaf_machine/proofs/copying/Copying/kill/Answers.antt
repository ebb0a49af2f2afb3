use Rattle.std.proofs.Common.{refl, sym, subst}
use Rattle.crash_states.specs.Standing.{Copies}
use Rattle.leaf_steward.specs.Seated.{watched_by}
use Rattle.leaf_machine.specs.States.{RestsOn}
use Rattle.leaf_machine.proofs.CopyStepping.{copy_left, copied_down}
use Rattle.leaf_machine.proofs.copying.Copying.kill.Goals as goal
use Rattle.berth_face.proofs.Moments.{passes_none}

pub invariant_of-result : goal.invariant_of-result
invariant_of-result g c =
    let x = c.self.inside.seats in
    let m = g.B.Berth.meaning c.self.inside.berth in
    copied_down x c.self.inside.drain m m x c.self.invariant (passes_none m) refl c.self.invariant.shut (λ tells founded writes copies. copy_left x c.self.inside.drain m writes copies)

pub returns-clause-crash : goal.returns-clause-crash
returns-clause-crash g c =
    λ writes founded copies_now.
    let inside = c.self.inside in
    let m = g.B.Berth.meaning inside.berth in
    let copies : Copies (watched_by inside.seats) inside.drain writes m = subst (λ v. Copies (watched_by v.0.seated) v.0.drain writes (g.B.Berth.meaning v.1)) (sym c.self.view_is) copies_now in
    subst (λ v. RestsOn v.0.seated inside.seats (g.B.Berth.meaning v.1) m) c.self.view_is (copy_left inside.seats inside.drain m writes copies)
