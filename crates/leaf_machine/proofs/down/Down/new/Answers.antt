use Rattle.std.proofs.Common.{◌≡◌, subst, sym}
use Rattle.crash_moments.specs.Left.{NamedStates}
use Rattle.leaf_table.specs.Turns.{start_of}
use Rattle.leaf_table.specs.Calls.{base_seen, name_of}
use Rattle.leaf_steward.specs.Seated.{Seated, AreFounded, AtEach, IsUnused}
use Rattle.crash_states.specs.Beginning.{MayBegin}
use Rattle.leaf_machine.proofs.DownMaking.{new_rests}
use Rattle.leaf_machine.proofs.down.Down.new.Goals as goal

pub invariant_of-result : goal.invariant_of-result
invariant_of-result g c =
    let m = g.B.Berth.meaning c.args.berth in
    let unused : AtEach (λ place t v. IsUnused t v) c.new-seats.result = subst (λ (s : Seated). AtEach (λ place t v. IsUnused t v) s) (sym c.new-seats.ensures) c.requires.unused in
    record {
      shut = λ place t v at sat. (unused place t v at sat).shut;
      stands = λ founded.
          let ready = subst (λ (s : Seated). AreFounded s → (base : NamedStates) × MayBegin base m × AtEach (λ place t v. start_of (base_seen t) ≡ base (name_of t)) s) (sym c.new-seats.ensures) c.requires.ready founded in
          let rests = new_rests c.new-seats.result ready.0 m c.sits.ensures unused ready.1 ready.2 in
          (ready.1.0, (ready.0, rests.0, rests.1, rests.2));
    }

pub returns-clause-rests : goal.returns-clause-rests
returns-clause-rests g c = λ base founded may bases.
    let m = g.B.Berth.meaning c.args.berth in
    let unused : AtEach (λ place t v. IsUnused t v) c.new-seats.result = subst (λ (s : Seated). AtEach (λ place t v. IsUnused t v) s) (sym c.new-seats.ensures) c.requires.unused in
    new_rests c.new-seats.result base m c.sits.ensures unused may bases
