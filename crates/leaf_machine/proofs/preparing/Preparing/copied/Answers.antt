use Rattle.std.proofs.Common.{◌≡◌, ℕ, List, refl, sym, subst}
use Rattle.std.specs.Prelude.{Err}
use Rattle.leaf_model.specs.declared.writes.Write.{Write}
use Rattle.region_layout.specs.declared.drained.DrainTable.{DrainTable}
use Rattle.region_layout.specs.Region.{IsAdoptable}
use Rattle.region_layout.specs.Drained.{images_of}
use Rattle.drain_copy.specs.Draining.{DrainState}
use Rattle.crash_states.specs.Standing.{Runs}
use Rattle.leaf_steward.specs.Seated.{AreFounded, watched_by}
use Rattle.leaf_machine.specs.States.{Shutting, Copying, ServingGoesOn, GoesOnCopying}
use Rattle.leaf_machine.specs.Shut.{AreFewShut, AreTablesOf, drained_columns}
use Rattle.leaf_machine.specs.Prepares.{CrowdsStep, IsCopyOf}
use Rattle.leaf_machine.specs.PrepParts.{IsAllTreated}
use Rattle.leaf_machine.proofs.PrepCrowded.{crowded, crowds}
use Rattle.leaf_machine.proofs.PrepCopies.{all_names, all_treated, copied_goes, copied_is, goes_none, image_of, is_copy, names_are}
use Rattle.leaf_machine.proofs.preparing.Preparing.copied.Goals as goal

pub plan-requires-clause-names : goal.plan-requires-clause-names
plan-requires-clause-names g c =
    let x : Shutting = record { serving = record { seated = c.self.inside.seats; owing = c.self.inside.log }; closed = c.self.inside.tables.closed; waits = c.self.inside.tables.waits } in
    let m = g.B.Berth.meaning c.self.inside.berth in
    let whole : IsAllTreated x = subst (λ v. IsAllTreated v.0) (sym c.self.view_is) c.requires.all in
    let names : c.self.inside.tables.names ≡ x.serving.seated.names = all_names x c.self.inside.tables.names c.sits.ensures whole c.self.invariant.1 in
    let tables : List DrainTable = c.into_tables.result in
    let are : AreTablesOf x.serving.seated.names x.closed tables = subst (λ (l : List (List ℕ)). AreTablesOf l x.closed tables) names c.into_tables.ensures.are in
    names_are x.serving.seated.names x.closed tables are c.sits.ensures.named.each

pub invariant_of-result : goal.invariant_of-result
invariant_of-result g c =
    let x : Shutting = record { serving = record { seated = c.self.inside.seats; owing = c.self.inside.log }; closed = c.self.inside.tables.closed; waits = c.self.inside.tables.waits } in
    let m = g.B.Berth.meaning c.self.inside.berth in
    let whole : IsAllTreated x = subst (λ v. IsAllTreated v.0) (sym c.self.view_is) c.requires.all in
    let names : c.self.inside.tables.names ≡ x.serving.seated.names = all_names x c.self.inside.tables.names c.sits.ensures whole c.self.invariant.1 in
    let tables : List DrainTable = c.into_tables.result in
    let are : AreTablesOf x.serving.seated.names x.closed tables = subst (λ (l : List (List ℕ)). AreTablesOf l x.closed tables) names c.into_tables.ensures.are in
    let drain : DrainState = c.in-Ok.drain in
    let few : AreFewShut x.serving.seated (drained_columns tables) = subst (AreFewShut x.serving.seated) (sym c.into_tables.ensures.columns) c.self.invariant.3 in
    let here : IsAdoptable drain.image (images_of tables) x.serving.owing.log.end = image_of x drain tables c.end.result c.end.ensures.place c.in-Ok.ensures.image in
    copied_is x m c.self.invariant.0 c.sits.ensures whole.all whole.none drain tables are few here c.in-Ok.ensures.begins.0

pub returns-in-Ok-clause-step : goal.returns-in-Ok-clause-step
returns-in-Ok-clause-step g c =
    let x : Shutting = record { serving = record { seated = c.self.inside.seats; owing = c.self.inside.log }; closed = c.self.inside.tables.closed; waits = c.self.inside.tables.waits } in
    let m = g.B.Berth.meaning c.self.inside.berth in
    let whole : IsAllTreated x = subst (λ v. IsAllTreated v.0) (sym c.self.view_is) c.requires.all in
    let names : c.self.inside.tables.names ≡ x.serving.seated.names = all_names x c.self.inside.tables.names c.sits.ensures whole c.self.invariant.1 in
    let tables : List DrainTable = c.into_tables.result in
    let are : AreTablesOf x.serving.seated.names x.closed tables = subst (λ (l : List (List ℕ)). AreTablesOf l x.closed tables) names c.into_tables.ensures.are in
    let drain : DrainState = c.in-Ok.drain in
    let few : AreFewShut x.serving.seated (drained_columns tables) = subst (AreFewShut x.serving.seated) (sym c.into_tables.ensures.columns) c.self.invariant.3 in
    let here : IsAdoptable drain.image (images_of tables) x.serving.owing.log.end = image_of x drain tables c.end.result c.end.ensures.place c.in-Ok.ensures.image in
    let copy : Copying = record { seated = x.serving.seated; drain = drain } in (
      all_treated c.args.self.0 c.requires.all,
      refl,
      subst (λ v. IsCopyOf v.0 copy) c.self.view_is
          (is_copy x m c.self.invariant.0 c.sits.ensures whole.all whole.none drain tables are few here c.in-Ok.ensures.begins.0 c.into_tables.ensures.parts c.in-Ok.ensures.fits c.in-Ok.ensures.begins.1),
    )

pub returns-in-Ok-clause-crash : goal.returns-in-Ok-clause-crash
returns-in-Ok-clause-crash g c =
    let x : Shutting = record { serving = record { seated = c.self.inside.seats; owing = c.self.inside.log }; closed = c.self.inside.tables.closed; waits = c.self.inside.tables.waits } in
    let m = g.B.Berth.meaning c.self.inside.berth in
    let whole : IsAllTreated x = subst (λ v. IsAllTreated v.0) (sym c.self.view_is) c.requires.all in
    let names : c.self.inside.tables.names ≡ x.serving.seated.names = all_names x c.self.inside.tables.names c.sits.ensures whole c.self.invariant.1 in
    let tables : List DrainTable = c.into_tables.result in
    let are : AreTablesOf x.serving.seated.names x.closed tables = subst (λ (l : List (List ℕ)). AreTablesOf l x.closed tables) names c.into_tables.ensures.are in
    let drain : DrainState = c.in-Ok.drain in
    let few : AreFewShut x.serving.seated (drained_columns tables) = subst (AreFewShut x.serving.seated) (sym c.into_tables.ensures.columns) c.self.invariant.3 in
    let here : IsAdoptable drain.image (images_of tables) x.serving.owing.log.end = image_of x drain tables c.end.result c.end.ensures.place c.in-Ok.ensures.image in
    let copy : Copying = record { seated = x.serving.seated; drain = drain } in
    subst (λ v. AreFounded v.0.serving.seated → (writes : List ℕ → List Write) → Runs (watched_by v.0.serving.seated) v.0.serving.owing.owner v.0.serving.owing.log writes (g.B.Berth.meaning v.1)
    → GoesOnCopying v.0.serving.seated copy (g.B.Berth.meaning v.1) m) c.self.view_is
    (copied_goes x m c.self.invariant.0 c.sits.ensures whole.all whole.none drain tables are few here c.in-Ok.ensures.begins.0)

pub returns-clause-crash : goal.returns-clause-crash
returns-clause-crash g c =
    let x : Shutting = record { serving = record { seated = c.self.inside.seats; owing = c.self.inside.log }; closed = c.self.inside.tables.closed; waits = c.self.inside.tables.waits } in
    let m = g.B.Berth.meaning c.self.inside.berth in
    subst (λ v. AreFounded v.0.serving.seated → ServingGoesOn v.0.serving x.serving (g.B.Berth.meaning v.1) m) c.self.view_is (λ founded. goes_none x.serving m)

pub returns-clause-crowds : goal.returns-clause-crowds
returns-clause-crowds g c =
    let x : Shutting = record { serving = record { seated = c.self.inside.seats; owing = c.self.inside.log }; closed = c.self.inside.tables.closed; waits = c.self.inside.tables.waits } in
    let m = g.B.Berth.meaning c.self.inside.berth in
    let whole : IsAllTreated x = subst (λ v. IsAllTreated v.0) (sym c.self.view_is) c.requires.all in
    let names : c.self.inside.tables.names ≡ x.serving.seated.names = all_names x c.self.inside.tables.names c.sits.ensures whole c.self.invariant.1 in
    let tables : List DrainTable = c.into_tables.result in
    let are : AreTablesOf x.serving.seated.names x.closed tables = subst (λ (l : List (List ℕ)). AreTablesOf l x.closed tables) names c.into_tables.ensures.are in
    let few : AreFewShut x.serving.seated (drained_columns tables) = subst (AreFewShut x.serving.seated) (sym c.into_tables.ensures.columns) c.self.invariant.3 in
    subst (λ v. CrowdsStep {B = Unit {0}} v.0 (Err ((x, tt), c.from.result))) c.self.view_is
    (crowds {B = Unit {0}} x x tt tables c.in-Err.fault c.from.result c.from.ensures c.in-Err.ensures.large (crowded x m c.self.invariant.0 c.sits.ensures whole.all tables are few))
