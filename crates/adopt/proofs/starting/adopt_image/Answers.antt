use Rattle.std.proofs.Common.{Option, Result, Ok, Err, sym, ap, subst, ◌∙◌}
use Rattle.std.specs.Prelude.{IfSome}
use Rattle.std.proofs.lemmas.Result.{err_from_is_err_and}
use Rattle.region_reading.specs.declared.fault.AdoptFault.{AdoptFault}
use Rattle.adopt.specs.declared.found.ImageTables.{ImageTables}
use Rattle.adopt.specs.declared.found.Adoption.{Adoption}
use Rattle.adopt.specs.Starting.{Adopts, IsDrained, TakesAll}
use Rattle.adopt.proofs.Started.{has_tables, image_adopted, image_fails, image_none}
use Rattle.adopt.proofs.starting.adopt_image.Goals as goal

pub returns-in_err-drained-clause-told : goal.returns-in_err-drained-clause-told
returns-in_err-drained-clause-told g c =
    λ region told adopting.
    let old = (g.B.Berth.meaning c.args.berth.now).held.region in
    let new = (g.B.Berth.meaning c.take_all.new.berth).held.region in
    let p = err_from_is_err_and c.from_residual.result c.from_residual.ensures.1 in
    let is = p.1 ∙ ap Err p.2 in
    subst (λ (r : Result Adoption AdoptFault). Adopts c.args.names.now region new r) (sym is)
    (image_fails c.args.names.now region old new c.args.image adopting c.in_err-drained.field-0.0 (c.in_err-drained.ensures.told region told adopting))

pub returns-in-None-clause-told : goal.returns-in-None-clause-told
returns-in-None-clause-told g c =
    λ region told adopting.
    let old = (g.B.Berth.meaning c.args.berth.now).held.region in
    let new = (g.B.Berth.meaning c.take_all.new.berth).held.region in
    image_none c.args.names.now region old new c.args.image adopting c.requires.same (subst (λ (o : Option ImageTables). TakesAll region new (Ok o)) c.in-None.is (c.in_ok-drained.ensures.told region told adopting))

pub returns-in_err-adopted-in-Some-clause-told : goal.returns-in_err-adopted-in-Some-clause-told
returns-in_err-adopted-in-Some-clause-told g c =
    λ region told adopting.
    let new = (g.B.Berth.meaning c.take_all.new.berth).held.region in
    let p = err_from_is_err_and c.from_residual-in_err-adopted-in-Some.result c.from_residual-in_err-adopted-in-Some.ensures.1 in
    let is = p.1 ∙ ap Err p.2 in
    let took = subst (λ (o : Option ImageTables). TakesAll region new (Ok o)) c.in-Some.is (c.in_ok-drained.ensures.told region told adopting) in
    subst (λ (r : Result Adoption AdoptFault). Adopts c.args.names.now region new r) (sym is) took.1

pub returns-in_ok-adopted-in-Some-clause-told : goal.returns-in_ok-adopted-in-Some-clause-told
returns-in_ok-adopted-in-Some-clause-told g c =
    λ region told adopting.
    let new = (g.B.Berth.meaning c.take_all.new.berth).held.region in
    let drained = subst (λ names. IsDrained names c.in-Some.drained) c.requires.same (subst (λ (o : Option ImageTables). IfSome o (IsDrained c.args.image.names)) c.in-Some.is c.in_ok-drained.ensures.drained) in
    let took = subst (λ (o : Option ImageTables). TakesAll region new (Ok o)) c.in-Some.is (c.in_ok-drained.ensures.told region told adopting) in
    image_adopted c.args.names.now region new c.in-Some.drained c.in_ok-adopted-in-Some.field-0 drained c.in_ok-adopted-in-Some.ensures took

pub returns-in_ok-adopted-in-Some-clause-adopted : goal.returns-in_ok-adopted-in-Some-clause-adopted
returns-in_ok-adopted-in-Some-clause-adopted g c =
    let drained = subst (λ names. IsDrained names c.in-Some.drained) c.requires.same (subst (λ (o : Option ImageTables). IfSome o (IsDrained c.args.image.names)) c.in-Some.is c.in_ok-drained.ensures.drained) in
    has_tables c.args.names.now c.in-Some.drained c.in_ok-adopted-in-Some.field-0 drained c.in_ok-adopted-in-Some.ensures
