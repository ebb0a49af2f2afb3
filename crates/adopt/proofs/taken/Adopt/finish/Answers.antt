use Rattle.std.proofs.Common.{ℕ, List, subst}
use Rattle.std.specs.Prelude.{Contains}
use Rattle.std.specs.List.{AllByRecursion}
use Rattle.region_layout.specs.declared.directory.TablePlaces.{TablePlaces}
use Rattle.adopt.specs.Finishing.{FinishesAs}
use Rattle.region_reading.specs.Reading.{IsRead}
use Rattle.adopt.specs.Taken.{AdoptState}
use Rattle.adopt.proofs.Finished.{are_adopted, finishes}
use Rattle.adopt.proofs.taken.Adopt.finish.Goals as goal

pub returns-clause-told : goal.returns-clause-told
returns-clause-told c =
    λ region now adopting.
    finishes region now c.args.self adopting c.requires.none c.finished.result
    (subst (λ (a : AdoptState). FinishesAs a.directory a.heap c.finished.result) c.self.view_is
    (subst (λ (l : List (List ℕ)). FinishesAs c.self.inside.directory l c.finished.result) c.reverse.ensures.items c.finished.ensures))

pub returns-clause-adopted : goal.returns-clause-adopted
returns-clause-adopted c =
    are_adopted c.args.self.names c.args.self.directory c.self.inside.place c.args.self.heap c.finished.result
    (subst (λ (a : AdoptState). IsRead c.self.inside.place a.directory) c.self.view_is c.self.invariant.read)
    (subst (λ (a : AdoptState). AllByRecursion (λ (t : TablePlaces). Contains a.names t.name) a.directory.tables) c.self.view_is c.self.invariant.known)
    (subst (λ (a : AdoptState). FinishesAs a.directory a.heap c.finished.result) c.self.view_is
    (subst (λ (l : List (List ℕ)). FinishesAs c.self.inside.directory l c.finished.result) c.reverse.ensures.items c.finished.ensures))
