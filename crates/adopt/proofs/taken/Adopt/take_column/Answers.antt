use Rattle.std.proofs.Common.{◌≡◌, ◌≤◌, ◌++◌, ◌∷◌, [], ℕ, List, Option, None, IsTrue, Ok, Err, rules, refl, sym, ap, subst, ◌∙◌, arith}
use Rattle.std.specs.Prelude.{length, IfSome}
use Rattle.std.proofs.lemmas.Result.{err_from_is_err_and}
use Rattle.adopt.specs.Adopting.{Adopting, AdoptsOn, BreaksNow, IsLeftBehind, IsNoImage, NextMeansCells}
use Rattle.adopt.specs.Finding.{TakesSpan}
use Rattle.adopt.specs.Taken.{AdoptState}
use Rattle.adopt.proofs.Room.{in_room}
use Rattle.adopt.proofs.Stepping.{column_fails, column_none, column_taken, held_fits, put_fails}
use Rattle.adopt.proofs.Taking.{begins_inside}
use Rattle.adopt.proofs.Tracking.{keeps_track, one_less}
use Rattle.adopt.proofs.taken.Adopt.take_column.Goals as goal

pub returns-in_err-column-clause-told : goal.returns-in_err-column-clause-told
returns-in_err-column-clause-told g c =
    let i = c.self.inside in
    let s = c.in-Some.span in
    let init = c.pop.new.self.items in
    let split : i.left.items ≡ init ++ s ∷ [] = c.in-Some.ensures.items in
    let old = (g.B.Berth.meaning c.args.berth.now).held.region in
    let new = (g.B.Berth.meaning c.take_span.new.berth).held.region in
    let p = err_from_is_err_and c.from_residual.result c.from_residual.ensures.1 in
    let is = p.1 ∙ ap Err p.2 in
    subst (λ (a : AdoptState). (region : List ℕ) → IsTrue (g.B.Berth.meaning c.args.berth.now).tells → Adopting region a old → AdoptsOn region a new c.from_residual.result) c.self.view_is
    (λ region told adopting. column_fails i.names.value i.version i.image_len i.directory i.place i.held i.left.items init s i.taken.items c.self.invariant split region old new adopting c.from_residual.result c.in_err-column.field-0.0 is (c.in_err-column.ensures.told told))

pub returns-in_default-2-clause-told : goal.returns-in_default-2-clause-told
returns-in_default-2-clause-told g c =
    let i = c.self.inside in
    let s = c.in-Some.span in
    let init = c.pop.new.self.items in
    let split : i.left.items ≡ init ++ s ∷ [] = c.in-Some.ensures.items in
    let old = (g.B.Berth.meaning c.args.berth.now).held.region in
    let new = (g.B.Berth.meaning c.take_span.new.berth).held.region in
    let none : c.in_ok-column.field-0 ≡ None = search rules in
    subst (λ (a : AdoptState). (region : List ℕ) → IsTrue (g.B.Berth.meaning c.args.berth.now).tells → Adopting region a old → BreaksNow region a × IsNoImage region × IsLeftBehind region new) c.self.view_is
    (λ region told adopting. column_none i.names.value i.version i.image_len i.directory i.place i.held i.left.items init s i.taken.items c.self.invariant split region old new adopting
    (λ closed. subst (λ (o : Option (List ℕ)). TakesSpan i.version s old new (Ok o)) none (c.in_ok-column.ensures.told told closed)))

pub overflow_add-held : goal.overflow_add-held
overflow_add-held g c =
    let i = c.self.inside in
    let s = c.in-Some.span in
    let init = c.pop.new.self.items in
    let split : i.left.items ≡ init ++ s ∷ [] = c.in-Some.ensures.items in
    let short = subst (λ (o : Option (List ℕ)). IfSome o (λ bytes. length bytes ≤ s.length)) c.in-Some-2.is c.in_ok-column.ensures.size in
    let fits = held_fits i.names.value i.directory i.place i.held (length c.in-Some-2.column) i.left.items init s _ c.self.invariant split short in
    let same = ap length c.as_slice.ensures in
    omega (arith, fits, same)

pub returns-in_err-put-clause-told : goal.returns-in_err-put-clause-told
returns-in_err-put-clause-told g c =
    let i = c.self.inside in
    let s = c.in-Some.span in
    let init = c.pop.new.self.items in
    let split : i.left.items ≡ init ++ s ∷ [] = c.in-Some.ensures.items in
    let old = (g.B.Berth.meaning c.args.berth.now).held.region in
    let new = (g.B.Berth.meaning c.take_span.new.berth).held.region in
    let p = err_from_is_err_and c.from_residual-in_err-put.result c.from_residual-in_err-put.ensures.1 in
    let is = p.1 ∙ ap Err p.2 in
    subst (λ (a : AdoptState). (region : List ℕ) → IsTrue (g.B.Berth.meaning c.args.berth.now).tells → Adopting region a old → AdoptsOn region a new c.from_residual-in_err-put.result) c.self.view_is
    (λ region told adopting. put_fails i.names.value i.version i.image_len i.directory i.place i.held i.left.items init s i.taken.items c.self.invariant split region old new adopting c.from_residual-in_err-put.result c.in-Some-2.column is (λ closed. subst (λ (o : Option (List ℕ)). TakesSpan i.version s old new (Ok o)) c.in-Some-2.is (c.in_ok-column.ensures.told told closed)))

pub invariant_of-result : goal.invariant_of-result
invariant_of-result g c =
    let i = c.self.inside in
    let s = c.in-Some.span in
    let init = c.pop.new.self.items in
    let split : i.left.items ≡ init ++ s ∷ [] = c.in-Some.ensures.items in
    let short = subst (λ (o : Option (List ℕ)). IfSome o (λ bytes. length bytes ≤ s.length)) c.in-Some-2.is c.in_ok-column.ensures.size in
    let same = c.as_slice.ensures in
    let short_now = subst (λ (l : List ℕ). length l ≤ s.length) (sym same) short in
    let put = ◌∙◌ {A = List (List ℕ)} c.in_ok-put.ensures (ap (λ (l : List ℕ). i.taken.items ++ l ∷ []) (sym same)) in
    keeps_track i.names.value i.directory i.place i.held i.left.items init s i.taken.items c.put.new.list.items c.as_slice.result.now c.self.invariant split short_now put

pub returns-clause-told : goal.returns-clause-told
returns-clause-told g c =
    let i = c.self.inside in
    let s = c.in-Some.span in
    let init = c.pop.new.self.items in
    let split : i.left.items ≡ init ++ s ∷ [] = c.in-Some.ensures.items in
    let old = (g.B.Berth.meaning c.args.berth.now).held.region in
    let new = (g.B.Berth.meaning c.take_span.new.berth).held.region in
    λ region told adopting.
    let before = subst (λ (a : AdoptState). Adopting region a old) (sym c.self.view_is) adopting in
    let count = ap (λ (a : AdoptState). a.left) c.self.view_is in
    let got = column_taken i.names.value i.version i.image_len i.directory i.place i.held i.left.items init s i.taken.items c.self.invariant split region old new before c.in-Some-2.column c.put.new.list.items _ (λ closed. subst (λ (o : Option (List ℕ)). TakesSpan i.version s old new (Ok o)) c.in-Some-2.is (c.in_ok-column.ensures.told told closed)) c.in_ok-put.ensures refl in
    (got.0, got.1 ∙ count, got.2, subst (NextMeansCells region) c.self.view_is got.3)

pub returns-clause-kept : goal.returns-clause-kept
returns-clause-kept g c =
    let i = c.self.inside in
    let split : i.left.items ≡ c.pop.new.self.items ++ c.in-Some.span ∷ [] = c.in-Some.ensures.items in
    let count = ap (λ (a : AdoptState). a.left) c.self.view_is in
    let names = ap (λ (a : AdoptState). a.names) c.self.view_is in
    (names, one_less i.left.items c.pop.new.self.items c.in-Some.span split ∙ count)

pub returns-in_err-column-clause-inside : goal.returns-in_err-column-clause-inside
returns-in_err-column-clause-inside g c =
    λ region told adopting.
    let a = g.B.Berth.meaning c.args.berth.now in
    let b = g.B.Berth.meaning c.take_span.new.berth in
    in_room c.args.self a b (begins_inside region a.held.region c.args.self adopting) (c.in_err-column.ensures.inside told)

pub returns-in_default-2-clause-inside : goal.returns-in_default-2-clause-inside
returns-in_default-2-clause-inside g c =
    λ region told adopting.
    let a = g.B.Berth.meaning c.args.berth.now in
    let b = g.B.Berth.meaning c.take_span.new.berth in
    in_room c.args.self a b (begins_inside region a.held.region c.args.self adopting) (c.in_ok-column.ensures.inside told)

pub returns-in_err-put-clause-inside : goal.returns-in_err-put-clause-inside
returns-in_err-put-clause-inside g c =
    λ region told adopting.
    let a = g.B.Berth.meaning c.args.berth.now in
    let b = g.B.Berth.meaning c.take_span.new.berth in
    in_room c.args.self a b (begins_inside region a.held.region c.args.self adopting) (c.in_ok-column.ensures.inside told)

pub returns-clause-inside : goal.returns-clause-inside
returns-clause-inside g c =
    λ region told adopting.
    let a = g.B.Berth.meaning c.args.berth.now in
    let b = g.B.Berth.meaning c.take_span.new.berth in
    in_room c.args.self a b (begins_inside region a.held.region c.args.self adopting) (c.in_ok-column.ensures.inside told)
