use Rattle.std.proofs.Common.{◌≡◌, ◌+◌, ◌++◌, ◌≤◌, ◌∷◌, [], length, refl, sym, ap, subst, ◌∙◌, arith, append_assoc, append-nil, rules}
use Rattle.std.specs.List.{AllByRecursion}
use Rattle.script_text.specs.Fits.{TellAbove, declared_by, declared_in}
use Rattle.script_text.specs.declared.fleet.FleetShape.{FleetShape}
use Rattle.transcript_standing.specs.Followed.{AreFollowers}
use Rattle.play.specs.Standing.{MayRun}
use Rattle.lane_play.proofs.Held.{pass_on}
use Rattle.play.proofs.Plays.{not_nil, run_as, run_goes_on, run_stops}
use Rattle.play.proofs.berths.play_all.Goals as goal

pub loop-item-init : goal.loop-item-init
loop-item-init g c =
    let fleet = c.args.crew.now.fleet in
    let none : c.new-followers.result.list.items ≡ [] = c.new-followers.ensures in
    let all : c.from_vec-rest.result.items ≡ c.args.items.items = c.from_vec-rest.ensures.items in
    let few : declared_in c.from_vec-rest.result.items ≤ 16 = subst (λ is. declared_in is ≤ 16) (sym all) c.requires.few in (
      [],
      all,
      run_as refl none c.requires.begun,
      refl,
      subst (AllByRecursion (MayRun fleet)) (sym all) c.requires.may_play,
      omega arith,
      c.requires.all,
      (λ start. refl),
      subst (AreFollowers fleet) (sym none) tt,
      subst (λ fs. TellAbove (length fs) c.from_vec-rest.result.items) (sym none) (subst (TellAbove 0) (sym all) c.requires.told),
      subst (λ fs. length fs + declared_in c.from_vec-rest.result.items ≤ 16) (sym none) (omega (arith, few)),
    )

pub loop-item-preserved : goal.loop-item-preserved
loop-item-preserved g c =
    let inv = c.loop-item.invariant in
    let rest = c.pop_front.new.self.items in
    let fleet = c.args.crew.now.fleet in
    let items : c.loop-item.rest.items ≡ c.in-Some.item ∷ rest = c.in-Some.ensures.items in
    let told : TellAbove (length c.loop-item.followers.list.items) (c.in-Some.item ∷ rest) = subst (TellAbove (length c.loop-item.followers.list.items)) items inv.9 in
    let few : length c.loop-item.followers.list.items + (declared_by c.in-Some.item + declared_in rest) ≤ 16 = subst (λ is. length c.loop-item.followers.list.items + declared_in is ≤ 16) items inv.10 in
    let count : length c.play_next.new.followers.list.items ≡ length c.loop-item.followers.list.items + declared_by c.in-Some.item = c.in-Ok.ensures.count in
    let may : AllByRecursion (MayRun fleet) (c.in-Some.item ∷ rest) = subst (AllByRecursion (MayRun fleet)) items inv.4 in (
      inv.0 ++ c.in-Some.item ∷ [],
      append_assoc inv.0 (c.in-Some.item ∷ []) rest ∙ (ap (λ r. inv.0 ++ r) (sym items) ∙ inv.1),
      run_goes_on inv.2 inv.3 c.in-Ok.ensures.played c.play_next.ensures.time inv.8,
      c.play_next.ensures.fleet ∙ inv.3,
      may.1,
      omega (arith, inv.5, c.play_next.ensures.later),
      c.play_next.ensures.all,
      (λ none. absurd (not_nil inv.0 c.in-Some.item none)),
      subst (λ (f : FleetShape). AreFollowers f c.play_next.new.followers.list.items) inv.3 c.play_next.ensures.followers,
      subst (λ n. TellAbove n rest) (sym count) told.1,
      omega (arith, count, few),
    )

pub returns-in-Err-Failed-clause-time : goal.returns-in-Err-Failed-clause-time
returns-in-Err-Failed-clause-time g c = pass_on g.B.Berth.meaning c.args.crew.now.holds c.loop-item.crew.holds c.play_next.new.crew.holds c.loop-item.invariant.2.has.time c.play_next.ensures.time

pub returns-in-Err-NoMemory-clause-time : goal.returns-in-Err-NoMemory-clause-time
returns-in-Err-NoMemory-clause-time g c = pass_on g.B.Berth.meaning c.args.crew.now.holds c.loop-item.crew.holds c.play_next.new.crew.holds c.loop-item.invariant.2.has.time c.play_next.ensures.time

pub returns-in-Err-Failed-clause-short : goal.returns-in-Err-Failed-clause-short
returns-in-Err-Failed-clause-short g c =
    let inv = c.loop-item.invariant in
    run_stops inv.2 inv.7 inv.1 c.in-Some.ensures.items c.play_next.ensures.time inv.3 inv.8 c.in-Err-Failed.ensures.stops

pub returns-in-Err-NoMemory-clause-short : goal.returns-in-Err-NoMemory-clause-short
returns-in-Err-NoMemory-clause-short g c =
    let inv = c.loop-item.invariant in
    run_stops inv.2 inv.7 inv.1 c.in-Some.ensures.items c.play_next.ensures.time inv.3 inv.8 c.in-Err-NoMemory.ensures.stops

pub returns-clause-done : goal.returns-clause-done
returns-clause-done g c = λ e.
    let inv = c.loop-item.invariant in
    let none : c.loop-item.rest.items ≡ [] = search rules in
    (c.loop-item.followers.list.items, run_as (sym inv.1 ∙ (ap (λ r. inv.0 ++ r) none ∙ append-nil inv.0)) refl inv.2)

pub returns-clause-time : goal.returns-clause-time
returns-clause-time g c = c.loop-item.invariant.2.has.time
