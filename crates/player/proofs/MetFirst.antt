-- The steward's seats and the callers' meet one after another.
use Rattle.std.proofs.Common.{◌≡◌, ◌≢◌, ◌⊎◌, inl, inr, ⊎_elim, ℕ, ◌+◌, ◌<◌, ◌≤◌, List, length, Option, Some, None, refl, sym, ap, subst, ◌∙◌, arith, length-set}
use Rattle.std.specs.Prelude.{slice_get, slice_set}
use Rattle.std.proofs.lemmas.Bool.{cases_eq}
use Rattle.std.proofs.lemmas.Option.{slice_get_within}
use Rattle.berth_face.specs.Berth.{Meaning}
use Rattle.crash_moments.specs.Left.{NamedStates}
use Rattle.leaf_table.specs.Calls.{SeatView}
use Rattle.leaf_steward.specs.Seated.{Seated, AreFounded}
use Rattle.leaf_steward.proofs.Seating.{same_at, set_either, set_other, set_same}
use Rattle.leaf_moves.specs.Stage.{Leaf, IsDown, IsUp, IsPreparing, LeafStands, MeetsIf, MeetAll, seated_of, seated_with, with_seats}
use Rattle.leaf_deeds.specs.Held.{KeepsSeats}
use Rattle.player.specs.Meeting.{MeetFirst, MeetsAt}
use Rattle.leaf_deeds.proofs.Carrying.{founded_on}

-- a leaf with other seats has those
seats_become : (leaf : Leaf) (seats : List SeatView) → seated_of (with_seats leaf seats) ≡ seated_with (seated_of leaf) seats
seats_become (IsDown x) seats = refl
seats_become (IsUp x) seats = refl
seats_become (IsPreparing x) seats = refl

-- the last ones count
seats_again : (leaf : Leaf) (first last : List SeatView) → with_seats (with_seats leaf first) last ≡ with_seats leaf last
seats_again (IsDown x) first last = refl
seats_again (IsUp x) first last = refl
seats_again (IsPreparing x) first last = refl

seats_keep : (leaf leaf' : Leaf) (seats : List SeatView) → leaf' ≡ with_seats leaf seats → length seats ≡ length (seated_of leaf).seats → KeepsSeats (seated_of leaf) (seated_of leaf')
seats_keep leaf leaf' seats is count = subst (KeepsSeats (seated_of leaf)) (sym (ap seated_of is ∙ seats_become leaf seats)) (record { names = refl; tables = refl; seats = count })

-- a meeting keeps the seats at their tables
pub meets_keep : (table : ℕ) (leaf : Leaf) (callers : List (Option SeatView)) (leaf' : Leaf) (callers' : List (Option SeatView)) → MeetsAt table leaf callers leaf' callers' → KeepsSeats (seated_of leaf) (seated_of leaf')
meets_keep table leaf callers leaf' callers' at =
    seats_keep leaf leaf' (slice_set (seated_of leaf).seats table at.steward_then) at.leaf_is (length-set (seated_of leaf).seats table at.steward_then)

-- what stands in a place that was set
there_now : {A : Type 0} (xs : List A) (i : ℕ) (y z : A) → slice_get (slice_set xs i y) i ≡ Some z → z ≡ y
there_now xs i y z at = ⊎_elim (λ h. h.1) (λ h. absurd (h.0 refl)) (set_either xs i i y z at)

module _ (k : ℕ) (leaf between leaf' : Leaf) (xs ys zs : List (Option SeatView)) (m : Meaning) (first : MeetFirst k leaf xs between ys m) (at : MeetsAt k between ys leaf' zs) where
  abbrev seats_now : List SeatView
  seats_now = slice_set first.seats k at.steward_then

  seats_then : (seated_of between).seats ≡ first.seats
  seats_then = ap (λ (l : Leaf). (seated_of l).seats) first.leaf_is ∙ ap (λ (s : Seated). s.seats) (seats_become leaf first.seats)

  now : leaf' ≡ with_seats leaf seats_now
  now =
      at.leaf_is ∙ (ap (λ (l : List SeatView). with_seats between (slice_set l k at.steward_then)) seats_then
      ∙ (ap (λ (l : Leaf). with_seats l seats_now) first.leaf_is ∙ seats_again leaf first.seats seats_now))

  -- the pair in that place
  here : (v v' : SeatView) (c c' : Option SeatView) → slice_get (seated_of leaf).seats k ≡ Some v → slice_get xs k ≡ Some c → slice_get seats_now k ≡ Some v' → slice_get zs k ≡ Some c' → MeetsIf v c v' c'
  here v v' c c' was called is called_now =
      let same = first.others k (omega arith) in
      let steward : at.steward ≡ v = same_at first.seats k at.steward v (subst (λ (l : List SeatView). slice_get l k ≡ Some at.steward) seats_then at.was) (same.0 ∙ was) in
      let caller : at.caller ≡ c = same_at ys k at.caller c at.was_caller (same.1 ∙ called) in
      let steward_then : v' ≡ at.steward_then = there_now first.seats k at.steward_then v' is in
      let caller_then : c' ≡ at.caller_then = there_now ys k at.caller_then c' (subst (λ (l : List (Option SeatView)). slice_get l k ≡ Some c') at.callers_are called_now) in
      subst (λ (s : SeatView). MeetsIf s c v' c') steward
      (subst (λ (s : Option SeatView). MeetsIf at.steward s v' c') caller
      (subst (λ (s : SeatView). MeetsIf at.steward at.caller s c') (sym steward_then)
      (subst (λ (s : Option SeatView). MeetsIf at.steward at.caller at.steward_then s) (sym caller_then) at.meets)))

  -- those elsewhere are as they were
  elsewhere : (place : ℕ) → place ≢ k → (slice_get seats_now place ≡ slice_get first.seats place) × (slice_get zs place ≡ slice_get ys place)
  elsewhere place apart =
      (set_other first.seats k place at.steward_then apart, ap (λ (l : List (Option SeatView)). slice_get l place) at.callers_are ∙ set_other ys k place at.caller_then apart)

  met_more : (place : ℕ) (v v' : SeatView) (c c' : Option SeatView) → place < k + 1 → slice_get (seated_of leaf).seats place ≡ Some v → slice_get xs place ≡ Some c
      → slice_get seats_now place ≡ Some v' → slice_get zs place ≡ Some c' → MeetsIf v c v' c'
  met_more place v v' c c' below was called is called_now = by (cases_eq place k)
    where
      by : (place ≡ k) ⊎ (place ≢ k) → MeetsIf v c v' c'
      by (inl same) =
          here v v' c c' (subst (λ (n : ℕ). slice_get (seated_of leaf).seats n ≡ Some v) same was) (subst (λ (n : ℕ). slice_get xs n ≡ Some c) same called)
          (subst (λ (n : ℕ). slice_get seats_now n ≡ Some v') same is) (subst (λ (n : ℕ). slice_get zs n ≡ Some c') same called_now)
      by (inr apart) =
          let still = elsewhere place apart in
          first.met place v v' c c' (omega (arith, below, apart)) was called (sym still.0 ∙ is) (sym still.1 ∙ called_now)

  -- one pair more has met
  pub meet_more : ((base : NamedStates) → AreFounded (seated_of between) → LeafStands base between m → LeafStands base leaf' m) → MeetFirst (k + 1) leaf xs leaf' zs m
  meet_more stands = record {
    seats = seats_now;
    leaf_is = now;
    count = (length-set first.seats k at.steward_then ∙ first.count.0, ap (λ (l : List (Option SeatView)). length l) at.callers_are ∙ (length-set ys k at.caller_then ∙ first.count.1));
    met = met_more;
    others = λ place above.
        let still = elsewhere place (λ same. omega (arith, same, above)) in
        let before = first.others place (omega (arith, above)) in
        (still.0 ∙ before.0, still.1 ∙ before.1);
    stands = λ base tells founded was.
        stands base (founded_on (seated_of leaf) (seated_of between) (seats_keep leaf between first.seats first.leaf_is first.count.0).tables founded) (first.stands base tells founded was);
  }

-- at the end all have met
pub meet_all : (k : ℕ) (leaf : Leaf) (xs : List (Option SeatView)) (leaf' : Leaf) (ys : List (Option SeatView)) (m : Meaning) → MeetFirst k leaf xs leaf' ys m → length (seated_of leaf).seats ≤ k → MeetAll leaf xs leaf' ys m
meet_all k leaf xs leaf' ys m first all = record {
  seats = first.seats;
  leaf_is = first.leaf_is;
  each = λ place v v' c c' was called is called_now. first.met place v v' c c' (omega (arith, slice_get_within (seated_of leaf).seats place v was, all)) was called is called_now;
  count = first.count;
  stands = first.stands;
}

-- a leaf has the seats that it has
pub same_seats : (l : Leaf) → l ≡ with_seats l (seated_of l).seats
same_seats (IsDown x) = refl
same_seats (IsUp x) = refl
same_seats (IsPreparing x) = refl

-- none has met yet
pub meet_none : (leaf : Leaf) (xs : List (Option SeatView)) (m : Meaning) → MeetFirst 0 leaf xs leaf xs m
meet_none leaf xs m = record {
  seats = (seated_of leaf).seats;
  leaf_is = same_seats leaf;
  count = (refl, refl);
  met = λ place v v' c c' below was called is called_now. absurd (omega (arith, below));
  others = λ place above. (refl, refl);
  stands = λ base tells founded stands. stands;
}

-- there is no seat of callers
pub meets_none : (table : ℕ) (leaf : Leaf) (callers : List (Option SeatView)) (v : SeatView) → slice_get (seated_of leaf).seats table ≡ Some v → slice_get callers table ≡ Some None → MeetsAt table leaf callers leaf callers
meets_none table leaf callers v was none = record {
  steward = v;
  caller = None;
  steward_then = v;
  caller_then = None;
  was = was;
  was_caller = none;
  meets = refl;
  leaf_is = same_seats leaf ∙ ap (λ (seats : List SeatView). with_seats leaf seats) (sym (set_same (seated_of leaf).seats table v was));
  callers_are = sym (set_same callers table None none);
}
