-- What is cut off for a lane, and what is left.
use Rattle.std.proofs.Common.{◌≡◌, ℕ, suc, ◌+◌, ◌-◌, ◌<◌, ◌≤◌, Bool, true, false, cond, List, [], ◌∷◌, ◌++◌, length, map, Option, Some, None, refl, sym, ap, subst, ◌∙◌, arith}
use Rattle.std.specs.Prelude.{slice_get, is_some, count_by, MatchBool, replicate}
use Rattle.std.specs.List.{AllByRecursion}
use Rattle.std.proofs.lemmas.List.{length-replicate, map-append}
use Rattle.std.proofs.lemmas.List.Sums.{sum_by_push}
use Rattle.turnstile.specs.Seats.{keeps_all_but}
use Rattle.leaf_table.specs.Calls.{SeatView}
use Rattle.script_text.specs.declared.fleet.FleetShape.{FleetShape}
use Rattle.script_text.specs.Commands.{leaf_count}
use Rattle.leaf_moves.specs.Holds.{Hold, caller_in}
use Rattle.leaf_moves.specs.Stage.{Leaf}
use Rattle.leaf_moves.specs.Lanes.{CutsOff, CutsOffAt, SplitsIf}
use Rattle.player.specs.Crew.{HasAll, HasLeaf, HasSeats, Spares, StillHas, is_set}
use Rattle.bursts.specs.declared.plan.LanePlan.{LanePlan}
use Rattle.bursts.specs.Needs.{AreAlone, AreSpare, CanLend, IsLanePlan, acts_on, leaves_acted_on, needs_at, planned_commands, table_needed}
use Rattle.lane_play.specs.Played.{MayPlayOn}
use Rattle.lane_play.proofs.Held.{still_leaf, still_seats, there_too}
use Rattle.bursts.proofs.Needed.{marked_by_length, marked_may, set_below}

-- ---- one seat

pub rest_same : (needed : Bool) (s off rest : Option SeatView) → SplitsIf needed s off rest → is_some rest ≡ is_some s
rest_same needed None off rest splits = ap (λ (o : Option SeatView). is_some o) splits.1
rest_same true (Some s) off rest splits = ap (λ (o : Option SeatView). is_some o) splits.2
rest_same false (Some s) off rest splits = ap (λ (o : Option SeatView). is_some o) splits.1

off_some : (s off rest : Option SeatView) → SplitsIf true s off rest → is_some s ≡ true → is_some off ≡ true
off_some None off rest splits some = absurd cc
off_some (Some s) off rest splits some = ap (λ (o : Option SeatView). is_some o) splits.1

share_left : (needed : Bool) (n : ℕ) (s off rest : Option SeatView) (c : SeatView) → SplitsIf needed s off rest → rest ≡ Some c → ((v : SeatView) → s ≡ Some v → n + cond needed 1 0 ≤ v.share) → n ≤ c.share
share_left needed n None off rest c splits is enough = let none : rest ≡ None = splits.1 in absurd cc
share_left true n (Some s) off rest c splits is enough =
    let kept : rest ≡ Some (keeps_all_but 1 s) = splits.2 in
    let same : keeps_all_but 1 s ≡ c = cc in
    let share : s.share - 1 ≡ c.share = ap (λ (v : SeatView). v.share) same in
    omega (arith, share, enough s refl)
share_left false n (Some s) off rest c splits is enough =
    let kept : rest ≡ Some s = splits.1 in
    let same : s ≡ c = cc in
    let share : s.share ≡ c.share = ap (λ (v : SeatView). v.share) same in
    omega (arith, share, enough s refl)

-- ---- all leaves

module _ {B : Type 0} (needs acts : ℕ → Bool) (xs off rest : List (Hold B)) (cut : CutsOff needs acts xs off rest) where
  pub record CutAt (leaf : ℕ) (o r : Hold B) : Type 0 where
    pub x : Hold B
    pub at : slice_get xs leaf ≡ Some x
    pub is : CutsOffAt needs (acts leaf) x o r

  -- what a leaf was that is left
  cut_rest : (leaf : ℕ) (r : Hold B) → slice_get rest leaf ≡ Some r → (o : Hold B) × CutAt leaf o r
  cut_rest leaf r at =
      let x = there_too xs rest leaf r cut.counts.1 at in
      let o = there_too off rest leaf r (cut.counts.1 ∙ sym cut.counts.0) at in
      (o.0, record { x = x.0; at = x.1; is = cut.each leaf x.0 o.0 r x.1 o.1 at })

  -- what one was that is cut off
  cut_off : (leaf : ℕ) (o : Hold B) → slice_get off leaf ≡ Some o → (r : Hold B) × CutAt leaf o r
  cut_off leaf o at =
      let x = there_too xs off leaf o cut.counts.0 at in
      let r = there_too rest off leaf o (cut.counts.0 ∙ sym cut.counts.1) at in
      (r.0, record { x = x.0; at = x.1; is = cut.each leaf x.0 o r.0 x.1 at r.1 })

  pub rest_seats : (table : ℕ) → HasSeats xs table → HasSeats rest table
  rest_seats table has = λ leaf r at.
      let c = cut_rest leaf r at in
      rest_same (needs table) (caller_in c.1.x.callers table) (caller_in c.0.callers table) (caller_in r.callers table) (c.1.is.seats table) ∙ has leaf c.1.x c.1.at

  pub off_seats : (table : ℕ) → needs table ≡ true → HasSeats xs table → HasSeats off table
  off_seats table needed has = λ leaf o at.
      let c = cut_off leaf o at in
      let splits = subst (λ (b : Bool). SplitsIf b (caller_in c.1.x.callers table) (caller_in o.callers table) (caller_in c.0.callers table)) needed (c.1.is.seats table) in
      off_some (caller_in c.1.x.callers table) (caller_in o.callers table) (caller_in c.0.callers table) splits (has leaf c.1.x c.1.at)

  pub rest_spares : (table n : ℕ) → Spares xs table (n + cond (needs table) 1 0) → Spares rest table n
  rest_spares table n spares = λ leaf r c at is.
      let o = cut_rest leaf r at in
      share_left (needs table) n (caller_in o.1.x.callers table) (caller_in o.0.callers table) (caller_in r.callers table) c (o.1.is.seats table) is (λ v at_v. spares leaf o.1.x v o.1.at at_v)

  pub rest_leaf : (leaf : ℕ) → acts leaf ≡ false → HasLeaf xs leaf → HasLeaf rest leaf
  rest_leaf leaf stays has = λ r at.
      let c = cut_rest leaf r at in
      let held : (c.0.held ≡ None) × (r.held ≡ c.1.x.held) =
      subst (λ (b : Bool). MatchBool b ((c.0.held ≡ c.1.x.held) × (r.held ≡ None)) ((c.0.held ≡ None) × (r.held ≡ c.1.x.held))) stays c.1.is.held in
      ap (λ (h : Option (Leaf × B)). is_some h) held.1 ∙ has c.1.x c.1.at

  pub off_leaf : (leaf : ℕ) → acts leaf ≡ true → HasLeaf xs leaf → HasLeaf off leaf
  off_leaf leaf goes has = λ o at.
      let c = cut_off leaf o at in
      let held : (o.held ≡ c.1.x.held) × (c.0.held ≡ None) =
      subst (λ (b : Bool). MatchBool b ((o.held ≡ c.1.x.held) × (c.0.held ≡ None)) ((o.held ≡ None) × (c.0.held ≡ c.1.x.held))) goes c.1.is.held in
      ap (λ (h : Option (Leaf × B)). is_some h) held.0 ∙ has c.1.x c.1.at

-- ---- plans

pub front_all : {A : Type 0} (P : A → Type 0) (xs : List A) (x : A) → AllByRecursion P (xs ++ x ∷ []) → AllByRecursion P xs × P x
front_all P [] x all = (tt, all.0)
front_all P (y ∷ ys) x all = let more = front_all P ys x all.1 in ((all.0, more.0), more.1)

pub lanes_last : (plans : List LanePlan) (plan : LanePlan) (all : List LanePlan) → all ≡ plans ++ plan ∷ [] → map planned_commands all ≡ map planned_commands plans ++ planned_commands plan ∷ []
lanes_last plans plan all is = ap (λ (ps : List LanePlan). map planned_commands ps) is ∙ map-append planned_commands plans (plan ∷ [])

count_snoc : (p : LanePlan → Bool) (plans : List LanePlan) (plan : LanePlan) → count_by p (plans ++ plan ∷ []) ≡ count_by p plans + cond (p plan) 1 0
count_snoc p plans plan = sum_by_push (λ (q : LanePlan). cond (p q) 1 0) plans plan

counted_yes : (p : LanePlan → Bool) (plans : List LanePlan) (plan : LanePlan) → p plan ≡ true → count_by p (plans ++ plan ∷ []) ≡ count_by p plans + 1
counted_yes p plans plan sure = count_snoc p plans plan ∙ ap (λ (b : Bool). count_by p plans + cond b 1 0) sure

counted_no : (p : LanePlan → Bool) (plans : List LanePlan) (plan : LanePlan) → p plan ≡ false → count_by p (plans ++ plan ∷ []) ≡ count_by p plans + 0
counted_no p plans plan never = count_snoc p plans plan ∙ ap (λ (b : Bool). count_by p plans + cond b 1 0) never

cases : (b : Bool) (C : Type 0) → (b ≡ true → C) → (b ≡ false → C) → C
cases true C sure never = sure refl
cases false C sure never = never refl

-- what was cut off by these marks was cut off by the plan's
pub cut_by : {B : Type 0} (plan : LanePlan) (xs off rest : List (Hold B)) (tables leaves : List Bool) → tables ≡ plan.needs.tables.items → leaves ≡ plan.needs.leaves.items → CutsOff (is_set tables) (is_set leaves) xs off rest
    → CutsOff (is_set plan.needs.tables.items) (is_set plan.needs.leaves.items) xs off rest
cut_by plan xs off rest tables leaves one two cut =
    subst (λ (ms : List Bool). CutsOff (is_set plan.needs.tables.items) (is_set ms) xs off rest) two (subst (λ (ms : List Bool). CutsOff (is_set ms) (is_set leaves) xs off rest) one cut)

module _ {B : Type 0} (fleet : FleetShape) (plans : List LanePlan) (plan : LanePlan) (xs : List (Hold B)) (can : CanLend fleet xs (plans ++ plan ∷ [])) where
  pub last_plan : IsLanePlan fleet plan
  last_plan = (front_all (IsLanePlan fleet) plans plan can.plans_are).1

  -- a table that is marked is one of the fleet's
  pub marks_tables : length plan.needs.tables.items ≡ length fleet.names
  marks_tables = ap (λ (ms : List Bool). length ms) last_plan.needs.tables
      ∙ (marked_by_length (table_needed fleet.names) plan.commands.items (replicate (length fleet.names) false) ∙ length-replicate (length fleet.names) false)

  pub marks_leaves : length plan.needs.leaves.items ≡ leaf_count fleet
  marks_leaves = ap (λ (ms : List Bool). length ms) last_plan.needs.leaves
      ∙ (marked_by_length leaves_acted_on plan.commands.items (replicate (leaf_count fleet) false) ∙ length-replicate (leaf_count fleet) false)

  pub lends_seats : (table : ℕ) → is_set plan.needs.tables.items table ≡ true → HasSeats xs table × Spares xs table 2
  lends_seats table marked =
      let below : table < length fleet.names = omega (arith, set_below plan.needs.tables.items table marked, marks_tables) in
      (can.seats table below, λ leaf x c at is. let enough = can.spare table below leaf x c at is in omega (arith, enough, counted_yes (needs_at table) plans plan marked))

  pub lends_leaf : (leaf : ℕ) → is_set plan.needs.leaves.items leaf ≡ true → HasLeaf xs leaf
  lends_leaf leaf marked = can.leaves leaf (omega (arith, counted_yes (acts_on leaf) plans plan marked))

  module _ (off rest : List (Hold B)) (cut : CutsOff (is_set plan.needs.tables.items) (is_set plan.needs.leaves.items) xs off rest) where
    -- the others can be lent what they need still
    pub lends_on : CanLend fleet rest plans
    lends_on = record {
      plans_are = (front_all (IsLanePlan fleet) plans plan can.plans_are).0;
      alone = λ leaf. let few = can.alone leaf in omega (arith, few, count_snoc (acts_on leaf) plans plan);
      spare = λ table below.
          let more : suc (count_by (needs_at table) (plans ++ plan ∷ [])) ≡ suc (count_by (needs_at table) plans) + cond (needs_at table plan) 1 0 = omega (arith, count_snoc (needs_at table) plans plan) in
          rest_spares (is_set plan.needs.tables.items) (is_set plan.needs.leaves.items) xs off rest cut table (suc (count_by (needs_at table) plans)) (subst (Spares xs table) more (can.spare table below));
      seats = λ table below. rest_seats (is_set plan.needs.tables.items) (is_set plan.needs.leaves.items) xs off rest cut table (can.seats table below);
      leaves = λ leaf some. cases (acts_on leaf plan) (HasLeaf rest leaf)
          (λ sure. absurd (omega (arith, some, can.alone leaf, counted_yes (acts_on leaf) plans plan sure)))
          (λ never. rest_leaf (is_set plan.needs.tables.items) (is_set plan.needs.leaves.items) xs off rest cut leaf never (can.leaves leaf (omega (arith, some, counted_no (acts_on leaf) plans plan never))));
    }

    -- the lane may play with what was cut off
    pub lane_ready : AllByRecursion (MayPlayOn fleet off) plan.commands.items
    lane_ready =
        marked_may fleet off plan.commands.items (replicate (length fleet.names) false) (replicate (leaf_count fleet) false) (length-replicate (length fleet.names) false) (length-replicate (leaf_count fleet) false) last_plan.commands
        (λ table set.
        let marked : is_set plan.needs.tables.items table ≡ true = subst (λ (ms : List Bool). is_set ms table ≡ true) (sym last_plan.needs.tables) set in
        off_seats (is_set plan.needs.tables.items) (is_set plan.needs.leaves.items) xs off rest cut table marked (lends_seats table marked).0)
        (λ leaf set.
        let marked : is_set plan.needs.leaves.items leaf ≡ true = subst (λ (ms : List Bool). is_set ms leaf ≡ true) (sym last_plan.needs.leaves) set in
        off_leaf (is_set plan.needs.tables.items) (is_set plan.needs.leaves.items) xs off rest cut leaf marked (lends_leaf leaf marked))

-- all of it is there before anything is cut off
pub can_lend : {B : Type 0} (fleet fleet' : FleetShape) (xs ys : List (Hold B)) (plans : List LanePlan) → fleet' ≡ fleet → AllByRecursion (IsLanePlan fleet) plans → AreAlone plans → AreSpare fleet xs plans → HasAll fleet xs
    → StillHas xs ys → ((table n : ℕ) → Spares xs table n → Spares ys table n) → CanLend fleet' ys plans
can_lend fleet fleet' xs ys plans same are alone spare all still spares = subst (λ (f : FleetShape). CanLend f ys plans) (sym same) (record {
  plans_are = are;
  alone = alone;
  spare = λ table below. spares table (suc (count_by (needs_at table) plans)) (spare table below);
  seats = λ table below. still_seats xs ys still table (all.seats table below);
  leaves = λ leaf some. still_leaf xs ys still leaf (all.leaves leaf);
})
