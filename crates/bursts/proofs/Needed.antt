-- What a command needs, and what is marked for the commands of a lane.
use Rattle.std.proofs.Common.{◌≡◌, ◌⊎◌, inl, inr, drop, ℕ, zero, suc, ◌+◌, ◌<◌, ◌≤◌, ◌==◌, Bool, true, false, cond, List, [], ◌∷◌, length, map, refl, sym, ap, subst, ◌∙◌, arith, eq-eqb}
use Rattle.std.specs.Prelude.{slice_index_or, slice_set, replicate}
use Rattle.std.specs.List.{AllByRecursion, Contains, filter}
use Rattle.std.specs.Str.{bytes_eq}
use Rattle.std.proofs.lemmas.Bool.{or_left, or_right}
use Rattle.std.proofs.lemmas.List.{drop_more, get_or-replicate, get_or-set_same, length-replicate, length-set}
use Rattle.std.proofs.lemmas.List.Sums.{length-filter}
use Rattle.std.proofs.lemmas.Slice.Eq.{bytes_eq-Decides}
use Rattle.script_text.specs.declared.command.Command.{Command}
use Rattle.script_text.specs.declared.order.Order.{Order}
use Rattle.script_text.specs.declared.order.Order.TheVariants as order
use Rattle.script_text.specs.Aims.{Aim, AtFleet, AtLeaf, AtLeaves, AtNamed, AtRun, AtTable, IsAim, aim_of, is_for_steward}
use Rattle.script_text.specs.Fits.{IsCommand, OneSteward}
use Rattle.script_text.specs.Orders.{IsOrder}
use Rattle.script_text.specs.Stewards.{has_steward, is_stewards}
use Rattle.script_text.specs.declared.fleet.FleetShape.{FleetShape}
use Rattle.script_text.specs.Commands.{leaf_count}
use Rattle.script_text.proofs.Aimed.{aim_fits, stewards_aim}
use Rattle.transcript.specs.Pieces.{place_among}
use Rattle.leaf_moves.specs.Holds.{Hold}
use Rattle.player.specs.Crew.{HasAimed, HasAll, HasFor, HasLeaf, HasOrder, HasSeats, is_set}
use Rattle.bursts.specs.declared.plan.LanePlan.{LanePlan}
use Rattle.bursts.specs.Needs.{AreAlone, ArePlans, Everywhere, IsAmong, IsLanePlan, Nowhere, OnlyAt, NeededPlaces, acts_on, leaves_aimed_at, leaves_acted_on, marked, marked_by, needed, planned_commands, table_aimed_at, table_needed}
use Rattle.lane_play.specs.Played.{MayPlayOn}

-- ---- commands

-- a name among the tables has a place
known_place : (name : List ℕ) (names : List (List ℕ)) (k : ℕ) → k < length names → slice_index_or names k name ≡ name → place_among name names < length names
known_place name [] k h e = absurd (omega (arith, h))
known_place name (n ∷ ns) zero h e = here (bytes_eq name n) (place_among name ns) (length ns) ((bytes_eq-Decides name n).1 (sym e))
  where
    here : (b : Bool) (n count : ℕ) → b ≡ true → cond b 0 (suc n) < suc count
    here true n count e = omega arith
    here false n count e = absurd cc
known_place name (n ∷ ns) (suc k) h e = below (bytes_eq name n) (place_among name ns) (length ns) (known_place name ns k (omega (arith, h)) e)
  where
    below : (b : Bool) (n count : ℕ) → n < count → cond b 0 (suc n) < suc count
    below true n count e = omega arith
    below false n count e = omega (arith, e)

pub place_below : (name : List ℕ) (names : List (List ℕ)) → Contains names name → place_among name names < length names
place_below name names has = known_place name names has.0 has.1 has.2

-- whom a command is for, where that is known
pub aimed_within : (fleet : FleetShape) (c : Command) (aim : Aim) → aim ≡ aim_of c → IsCommand (leaf_count fleet) fleet.names c → IsAim (leaf_count fleet) fleet.names aim
aimed_within fleet c aim is may = subst (IsAim (leaf_count fleet) fleet.names) (sym is) (aim_fits (leaf_count fleet) fleet.names c may)

-- the marks of a command by whom it is for
pub tables_marked : (names : List (List ℕ)) (c : Command) (aim : Aim) (old new : List Bool) → aim ≡ aim_of c → new ≡ marked (table_aimed_at names aim) old → new ≡ marked (table_needed names c) old
tables_marked names c aim old new is marks = marks ∙ ap (λ a. marked (table_aimed_at names a) old) is

pub leaves_marked : (c : Command) (aim : Aim) (old new : List Bool) → aim ≡ aim_of c → new ≡ marked (leaves_aimed_at aim) old → new ≡ marked (leaves_acted_on c) old
leaves_marked c aim old new is marks = marks ∙ ap (λ a. marked (leaves_aimed_at a) old) is

-- the table that a command needs seats at is one of the fleet's
table_within : (fleet : FleetShape) (aim : Aim) (table : ℕ) → IsAim (leaf_count fleet) fleet.names aim → IsAmong (table_aimed_at fleet.names aim) table → table < length fleet.names
table_within fleet (AtTable t) table is at = subst (λ k. k < length fleet.names) at is
table_within fleet (AtNamed name) table is at = subst (λ k. k < length fleet.names) at (place_below name fleet.names is)
table_within fleet _ table is at = absurd at

pub table_below : (fleet : FleetShape) (c : Command) (table : ℕ) → IsCommand (leaf_count fleet) fleet.names c → IsAmong (table_needed fleet.names c) table → table < length fleet.names
table_below fleet c table is = table_within fleet (aim_of c) table (aim_fits (leaf_count fleet) fleet.names c is)

module _ {B : Type 0} (fleet : FleetShape) (xs : List (Hold B)) where
  has_aimed : (aim : Aim) → IsAim (leaf_count fleet) fleet.names aim → ((table : ℕ) → IsAmong (table_aimed_at fleet.names aim) table → HasSeats xs table)
      → ((leaf : ℕ) → IsAmong (leaves_aimed_at aim) leaf → leaf < leaf_count fleet → HasLeaf xs leaf) → HasAimed fleet xs aim
  has_aimed AtFleet is seats leaves = absurd is
  has_aimed (AtTable table) is seats leaves = seats table refl
  has_aimed (AtNamed name) is seats leaves = seats (place_among name fleet.names) refl
  has_aimed (AtLeaf leaf) is seats leaves = leaves leaf refl is
  has_aimed AtLeaves is seats leaves = λ leaf below. leaves leaf tt below
  has_aimed AtRun is seats leaves = absurd is

  pub has_for : (c : Command) → IsCommand (leaf_count fleet) fleet.names c → ((table : ℕ) → IsAmong (table_needed fleet.names c) table → HasSeats xs table)
      → ((leaf : ℕ) → IsAmong (leaves_acted_on c) leaf → leaf < leaf_count fleet → HasLeaf xs leaf) → HasFor fleet xs c
  has_for c is = has_aimed (aim_of c) (aim_fits (leaf_count fleet) fleet.names c is)

  pub all_has_command : HasAll fleet xs → (c : Command) → IsCommand (leaf_count fleet) fleet.names c → HasFor fleet xs c
  all_has_command all c is = has_for c is (λ table at. all.seats table (table_below fleet c table is at)) (λ leaf at below. all.leaves leaf)

  pub all_has_order : HasAll fleet xs → (o : Order) → IsOrder (leaf_count fleet) fleet.names o → HasOrder fleet xs o
  all_has_order all order.Start may = all.leaves
  all_has_order all (order.Call leaf table r) may = all.seats table may.1
  all_has_order all (order.Deed leaf d) may = all.leaves leaf
  all_has_order all (order.Query q) may = all.seats (place_among q.table fleet.names) (place_below q.table fleet.names may.0)
  all_has_order all (order.Tail key table rows) may = all.seats table may.0
  all_has_order all (order.Rollover percent) may = λ leaf below. all.leaves leaf

  pub all_may : HasAll fleet xs → (cs : List Command) → AllByRecursion (IsCommand (leaf_count fleet) fleet.names) cs → AllByRecursion (MayPlayOn fleet xs) cs
  all_may all [] are = tt
  all_may all (c ∷ cs) are = ((are.0, all_has_command all c are.0), all_may all cs are.1)

-- ---- marks

set_kept : (marks : List Bool) (j i : ℕ) → is_set marks i ≡ true → is_set (slice_set marks j true) i ≡ true
set_kept [] j i e = e
set_kept (m ∷ ms) zero zero e = refl
set_kept (m ∷ ms) zero (suc i) e = e
set_kept (m ∷ ms) (suc j) zero e = e
set_kept (m ∷ ms) (suc j) (suc i) e = set_kept ms j i e

set_only : (marks : List Bool) (j i : ℕ) → is_set (slice_set marks j true) i ≡ true → (j ≡ i) ⊎ (is_set marks i ≡ true)
set_only [] j i e = inr e
set_only (m ∷ ms) zero zero e = inl refl
set_only (m ∷ ms) zero (suc i) e = inr e
set_only (m ∷ ms) (suc j) zero e = inr e
set_only (m ∷ ms) (suc j) (suc i) e = by (set_only ms j i e)
  where
    by : (j ≡ i) ⊎ (is_set ms i ≡ true) → (suc j ≡ suc i) ⊎ (is_set ms i ≡ true)
    by (inl same) = inl (ap suc same)
    by (inr set) = inr set

none_set : (n i : ℕ) → is_set (replicate n false) i ≡ false
none_set zero i = refl
none_set (suc n) zero = refl
none_set (suc n) (suc i) = none_set n i

pub set_below : (marks : List Bool) (i : ℕ) → is_set marks i ≡ true → i < length marks
set_below [] i e = absurd cc
set_below (m ∷ ms) zero e = omega arith
set_below (m ∷ ms) (suc i) e = let below = set_below ms i e in omega (arith, below)

pub marked_length : (place : NeededPlaces) (marks : List Bool) → length (marked place marks) ≡ length marks
marked_length Nowhere marks = refl
marked_length (OnlyAt j) marks = length-set marks j true
marked_length Everywhere marks = length-replicate (length marks) true

pub marked_by_length : (place : Command → NeededPlaces) (cs : List Command) (marks : List Bool) → length (marked_by place cs marks) ≡ length marks
marked_by_length place [] marks = refl
marked_by_length place (c ∷ cs) marks = marked_by_length place cs (marked (place c) marks) ∙ marked_length (place c) marks

marked_kept : (place : NeededPlaces) (marks : List Bool) (i : ℕ) → is_set marks i ≡ true → is_set (marked place marks) i ≡ true
marked_kept Nowhere marks i e = e
marked_kept (OnlyAt j) marks i e = set_kept marks j i e
marked_kept Everywhere marks i e = get_or-replicate (length marks) i true false (set_below marks i e)

all_kept : (place : Command → NeededPlaces) (cs : List Command) (marks : List Bool) (i : ℕ) → is_set marks i ≡ true → is_set (marked_by place cs marks) i ≡ true
all_kept place [] marks i e = e
all_kept place (c ∷ cs) marks i e = all_kept place cs (marked (place c) marks) i (marked_kept (place c) marks i e)

marked_there : (place : NeededPlaces) (marks : List Bool) (i : ℕ) → IsAmong place i → i < length marks → is_set (marked place marks) i ≡ true
marked_there Nowhere marks i at below = absurd at
marked_there (OnlyAt j) marks i at below =
    subst (λ k. is_set (slice_set marks j true) k ≡ true) at (get_or-set_same marks j true false (subst (λ k. k < length marks) (sym at) below))
marked_there Everywhere marks i at below = get_or-replicate (length marks) i true false below

-- with a seat at each marked table, and each marked leaf, the commands may be played
pub marked_may : {B : Type 0} (fleet : FleetShape) (xs : List (Hold B)) (cs : List Command) (tables leaves : List Bool) → length tables ≡ length fleet.names → length leaves ≡ leaf_count fleet
    → AllByRecursion (IsCommand (leaf_count fleet) fleet.names) cs → ((table : ℕ) → is_set (marked_by (table_needed fleet.names) cs tables) table ≡ true → HasSeats xs table)
    → ((leaf : ℕ) → is_set (marked_by leaves_acted_on cs leaves) leaf ≡ true → HasLeaf xs leaf) → AllByRecursion (MayPlayOn fleet xs) cs
marked_may fleet xs [] tables leaves t l are seats acts = tt
marked_may fleet xs (c ∷ cs) tables leaves t l are seats acts =
    let more_tables = marked (table_needed fleet.names c) tables in
    let more_leaves = marked (leaves_acted_on c) leaves in (
      (
        are.0,
        has_for fleet xs c are.0
            (λ table at. seats table (all_kept (table_needed fleet.names) cs more_tables table (marked_there (table_needed fleet.names c) tables table at (omega (arith, table_below fleet c table are.0 at, t)))))
            (λ leaf at below. acts leaf (all_kept leaves_acted_on cs more_leaves leaf (marked_there (leaves_acted_on c) leaves leaf at (omega (arith, below, l))))),
      ),
      marked_may fleet xs cs more_tables more_leaves (marked_length (table_needed fleet.names c) tables ∙ t) (marked_length (leaves_acted_on c) leaves ∙ l) are.1 seats acts,
    )

by_steward : (leaf : ℕ) (marks : List Bool) (i : ℕ) → is_set (slice_set marks leaf true) i ≡ true → ((leaf == i) ≡ true) ⊎ (is_set marks i ≡ true)
by_steward leaf marks i e = by (set_only marks leaf i e)
  where
    by : (leaf ≡ i) ⊎ (is_set marks i ≡ true) → ((leaf == i) ≡ true) ⊎ (is_set marks i ≡ true)
    by (inl same) = inl (eq-eqb leaf i same)
    by (inr set) = inr set

-- a leaf is marked where a command of its steward stands
marked_aimed : (aim : Aim) (marks : List Bool) (i : ℕ) → is_set (marked (leaves_aimed_at aim) marks) i ≡ true → (is_for_steward i aim ≡ true) ⊎ (is_set marks i ≡ true)
marked_aimed (AtLeaf leaf) marks i e = by_steward leaf marks i e
marked_aimed AtLeaves marks i e = inl refl
marked_aimed _ marks i e = inr e

marked_steward : (c : Command) (marks : List Bool) (i : ℕ) → is_set (marked (leaves_acted_on c) marks) i ≡ true → (is_stewards i c ≡ true) ⊎ (is_set marks i ≡ true)
marked_steward c marks i e = subst (λ b. (b ≡ true) ⊎ (is_set marks i ≡ true)) (sym (stewards_aim i c)) (marked_aimed (aim_of c) marks i e)

marked_stewards : (cs : List Command) (marks : List Bool) (i : ℕ) → is_set (marked_by leaves_acted_on cs marks) i ≡ true → (has_steward i cs ≡ true) ⊎ (is_set marks i ≡ true)
marked_stewards [] marks i e = inr e
marked_stewards (c ∷ cs) marks i e = by (marked_stewards cs (marked (leaves_acted_on c) marks) i e)
  where
    first : (is_stewards i c ≡ true) ⊎ (is_set marks i ≡ true) → (has_steward i (c ∷ cs) ≡ true) ⊎ (is_set marks i ≡ true)
    first (inl steward) = inl (or_left (is_stewards i c) (has_steward i cs) steward)
    first (inr set) = inr set

    by : (has_steward i cs ≡ true) ⊎ (is_set (marked (leaves_acted_on c) marks) i ≡ true) → (has_steward i (c ∷ cs) ≡ true) ⊎ (is_set marks i ≡ true)
    by (inl more) = inl (or_right (is_stewards i c) (has_steward i cs) more)
    by (inr set) = first (marked_steward c marks i set)

pub needed_steward : (cs : List Command) (n i : ℕ) → is_set (needed leaves_acted_on n cs) i ≡ true → has_steward i cs ≡ true
needed_steward cs n i e = by (marked_stewards cs (replicate n false) i e)
  where
    by : (has_steward i cs ≡ true) ⊎ (is_set (replicate n false) i ≡ true) → has_steward i cs ≡ true
    by (inl steward) = steward
    by (inr set) = let none = none_set n i in absurd cc

-- ---- plans

-- the first of what is left
pub drop_next : {A : Type 0} (xs : List A) (i : ℕ) (x : A) → i < length xs → x ≡ slice_index_or xs i x → drop i xs ≡ x ∷ drop (i + 1) xs
drop_next {A = A} xs i x below is = drop_more xs i x below ∙ ap (λ (y : A). y ∷ drop (i + 1) xs) (sym is)

fewer : (leaf : ℕ) (fleet : FleetShape) (plans : List LanePlan) → AllByRecursion (IsLanePlan fleet) plans → length (filter (acts_on leaf) plans) ≤ length (filter (has_steward leaf) (map planned_commands plans))
fewer leaf fleet [] are = omega arith
fewer leaf fleet (p ∷ ps) are =
    by (acts_on leaf p) (has_steward leaf p.commands.items) (filter (acts_on leaf) ps) (filter (has_steward leaf) (map planned_commands ps)) marks (fewer leaf fleet ps are.1)
  where
    marks : acts_on leaf p ≡ true → has_steward leaf p.commands.items ≡ true
    marks e = needed_steward p.commands.items (leaf_count fleet) leaf (subst (λ (ms : List Bool). is_set ms leaf ≡ true) are.0.needs.leaves e)

    by : (a b : Bool) (us : List LanePlan) (vs : List (List Command)) → (a ≡ true → b ≡ true) → length us ≤ length vs → length (cond a (p ∷ us) us) ≤ length (cond b (p.commands.items ∷ vs) vs)
    by true true us vs m le = omega (arith, le)
    by true false us vs m le = let wrong : false ≡ true = m refl in absurd cc
    by false true us vs m le = omega (arith, le)
    by false false us vs m le = le

-- no leaf is acted on by two lanes
pub alone : (fleet : FleetShape) (lanes : List (List Command)) (plans : List LanePlan) → ArePlans fleet lanes plans → OneSteward lanes → AreAlone plans
alone fleet lanes plans are one leaf =
    let below : length (filter (acts_on leaf) plans) ≤ length (filter (has_steward leaf) lanes) =
    subst (λ (ls : List (List Command)). length (filter (acts_on leaf) plans) ≤ length (filter (has_steward leaf) ls)) are.lanes_are (fewer leaf fleet plans are.each) in
    omega (arith, below, one leaf, length-filter (acts_on leaf) plans)
