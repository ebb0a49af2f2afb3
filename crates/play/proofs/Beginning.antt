-- A run's beginning: over new tables of leaves that are down.
use Rattle.std.proofs.Common.{◌≡◌, inl, inr, ℕ, zero, suc, ◌+◌, ◌<◌, ◌≤◌, true, false, List, [], ◌∷◌, length, Option, Some, None, refl, sym, ap, subst, ◌∙◌, arith}
use Rattle.std.specs.Prelude.{drop, slice_get, take, IfSome}
use Rattle.std.specs.List.{AllByRecursion}
use Rattle.std.proofs.lemmas.List.{length-map, length-take-le}
use Rattle.berth_face.specs.Berth.{Meaning}
use Rattle.berth_face.proofs.Streams.{appends_none}
use Rattle.region_layout.specs.Names.{AreNames}
use Rattle.crash_moments.specs.Left.{NamedStates}
use Rattle.leaf_table.specs.Turns.{Shared, is_founded, start_of}
use Rattle.leaf_table.specs.Calls.{SeatView, base_seen, name_of}
use Rattle.leaf_table.specs.Fleet.{IsNewFleet}
use Rattle.leaf_table.specs.Lists.{row}
use Rattle.leaf_steward.specs.Seated.{AreAlike, AreFounded, AtEach, Seated}
use Rattle.crash_states.specs.Beginning.{MayBegin}
use Rattle.rollover_watch.specs.Watches.{Held}
use Rattle.script_text.specs.declared.fleet.FleetShape.{FleetShape}
use Rattle.script_text.specs.declared.item.Item.{Item}
use Rattle.script_text.specs.Commands.{leaf_count}
use Rattle.leaf_moves.specs.Holds.{Hold}
use Rattle.leaf_moves.specs.Stage.{IsDown, Leaf, LeafStands, seated_of}
use Rattle.transcript.specs.Transcript.{Known}
use Rattle.transcript.specs.Leaving.{AreKnown, IsKnown}
use Rattle.transcript_leaf.specs.Session.{HaveKnownBase, AreInPlace, IsNewHold, StandsFirst}
use Rattle.player.specs.Crew.{column, new_holds, seated_at}
use Rattle.play.specs.Played.{AreBases, BasesAreShut, IsBase, leaves_in}
use Rattle.play.specs.Runs.{IsFleetOf, RunSoFar, berths_in, table_base, table_bases}
use Rattle.play.proofs.Fleets.{AreNewTables, new_tables}
use Rattle.transcript_fleet.proofs.Sessions.{begins}
use Rattle.transcript_leaf.proofs.Lists.{clash_bool, same_some, within}
use Rattle.play.proofs.Lists.{all_each, get_take}
use Rattle.play.proofs.Ends.{IsCrewOf, fleet_named}
use Rattle.play.proofs.Holding.{AreHeld, held_berths, held_count}
use Rattle.lane_play.proofs.Held.{counted_none, pass_none}

-- a leaf's tables, and the steward's seats at them
abbrev seated : List (List ℕ) → List Shared → List SeatView → Seated
seated names tables stewards = record { names = names; tables = tables; seats = stewards }

-- the tables begin where this base says
abbrev StartAs : NamedStates → Seated → Type 0
StartAs b x = AtEach (λ place t v. start_of (base_seen t) ≡ b (name_of t)) x

not_both : (tables : List Shared) → 0 < length tables → AllByRecursion (λ (t : Shared). is_founded (base_seen t) ≡ true) tables → AllByRecursion (λ (t : Shared). is_founded (base_seen t) ≡ false) tables → ⊥
not_both [] some founded unfounded = omega (arith, some)
not_both (t ∷ ts) some founded unfounded = clash_bool (is_founded (base_seen t)) founded.0 unfounded.0

module _ {base : Option NamedStates} {names : List (List ℕ)} {tables : List Shared} {stewards : List SeatView} {callers : List (Option SeatView)} (t : AreNewTables base names tables stewards callers) where
  as_many : length tables ≡ length names
  as_many = sym (length-map tables name_of) ∙ ap (λ (ns : List (List ℕ)). length ns) t.named

  in_place : AreNames names → AreInPlace names (seated names tables stewards)
  in_place are = record {
    named = t.named;
    same_names = refl;
    seats = t.stewards_are ∙ as_many;
    distinct = are.distinct;
  }

  -- each is founded, if there is a base
  founded_as : AllByRecursion (λ (s : Shared). is_founded (base_seen s) ≡ is_founded (table_base base (name_of s))) tables
  founded_as = all_each (λ (s : Shared). is_founded (base_seen s) ≡ is_founded (table_base base (name_of s))) tables (λ place s at. ap is_founded (t.based place s at))

-- ---- where they begin

start_as : {b : NamedStates} {names : List (List ℕ)} {tables : List Shared} {stewards : List SeatView} {callers : List (Option SeatView)} → AreNewTables (Some b) names tables stewards callers → BasesAreShut b → StartAs b (seated names tables stewards)
start_as t shut = λ place s v at sat. ap start_of (t.based place s at) ∙ sym (shut (name_of s))

known_base : {base : Option NamedStates} {names : List (List ℕ)} {tables : List Shared} {stewards : List SeatView} {callers : List (Option SeatView)} (m : Meaning) (known : Option Known)
    → AreNewTables base names tables stewards callers → IfSome base (λ b. IsBase b m) → IsKnown base m known → HaveKnownBase known (seated names tables stewards)
known_base {base = None} m None t has is = λ place s v at sat. (ap is_founded (t.based place s at), ap start_of (t.based place s at))
known_base {base = None} m (Some k) t has is = absurd is
known_base {base = Some b} m None t has is = absurd is
known_base {base = Some b} m (Some k) t has is = λ place s v at sat.
    (ap is_founded (t.based place s at), start_as t has.is place s v at sat ∙ ap (λ (states : NamedStates). states (name_of s)) (sym is.0))

-- ---- what a new leaf asks

alike : {base : Option NamedStates} {names : List (List ℕ)} {tables : List Shared} {stewards : List SeatView} {callers : List (Option SeatView)} → AreNewTables base names tables stewards callers → AreAlike (seated names tables stewards)
alike {base = None} t = inr (founded_as t)
alike {base = Some b} t = inl (founded_as t)

-- where the tables are founded, it is with the base that is named
ready : {base : Option NamedStates} {names : List (List ℕ)} {tables : List Shared} {stewards : List SeatView} {callers : List (Option SeatView)} (m : Meaning)
    → AreNames names → AreNewTables base names tables stewards callers → IfSome base (λ b. IsBase b m)
    → AreFounded (seated names tables stewards) → (b : NamedStates) × MayBegin b m × StartAs b (seated names tables stewards)
ready {base = None} {tables = tables} m are t is founded = absurd (not_both tables (omega (arith, are.some, as_many t)) founded (founded_as t))
ready {base = Some b} m are t is founded = (b, is.begins, start_as t is.is)

-- what stands of a leaf over its tables, where their base is one that may begin over the berth
abbrev StandsThere : Leaf → Meaning → Type 0
StandsThere l m = (states : NamedStates) → AreFounded (seated_of l) → MayBegin states m → StartAs states (seated_of l) → LeafStands states l m

stands_first : {base : Option NamedStates} {names : List (List ℕ)} {tables : List Shared} {stewards : List SeatView} {callers : List (Option SeatView)} (m : Meaning)
    → AreNewTables base names tables stewards callers → IfSome base (λ b. IsBase b m)
    → ((states : NamedStates) → AreFounded (seated names tables stewards) → MayBegin states m → StartAs states (seated names tables stewards) → LeafStands states (IsDown (seated names tables stewards)) m)
    → IfSome base (StandsFirst (seated names tables stewards) m)
stands_first {base = None} m t is stands = tt
stands_first {base = Some b} m t is stands = record { begins = is.begins; stands = stands b (founded_as t) is.begins (start_as t is.is) }

-- ---- the leaves

module _ {B : Type 0} (names : List (List ℕ)) (rows : List (List Shared)) (stewards callers : List (List SeatView)) where
  -- a new leaf over this berth
  abbrev pub new_hold : ℕ → B → Hold B
  new_hold leaf b = record { tables = row rows leaf; callers = column leaf callers; held = Some (IsDown (seated_at names rows stewards leaf), b) }

  abbrev holds_from : ℕ → List B → List (Hold B)
  holds_from from bs = new_holds from names rows stewards callers bs

  hold_at : (from : ℕ) (bs : List B) (i leaf : ℕ) (x : Hold B) → leaf ≡ from + i → slice_get (holds_from from bs) i ≡ Some x → (b : B) × (slice_get bs i ≡ Some b) × (new_hold leaf b ≡ x)
  hold_at from [] i leaf x e at = absurd cc
  hold_at from (b ∷ bs) zero leaf x e at =
      let same : leaf ≡ from = omega (arith, e) in
      (b, refl, ap (λ n. new_hold n b) same ∙ same_some (new_hold from b) x at)
  hold_at from (b ∷ bs) (suc i) leaf x e at = hold_at (suc from) bs i leaf x (omega (arith, e)) at

  -- each of them is held with its berth
  each_held : (from : ℕ) (bs : List B) → AreHeld bs (holds_from from bs)
  each_held from [] = refl
  each_held from (b ∷ bs) = ap (λ (os : List (Option B)). Some b ∷ os) (each_held (suc from) bs)

-- ---- a crew over a new fleet, for the fleet of some items

module _ {B : Type 0} (base : ℕ → Option NamedStates) (meaning : B → Meaning) (berths : List B) {items : List Item} {plan : FleetShape} {copy : List (List ℕ)} {rows : List (List Shared)} {stewards callers : List (List SeatView)}
    (fits : IsFleetOf items plan) (copied : copy ≡ plan.names) (are : AreBases base meaning berths) (enough : leaves_in items ≤ length berths)
    (made : IsNewFleet (table_bases base plan.names) (leaf_count plan) plan.names 65536 rows stewards callers) where
  are_names : AreNames copy
  are_names = subst AreNames (sym copied) fits.are_names

  tables_at : (leaf : ℕ) → leaf < leaf_count plan → AreNewTables (base leaf) copy (row rows leaf) (row stewards leaf) (column leaf callers)
  tables_at leaf below =
      new_tables base copy (leaf_count plan) rows stewards callers (subst (λ (ns : List (List ℕ)). IsNewFleet (table_bases base ns) (leaf_count plan) ns 65536 rows stewards callers) (sym copied) made) leaf below

  pub alike_at : (leaf : ℕ) → leaf < leaf_count plan → AreAlike (seated_at copy rows stewards leaf)
  alike_at leaf below = alike (tables_at leaf below)

  pub ready_at : (leaf : ℕ) (b : B) → leaf < leaf_count plan → slice_get berths leaf ≡ Some b → AreFounded (seated_at copy rows stewards leaf)
      → (states : NamedStates) × MayBegin states (meaning b) × StartAs states (seated_at copy rows stewards leaf)
  ready_at leaf b below at founded = ready (meaning b) are_names (tables_at leaf below) (are leaf b at) founded

  new_is : (leaf : ℕ) (b : B) (known : Option Known) → leaf < leaf_count plan → slice_get berths leaf ≡ Some b → IsKnown (base leaf) (meaning b) known
      → StandsThere (IsDown (seated_at copy rows stewards leaf)) (meaning b) → IsNewHold meaning copy (base leaf) known (new_hold copy rows stewards callers leaf b)
  new_is leaf b known below at is stands =
      let tables = tables_at leaf below in
      record {
        seated = seated_at copy rows stewards leaf;
        berth = b;
        down = refl;
        tables = refl;
        in_place = in_place tables are_names;
        callers_are = tables.callers_are ∙ as_many tables;
        first = stands_first (meaning b) tables (are leaf b at) stands;
        is_known = is;
        known_base = known_base (meaning b) known tables (are leaf b at) is;
        unused = tables.unused;
      }

  module _ {fleet : FleetShape} {xs : List (Hold B)} (shape : fleet ≡ fleet_named plan.machines plan.per_machine copy) (holds : xs ≡ new_holds 0 copy rows stewards callers (take (leaf_count plan) berths)) where
    abbrev taken : List B
    taken = take (leaf_count plan) berths

    are_held : AreHeld taken xs
    are_held = subst (λ (ys : List (Hold B)). AreHeld taken ys) (sym holds) (each_held copy rows stewards callers 0 taken)

    pub crew_of : {rest : List B} → rest ≡ drop (leaf_count plan) berths → IsCrewOf items fleet berths rest xs
    crew_of left = record {
      is = shape ∙ (ap (fleet_named plan.machines plan.per_machine) copied ∙ sym fits.is);
      names = subst (λ (f : FleetShape). AreNames f.names) (sym fits.is) fits.are_names;
      enough = enough;
      held = subst (λ (f : FleetShape). AreHeld (take (leaf_count f) berths) xs) (sym fits.is) are_held;
      left = left ∙ ap (λ (f : FleetShape). drop (leaf_count f) berths) (sym fits.is);
    }

    -- nothing was written yet
    pub run_begins : {was : Option (List ℕ)} {watches : List Held}
        → ((leaf : ℕ) (x : Hold B) (l : Leaf) (b : B) (states : NamedStates) → slice_get xs leaf ≡ Some x → x.held ≡ Some (l, b) → AreFounded (seated_of l) → MayBegin states (meaning b)
        → StartAs states (seated_of l) → LeafStands states l (meaning b))
        → RunSoFar base meaning fleet xs was was watches watches [] [] xs
    run_begins {was} {watches} stands = record {
      played = [];
      items_are = refl;
      text = appends_none was;
      has = record {
        heard = refl;
        counted = counted_none meaning xs;
        time = pass_none meaning xs;
        session = λ known is. begins meaning (berths_in xs) fleet base known xs (subst (λ (f : FleetShape). AreNames f.names) (sym shape) are_names) count
            (subst (λ (bs : List B). AreHeld bs xs) (sym had) are_held) (each_new known is);
      };
      followed = λ known is histories on. refl;
    }
      where
        had : berths_in xs ≡ taken
        had = held_berths taken xs are_held

        below_length : leaf_count plan ≤ length berths
        below_length = subst (λ (f : FleetShape). leaf_count f ≤ length berths) fits.is enough

        count : length xs ≡ leaf_count fleet
        count = sym (held_count taken xs are_held) ∙ (length-take-le (leaf_count plan) berths below_length ∙ ap (λ (f : FleetShape). leaf_count f) (sym shape))

        each_new : (known : ℕ → Option Known) → AreKnown meaning (berths_in xs) (berths_in xs) base known → (leaf : ℕ) (x : Hold B) → slice_get xs leaf ≡ Some x
            → IsNewHold meaning fleet.names (base leaf) (known leaf) x
        each_new known is leaf x at =
            let there = hold_at copy rows stewards callers 0 taken leaf leaf x (omega arith) (subst (λ (ys : List (Hold B)). slice_get ys leaf ≡ Some x) holds at) in
            let b = there.0 in
            let here : slice_get berths leaf ≡ Some b = get_take (leaf_count plan) berths leaf b there.1 in
            let below : leaf < leaf_count plan = omega (arith, within taken leaf b there.1, length-take-le (leaf_count plan) berths below_length) in
            let down : Leaf = IsDown (seated_at copy rows stewards leaf) in
            let held : x.held ≡ Some (down, b) = ap (λ (y : Hold B). y.held) (sym there.2) in
            let known_here = is leaf b (ap (λ (bs : List B). slice_get bs leaf) had ∙ there.1) in
            let stands_here : StandsThere down (meaning b) = λ states founded begins_there starts. stands leaf x down b states at held founded begins_there starts in
            subst (λ (f : FleetShape). IsNewHold meaning f.names (base leaf) (known leaf) x) (sym shape)
            (subst (IsNewHold meaning copy (base leaf) (known leaf)) there.2 (new_is leaf b (known leaf) below here known_here stands_here))
