-- What stands of a leaf at a meeting, when a run begins, and when it has ended.
use Rattle.std.proofs.Common.{Option, ◌≡◌, ℕ, zero, suc, ◌+◌, List, [], ◌∷◌, length, map, Some, refl, sym, ap, ap₂, subst, ◌∙◌, arith}
use Rattle.std.specs.Prelude.{IsTrue, IfSome, slice_get}
use Rattle.berth_face.specs.Berth.{Meaning}
use Rattle.berth_face.specs.Moments.{EachNow}
use Rattle.leaf_history.specs.History.{Entry, HistoryState}
use Rattle.region_layout.specs.Region.{reads}
use Rattle.leaf_opening.specs.Starts.{IsWayLeft}
use Rattle.turnstile.specs.Seats.{unused_seat}
use Rattle.crash_moments.specs.Left.{NamedStates, Left}
use Rattle.crash_moments.specs.Told as moments
use Rattle.crash_moments.specs.Told.{SeenMore}
use Rattle.crash_moments.specs.Watched.{Watched}
use Rattle.crash_moments.proofs.Telling.{none_more, told_join}
use Rattle.crash_states.proofs.Lefts.{runs_told, rests_told}
use Rattle.crash_states.proofs.Whole.{runs_whole, rests_whole}
use Rattle.crash_states.proofs.Meeting.{callers_between}
use Rattle.crash_states.specs.Standing.{states_of_tables}
use Rattle.leaf_table.specs.Turns.{Shared, start_of}
use Rattle.leaf_table.specs.Calls.{SeatView, base_seen, name_of, seen_of}
use Rattle.leaf_words.specs.declared.note.Note.{Note}
use Rattle.leaf_steward.specs.Seated.{Seated, AreFounded, AtEach, watch, watched_by}
use Rattle.leaf_machine.specs.Leaving.{LeavesBegin}
use Rattle.crash_states.specs.Beginning.{BeginsAgain}
use Rattle.transcript.specs.Base.{watched_from}
use Rattle.leaf_moves.specs.Stage.{Leaf, IsDown, IsUp, IsPreparing, LeafStands, StandsOn, AreHandedNothing, Carries, seated_of, seated_with, with_seats}
use Rattle.transcript.specs.Life.{Life}
use Rattle.transcript.specs.Leaving.{LeavesBerth}
use Rattle.transcript.specs.Histories.{BaseState}
use Rattle.transcript.specs.Transcript.{Known, base_state_of}
use Rattle.transcript_leaf.specs.Session.{AreInPlace}
use Rattle.transcript_leaf.proofs.TableMeets.{HasLearned}
use Rattle.transcript_leaf.proofs.Ways.{drained_way, found_way}
use Rattle.transcript_leaf.proofs.CountingNotes.{AreFoundedWith, are_founded, as_many}

-- ---- the tables of a leaf as they are watched

-- by their names, and what is known of each seat's history
watch_with : (base : NamedStates) (histories : ℕ → List Entry) (first : ℕ) (ts : List Shared) (vs : List SeatView) → length vs ≡ length ts
    → ((place : ℕ) (t : Shared) (v : SeatView) → slice_get ts place ≡ Some t → slice_get vs place ≡ Some v → (start_of (base_seen t) ≡ base (name_of t)) × (seen_of v ≡ histories (first + place)))
    → watch ts vs ≡ watched_from first (map name_of ts) base histories
watch_with base histories first [] vs count each = refl
watch_with base histories first (t ∷ ts) [] count each = absurd (omega (arith, count))
watch_with base histories first (t ∷ ts) (v ∷ vs) count each =
    let here = each zero t v refl refl in
    let seen : seen_of v ≡ histories first = here.1 ∙ ap histories (no_more first) in
    ap₂ (λ (w : Watched) (ws : List Watched). w ∷ ws)
    (ap₂ (λ (b : HistoryState) (es : List Entry). record { name = name_of t; base = b; seen = es }) here.0 seen)
    (watch_with base histories (suc first) ts vs (omega (arith, count)) (λ place u w at sat.
    let later = each (suc place) u w at sat in
    (later.0, later.1 ∙ ap histories (one_more first place))))
  where
    no_more : (n : ℕ) → n + 0 ≡ n
    no_more n = omega arith

    one_more : (n place : ℕ) → n + suc place ≡ suc n + place
    one_more n place = omega arith

watched_as : (names : List (List ℕ)) (base : NamedStates) (histories : ℕ → List Entry) (x : Seated) → AreInPlace names x → AreFoundedWith base x
    → AtEach (λ place t v. seen_of v ≡ histories place) x → watched_by x ≡ watched_from 0 names base histories
watched_as names base histories x in_place founded seen =
    watch_with base histories 0 x.tables x.seats (in_place.seats ∙ sym (as_many names x.tables in_place.named)) each
    ∙ ap (λ (ns : List (List ℕ)). watched_from 0 ns base histories) in_place.named
  where
    none_before : (place : ℕ) → place ≡ 0 + place
    none_before place = omega arith

    each : (place : ℕ) (t : Shared) (v : SeatView) → slice_get x.tables place ≡ Some t → slice_get x.seats place ≡ Some v → (start_of (base_seen t) ≡ base (name_of t)) × (seen_of v ≡ histories (0 + place))
    each place t v at sat = ((founded place t v at sat).1, seen place t v at sat ∙ ap histories (none_before place))

-- ---- what stands is told

stands_told : (base : NamedStates) (leaf : Leaf) (before : List Watched) (m : Meaning) → LeafStands base leaf m → SeenMore m.clock m.clock before (watched_by (seated_of leaf))
    → moments.Told base before (watched_by (seated_of leaf)) m m
stands_told base (IsDown x) before m stands more = rests_told before (watched_by x) base stands.0 stands.1 m stands.2 more
stands_told base (IsUp x) before m stands more = runs_told before (watched_by x.seated) base x.owing.owner x.owing.log stands.0 m stands.1 more
stands_told base (IsPreparing x) before m stands more =
    runs_told before (watched_by x.serving.seated) base x.serving.owing.owner x.serving.owing.log stands.0 m stands.1 more

-- ---- a meeting

-- the leaf is the same but for its steward's seats, each of which has learned callers' entries alone
pub record LeafMeets (known : Option Known) (leaf leaf' : Leaf) (m : Meaning) : Type 0 where
  pub seats : List SeatView
  pub leaf_is : leaf' ≡ with_seats leaf seats
  pub count : length seats ≡ length (seated_of leaf).seats
  pub each : (place : ℕ) (t : Shared) (v w : SeatView) → slice_get (seated_of leaf).tables place ≡ Some t → slice_get (seated_of leaf).seats place ≡ Some v → slice_get seats place ≡ Some w
      → HasLearned (base_state_of known (name_of t)) v w
  pub stands : (base : NamedStates) → IsTrue m.tells → AreFounded (seated_of leaf) → LeafStands base leaf m → LeafStands base leaf' m

watch_learned : (from to : ℕ) (g : Shared → BaseState) (ts : List Shared) (vs ws : List SeatView) → length ws ≡ length vs
    → ((place : ℕ) (t : Shared) (v w : SeatView) → slice_get ts place ≡ Some t → slice_get vs place ≡ Some v → slice_get ws place ≡ Some w → HasLearned (g t) v w)
    → SeenMore from to (watch ts vs) (watch ts ws)
watch_learned from to g [] vs ws count each = tt
watch_learned from to g (t ∷ ts) [] [] count each = tt
watch_learned from to g (t ∷ ts) [] (w ∷ ws) count each = absurd (omega (arith, count))
watch_learned from to g (t ∷ ts) (v ∷ vs) [] count each = absurd (omega (arith, count))
watch_learned from to g (t ∷ ts) (v ∷ vs) (w ∷ ws) count each =
    let here = each zero t v w refl refl refl in (
      (refl, refl, (here.more, here.seen, callers_between from to here.more here.callers)),
      watch_learned from to g ts vs ws (omega (arith, count)) (λ place u a b at sat sat'. each (suc place) u a b at sat sat'),
    )

-- the leaf is the same but for its seats
pub seats_become : (leaf : Leaf) (seats : List SeatView) → seated_of (with_seats leaf seats) ≡ seated_with (seated_of leaf) seats
seats_become (IsDown x) seats = refl
seats_become (IsUp x) seats = refl
seats_become (IsPreparing x) seats = refl

-- at each table, at one moment
met_more : (known : Option Known) (leaf leaf' : Leaf) (m : Meaning) → LeafMeets known leaf leaf' m → SeenMore m.clock m.clock (watched_by (seated_of leaf)) (watched_by (seated_of leaf'))
met_more known leaf leaf' m met =
    subst (λ (ws : List Watched). SeenMore m.clock m.clock (watched_by (seated_of leaf)) ws) (sym now)
    (watch_learned m.clock m.clock (λ t. base_state_of known (name_of t)) (seated_of leaf).tables (seated_of leaf).seats met.seats met.count met.each)
  where
    now : watched_by (seated_of leaf') ≡ watch (seated_of leaf).tables met.seats
    now = ap (λ (l : Leaf). watched_by (seated_of l)) met.leaf_is ∙ ap (λ (s : Seated). watched_by s) (seats_become leaf met.seats)

-- at a meeting no time passes, and the steward's seats learn callers' entries alone
pub stands_met : (names : List (List ℕ)) (base : NamedStates) (known : Option Known) (leaf leaf' : Leaf) (m : Meaning)
    → IsTrue m.tells → AreInPlace names (seated_of leaf) → AreFoundedWith base (seated_of leaf) → LeafStands base leaf m → LeafMeets known leaf leaf' m
    → StandsOn base leaf leaf' m m
stands_met names base known leaf leaf' m tells in_place founded stands met =
    let still : LeafStands base leaf' m = met.stands base tells (are_founded names (seated_of leaf) in_place base founded) stands in
    record {
      stands = still;
      told = stands_told base leaf' (watched_by (seated_of leaf)) m still (met_more known leaf leaf' m met);
    }

-- what was told up to a call and what it tells
pub told_on : (base : NamedStates) (names : List (List ℕ)) (leaf leaf' : Leaf) (old m m' : Meaning)
    → moments.Told base (watched_from 0 names base (λ table. [])) (watched_by (seated_of leaf)) old m → StandsOn base leaf leaf' m m'
    → moments.Told base (watched_from 0 names base (λ table. [])) (watched_by (seated_of leaf')) old m'
told_on base names leaf leaf' old m m' so_far on =
    told_join base (watched_from 0 names base (λ table. [])) (watched_by (seated_of leaf)) (watched_by (seated_of leaf')) old m m' so_far on.told

-- where the tables are founded with the base, they are founded
pub stands_carried : (names : List (List ℕ)) (base : NamedStates) (leaf leaf' : Leaf) (notes : List Note) (m m' : Meaning)
    → IsTrue m.tells → AreInPlace names (seated_of leaf) → AreFoundedWith base (seated_of leaf) → AreHandedNothing base
    → LeafStands base leaf m → Carries leaf leaf' notes m m' → StandsOn base leaf leaf' m m'
stands_carried names base leaf leaf' notes m m' tells in_place founded sound stands carries =
    carries.stands base tells (are_founded names (seated_of leaf) in_place base founded) sound stands

-- ---- the first moment and the last

-- a run begins
pub told_first : (names : List (List ℕ)) (base : NamedStates) (x : Seated) (m : Meaning)
    → AreInPlace names x → AreFoundedWith base x → AtEach (λ place t v. v ≡ unused_seat t.site 0 1 1024) x → LeafStands base (IsDown x) m
    → moments.Told base (watched_from 0 names base (λ table. [])) (watched_by x) m m
told_first names base x m in_place founded unused stands =
    let none : AtEach (λ place t v. seen_of v ≡ []) x = λ place t v at sat. ap (λ (s : SeatView). seen_of s) (unused place t v at sat) in
    let first : watched_by x ≡ watched_from 0 names base (λ table. []) = watched_as names base (λ table. []) x in_place founded none in
    stands_told base (IsDown x) (watched_from 0 names base (λ table. [])) m stands
    (subst (λ (ws : List Watched). SeenMore m.clock m.clock ws (watched_by x)) first (none_more m.clock m.clock (watched_by x)))

-- a leaf may begin again over what stands of one
stands_begin : (base : NamedStates) (leaf : Leaf) (m : Meaning) → LeavesBegin m → IsTrue m.tells → AreHandedNothing base → LeafStands base leaf m → BeginsAgain (states_of_tables base (watched_by (seated_of leaf)) m) m
stands_begin base (IsDown x) m law tells sound stands = law.rests (watched_by x) base stands.0 stands.1 tells stands.2
stands_begin base (IsUp x) m law tells sound stands = law.runs (watched_by x.seated) base x.owing.owner x.owing.log stands.0 tells sound stands.1
stands_begin base (IsPreparing x) m law tells sound stands =
    law.runs (watched_by x.serving.seated) base x.serving.owing.owner x.serving.owing.log stands.0 tells sound stands.1

-- what a crash leaves now belongs to its tables with all their entries
stands_whole : (base : NamedStates) (leaf : Leaf) (m : Meaning) → LeafStands base leaf m → EachNow (λ p. Left reads (states_of_tables base (watched_by (seated_of leaf)) m) p) m
stands_whole base (IsDown x) m stands = rests_whole (watched_by x) base stands.0 stands.1 m stands.2
stands_whole base (IsUp x) m stands = runs_whole (watched_by x.seated) base x.owing.owner x.owing.log stands.0 m stands.1
stands_whole base (IsPreparing x) m stands = runs_whole (watched_by x.serving.seated) base x.serving.owing.owner x.serving.owing.log stands.0 m stands.1

-- it has ended, and its seats have seen these histories
pub leaves_met : (names : List (List ℕ)) (base : NamedStates) (life : Life) (leaf : Leaf) (histories : ℕ → List Entry) (old m : Meaning)
    → LeavesBegin m → IsTrue m.tells → AreHandedNothing base → AreInPlace names (seated_of leaf) → AreFoundedWith base (seated_of leaf)
    → AtEach (λ place t v. seen_of v ≡ histories place) (seated_of leaf)
    → LeafStands base leaf m → moments.Told base (watched_from 0 names base (λ table. [])) (watched_by (seated_of leaf)) old m
    → IfSome life.way (IsWayLeft life.begun m.held.region)
    → LeavesBerth names base life histories old m
leaves_met names base life leaf histories old m law tells sound in_place founded seen stands so_far way =
    let last : watched_by (seated_of leaf) ≡ watched_from 0 names base histories = watched_as names base histories (seated_of leaf) in_place founded seen in
    record {
      crash = subst (λ (ws : List Watched). moments.Told base (watched_from 0 names base (λ table. [])) ws old m) last so_far;
      left = subst (λ (ws : List Watched). EachNow (λ p. Left reads (states_of_tables base ws m) p) m) last (stands_whole base leaf m stands);
      begins = subst (λ (ws : List Watched). BeginsAgain (states_of_tables base ws m) m) last (stands_begin base leaf m law tells sound stands);
      way = found_way life.begun m.held.region life.way way;
      layout = drained_way life.begun m.held.region life.way way;
    }
