-- One leaf in the middle of a run: what holds of the lines so far, of each of its tables, and of the leaf, as a player
-- holds it or seats of it. The player is the run, or a lane of a burst. The pieces are those of all leaves.
use Rattle.std.specs.Prelude.{◌≡◌, ◌⊎◌, ℕ, suc, ◌+◌, ◌<◌, ◌≤◌, ◌==◌, true, false, List, [], ◌∷◌, ◌++◌, length, map, take, Option, Some, None, IfSome, is_some, slice_get, IsPermutation, IsTrue, ⊤}
use Rattle.std.specs.List.{AllByRecursion}
use Rattle.berth_face.specs.Berth.{Meaning, Pair}
use Rattle.leaf_history.specs.History.{Entry, LegalFrom, after}
use Rattle.row_model.specs.Names.{AreDistinct}
use Rattle.leaf_words.specs.declared.note.Note.{Note}
use Rattle.adopt.specs.Adopting.{HasNoStranger}
use Rattle.disk_backup.specs.Scanning.{BeginsScan}
use Rattle.leaf_opening.specs.Starts.{IsWayLeft}
use Rattle.crash_moments.specs.Left.{NamedStates}
use Rattle.crash_moments.specs.Told as moments
use Rattle.crash_moments.specs.Watched.{was_opened}
use Rattle.turnstile.specs.Ids.{InShare}
use Rattle.turnstile.specs.Seats.{AreIds, Owns, unused_seat}
use Rattle.leaf_table.specs.Turns.{Shared, is_founded, start_of}
use Rattle.leaf_table.specs.Calls.{SeatView, OwnsTheRest, SeesShut, base_seen, name_of, seen_of, state_of, state_seen}
use Rattle.leaf_steward.specs.Seated.{Seated, AtEach, watched_by}
use Rattle.leaf_machine.specs.States.{IsShutAndTaken}
use Rattle.crash_states.specs.Beginning.{MayBegin}
use Rattle.transcript.specs.Base.{LogHas, watched_from}
use Rattle.transcript.specs.Pieces.{Piece, Called, Worn, Acted, Says, Did, PlayedItem, all_pieces, deeds}
use Rattle.transcript.specs.Life.{Life, Down, Lives, first_open}
use Rattle.transcript.specs.Histories.{BaseState, InOrder, Shown, ShowsEntry, shown}
use Rattle.transcript.specs.Strangers.{StrangersIn}
use Rattle.transcript.specs.Moments.{MomentsRise, notes_told}
use Rattle.transcript.specs.Answers.{columns_of, last_of}
use Rattle.transcript.specs.Transcript.{Known, first_life, base_state_of}
use Rattle.transcript.specs.Leaving.{IsKnown}
use Rattle.leaf_moves.specs.Stage.{Leaf, IsDown, IsUp, IsPreparing, seated_of, LeafStands, AreHandedNothing}
use Rattle.leaf_moves.specs.Modes.{mode_of, progress_of}
use Rattle.leaf_moves.specs.Holds.{Hold, caller_in, steward_in}

-- ---- one table

-- Lines with numbers from n on tell exactly the entries whose ids satisfy O, in order, each once.
abbrev pub TellsOf : (ℕ → Type 0) → ℕ → List Shown → List Entry → Type 0
TellsOf O n ss [] = ss ≡ []
TellsOf O n ss (e ∷ es) = ((O e.caller → ⊥) × TellsOf O (suc n) ss es)
    ⊎ (O e.caller × (s : Shown) × (rest : List Shown) × (ss ≡ s ∷ rest) × (s.number ≡ n) × ShowsEntry s.call s.said e × TellsOf O (suc n) rest es)

abbrev pub OwnedBy : Option SeatView → ℕ → Type 0
OwnedBy None id = ⊥
OwnedBy (Some v) id = Owns v id

-- the ids of the steward's seat and of the callers', if they are there
abbrev pub OneOf : Option SeatView → Option SeatView → ℕ → Type 0
OneOf v c id = OwnedBy v id ⊎ OwnedBy c id

-- ids of callers that are outside the share from `id` on
abbrev pub StandApart : ℕ → ℕ → List ℕ → Type 0
StandApart id share ids = AllByRecursion (λ (x : ℕ). (0 < x) × (InShare id share x → ⊥)) ids

-- the steward's seat owns the id 0 alone; a callers' seat owns others, and the ids that it took over are outside its
-- share
pub record IsStewards (v : SeatView) : Type 0 where
  pub id : v.id ≡ 0
  pub share : v.share ≡ 1
  pub taken : v.taken ≡ []

pub record IsCallers (c : SeatView) : Type 0 where
  pub id : 0 < c.id
  pub share : 0 < c.share
  pub apart : StandApart c.id c.share c.taken

-- A table at which a player holds these seats. The stretch of the run began after the entries `start`. `met`: what the
-- steward's seat has seen since then, up to the last meeting. `since`: what the callers' seat has seen after that
-- meeting. The lines of both tell these entries, by their numbers.
pub record TableSession (g : BaseState) (start : List Entry) (number table : ℕ) (items : List PlayedItem) (v c : Option SeatView) : Type 0 where
  pub stewards : IfSome v IsStewards
  pub callers : IfSome c IsCallers
  pub met : List Entry
  pub since : List Entry
  pub seen_steward : IfSome v (λ s. seen_of s ≡ start ++ met)
  pub seen_caller : IfSome c (λ s. seen_of s ≡ start ++ (met ++ since))
  pub alone : (c ≡ None → since ≡ []) × (v ≡ None → met ≡ [])
  pub told : List Shown
  pub later : List Shown
  pub lines : IsPermutation (shown number table (all_pieces items)) (told ++ later)
  pub tells : TellsOf (OneOf v c) (suc (length start)) told met
  pub tells_later : TellsOf (OwnedBy c) (suc (length start) + length met) later since
  pub order : InOrder number table (length start) items (length start + length (met ++ since))
  pub legal : LegalFrom g.founded g.base (start ++ (met ++ since))

-- ---- the leaf, and what is printed of it

-- all that was taken of the table is flushed: n writes
abbrev pub IsSettled : NamedStates → Shared → SeatView → ℕ → Type 0
IsSettled base t v n = ((after true (base (name_of t)) (seen_of v)).taken ≡ n) × ((after true (base (name_of t)) (seen_of v)).flushed ≡ n)

-- P holds of each table and its count
abbrev pub AtCounts : (Shared → SeatView → ℕ → Type 0) → Seated → List ℕ → Type 0
AtCounts P x counts = AtEach (λ place t v. (n : ℕ) → slice_get counts place ≡ Some n → P t v n) x

-- the log has exactly this many writes of each table: at rest as the disk reads; serving, as nothing is owed, all that
-- were taken
abbrev pub IsDurable : NamedStates → List ℕ → Leaf → Meaning → Type 0
IsDurable base counts (IsDown x) m = (length counts ≡ length x.tables) × AtCounts (λ t v n. LogHas m.held.disk (name_of t) n) x counts
IsDurable base counts (IsUp x) m = (length counts ≡ length x.seated.tables) × (x.owing.log.owed ≡ None) × AtCounts (IsSettled base) x.seated counts
IsDurable base counts (IsPreparing x) m = (length counts ≡ length x.serving.seated.tables) × (x.serving.owing.log.owed ≡ None)
    × AtCounts (IsSettled base) x.serving.seated counts
    × AtEach (λ place t v. place < first_open (progress_of x) → IsShutAndTaken (after true (base (name_of t)) (seen_of v))) x.serving.seated

-- the claims on the next start hold; over a berth without a known base there are none
abbrev pub FitsNext : Option Known → Life → Leaf → Meaning → Type 0
FitsNext None life leaf m = (life.way ≡ None) × (life.durable ≡ None)
FitsNext (Some k) life leaf m = IfSome life.way (IsWayLeft life.begun m.held.region) × IfSome life.durable (λ counts. IsDurable k.base counts leaf m)

-- the tables begin with what is known of the leaf
abbrev pub HaveKnownBase : Option Known → Seated → Type 0
HaveKnownBase known x = AtEach (λ place t v. (is_founded (base_seen t) ≡ (base_state_of known (name_of t)).founded) × (start_of (base_seen t) ≡ (base_state_of known (name_of t)).base)) x

-- the leaf has tables of these names, and the steward's seat at each
pub record AreInPlace (names : List (List ℕ)) (x : Seated) : Type 0 where
  pub named : map name_of x.tables ≡ names
  pub same_names : x.names ≡ names
  pub seats : length x.seats ≡ length names
  pub distinct : AreDistinct names

-- ---- a leaf with a known base

-- the berth tells its contents, and region and disk hold what belongs to the leaf
pub record StandsKnown (k : Known) (leaf : Leaf) (m : Meaning) : Type 0 where
  pub tells : IsTrue m.tells
  pub sound : AreHandedNothing k.base
  pub stands : LeafStands k.base leaf m

-- until the leaf is first up, the disk reads as it was handed in, but for the first byte of a disk of at most one; and
-- each start fits the strangers that there are
pub record AreNamed (number : ℕ) (names : List (List ℕ)) (held : Pair) (life : Life) (pieces : List Piece) (m : Meaning) : Type 0 where
  pub rest : life.begun ≡ false → (life.mode ≡ Down) × BeginsScan (length held.disk) held.disk m.held.disk
  pub on : (more : List Did) → (life.begun ≡ false → StrangersIn names held.disk m.held.region more) → StrangersIn names held.disk held.region (deeds number pieces ++ more)

-- the leaf was up: some table was opened, and its region names no stranger
pub record IsOwn (names : List (List ℕ)) (x : Seated) (m : Meaning) : Type 0 where
  pub opened : was_opened m.clock (watched_by x) ≡ true
  pub region : HasNoStranger names m.held.region

-- a leaf with a known base, whose berth meant `old` when the run began
pub record KnownLeaf (number : ℕ) (names : List (List ℕ)) (old : Meaning) (life : Life) (pieces : List Piece) (leaf : Leaf) (m : Meaning) (k : Known) : Type 0 where
  pub now : StandsKnown k leaf m
  pub told : moments.Told k.base (watched_from 0 names k.base (λ table. [])) (watched_by (seated_of leaf)) old m
  pub named : AreNamed number names k.held life pieces m
  pub own : life.begun ≡ true → IsOwn names (seated_of leaf) m

-- ---- the leaf so far

-- what the table begins with
abbrev pub base_state_of_table : Shared → BaseState
base_state_of_table t = record { founded = is_founded (base_seen t); base = start_of (base_seen t) }

-- the base states of the tables, and histories that go on from what the seats have seen
pub record AreToldOn (base_states : ℕ → BaseState) (histories : ℕ → List Entry) (x : Seated) : Type 0 where
  pub known_base : AtEach (λ place t v. base_states place ≡ base_state_of_table t) x
  pub on : (place : ℕ) (v : SeatView) → slice_get x.seats place ≡ Some v → (more : List Entry) × (histories place ≡ seen_of v ++ more)

-- The seat has seen the last entry of the table in these notes. While the table is shut, nothing was written after that
-- entry.
abbrev pub IsNoted : List Note → ℕ → Shared → SeatView → Type 0
IsNoted notes place t v = (last_of place notes ≤ length (seen_of v)) × (SeesShut t v → (state_of (base_seen t) (take (last_of place notes) (seen_of v))).writes ≡ (state_seen (base_seen t) v).writes)

-- A leaf that is held, after these pieces of the run. Its berth meant `old` when the run began, and means `m` now. Its
-- life tells its deeds, and the moments of its steward's entries do not fall, however the histories go on.
pub record LeafHeld (number : ℕ) (names : List (List ℕ)) (known : Option Known) (old : Meaning) (pieces : List Piece) (leaf : Leaf) (m : Meaning) : Type 0 where
  pub life : Life
  pub lives : (base_states : ℕ → BaseState) (histories : ℕ → List Entry) → AreToldOn base_states histories (seated_of leaf)
      → Lives (is_some known) (length names) (columns_of base_states histories (length names)) [] (first_life known names) (deeds number pieces) life
  pub moments : (base_states : ℕ → BaseState) (histories : ℕ → List Entry) → AreToldOn base_states histories (seated_of leaf) → MomentsRise histories old.clock (notes_told number pieces) m.clock
  pub noted : AtEach (IsNoted (notes_told number pieces)) (seated_of leaf)
  pub in_place : AreInPlace names (seated_of leaf)
  pub known_base : HaveKnownBase known (seated_of leaf)
  pub mode : life.mode ≡ mode_of leaf
  pub next : FitsNext known life leaf m
  pub of_known : IfSome known (KnownLeaf number names old life pieces leaf m)

-- The leaf with this number: a player holds seats at its tables, and maybe the leaf. The stretch began after the pieces
-- `before`, when the history of each table was `start`. Since then these items were played. The whole run is the
-- stretch that began with nothing.
pub record LeafSession {B : Type 0} (meaning : B → Meaning) (number : ℕ) (names : List (List ℕ)) (known : Option Known) (old : Meaning) (before : List Piece) (start : ℕ → List Entry)
    (items : List PlayedItem) (x : Hold B) : Type 0 where
  pub named : map name_of x.tables ≡ names
  pub callers_are : length x.callers ≡ length names
  pub tables : (place : ℕ) (t : Shared) → slice_get x.tables place ≡ Some t
      → TableSession (base_state_of known (name_of t)) (start place) number place items (steward_in x.held place) (caller_in x.callers place)
  pub known_base : (place : ℕ) (t : Shared) → slice_get x.tables place ≡ Some t
      → (is_founded (base_seen t) ≡ (base_state_of known (name_of t)).founded) × (start_of (base_seen t) ≡ (base_state_of known (name_of t)).base)
  pub held : (leaf : Leaf) (b : B) → x.held ≡ Some (leaf, b) → (map name_of (seated_of leaf).tables ≡ map name_of x.tables) × LeafHeld number names known old (before ++ all_pieces items) leaf (meaning b)

-- the run holds the leaf, and at each table a seat with all ids but the steward's
pub record IsWhole {B : Type 0} (x : Hold B) : Type 0 where
  pub leaf : Leaf
  pub berth : B
  pub held : x.held ≡ Some (leaf, berth)
  pub seats : (place : ℕ) → place < length x.callers → (c : SeatView) × (slice_get x.callers place ≡ Some (Some c)) × OwnsTheRest c

-- each steward's seat has seen what the callers' has, and its entries have only ids of the turnstile
abbrev pub AreMet : {B : Type 0} → Hold B → Type 0
AreMet x = (place : ℕ) (v c : SeatView) → steward_in x.held place ≡ Some v → caller_in x.callers place ≡ Some c → (seen_of v ≡ seen_of c) × AreIds c.seen

-- the two hold no id in common
abbrev pub AreApart : {B : Type 0} → Hold B → Hold B → Type 0
AreApart x y = (place id : ℕ) → OneOf (steward_in x.held place) (caller_in x.callers place) id → OneOf (steward_in y.held place) (caller_in y.callers place) id → ⊥

-- ---- pieces of other leaves

-- the piece tells nothing of leaf `number`
abbrev pub IsOthers : ℕ → Piece → Type 0
IsOthers number (Called leaf table c n said) = (leaf == number) ≡ false
IsOthers number (Worn leaf table) = (leaf == number) ≡ false
IsOthers number (Acted leaf deed notes ending) = (leaf == number) ≡ false
IsOthers number (Says line) = ⊤

-- the piece is no deed of leaf `number`
abbrev pub IsNoDeed : ℕ → Piece → Type 0
IsNoDeed number (Called leaf table c n said) = ⊤
IsNoDeed number (Worn leaf table) = ⊤
IsNoDeed number (Acted leaf deed notes ending) = (leaf == number) ≡ false
IsNoDeed number (Says line) = ⊤

abbrev pub HasNoDeed : ℕ → List Piece → Type 0
HasNoDeed number pieces = AllByRecursion (IsNoDeed number) pieces

-- both hold the same ids at each table, and both hold the leaf or neither does
pub record AreSame {B : Type 0} (x y : Hold B) : Type 0 where
  pub ids : (place id : ℕ) → (OneOf (steward_in x.held place) (caller_in x.callers place) id → OneOf (steward_in y.held place) (caller_in y.callers place) id)
      × (OneOf (steward_in y.held place) (caller_in y.callers place) id → OneOf (steward_in x.held place) (caller_in x.callers place) id)
  pub held : is_some x.held ≡ is_some y.held

-- z holds what x and y held
pub record HoldsBoth {B : Type 0} (x y z : Hold B) : Type 0 where
  pub ids : (place id : ℕ) → (OneOf (steward_in z.held place) (caller_in z.callers place) id
      → OneOf (steward_in x.held place) (caller_in x.callers place) id ⊎ OneOf (steward_in y.held place) (caller_in y.callers place) id)
      × (OneOf (steward_in x.held place) (caller_in x.callers place) id ⊎ OneOf (steward_in y.held place) (caller_in y.callers place) id
      → OneOf (steward_in z.held place) (caller_in z.callers place) id)
  pub held : (is_some x.held ≡ false → is_some z.held ≡ is_some y.held) × (is_some y.held ≡ false → is_some z.held ≡ is_some x.held)
  pub one : (is_some x.held ≡ false) ⊎ (is_some y.held ≡ false)

-- ---- how a run begins

-- a leaf may begin over the berth, which holds what belongs to a leaf at rest
pub record StandsFirst (x : Seated) (m : Meaning) (base : NamedStates) : Type 0 where
  pub begins : MayBegin base m
  pub stands : LeafStands base (IsDown x) m

-- A leaf that is down, with unused seats. If the base of its berth is known, the leaf may begin over the berth with it.
pub record IsNewHold {B : Type 0} (meaning : B → Meaning) (names : List (List ℕ)) (base : Option NamedStates) (known : Option Known) (x : Hold B) : Type 0 where
  pub seated : Seated
  pub berth : B
  pub down : x.held ≡ Some (IsDown seated, berth)
  pub tables : seated.tables ≡ x.tables
  pub in_place : AreInPlace names seated
  pub callers_are : length x.callers ≡ length names
  pub first : IfSome base (StandsFirst seated (meaning berth))
  pub is_known : IsKnown base (meaning berth) known
  pub known_base : HaveKnownBase known seated
  pub unused : (place : ℕ) (t : Shared) → slice_get x.tables place ≡ Some t
      → (slice_get seated.seats place ≡ Some (unused_seat t.site 0 1 1024)) × (slice_get x.callers place ≡ Some (Some (unused_seat t.site 1 65536 65536)))
