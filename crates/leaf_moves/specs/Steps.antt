-- What each command does to the leaves and callers' seats that a player holds: the pieces that it prints, and what then
-- holds.
use Rattle.std.specs.Prelude.{◌≡◌, ◌≢◌, ℕ, zero, suc, ◌+◌, ◌<◌, ◌≤◌, true, List, [], ◌++◌, length, Option, Some, None, Ok, slice_get, slice_set, IsTrue, ⊤}
use Rattle.berth_face.specs.Berth.{Meaning}
use Rattle.leaf_history.specs.Calls.{Call}
use Rattle.leaf_words.specs.declared.ways.WhyDisk.TheVariants as why
use Rattle.adopt.specs.Adopting.{HasNoStranger, IsLeftBehind}
use Rattle.region_head.specs.Closing.{IsBroken}
use Rattle.disk_backup.specs.Scanning.{BeginsScan}
use Rattle.region_layout.specs.Names.{IsName}
use Rattle.leaf_words.specs.declared.ways.Way.{Way}
use Rattle.leaf_words.specs.declared.ways.Way.TheVariants.{Memory, Disk}
use Rattle.leaf_opening.specs.Answers.{IsAnswer}
use Rattle.leaf_opening.specs.Starts.{IsWayLeft, IsWayOf}
use Rattle.crash_moments.specs.Left.{NamedStates}
use Rattle.leaf_table.specs.declared.replies.Reply.{Reply}
use Rattle.leaf_table.specs.declared.replies.Reply.TheVariants as told
use Rattle.leaf_table.specs.Turns.{Shared}
use Rattle.leaf_table.specs.Calls.{SeatView, SeesShut, base_seen, Answered}
use Rattle.leaf_words.specs.declared.note.Note.{Note}
use Rattle.leaf_steward.specs.Seated.{Seated, AreFounded, AtEach}
use Rattle.leaf_steward.specs.Making.{Makes, EachNoted, IsClosedNote, IsHandedNote, WornAt}
use Rattle.leaf_machine.specs.declared.faults.StartFault.{StartFault}
use Rattle.leaf_machine.specs.declared.faults.StartFault.TheVariants as fault
use Rattle.leaf_machine.specs.declared.up.FlushReply.{FlushReply}
use Rattle.leaf_machine.specs.declared.up.FlushReply.TheVariants as reply
use Rattle.leaf_machine.specs.States as state
use Rattle.leaf_machine.specs.States.{Serving, columns_added, columns_seen}
use Rattle.leaf_machine.specs.Starts.{CameUp, IsExactRefusal, IsOpenedNote, IsStartRefused}
use Rattle.leaf_machine.specs.Flushes as flushing
use Rattle.leaf_machine.specs.Prepares.{PreparingIsCrowded}
use Rattle.printed_lines.specs.declared.line.Said.TheVariants as said
use Rattle.printed_lines.specs.declared.line.Ending.{Ending}
use Rattle.printed_lines.specs.declared.line.Ending.TheVariants as ending
use Rattle.printed_lines.specs.declared.line.Deed.{Deed}
use Rattle.printed_lines.specs.declared.line.Deed.TheVariants.{Start, Flush, Drain, Kill}
use Rattle.transcript.specs.Pieces.{Piece, Called, Worn, Acted}
use Rattle.transcript.specs.Life.{DrainComes, Copying, Down, Halts, MayMake, LifeMode, Owed, Preparing, Progress, Shutting, StageOfDrain, Starves, first_open}
use Rattle.leaf_moves.specs.Stage.{Leaf, IsDown, IsUp, IsPreparing, seated_of, LeafStands, ServingStands, AreHandedNothing, Carries, MeetAll}
use Rattle.leaf_moves.specs.Modes.{mode_of, owed_of, progress_of}

-- ---- the calls of callers

-- the piece of a call with this reply
abbrev pub IsReplyPiece : ℕ → ℕ → Call → Reply → Piece → Type 0
IsReplyPiece leaf table c (told.Added number kept late) p = p ≡ Called leaf table c number (said.Added kept late)
IsReplyPiece leaf table c (told.Removed number rows) p = p ≡ Called leaf table c number (said.Removed rows)
IsReplyPiece leaf table c (told.Groups number gs) p = p ≡ Called leaf table c number said.Asked
IsReplyPiece leaf table c (told.Shut number) p = p ≡ Called leaf table c number said.RefusedShut
IsReplyPiece leaf table c (told.Full number) p = p ≡ Called leaf table c number said.RefusedFull
IsReplyPiece leaf table c (told.NoMemory number) p = p ≡ Called leaf table c number said.RefusedMemory
IsReplyPiece leaf table c told.Worn p = p ≡ Worn leaf table

-- a caller's call at a table of a leaf, and its piece
pub record CallStep (leaf table : ℕ) (c : Call) (tables : List Shared) (callers : List (Option SeatView)) (p : Piece) (callers' : List (Option SeatView)) : Type 0 where
  pub shared : Shared
  pub before : SeatView
  pub after : SeatView
  pub reply : Reply
  pub at : slice_get tables table ≡ Some shared
  pub was : slice_get callers table ≡ Some (Some before)
  pub answered : Answered (base_seen shared) before c reply after
  pub now : callers' ≡ slice_set callers table (Some after)
  pub says : IsReplyPiece leaf table c reply p

-- ---- the steward's part of a command, by its notes and its ending

-- the steward makes entries one after another, with these notes
pub record MakesNoted (x : Seated) (notes : List Note) (y : Seated) : Type 0 where
  pub from : ℕ
  pub to : ℕ
  pub made : Makes from to x notes y

abbrev pub IsDownLeaf : Leaf → Type 0
IsDownLeaf (IsDown x) = ⊤
IsDownLeaf (IsUp x) = ⊥
IsDownLeaf (IsPreparing x) = ⊥

abbrev pub IsUpLeaf : Leaf → Type 0
IsUpLeaf (IsDown x) = ⊥
IsUpLeaf (IsUp x) = ⊤
IsUpLeaf (IsPreparing x) = ⊥

-- the ending that tells a refused start
abbrev pub ending_of : StartFault → Ending
ending_of fault.RegionFault = ending.FaultRegion
ending_of fault.DiskFault = ending.FaultDisk
ending_of fault.DiskDamaged = ending.FaultDamaged
ending_of (fault.Stranger name) = ending.FaultStranger name
ending_of fault.NoMemory = ending.FaultMemory
ending_of (fault.Worn table) = ending.FaultWorn table

-- a start refused for a worn seat names a seat that is worn; one refused for a stranger names a table's name
abbrev pub IsTrueOf : Seated → StartFault → Type 0
IsTrueOf x (fault.Worn table) = WornAt x table
IsTrueOf x fault.RegionFault = ⊤
IsTrueOf x fault.DiskFault = ⊤
IsTrueOf x fault.DiskDamaged = ⊤
IsTrueOf x (fault.Stranger name) = IsName name
IsTrueOf x fault.NoMemory = ⊤

-- the region after a refused start: as it was, if a seat is worn; else with an open flag closed, unless the region
-- failed
abbrev pub RegionRefused : StartFault → Meaning → Meaning → Type 0
RegionRefused fault.RegionFault m m' = IsBroken m.held.region m'.held.region
RegionRefused (fault.Worn table) m m' = m'.held.region ≡ m.held.region
RegionRefused _ m m' = IsLeftBehind m.held.region m'.held.region

-- a refused start, over a berth that tells its contents
pub record RefusalTold (x : Seated) (m m' : Meaning) (f : StartFault) : Type 0 where
  pub why : IsStartRefused x.names m m' f
  pub exact : IsExactRefusal x.names m.held f
  pub region : RegionRefused f m m'
  pub disk : BeginsScan (length m.held.disk) m.held.disk m'.held.disk

-- a start, over a berth that tells its contents
pub record StartsTold (x : Seated) (m m' : Meaning) (s : Serving) (notes : List Note) (way : Way) : Type 0 where
  pub came : CameUp x.names m m' notes s way
  pub way_is : IsWayOf m.held.region way
  pub exact : IsAnswer x.names m.held.region m.held.disk (Ok way)

-- a start: each table is opened, or it is refused, or the leaf is not down
pub data StartMoves (m m' : Meaning) (leaf : Leaf) (notes : List Note) (ends : Ending) (leaf' : Leaf) : Type 0 where
  opened : (x : Seated) (s : Serving) (way : Way)
      → leaf ≡ IsDown x
      → s.owing.log.owed ≡ None
      → EachNoted IsOpenedNote 0 (length x.tables) notes
      → (IsTrue m.tells → StartsTold x m m' s notes way)
      → ends ≡ ending.Started way
      → leaf' ≡ IsUp s
      → StartMoves m m' leaf notes ends leaf'
  refused : (x : Seated) (f : StartFault)
      → leaf ≡ IsDown x
      → IsTrueOf x f
      → ((base : NamedStates) → IsTrue m.tells → AreFounded x → LeafStands base leaf m → f ≢ fault.DiskDamaged)
      → (IsTrue m.tells → RefusalTold x m m' f)
      → notes ≡ []
      → ends ≡ ending_of f
      → leaf' ≡ leaf
      → StartMoves m m' leaf notes ends leaf'
  not_down : (IsDownLeaf leaf → ⊥)
      → notes ≡ []
      → m'.held ≡ m.held
      → ends ≡ ending.NotDown
      → leaf' ≡ leaf
      → StartMoves m m' leaf notes ends leaf'

abbrev pub ending_of_flush : FlushReply → Ending
ending_of_flush reply.Flushed = ending.Done
ending_of_flush reply.DiskFault = ending.FaultDisk
ending_of_flush reply.Worn = ending.Worn

-- a flush of a leaf that is up, and of one that is not
pub data FlushMoves (table : ℕ) (m m' : Meaning) (leaf : Leaf) (notes : List Note) (ends : Ending) (leaf' : Leaf) : Type 0 where
  flushed : (s s' : Serving) (r : FlushReply)
      → leaf ≡ IsUp s
      → flushing.Flushes table s s' notes r
      → (IsTrue m.tells → m'.held.region ≡ m.held.region)
      → ends ≡ ending_of_flush r
      → leaf' ≡ IsUp s'
      → FlushMoves table m m' leaf notes ends leaf'
  not_up : (IsUpLeaf leaf → ⊥)
      → notes ≡ []
      → m'.held ≡ m.held
      → ends ≡ ending.NotUp
      → leaf' ≡ leaf
      → FlushMoves table m m' leaf notes ends leaf'

-- a kill: each open table is closed
pub data KillMoves (m m' : Meaning) (leaf : Leaf) (notes : List Note) (ends : Ending) (leaf' : Leaf) : Type 0 where
  up : (s : Serving) (y : Seated)
      → leaf ≡ IsUp s
      → EachNoted IsClosedNote 0 (length s.seated.tables) notes
      → m'.held ≡ m.held
      → ends ≡ ending.Done
      → leaf' ≡ IsDown y
      → KillMoves m m' leaf notes ends leaf'
  preparing : (x : state.Shutting) (y : Seated) (count : ℕ)
      → leaf ≡ IsPreparing x
      → first_open (progress_of x) + count ≡ length x.serving.seated.tables
      → EachNoted IsClosedNote (first_open (progress_of x)) count notes
      → m'.held ≡ m.held
      → ends ≡ ending.Done
      → leaf' ≡ IsDown y
      → KillMoves m m' leaf notes ends leaf'
  not_up : IsDownLeaf leaf
      → notes ≡ []
      → m'.held ≡ m.held
      → ends ≡ ending.NotUp
      → leaf' ≡ leaf
      → KillMoves m m' leaf notes ends leaf'

-- ---- drains

-- each table is shut
abbrev pub AreShut : Seated → Type 0
AreShut x = AtEach (λ place t v. SeesShut t v) x

-- The copy takes `copy` steps: to begin, one for each column, to write the directory, and to open the flag. It has at
-- least the columns that the rows need, and of founded tables at most one for each row and each cell that was added, and
-- the spare ones. Each table is shut.
abbrev pub HasCopyLength : Seated → ℕ → Type 0
HasCopyLength x copy = (3 + columns_seen x.tables x.seats ≤ copy) × (AreFounded x → copy ≤ 3 + columns_added x.tables x.seats) × AreShut x

-- A drain, whose copy takes `copy` steps, has come to this stage in `made` steps of the leaf's life. The steward made
-- the entries `treating` in these steps, and `last` after them.
pub record ReachesBy (mode : LifeMode) (x y : Seated) (notes : List Note) (copy : ℕ) (s : StageOfDrain) : Type 0 where
  pub made : ℕ
  pub treating : List Note
  pub last : List Note
  pub notes_are : notes ≡ treating ++ last
  pub comes : DrainComes (length x.tables) copy made mode treating s
  pub between : Seated
  pub treats : MakesNoted x treating between
  pub ends : MakesNoted between last y

abbrev pub Reaches : Leaf → Leaf → List Note → ℕ → StageOfDrain → Type 0
Reaches leaf leaf' notes copy s = ReachesBy (mode_of leaf) (seated_of leaf) (seated_of leaf') notes copy s

-- the region of a leaf that was killed at this stage: untouched before the copy; begun and closed after a step of it
abbrev pub RegionStopped : StageOfDrain → Meaning → Meaning → Type 0
RegionStopped (Shutting p) m m' = m'.held.region ≡ m.held.region
RegionStopped (Copying zero) m m' = m'.held.region ≡ m.held.region
RegionStopped (Copying (suc made)) m m' = IsWayOf m'.held.region (Disk (why.Closed 0))

abbrev pub SameRegion : Meaning → Meaning → Type 0
SameRegion m m' = IsTrue m.tells → m'.held.region ≡ m.held.region

-- what holds where the berth tells its contents and the tables are founded
abbrev pub WhereStands : Leaf → Meaning → Type 0 → Type 0
WhereStands leaf m P = (base : NamedStates) → IsTrue m.tells → AreFounded (seated_of leaf) → LeafStands base leaf m → P

-- the leaf still serves its tables, if they are founded: with these seats, and this record owed to the log
abbrev pub ServesStill : Leaf → Meaning → Meaning → Seated → Option Owed → Type 0
ServesStill leaf m m' x owed = (base : NamedStates) → IsTrue m.tells → AreFounded (seated_of leaf) → AreHandedNothing base → LeafStands base leaf m
    → (s : Serving) × (s.seated ≡ x) × (owed_of s.owing ≡ owed) × ServingStands s m'

-- How a drain is stopped at a stage: each table that is open is closed; or none is, and nothing is noted.
abbrev pub Stops : Meaning → Meaning → (leaf leaf' : Leaf) → (notes : List Note) → (copy : ℕ) → (s : StageOfDrain) → Reaches leaf leaf' notes copy s → Type 0
Stops m m' leaf leaf' notes copy (Shutting p) r = (count : ℕ) × (copy ≡ 0) × (first_open p + count ≡ length (seated_of leaf).tables) × EachNoted IsClosedNote (first_open p) count r.last
    × SameRegion m m' × ServesStill leaf m m' r.between p.owed
Stops m m' leaf leaf' notes copy (Copying made) r = HasCopyLength (seated_of leaf') copy × (r.last ≡ []) × WhereStands leaf m (RegionStopped (Copying made) m m')

-- How a drain ends. All steps are made, and each table is handed over; or the region fails, and the leaf is down; or
-- the copy has no room; or memory runs out; or the disk fails; or `stop` steps are made, and the leaf is killed; or the
-- leaf was down. The region after a copy that ended or failed names no stranger.
abbrev pub DrainMoves : Meaning → Meaning → Leaf → Option ℕ → List Note → Ending → Leaf → Type 0
DrainMoves m m' leaf stop notes ending.Done leaf' = (made : ℕ) × (r : Reaches leaf leaf' notes (suc made) (Copying made)) × MayMake stop (suc r.made) × HasCopyLength r.between (suc made)
    × EachNoted IsHandedNote 0 (length (seated_of leaf).tables) r.last × (mode_of leaf' ≡ Down)
    × WhereStands leaf m (IsWayLeft true m'.held.region Memory) × WhereStands leaf m (HasNoStranger (seated_of leaf).names m'.held.region)
DrainMoves m m' leaf stop notes ending.FaultRegion leaf' = (copy made : ℕ) × (r : Reaches leaf leaf' notes copy (Copying made)) × MayMake stop (suc r.made) × HasCopyLength (seated_of leaf') copy
    × (r.last ≡ []) × (mode_of leaf' ≡ Down) × WhereStands leaf m (HasNoStranger (seated_of leaf).names m'.held.region)
DrainMoves m m' leaf stop notes ending.FaultRoom leaf' = (q : Progress) × (r : Reaches leaf leaf' notes 0 (Shutting q)) × MayMake stop (suc r.made) × (q.treated ≡ length (seated_of leaf).tables)
    × AreShut (seated_of leaf') × PreparingIsCrowded (seated_of leaf') × (r.last ≡ []) × (mode_of leaf' ≡ Preparing q) × SameRegion m m'
DrainMoves m m' leaf stop notes ending.FaultMemory leaf' = (q p : Progress) × (r : Reaches leaf leaf' notes 0 (Shutting q)) × MayMake stop (suc r.made)
    × Starves (length (seated_of leaf).tables) q r.last p × (mode_of leaf' ≡ Preparing p) × SameRegion m m'
DrainMoves m m' leaf stop notes ending.FaultDisk leaf' = (q p : Progress) × (r : Reaches leaf leaf' notes 0 (Shutting q)) × MayMake stop (suc r.made) × (q.treated < length (seated_of leaf).tables)
    × Halts q r.last p × (mode_of leaf' ≡ Preparing p) × SameRegion m m'
DrainMoves m m' leaf stop notes ending.Stopped leaf' =
    (copy : ℕ) × (s : StageOfDrain) × (r : Reaches leaf leaf' notes copy s) × (stop ≡ Some r.made) × Stops m m' leaf leaf' notes copy s r × (mode_of leaf' ≡ Down)
DrainMoves m m' leaf stop notes ending.NotUp leaf' = IsDownLeaf leaf × (notes ≡ []) × (m'.held ≡ m.held) × (leaf' ≡ leaf)
DrainMoves m m' leaf stop notes _ leaf' = ⊥

-- ---- deeds

-- what a deed does to a leaf, with its notes and its ending
abbrev pub Moves : Deed → Meaning → Meaning → Leaf → List Note → Ending → Leaf → Type 0
Moves Start m m' leaf notes ends leaf' = StartMoves m m' leaf notes ends leaf'
Moves (Flush table) m m' leaf notes ends leaf' = FlushMoves table m m' leaf notes ends leaf'
Moves (Drain stop) m m' leaf notes ends leaf' = DrainMoves m m' leaf stop notes ends leaf'
Moves Kill m m' leaf notes ends leaf' = KillMoves m m' leaf notes ends leaf'

-- a deed of the steward of leaf `number`, between two meetings of all seats
pub record DeedStep (number : ℕ) (deed : Deed) (m m' : Meaning) (leaf : Leaf) (callers : List (Option SeatView)) (p : Piece) (leaf' : Leaf) (callers' : List (Option SeatView)) : Type 0 where
  pub met : Leaf
  pub met_callers : List (Option SeatView)
  pub moved : Leaf
  pub notes : List Note
  pub ends : Ending
  pub first : MeetAll leaf callers met met_callers m
  pub moves : Moves deed m m' met notes ends moved
  pub carries : Carries met moved notes m m'
  pub second : MeetAll moved met_callers leaf' callers' m'
  pub piece_is : p ≡ Acted number deed notes ends
