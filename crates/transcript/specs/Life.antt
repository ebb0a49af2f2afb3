-- The life of a leaf, as the deeds of its steward print it: its state, the way that its next start prints, and the
-- counts that its next `opened` lines tell. No rule reads a table's history. The bounds on the columns that a drain
-- copies are given from outside.
use Rattle.std.specs.Prelude.{◌≡◌, ◌≢◌, ◌⊎◌, ℕ, zero, suc, ◌+◌, ◌<◌, ◌≤◌, ◌^◌, Bool, true, false, ◌&&◌, List, [], ◌∷◌, ◌++◌, length, map, Option, Some, None, IfSome, option_map, slice_set, replicate, if◌then◌else◌, ⊤}
use Rattle.leaf_words.specs.declared.note.Note.{Note}
use Rattle.leaf_words.specs.declared.note.What.{What}
use Rattle.leaf_words.specs.declared.note.What.TheVariants.{Opened, Took, Flushed, Closed, Handed}
use Rattle.leaf_words.specs.declared.ways.Way.{Way}
use Rattle.leaf_words.specs.declared.ways.Way.TheVariants.{Memory, Disk}
use Rattle.leaf_words.specs.declared.ways.WhyDisk.TheVariants as why
use Rattle.region_layout.specs.Names.{IsName}
use Rattle.leaf_opening.specs.Starts.{way_after}
use Rattle.printed_lines.specs.declared.line.Ending.{Ending}
use Rattle.printed_lines.specs.declared.line.Ending.TheVariants as ends
use Rattle.printed_lines.specs.declared.line.Deed.{Deed}
use Rattle.printed_lines.specs.declared.line.Deed.TheVariants.{Start, Flush, Drain, Kill}
use Rattle.transcript.specs.Pieces.{Did}

-- what the log is owed: the record of this table, which had this number of writes when it was taken
pub record Owed : Type 0 where
  pub table : ℕ
  pub count : ℕ

-- How far a leaf has come that shuts its tables: what the log is owed; how many tables, from the first on, are treated,
-- which is shut, flushed and sealed; and whether the next one is shut and waits, as its record is owed or its tail is
-- not sealed.
pub record Progress : Type 0 where
  pub owed : Option Owed
  pub treated : ℕ
  pub waits : Bool

pub data LifeMode : Type 0 where
  Down : LifeMode
  Up : (owed : Option Owed) → LifeMode
  Preparing : (at : Progress) → LifeMode

pub record Life : Type 0 where
  pub mode : LifeMode
  -- the way that the next start prints, unless the leaf is drained first; None if nothing is claimed of it
  pub way : Option Way
  -- for each table the number of writes that its next `opened` line tells; None if nothing is claimed of them
  pub durable : Option (List ℕ)
  -- the leaf was up before
  pub begun : Bool

-- ---- entries without their numbers

-- the notes tell this, one of each table from `place` on
abbrev pub NotesFrom : ℕ → List What → List Note → Type 0
NotesFrom place [] [] = ⊤
NotesFrom place (w ∷ ws) (n ∷ ns) = (n.table ≡ place) × (n.what ≡ w) × NotesFrom (suc place) ws ns
NotesFrom place _ _ = ⊥

-- what the notes tell of which tables
abbrev pub words_in : List Note → List (ℕ × What)
words_in notes = map (λ (n : Note). (n.table, n.what)) notes

-- the note of what was owed, once it is on the disk
abbrev pub owed_words : Option Owed → List (ℕ × What)
owed_words None = []
owed_words (Some o) = (o.table, Flushed o.count) ∷ []

-- the notes tell what was owed, and then this of one table
abbrev pub NotesOf : Option Owed → ℕ → List What → List Note → Type 0
NotesOf owed table whats notes = words_in notes ≡ owed_words owed ++ map (λ (w : What). (table, w)) whats

-- the number of writes of each table that are known to be on the disk, after an entry
abbrev pub durable_by : List ℕ → ℕ → What → List ℕ
durable_by counts table (Flushed n) = slice_set counts table n
durable_by counts table (Opened n) = slice_set counts table n
durable_by counts table _ = counts

abbrev pub durable_after : List ℕ → List Note → List ℕ
durable_after counts [] = counts
durable_after counts (n ∷ ns) = durable_after (durable_by counts n.table n.what) ns

abbrev pub durable_with : Option (List ℕ) → List Note → Option (List ℕ)
durable_with known notes = option_map (λ counts. durable_after counts notes) known

-- the leaf in this mode, after these entries; its next start prints this way
abbrev pub on : Life → LifeMode → Option Way → List Note → Life
on life mode way notes = record { mode = mode; way = way; durable = durable_with life.durable notes; begun = life.begun }

-- the same, after a fault of the disk
abbrev pub failed : Life → LifeMode → Life
failed life mode = record { mode = mode; way = life.way; durable = None; begun = life.begun }

-- ---- starts

-- what is claimed of a berth: something only if its base is known
abbrev pub claimed : {A : Type 0} → Bool → A → Option A
claimed true a = Some a
claimed false a = None

-- no start over a berth with a known base finds bytes that are no image
abbrev pub MayCome : Bool → Way → Type 0
MayCome founded (Disk why.NoImage) = founded ≡ false
MayCome founded _ = ⊤

-- the way of the start after a refused one: the same after a worn seat, not known after a fault of the region, else
-- that of a region whose open flag was closed
abbrev pub way_refused : Ending → Option Way → Option Way
way_refused ends.FaultRegion way = None
way_refused (ends.FaultWorn table) way = way
way_refused _ way = option_map way_after way

-- ---- flushes

-- A flush: the owed record is flushed, then the table is taken and flushed with the same number of writes; or the disk
-- fails, before anything was flushed or after the take; or the table's seat is worn; or the leaf is not up.
abbrev pub OfFlush : ℕ → Life → List Note → Ending → Life → Type 0
OfFlush table life notes ends.Done next =
    (owed : Option Owed) × (count : ℕ) × (life.mode ≡ Up owed) × NotesOf owed table (Took count ∷ Flushed count ∷ []) notes × (next ≡ on life (Up None) life.way notes)
OfFlush table life notes ends.FaultDisk next = ((owed : Option Owed) × (count : ℕ) × (life.mode ≡ Up owed) × NotesOf owed table (Took count ∷ []) notes
    × (next ≡ failed life (Up (Some (record { table = table; count = count }))))) ⊎ ((o : Owed) × (life.mode ≡ Up (Some o)) × (notes ≡ []) × (next ≡ failed life (Up (Some o))))
OfFlush table life notes ends.Worn next = (owed : Option Owed) × (life.mode ≡ Up owed) × NotesOf owed table [] notes × (next ≡ on life (Up None) life.way notes)
OfFlush table life notes ends.NotUp next = ((owed : Option Owed) → life.mode ≡ Up owed → ⊥) × (notes ≡ []) × (next ≡ life)
OfFlush table life notes _ next = ⊥

-- ---- the steps of a drain

-- how far a drain has come: it shuts the tables, or has made this many steps of their copy
pub data StageOfDrain : Type 0 where
  Shutting : (at : Progress) → StageOfDrain
  Copying : (made : ℕ) → StageOfDrain

-- where the drain of a leaf in this mode begins
abbrev pub BeginsAt : LifeMode → Progress → Type 0
BeginsAt Down p = ⊥
BeginsAt (Up owed) p = p ≡ record { owed = owed; treated = 0; waits = false }
BeginsAt (Preparing at) p = p ≡ at

-- one more table is treated: the owed record is flushed; then the next table is closed and flushed with the same number
-- of writes, unless it was shut before
abbrev pub Treats : Progress → List Note → Progress → Type 0
Treats p notes q =
    ((count : ℕ) × NotesOf p.owed p.treated (if p.waits then [] else Closed count ∷ Flushed count ∷ []) notes) × (q ≡ record { owed = None; treated = suc p.treated; waits = false })

module _ (tables copy : ℕ) where
  -- One step that neither ends the drain nor fails, of a leaf with this many tables and a copy of this many steps: a
  -- table is treated; or all are, and the copy is planned; or a step of it is made.
  abbrev pub StepOfDrain : StageOfDrain → List Note → StageOfDrain → Type 0
  StepOfDrain (Shutting p) notes (Shutting q) = (p.treated < tables) × Treats p notes q
  StepOfDrain (Shutting p) notes (Copying made) = (p.treated ≡ tables) × (notes ≡ []) × (made ≡ 0)
  StepOfDrain (Copying made) notes (Copying now) = (now < copy) × (notes ≡ []) × (now ≡ suc made)
  StepOfDrain _ notes _ = ⊥

  -- n such steps
  abbrev pub StepsOfDrain : ℕ → StageOfDrain → List Note → StageOfDrain → Type 0
  StepsOfDrain zero s notes t = (notes ≡ []) × (t ≡ s)
  StepsOfDrain (suc n) s notes t = (first others : List Note) × (between : StageOfDrain) × StepOfDrain s first between × StepsOfDrain n between others t × (notes ≡ first ++ others)

  -- the drain comes this far in n steps
  abbrev pub DrainComes : ℕ → LifeMode → List Note → StageOfDrain → Type 0
  DrainComes n mode notes s = (p : Progress) × BeginsAt mode p × StepsOfDrain n (Shutting p) notes s

-- Bounds on the columns of a leaf's tables when they are copied. Their exact number is no function of the contents.
-- `least`: by the entries that hand the tables over. `most`: only if the leaf's base is known. `bulk`: the number of
-- their writes, with the rows and cells that these add and the spare columns.
pub record Columns : Type 0 where
  pub least : List Note → ℕ
  pub most : ℕ
  pub bulk : ℕ

-- A copy of `columns` columns or more takes this many steps: one for each column, and three to begin, to write the
-- directory and to open the flag.
abbrev pub IsCopyLength : ℕ → ℕ → Type 0
IsCopyLength columns copy = columns + 3 ≤ copy

-- a copy of `columns` columns or fewer takes this many steps, if the base is known
abbrev pub IsCopyWithin : Bool → ℕ → ℕ → Type 0
IsCopyWithin founded columns copy = founded ≡ true → copy ≤ columns + 3

-- tables with a known base make no image only if they are this large
abbrev pub IsCrowded : Bool → ℕ → Type 0
IsCrowded founded bulk = founded ≡ true → 2 ^ 25 ≤ bulk

-- the disk fails, after the next table was closed, or before anything was flushed
abbrev pub Halts : Progress → List Note → Progress → Type 0
Halts p notes q = ((count : ℕ) × (p.waits ≡ false) × NotesOf p.owed p.treated (Closed count ∷ []) notes × (q ≡ record { owed = Some (record { table = p.treated; count = count }); treated = p.treated; waits = true }))
    ⊎ ((o : Owed) × (p.owed ≡ Some o) × (notes ≡ []) × (q ≡ p))

-- Memory runs out, and what was owed is flushed. Either no further table is shut; or the next table is closed and
-- flushed, but not sealed.
abbrev pub Starves : ℕ → Progress → List Note → Progress → Type 0
Starves tables p notes q = (NotesOf p.owed p.treated [] notes × (q ≡ record { owed = None; treated = p.treated; waits = p.waits }))
    ⊎ ((count : ℕ) × (p.waits ≡ false) × (p.treated < tables) × NotesOf p.owed p.treated (Closed count ∷ Flushed count ∷ []) notes × (q ≡ record { owed = None; treated = p.treated; waits = true }))

-- the first table that is open; a kill closes each from it on
abbrev pub first_open : Progress → ℕ
first_open p = if p.waits then suc p.treated else p.treated

abbrev pub ClosesFrom : ℕ → ℕ → List Note → Type 0
ClosesFrom tables place notes = (counts : List ℕ) × (place + length counts ≡ tables) × NotesFrom place (map Closed counts) notes

abbrev pub ClosesRest : ℕ → StageOfDrain → List Note → Type 0
ClosesRest tables (Shutting p) notes = ClosesFrom tables (first_open p) notes
ClosesRest tables (Copying made) notes = notes ≡ []

-- a drain may make n steps
abbrev pub MayMake : Option ℕ → ℕ → Type 0
MayMake stop n = IfSome stop (λ most. n ≤ most)

-- the way of the start after a drain that was stopped here: the first step of the copy leaves a closed flag
abbrev pub way_stopped : StageOfDrain → Option Way → Option Way
way_stopped (Shutting p) way = way
way_stopped (Copying zero) way = way
way_stopped (Copying (suc made)) way = option_map (λ (w : Way). Disk (why.Closed 0)) way

-- ---- kills

-- a kill: each open table is closed; or the leaf is down
abbrev pub OfKill : ℕ → Life → List Note → Ending → Life → Type 0
OfKill tables life notes ends.Done next = (p : Progress) × BeginsAt life.mode p × ClosesFrom tables (first_open p) notes × (next ≡ on life Down life.way [])
OfKill tables life notes ends.NotUp next = (life.mode ≡ Down) × (notes ≡ []) × (next ≡ life)
OfKill tables life notes _ next = ⊥

-- ---- of a leaf with this many tables, whose base is known or not

module _ (founded : Bool) (tables : ℕ) where
  -- Why a start may be refused. The disk: only if the start does not come from memory. A stranger: over a berth with a
  -- known base, only if the leaf was never up. A worn seat: of a table that the leaf has. A damaged log: only if no
  -- base is known.
  abbrev pub IsStartRefusal : Life → Ending → Type 0
  IsStartRefusal life ends.FaultRegion = ⊤
  IsStartRefusal life ends.FaultDisk = life.way ≢ Some Memory
  IsStartRefusal life ends.FaultMemory = ⊤
  IsStartRefusal life (ends.FaultStranger name) = ((founded && life.begun) ≡ false) × IsName name
  IsStartRefusal life (ends.FaultWorn table) = table < tables
  IsStartRefusal life ends.FaultDamaged = founded ≡ false
  IsStartRefusal life _ = ⊥

  -- a start: each table is opened; or it is refused, and makes no entry; or the leaf is not down
  abbrev pub OfStart : Life → List Note → Ending → Life → Type 0
  OfStart life notes (ends.Started way) next = (counts : List ℕ) × (life.mode ≡ Down) × MayCome founded way × IfSome life.way (λ w. way ≡ w) × IfSome life.durable (λ known. counts ≡ known)
      × (length counts ≡ tables) × NotesFrom 0 (map Opened counts) notes × (next ≡ record { mode = Up None; way = claimed founded (way_after way); durable = claimed founded counts; begun = true })
  OfStart life notes ends.NotDown next = (life.mode ≡ Down → ⊥) × (notes ≡ []) × (next ≡ life)
  OfStart life notes ending next = (life.mode ≡ Down) × IsStartRefusal life ending × (notes ≡ []) × (next ≡ on life Down (way_refused ending life.way) [])

  -- A drain makes its steps until one is the last, and each table is handed over, with at least the columns that these
  -- entries imply; or until one fails; or until it has made as many as it may, and the leaf is killed. A copy that does
  -- not end made no more steps than its columns need.
  abbrev pub OfDrain : Columns → Option ℕ → Life → List Note → Ending → Life → Type 0
  OfDrain columns stop life notes ends.Done next = (n made : ℕ) × (treating handing : List Note) × DrainComes tables (suc made) n life.mode treating (Copying made) × MayMake stop (suc n)
      × IsCopyLength (columns.least handing) (suc made) × NotesFrom 0 (replicate tables Handed) handing × (notes ≡ treating ++ handing) × (next ≡ on life Down (claimed founded Memory) treating)
  OfDrain columns stop life notes ends.FaultRegion next =
      (copy n made : ℕ) × IsCopyWithin founded columns.most copy × DrainComes tables copy n life.mode notes (Copying made) × MayMake stop (suc n) × (next ≡ on life Down None notes)
  OfDrain columns stop life notes ends.FaultRoom next =
      (n : ℕ) × (q : Progress) × IsCrowded founded columns.bulk × DrainComes tables 0 n life.mode notes (Shutting q) × (q.treated ≡ tables) × MayMake stop (suc n) × (next ≡ on life (Preparing q) life.way notes)
  OfDrain columns stop life notes ends.FaultMemory next = (n : ℕ) × (q r : Progress) × (treating starving : List Note) × DrainComes tables 0 n life.mode treating (Shutting q) × MayMake stop (suc n)
      × Starves tables q starving r × (notes ≡ treating ++ starving) × (next ≡ on life (Preparing r) life.way notes)
  OfDrain columns stop life notes ends.FaultDisk next = (n : ℕ) × (q r : Progress) × (treating halting : List Note) × DrainComes tables 0 n life.mode treating (Shutting q) × MayMake stop (suc n)
      × (q.treated < tables) × Halts q halting r × (notes ≡ treating ++ halting) × (next ≡ failed life (Preparing r))
  OfDrain columns stop life notes ends.Stopped next = (copy n : ℕ) × (s : StageOfDrain) × (treating closing : List Note) × IsCopyWithin founded columns.most copy × DrainComes tables copy n life.mode treating s × (stop ≡ Some n)
      × ClosesRest tables s closing × (notes ≡ treating ++ closing) × (next ≡ on life Down (way_stopped s life.way) treating)
  OfDrain columns stop life notes ends.NotUp next = (life.mode ≡ Down) × (notes ≡ []) × (next ≡ life)
  OfDrain columns stop life notes _ next = ⊥

  -- what a deed prints and leaves
  abbrev pub Does : Columns → Deed → Life → List Note → Ending → Life → Type 0
  Does columns Start = OfStart
  Does columns (Flush table) = OfFlush table
  Does columns (Drain stop) = OfDrain columns stop
  Does columns Kill = OfKill tables

  -- the deeds of a leaf, one after another, after the entries `before`; the columns of its tables are bounded by its
  -- entries up to the last of each deed
  abbrev pub Lives : (List Note → Columns) → List Note → Life → List Did → Life → Type 0
  Lives columns before life [] next = next ≡ life
  Lives columns before life (d ∷ ds) next =
      (between : Life) × Does (columns (before ++ d.notes)) d.deed life d.notes d.ending between × Lives columns (before ++ d.notes) between ds next
