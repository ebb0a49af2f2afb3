-- What a run leaves known of its berths, and two runs one after the other.
use Rattle.std.specs.Prelude.{◌≡◌, ◌≢◌, ℕ, zero, suc, ◌≤◌, List, [], ◌∷◌, length, map, slice_get, Option, Some, None, Ok, Vec, bytes_eq, nat_lt, if◌then◌else◌}
use Rattle.std.specs.Global.{Global}
use Rattle.leaf_model.specs.declared.writes.Write.{Write}
use Rattle.berth_face.specs.Berth.{Meaning}
use Rattle.leaf_history.specs.History.{Entry, base_of, no_base}
use Rattle.crash_moments.specs.Left.{NamedStates}
use Rattle.crash_states.specs.Standing.{states_of_tables}
use Rattle.crash_states.specs.Beginning.{IsFrontOf}
use Rattle.rollover_watch.specs.Watches.{Held}
use Rattle.transcript.specs.Base.{watched_from}
use Rattle.script_text.specs.declared.fleet.FleetShape.{FleetShape}
use Rattle.script_text.specs.Commands.{leaf_count}
use Rattle.script_text.specs.declared.item.Item.{Item}
use Rattle.script_text.specs.declared.script.Script.{Script}
use Rattle.script_text.specs.Script.{script_of}
use Rattle.printed_lines.specs.declared.line.Line.{Line}
use Rattle.berth_face.specs.Streams.{ReadsAll}
use Rattle.run_ends.specs.declared.status.Status.{Status}
use Rattle.transcript.specs.Pieces.{all_lines, item_of, no_fleet, script_fleet}
use Rattle.transcript.specs.Leaving.{AreKnown, IsToldRun, IsWritten}
use Rattle.transcript.specs.Transcript.{Known}
use Rattle.play.specs.Played.{IsBase, leaves_in}
use Rattle.play.specs.Cut.{IsShortened}
use Rattle.play.specs.Ran.{HasRun, Outside, Sight, outside}
use Rattle.run_words.specs.declared.words.Request.{Request}

-- ---- a base as a list, which unlike a function can be kept

-- what is kept of a name: its writes, how many of them every crash leaves, and how many spare columns its table may have
pub record KeptName : Type 0 where
  pub name : List ℕ
  pub writes : List Write
  pub flushed : ℕ
  pub spare : ℕ

-- the state of each name by the first item that is kept of it; without one it has no writes
abbrev pub states_of : List KeptName → NamedStates
states_of [] name = no_base
states_of (k ∷ ks) name = if bytes_eq name k.name then base_of k.writes k.flushed k.spare else states_of ks name

-- ---- what is known

abbrev pub base_kept : Option (List KeptName) → Option NamedStates
base_kept None = None
base_kept (Some kept) = Some (states_of kept)

-- the base of each leaf's berth that is kept; none of the leaves after the last
abbrev pub bases_of : List (Option (List KeptName)) → ℕ → Option NamedStates
bases_of [] leaf = None
bases_of (kept ∷ more) zero = base_kept kept
bases_of (kept ∷ more) (suc leaf) = bases_of more leaf

-- a base of the first berth is kept, and of no other
abbrev pub IsKeptBase : Meaning → List (Option (List KeptName)) → Type 0
IsKeptBase m [] = ⊥
IsKeptBase m (None ∷ more) = ⊥
IsKeptBase m (Some kept ∷ more) = IsBase (states_of kept) m × (more ≡ [])

-- ---- what a run leaves known

-- the tables of a leaf after these histories; the base, if the fleet has no such leaf
abbrev pub tables_left : FleetShape → ℕ → NamedStates → (ℕ → List Entry) → Meaning → NamedStates
tables_left fleet leaf base histories m = if nat_lt leaf (leaf_count fleet) then states_of_tables base (watched_from 0 fleet.names base histories) m else base

-- the kept base is one that a leaf may begin with over the berth; it has a prefix of each table's writes with each
-- flushed one
pub record IsKeptOf (tables : NamedStates) (m : Meaning) (kept : List KeptName) : Type 0 where
  pub is_base : IsBase (states_of kept) m
  pub front : (name : List ℕ) → IsFrontOf (tables name) (states_of kept name)

-- something is kept of a leaf's berth exactly if its base was known
abbrev pub KeepsOne : FleetShape → ℕ → Option Known → (ℕ → List Entry) → Meaning → Option (List KeptName) → Type 0
KeepsOne fleet leaf None histories m next = next ≡ None
KeepsOne fleet leaf (Some k) histories m None = ⊥
KeepsOne fleet leaf (Some k) histories m (Some kept) = IsKeptOf (tables_left fleet leaf k.base histories m) m kept

-- this is kept of each berth
pub record KeepsEach {B : Type 0} (meaning : B → Meaning) (berths : List B) (fleet : FleetShape) (known : ℕ → Option Known) (histories : ℕ → ℕ → List Entry) (next : List (Option (List KeptName))) : Type 0 where
  pub as_many : length next ≡ length berths
  pub each : (leaf : ℕ) (berth : B) (kept : Option (List KeptName)) → slice_get berths leaf ≡ Some berth → slice_get next leaf ≡ Some kept
      → KeepsOne fleet leaf (known leaf) (histories leaf) (meaning berth) kept

-- What is kept is the base that the run left of each berth, by the histories of its transcript, for one choice of what
-- may be known.
pub record KeepsBy {B : Type 0} (meaning : B → Meaning) (old new : List B) (base : ℕ → Option NamedStates) (items : List Item) (lines : List Line) (watching watched : List Held)
    (told : (known : ℕ → Option Known) → AreKnown meaning old new base known → IsToldRun meaning old new items known lines watching watched) (next : List (Option (List KeptName))) : Type 0 where
  pub known : ℕ → Option Known
  pub are_known : AreKnown meaning old new base known
  pub keeps : KeepsEach meaning new (script_fleet items) known (told known are_known).transcript.histories next

-- what was known of each berth is kept unchanged
pub record KeepsSame {B : Type 0} (meaning : B → Meaning) (old new : List B) (base : ℕ → Option NamedStates) (next : List (Option (List KeptName))) : Type 0 where
  pub known : ℕ → Option Known
  pub are_known : AreKnown meaning old new base known
  pub keeps : KeepsEach meaning new no_fleet known (λ leaf table. []) next

-- What a play over berths with these bases leaves known, however it ended. If it was done, by its transcript; if it
-- stopped, by the transcript of the items that were played; if nothing was written, the berths are as they were.
pub data LeavesKnown {B : Type 0} (status : Status) (base : ℕ → Option NamedStates) (meaning : B → Meaning) (before after was now : Option (List ℕ)) (old new : List B) (next : List (Option (List KeptName))) : Type 0 where
  done : (watching watched : List Held) (text : List ℕ) (script : Script) (written : IsWritten meaning old new base script.items was now watching watched)
      → status ≡ Status.Done
      → ReadsAll before after text
      → script_of text ≡ Ok script
      → leaves_in script.items ≤ length old
      → KeepsBy meaning old new base script.items written.lines watching watched written.told next
      → LeavesKnown status base meaning before after was now old new next
  short : (watching watched : List Held) (text : List ℕ) (script : Script) (shortened : IsShortened meaning old new base script.items was now watching watched)
      → status ≢ Status.Done
      → ReadsAll before after text
      → script_of text ≡ Ok script
      → KeepsBy meaning old new base (map item_of shortened.played) (all_lines shortened.played) watching watched shortened.told next
      → LeavesKnown status base meaning before after was now old new next
  nothing : status ≢ Status.Done
      → now ≡ was
      → new ≡ old
      → KeepsSame meaning old new base next
      → LeavesKnown status base meaning before after was now old new next

-- ---- two runs

-- after a run that left these berths, another ran over what the first left known; None: memory to keep that ran out,
-- and there was no other
abbrev pub RunsNext : {S K B W : Type 0} → (B → Meaning) → Sight S K → Option Request → Option Status → (List (Option (List KeptName)) → Type 0) → Outside S K B W → Outside S K B W → Type 0
RunsNext meaning of request None leaves old new = new ≡ old
RunsNext meaning of request (Some status) leaves old new = (kept : List (Option (List KeptName))) × leaves kept × HasRun (bases_of kept) meaning of request status old new

-- a run, and then another over the berths and watches that it left, each with a source and a sink of its own
pub record RanTwice {S K B W : Type 0} (base : ℕ → Option NamedStates) (meaning : B → Meaning) (of : Sight S K) (request : Option Request) (status : Status) (next : Option Status) (old : Outside S K B W) (source : S) (sink : K) (next_source : S) (next_sink : K) (new : Outside S K B W) : Type 0 where
  pub between : Vec B Global
  pub watches : W
  pub held : List Held
  pub first : HasRun base meaning of request status old (outside source sink between watches held)
  pub second : RunsNext meaning of request next
      (LeavesKnown status base meaning (of.left old.source) (of.left source) (of.written old.sink) (of.written sink) old.berths.items between.items)
      (outside next_source next_sink between watches held) new
