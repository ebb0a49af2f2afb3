-- What holds of every run. Each call that runs the program ensures this one record.
use Rattle.std.specs.Prelude.{◌≡◌, ◌↔◌, ℕ, List, length, Option, None, IfSome, Vec}
use Rattle.std.specs.Global.{Global}
use Rattle.berth_face.specs.Berth.{Meaning}
use Rattle.berth_face.specs.Causes.{Rose}
use Rattle.berth_face.specs.Streams.{TakesAtMost}
use Rattle.crash_moments.specs.Left.{NamedStates}
use Rattle.rollover_watch.specs.Watches.{Held}
use Rattle.run_ends.specs.Outcome.{IfScript, TakesText, UnlessCutOff, UnlessWritten}
use Rattle.run_ends.specs.Source.{most_taken}
use Rattle.run_ends.specs.declared.status.Status.{Status}
use Rattle.row_count.specs.Outcome.{IsCutShort}
use Rattle.run_words.specs.Words.{IfCount}
use Rattle.run_words.specs.declared.words.Request.{Request}
use Rattle.play.specs.Outcome.{IfInspect, IfUnread, IsDone, IsShort, IsTextRefused, UnlessPlayed, verdict}
use Rattle.play.specs.Played.{LeavesBerths, leaves_asked}
use Rattle.play.specs.Shortened.{IfShort}

-- what a run is handed, at one moment: a source, a sink, the berths and the watches, with what the watches hold
pub record Outside (S K B W : Type 0) : Type 0 where
  pub source : S
  pub sink : K
  pub berths : Vec B Global
  pub watches : W
  pub held : List Held

abbrev pub outside : {S K B W : Type 0} → S → K → Vec B Global → W → List Held → Outside S K B W
outside source sink berths watches held = record { source = source; sink = sink; berths = berths; watches = watches; held = held }

-- what source and sink tell: the text that is left, the text that was written, and how often each failed
pub record Sight (S K : Type 0) : Type 0 where
  pub left : S → Option (List ℕ)
  pub source_faults : S → ℕ
  pub written : K → Option (List ℕ)
  pub sink_faults : K → ℕ

abbrev pub sight : {S K : Type 0} → (S → Option (List ℕ)) → (S → ℕ) → (K → Option (List ℕ)) → (K → ℕ) → Sight S K
sight left source_faults written sink_faults = record { left = left; source_faults = source_faults; written = written; sink_faults = sink_faults }

-- a run over berths with these bases did what is asked for, or stopped for the cause that its status names
pub record HasRun {S K B W : Type 0} (base : ℕ → Option NamedStates) (meaning : B → Meaning) (of : Sight S K) (request : Option Request) (status : Status) (old new : Outside S K B W) : Type 0 where
  pub done : status ≡ Status.Done → IsDone base meaning (of.left old.source) (of.left new.source) (of.written old.sink) (of.written new.sink) old.berths.items new.berths.items old.held new.held request
  -- after WriteFault and NoMemory: a prefix of the run was played and written, and this is what it left
  pub short : IfShort status (IsShort base meaning (of.left old.source) (of.left new.source) (of.written old.sink) (of.written new.sink) old.berths.items new.berths.items old.held new.held request)
  -- each other status has its cause, NoMemory excepted
  pub words : (status ≡ Status.Words) ↔ (request ≡ None)
  pub script : IfScript status (IsTextRefused (length old.berths.items) request (of.left old.source) (of.left new.source))
  pub read_fault : status ≡ Status.ReadFault → Rose (of.source_faults old.source) (of.source_faults new.source)
  pub write_fault : status ≡ Status.WriteFault → Rose (of.sink_faults old.sink) (of.sink_faults new.sink)
  -- words and text decide the status, unless the outside failed or memory ran out
  pub exact : IfSome (of.left old.source) (λ text. UnlessCutOff status (status ≡ verdict (length old.berths.items) request text))
  -- exactly a text that is refused as too long has one byte taken beyond the limit
  pub takes : TakesAtMost (of.left old.source) (of.left new.source) most_taken
  pub too_long : TakesText status (of.left old.source) (of.left new.source)
  pub unread : IfUnread request (new.source ≡ old.source)
  -- if words, text or source are at fault, nothing was written, nothing was played, and no watch was told anything
  pub unwritten : UnlessPlayed status (new.sink ≡ old.sink)
  pub unplayed : UnlessPlayed status (new.berths ≡ old.berths)
  pub unwatched : UnlessPlayed status (new.watches ≡ old.watches)
  -- a count writes only at Done and WriteFault, and then its line or a prefix of it; it plays nothing, and tells no
  -- watch anything
  pub count_unwritten : IfCount request (λ range. UnlessWritten status (new.sink ≡ old.sink))
  pub count_cut_short : IfCount request (λ range. status ≡ Status.WriteFault → IsCutShort range (of.left old.source) (of.left new.source) (of.written old.sink) (of.written new.sink))
  pub count_unplayed : IfCount request (λ range. new.berths ≡ old.berths)
  pub count_unwatched : IfCount request (λ range. new.watches ≡ old.watches)
  -- an inspect tells no watch anything
  pub inspect_unwatched : IfInspect request (λ leaf. new.watches ≡ old.watches)
  -- the berths are back in their places; only those of the leaves that words and text make may have changed
  pub left : LeavesBerths meaning (leaves_asked request (of.left old.source)) old.berths.items new.berths.items
