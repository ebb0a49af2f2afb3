-- What a run leaves, and which status words and text decide.
use Rattle.std.specs.Prelude.{◌≡◌, ◌⊎◌, ℕ, ◌≤◌, List, [], length, nat_le, nat_lt, if◌then◌else◌, Option, Some, None, Result, Ok, Err, ⊤}
use Rattle.berth_face.specs.Berth.{Meaning}
use Rattle.berth_face.specs.Streams.{ReadsAll}
use Rattle.crash_moments.specs.Left.{NamedStates}
use Rattle.rollover_watch.specs.Watches.{Held}
use Rattle.row_model.specs.declared.script_fault.Why.{Why}
use Rattle.row_model.specs.declared.script_fault.Why.TheVariants as why
use Rattle.row_model.specs.declared.script_fault.ScriptFault.{ScriptFault}
use Rattle.row_model.specs.declared.script_fault.ScriptFault.TheVariants.{At, NoMemory}
use Rattle.script_text.specs.declared.item.Item.{Item}
use Rattle.script_text.specs.declared.script.Script.{Script}
use Rattle.script_text.specs.Commands.{Fault}
use Rattle.script_text.specs.Script.{script_of}
use Rattle.soak.specs.Soak.{soak_script}
use Rattle.transcript.specs.Leaving.{IsWritten}
use Rattle.run_ends.specs.Outcome.{IsRefused, if_short}
use Rattle.row_count.specs.Outcome.{IsCounted, count_verdict}
use Rattle.row_count.specs.declared.count.Range.{Range}
use Rattle.run_ends.specs.declared.status.Status.{Status}
use Rattle.play.specs.Inspected.{InspectEndsShort, IsInspected}
use Rattle.play.specs.Cut.{IsShortened}
use Rattle.play.specs.Played.{leaves_in, soak_leaves}
use Rattle.run_words.specs.declared.words.Request.{Request}
use Rattle.run_words.specs.declared.words.Request.TheVariants.{Count, Inspect, Play, Soak}

-- ---- what was done

module _ {B : Type 0} (base : ℕ → Option NamedStates) (meaning : B → Meaning) (before after was now : Option (List ℕ)) (old new : List B) (watching watched : List Held) where
  -- The items that a request plays have this property, and the berths are enough for them. They are those of the
  -- source's text, which was read to its end and is a script; or those of a soak, which reads nothing.
  abbrev pub OfItems : Option Request → (List Item → Type 0) → Type 0
  OfItems (Some Play) P = (text : List ℕ) × (script : Script) × ReadsAll before after text × (script_of text ≡ Ok script) × (leaves_in script.items ≤ length old) × P script.items
  OfItems (Some (Soak seed rows)) P = (soak_leaves ≤ length old) × P (soak_script seed rows).items
  OfItems _ P = ⊥

  -- All that the request asks for was done. The text that was written is a transcript of what was played, and the
  -- watches heard what that tells.
  abbrev pub IsDone : Option Request → Type 0
  IsDone (Some (Count range)) = IsCounted range before after was now
  IsDone (Some (Inspect leaf)) = IsInspected meaning leaf old new was now
  IsDone request = OfItems request (λ items. IsWritten meaning old new base items was now watching watched)

  -- What was played and written, if the run stopped early: nothing, or some of the items. Clauses of their own say it
  -- of a count.
  abbrev pub IsShort : Option Request → Type 0
  IsShort (Some (Count range)) = ⊤
  IsShort (Some (Inspect leaf)) = InspectEndsShort meaning leaf old new was now
  IsShort request = ((now ≡ was) × (new ≡ old) × (watched ≡ watching)) ⊎ OfItems request (λ items. IsShortened meaning old new base items was now watching watched)

-- ---- which status the words and the text decide

-- the status of a text that is a script, or has a first fault
abbrev pub status_played : ℕ → Result Script Fault → Status
status_played berths (Ok script) = if nat_lt berths (leaves_in script.items) then Status.Script script.fleet_line why.NoBerth else Status.Done
status_played berths (Err found) = Status.Script found.0 found.1

-- the status of a text with this fault
abbrev pub status_of_fault : ScriptFault → Status
status_of_fault (At line fault) = Status.Script line fault
status_of_fault NoMemory = Status.NoMemory

-- the status of a text that is played over this many berths
abbrev pub play_verdict : ℕ → List ℕ → Status
play_verdict berths text = if_short text (status_played berths (script_of text))

-- the status of a soak over this many berths
abbrev pub soak_verdict : ℕ → Status
soak_verdict berths = if nat_lt berths soak_leaves then Status.Script 0 why.NoBerth else Status.Done

-- the status of an inspect of this leaf, if there are this many berths
abbrev pub inspect_verdict : ℕ → ℕ → Status
inspect_verdict berths leaf = if nat_le berths leaf then Status.Script 0 why.NoBerth else Status.Done

-- the status that a request and the source's whole text decide, if there are this many berths
abbrev pub verdict : ℕ → Option Request → List ℕ → Status
verdict berths None text = Status.Words
verdict berths (Some (Count range)) text = count_verdict range text
verdict berths (Some Play) text = play_verdict berths text
verdict berths (Some (Soak seed rows)) text = soak_verdict berths
verdict berths (Some (Inspect leaf)) text = inspect_verdict berths leaf

-- ---- why a source is refused

-- why a request is refused; a soak and an inspect read no source
abbrev pub IsTextRefused : ℕ → Option Request → Option (List ℕ) → Option (List ℕ) → ℕ → Why → Type 0
IsTextRefused berths (Some (Count range)) before after line fault = IsRefused (count_verdict range) before after line fault
IsTextRefused berths (Some Play) before after line fault = IsRefused (play_verdict berths) before after line fault
IsTextRefused berths request before after line fault = verdict berths request [] ≡ Status.Script line fault

-- ---- what holds at which status

-- the property holds of each status before which nothing is played
abbrev pub UnlessPlayed : Status → Type 0 → Type 0
UnlessPlayed Status.Words P = P
UnlessPlayed (Status.Script line why) P = P
UnlessPlayed Status.ReadFault P = P
UnlessPlayed _ P = Unit {0}

-- the property holds of the leaf, if the request is an inspect
abbrev pub IfInspect : Option Request → (ℕ → Type 0) → Type 0
IfInspect (Some (Inspect leaf)) P = P leaf
IfInspect _ P = Unit {0}

-- the property holds, unless the request reads the source
abbrev pub IfUnread : Option Request → Type 0 → Type 0
IfUnread (Some (Count range)) P = Unit {0}
IfUnread (Some Play) P = Unit {0}
IfUnread _ P = P
