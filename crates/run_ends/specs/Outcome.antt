-- How a run ends: why its source is refused, and what each status implies.
use Rattle.std.specs.Prelude.{◌≡◌, ℕ, List, length, nat_lt, if◌then◌else◌, Option}
use Rattle.berth_face.specs.Streams.{ReadsAll, TakesAtMost, TakesCount}
use Rattle.row_model.specs.declared.script_fault.Why.{Why}
use Rattle.row_model.specs.declared.script_fault.Why.TheVariants as why
use Rattle.run_ends.specs.Source.{longest_text, most_taken}
use Rattle.run_ends.specs.declared.status.Status.{Status}
use Rattle.run_ends.specs.declared.stream.SourceError.{SourceError}

-- ---- which status the text decides

-- the status that a text decides, unless the text is too long
abbrev pub if_short : List ℕ → Status → Status
if_short text status = if nat_lt longest_text (length text) then Status.Script 0 why.TooLong else status

-- the status of a source that could not be read to its end
abbrev pub read_status : SourceError → Status
read_status SourceError.Failed = Status.ReadFault
read_status SourceError.TooLong = Status.Script 0 why.TooLong
read_status SourceError.NoMemory = Status.NoMemory

-- ---- why a source is refused

-- one byte too many was taken; or the source was read to its end, and its text decides this status
abbrev pub IsRefused : (List ℕ → Status) → Option (List ℕ) → Option (List ℕ) → ℕ → Why → Type 0
IsRefused decided before after line why.TooLong = (line ≡ 0) × TakesCount before after most_taken
IsRefused decided before after line fault = (text : List ℕ) × ReadsAll before after text × (decided text ≡ Status.Script line fault)

-- ---- what holds at which status

-- the property holds of the line and the cause, if the text was refused
abbrev pub IfScript : Status → (ℕ → Why → Type 0) → Type 0
IfScript (Status.Script line why) P = P line why
IfScript _ P = Unit {0}

-- the property holds, unless source or sink failed or memory ran out
abbrev pub UnlessCutOff : Status → Type 0 → Type 0
UnlessCutOff Status.ReadFault P = Unit {0}
UnlessCutOff Status.WriteFault P = Unit {0}
UnlessCutOff Status.NoMemory P = Unit {0}
UnlessCutOff _ P = P

-- the property holds of each status but Done and WriteFault, which follow a write
abbrev pub UnlessWritten : Status → Type 0 → Type 0
UnlessWritten Status.Done P = Unit {0}
UnlessWritten Status.WriteFault P = Unit {0}
UnlessWritten _ P = P

-- exactly a text that is refused as too long has one byte taken beyond the limit
abbrev pub TakesText : Status → Option (List ℕ) → Option (List ℕ) → Type 0
TakesText (Status.Script line why.TooLong) before after = TakesCount before after most_taken
TakesText _ before after = TakesAtMost before after longest_text
