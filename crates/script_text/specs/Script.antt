-- The script that a text is, or its first fault.
use Rattle.std.specs.Prelude.{◌≡◌, ℕ, zero, suc, ◌+◌, List, [], ◌∷◌, length, if◌then◌else◌, Option, Some, None, Result, Ok, Err}
use Rattle.script_text.specs.declared.fleet.FleetShape.{FleetShape}
use Rattle.script_text.specs.declared.item.Item.TheVariants as item
use Rattle.script_text.specs.declared.reading.Reading.{Reading}
use Rattle.script_text.specs.declared.reading.Position.{Position}
use Rattle.script_text.specs.declared.reading.Position.TheVariants as position
use Rattle.script_text.specs.declared.script.Script.{Script}
use Rattle.row_model.specs.declared.script_fault.Why.{Why}
use Rattle.row_model.specs.declared.script_fault.Why.TheVariants as why
use Rattle.row_model.specs.declared.script_fault.ScriptFault.{ScriptFault}
use Rattle.row_model.specs.declared.script_fault.ScriptFault.TheVariants.{At, NoMemory}
use Rattle.text_lines.specs.Lines.{lines_of, is_skipped}
use Rattle.script_text.specs.Words.{first_word}
use Rattle.script_text.specs.Commands.{Fault, ◌>>=◌, first_command, fleet_command, line_word_of}
use Rattle.script_text.specs.Bursts.{step_of}

-- a burst that the text's last line leaves open has its fault there
abbrev pub closed : ℕ → Script → Position → Result Script Fault
closed last script position.Outside = Ok script
closed last script _ = Err (last, why.Place)

module _ (last : ℕ) (fleet : FleetShape) where
  -- the reading of the lines that are left, numbered from n on, after what was read; the first `rows` of them are rows of
  -- the command before; `last` is the number of the text's last line
  abbrev pub read_from : ℕ → ℕ → Reading → List (List ℕ) → Result Script Fault
  read_from rows n reading [] = closed last reading.script reading.position
  read_from (suc rows) n reading (line ∷ more) = read_from rows (n + 1) reading more
  read_from zero n reading (line ∷ more) = if is_skipped line then read_from 0 (n + 1) reading more
      else (step_of last n fleet reading line more >>= λ step. read_from step.rows (n + 1) step.reading more)

-- a line that may be a command: its number, its bytes, and the lines after it
pub record NumberedLine : Type 0 where
  pub number : ℕ
  pub bytes : List ℕ
  pub after : List (List ℕ)

-- the first line that may be a command, of lines that are numbered from n on
abbrev pub next_line : ℕ → List (List ℕ) → Option NumberedLine
next_line n [] = None
next_line n (line ∷ more) = if is_skipped line then next_line (n + 1) more else Some (record { number = n; bytes = line; after = more })

-- a fleet was read on line n, and nothing else
abbrev pub begun : ℕ → FleetShape → Reading
begun n fleet = record { script = record { fleet_line = n; items = item.One (fleet_command fleet) ∷ []; standings = 0 }; position = position.Outside }

-- the script whose first command is on this line
abbrev pub script_at : ℕ → Option NumberedLine → Result Script Fault
script_at last None = Ok (record { fleet_line = 0; items = []; standings = 0 })
script_at last (Some line) = do
  fleet ← first_command line.number line.bytes (line_word_of (first_word line.bytes))
  read_from last fleet 0 (line.number + 1) (begun line.number fleet) line.after

-- the script that a text is, or the first line that has a fault
unfoldable pub script_of : List ℕ → Result Script Fault
script_of text = script_at (length (lines_of text)) (next_line 1 (lines_of text))

-- the fault of a line is such a one
abbrev pub IfAt : ScriptFault → (ℕ → Why → Type 0) → Type 0
IfAt (At line why) P = P line why
IfAt NoMemory P = Unit {0}

-- the result, seen by view, is what reading gives, unless memory ran out
abbrev pub ParsesAs : {X Y : Type 0} → (X → Y) → Result X ScriptFault → Result Y Fault → Type 0
ParsesAs view (Ok x) read = read ≡ Ok (view x)
ParsesAs view (Err e) read = IfAt e (λ line why. read ≡ Err (line, why))
