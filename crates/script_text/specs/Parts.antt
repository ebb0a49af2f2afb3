-- The rows of the parts of a text.
use Rattle.std.specs.Prelude.{◌≡◌, ◌<◌, ◌≤◌, ◌==◌, ◌+◌, ◌⊎◌, ℕ, List, [], ◌∷◌, ◌++◌, length, take, drop, Bool, true, if◌then◌else◌, Result, IfOk}
use Rattle.std.specs.Borrow.{Bor}
use Rattle.std.specs.List.{AllByRecursion, flat_map}
use Rattle.row_model.specs.declared.rows.Row.{Row}
use Rattle.row_model.specs.Values.{IsRow}
use Rattle.row_model.specs.declared.script_fault.ScriptFault.{ScriptFault}
use Rattle.row_model.specs.declared.script_fault.ScriptFault.TheVariants.{At, NoMemory}
use Rattle.script_text.specs.Commands.{rows_from}
use Rattle.text_lines.specs.Lines.{lines_of}
use Rattle.script_text.specs.Script.{ParsesAs}

-- the reading of a part, whose first line has the number 1: its lines as rows, or its first fault
pub record IsPartRead (part : List ℕ) (read : Result (List Row) ScriptFault) : Type 0 where
  pub exact : ParsesAs (λ (rows : List Row). rows) read (rows_from 1 (lines_of part))
  pub are_rows : IfOk read (AllByRecursion IsRow)

-- the fault of a part after this number of lines, with its line's number in the whole text
abbrev pub fault_behind : ℕ → ScriptFault → ScriptFault
fault_behind lines (At line why) = At (lines + line) why
fault_behind lines NoMemory = NoMemory
