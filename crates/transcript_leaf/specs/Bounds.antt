-- What no drain of a leaf with a known base prints.
use Rattle.std.specs.Prelude.{ℕ, ◌+◌, ◌≤◌, ◌^◌, true, List, Option, Some}
use Rattle.leaf_words.specs.declared.note.Note.{Note}
use Rattle.printed_lines.specs.declared.line.Ending.TheVariants as ends
use Rattle.transcript.specs.Life.{Columns, Life, OfDrain}

-- a drain of founded tables that make no image: they have at least 2^25 rows, cells and writes
abbrev pub RoomlessHaveMuch : Type 0
RoomlessHaveMuch = (tables : ℕ) (columns : Columns) (stop : Option ℕ) (life : Life) (notes : List Note) (next : Life)
    → OfDrain true tables columns stop life notes ends.FaultRoom next → 2 ^ 25 ≤ columns.bulk

-- a drain is stopped after no more steps than it can take
abbrev pub StopsAreFew : Type 0
StopsAreFew = (tables n : ℕ) (columns : Columns) (life : Life) (notes : List Note) (next : Life)
    → OfDrain true tables columns (Some n) life notes ends.Stopped next → n ≤ tables + columns.most + 3
