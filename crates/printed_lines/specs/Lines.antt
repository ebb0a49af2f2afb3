-- The text of each printed line.
use Rattle.std.specs.Prelude.{ℕ, zero, suc, ◌<◌, if◌then◌else◌, List, [], ◌∷◌, ◌++◌, length, ⊤, decimal, codes, Option, Some, None}
use Rattle.std.specs.List.{flat_map}
use Rattle.leaf_words.specs.declared.ways.Way.{Way}
use Rattle.leaf_words.specs.declared.ways.Way.TheVariants.{Memory, Disk}
use Rattle.leaf_words.specs.declared.ways.WhyDisk.TheVariants as why
use Rattle.printed_lines.specs.declared.line.Said.{Said}
use Rattle.printed_lines.specs.declared.line.Said.TheVariants.{Added, Removed, Asked, RefusedShut, RefusedFull, RefusedMemory, Opened, Took, Flushed, Closed, Handed}
use Rattle.printed_lines.specs.declared.line.Deed.{Deed}
use Rattle.printed_lines.specs.declared.line.Deed.TheVariants.{Flush, Drain, Kill, Start}
use Rattle.printed_lines.specs.declared.line.Ending.{Ending}
use Rattle.printed_lines.specs.declared.line.Ending.TheVariants.{Done, Stopped, NotUp, NotDown, Started, FaultRegion, FaultRoom, FaultDisk, FaultDamaged, FaultMemory, FaultStranger, FaultWorn}
use Rattle.printed_lines.specs.declared.line.Ending.TheVariants as ends
use Rattle.printed_lines.specs.declared.line.WhyUntold.{WhyUntold}
use Rattle.printed_lines.specs.declared.line.WhyUntold.TheVariants as untold
use Rattle.printed_lines.specs.declared.line.Line.{Line}
use Rattle.printed_lines.specs.declared.line.Line.TheVariants.{Entry, Worn, Answer, Tailed, Declared, Told, Untold, Ended, Lane, Wave, Rolled, Watch}

-- what an entry's line says
abbrev pub said_text : Said → List ℕ
said_text (Added kept late) = codes "added " ++ (decimal kept ++ (codes " late " ++ decimal late))
said_text (Removed rows) = codes "removed " ++ decimal rows
said_text Asked = codes "asked"
said_text RefusedShut = codes "refused shut"
said_text RefusedFull = codes "refused full"
said_text RefusedMemory = codes "refused memory"
said_text (Opened writes) = codes "opened " ++ decimal writes
said_text (Took writes) = codes "took " ++ decimal writes
said_text (Flushed writes) = codes "flushed " ++ decimal writes
said_text (Closed writes) = codes "closed " ++ decimal writes
said_text Handed = codes "handed"

-- where a start found its tables
abbrev pub way_text : Way → List ℕ
way_text Memory = codes "memory"
way_text (Disk why.NoHead) = codes "disk nohead"
way_text (Disk (why.Closed byte)) = codes "disk closed " ++ decimal byte
way_text (Disk (why.OtherVersion version)) = codes "disk version " ++ decimal version
way_text (Disk why.NoImage) = codes "disk noimage"

abbrev pub deed_text : Deed → List ℕ
deed_text Start = codes "start"
deed_text (Flush table) = codes "flush"
deed_text (Drain stop) = codes "drain"
deed_text Kill = codes "kill"

-- the name of a table of the fleet, by its place
abbrev pub name_at : List (List ℕ) → ℕ → List ℕ
name_at [] place = []
name_at (name ∷ names) zero = name
name_at (name ∷ names) (suc place) = name_at names place

-- a line of an answer
abbrev pub row_line : List ℕ → List ℕ
row_line row = row ++ 10 ∷ []

-- to which leaf the rows of a tail were added
abbrev pub tailed_text : Option ℕ → List ℕ
tailed_text (Some leaf) = codes "tail sent " ++ (decimal leaf ++ 10 ∷ [])
tailed_text None = codes "tail refused" ++ 10 ∷ []

abbrev pub untold_word : WhyUntold → List ℕ
untold_word untold.Shut = codes "shut"
untold_word untold.Worn = codes "worn"
untold_word untold.Memory = codes "memory"

-- ---- the lines of a fleet whose tables have these names

module _ (names : List (List ℕ)) where
  -- how a command ended
  abbrev pub ending_text : Ending → List ℕ
  ending_text Done = codes "done"
  ending_text Stopped = codes "stopped"
  ending_text NotUp = codes "not up"
  ending_text NotDown = codes "not down"
  ending_text ends.Worn = codes "worn"
  ending_text (Started way) = way_text way
  ending_text FaultRegion = codes "fault region"
  ending_text FaultRoom = codes "fault room"
  ending_text FaultDisk = codes "fault disk"
  ending_text FaultDamaged = codes "fault damaged"
  ending_text FaultMemory = codes "fault memory"
  ending_text (FaultStranger name) = codes "fault stranger " ++ name
  ending_text (FaultWorn table) = codes "fault worn " ++ name_at names table

  -- The text of a line. An answer, and what a standing query tells up to an entry, have their own lines after the first. A wave has its leaves, and a
  -- rollover ended after so many waves of all.
  abbrev pub line_text : Line → List ℕ
  line_text (Entry leaf table number said) = decimal leaf ++ (32 ∷ (name_at names table ++ (codes " #" ++ (decimal number ++ (32 ∷ (said_text said ++ 10 ∷ []))))))
  line_text (Worn leaf table) = decimal leaf ++ (32 ∷ (name_at names table ++ (codes " refused worn" ++ 10 ∷ [])))
  line_text (Answer named leaves rows) =
      (codes "answer named " ++ (decimal named ++ (codes " of " ++ (decimal leaves ++ (codes " lines " ++ (decimal (length rows) ++ 10 ∷ [])))))) ++ flat_map row_line rows
  line_text (Tailed leaf) = tailed_text leaf
  line_text (Declared standing) = codes "standing " ++ (decimal standing ++ 10 ∷ [])
  line_text (Told standing number rows) =
      (codes "standing " ++ (decimal standing ++ (codes " at #" ++ (decimal number ++ (codes " lines " ++ (decimal (length rows) ++ 10 ∷ [])))))) ++ flat_map row_line rows
  line_text (Untold standing why) = codes "standing " ++ (decimal standing ++ (32 ∷ (untold_word why ++ 10 ∷ [])))
  line_text (Ended deed leaf ending) = deed_text deed ++ (32 ∷ (decimal leaf ++ (32 ∷ (ending_text ending ++ 10 ∷ []))))
  line_text (Lane number) = codes "lane " ++ (decimal number ++ 10 ∷ [])
  line_text (Wave number total leaves) =
      codes "wave " ++ (decimal number ++ (codes " of " ++ (decimal total ++ (codes " leaves" ++ (flat_map (λ leaf. 32 ∷ decimal leaf) leaves ++ 10 ∷ [])))))
  line_text (Rolled halted waves total) =
      codes "rollover " ++ ((if halted then codes "halted " else codes "done ") ++ (decimal waves ++ (codes " of " ++ (decimal total ++ 10 ∷ []))))
  line_text (Watch text) = codes "watch " ++ (text ++ 10 ∷ [])

  abbrev pub lines_text : List Line → List ℕ
  lines_text lines = flat_map line_text lines

-- the table that an ending names by its place is one of the fleet's
abbrev pub EndsOf : List (List ℕ) → Ending → Type 0
EndsOf names Done = ⊤
EndsOf names Stopped = ⊤
EndsOf names NotUp = ⊤
EndsOf names NotDown = ⊤
EndsOf names ends.Worn = ⊤
EndsOf names (Started way) = ⊤
EndsOf names FaultRegion = ⊤
EndsOf names FaultRoom = ⊤
EndsOf names FaultDisk = ⊤
EndsOf names FaultDamaged = ⊤
EndsOf names FaultMemory = ⊤
EndsOf names (FaultStranger name) = ⊤
EndsOf names (FaultWorn table) = table < length names

-- a line's table is one of the fleet's
abbrev pub IsOf : List (List ℕ) → Line → Type 0
IsOf names (Entry leaf table number said) = table < length names
IsOf names (Worn leaf table) = table < length names
IsOf names (Answer named leaves rows) = ⊤
IsOf names (Tailed leaf) = ⊤
IsOf names (Declared standing) = ⊤
IsOf names (Told standing number rows) = ⊤
IsOf names (Untold standing why) = ⊤
IsOf names (Ended deed leaf ending) = EndsOf names ending
IsOf names (Lane number) = ⊤
IsOf names (Wave number total leaves) = ⊤
IsOf names (Rolled halted waves total) = ⊤
IsOf names (Watch text) = ⊤
