-- The lines of calls and deeds, and the pieces that they belong to.
use Rattle.std.specs.Prelude.{◌≡◌, ℕ, Bool, List, [], ◌∷◌, ◌++◌, map, Option, Result, Ok, Err, Vec, IfOk}
use Rattle.std.specs.Global.{Global}
use Rattle.std.specs.List.{AllByRecursion}
use Rattle.leaf_history.specs.Calls.{Call}
use Rattle.leaf_table.specs.declared.replies.Reply.{Reply}
use Rattle.leaf_table.specs.declared.replies.Reply.TheVariants as told
use Rattle.leaf_table.specs.Turns.{Shared}
use Rattle.leaf_table.specs.Calls.{SeatView}
use Rattle.leaf_words.specs.declared.note.Note.{Note}
use Rattle.printed_lines.specs.declared.line.Said.TheVariants as said
use Rattle.printed_lines.specs.declared.line.Ending.{Ending}
use Rattle.printed_lines.specs.declared.line.Line.{Line}
use Rattle.printed_lines.specs.declared.line.Line.TheVariants as line
use Rattle.printed_lines.specs.Lines.{IsOf}
use Rattle.printed_lines.specs.declared.line.Deed.{Deed}
use Rattle.transcript.specs.Pieces.{Piece, lines_in, noted_line}
use Rattle.transcript.specs.Counts.{deeds_in}
use Rattle.leaf_moves.specs.Steps.{CallStep}

-- ---- calls

-- the line of a call at a leaf's table with this reply
abbrev pub reply_line : ℕ → ℕ → Reply → Line
reply_line leaf table (told.Added number kept late) = line.Entry leaf table number (said.Added kept late)
reply_line leaf table (told.Removed number rows) = line.Entry leaf table number (said.Removed rows)
reply_line leaf table (told.Groups number gs) = line.Entry leaf table number said.Asked
reply_line leaf table (told.Shut number) = line.Entry leaf table number said.RefusedShut
reply_line leaf table (told.Full number) = line.Entry leaf table number said.RefusedFull
reply_line leaf table (told.NoMemory number) = line.Entry leaf table number said.RefusedMemory
reply_line leaf table told.Worn = line.Worn leaf table

-- what a caller's call did, with its piece; memory for its line may have run out
pub record CallsWith {E : Type 0} (names : List (List ℕ)) (leaf table : ℕ) (c : Call) (tables : List Shared) (callers : List (Option SeatView)) (result : Result (Vec Line Global) E) (callers' : List (Option SeatView)) : Type 0 where
  pub piece : Piece
  pub step : CallStep leaf table c tables callers piece callers'
  pub calm : (test : Deed → Ending → Bool) (number : ℕ) → deeds_in test number (piece ∷ []) ≡ 0
  pub fit : AllByRecursion (IsOf names) (lines_in (piece ∷ []))
  pub lines_are : IfOk result (λ lines. lines.items ≡ lines_in (piece ∷ []))

-- ---- deeds

-- one line for each note, in order
abbrev pub note_lines : ℕ → List Note → List Line
note_lines leaf notes = map (noted_line leaf) notes

-- one line for each note, and how the deed ended
abbrev pub AreEnded : ℕ → Deed → List Note → Ending → List Line → Type 0
AreEnded leaf deed notes ends lines = lines ≡ note_lines leaf notes ++ line.Ended deed leaf ends ∷ []

-- the lines of both, with these between them; neither is Err
abbrev pub AreJoined : {E : Type 0} → Result (Vec Line Global) E → List Line → Result (Vec Line Global) E → List Line → Type 0
AreJoined (Ok first) between (Ok second) lines = lines ≡ first.items ++ (between ++ second.items)
AreJoined (Ok first) between (Err e) lines = ⊥
AreJoined (Err e) between second lines = ⊥
