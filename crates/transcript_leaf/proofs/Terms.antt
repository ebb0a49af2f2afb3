-- What the proofs say of a leaf by who holds it or seats of it.
use Rattle.std.specs.Prelude.{◌≡◌, ℕ, List, [], ◌∷◌, ◌++◌}
use Rattle.leaf_history.specs.History.{Entry}
use Rattle.script_text.specs.declared.command.Command.{Command}
use Rattle.transcript.specs.Pieces.{Piece, PlayedItem, One}
use Rattle.leaf_moves.specs.Holds.{Hold, seen_in}

-- one command more, of which so much was printed
abbrev pub with_pieces : List PlayedItem → Command → List Piece → List PlayedItem
with_pieces items c ps = items ++ One (record { command = c; pieces = ps }) ∷ []

-- what has been seen is a beginning of what these histories tell
abbrev pub TellsOn : {B : Type 0} → ℕ → Hold B → (ℕ → ℕ → List Entry) → Type 0
TellsOn number x histories = (place : ℕ) → (more : List Entry) × (histories number place ≡ seen_in x place ++ more)

-- the second has seen all that the first had
abbrev pub Grows : {B : Type 0} → Hold B → Hold B → Type 0
Grows x y = (place : ℕ) → (more : List Entry) × (seen_in y place ≡ seen_in x place ++ more)
