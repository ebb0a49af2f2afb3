-- What a tail prints: by the words of its key, and the rows that the leaves held when they were asked.
use Rattle.std.specs.Prelude.{◌≡◌, ℕ, ◌<◌, Bool, true, false, List, [], ◌∷◌, ◌++◌, Option, Some, None, IfSome, option_to_list}
use Rattle.std.specs.List.{AllByRecursion, flat_map}
use Rattle.row_model.specs.declared.rows.Row.{Row}
use Rattle.leaf_model.specs.Groups.{groups}
use Rattle.leaf_history.specs.Calls as call
use Rattle.leaf_history.specs.History.{Entry}
use Rattle.tail_picks.specs.Room.{every_row, free_rows}
use Rattle.tail_picks.specs.Tails.{TryOf, Tails, pick_of, words_of}
use Rattle.printed_lines.specs.declared.line.Said.TheVariants.{Added, Asked}
use Rattle.printed_lines.specs.declared.line.Line.TheVariants as line
use Rattle.transcript.specs.Pieces.{Piece, Called, Says}
use Rattle.transcript.specs.Shapes.{CallPiece}
use Rattle.transcript.specs.Histories.{BaseState, rows_before}

-- the free rows of a leaf's table when it was asked, if it answered the count
abbrev pub free_then : (ℕ → BaseState) → (ℕ → List Entry) → Piece → Option ℕ
free_then base_states histories (Called leaf table c number Asked) = Some (free_rows (groups every_row (rows_before (base_states leaf) (histories leaf) number)))
free_then base_states histories _ = None

abbrev pub tells_added : Piece → Bool
tells_added (Called leaf table c number (Added kept late)) = true
tells_added _ = false

-- the calls of a try: a count of the rows of each leaf that is asked, and an add to the picked one
pub record TryPieces (table : ℕ) (rows : List Row) (pick : Option ℕ) (t : TryOf Piece) : Type 0 where
  pub one : CallPiece t.first table (call.Ask every_row) t.one
  pub two : IfSome t.two (CallPiece t.second table (call.Ask every_row))
  pub added : IfSome t.added (λ p. IfSome pick (λ leaf. CallPiece leaf table (call.Add rows) p))

abbrev pub pieces_of_try : TryOf Piece → List Piece
pieces_of_try t = t.one ∷ (option_to_list t.two ++ option_to_list t.added)

-- the tries, one after another, over this many leaves, and how the tail ended
pub record TailPieces (leaves : ℕ) (base_states : ℕ → BaseState) (histories : ℕ → List Entry) (key table : ℕ) (rows : List Row) (pieces : List Piece) : Type 0 where
  pub some : 0 < leaves
  pub tries : List (TryOf Piece)
  pub sent : Option ℕ
  pub tails : Tails (free_then base_states histories) tells_added leaves (words_of key) tries sent
  pub calls : AllByRecursion (λ t. TryPieces table rows (pick_of (free_then base_states histories) tells_added t) t) tries
  pub are : pieces ≡ flat_map pieces_of_try tries ++ Says (line.Tailed sent) ∷ []
