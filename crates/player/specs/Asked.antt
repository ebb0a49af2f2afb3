-- An ask of one leaf's table, with its line and its reply.
use Rattle.std.specs.Prelude.{◌≡◌, ℕ, ◌-◌, ◌<◌, ◌≤◌, ◌^◌, List, [], ◌∷◌, length, take, ⊤}
use Rattle.berth_face.specs.Berth.{Meaning}
use Rattle.row_model.specs.declared.rows.Row.{Row}
use Rattle.leaf_model.specs.declared.queries.Query.{Query}
use Rattle.leaf_model.specs.declared.groups.Group.{Group}
use Rattle.leaf_model.specs.Groups.{groups}
use Rattle.leaf_history.specs.Calls as call
use Rattle.leaf_history.specs.History.{Entry, after, contents_held}
use Rattle.table_state.specs.Tables.{IsHeld}
use Rattle.leaf_table.specs.declared.replies.Reply.{Reply}
use Rattle.leaf_table.specs.declared.replies.Reply.TheVariants as reply
use Rattle.printed_lines.specs.declared.line.Line.{Line}
use Rattle.printed_lines.specs.Lines.{IsOf}
use Rattle.transcript.specs.Pieces.{Piece, lines_in}
use Rattle.transcript.specs.Shapes.{CallPiece}
use Rattle.transcript.specs.Histories.{BaseState, rows_before}
use Rattle.leaf_moves.specs.Holds.{GoOn, Hold, base_states_in}
use Rattle.leaf_moves.specs.Plays.{Goes}
use Rattle.player.specs.Crew.{AllCounted}
use Rattle.player.specs.Lines.{reply_line}

-- P holds of the groups, if the reply has some
abbrev pub IfGroups : Reply → (ℕ → List Group → Type 0) → Type 0
IfGroups (reply.Groups number gs) P = P number gs
IfGroups _ P = ⊤

-- the groups of some rows, at most as many as a table may have
pub record AreGroups (q : Query) (number : ℕ) (gs : List Group) : Type 0 where
  pub some : 0 < number
  pub rows : List Row
  pub few : length rows ≤ 2 ^ 40
  pub are : gs ≡ groups q rows

-- the groups of the rows of the table before that entry, which are ones that a table may hold
pub record AreGroupsThen (g : BaseState) (entries : List Entry) (q : Query) (number : ℕ) (gs : List Group) : Type 0 where
  pub held : IsHeld (contents_held (after g.founded g.base (take (number - 1) entries)))
  pub are : gs ≡ groups q (rows_before g entries number)

-- What the ask did, and the rows that the groups in its reply are of, however the histories go on.
pub record AsksLeaf {B : Type 0} (meaning : B → Meaning) (names : List (List ℕ)) (leaf table : ℕ) (q : Query) (xs : List (Hold B)) (line : Line) (answer : Reply) (ys : List (Hold B)) : Type 0 where
  pub piece : Piece
  pub prints : CallPiece leaf table (call.Ask q) piece
  pub line_is : lines_in (piece ∷ []) ≡ line ∷ []
  pub tells : line ≡ reply_line leaf table answer
  pub fits : IsOf names line
  pub goes : Goes meaning xs (piece ∷ []) ys
  pub counted : AllCounted meaning (piece ∷ []) xs ys
  pub groups_are : IfGroups answer (AreGroups q)
  pub over : (histories : ℕ → ℕ → List Entry) → GoOn ys histories → IfGroups answer (AreGroupsThen (base_states_in ys leaf table) (histories leaf table) q)
