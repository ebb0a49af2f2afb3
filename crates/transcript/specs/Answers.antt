-- What answers and tails print, by the histories; which seats are told as worn; and how many columns the tables have
-- that a drain hands over.
use Rattle.std.specs.Prelude.{◌≡◌, ℕ, ◌==◌, ◌+◌, ◌^◌, ◌≤◌, List, [], ◌∷◌, length, fold, sum_by, take, Option, Some, None, IfSome, if◌then◌else◌, ⊤}
use Rattle.std.specs.List.{flat_map, range_with_len, AllByRecursion}
use Rattle.row_model.specs.declared.rows.Row.{Row}
use Rattle.leaf_model.specs.declared.queries.Query.{Query}
use Rattle.leaf_model.specs.Groups.{groups}
use Rattle.answer_text.specs.Answer.{answer_lines}
use Rattle.leaf_model.specs.declared.writes.Write.{Write}
use Rattle.leaf_words.specs.declared.note.Note.{Note}
use Rattle.leaf_history.specs.History.{Entry, after}
use Rattle.table_state.specs.Tables.{added_count, least_columns}
use Rattle.script_text.specs.declared.order.Order.{Order}
use Rattle.script_text.specs.declared.order.Order.TheVariants as order
use Rattle.script_text.specs.declared.order.Part.{Part}
use Rattle.script_text.specs.declared.order.Part.TheVariants as part
use Rattle.script_text.specs.Orders.{part_of}
use Rattle.printed_lines.specs.declared.line.Ending.TheVariants as ends
use Rattle.printed_lines.specs.declared.line.Line.TheVariants as line
use Rattle.script_text.specs.declared.fleet.FleetShape.{FleetShape}
use Rattle.script_text.specs.Commands.{leaf_count}
use Rattle.printed_lines.specs.declared.line.Deed.{Deed}
use Rattle.printed_lines.specs.declared.line.Deed.TheVariants.{Flush}
use Rattle.transcript.specs.Pieces.{Piece, Worn, Acted, Says, Played, place_among}
use Rattle.transcript.specs.Shapes.{named}
use Rattle.transcript.specs.Histories.{BaseState, rows_before}
use Rattle.transcript.specs.Life.{Columns}
use Rattle.transcript.specs.Tails.{TailPieces}

-- the rows of the named leaves, leaf after leaf, each as before its entry
abbrev pub rows_of_named : (ℕ → BaseState) → (ℕ → List Entry) → List (ℕ × ℕ) → List Row
rows_of_named base_states histories leaves = flat_map (λ l. rows_before (base_states l.0) (histories l.0) l.1) leaves

abbrev pub AnswerIs : Query → List Row → Piece → Type 0
AnswerIs q rows (Says (line.Answer count of lines)) = lines ≡ answer_lines q (groups q rows)
AnswerIs q rows _ = ⊤

-- The lines of a query's answer are those of the groups of exactly the rows of the leaves that its pieces name. The
-- leaves that a tail asks and picks are decided by the rows that they hold.
abbrev pub AnswersOrder : FleetShape → (ℕ → ℕ → BaseState) → (ℕ → ℕ → List Entry) → Order → List Piece → Type 0
AnswersOrder fleet base_states histories (order.Query q) pieces =
    let table = place_among q.table fleet.names in
    AllByRecursion (AnswerIs q (rows_of_named (λ leaf. base_states leaf table) (λ leaf. histories leaf table) (named pieces))) pieces
AnswersOrder fleet base_states histories (order.Tail key table rows) pieces = TailPieces (leaf_count fleet) (λ leaf. base_states leaf table) (λ leaf. histories leaf table) key table rows pieces
AnswersOrder fleet base_states histories _ pieces = ⊤

abbrev pub AnswersPart : FleetShape → (ℕ → ℕ → BaseState) → (ℕ → ℕ → List Entry) → Part → List Piece → Type 0
AnswersPart fleet base_states histories (part.Leaves o) pieces = AnswersOrder fleet base_states histories o pieces
AnswersPart fleet base_states histories (part.Run o) pieces = ⊤

abbrev pub Answers : FleetShape → (ℕ → ℕ → BaseState) → (ℕ → ℕ → List Entry) → Played → Type 0
Answers fleet base_states histories p = AnswersPart fleet base_states histories (part_of p.command) p.pieces

-- ---- worn seats

abbrev pub flushed_table : ℕ → Deed → Option (ℕ × ℕ)
flushed_table leaf (Flush table) = Some (leaf, table)
flushed_table leaf _ = None

-- the table whose worn seat a piece tells
abbrev pub worn_in : Piece → Option (ℕ × ℕ)
worn_in (Worn leaf table) = Some (leaf, table)
worn_in (Acted leaf deed notes ends.Worn) = flushed_table leaf deed
worn_in (Acted leaf deed notes (ends.FaultWorn table)) = Some (leaf, table)
worn_in _ = None

-- a seat is told as worn only at a table with 2^62 entries
abbrev pub WornIsLong : (ℕ → ℕ → List Entry) → Piece → Type 0
WornIsLong histories piece = IfSome (worn_in piece) (λ x. 2 ^ 62 ≤ length (histories x.0 x.1))

-- ---- columns

-- the least number of columns of the tables that these entries hand over, by the rows that each then has
abbrev pub columns_handed : (ℕ → BaseState) → (ℕ → List Entry) → List Note → ℕ
columns_handed base_states histories [] = 0
columns_handed base_states histories (n ∷ ns) = least_columns (rows_before (base_states n.table) (histories n.table) n.number) + columns_handed base_states histories ns

-- the number of the last entry of a table in these notes; 0 if there is none
abbrev pub last_of : ℕ → List Note → ℕ
last_of table notes = fold (λ (last : ℕ) (n : Note). if n.table == table then n.number else last) 0 notes

-- the writes of a table after its last entry in these notes
abbrev pub writes_then : (ℕ → BaseState) → (ℕ → List Entry) → List Note → ℕ → List Write
writes_then base_states histories notes table = (after (base_states table).founded (base_states table).base (take (last_of table notes) (histories table))).writes

-- bounds on the columns of a leaf's tables after these entries: at least what their rows need, at most one for each row
-- and each cell that their writes add, and the spare ones of the leaf's base
abbrev pub columns_of : (ℕ → BaseState) → (ℕ → List Entry) → ℕ → List Note → Columns
columns_of base_states histories tables notes = record {
  least = columns_handed base_states histories;
  most = sum_by (λ table. (base_states table).base.spare + added_count (writes_then base_states histories notes table)) (range_with_len 0 tables);
  bulk = sum_by (λ table. length (writes_then base_states histories notes table) + (base_states table).base.spare + added_count (writes_then base_states histories notes table)) (range_with_len 0 tables);
}
