-- What each command does to the leaves that a crew holds.
use Rattle.std.specs.Prelude.{◌≡◌, ◌⊎◌, ◌==◌, ℕ, zero, suc, List, [], ◌∷◌, ◌++◌, length, slice_set, Option, Some, None, Result, Vec, IfOk, IsErr, ⊤, if◌then◌else◌}
use Rattle.std.specs.Global.{Global}
use Rattle.std.specs.List.{AllByRecursion, flat_map, range_with_len}
use Rattle.berth_face.specs.Berth.{Meaning}
use Rattle.row_model.specs.declared.rows.Row.{Row}
use Rattle.leaf_model.specs.declared.queries.Query.{Query}
use Rattle.answer_text.specs.Answer.{answer_lines}
use Rattle.leaf_history.specs.Calls.{Ask, Call}
use Rattle.leaf_history.specs.History.{Entry}
use Rattle.leaf_table.specs.Turns.{Shared}
use Rattle.leaf_table.specs.Calls.{SeatView}
use Rattle.leaf_table.specs.Lists.{row}
use Rattle.aggregator.specs.declared.lists.Named.{Named}
use Rattle.aggregator.specs.declared.fanned.Fanned.{Fanned}
use Rattle.aggregator.specs.Asks.{AllAsked}
use Rattle.aggregator.specs.Partial as one
use Rattle.aggregator.specs.Partial.{bases_in}
use Rattle.leaf_table.specs.declared.replies.Reply.{Reply}
use Rattle.tail_picks.specs.Tails.{TryOf, Tails, pick_of, words_of}
use Rattle.tailer.specs.declared.tries.Tailed.{Tailed}
use Rattle.tailer.specs.Calls.{CallsOn, IsOverRows, calls_of_tries, free_of, is_added, sent_to, tries_seen}
use Rattle.script_text.specs.declared.order.Order.TheVariants as order
use Rattle.script_text.specs.declared.order.TableRequest.{TableRequest}
use Rattle.script_text.specs.Orders.{IsRequest}
use Rattle.printed_lines.specs.declared.line.Said.TheVariants as said
use Rattle.printed_lines.specs.declared.line.Ending.{Ending}
use Rattle.printed_lines.specs.declared.line.Line.{Line}
use Rattle.printed_lines.specs.declared.line.Line.TheVariants as line
use Rattle.printed_lines.specs.Lines.{IsOf}
use Rattle.printed_lines.specs.declared.line.Deed.{Deed}
use Rattle.printed_lines.specs.declared.line.Deed.TheVariants.{Start}
use Rattle.transcript.specs.Pieces.{Piece, lines_in}
use Rattle.transcript.specs.Shapes.{ActPiece, CallPiece, EachActs, QueryPieces, call_of}
use Rattle.transcript.specs.Counts.{CountsRose}
use Rattle.transcript.specs.Answers.{AnswersOrder}
use Rattle.leaf_moves.specs.Holds.{GoOn, base_states_in}
use Rattle.leaf_moves.specs.Stage.{Leaf}
use Rattle.leaf_moves.specs.Steps.{DeedStep}
use Rattle.transcript.specs.Watching.{drained_by, started_by}
use Rattle.player.specs.declared.answer.DeedOutcome.{DeedOutcome}
use Rattle.printed_lines.specs.declared.line.Deed.{Deed}
use Rattle.player.specs.declared.call.SeatCall.{SeatCall}
use Rattle.player.specs.declared.call.SeatCall.TheVariants as seat
use Rattle.player.specs.declared.members.Members.{Members}
use Rattle.player.specs.Lines.{reply_line}
use Rattle.player.specs.Members.{GoesWith, fleet_in, holds_in}

-- ---- deeds

-- how a deed ended, in the words of the watches, as a drain and as a start
abbrev pub answer_of : Ending → DeedOutcome
answer_of ends = record { drained = drained_by ends; started = started_by ends }

-- a deed of leaf `number` between two meetings of all seats, with its piece
pub record ActsWith {B E : Type 0} (meaning : B → Meaning) (names : List (List ℕ)) (number : ℕ) (deed : Deed) (leaf : Leaf) (callers : List (Option SeatView)) (b : B)
    (answer : DeedOutcome) (result : Result (Vec Line Global) E) (leaf' : Leaf) (callers' : List (Option SeatView)) (b' : B) : Type 0 where
  pub piece : Piece
  pub step : DeedStep number deed (meaning b) (meaning b') leaf callers piece leaf' callers'
  pub counted : CountsRose number (piece ∷ []) (meaning b) (meaning b')
  pub fit : AllByRecursion (IsOf names) (lines_in (piece ∷ []))
  pub lines_are : IfOk result (λ lines. lines.items ≡ lines_in (piece ∷ []))
  pub answered : answer ≡ answer_of step.ends

-- a deed of one of the leaves
pub record ActsAt {B E : Type 0} (meaning : B → Meaning) (number : ℕ) (deed : Deed) (x : Members B) (result : Result (Vec Line Global) E) (y : Members B) : Type 0 where
  pub piece : Piece
  pub prints : ActPiece number deed piece
  pub goes : GoesWith meaning x.names (holds_in x) result (piece ∷ []) (holds_in y)

-- the same, with how it ended
pub record DeedAt {B E : Type 0} (meaning : B → Meaning) (number : ℕ) (deed : Deed) (x : Members B) (answer : DeedOutcome) (result : Result (Vec Line Global) E) (y : Members B) : Type 0 where
  pub piece : Piece
  pub prints : ActPiece number deed piece
  pub answered : answer ≡ answer_of prints.1
  pub goes : GoesWith meaning x.names (holds_in x) result (piece ∷ []) (holds_in y)

-- the first k leaves were started
pub record StartsFirst {B E : Type 0} (meaning : B → Meaning) (k : ℕ) (x : Members B) (result : Result (Vec Line Global) E) (y : Members B) : Type 0 where
  pub pieces : List Piece
  pub prints : EachActs Start (range_with_len 0 k) pieces
  pub goes : GoesWith meaning x.names (holds_in x) result pieces (holds_in y)

-- ---- calls

-- the call of a table that is made
abbrev pub call_in : SeatCall → Call
call_in (seat.Request r) = call_of r
call_in (seat.Lent q) = Ask q.now

abbrev pub IsSeatCall : SeatCall → Type 0
IsSeatCall (seat.Request r) = IsRequest r
IsSeatCall (seat.Lent q) = ⊤

-- a call at one of the leaves
pub record CallsAt {B E : Type 0} (meaning : B → Meaning) (leaf table : ℕ) (r : TableRequest) (x : Members B) (result : Result (Vec Line Global) E) (y : Members B) : Type 0 where
  pub piece : Piece
  pub prints : CallPiece leaf table (call_of r) piece
  pub goes : GoesWith meaning x.names (holds_in x) result (piece ∷ []) (holds_in y)

-- ---- queries

-- the number of the leaf's entry, if the leaf is in the list
abbrev pub number_in : ℕ → List Named → Option ℕ
number_in leaf [] = None
number_in leaf (n ∷ ns) = if n.leaf == leaf then Some n.number else number_in leaf ns

-- the line of a leaf, by the number of its entry among the leaves that answered, that were shut, and that ran out of
-- memory
abbrev pub said_line : ℕ → ℕ → Option ℕ → Option ℕ → Option ℕ → Line
said_line leaf table (Some number) shut starved = line.Entry leaf table number said.Asked
said_line leaf table None (Some number) starved = line.Entry leaf table number said.RefusedShut
said_line leaf table None None (Some number) = line.Entry leaf table number said.RefusedMemory
said_line leaf table None None None = line.Worn leaf table

-- the line of a leaf that was asked
abbrev pub asked_line : ℕ → ℕ → Fanned → Line
asked_line leaf table f = said_line leaf table (number_in leaf f.named) (number_in leaf f.shut) (number_in leaf f.starved)

-- the lines of the first `leaves` leaves
abbrev pub asked_lines : ℕ → ℕ → Fanned → List Line
asked_lines zero table f = []
asked_lines (suc leaves) table f = asked_lines leaves table f ++ asked_line leaves table f ∷ []

-- all lines of a query
abbrev pub query_lines : ℕ → ℕ → Query → Fanned → List Line
query_lines leaves table q f = asked_lines leaves table f ++ line.Answer (length f.named) leaves (answer_lines q f.groups) ∷ []

-- the seats at one table asked, or, as memory ran out, none did
abbrev pub AsksRow : {E : Type 0} → Query → List (List Shared) → ℕ → List (List SeatView) → Result Fanned E → List (List SeatView) → Type 0
AsksRow q tables table rows result rows' = (IsErr result × (rows' ≡ rows)) ⊎ ((after : List SeatView) × AllAsked q tables table (row rows table) after result × (rows' ≡ slice_set rows table after))

-- a query of all leaves; its answer is over what they then hold, however their histories go on
pub record AsksAll {B E : Type 0} (meaning : B → Meaning) (q : Query) (x : Members B) (result : Result (Vec Line Global) E) (y : Members B) : Type 0 where
  pub pieces : List Piece
  pub prints : QueryPieces (fleet_in x) q pieces
  pub goes : GoesWith meaning x.names (holds_in x) result pieces (holds_in y)
  pub answers : (histories : ℕ → ℕ → List Entry) → GoOn (holds_in y) histories → AnswersOrder (fleet_in x) (base_states_in (holds_in y)) histories (order.Query q) pieces

-- ---- tails

-- the line of a call at a leaf, if it was made
abbrev pub also_line : Option ℕ → ℕ → Option Reply → List Line
also_line (Some leaf) table (Some reply) = reply_line leaf table reply ∷ []
also_line leaf table reply = []

-- the lines of a try
abbrev pub try_lines : ℕ → TryOf Reply → List Line
try_lines table t = reply_line t.first table t.one ∷ (also_line (Some t.second) table t.two ++ also_line (pick_of free_of is_added t) table t.added)

-- all lines of a tail
abbrev pub tail_lines : ℕ → Tailed → List Line
tail_lines table t = flat_map (try_lines table) (tries_seen t.tries) ++ line.Tailed (sent_to t.sent) ∷ []

-- what a tail of these rows did by the seats at one table, which are then `after`
pub record Sends (tables : List (List Shared)) (table key : ℕ) (rows : List Row) (seats : List SeatView) (t : Tailed) (after : List SeatView) : Type 0 where
  pub tails : Tails free_of is_added (length tables) (words_of key) (tries_seen t.tries) (sent_to t.sent)
  pub calls : CallsOn tables table seats (calls_of_tries rows (tries_seen t.tries)) after
  pub over : (histories : ℕ → List Entry) → one.SeatsGoOn after histories → AllByRecursion (IsOverRows (bases_in tables table) histories) (calls_of_tries rows (tries_seen t.tries))

-- the same; the seats at other tables stay
pub record SendsRow (tables : List (List Shared)) (table key : ℕ) (rows : List Row) (seats : List (List SeatView)) (t : Tailed) (seats' : List (List SeatView)) : Type 0 where
  pub after : List SeatView
  pub sends : Sends tables table key rows (row seats table) t after
  pub now : seats' ≡ slice_set seats table after

-- a tail of these rows; its picks are by what the leaves then held, however their histories go on
pub record TailsAll {B E : Type 0} (meaning : B → Meaning) (key table : ℕ) (rows : List Row) (x : Members B) (result : Result (Vec Line Global) E) (y : Members B) : Type 0 where
  pub pieces : List Piece
  pub goes : GoesWith meaning x.names (holds_in x) result pieces (holds_in y)
  pub answers : (histories : ℕ → ℕ → List Entry) → GoOn (holds_in y) histories → AnswersOrder (fleet_in x) (base_states_in (holds_in y)) histories (order.Tail key table rows) pieces
