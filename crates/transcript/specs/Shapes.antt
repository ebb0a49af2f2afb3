-- Which pieces each command prints, whatever the tables hold.
use Rattle.std.specs.Prelude.{◌≡◌, ◌⊎◌, ℕ, suc, Bool, List, [], ◌∷◌, ◌++◌, length, map, nat_lt, None, ⊤}
use Rattle.std.specs.List.{flat_map, AllZip, range_with_len}
use Rattle.leaf_model.specs.declared.queries.Query.{Query}
use Rattle.leaf_words.specs.declared.note.Note.{Note}
use Rattle.leaf_history.specs.Calls.{Call}
use Rattle.leaf_history.specs.Calls as call
use Rattle.script_text.specs.declared.command.Command.{Command}
use Rattle.script_text.specs.declared.order.Order.{Order}
use Rattle.script_text.specs.declared.order.Order.TheVariants as order
use Rattle.script_text.specs.declared.order.Part.{Part}
use Rattle.script_text.specs.declared.order.Part.TheVariants as part
use Rattle.script_text.specs.declared.order.TableRequest.{TableRequest}
use Rattle.script_text.specs.declared.order.TableRequest.TheVariants as request
use Rattle.script_text.specs.Orders.{part_of}
use Rattle.printed_lines.specs.declared.line.Said.{Said}
use Rattle.printed_lines.specs.declared.line.Said.TheVariants.{Asked}
use Rattle.printed_lines.specs.declared.line.Ending.{Ending}
use Rattle.printed_lines.specs.declared.line.Line.TheVariants as line
use Rattle.rollover_plan.specs.Plan.{IsPlan}
use Rattle.script_text.specs.declared.fleet.FleetShape.{FleetShape}
use Rattle.script_text.specs.Commands.{leaf_count}
use Rattle.printed_lines.specs.declared.line.Deed.{Deed}
use Rattle.printed_lines.specs.declared.line.Deed.TheVariants.{Start, Drain}
use Rattle.transcript.specs.Pieces.{Piece, Called, Worn, Acted, Says, place_among}

-- A caller's call at a table. The history of the table decides what its line may tell.
abbrev pub CallPiece : ℕ → ℕ → Call → Piece → Type 0
CallPiece leaf table c piece = ((number : ℕ) × (said : Said) × (piece ≡ Called leaf table c number said)) ⊎ (piece ≡ Worn leaf table)

-- a deed of a leaf's steward
abbrev pub ActPiece : ℕ → Deed → Piece → Type 0
ActPiece leaf deed piece = (notes : List Note) × (ending : Ending) × (piece ≡ Acted leaf deed notes ending)

-- this deed of each of the leaves, in order
abbrev pub EachActs : Deed → List ℕ → List Piece → Type 0
EachActs deed leaves pieces = AllZip (λ leaf piece. ActPiece leaf deed piece) leaves pieces

abbrev pub OnePiece : (Piece → Type 0) → List Piece → Type 0
OnePiece P pieces = (p : Piece) × P p × (pieces ≡ p ∷ [])

-- the leaves that pieces name, each with the number of its entry
abbrev pub named_in : Piece → List (ℕ × ℕ)
named_in (Called leaf table c number Asked) = (leaf, number) ∷ []
named_in _ = []

abbrev pub named : List Piece → List (ℕ × ℕ)
named pieces = flat_map named_in pieces

-- an ask of each leaf, and the answer, which tells the number of named leaves
pub record QueryPieces (fleet : FleetShape) (q : Query) (pieces : List Piece) : Type 0 where
  pub asks : List Piece
  pub rows : List (List ℕ)
  pub each : AllZip (λ leaf piece. CallPiece leaf (place_among q.table fleet.names) (call.Ask q) piece) (range_with_len 0 (leaf_count fleet)) asks
  pub are : pieces ≡ asks ++ Says (line.Answer (length (named asks)) (leaf_count fleet) rows) ∷ []

-- a wave: its line, a drain of each of its leaves, and a start of each
pub record WavePieces (number total : ℕ) (leaves : List ℕ) (pieces : List Piece) : Type 0 where
  pub drains : List Piece
  pub starts : List Piece
  pub drained : EachActs (Drain None) leaves drains
  pub started : EachActs Start leaves starts
  pub are : pieces ≡ Says (line.Wave number total leaves) ∷ (drains ++ starts)

-- a prefix of the waves, which are numbered from `number` on
abbrev pub WavesPieces : ℕ → ℕ → List (List ℕ) → List (List Piece) → Type 0
WavesPieces number total waves [] = ⊤
WavesPieces number total [] (p ∷ ps) = ⊥
WavesPieces number total (wave ∷ waves) (p ∷ ps) = WavePieces number total wave p × WavesPieces (suc number) total waves ps

-- the waves of a plan that were begun; how the rollover ended: halted exactly if one was left out; and a line for each
-- watch that is left
pub record RollPieces (plan : List (List ℕ)) (pieces : List Piece) : Type 0 where
  pub begun : List (List Piece)
  pub halted : Bool
  pub texts : List (List ℕ)
  pub each : WavesPieces 1 (length plan) plan begun
  pub halt : halted ≡ nat_lt (length begun) (length plan)
  pub are : pieces ≡ flat_map (λ (wave : List Piece). wave) begun ++ (Says (line.Rolled halted (length begun) (length plan)) ∷ map (λ (text : List ℕ). Says (line.Watch text)) texts)

-- a rollover with this share, by some plan
pub record Rolls (fleet : FleetShape) (percent : ℕ) (pieces : List Piece) : Type 0 where
  pub plan : List (List ℕ)
  pub is_plan : IsPlan fleet.machines fleet.per_machine percent plan
  pub roll : RollPieces plan pieces

-- the call that a request makes
abbrev pub call_of : TableRequest → Call
call_of (request.Add rows) = call.Add rows
call_of (request.Expire horizon) = call.Expire horizon
call_of (request.Keep n) = call.Keep n
call_of (request.Ask q) = call.Ask q

-- One case for each order; a new one adds a case. Answers has what a tail prints, which depends on the rows of the
-- tables.
abbrev pub PrintsOrder : FleetShape → Order → List Piece → Type 0
PrintsOrder fleet order.Start pieces = EachActs Start (range_with_len 0 (leaf_count fleet)) pieces
PrintsOrder fleet (order.Call leaf table r) pieces = OnePiece (CallPiece leaf table (call_of r)) pieces
PrintsOrder fleet (order.Deed leaf d) pieces = OnePiece (ActPiece leaf d) pieces
PrintsOrder fleet (order.Query q) pieces = QueryPieces fleet q pieces
PrintsOrder fleet (order.Tail key table rows) pieces = ⊤
PrintsOrder fleet (order.Rollover percent) pieces = Rolls fleet percent pieces

-- Telling has what standing queries print, which depends on what was printed before.
abbrev pub PrintsPart : FleetShape → Part → List Piece → Type 0
PrintsPart fleet (part.Leaves o) pieces = PrintsOrder fleet o pieces
PrintsPart fleet (part.Run o) pieces = ⊤

-- what a command prints, by what it tells
abbrev pub Prints : FleetShape → Command → List Piece → Type 0
Prints fleet c pieces = PrintsPart fleet (part_of c) pieces
