-- Answers: they name leaves of the fleet and one of its tables, so they are over what is known of those.
use Rattle.std.proofs.Common.{◌≡◌, ℕ, zero, suc, ◌+◌, ◌<◌, List, [], ◌∷◌, ◌++◌, length, refl, sym, ap, ap₂, subst, ◌∙◌, arith, Option}
use Rattle.std.specs.List.{AllByRecursion, AllZip, range_with_len}
use Rattle.std.proofs.lemmas.Grind.{flat_map-append}
use Rattle.row_model.specs.declared.rows.Row.{Row}
use Rattle.leaf_model.specs.declared.queries.Query.{Query}
use Rattle.berth_face.specs.Berth.{Meaning}
use Rattle.leaf_history.specs.Calls.{Call}
use Rattle.leaf_history.specs.Calls as call
use Rattle.leaf_history.specs.History.{Entry}
use Rattle.script_text.specs.declared.command.Command.{Command}
use Rattle.script_text.specs.declared.command.Command.TheVariants as command
use Rattle.printed_lines.specs.declared.line.Said.{Said}
use Rattle.printed_lines.specs.declared.line.Said.TheVariants.{Asked}
use Rattle.printed_lines.specs.declared.line.Line.TheVariants as line
use Rattle.script_text.specs.declared.fleet.FleetShape.{FleetShape}
use Rattle.script_text.specs.Commands.{leaf_count}
use Rattle.transcript.specs.Pieces.{Called, Piece, PlayedItem, Says, place_among}
use Rattle.transcript.specs.Shapes.{CallPiece, Prints, QueryPieces, named, named_in}
use Rattle.transcript.specs.Histories.{BaseState, rows_before}
use Rattle.transcript.specs.Answers.{AnswerIs, Answers, rows_of_named}
use Rattle.transcript.specs.Transcript.{Known, base_states_of}
use Rattle.leaf_moves.specs.Holds.{Hold, base_states_in}
use Rattle.transcript_leaf.proofs.Leaf.{leaf_base_state}
use Rattle.transcript_leaf.proofs.Lists.{element_at}
use Rattle.transcript_fleet.proofs.Lists.{All-append, All-parts, All-weaken}
use Rattle.transcript_fleet.proofs.Growing.{base_states_here}
use Rattle.transcript_fleet.proofs.Going.{IsWithin, Leaves, of_call}
use Rattle.transcript_fleet.proofs.Tailing.{tail_same}

-- ---- which leaves are named

-- a leaf below so many, at a table below so many
abbrev IsBelow : ℕ → ℕ → ℕ → ℕ × ℕ → Type 0
IsBelow leaves table tables l = (l.0 < leaves) × (table < tables)

said_named : (leaves leaf table tables number : ℕ) (c : Call) (said : Said) → leaf < leaves → table < tables → AllByRecursion (IsBelow leaves table tables) (named_in (Called leaf table c number said))
said_named leaves leaf table tables number c Asked below within = ((below, within), tt)
said_named leaves leaf table tables number c _ below within = tt

ask_named : (leaves leaf table tables : ℕ) (c : Call) (p : Piece) → leaf < leaves → CallPiece leaf table c p → IsWithin tables p
    → AllByRecursion (IsBelow leaves table tables) (named_in p)
ask_named leaves leaf table tables c p below is =
    of_call (λ (q : Piece). IsWithin tables q → AllByRecursion (IsBelow leaves table tables) (named_in q)) leaf table c p
    (λ n said within. said_named leaves leaf table tables n c said below within) (λ within. tt) is

asks_named : (leaves leaf count table tables : ℕ) (c : Call) (asks : List Piece) → leaf + count ≡ leaves
    → AllZip (λ l piece. CallPiece l table c piece) (range_with_len leaf count) asks → AllByRecursion (IsWithin tables) asks
    → AllByRecursion (IsBelow leaves table tables) (named asks)
asks_named leaves leaf zero table tables c [] all is within = tt
asks_named leaves leaf zero table tables c (p ∷ ps) all is within = absurd is
asks_named leaves leaf (suc count) table tables c [] all is within = absurd is
asks_named leaves leaf (suc count) table tables c (p ∷ ps) all is within =
    All-append (IsBelow leaves table tables) (named_in p) (named ps)
    (ask_named leaves leaf table tables c p (omega (arith, all)) is.0 within.0)
    (asks_named leaves (leaf + 1) count table tables c ps (omega (arith, all)) is.1 within.1)

query_named : (fleet : FleetShape) (q : Query) (pieces : List Piece) → QueryPieces fleet q pieces → AllByRecursion (IsWithin (length fleet.names)) pieces
    → AllByRecursion (IsBelow (leaf_count fleet) (place_among q.table fleet.names) (length fleet.names)) (named pieces)
query_named fleet q pieces asked within =
    let table : ℕ = place_among q.table fleet.names in
    let tables : ℕ = length fleet.names in
    let leaves : ℕ = leaf_count fleet in
    let answer : List Piece = Says (line.Answer (length (named asked.asks)) (leaf_count fleet) asked.rows) ∷ [] in
    let here : AllByRecursion (IsWithin tables) (asked.asks ++ answer) = subst (λ (ps : List Piece). AllByRecursion (IsWithin tables) ps) asked.are within in
    let asks = asks_named leaves 0 leaves table tables (call.Ask q) asked.asks (omega arith) asked.each (All-parts (IsWithin tables) asked.asks answer here).0 in
    subst (λ (ps : List Piece). AllByRecursion (IsBelow leaves table tables) (named ps)) (sym asked.are)
    (subst (λ (ls : List (ℕ × ℕ)). AllByRecursion (IsBelow leaves table tables) ls) (sym (flat_map-append named_in asked.asks answer))
    (All-append (IsBelow leaves table tables) (named asked.asks) [] asks tt))

-- ---- what they are over

partial_same : (f g : ℕ → BaseState) (histories : ℕ → List Entry) (leaves : List (ℕ × ℕ)) → AllByRecursion (λ (l : ℕ × ℕ). f l.0 ≡ g l.0) leaves → rows_of_named f histories leaves ≡ rows_of_named g histories leaves
partial_same f g histories [] same = refl
partial_same f g histories (l ∷ ls) same =
    ap₂ (λ (xs ys : List Row). xs ++ ys) (ap (λ (x : BaseState). rows_before x (histories l.0) l.1) same.0) (partial_same f g histories ls same.1)

module _ {B : Type 0} {meaning : B → Meaning} {fleet : FleetShape} {known : ℕ → Option Known} {olds : List B} {before : List Piece} {start : ℕ → ℕ → List Entry}
    {items : List PlayedItem} {ys : List (Hold B)} (now : Leaves meaning fleet known olds before start items ys) where
  -- the leaves' tables began from what is known of them
  pub base_state_is : (leaf table : ℕ) → leaf < leaf_count fleet → table < length fleet.names → base_states_in ys leaf table ≡ base_states_of fleet known leaf table
  base_state_is leaf table below within =
      let old = element_at olds leaf (subst (λ (n : ℕ). leaf < n) (sym now.counts.0) below) in
      let y = element_at ys leaf (subst (λ (n : ℕ). leaf < n) (sym now.counts.1) below) in
      base_states_here ys leaf y.0 table y.1
      ∙ leaf_base_state meaning leaf fleet.names (known leaf) (meaning old.0) before (start leaf) items y.0 (now.each leaf old.0 y.0 old.1 y.1) table within

  pub answers_known : (c : Command) (pieces : List Piece) (histories : ℕ → ℕ → List Entry) → Prints fleet c pieces → AllByRecursion (IsWithin (length fleet.names)) pieces
      → Answers fleet (base_states_in ys) histories (record { command = c; pieces = pieces }) → Answers fleet (base_states_of fleet known) histories (record { command = c; pieces = pieces })
  answers_known (command.Query q) pieces histories prints within answers =
      let table : ℕ = place_among q.table fleet.names in
      let same = partial_same (λ leaf. base_states_in ys leaf table) (λ leaf. base_states_of fleet known leaf table) (λ leaf. histories leaf table) (named pieces)
      (All-weaken (IsBelow (leaf_count fleet) table (length fleet.names)) (λ (l : ℕ × ℕ). base_states_in ys l.0 table ≡ base_states_of fleet known l.0 table)
      (λ l is. base_state_is l.0 table is.0 is.1) (named pieces) (query_named fleet q pieces prints within)) in
      subst (λ (rows : List Row). AllByRecursion (AnswerIs q rows) pieces) same answers
  answers_known (command.Tail key table rows) pieces histories prints within answers =
      tail_same (leaf_count fleet) table (length fleet.names) (λ leaf. base_states_in ys leaf table) (λ leaf. base_states_of fleet known leaf table) (λ leaf. histories leaf table)
      (λ leaf below here. base_state_is leaf table below here) key rows pieces within answers
  answers_known _ pieces histories prints within answers = tt
