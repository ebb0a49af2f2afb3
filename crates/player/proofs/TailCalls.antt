-- Calls by the seats of one row, one after another.
use Rattle.std.proofs.Common.{◌≡◌, ◌≢◌, ◌⊎◌, inl, inr, ℕ, ◌<◌, List, [], ◌∷◌, ◌++◌, length, map, Option, Some, refl, sym, ap, subst, ◌∙◌, arith, length-set, get_or-set_same}
use Rattle.std.specs.Prelude.{Bool, slice_get, slice_set}
use Rattle.std.specs.List.{AllByRecursion}
use Rattle.std.proofs.lemmas.Bool.{cases_eq}
use Rattle.std.proofs.lemmas.Option.{slice_get_within}
use Rattle.berth_face.specs.Berth.{Meaning}
use Rattle.leaf_table.specs.Turns.{Shared}
use Rattle.leaf_table.specs.Calls.{SeatView}
use Rattle.leaf_table.specs.Lists.{row}
use Rattle.leaf_steward.proofs.Seating.{set_same}
use Rattle.tailer.specs.Calls.{CallAt, CallsOn, LeafCall}
use Rattle.printed_lines.specs.declared.line.Ending.{Ending}
use Rattle.printed_lines.specs.declared.line.Line.{Line}
use Rattle.printed_lines.specs.Lines.{IsOf}
use Rattle.printed_lines.specs.declared.line.Deed.{Deed}
use Rattle.transcript.specs.Pieces.{Piece, lines_in}
use Rattle.transcript.specs.Counts.{deeds_in}
use Rattle.leaf_moves.specs.Holds.{Hold, with_callers}
use Rattle.leaf_moves.specs.Plays as going
use Rattle.leaf_moves.specs.Plays.{Goes}
use Rattle.leaf_moves.specs.Steps.{CallStep}
use Rattle.leaf_deeds.specs.declared.leaf.OneLeaf.{OneLeaf}
use Rattle.player.specs.Crew.{column}
use Rattle.player.specs.Lines.{reply_line}
use Rattle.player.specs.Rows.{AreCalled, HasSeat, IsColumn, OnlyColumn, called_at, with_place}
use Rattle.player.specs.Stage.{hold_at}
use Rattle.player.specs.Members.{holds_from}
use Rattle.player.proofs.Calling.{called_on}
use Rattle.player.proofs.CallPieces.{reply_piece}
use Rattle.player.proofs.Columns.{column_get, column_with, element_at, only_rows, only_with}
use Rattle.player.proofs.HoldLists.{holds_at, holds_set}
use Rattle.player.proofs.MemberSteps.{other_column, set_twice}

-- ---- their pieces

abbrev pub call_piece : ℕ → LeafCall → Piece
call_piece table c = (reply_piece c.leaf table c.call c.reply).piece

abbrev pub call_pieces : ℕ → List LeafCall → List Piece
call_pieces table cs = map (call_piece table) cs

pub calls_lines : (table : ℕ) (cs : List LeafCall) → lines_in (call_pieces table cs) ≡ map (λ (c : LeafCall). reply_line c.leaf table c.reply) cs
calls_lines table [] = refl
calls_lines table (c ∷ cs) =
    ap (λ (ls : List Line). ls ++ lines_in (call_pieces table cs)) (reply_piece c.leaf table c.call c.reply).line_is
    ∙ ap (λ (ls : List Line). reply_line c.leaf table c.reply ∷ ls) (calls_lines table cs)

pub calls_calm : (test : Deed → Ending → Bool) (number table : ℕ) (cs : List LeafCall) → deeds_in test number (call_pieces table cs) ≡ 0
calls_calm test number table [] = refl
calls_calm test number table (c ∷ cs) = (reply_piece c.leaf table c.call c.reply).calm test number (call_pieces table cs) ∙ calls_calm test number table cs

pub calls_fit : (names : List (List ℕ)) (table : ℕ) (cs : List LeafCall) → table < length names → AllByRecursion (IsOf names) (map (λ (c : LeafCall). reply_line c.leaf table c.reply) cs)
calls_fit names table [] within = tt
calls_fit names table (c ∷ cs) within = ((reply_piece c.leaf table c.call c.reply).fits names within, calls_fit names table cs within)

-- ---- their steps

module _ {B : Type 0} (fleet : List (List Shared)) (leaves : List (Option (OneLeaf B))) (rows : List (List SeatView)) (table : ℕ) (low : table < length rows) where
  -- the rows with these seats in that one
  abbrev pub with_row : List SeatView → List (List SeatView)
  with_row vs = slice_set rows table vs

  abbrev pub row_holds : List SeatView → List (Hold B)
  row_holds vs = holds_from 0 fleet leaves (with_row vs)

  row_with : (vs : List SeatView) → row (with_row vs) table ≡ vs
  row_with vs = get_or-set_same rows table vs [] low

  still_low : (vs : List SeatView) → table < length (with_row vs)
  still_low vs = omega (arith, low, length-set rows table vs)

  with_set : (vs : List SeatView) (leaf : ℕ) (w : SeatView) → with_row (slice_set vs leaf w) ≡ with_place (with_row vs) table leaf w
  with_set vs leaf w =
      sym (ap (λ (r : List SeatView). slice_set (with_row vs) table (slice_set r leaf w)) (row_with vs) ∙ set_twice rows table vs (slice_set vs leaf w))

  module _ (vs ws : List SeatView) (c : LeafCall) (call : CallAt fleet table vs c ws) where
    abbrev has : HasSeat c.leaf table (with_row vs)
    has = (call.before, ap (λ (r : List SeatView). slice_get r c.leaf) (row_with vs) ∙ call.was)

    now_is : with_row ws ≡ with_place (with_row vs) table c.leaf call.after
    now_is = ap (λ (us : List SeatView). with_row us) call.now ∙ with_set vs c.leaf call.after

    only : OnlyColumn c.leaf (with_row vs) (with_row ws)
    only = subst (λ (rs : List (List SeatView)). OnlyColumn c.leaf (with_row vs) rs) (sym now_is) (only_with (with_row vs) c.leaf table has call.after)

    then : column c.leaf (with_row ws) ≡ slice_set (column c.leaf (with_row vs)) table (Some call.after)
    then = ap (λ (rs : List (List SeatView)). column c.leaf rs) now_is ∙ column_with (with_row vs) c.leaf table has call.after

    was : slice_get (column c.leaf (with_row vs)) table ≡ Some (Some call.before)
    was = column_get c.leaf (with_row vs) table (still_low vs) ∙ ap (λ (o : Option SeatView). Some o) has.1

    step : CallStep c.leaf table c.call (row fleet c.leaf) (column c.leaf (with_row vs)) (call_piece table c) (column c.leaf (with_row ws))
    step = record {
      shared = call.shared;
      before = call.before;
      after = call.after;
      reply = c.reply;
      at = call.stands;
      was = was;
      answered = call.answered;
      now = then;
      says = (reply_piece c.leaf table c.call c.reply).says;
    }

    below : length vs ≡ length leaves → c.leaf < length leaves
    below size = omega (arith, size, slice_get_within vs c.leaf call.before call.was)

    column_kept : (leaf : ℕ) → IsColumn leaf (row fleet leaf) (with_row vs) → IsColumn leaf (row fleet leaf) (with_row ws)
    column_kept leaf is = by (cases_eq leaf c.leaf)
      where
        here : IsColumn c.leaf (row fleet c.leaf) (with_row vs) → IsColumn c.leaf (row fleet c.leaf) (with_row ws)
        here before =
            let called = called_on (called_at c.leaf (row fleet c.leaf) (with_row vs)) table call.shared call.before before.called call.stands was c.call c.reply call.after call.seat call.same call.answered in
            record {
              size = before.size;
              sizes = only_rows c.leaf (length (row fleet c.leaf)) before.size (with_row vs) (with_row ws) only before.sizes;
              within = before.within;
              few = before.few;
              called = subst (λ (cs : List (Option SeatView)). AreCalled (record { tables = row fleet c.leaf; seats = cs })) (sym then) called;
            }

        by : (leaf ≡ c.leaf) ⊎ (leaf ≢ c.leaf) → IsColumn leaf (row fleet leaf) (with_row ws)
        by (inl same) =
            subst (λ (n : ℕ). IsColumn n (row fleet n) (with_row ws)) (sym same) (here (subst (λ (n : ℕ). IsColumn n (row fleet n) (with_row vs)) same is))
        by (inr apart) = other_column c.leaf leaf (row fleet leaf) (with_row vs) (with_row ws) only apart is

    size_kept : length ws ≡ length vs
    size_kept = ap (λ (us : List SeatView). length us) call.now ∙ length-set vs c.leaf call.after

    goes_one : (meaning : B → Meaning) (others : List Piece) (zs : List (Hold B)) → length vs ≡ length leaves → Goes meaning (row_holds ws) others zs → Goes meaning (row_holds vs) (call_piece table c ∷ others) zs
    goes_one meaning others zs size goes =
        let there = element_at leaves c.leaf (below size) in
        let x : Hold B = hold_at c.leaf fleet (with_row vs) there.0 in
        let set : row_holds ws ≡ slice_set (row_holds vs) c.leaf (with_callers x (column c.leaf (with_row ws))) =
        ap (λ (ls : List (Option (OneLeaf B))). holds_from 0 fleet ls (with_row ws)) (sym (set_same leaves c.leaf there.0 there.1))
        ∙ holds_set 0 c.leaf c.leaf fleet leaves there.0 (with_row vs) (with_row ws) (omega arith) only.others in
        going.call (row_holds vs) (call_piece table c ∷ others) zs c.leaf table c.call x (column c.leaf (with_row ws)) (call_piece table c) others
        (holds_at 0 c.leaf c.leaf fleet leaves there.0 (with_row vs) (omega arith) there.1) step
        (subst (λ (hs : List (Hold B)). Goes meaning hs others zs) set goes) refl

  -- ---- one after another

  pub calls_go : (meaning : B → Meaning) (vs : List SeatView) (cs : List LeafCall) (ws : List SeatView) → length vs ≡ length leaves → CallsOn fleet table vs cs ws
      → Goes meaning (row_holds vs) (call_pieces table cs) (row_holds ws)
  calls_go meaning vs [] ws size same = going.none (row_holds vs) [] (row_holds ws) refl (ap (λ (us : List SeatView). row_holds us) same)
  calls_go meaning vs (c ∷ cs) ws size calls =
      goes_one vs calls.0 c calls.1 meaning (call_pieces table cs) (row_holds ws) size (calls_go meaning calls.0 cs ws (size_kept vs calls.0 c calls.1 ∙ size) calls.2)

  pub calls_size : (vs : List SeatView) (cs : List LeafCall) (ws : List SeatView) → CallsOn fleet table vs cs ws → length ws ≡ length vs
  calls_size vs [] ws same = ap (λ (us : List SeatView). length us) same
  calls_size vs (c ∷ cs) ws calls = calls_size calls.0 cs ws calls.2 ∙ size_kept vs calls.0 c calls.1

  pub columns_kept : (leaf : ℕ) (vs : List SeatView) (cs : List LeafCall) (ws : List SeatView) → CallsOn fleet table vs cs ws → IsColumn leaf (row fleet leaf) (with_row vs) → IsColumn leaf (row fleet leaf) (with_row ws)
  columns_kept leaf vs [] ws same is = subst (λ (us : List SeatView). IsColumn leaf (row fleet leaf) (with_row us)) (sym same) is
  columns_kept leaf vs (c ∷ cs) ws calls is = columns_kept leaf calls.0 cs ws calls.2 (column_kept vs calls.0 c calls.1 leaf is)
