-- Calls at one table of the leaves of a crew, one after another.
use Rattle.std.proofs.Common.{◌≡◌, ◌⊎◌, inl, inr, ℕ, ◌<◌, List, [], ◌∷◌, ◌++◌, length, map, Option, Some, Result, Vec, Global, sym, ap, subst, ◌∙◌, arith, length-set, get_or-set_same}
use Rattle.std.specs.Prelude.{IfOk, option_and_then, slice_get, slice_set}
use Rattle.std.specs.List.{AllByRecursion}
use Rattle.std.proofs.lemmas.Option.{slice_get_within}
use Rattle.berth_face.specs.Berth.{Meaning}
use Rattle.leaf_history.specs.History.{Entry}
use Rattle.leaf_table.specs.declared.base.TableBase.{TableBase}
use Rattle.leaf_table.specs.Turns.{Shared, is_founded, start_of}
use Rattle.leaf_table.specs.Calls.{SeatView, base_seen, seen_of}
use Rattle.leaf_table.specs.Lists.{lists_in, row}
use Rattle.aggregator.specs.Asks.{AreSeatsAt}
use Rattle.aggregator.specs.Partial as fan
use Rattle.aggregator.specs.Partial.{bases_in}
use Rattle.tailer.specs.Calls.{CallsOn, LeafCall}
use Rattle.printed_lines.specs.declared.line.Line.{Line}
use Rattle.printed_lines.specs.Lines.{IsOf}
use Rattle.script_text.specs.Commands.{leaf_count}
use Rattle.transcript.specs.Pieces.{Says}
use Rattle.leaf_moves.specs.Holds.{GoOn, Hold, base_states_in, histories_of}
use Rattle.leaf_moves.specs.Plays.{Goes}
use Rattle.leaf_deeds.specs.declared.leaf.OneLeaf.{OneLeaf}
use Rattle.player.specs.declared.members.Members.{Members}
use Rattle.player.specs.Crew.{HasSeats}
use Rattle.player.specs.Lines.{reply_line}
use Rattle.player.specs.Rows.{HasSeat, IsColumn}
use Rattle.player.specs.Stage.{hold_at}
use Rattle.player.specs.Members.{AreMembers, GoesWith, fleet_in, holds_from, holds_in}
use Rattle.player.proofs.AskKnown.{base_states_at, histories_at}
use Rattle.player.proofs.AskRows.{row_again}
use Rattle.player.proofs.Chains.{goes_with_more, goes_with_said, lines_more, no_lines}
use Rattle.player.proofs.Columns.{column_get, element_at, lengths_set, rows_kept}
use Rattle.player.proofs.HoldLists.{holds_at, seat_held}
use Rattle.player.proofs.MemberSteps.{seat_of, tables_at, with_parts, with_rows}
use Rattle.player.proofs.SameLeaves.{goes_calm}
use Rattle.player.proofs.TailCalls.{call_pieces, calls_calm, calls_fit, calls_go, calls_lines, calls_size, columns_kept}

-- ---- the seats of one row

module _ {B : Type 0} (x : Members B) (table : ℕ) (are : AreMembers x) (within : table < length x.names) (has : HasSeats (holds_in x) table) where
  abbrev rows : List (List SeatView)
  rows = lists_in x.rows.items

  abbrev count : ℕ
  count = leaf_count (fleet_in x)

  pub low : table < length rows
  low = omega (arith, within, are.rows.count)

  pub size : length (row rows table) ≡ count
  size = by x.leaves.items are.leaves (seat_held x.tables.now x.leaves.items rows 0 table has) (are.rows.each table within)
    where
      by : (leaves : List (Option (OneLeaf B))) → length leaves ≡ count → (0 < length leaves → HasSeat 0 table rows) → (row rows table ≡ []) ⊎ (length (row rows table) ≡ count) → length (row rows table) ≡ count
      by [] same seat (inl none) = ap (λ (vs : List SeatView). length vs) none ∙ same
      by (o ∷ os) same seat (inl none) =
          let c = seat (omega arith) in
          absurd (omega (arith, slice_get_within (row rows table) 0 c.0 c.1, ap (λ (vs : List SeatView). length vs) none))
      by leaves same seat (inr all) = all

  pub seats_at : AreSeatsAt x.tables.now table (row rows table)
  seats_at = record {
    count = size ∙ sym are.tables;
    few = omega (arith, are.tables, are.few.few);
    each = λ leaf v at. let found = seat_of x table leaf v are at in record { shared = found.0; stands = found.1; seat = found.2.seat; caller = found.2.caller };
  }

  -- ---- behind the calls

  module _ (calls : List LeafCall) (after : List SeatView) (now : Vec (Vec SeatView Global) Global) (set : lists_in now.items ≡ slice_set rows table after) (made : CallsOn x.tables.now table (row rows table) calls after) where
    abbrev rows' : List (List SeatView)
    rows' = lists_in now.items

    abbrev fleet : List (List Shared)
    fleet = x.tables.now

    abbrev y : Members B
    y = with_parts x x.leaves now

    abbrev xs : List (Hold B)
    xs = holds_in x

    abbrev ys : List (Hold B)
    ys = holds_in y

    pub same_size : length after ≡ length (row rows table)
    same_size = calls_size fleet x.leaves.items rows table low (row rows table) calls after made

    count_then : length rows' ≡ length rows
    count_then = ap (λ (ls : List (List SeatView)). length ls) set ∙ length-set rows table after

    lengths_then : (n : ℕ) → length (row rows' n) ≡ length (row rows n)
    lengths_then n = ap (λ (ls : List (List SeatView)). length (row ls n)) set ∙ lengths_set rows table after same_size n

    pub members_after : AreMembers y
    members_after = with_rows x now are (rows_kept (length x.names) count rows rows' count_then lengths_then are.rows) (λ leaf below.
        subst (λ (ls : List (List SeatView)). IsColumn leaf (row fleet leaf) ls) (sym set)
        (columns_kept fleet x.leaves.items rows table low leaf (row rows table) calls after made
        (subst (λ (ls : List (List SeatView)). IsColumn leaf (row fleet leaf) ls) (sym (row_again rows table)) (are.columns leaf below))))

    goes_calls : (meaning : B → Meaning) → Goes meaning xs (call_pieces table calls) ys
    goes_calls meaning =
        let goes = calls_go fleet x.leaves.items rows table low meaning (row rows table) calls after (size ∙ sym are.leaves) made in
        subst (λ (hs : List (Hold B)). Goes meaning hs (call_pieces table calls) ys) (ap (λ (ls : List (List SeatView)). holds_from 0 fleet x.leaves.items ls) (row_again rows table))
        (subst (λ (hs : List (Hold B)). Goes meaning (holds_from 0 fleet x.leaves.items (slice_set rows table (row rows table))) (call_pieces table calls) hs)
        (ap (λ (ls : List (List SeatView)). holds_from 0 fleet x.leaves.items ls) (sym set)) goes)

    -- the calls with their lines, and a last line that names no table
    pub goes_and_says : {E : Type 0} (meaning : B → Meaning) (result : Result (Vec Line Global) E) (ending : Line) → IsOf x.names ending
        → IfOk result (λ lines. lines.items ≡ map (λ (c : LeafCall). reply_line c.leaf table c.reply) calls ++ ending ∷ []) → GoesWith meaning x.names xs result (call_pieces table calls ++ Says ending ∷ []) ys
    goes_and_says meaning result ending fits told =
        let own = calls_lines table calls in
        let all = lines_more (call_pieces table calls) (Says ending ∷ []) ∙ ap (λ (ls : List Line). ls ++ ending ∷ []) own in
        goes_with_more meaning x.names xs ys ys (call_pieces table calls) (Says ending ∷ []) no_lines no_lines result
        (goes_calm x now lengths_then meaning no_lines (call_pieces table calls) (goes_calls meaning) (λ test number. calls_calm test number table calls)
        (subst (AllByRecursion (IsOf x.names)) (sym own) (calls_fit x.names table calls within)) tt)
        (goes_with_said meaning x.names ys (ending ∷ []) no_lines (fits, tt) tt)
        (subst (λ (ls : List Line). IfOk result (λ lines. lines.items ≡ ls)) (sym all) told)

    -- what a leaf's table was made with, and what its seat has seen
    pub record Behind (leaf : ℕ) : Type 0 where
      pub base_state : base_states_in ys leaf table ≡ record { founded = is_founded (bases_in fleet table leaf); base = start_of (bases_in fleet table leaf) }
      pub sees : (v : SeatView) → slice_get after leaf ≡ Some v → histories_of ys leaf table ≡ seen_of v

    pub behind : (leaf : ℕ) → leaf < count → Behind leaf
    behind leaf below =
        let one = element_at x.leaves.items leaf (omega (arith, below, are.leaves)) in
        let shared = element_at (row fleet leaf) table (omega (arith, within, tables_at x leaf are below)) in
        let b : Hold B = hold_at leaf fleet rows' one.0 in
        let at : slice_get ys leaf ≡ Some b = holds_at 0 leaf leaf fleet x.leaves.items one.0 rows' (omega arith) one.1 in
        let base : bases_in fleet table leaf ≡ base_seen shared.0 = ap (λ (o : Option Shared). option_and_then base_seen o) shared.1 in
        record {
          base_state = base_states_at ys leaf table b shared.0 at shared.1 ∙ ap (λ (o : Option TableBase). record { founded = is_founded o; base = start_of o }) (sym base);
          sees = λ v there. histories_at ys leaf table b v at
              (column_get leaf rows' table (omega (arith, low, count_then))
              ∙ ap (λ (o : Option SeatView). Some o) (ap (λ (vs : List SeatView). slice_get vs leaf) row_now ∙ there));
        }
      where
        row_now : row rows' table ≡ after
        row_now = ap (λ (ls : List (List SeatView)). row ls table) set ∙ get_or-set_same rows table after [] low

    pub went_on : (histories : ℕ → ℕ → List Entry) → GoOn ys histories → fan.SeatsGoOn after (λ leaf. histories leaf table)
    went_on histories go = λ leaf v at.
        let below : leaf < count = omega (arith, slice_get_within after leaf v at, same_size, size) in
        let more = go leaf table in
        (more.0, more.1 ∙ ap (λ (es : List Entry). es ++ more.0) ((behind leaf below).sees v at))
