-- What a tail comes to.
use Rattle.std.proofs.Common.{◌≡◌, ◌⊎◌, inr, inl, ℕ, zero, suc, ◌*◌, ◌<◌, List, [], ◌∷◌, ◌++◌, length, map, Result, Ok, Err, Vec, Global, refl, sym, ap, subst, arith}
use Rattle.std.specs.Prelude.{IfOk, IsErr}
use Rattle.row_model.specs.declared.rows.Row.{Row}
use Rattle.berth_face.specs.Berth.{Meaning}
use Rattle.leaf_history.specs.History.{Entry}
use Rattle.leaf_table.specs.Turns.{Shared}
use Rattle.leaf_table.specs.Calls.{SeatView}
use Rattle.leaf_table.specs.Lists.{lists_in}
use Rattle.aggregator.specs.Partial.{bases_in}
use Rattle.tail_picks.specs.Tails.{Tails, words_of}
use Rattle.tailer.specs.declared.tries.Tailed.{Tailed}
use Rattle.tailer.specs.Calls.{LeafCall, calls_of_tries, free_of, is_added, sent_to, tries_seen}
use Rattle.printed_lines.specs.declared.line.Line.{Line}
use Rattle.printed_lines.specs.declared.line.Line.TheVariants as line
use Rattle.script_text.specs.Commands.{leaf_count}
use Rattle.transcript.specs.Pieces.{Piece, Says}
use Rattle.transcript.specs.Tails.{TailPieces}
use Rattle.leaf_moves.specs.Holds.{GoOn, Hold, base_states_in}
use Rattle.player.specs.declared.members.Members.{Members}
use Rattle.player.specs.Crew.{HasSeats}
use Rattle.player.specs.Members.{AreMembers, fleet_in, holds_from, holds_in}
use Rattle.player.specs.Commands.{SendsRow, TailsAll, tail_lines}
use Rattle.player.proofs.Asking.{same_rows}
use Rattle.player.proofs.MemberSteps.{with_parts}
use Rattle.player.proofs.RowCalls.{behind, goes_and_says, members_after, went_on}
use Rattle.player.proofs.TailCalls.{call_pieces}
use Rattle.player.proofs.TailTries.{lines_of_tries, tries_are, tries_told, try_piece}

positive : (machines per_machine : ℕ) → 0 < machines → 0 < per_machine → 0 < machines * per_machine
positive (suc m) (suc n) one other = omega arith
positive zero n one other = absurd (omega (arith, one))
positive (suc m) zero one other = absurd (omega (arith, other))

pub some_leaves : {B : Type 0} (x : Members B) → AreMembers x → 0 < leaf_count (fleet_in x)
some_leaves x are = positive x.machines x.per_machine are.few.some_machines are.few.some_leaves

module _ {B : Type 0} (x : Members B) (table : ℕ) (are : AreMembers x) (within : table < length x.names) (has : HasSeats (holds_in x) table)
    (key : ℕ) (sent : List Row) (t : Tailed) (now : Vec (Vec SeatView Global) Global) (sends : SendsRow x.tables.now table key sent (lists_in x.rows.items) t (lists_in now.items)) where
  abbrev count : ℕ
  count = leaf_count (fleet_in x)

  abbrev fleet : List (List Shared)
  fleet = x.tables.now

  abbrev calls : List LeafCall
  calls = calls_of_tries sent (tries_seen t.tries)

  abbrev y : Members B
  y = with_parts x x.leaves now

  abbrev ys : List (Hold B)
  ys = holds_in y

  abbrev ending : Line
  ending = line.Tailed (sent_to t.sent)

  abbrev pieces : List Piece
  pieces = call_pieces table calls ++ Says ending ∷ []

  pub members_sent : AreMembers y
  members_sent = members_after x table are within has calls sends.after now sends.now sends.sends.calls

  some : 0 < count
  some = some_leaves x are

  told : (histories : ℕ → ℕ → List Entry) → GoOn ys histories → TailPieces count (λ leaf. base_states_in ys leaf table) (λ leaf. histories leaf table) key table sent pieces
  told histories go =
      let tails = subst (λ (n : ℕ). Tails free_of is_added n (words_of key) (tries_seen t.tries) (sent_to t.sent)) are.tables sends.sends.tails in
      let both = tries_told count table sent (bases_in fleet table) (λ leaf. base_states_in ys leaf table) (λ leaf. histories leaf table) (λ leaf below. (behind x table are within has calls sends.after now sends.now sends.sends.calls leaf below).base_state)
      some (words_of key) (tries_seen t.tries) (sent_to t.sent) tails (sends.sends.over (λ leaf. histories leaf table) (went_on x table are within has calls sends.after now sends.now sends.sends.calls histories go)) in
      record {
        some = some;
        tries = map (try_piece table sent) (tries_seen t.tries);
        sent = sent_to t.sent;
        tails = both.0;
        calls = both.1;
        are = ap (λ (ps : List Piece). ps ++ Says ending ∷ []) (sym (tries_are table sent (tries_seen t.tries)));
      }

  pub tail_told : {E : Type 0} (meaning : B → Meaning) (result : Result (Vec Line Global) E) → IfOk result (λ lines. lines.items ≡ tail_lines table t) → TailsAll meaning key table sent x result y
  tail_told meaning result lines = record {
    pieces = pieces;
    goes = goes_and_says x table are within has calls sends.after now sends.now sends.sends.calls meaning result ending tt
        (subst (λ (ls : List Line). IfOk result (λ all. all.items ≡ ls ++ ending ∷ [])) (sym (lines_of_tries table sent (tries_seen t.tries))) lines);
    answers = told;
  }

-- ---- one row was called, or none

module _ {B F : Type 0} (x : Members B) (table : ℕ) (are : AreMembers x) (within : table < length x.names) (has : HasSeats (holds_in x) table)
    (key : ℕ) (sent : List Row) (now : Vec (Vec SeatView Global) Global) (sending : Result Tailed F)
    (sends : IfOk sending (λ t. SendsRow x.tables.now table key sent (lists_in x.rows.items) t (lists_in now.items))) (refused : IsErr sending → lists_in now.items ≡ lists_in x.rows.items) where
  pub members_row : AreMembers (with_parts x x.leaves now)
  members_row = by sending sends refused
    where
      by : (r : Result Tailed F) → IfOk r (λ t. SendsRow x.tables.now table key sent (lists_in x.rows.items) t (lists_in now.items)) → (IsErr r → lists_in now.items ≡ lists_in x.rows.items) → AreMembers (with_parts x x.leaves now)
      by (Ok t) went none = members_sent x table are within has key sent t now went
      by (Err e) went none = same_rows x now are (none refl)

  pub none_sent : {E : Type 0} (meaning : B → Meaning) (result : Result (Vec Line Global) E) → IsErr sending → IsErr result
      → TailsAll meaning key table sent x result (with_parts x x.leaves now) ⊎ (IsErr result × (holds_in (with_parts x x.leaves now) ≡ holds_in x))
  none_sent meaning result err out = inr (out, ap (λ (rs : List (List SeatView)). holds_from 0 x.tables.now x.leaves.items rs) (refused err))

  pub one_sent : {E : Type 0} (meaning : B → Meaning) (result : Result (Vec Line Global) E) (t : Tailed) → sending ≡ Ok t → IfOk result (λ lines. lines.items ≡ tail_lines table t)
      → TailsAll meaning key table sent x result (with_parts x x.leaves now) ⊎ (IsErr result × (holds_in (with_parts x x.leaves now) ≡ holds_in x))
  one_sent meaning result t ok told =
      inl (tail_told x table are within has key sent t now (subst (λ (r : Result Tailed F). IfOk r (λ u. SendsRow x.tables.now table key sent (lists_in x.rows.items) u (lists_in now.items))) ok sends) meaning result told)
