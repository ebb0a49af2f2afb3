-- One row of seats was called for a tail.
use Rattle.std.proofs.Common.{◌≡◌, ℕ, ◌<◌, List, length, Result, Ok, Err, Vec, Global, sym, ap, subst, ◌∙◌}
use Rattle.std.specs.Prelude.{IfOk, slice_set, slice_index_or}
use Rattle.std.specs.List.{AllByRecursion}
use Rattle.std.specs.Vec.{with_items}
use Rattle.row_model.specs.declared.rows.Row.{Row}
use Rattle.leaf_history.specs.History.{Entry}
use Rattle.leaf_table.specs.Turns.{Shared}
use Rattle.leaf_table.specs.Calls.{SeatView}
use Rattle.leaf_table.specs.Lists.{lists_in, row}
use Rattle.aggregator.specs.Partial.{SeatsGoOn, bases_in}
use Rattle.rand_core.specs.Steps.{first_words}
use Rattle.rand_pcg.specs.Lcg.{Lcg}
use Rattle.rand_pcg.specs.Pcg.{pcg32}
use Rattle.tail_picks.specs.Tails.{Tails, generator_of}
use Rattle.tailer.specs.declared.tries.Tailed.{Tailed}
use Rattle.tailer.specs.Calls.{CallsOn, IsOverRows, calls_of_tries, free_of, is_added, sent_to, tries_seen}
use Rattle.player.specs.Commands.{SendsRow}
use Rattle.player.proofs.AskRows.{row_again, row_put}
use Rattle.player.proofs.Columns.{row_is}

module _ (tables : List (List Shared)) (table key : ℕ) (sent : List Row) (rows : List (Vec SeatView Global)) (v : Vec SeatView Global) (seats after : List SeatView)
    (low : table < length rows) (read : v ≡ slice_index_or rows table v) (same : seats ≡ v.items) (count : length after ≡ length (row (lists_in rows) table)) where
  is_row : seats ≡ row (lists_in rows) table
  is_row = same ∙ row_is rows table v low read

  now_is : lists_in (slice_set rows table (with_items v after)) ≡ slice_set (lists_in rows) table after
  now_is = row_put rows table v after low read (count ∙ ap (λ (vs : List SeatView). length vs) (sym (row_is rows table v low read)))

  pub sends_row : {F : Type 0} (result : Result Tailed F) (words : Lcg) → words ≡ generator_of key
      → IfOk result (λ t. Tails free_of is_added (length tables) (first_words pcg32 32 words) (tries_seen t.tries) (sent_to t.sent))
      → IfOk result (λ t. CallsOn tables table seats (calls_of_tries sent (tries_seen t.tries)) after)
      → ((histories : ℕ → List Entry) → SeatsGoOn after histories → IfOk result (λ t. AllByRecursion (IsOverRows (bases_in tables table) histories) (calls_of_tries sent (tries_seen t.tries))))
      → IfOk result (λ t. SendsRow tables table key sent (lists_in rows) t (lists_in (slice_set rows table (with_items v after))))
  sends_row (Err e) words is tails calls over = tt
  sends_row (Ok t) words is tails calls over = record {
    after = after;
    sends = record {
      tails = subst (λ (w : Lcg). Tails free_of is_added (length tables) (first_words pcg32 32 w) (tries_seen t.tries) (sent_to t.sent)) is tails;
      calls = subst (λ (vs : List SeatView). CallsOn tables table vs (calls_of_tries sent (tries_seen t.tries)) after) is_row calls;
      over = over;
    };
    now = now_is;
  }

  pub none_called : after ≡ seats → lists_in (slice_set rows table (with_items v after)) ≡ lists_in rows
  none_called is = now_is ∙ (ap (λ (vs : List SeatView). slice_set (lists_in rows) table vs) (is ∙ is_row) ∙ row_again (lists_in rows) table)
