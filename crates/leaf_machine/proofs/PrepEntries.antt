-- What an entry of the steward, or a meeting, does to one table of a leaf.
use Rattle.std.proofs.Common.{◌≡◌, ℕ, false, refl, sym, ap, subst, ◌∙◌}
use Rattle.std.specs.Prelude.{max}
use Rattle.leaf_history.specs.Calls as call
use Rattle.leaf_history.specs.Replies as reply
use Rattle.leaf_history.specs.History.{HistoryState, contents_held, write_count}
use Rattle.leaf_history.specs.Laws.{CallersKeep}
use Rattle.leaf_history.proofs.Histories.{after_spare}
use Rattle.table_state.specs.Tables.{Table}
use Rattle.leaf_table.specs.Turns.{Shared, is_founded, start_of}
use Rattle.leaf_table.specs.Calls.{Made, SeatView, base_seen, seen_of, state_before, state_seen, SeesOpen, SeesShut}
use Rattle.leaf_table.proofs.Knowing.{known_after}
use Rattle.leaf_steward.specs.Seated.{IsSeated}
use Rattle.leaf_steward.proofs.WatchEntries.{watch_kept}
use Rattle.leaf_machine.specs.States.{IsShutAndTaken, IsContent}

-- ---- states

-- more is known to be on the disk
abbrev flushed_to : ℕ → HistoryState → HistoryState
flushed_to n s = record s { flushed = max s.flushed n }

-- shut, and all of it taken
abbrev shut_whole : HistoryState → HistoryState
shut_whole s = record s { live = false; taken = write_count s }

-- no entry changes how many spare columns it has
pub same_spare : (t : Shared) (v w : SeatView) → (state_seen (base_seen t) w).spare ≡ (state_seen (base_seen t) v).spare
same_spare t v w =
    after_spare (is_founded (base_seen t)) (start_of (base_seen t)) (seen_of w) ∙ sym (after_spare (is_founded (base_seen t)) (start_of (base_seen t)) (seen_of v))

-- ---- an entry that notes a table as flushed, and a meeting

-- a seat goes on: the table is open as before, and nothing else that was known of a shut one changed
pub record Stays (t : Shared) (v w : SeatView) : Type 0 where
  pub opened : SeesOpen t v → SeesOpen t w
  pub closed : IsShutAndTaken (state_seen (base_seen t) v) → IsShutAndTaken (state_seen (base_seen t) w)
  pub content : (c : Table) → SeesShut t v → IsContent (state_seen (base_seen t) v) c → IsContent (state_seen (base_seen t) w) c
  pub writes : SeesShut t v → (state_seen (base_seen t) w).writes ≡ (state_seen (base_seen t) v).writes

pub flushed_stays : (t : Shared) (v w : SeatView) (clock n : ℕ) → IsSeated t v → Made (base_seen t) clock v (call.Flushed n) reply.Noted w → Stays t v w
flushed_stays t v w clock n sits made =
    let keeps : CallersKeep (state_seen (base_seen t) v) (state_before (base_seen t) v made.between) = watch_kept t v w clock (call.Flushed n) reply.Noted sits made in
    let knows : state_seen (base_seen t) w ≡ flushed_to n (state_before (base_seen t) v made.between) = known_after (base_seen t) clock v w (call.Flushed n) reply.Noted made in
    let knows_shut : SeesShut t v → state_seen (base_seen t) w ≡ flushed_to n (state_seen (base_seen t) v) = λ shut. knows ∙ ap (flushed_to n) (keeps.shut shut) in
    record {
      opened = λ is. ap (λ (s : HistoryState). s.live) knows ∙ keeps.live ∙ is;
      closed = λ is. subst IsShutAndTaken (sym (knows_shut is.shut)) (record { shut = is.shut; taken = is.taken });
      content = λ c shut is. subst (λ (s : HistoryState). IsContent s c) (sym (knows_shut shut)) (record { contents = is.contents; writes = is.writes });
      writes = λ shut. ap (λ (s : HistoryState). s.writes) (knows_shut shut);
    }

pub kept_stays : (t : Shared) (v w : SeatView) → CallersKeep (state_seen (base_seen t) v) (state_seen (base_seen t) w) → Stays t v w
kept_stays t v w keeps = record {
  opened = λ is. keeps.live ∙ is;
  closed = λ is. subst IsShutAndTaken (sym (keeps.shut is.shut)) is;
  content = λ c shut is. subst (λ (s : HistoryState). IsContent s c) (sym (keeps.shut shut)) is;
  writes = λ shut. ap (λ (s : HistoryState). s.writes) (keeps.shut shut);
}

-- ---- an entry that shuts it

module _ (t : Shared) (v w : SeatView) (clock n : ℕ) (made : Made (base_seen t) clock v call.Shut (reply.Counted n) w) where
  abbrev before : HistoryState
  before = state_before (base_seen t) v made.between

  shut_knows : state_seen (base_seen t) w ≡ shut_whole before
  shut_knows = known_after (base_seen t) clock v w call.Shut (reply.Counted n) made

  shut_counted : n ≡ write_count before
  shut_counted = made.allowed.2

  pub shut_closed : IsShutAndTaken (state_seen (base_seen t) w)
  shut_closed = subst IsShutAndTaken (sym shut_knows) (record { shut = refl; taken = refl })

  pub shut_taken : (state_seen (base_seen t) w).taken ≡ n
  shut_taken = ap (λ (s : HistoryState). s.taken) shut_knows ∙ sym shut_counted

  pub shut_writes : (state_seen (base_seen t) w).writes ≡ before.writes
  shut_writes = ap (λ (s : HistoryState). s.writes) shut_knows

  pub shut_spare : (state_seen (base_seen t) w).spare ≡ before.spare
  shut_spare = ap (λ (s : HistoryState). s.spare) shut_knows

  pub shut_content : (c : Table) → c.contents ≡ contents_held before → c.writes ≡ n → IsContent (state_seen (base_seen t) w) c
  shut_content c contents writes = subst (λ (s : HistoryState). IsContent s c) (sym shut_knows) (record { contents = contents; writes = writes ∙ shut_counted })
