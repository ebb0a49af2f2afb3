-- The calls of a tail: at one table of each leaf, by the callers' seat there.
use Rattle.std.specs.Prelude.{◌≡◌, ℕ, zero, suc, Bool, true, false, List, [], ◌∷◌, ◌++◌, map, slice_get, slice_set, Option, Some, None, ⊤}
use Rattle.std.specs.List.{flat_map}
use Rattle.rand_pcg.specs.Lcg.{Lcg}
use Rattle.rand_pcg.specs.Pcg.{pcg32}
use Rattle.row_model.specs.declared.rows.Row.{Row}
use Rattle.leaf_model.specs.Groups.{groups}
use Rattle.leaf_history.specs.Calls.{Call}
use Rattle.leaf_history.specs.Calls as call
use Rattle.leaf_history.specs.History.{Entry}
use Rattle.turnstile.specs.Seats.{IsSeatOf}
use Rattle.leaf_table.specs.declared.base.TableBase.{TableBase}
use Rattle.leaf_table.specs.declared.replies.Reply.{Reply}
use Rattle.leaf_table.specs.declared.replies.Reply.TheVariants as told
use Rattle.leaf_table.specs.Turns.{Shared}
use Rattle.leaf_table.specs.Calls.{SeatView, SameSeat, Answered, base_seen}
use Rattle.leaf_table.specs.Lists.{place}
use Rattle.aggregator.specs.Partial.{rows_seen_before}
use Rattle.tail_picks.specs.Room.{every_row, free_rows}
use Rattle.tail_picks.specs.Tails.{TryOf, pick_of}
use Rattle.tailer.specs.declared.tries.Try.{Try}
use Rattle.tailer.specs.declared.tries.Sent.{Sent}
use Rattle.tailer.specs.declared.tries.Sent.TheVariants as sent

-- the free rows of a leaf's table, if it answered the count
abbrev pub free_of : Reply → Option ℕ
free_of (told.Groups number gs) = Some (free_rows gs)
free_of _ = None

abbrev pub is_added : Reply → Bool
is_added (told.Added number kept late) = true
is_added _ = false

-- a try, with its replies
abbrev pub try_seen : Try → TryOf Reply
try_seen t = record { first = t.first; second = t.second; one = t.one; two = t.two; added = t.added }

abbrev pub tries_seen : List Try → List (TryOf Reply)
tries_seen ts = map try_seen ts

-- the leaf that took the rows, if one did
abbrev pub sent_to : Sent → Option ℕ
sent_to (sent.To leaf) = Some leaf
sent_to sent.Refused = None

-- the state of the generator after the two words of a try
abbrev pub words_after : Lcg → Lcg
words_after words = (pcg32 (pcg32 words).1).1

-- the generator after the words of n tries
abbrev pub behind_tries : ℕ → Lcg → Lcg
behind_tries zero words = words
behind_tries (suc n) words = words_after (behind_tries n words)

-- ---- calls

-- a call of the table at a leaf, and its reply
pub record LeafCall : Type 0 where
  pub leaf : ℕ
  pub call : Call
  pub reply : Reply

-- the ask for the number of rows
abbrev pub asking : ℕ → Reply → LeafCall
asking leaf reply = record { leaf = leaf; call = call.Ask every_row; reply = reply }

abbrev pub asking_also : ℕ → Option Reply → List LeafCall
asking_also leaf None = []
asking_also leaf (Some reply) = asking leaf reply ∷ []

-- the add to the picked leaf, if there is one
abbrev pub adding : List Row → Option ℕ → Option Reply → List LeafCall
adding rows (Some leaf) (Some reply) = record { leaf = leaf; call = call.Add rows; reply = reply } ∷ []
adding rows pick reply = []

-- the calls of a try, in order
abbrev pub calls_of : List Row → TryOf Reply → List LeafCall
calls_of rows t = asking t.first t.one ∷ (asking_also t.second t.two ++ adding rows (pick_of free_of is_added t) t.added)

-- the calls of all tries, in order
abbrev pub calls_of_tries : List Row → List (TryOf Reply) → List LeafCall
calls_of_tries rows ts = flat_map (calls_of rows) ts

-- a call by the seat of its leaf; no other seat changes
pub record CallAt (fleet : List (List Shared)) (table : ℕ) (vs : List SeatView) (c : LeafCall) (ws : List SeatView) : Type 0 where
  pub shared : Shared
  pub before : SeatView
  pub after : SeatView
  pub stands : place fleet c.leaf table ≡ Some shared
  pub was : slice_get vs c.leaf ≡ Some before
  pub answered : Answered (base_seen shared) before c.call c.reply after
  pub seat : IsSeatOf after shared.site
  pub same : SameSeat before after
  pub now : ws ≡ slice_set vs c.leaf after

-- calls, one after another
abbrev pub CallsOn : List (List Shared) → ℕ → List SeatView → List LeafCall → List SeatView → Type 0
CallsOn fleet table vs [] ws = ws ≡ vs
CallsOn fleet table vs (c ∷ cs) ws = (between : List SeatView) × CallAt fleet table vs c between × CallsOn fleet table between cs ws

-- ---- the rows that the calls saw

-- an answer counts the rows before its entry, by the bases and histories of the leaves
abbrev pub IsOverRows : (ℕ → Option TableBase) → (ℕ → List Entry) → LeafCall → Type 0
IsOverRows bases histories c = by c.reply
  where
    by : Reply → Type 0
    by (told.Groups number gs) = gs ≡ groups every_row (rows_seen_before (bases c.leaf) (histories c.leaf) number)
    by _ = ⊤
