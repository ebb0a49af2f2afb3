-- One table of each leaf is asked, by the callers' seat there.
use Rattle.std.specs.Prelude.{◌≡◌, ℕ, suc, ◌≤◌, List, [], ◌∷◌, length, slice_get, Some, Result, IfOk, ⊤}
use Rattle.leaf_model.specs.declared.queries.Query.{Query}
use Rattle.leaf_history.specs.Calls as call
use Rattle.turnstile.specs.Seats.{IsSeatOf}
use Rattle.leaf_table.specs.declared.replies.Reply.{Reply}
use Rattle.leaf_table.specs.Turns.{Shared}
use Rattle.leaf_table.specs.Calls.{SeatView, IsCaller, SameSeat, Answered, base_seen}
use Rattle.leaf_table.specs.Lists.{place}
use Rattle.aggregator.specs.declared.fanned.Fanned.{Fanned}
use Rattle.aggregator.specs.Sorts.{Sorts}

-- a callers' seat at this table of a leaf
pub record IsSeatAt (fleet : List (List Shared)) (table leaf : ℕ) (v : SeatView) : Type 0 where
  pub shared : Shared
  pub stands : place fleet leaf table ≡ Some shared
  pub seat : IsSeatOf v shared.site
  pub caller : IsCaller v

-- a callers' seat at each leaf of a fleet of at most 256, in the order of the leaves
pub record AreSeatsAt (fleet : List (List Shared)) (table : ℕ) (seats : List SeatView) : Type 0 where
  pub count : length seats ≡ length fleet
  pub few : length fleet ≤ 256
  pub each : (leaf : ℕ) (v : SeatView) → slice_get seats leaf ≡ Some v → IsSeatAt fleet table leaf v

-- a leaf was asked by its seat: it made an entry with this reply, or the seat is worn
pub record IsAsked (q : Query) (fleet : List (List Shared)) (table leaf : ℕ) (v : SeatView) (reply : Reply) (w : SeatView) : Type 0 where
  pub shared : Shared
  pub stands : place fleet leaf table ≡ Some shared
  pub answered : Answered (base_seen shared) v (call.Ask q) reply w
  pub seat : IsSeatOf w shared.site
  pub same : SameSeat v w

-- each leaf from `leaf` on was asked by its seat, in the order of the leaves
abbrev pub Asked : Query → List (List Shared) → ℕ → ℕ → List SeatView → List Reply → List SeatView → Type 0
Asked q fleet table leaf [] [] [] = ⊤
Asked q fleet table leaf (v ∷ vs) (reply ∷ replies) (w ∷ ws) = IsAsked q fleet table leaf v reply w × Asked q fleet table (suc leaf) vs replies ws
Asked q fleet table leaf [] [] (w ∷ ws) = ⊥
Asked q fleet table leaf [] (reply ∷ replies) ws = ⊥
Asked q fleet table leaf (v ∷ vs) [] ws = ⊥
Asked q fleet table leaf (v ∷ vs) (reply ∷ replies) [] = ⊥

-- each leaf was asked, and the result has each in the list of its reply
pub record AllAsked {E : Type 0} (q : Query) (fleet : List (List Shared)) (table : ℕ) (seats after : List SeatView) (result : Result Fanned E) : Type 0 where
  pub replies : List Reply
  pub asked : Asked q fleet table 0 seats replies after
  pub sorts : IfOk result (Sorts replies)
