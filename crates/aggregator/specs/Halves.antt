-- Leaves from a given one on, and the seats at them.
use Rattle.std.specs.Prelude.{◌≡◌, ℕ, suc, ◌+◌, ◌≤◌, List, [], ◌∷◌, length, ⊤}
use Rattle.leaf_table.specs.declared.replies.Reply.{Reply}
use Rattle.leaf_table.specs.Turns.{Shared}
use Rattle.leaf_table.specs.Calls.{SeatView}
use Rattle.aggregator.specs.Asks.{IsSeatAt}

-- a callers' seat at each leaf from `leaf` on
abbrev pub AreSeatsFrom : List (List Shared) → ℕ → ℕ → List SeatView → Type 0
AreSeatsFrom fleet table leaf [] = ⊤
AreSeatsFrom fleet table leaf (v ∷ vs) = IsSeatAt fleet table leaf v × AreSeatsFrom fleet table (suc leaf) vs

-- these leaves may be asked: there is a place for each reply
pub record MayAsk (fleet : List (List Shared)) (table first : ℕ) (seats : List SeatView) (replies : List Reply) : Type 0 where
  pub seats_are : AreSeatsFrom fleet table first seats
  pub room : length replies ≡ length seats
  pub few : first + length seats ≤ 256
