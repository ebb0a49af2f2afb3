-- The rows that an answer is over.
use Rattle.std.specs.Prelude.{◌≡◌, ℕ, ◌-◌, List, ◌++◌, take, slice_get, Option, Some, option_and_then}
use Rattle.std.specs.List.{flat_map}
use Rattle.row_model.specs.declared.rows.Row.{Row}
use Rattle.leaf_history.specs.History.{Entry, contents_held}
use Rattle.leaf_table.specs.declared.base.TableBase.{TableBase}
use Rattle.leaf_table.specs.Turns.{Shared}
use Rattle.leaf_table.specs.Calls.{SeatView, base_seen, seen_of, state_of}
use Rattle.leaf_table.specs.Lists.{place}
use Rattle.aggregator.specs.declared.lists.Named.{Named}

-- the rows of a table before entry `number`
abbrev pub rows_seen_before : Option TableBase → List Entry → ℕ → List Row
rows_seen_before base entries number = (contents_held (state_of base (take (number - 1) entries))).rows

-- the rows of the named leaves, leaf after leaf
abbrev pub rows_of_all : (ℕ → ℕ → List Row) → List Named → List Row
rows_of_all rows named = flat_map (λ (n : Named). rows n.leaf n.number) named

-- the rows of the named leaves, each as before its entry, by the bases and histories of the leaves
abbrev pub partial : (ℕ → Option TableBase) → (ℕ → List Entry) → List Named → List Row
partial bases histories named = rows_of_all (λ leaf number. rows_seen_before (bases leaf) (histories leaf) number) named

-- the base of this table at each leaf
abbrev pub bases_in : List (List Shared) → ℕ → ℕ → Option TableBase
bases_in fleet table leaf = option_and_then base_seen (place fleet leaf table)

-- each history begins with what the leaf's seat has seen
abbrev pub SeatsGoOn : List SeatView → (ℕ → List Entry) → Type 0
SeatsGoOn seats histories = (leaf : ℕ) (v : SeatView) → slice_get seats leaf ≡ Some v → (more : List Entry) × (histories leaf ≡ seen_of v ++ more)
