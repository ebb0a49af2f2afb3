-- What the sorting knows of each reply, and its invariant.
use Rattle.std.specs.Prelude.{◌≡◌, ℕ, suc, ◌^◌, List, [], ◌∷◌, ⊤}
use Rattle.std.specs.List.{AllByRecursion}
use Rattle.row_model.specs.declared.rows.Row.{Row}
use Rattle.leaf_model.specs.declared.queries.Query.{Query}
use Rattle.leaf_model.specs.Groups.{groups}
use Rattle.group_table.specs.Joined.{IsWithin}
use Rattle.leaf_table.specs.declared.replies.Reply.{Reply}
use Rattle.leaf_table.specs.declared.replies.Reply.TheVariants as told
use Rattle.aggregator.specs.declared.fanned.Fanned.{Fanned}
use Rattle.aggregator.specs.Sorts.{named_of}
use Rattle.aggregator.specs.Partial.{rows_of_all}

-- no leaf has replied
abbrev pub no_leaf : Fanned
no_leaf = record { groups = []; named = []; shut = []; starved = []; worn = [] }

-- a reply to a query; its groups fit 2^40 rows
abbrev pub IsAnswer : Reply → Type 0
IsAnswer (told.Groups number gs) = AllByRecursion (IsWithin (2 ^ 40)) gs
IsAnswer (told.Shut number) = ⊤
IsAnswer (told.NoMemory number) = ⊤
IsAnswer told.Worn = ⊤
IsAnswer (told.Added number kept late) = ⊥
IsAnswer (told.Removed number rows) = ⊥
IsAnswer (told.Full number) = ⊥

-- groups in a reply are those of these rows; any other reply goes with no rows
abbrev pub IsOver : Query → List Row → Reply → Type 0
IsOver q rows (told.Groups number gs) = gs ≡ groups q rows
IsOver q rows _ = rows ≡ []

-- the groups in each reply, from `leaf` on, are those of the leaf's rows before its entry
abbrev pub AreOver : Query → (ℕ → ℕ → List Row) → ℕ → List Reply → Type 0
AreOver q rows leaf [] = ⊤
AreOver q rows leaf (reply ∷ replies) = IsOver q (rows_of_all rows (named_of leaf reply)) reply × AreOver q rows (suc leaf) replies

-- the lists of the leaves that did not answer are unchanged
pub record SameRefusals (f g : Fanned) : Type 0 where
  pub shut : g.shut ≡ f.shut
  pub starved : g.starved ≡ f.starved
  pub worn : g.worn ≡ f.worn
