-- Places in slots, by their keys, and the cells that aggregates fold there.
use Rattle.std.specs.Prelude.{◌≡◌, ⊤, ℕ, zero, suc, ◌<◌, ◌==◌, Bool, true, false, List, [], ◌∷◌, length, map, filter, ℤ, slice_index, slice_index_or, Option, Some, None, if◌then◌else◌, filter_map, option_and_then, Vec}
use Rattle.std.specs.declared.alloc.Global.{Global}
use Rattle.std.specs.declared.cmp.Ordering.TheVariants.{Less}
use Rattle.std.specs.List.{AllByRecursion, AllZip, flat_map, range_with_len}
use Rattle.row_model.specs.declared.rows.Row.{Row}
use Rattle.leaf_model.specs.declared.queries.Agg.{Agg}
use Rattle.leaf_model.specs.declared.queries.Agg.TheVariants.{Count, Sum, Min, Max, Avg}
use Rattle.leaf_model.specs.declared.queries.Query.{Query}
use Rattle.leaf_model.specs.declared.groups.Key.{Key}
use Rattle.leaf_model.specs.declared.groups.Key.TheVariants as key
use Rattle.leaf_model.specs.declared.groups.Fold.{Fold}
use Rattle.leaf_model.specs.declared.groups.Group.{Group}
use Rattle.leaf_model.specs.Groups.{as_int, fold_of, key_of, keys_cmp, keys_of, passes, value_of}
use Rattle.column_bytes.specs.Cells.{entries, no_value}
use Rattle.block_scan.specs.declared.decoded.Decoded.{Decoded}
use Rattle.block_scan.specs.declared.decoded.Decoded.TheVariants.{Codes}
use Rattle.block_scan.specs.declared.slots.Slots.{Slots}
use Rattle.block_scan.specs.declared.slots.Slots.TheVariants.{Alone, Coded, Found}
use Rattle.block_scan.specs.Decoded.{IsSized, decoded_at}
use Rattle.block_scan.specs.Keyed.{keys_seen}

-- the slot of place i; by codes the first slot is that of a missing cell, and that of code c is c + 1
abbrev pub slot_at : Slots → ℕ → ℕ
slot_at Alone i = 0
slot_at (Coded d) i = if slice_index_or d.present.items i false then suc (slice_index d.codes.items i) else 0
slot_at (Found s) i = slice_index s.at.items i

-- the number of slots
abbrev pub slots_in : Slots → ℕ
slots_in Alone = 1
slots_in (Coded d) = suc (length (entries d.view.now.book))
slots_in (Found s) = length s.firsts.items

-- the keys of a slot
abbrev pub keys_at : Query → Slots → ℕ → List Key
keys_at q Alone slot = map (λ (name : List ℕ). key.Missing) q.keys
keys_at q (Coded d) zero = map (λ (name : List ℕ). key.Missing) q.keys
keys_at q (Coded d) (suc code) = key_of (Some (slice_index_or (entries d.view.now.book) code no_value)) ∷ []
keys_at q (Found s) slot = keys_seen s.keys.items (slice_index s.firsts.items slot)

-- a slot was noted for each of n places, with the decoded cells that it needs
abbrev pub IsHeld : ℕ → Slots → Type 0
IsHeld n Alone = ⊤
IsHeld n (Coded d) = IsSized n (Codes d)
IsHeld n (Found s) = AllByRecursion (IsSized n) s.keys.items × ((length s.at.items ≡ n) × AllByRecursion (λ place. place < n) s.firsts.items)

-- place i stands in a slot with the keys of its row
pub record StandsIn (q : Query) (row : ℕ → Row) (slots : Slots) (i : ℕ) : Type 0 where
  pub sized : slot_at slots i < slots_in slots
  pub keyed : keys_of q (row i) ≡ keys_at q slots (slot_at slots i)

-- each of the places stands in a slot with the keys of its row
pub record AreSlots (q : Query) (n : ℕ) (row : ℕ → Row) (slots : Slots) (places : List ℕ) : Type 0 where
  pub held : IsHeld n slots
  pub each : AllByRecursion (StandsIn q row slots) places

-- the row of place i passes, and has the keys of its slot
pub record IsKeyed (q : Query) (row : ℕ → Row) (slots : Slots) (i : ℕ) : Type 0 where
  pub passes : passes q (row i) ≡ true
  pub keyed : keys_of q (row i) ≡ keys_at q slots (slot_at slots i)

-- the integer of a row that an aggregate folds
abbrev pub agg_at : Agg → Row → Option ℤ
agg_at Count row = None
agg_at (Sum name) row = option_and_then as_int (value_of name row)
agg_at (Min name) row = option_and_then as_int (value_of name row)
agg_at (Max name) row = option_and_then as_int (value_of name row)
agg_at (Avg name) row = option_and_then as_int (value_of name row)

-- the decoded integer at place i
abbrev pub integer_of : Decoded → ℕ → Option ℤ
integer_of d i = option_and_then as_int (decoded_at d i)

-- the decoded cells that an aggregate folds
pub record IsOfAgg (n : ℕ) (row : ℕ → Row) (agg : Agg) (d : Decoded) : Type 0 where
  pub sized : IsSized n d
  pub each : (i : ℕ) → i < n → agg_at agg (row i) ≡ integer_of d i

abbrev pub AreOfAggs : ℕ → (ℕ → Row) → List Agg → List Decoded → Type 0
AreOfAggs n row aggs decoded = AllZip (IsOfAgg n row) aggs decoded

-- the fold of the decoded integers at some places
abbrev pub fold_at : List ℕ → Decoded → Fold
fold_at places d = fold_of (filter_map (integer_of d) places)

-- the items of each vector
abbrev pub lists_in : List (Vec ℕ Global) → List (List ℕ)
lists_in lists = map (λ (list : Vec ℕ Global). list.items) lists

abbrev pub list_at : List (List ℕ) → ℕ → List ℕ
list_at lists slot = slice_index_or lists slot []

-- for each slot the places that stand in it
pub record AreLaid (slot : ℕ → ℕ) (n : ℕ) (places : List ℕ) (lists : List (List ℕ)) : Type 0 where
  pub count : length lists ≡ n
  pub each : (s : ℕ) → s < n → list_at lists s ≡ filter (λ i. slot i == s) places

-- whether a slot has places
abbrev pub is_used : List ℕ → Bool
is_used [] = false
is_used (i ∷ places) = true

abbrev pub used_slots : List (List ℕ) → List ℕ
used_slots lists = filter (λ s. is_used (list_at lists s)) (range_with_len 0 (length lists))

-- the places of some slots, slot after slot
abbrev pub gathered : List (List ℕ) → List ℕ → List ℕ
gathered lists slots = flat_map (list_at lists) slots

-- for each slot a list of places that stand in it
pub record AreInSlots (rows : ℕ) (slots : Slots) (lists : List (List ℕ)) : Type 0 where
  pub count : length lists ≡ slots_in slots
  pub inside : (s : ℕ) → AllByRecursion (λ place. place < rows) (list_at lists s)
  pub same : (s : ℕ) → AllByRecursion (λ place. slot_at slots place ≡ s) (list_at lists s)

-- the last keys of `front` are less than the first of `back`
abbrev pub EndsBelow : List Group → List Group → Type 0
EndsBelow [] back = ⊥
EndsBelow (a ∷ []) [] = ⊥
EndsBelow (a ∷ []) (b ∷ back) = keys_cmp a.keys b.keys ≡ Less
EndsBelow (a ∷ (c ∷ front)) back = EndsBelow (c ∷ front) back
