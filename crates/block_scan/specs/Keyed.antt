-- The keys of places, and the slots that were found for them.
use Rattle.std.specs.Prelude.{◌≡◌, ℕ, ◌+◌, ◌<◌, ◌≤◌, List, length, map, slice_index}
use Rattle.std.specs.List.{AllZip}
use Rattle.row_model.specs.declared.rows.Row.{Row}
use Rattle.leaf_model.specs.declared.groups.Key.{Key}
use Rattle.leaf_model.specs.Groups.{key_of, value_of}
use Rattle.block_scan.specs.declared.decoded.Decoded.{Decoded}
use Rattle.block_scan.specs.Decoded.{IsDecoded, decoded_at}

-- the values of n rows under a name, decoded
abbrev pub IsOfKey : ℕ → (ℕ → Row) → List ℕ → Decoded → Type 0
IsOfKey n row name d = IsDecoded n (λ i. value_of name (row i)) d

abbrev pub AreOfKeys : ℕ → (ℕ → Row) → List (List ℕ) → List Decoded → Type 0
AreOfKeys n row names keys = AllZip (IsOfKey n row) names keys

-- the decoded keys at place i
abbrev pub keys_seen : List Decoded → ℕ → List Key
keys_seen keys i = map (λ (d : Decoded). key_of (decoded_at d i)) keys

-- a slot for a place, either old or new: its first place has the same keys, and the first places of the old slots stay
pub record HasSlot (keys : List Decoded) (place : ℕ) (old now : List ℕ) (slot : ℕ) : Type 0 where
  pub there : slot < length now
  pub same : keys_seen keys place ≡ keys_seen keys (slice_index now slot)
  pub grows : length old ≤ length now
  pub few : length now ≤ length old + 1
  pub kept : (s : ℕ) → s < length old → slice_index now s ≡ slice_index old s

-- place i stands in a slot whose first place has the same keys
pub record IsPlaced (keys : List Decoded) (firsts at : List ℕ) (i : ℕ) : Type 0 where
  pub there : slice_index at i < length firsts
  pub same : keys_seen keys i ≡ keys_seen keys (slice_index firsts (slice_index at i))
