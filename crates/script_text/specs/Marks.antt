-- Marks of the leaves whose stewards have a command in some lanes.
use Rattle.std.specs.Prelude.{◌≡◌, ◌==◌, ◌||◌, ℕ, List, Bool, false, slice_index_or}
use Rattle.std.specs.List.{list_any}
use Rattle.script_text.specs.declared.command.Command.{Command}
use Rattle.script_text.specs.declared.marks.StewardMarks.{StewardMarks}
use Rattle.script_text.specs.Stewards.{has_steward, has_stewards}

-- the leaf is marked
abbrev pub is_marked : StewardMarks → ℕ → Bool
is_marked marks leaf = marks.every || slice_index_or marks.leaves.items leaf false

-- a leaf is marked if and only if one of these lanes has a command for its steward
pub record AreMarked (lanes : List (List Command)) (marks : StewardMarks) : Type 0 where
  pub each : (leaf : ℕ) → is_marked marks leaf ≡ list_any (has_steward leaf) lanes
  pub any : marks.some ≡ list_any has_stewards lanes

-- these leaves are marked too, and whether there is one
pub record Marks (old new : StewardMarks) (has : ℕ → Bool) (some : Bool) : Type 0 where
  pub each : (leaf : ℕ) → is_marked new leaf ≡ (is_marked old leaf || has leaf)
  pub any : new.some ≡ (old.some || some)

-- the same marks are set
abbrev pub SameMarks : List Bool → List Bool → Type 0
SameMarks old new = (place : ℕ) → slice_index_or new place false ≡ slice_index_or old place false

-- this mark is set, and no other was changed
abbrev pub MarkIsSet : List Bool → ℕ → List Bool → Type 0
MarkIsSet old place new = (other : ℕ) → slice_index_or new other false ≡ (slice_index_or old other false || (place == other))
