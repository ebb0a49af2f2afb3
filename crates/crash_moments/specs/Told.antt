-- What a call of a leaf tells of a crash at any moment of it.
use Rattle.std.specs.Prelude.{◌≡◌, ℕ, ◌≤◌, List, ◌++◌}
use Rattle.std.specs.List.{AllZip}
use Rattle.region_layout.specs.Region.{reads}
use Rattle.berth_face.specs.Berth.{Pair, Meaning, Passes}
use Rattle.leaf_history.specs.History.{Entry}
use Rattle.crash_moments.specs.Left.{NamedStates, Left}
use Rattle.crash_moments.specs.Watched.{Watched, Between, tables_then}

-- each seat has seen more: the steward's entries among what came since are of these moments
abbrev pub SeenMore : ℕ → ℕ → List Watched → List Watched → Type 0
SeenMore from to = AllZip (λ (x y : Watched). (y.name ≡ x.name) × (y.base ≡ x.base) × ((more : List Entry) × (y.seen ≡ x.seen ++ more) × Between from to more))

-- at every moment since the call began, every region and disk that a crash may leave belong to the tables as they were
-- then
pub record Told (others : NamedStates) (before now : List Watched) (old new : Meaning) : Type 0 where
  pub passes : Passes old new
  pub more : SeenMore old.clock new.clock before now
  pub left : (t : ℕ) (p : Pair) → old.clock ≤ t → t ≤ new.clock → new.leaves t p → Left reads (tables_then others t now) p
