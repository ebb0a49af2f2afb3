-- Each pair of a later moment comes from an earlier one, whatever bytes stand before its disk's gate.
use Rattle.std.specs.Prelude.{◌≡◌, ◌⊎◌, ℕ, List, length}
use Rattle.berth_face.specs.Berth.{Pair, Meaning, IsClosed}

-- p comes from an earlier pair. Its region is the same or closed. For each list of `end` bytes: if the earlier disk is
-- as `before` says of these bytes, p's disk is as `after` says of them.
pub record Came (end : ℕ) (before after : List ℕ → List ℕ → Type 0) (old : Meaning) (p : Pair) : Type 0 where
  pub from : Pair
  pub was : old.leaves old.clock from
  pub region : (p.region ≡ from.region) ⊎ IsClosed p.region
  pub disk : (front : List ℕ) → end ≡ length front → before front from.disk → after front p.disk
