-- What every base of a berth is, and a choice that cannot be both.
use Rattle.std.specs.Prelude.{◌≡◌, ℕ, ◌≤◌, List, length, Bool, true, false}
use Rattle.berth_face.specs.Berth.{Pair}
use Rattle.leaf_history.specs.History.{HistoryState}
use Rattle.crash_moments.specs.Base.{IsBaseOf}

pub both : {A : Type 0} (b : Bool) → b ≡ false → b ≡ true → A
both true f t = absurd (wrong f)
  where
    wrong : true ≡ false → ⊥
    wrong e = cc
both false f t = absurd (wrong t)
  where
    wrong : false ≡ true → ⊥
    wrong e = cc

-- what is flushed of a base is at most what it has
pub flushed_le : (may : Pair → Type 0) (name : List ℕ) (s : HistoryState) → IsBaseOf may name s → s.flushed ≤ length s.writes
flushed_le may name s is = (is.between is.longest.0 s.writes is.longest.1 is.longest.2).0
