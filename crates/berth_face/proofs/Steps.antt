-- A write and a sync on the disk, for any shape of bytes that a cut write keeps.
use Rattle.std.proofs.Common.{◌≡◌, ◌⊎◌, ℕ, List, sym, subst}
use Rattle.std.specs.Prelude.{length, Result}
use Rattle.berth_face.specs.Berth.{Pair, Meaning, IsClosed, Passes, Torn, DiskStep, DiskWritten, DiskSynced}
use Rattle.berth_face.specs.Moments.{EachNow, Throughout, WithRegion}
use Rattle.berth_face.proofs.Moments.{started, goes_on}

module _ (at : ℕ) (bytes region : List ℕ) (P : List ℕ → Type 0) (keeps : (old new : List ℕ) → P old → Torn at (length bytes) old new → P new) where
  step : (q p : Pair) → WithRegion region P q → DiskStep (Torn at (length bytes)) q p → WithRegion region P p
  step q p had made = record {
    region_is = subst (λ (r : List ℕ). (r ≡ region) ⊎ IsClosed r) (sym made.0) had.region_is;
    disk_has = keeps q.disk p.disk had.disk_has made.1;
  }

  pub writes : {T E : Type 0} (result : Result T E) (a b : Meaning) → EachNow (WithRegion region P) a → Passes a b → DiskWritten at bytes result a b → Throughout (WithRegion region P) a b
  writes result a b now time wrote =
      goes_on a a b (WithRegion region P) (started a (WithRegion region P) now) time
      (λ t p from to left. let came = wrote.inside t p from to left in step came.0 p (now came.0 came.1) came.2)
      (λ p left. let came = wrote.ended p left in step came.0 p (now came.0 came.1) came.2)

-- a sync adds no pair
pub syncs : {T E : Type 0} (result : Result T E) (a b c : Meaning) (P : Pair → Type 0) → Throughout P a b → EachNow P b → Passes b c → DiskSynced result b c → Throughout P a c
syncs result a b c P so_far now time synced =
    goes_on a b c P so_far time (λ t p from to left. now p (synced.inside t p from to left)) (λ p left. now p (synced.ended p left))
