-- What a head says of a region that is closed, and of one that is not.
use Rattle.std.proofs.Common.{◌≡◌, ℕ, ◌≤◌, Bool, true, false, cond, ltb, eqb, List, length, refl, arith, inl, inr}
use Rattle.std.specs.Prelude.{◌≢◌, slice_index}
use Rattle.std.proofs.lemmas.Bool.{ltb-true, ltb-false, eqb-true, eqb-false}
use Rattle.region_head.specs.declared.head.Head.{Head}
use Rattle.region_head.specs.declared.head.Head.TheVariants.{NoHead, Closed, Version}
use Rattle.berth_face.specs.Berth.{IsClosed}
use Rattle.region_head.specs.Head.{head_of, version_of}

-- a head by its two tests
abbrev head_by : Bool → Bool → ℕ → ℕ → Head
head_by short opened byte version = cond short NoHead (cond opened (Version version) (Closed byte))

no_version : (short opened : Bool) (byte version other : ℕ) → head_by short opened byte version ≡ Version other → (short ≡ false) × (opened ≡ true)
no_version true opened byte version other e = absurd cc
no_version false true byte version other e = (refl, refl)
no_version false false byte version other e = absurd cc

pub closed_head : (region : List ℕ) → IsClosed region → (version : ℕ) → head_of region ≢ Version version
closed_head region is version = λ e.
    let tests = no_version (ltb (length region) 16) (eqb (slice_index region 0) 1) (slice_index region 0) (version_of region) version e in
    elim is [
      | inl short ↦ omega (arith, short, ltb-false (length region) 16 tests.0)
      | inr other ↦ other (eqb-true (slice_index region 0) 1 tests.1)
    ]

shut_by : (short opened : Bool) (byte version flag : ℕ) → head_by short opened byte version ≡ Closed flag → opened ≡ false
shut_by true opened byte version flag e = absurd cc
shut_by false true byte version flag e = absurd cc
shut_by false false byte version flag e = refl

pub shut_head : (region : List ℕ) (flag : ℕ) → head_of region ≡ Closed flag → IsClosed region
shut_head region flag e =
    let shut = shut_by (ltb (length region) 16) (eqb (slice_index region 0) 1) (slice_index region 0) (version_of region) flag e in
    inr (eqb-false (slice_index region 0) 1 shut)

open_by : (short opened : Bool) (byte version : ℕ) → short ≡ false → opened ≡ true → head_by short opened byte version ≡ Version version
open_by short opened byte version e1 e2 = rw (e1, e2) refl

not_short : (region : List ℕ) (b : Bool) → ltb (length region) 16 ≡ b → (IsClosed region → ⊥) → b ≡ false
not_short region true e opened = absurd (opened (inl (ltb-true (length region) 16 e)))
not_short region false e opened = refl

is_open : (region : List ℕ) (b : Bool) → eqb (slice_index region 0) 1 ≡ b → (IsClosed region → ⊥) → b ≡ true
is_open region true e opened = refl
is_open region false e opened = absurd (opened (inr (eqb-false (slice_index region 0) 1 e)))

pub open_head : (region : List ℕ) → (IsClosed region → ⊥) → head_of region ≡ Version (version_of region)
open_head region opened =
    open_by (ltb (length region) 16) (eqb (slice_index region 0) 1) (slice_index region 0) (version_of region)
    (not_short region (ltb (length region) 16) refl opened) (is_open region (eqb (slice_index region 0) 1) refl opened)

-- where a version is told, there is a whole head
pub head_long : (region : List ℕ) (version : ℕ) → head_of region ≡ Version version → 16 ≤ length region
head_long region version e = ltb-false (length region) 16 (no_version (ltb (length region) 16) (eqb (slice_index region 0) 1) (slice_index region 0) (version_of region) version e).0
