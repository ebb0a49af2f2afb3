-- What was read, where it keeps its rules.
use Rattle.std.proofs.Common.{◌≡◌, ℕ, ◌<◌, ◌^◌, Bool, true, false, cond, List, Option, Some, None, refl, sym, ap, subst, ◌∙◌}
use Rattle.std.specs.Prelude.{IfSome}
use Rattle.leaf_model.specs.Bytes.{IsBytes}
use Rattle.leaf_model.proofs.Fields.{some_is}
use Rattle.region_layout.specs.declared.directory.Directory.{Directory}
use Rattle.region_layout.specs.Directory.{directory_at, IsDirectory}
use Rattle.region_layout.specs.Tests.{is_directory}
use Rattle.region_layout.specs.Written.{MayBeWritten, directory_bytes}
use Rattle.region_layout.proofs.Entries.{directory_takes, directory_again}
use Rattle.region_layout.proofs.Tested.{rules_from, rules_again}
use Rattle.region_layout.proofs.Kept.{may_be_written}

-- the bytes of a directory that keeps its rules are read again
pub kept_again : (bytes : List ℕ) (place : ℕ) (d : Directory) → bytes ≡ directory_bytes d → IsDirectory place d → directory_at bytes ≡ Some d
kept_again bytes place d is kept = ap directory_at is ∙ directory_again d (may_be_written place d kept)

-- the directory, where a test holds
abbrev kept_by : Bool → Directory → Option Directory
kept_by b d = cond b (Some d) None

module _ (bytes : List ℕ) (place : ℕ) (d : Directory) (low : place < 2 ^ 64) (fits : IsBytes bytes) (read : directory_at bytes ≡ Some d) (kept : Option Directory) (is : kept ≡ cond (is_directory place d) (Some d) None) where
  pub kept_found : IfSome kept (λ (e : Directory). (bytes ≡ directory_bytes e) × IsDirectory place e)
  kept_found = subst (λ (r : Option Directory). IfSome r (λ (e : Directory). (bytes ≡ directory_bytes e) × IsDirectory place e)) (sym is) (by (is_directory place d) refl)
    where
      by : (b : Bool) → is_directory place d ≡ b → IfSome (kept_by b d) (λ (e : Directory). (bytes ≡ directory_bytes e) × IsDirectory place e)
      by true e = let taken = directory_takes bytes d fits read in (taken.0, rules_from place d low taken.1 e)
      by false e = tt

  pub kept_fits : IfSome kept MayBeWritten
  kept_fits = subst (λ (r : Option Directory). IfSome r MayBeWritten) (sym is) (by (is_directory place d))
    where
      by : (b : Bool) → IfSome (kept_by b d) MayBeWritten
      by true = (directory_takes bytes d fits read).1
      by false = tt

  pub kept_only : (e : Directory) → bytes ≡ directory_bytes e → IsDirectory place e → kept ≡ Some e
  kept_only e other keeps =
      let same : d ≡ e = some_is d e (sym read ∙ kept_again bytes place e other keeps) in
      let test : is_directory place d ≡ true = ap (is_directory place) same ∙ rules_again place e keeps in
      is ∙ ap (λ (b : Bool). kept_by b d) test ∙ ap (λ (x : Directory). Some x) same

-- nothing was read
pub none_read : (bytes : List ℕ) (place : ℕ) (e : Directory) → directory_at bytes ≡ None → bytes ≡ directory_bytes e → IsDirectory place e → ⊥
none_read bytes place e none is keeps = by (sym none ∙ kept_again bytes place e is keeps)
  where
    by : ◌≡◌ {A = Option Directory} None (Some e) → ⊥
    by h = absurd cc
