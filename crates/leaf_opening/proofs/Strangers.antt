-- Where no table and no record is a stranger's, no other name has any writes.
use Rattle.std.proofs.Common.{◌≡◌, ◌∙◌, ℕ, Bool, true, false, cond, not, List, [], ◌∷◌, ◌++◌, Option, Some, None, option_map, unwrap_or, refl, sym, ap, subst}
use Rattle.std.specs.List.{find, list_any}
use Rattle.std.specs.Str.{bytes_eq}
use Rattle.std.proofs.lemmas.Bool.{false≢true}
use Rattle.std.proofs.lemmas.List.{nil_from_length}
use Rattle.std.proofs.lemmas.Slice.Eq.{bytes_eq-Decides}
use Rattle.leaf_model.specs.declared.writes.Write.{Write}
use Rattle.row_records.specs.Records.{LogRecord}
use Rattle.region_layout.specs.Images.{TableImage, empty_image, image_names, is_named, table_named}
use Rattle.region_strangers.specs.Strangers.{stranger_of}
use Rattle.disk_backup.specs.Logs.{writes_of}
use Rattle.log_recovery.specs.Recovery.{stranger_in}
use Rattle.log_recovery.specs.Recovery as recovery
use Rattle.region_layout.specs.ImageWrites.{AreImagesOf}

-- one of the names
abbrev pub is_one_of : List (List ℕ) → List ℕ → Bool
is_one_of names name = list_any (bytes_eq name) names

none_of : {X : Type 0} (f : X → List ℕ) (o : Option X) → option_map f o ≡ None → o ≡ None
none_of f None e = refl
none_of f (Some x) e = absurd cc

module _ (names : List (List ℕ)) (name : List ℕ) (other : is_one_of names name ≡ false) where
  -- a known name is not the other
  unlike : (n : List ℕ) → n ≡ name → not (list_any (bytes_eq n) names) ≡ false → ⊥
  unlike n same known =
      let here : not (list_any (bytes_eq name) names) ≡ false = subst (λ (m : List ℕ). not (list_any (bytes_eq m) names) ≡ false) same known in
      false≢true (sym here ∙ ap not other)

  -- ---- in an image

  no_image : (images : List TableImage) → stranger_of names (image_names images) ≡ None → find (is_named name) images ≡ None
  no_image [] none = refl
  no_image (t ∷ ts) none = step (no_image ts) (not (list_any (bytes_eq t.name) names)) refl (bytes_eq t.name name) refl none
    where
      step : (stranger_of names (image_names ts) ≡ None → find (is_named name) ts ≡ None) → (s : Bool) → not (list_any (bytes_eq t.name) names) ≡ s → (b : Bool) → bytes_eq t.name name ≡ b
          → cond s (Some t.name) (stranger_of names (image_names ts)) ≡ None → cond b (Some t) (find (is_named name) ts) ≡ None
      step next true s b e none = absurd cc
      step next false s true e none = absurd (unlike t.name ((bytes_eq-Decides t.name name).0 e) s)
      step next false s false e none = next none

  pub no_table : (images : List TableImage) → stranger_of names (image_names images) ≡ None → table_named images name ≡ empty_image name
  no_table images none = ap (λ (o : Option TableImage). unwrap_or o (empty_image name)) (no_image images none)

  pub no_writes_there : (spare : List ℕ → ℕ) (writes : List ℕ → List Write) (images : List TableImage) → stranger_of names (image_names images) ≡ None → AreImagesOf spare writes images
      → writes name ≡ []
  no_writes_there spare writes images none are = nil_from_length (writes name) (sym (are name).count ∙ ap (λ (t : TableImage). t.writes) (no_table images none))

  -- ---- in a log

  no_record : (records : List LogRecord) → find (recovery.is_stranger_record names) records ≡ None → writes_of name records ≡ []
  no_record [] none = refl
  no_record (r ∷ rs) none = step (no_record rs) (recovery.is_stranger_record names r) refl (bytes_eq name r.name) refl none
    where
      step : (find (recovery.is_stranger_record names) rs ≡ None → writes_of name rs ≡ []) → (s : Bool) → recovery.is_stranger_record names r ≡ s → (b : Bool) → bytes_eq name r.name ≡ b
          → cond s (Some r) (find (recovery.is_stranger_record names) rs) ≡ None → cond b (r.writes ++ writes_of name rs) (writes_of name rs) ≡ []
      step next true s b e none = absurd cc
      step next false s true e none = absurd (unlike r.name (sym ((bytes_eq-Decides name r.name).0 e)) s)
      step next false s false e none = next none

  pub no_writes_read : (records : List LogRecord) → stranger_in names records ≡ None → writes_of name records ≡ []
  no_writes_read records none = no_record records (none_of (λ (r : LogRecord). r.name) (find (recovery.is_stranger_record names) records) none)
