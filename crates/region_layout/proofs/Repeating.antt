-- Items that are read one after another, by a reader of one of them.
use Rattle.std.proofs.Common.{◌≡◌, ℕ, zero, suc, ◌-◌, ◌+◌, ◌≤◌, ◌<◌, List, [], ◌∷◌, ◌++◌, length, Option, Some, None, refl, ap, subst, ◌∙◌, append_assoc, length-append, arith}
use Rattle.std.specs.List.{flat_map, AllByRecursion}
use Rattle.std.proofs.lemmas.List.Concat.{flat_map-cons}
use Rattle.leaf_model.specs.Bytes.{IsBytes}
use Rattle.row_records.specs.declared.fault.ReadError.{ReadError}
use Rattle.row_records.specs.declared.fault.ReadError.TheVariants as errors
use Rattle.leaf_model.specs.Reading.{◌>>=◌, many_at}
use Rattle.row_records.specs.Reading.{ReadFails}
use Rattle.leaf_model.proofs.Fields.{bind_some, some_is, Takes, Takes-then}
use Rattle.row_records.proofs.Loop.{with_first, one_more, no_more}

-- no items, and the bytes
abbrev pub no_items : {A : Type 0} → List ℕ → List A × List ℕ
no_items bytes = ([], bytes)

-- an item before others
abbrev pub item_before : {A : Type 0} → A → List A × List ℕ → List A × List ℕ
item_before first others = (first ∷ others.0, others.1)

module _ {A : Type 0} (one : List ℕ → Option (A × List ℕ)) (text : A → List ℕ) (Fits : A → Type 0) where
  -- what is read is what was written
  pub items_take : ((bytes : List ℕ) (x : A × List ℕ) → IsBytes bytes → one bytes ≡ Some x → Takes bytes (text x.0) x.1 × Fits x.0)
      → (n : ℕ) (bytes : List ℕ) (x : List A × List ℕ) → IsBytes bytes → many_at one n bytes ≡ Some x → Takes bytes (flat_map text x.0) x.1 × (length x.0 ≡ n) × AllByRecursion Fits x.0
  items_take takes zero bytes x fits e =
      subst (λ (y : List A × List ℕ). Takes bytes (flat_map text y.0) y.1 × (length y.0 ≡ 0) × AllByRecursion Fits y.0) (some_is (no_items bytes) x e) (record { parts = refl; rest_fits = fits }, refl, tt)
  items_take takes (suc n) bytes x fits e =
      let a = bind_some (one bytes) (λ first. many_at one n first.1 >>= λ others. Some (item_before first.0 others)) x e in
      let b = bind_some (many_at one n a.0.1) (λ others. Some (item_before a.0.0 others)) x a.2 in
      let first = takes bytes a.0 fits a.1 in
      let second = items_take takes n a.0.1 b.0 first.0.rest_fits b.1 in
      let both = Takes-then bytes (text a.0.0) a.0.1 (flat_map text b.0.0) b.0.1 first.0 second.0 in
      subst (λ (y : List A × List ℕ). Takes bytes (flat_map text y.0) y.1 × (length y.0 ≡ suc n) × AllByRecursion Fits y.0) (some_is (item_before a.0.0 b.0) x b.2)
      (rw flat_map-cons both, ap suc second.1, (first.1, second.2))

  -- what was written is read again
  pub items_again : ((x : A) (rest : List ℕ) → Fits x → one (text x ++ rest) ≡ Some (x, rest))
      → (items : List A) (rest : List ℕ) → AllByRecursion Fits items → many_at one (length items) (flat_map text items ++ rest) ≡ Some (items, rest)
  items_again again [] rest each = refl
  items_again again (x ∷ items) rest each =
      let behind = flat_map text items ++ rest in
      let regrouped : flat_map text (x ∷ items) ++ rest ≡ text x ++ behind = ap (λ (w : List ℕ). w ++ rest) (flat_map-cons text x items) ∙ append_assoc (text x) (flat_map text items) rest in
      ap (many_at one (suc (length items))) regrouped ∙ rw (again x behind each.0, items_again again items rest each.1) refl

  -- so few bytes are not so many items
  pub too_few : ((bytes : List ℕ) (x : A × List ℕ) → IsBytes bytes → one bytes ≡ Some x → Takes bytes (text x.0) x.1 × Fits x.0)
      → (count : ℕ) (bytes : List ℕ) → IsBytes bytes → ((items : List A) → AllByRecursion Fits items → length items ≡ count → length bytes < length (flat_map text items)) → many_at one count bytes ≡ None
  too_few takes count bytes fits short = by (many_at one count bytes) refl
    where
      by : (read : Option (List A × List ℕ)) → many_at one count bytes ≡ read → read ≡ None
      by None e = refl
      by (Some x) e =
          let taken = items_take takes count bytes x fits e in
          absurd (omega (arith, short x.0 taken.2 taken.1, ap length taken.0.parts, length-append (flat_map text x.0) x.1))

-- ---- as a loop does

module _ {A : Type 0} (one : List ℕ → Option (A × List ℕ)) (count i : ℕ) (bytes : List ℕ) where
  pub item_read : (x : A) (after : List ℕ) → i < count → one bytes ≡ Some (x, after) → many_at one (count - i) bytes ≡ with_first x (many_at one (count - (i + 1)) after)
  item_read x after lt h = rw (one_more count i lt, h) refl

  pub item_fails : (e : ReadError) → i < count → ReadFails e (one bytes) → ReadFails e (many_at one (count - i) bytes)
  item_fails errors.Memory lt h = tt
  item_fails errors.Broken lt h = rw (one_more count i lt, h) refl

  pub items_done : count ≤ i → many_at one (count - i) bytes ≡ Some (no_items bytes)
  items_done le = rw (no_more count i le) refl
