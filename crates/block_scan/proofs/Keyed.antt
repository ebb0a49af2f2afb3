-- Places that stand in slots which were found for their keys.
use Rattle.std.proofs.Common.{◌≡◌, ℕ, suc, ◌+◌, ◌<◌, ◌≤◌, Bool, true, false, cond, List, [], ◌∷◌, ◌++◌, length, map, take, get_or, set, slice_index, slice_index_or, Some, None, eqb, refl, sym, ap, ap₂, subst, ◌∙◌, arith}
use Rattle.std.specs.List.{AllByRecursion}
use Rattle.std.proofs.lemmas.Bool.{eqb-true, eqb-false}
use Rattle.std.proofs.lemmas.List.{get_or-set_same, get_or-set_other, take_more}
use Rattle.row_model.specs.declared.rows.Row.{Row}
use Rattle.leaf_model.specs.declared.queries.Query.{Query}
use Rattle.leaf_model.specs.declared.groups.Key.{Key}
use Rattle.leaf_model.specs.declared.groups.Key.TheVariants as key
use Rattle.leaf_model.specs.Groups.{key_of, keys_of, value_of}
use Rattle.column_bytes.specs.Cells.{entries, no_value}
use Rattle.row_blocks.proofs.Taking.{all_push}
use Rattle.block_scan.specs.declared.decoded.Decoded.{Decoded}
use Rattle.block_scan.specs.declared.decoded.Decoded.TheVariants.{Missing, Codes}
use Rattle.block_scan.specs.declared.decoded.EntryCodes.{EntryCodes}
use Rattle.block_scan.specs.declared.slots.FoundSlots.{FoundSlots}
use Rattle.block_scan.specs.declared.slots.Slots.{Slots}
use Rattle.block_scan.specs.declared.slots.Slots.TheVariants.{Alone, Coded, Found}
use Rattle.block_scan.specs.Decoded.{IsSized, decoded_at}
use Rattle.block_scan.specs.Keyed.{AreOfKeys, HasSlot, IsOfKey, IsPlaced, keys_seen}
use Rattle.block_scan.specs.Slots.{AreSlots, IsHeld, StandsIn, keys_at}
use Rattle.block_scan.proofs.Lists.{all_weaker}

module _ (keys : List Decoded) (place slot : ℕ) (old now at : List ℕ) (low : place < length at) (has : HasSlot keys place old now slot) where
  written : slice_index (set at place slot) place ≡ slot
  written = get_or-set_same at place slot 0 low

  placed_here : IsPlaced keys now (set at place slot) place
  placed_here = record {
    there = subst (λ (s : ℕ). s < length now) (sym written) has.there;
    same = has.same ∙ ap (λ (s : ℕ). keys_seen keys (slice_index now s)) (sym written);
  }

  placed_still : (i : ℕ) → IsPlaced keys old at i → IsPlaced keys now (set at place slot) i
  placed_still i was = by (eqb i place) refl
    where
      by : (b : Bool) → eqb i place ≡ b → IsPlaced keys now (set at place slot) i
      by true e = subst (IsPlaced keys now (set at place slot)) (sym (eqb-true i place e)) placed_here
      by false e =
          let same : slice_index (set at place slot) i ≡ slice_index at i = get_or-set_other at place i slot 0 (eqb-false i place e) in
          let there : slice_index (set at place slot) i < length now = omega (arith, same, was.there, has.grows) in
          record {
            there = there;
            same = was.same ∙ ap (keys_seen keys) (sym (has.kept (slice_index at i) was.there) ∙ ap (slice_index now) (sym same));
          }

  -- one place more
  pub placed_more : (places : List ℕ) (k : ℕ) → k < length places → place ≡ get_or places k 0 → AllByRecursion (IsPlaced keys old at) (take k places)
      → AllByRecursion (IsPlaced keys now (set at place slot)) (take (k + 1) places)
  placed_more places k within is was =
      subst (AllByRecursion (IsPlaced keys now (set at place slot))) (ap (λ (p : ℕ). take k places ++ p ∷ []) is ∙ sym (take_more places k 0 within))
      (all_push (IsPlaced keys now (set at place slot)) (take k places) place
      (all_weaker (IsPlaced keys old at) (IsPlaced keys now (set at place slot)) placed_still (take k places) was) placed_here)

-- ---- the keys of rows

-- the keys of a row are those that were decoded at its place
pub keys_there : (n : ℕ) (row : ℕ → Row) (names : List (List ℕ)) (keys : List Decoded) → AreOfKeys n row names keys → (i : ℕ) → i < n
    → map (λ (name : List ℕ). key_of (value_of name (row i))) names ≡ keys_seen keys i
keys_there n row [] [] are i h = refl
keys_there n row [] (d ∷ keys) are i h = absurd are
keys_there n row (name ∷ names) [] are i h = absurd are
keys_there n row (name ∷ names) (d ∷ keys) are i h = ap₂ (λ (k : Key) (ks : List Key). k ∷ ks) (ap key_of (are.0.each i h)) (keys_there n row names keys are.1 i h)

pub keys_sized : (n : ℕ) (row : ℕ → Row) (names : List (List ℕ)) (keys : List Decoded) → AreOfKeys n row names keys → AllByRecursion (IsSized n) keys
keys_sized n row [] [] are = tt
keys_sized n row [] (d ∷ keys) are = absurd are
keys_sized n row (name ∷ names) [] are = absurd are
keys_sized n row (name ∷ names) (d ∷ keys) are = (are.0.sized, keys_sized n row names keys are.1)

pub one_name : (names : List (List ℕ)) (name : List ℕ) → 1 ≤ length names → length names < 2 → name ≡ get_or names 0 name → names ≡ name ∷ []
one_name [] name some few is = absurd (omega (arith, some))
one_name (other ∷ []) name some few is = ap (λ (n : List ℕ). n ∷ []) (sym is)
one_name (other ∷ (more ∷ names)) name some few is = absurd (omega (arith, few))

pub no_name : (names : List (List ℕ)) → length names < 1 → names ≡ []
no_name [] few = refl
no_name (name ∷ names) few = absurd (omega (arith, few))

module _ (q : Query) (n : ℕ) (row : ℕ → Row) where
  all_stand : (slots : Slots) → ((i : ℕ) → i < n → StandsIn q row slots i) → (places : List ℕ) → AllByRecursion (λ i. i < n) places → AllByRecursion (StandsIn q row slots) places
  all_stand slots each [] inside = tt
  all_stand slots each (i ∷ places) inside = (each i inside.0, all_stand slots each places inside.1)

  pub alone_stands : (places : List ℕ) → AllByRecursion (λ i. i < n) places → q.keys ≡ [] → AreSlots q n row Alone places
  alone_stands places inside none = record {
    held = tt;
    each = all_stand Alone (λ i h. record {
      sized = omega arith;
      keyed = ap (map (λ (name : List ℕ). key_of (value_of name (row i)))) none ∙ sym (ap (map (λ (name : List ℕ). key.Missing)) none);
    }) places inside;
  }

  module _ (name : List ℕ) (one : q.keys ≡ name ∷ []) where
    key_there : (d : Decoded) → IsOfKey n row name d → (i : ℕ) → i < n → keys_of q (row i) ≡ key_of (decoded_at d i) ∷ []
    key_there d is i h = ap (map (λ (other : List ℕ). key_of (value_of other (row i)))) one ∙ ap (λ (k : Key). k ∷ []) (ap key_of (is.each i h))

    none_there : key.Missing ∷ [] ≡ map (λ (other : List ℕ). key.Missing) q.keys
    none_there = sym (ap (map (λ (other : List ℕ). key.Missing)) one)

    pub missing_stands : (places : List ℕ) → AllByRecursion (λ i. i < n) places → IsOfKey n row name Missing → AreSlots q n row Alone places
    missing_stands places inside is = record {
      held = tt;
      each = all_stand Alone (λ i h. record { sized = omega arith; keyed = key_there Missing is i h ∙ none_there }) places inside;
    }

    coded_stand : (d : EntryCodes) → IsOfKey n row name (Codes d) → (i : ℕ) → i < n → StandsIn q row (Coded d) i
    coded_stand d is i h = record { sized = high (slice_index_or d.present.items i false) refl; keyed = key_there (Codes d) is i h ∙ by (slice_index_or d.present.items i false) }
      where
        high : (b : Bool) → slice_index_or d.present.items i false ≡ b → cond b (suc (slice_index d.codes.items i)) 0 < suc (length (entries d.view.now.book))
        high true e = let low = is.sized.2 i h e in omega (arith, low)
        high false e = omega arith

        by : (b : Bool) → key_of (cond b (Some (slice_index_or (entries d.view.now.book) (slice_index d.codes.items i) no_value)) None) ∷ [] ≡ keys_at q (Coded d) (cond b (suc (slice_index d.codes.items i)) 0)
        by true = refl
        by false = none_there

    pub coded_stands : (d : EntryCodes) (places : List ℕ) → AllByRecursion (λ i. i < n) places → IsOfKey n row name (Codes d) → AreSlots q n row (Coded d) places
    coded_stands d places inside is = record { held = is.sized; each = all_stand (Coded d) (coded_stand d is) places inside }

  pub found_stands : (s : FoundSlots) (places : List ℕ) → AllByRecursion (λ i. i < n) places → AreOfKeys n row q.keys s.keys.items → IsHeld n (Found s)
      → AllByRecursion (IsPlaced s.keys.items s.firsts.items s.at.items) places → AreSlots q n row (Found s) places
  found_stands s places inside are held placed = record { held = held; each = each places inside placed }
    where
      each : (ps : List ℕ) → AllByRecursion (λ i. i < n) ps → AllByRecursion (IsPlaced s.keys.items s.firsts.items s.at.items) ps → AllByRecursion (StandsIn q row (Found s)) ps
      each [] low there = tt
      each (i ∷ ps) low there = (record { sized = there.0.there; keyed = keys_there n row q.keys s.keys.items are i low.0 ∙ there.0.same }, each ps low.1 there.1)
