-- The rule of a slot, place by place, and that what is written for values means them.
use Rattle.std.proofs.Common.{◌≡◌, ◌≢◌, ℕ, zero, suc, ◌+◌, ◌-◌, ◌*◌, ◌/◌, ◌%◌, ◌<◌, List, length, map, ℤ, pos, ◌-ℤ◌, FitsSigned, w64, slice_index, slice_index_or, to_z, of_z, [], ◌∷◌, ◌++◌, refl, ap, sym, ◌∙◌, inl, inr, arith}
use Rattle.std.specs.List.{range_with_len}
use Rattle.std.specs.Int.{int_wrap, div_ceil}
use Rattle.std.proofs.lemmas.Bool.{cases_eq, cases_lt}
use Rattle.std.proofs.lemmas.Int.{to_z-of_z}
use Rattle.std.proofs.lemmas.List.{get_or_past}
use Rattle.std.proofs.lemmas.List.FromFn.{length-map-range_with_len, get_or-map-range_with_len, map-range_with_len_more, fill_by_all}
use Rattle.delta_codes.specs.Slots.{zigzag, after, slot, slots, anchors_of, code_of, codes_of}
use Rattle.delta_codes.proofs.Differences.{after_difference}

-- the i-th of the slots
pub slots_at : (anchors : List ℤ) (codes : List ℕ) (i : ℕ) (d : ℤ) → i < length codes → slice_index_or (slots anchors codes) i d ≡ slot anchors codes i
slots_at anchors codes i d within = get_or-map-range_with_len (slot anchors codes) 0 (length codes) i i d within (omega arith)

-- at a multiple of 64 it is the anchor
pub slot_anchored : (anchors : List ℤ) (codes : List ℕ) (i : ℕ) → i % 64 ≡ 0 → slot anchors codes i ≡ slice_index_or anchors (i / 64) (pos 0)
slot_anchored anchors codes zero multiple = refl
slot_anchored anchors codes (suc i) multiple = grind arith

-- elsewhere it is the slot before and the difference of its code
pub slot_between : (anchors : List ℤ) (codes : List ℕ) (before i : ℕ) → before + 1 ≡ i → i % 64 ≢ 0
    → slot anchors codes i ≡ after (slot anchors codes before) (slice_index codes i)
slot_between anchors codes before zero next between = absurd (omega arith)
slot_between anchors codes before (suc i) next between = let e : before ≡ i = omega arith in rw e (grind arith)

-- ---- what is written for values

pub anchor_written : (values : List ℤ) (k : ℕ) → 64 * k < length values → slice_index_or (anchors_of values) k (pos 0) ≡ slice_index_or values (64 * k) (pos 0)
anchor_written values k within =
    get_or-map-range_with_len (λ j. slice_index_or values (64 * j) (pos 0)) 0 (div_ceil (length values) 64) k k (pos 0) (omega arith) (omega arith)

pub code_written : (values : List ℤ) (i : ℕ) → i < length values → slice_index (codes_of values) i ≡ code_of values i
code_written values i within = get_or-map-range_with_len (code_of values) 0 (length values) i i 0 within (omega arith)

pub code_anchored : (values : List ℤ) (i : ℕ) → i % 64 ≡ 0 → code_of values i ≡ 0
code_anchored values i multiple = grind arith

pub code_between : (values : List ℤ) (before i : ℕ) → before + 1 ≡ i → i % 64 ≢ 0
    → code_of values i ≡ zigzag (int_wrap w64 (slice_index_or values i (pos 0) -ℤ slice_index_or values before (pos 0)))
code_between values before i next between = let e : i - 1 ≡ before = omega arith in rw (← e) (grind arith)

-- at each place the slot of what is written for values is the value
pub written_at : (values : List ℤ) → ((i : ℕ) → i < length values → FitsSigned w64 (slice_index_or values i (pos 0)))
    → (i : ℕ) → i < length values → slot (anchors_of values) (codes_of values) i ≡ slice_index_or values i (pos 0)
written_at values fits zero within = anchor_written values 0 (omega arith)
written_at values fits (suc i) within = elim (cases_eq (suc i % 64) 0) [
  | inl multiple ↦
      slot_anchored (anchors_of values) (codes_of values) (suc i) multiple
      ∙ anchor_written values (suc i / 64) (omega arith)
      ∙ ap (λ k. slice_index_or values k (pos 0)) (omega arith)
  | inr between ↦
      slot_between (anchors_of values) (codes_of values) i (suc i) (omega arith) between
      ∙ ap (λ before. after before (slice_index (codes_of values) (suc i))) (written_at values fits i (omega arith))
      ∙ ap (after (slice_index_or values i (pos 0))) (code_written values (suc i) within ∙ code_between values i (suc i) (omega arith) between)
      ∙ after_difference (slice_index_or values i (pos 0)) (slice_index_or values (suc i) (pos 0)) (fits (suc i) within)
]

pub written : (values : List ℤ) → ((i : ℕ) → i < length values → FitsSigned w64 (slice_index_or values i (pos 0)))
    → slots (anchors_of values) (codes_of values) ≡ values
written values fits =
    let count : length (codes_of values) ≡ length values = length-map-range_with_len (code_of values) 0 (length values) in
    rw count (sym (fill_by_all (slot (anchors_of values) (codes_of values)) values (length values) (pos 0) refl (λ k within. sym (written_at values fits k within))))

-- ---- steps of loops that write a place after the other

pub length_anchors_of : (values : List ℤ) → length (anchors_of values) ≡ div_ceil (length values) 64
length_anchors_of values = length-map-range_with_len (λ k. slice_index_or values (64 * k) (pos 0)) 0 (div_ceil (length values) 64)

pub codes_at_anchors : (values : List ℤ) (i : ℕ) → i % 64 ≡ 0 → slice_index (codes_of values) i ≡ 0
codes_at_anchors values i multiple = elim (cases_lt i (length values)) [
  | inl within ↦ code_written values i within ∙ code_anchored values i multiple
  | inr past ↦ get_or_past (codes_of values) i 0 (rw (length-map-range_with_len (code_of values) 0 (length values)) past)
]

-- one more anchor
pub anchors_more : (values xs : List ℤ) (i : ℕ) (x : ℤ) → FitsSigned w64 (slice_index_or values (64 * i) (pos 0))
    → xs ≡ map (λ k. slice_index_or values (64 * k) (pos 0)) (range_with_len 0 i) → x ≡ to_z w64 (of_z w64 (slice_index_or values (64 * i) (pos 0)))
    → xs ++ x ∷ [] ≡ map (λ k. slice_index_or values (64 * k) (pos 0)) (range_with_len 0 (i + 1))
anchors_more values xs i x fits before e =
    rw (before, e, to_z-of_z w64 (slice_index_or values (64 * i) (pos 0)) fits)
    (sym (map-range_with_len_more (λ k. slice_index_or values (64 * k) (pos 0)) 0 i i (omega arith)))
