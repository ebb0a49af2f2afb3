-- Sets that are put behind one another as the numbers of their texts, each once.
use Rattle.std.proofs.Common.{◌≡◌, ℕ, zero, suc, ◌+◌, ◌<◌, ◌≤◌, Bool, true, false, ◌||◌, List, [], ◌∷◌, ◌++◌, length, slice_get, slice_index, slice_index_or, Option, Some, None, Vec, Global, if◌then◌else◌, bytes_eq, below_more, refl, sym, ap, ap₂, subst, ◌∙◌, append_assoc, inl, inr, arith}
use Rattle.std.specs.List.{list_any}
use Rattle.std.proofs.lemmas.Bool.{cases_lt}
use Rattle.std.proofs.lemmas.List.{get_or_append_left, length_push, length-map}
use Rattle.std.proofs.lemmas.Option.{get_or_from_slice_get, slice_get_within}
use Rattle.std.proofs.Math.Seq.{get_or-append_seam}
use Rattle.indexmap.specs.IndexSet.{insert_key}
use Rattle.row_model.specs.declared.rows.Value.{Value}
use Rattle.row_model.specs.declared.rows.Value.TheVariants as values
use Rattle.row_model.specs.Values.{IsSet, bytes_in}
use Rattle.dictionaries.specs.Dictionary.{AreKept, AreTexts, texts_by, with_text}
use Rattle.dictionaries.specs.Sets.{AreNumbers, AreSetCodes, numbers_in}

-- ---- vectors of numbers

pub numbers_at : (sets : List (Vec ℕ Global)) (k : ℕ) (d : Vec ℕ Global) → k < length sets → slice_index_or (numbers_in sets) k [] ≡ (slice_index_or sets k d).items
numbers_at [] k d h = absurd (omega arith)
numbers_at (v ∷ sets) zero d h = refl
numbers_at (v ∷ sets) (suc k) d h = numbers_at sets k d (omega arith)

pub length-numbers_in : (sets : List (Vec ℕ Global)) → length (numbers_in sets) ≡ length sets
length-numbers_in sets = length-map sets (λ (v : Vec ℕ Global). v.items)

numbers_push : (sets : List (Vec ℕ Global)) (v : Vec ℕ Global) → numbers_in (sets ++ v ∷ []) ≡ numbers_in sets ++ v.items ∷ []
numbers_push [] v = refl
numbers_push (first ∷ sets) v = ap (λ xs. first.items ∷ xs) (numbers_push sets v)

any_numbers : (numbers : List ℕ) (sets : List (Vec ℕ Global)) → list_any (λ (other : Vec ℕ Global). bytes_eq numbers other.items) sets ≡ list_any (bytes_eq numbers) (numbers_in sets)
any_numbers numbers [] = refl
any_numbers numbers (first ∷ sets) = ap (λ b. bytes_eq numbers first.items || b) (any_numbers numbers sets)

numbers_if : (b : Bool) (sets : List (Vec ℕ Global)) (v : Vec ℕ Global)
    → numbers_in (if b then sets else sets ++ v ∷ []) ≡ (if b then numbers_in sets else numbers_in sets ++ v.items ∷ [])
numbers_if true sets v = refl
numbers_if false sets v = numbers_push sets v

pub numbers_insert : (sets : List (Vec ℕ Global)) (v : Vec ℕ Global)
    → numbers_in (insert_key (λ (x y : Vec ℕ Global). bytes_eq x.items y.items) sets v) ≡ with_text (numbers_in sets) v.items
numbers_insert sets v =
    numbers_if (list_any (λ (other : Vec ℕ Global). bytes_eq v.items other.items) sets) sets v
    ∙ ap (λ b. if b then numbers_in sets else numbers_in sets ++ v.items ∷ []) (any_numbers v.items sets)

pub numbers_found : (sets : List (Vec ℕ Global)) (i : ℕ) (v : Vec ℕ Global) → slice_get sets i ≡ Some v → slice_index_or (numbers_in sets) i [] ≡ v.items
numbers_found sets i v e =
    numbers_at sets i v (slice_get_within sets i v e) ∙ ap (λ (found : Vec ℕ Global). found.items) (get_or_from_slice_get sets i v v e)

-- ---- one text more

kept_if : (b : Bool) (seen : List (List ℕ)) (text : List ℕ) → AreKept seen (if b then seen else seen ++ text ∷ [])
kept_if true seen text k h = (h, refl)
kept_if false seen text k h = (omega (arith, length_push seen text), get_or_append_left seen (text ∷ []) [] k h)

pub kept_with : (seen : List (List ℕ)) (text : List ℕ) → AreKept seen (with_text seen text)
kept_with seen text = kept_if (list_any (bytes_eq text) seen) seen text

pub kept_on : (a b c : List (List ℕ)) → AreKept a b → AreKept b c → AreKept a c
kept_on a b c first second k h = let one = first k h in let two = second k one.0 in (two.0, two.1 ∙ one.1)

grows_if : (b : Bool) (seen : List (List ℕ)) (text : List ℕ) → length (if b then seen else seen ++ text ∷ []) ≤ length seen + 1
grows_if true seen text = omega arith
grows_if false seen text = omega (arith, length_push seen text)

pub grows_with : (seen : List (List ℕ)) (text : List ℕ) → length (with_text seen text) ≤ length seen + 1
grows_with seen text = grows_if (list_any (bytes_eq text) seen) seen text

bytes_push : (seen : List (List ℕ)) (text : List ℕ) → bytes_in (seen ++ text ∷ []) ≡ bytes_in seen + length text
bytes_push [] text = omega arith
bytes_push (first ∷ seen) text = let rest = bytes_push seen text in omega (arith, rest)

bytes_if : (b : Bool) (seen : List (List ℕ)) (text : List ℕ) → bytes_in (if b then seen else seen ++ text ∷ []) ≤ bytes_in seen + length text
bytes_if true seen text = omega arith
bytes_if false seen text = omega (arith, bytes_push seen text)

pub bytes_with : (seen : List (List ℕ)) (text : List ℕ) → bytes_in (with_text seen text) ≤ bytes_in seen + length text
bytes_with seen text = bytes_if (list_any (bytes_eq text) seen) seen text

-- ---- one number more, which stands for the next text

pub numbered_more : (numbers : List ℕ) (old new : List (List ℕ)) (n : ℕ) → AreKept old new → AreNumbers (length old) numbers → n < length new → AreNumbers (length new) (numbers ++ n ∷ [])
numbered_more [] old new n kept valid below zero h = below
numbered_more [] old new n kept valid below (suc k) h = absurd (omega arith)
numbered_more (m ∷ ms) old new n kept valid below zero h = (kept m (valid 0 (omega arith))).0
numbered_more (m ∷ ms) old new n kept valid below (suc k) h = numbered_more ms old new n kept (λ j within. valid (suc j) (omega arith)) below k (omega arith)

texts_by_more : (numbers : List ℕ) (old new : List (List ℕ)) (n : ℕ) → AreKept old new → AreNumbers (length old) numbers
    → texts_by new (numbers ++ n ∷ []) ≡ texts_by old numbers ++ slice_index_or new n [] ∷ []
texts_by_more [] old new n kept valid = refl
texts_by_more (m ∷ ms) old new n kept valid = ap₂ (λ x xs. x ∷ xs) (kept m (valid 0 (omega arith))).1 (texts_by_more ms old new n kept (λ k h. valid (suc k) (omega arith)))

-- its text goes from what is left to what is done
pub parted_more : (numbers : List ℕ) (old new : List (List ℕ)) (n : ℕ) (text : List ℕ) (others left members : List (List ℕ)) → AreKept old new → AreNumbers (length old) numbers
    → slice_index_or new n [] ≡ text → text ∷ others ≡ left → texts_by old numbers ++ left ≡ members → texts_by new (numbers ++ n ∷ []) ++ others ≡ members
parted_more numbers old new n text others left members kept valid here parted before =
    let done = texts_by old numbers in
    ap (λ xs. xs ++ others) (texts_by_more numbers old new n kept valid)
    ∙ append_assoc done (slice_index_or new n [] ∷ []) others
    ∙ ap (λ t. done ++ t ∷ others) here ∙ ap (λ xs. done ++ xs) parted ∙ before

-- the bytes of what is left
pub bytes_left : (done left : List (List ℕ)) → bytes_in left ≤ bytes_in (done ++ left)
bytes_left [] left = omega arith
bytes_left (text ∷ done) left = let rest = bytes_left done left in omega (arith, rest)

-- ---- one set more

with_if : (P : List ℕ → Type 0) (b : Bool) (seen : List (List ℕ)) (text : List ℕ) → ((k : ℕ) → k < length seen → P (slice_index_or seen k [])) → P text
    → (k : ℕ) → k < length (if b then seen else seen ++ text ∷ []) → P (slice_index_or (if b then seen else seen ++ text ∷ []) k [])
with_if P true seen text each one k h = each k h
with_if P false seen text each one k h = elim (cases_lt k (length seen)) [
  | inl below ↦ subst P (sym (get_or_append_left seen (text ∷ []) [] k below)) (each k below)
  | inr past ↦
      let last : length seen ≡ k = omega (arith, length_push seen text) in
      subst (λ i. P (slice_index_or (seen ++ text ∷ []) i [])) last (subst P (sym (get_or-append_seam seen text [] [])) one)
]

-- what holds of each and of one more
pub all_with : (P : List ℕ → Type 0) (seen : List (List ℕ)) (text : List ℕ) → ((k : ℕ) → k < length seen → P (slice_index_or seen k [])) → P text
    → (k : ℕ) → k < length (with_text seen text) → P (slice_index_or (with_text seen text) k [])
all_with P seen text = with_if P (list_any (bytes_eq text) seen) seen text

pub by_kept : (old new : List (List ℕ)) (numbers : List ℕ) → AreKept old new → AreNumbers (length old) numbers → texts_by new numbers ≡ texts_by old numbers
by_kept old new [] kept valid = refl
by_kept old new (n ∷ ns) kept valid = ap₂ (λ x xs. x ∷ xs) (kept n (valid 0 (omega arith))).1 (by_kept old new ns kept (λ k h. valid (suc k) (omega arith)))

-- texts and sets with those of one set more
pub codes_with : (old new sets : List (List ℕ)) (numbers : List ℕ) → AreKept old new → AreTexts new → AreNumbers (length new) numbers → IsSet (texts_by new numbers) → AreSetCodes old sets → AreSetCodes new (with_text sets numbers)
codes_with old new sets numbers kept texts valid is held = record {
  each_text = texts;
  numbers = all_with (AreNumbers (length new)) sets numbers (λ k h j within. (kept (slice_index (slice_index_or sets k []) j) (held.numbers k h j within)).0) valid;
  each = all_with (λ ns. IsSet (texts_by new ns)) sets numbers (λ k h. subst IsSet (sym (by_kept old new (slice_index_or sets k []) kept (held.numbers k h))) (held.each k h)) is;
}

-- one cell more that was coded
pub set_coded_more : (cells : List (Option Value)) (codes more : List ℕ) (texts new sets others : List (List ℕ)) (i code : ℕ)
    → length codes ≡ i → more ≡ codes ++ code ∷ [] → AreKept texts new → AreKept sets others → ((k : ℕ) → k < length sets → AreNumbers (length texts) (slice_index_or sets k []))
    → ((value : Value) → slice_index_or cells i None ≡ Some value → (code < length others) × (value ≡ values.Set (texts_by new (slice_index_or others code []))))
    → ((k : ℕ) → k < i → (value : Value) → slice_index_or cells k None ≡ Some value
    → (slice_index codes k < length sets) × (value ≡ values.Set (texts_by texts (slice_index_or sets (slice_index codes k) []))))
    → (k : ℕ) → k < i + 1 → (value : Value) → slice_index_or cells k None ≡ Some value
    → (slice_index more k < length others) × (value ≡ values.Set (texts_by new (slice_index_or others (slice_index more k) [])))
set_coded_more cells codes more texts new sets others i code len made kept stay valid here before =
    below_more (λ k. (value : Value) → slice_index_or cells k None ≡ Some value → (slice_index more k < length others) × (value ≡ values.Set (texts_by new (slice_index_or others (slice_index more k) [])))) i
    (λ k h value e.
    let was = before k h value e in
    let c = slice_index codes k in
    let stays = stay c was.0 in
    let same : slice_index more k ≡ c = ap (λ xs. slice_index xs k) made ∙ get_or_append_left codes (code ∷ []) 0 k (omega arith) in (
      subst (λ n. n < length others) (sym same) stays.0,
      was.1 ∙ ap values.Set (sym (by_kept texts new (slice_index_or sets c []) kept (valid c was.0)) ∙ ap (texts_by new) (sym stays.1) ∙ ap (λ n. texts_by new (slice_index_or others n [])) (sym same)),
    ))
    (λ value e.
    let is = here value e in
    let same : slice_index more i ≡ code = ap (λ xs. slice_index xs i) made ∙ ap (slice_index (codes ++ code ∷ [])) (sym len) ∙ get_or-append_seam codes code [] 0 in
    (subst (λ n. n < length others) (sym same) is.0, is.1 ∙ ap values.Set (ap (λ n. texts_by new (slice_index_or others n [])) (sym same))))

-- no texts and no sets
pub codes_none : AreSetCodes [] []
codes_none = record {
  each_text = λ k h. absurd (omega arith);
  numbers = λ k h. absurd (omega arith);
  each = λ k h. absurd (omega arith);
}
