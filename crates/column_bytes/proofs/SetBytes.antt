-- The bytes of a dictionary that are written for sets.
use Rattle.std.proofs.Common.{◌≡◌, ℕ, zero, suc, ◌+◌, ◌-◌, ◌*◌, ◌<◌, ◌≤◌, ◌^◌, List, [], ◌∷◌, ◌++◌, length, take, drop, slice_index, slice_index_or, refl, sym, ap, ap₂, subst, ◌∙◌, inl, inr, arith, append_assoc, append-nil, length-append}
use Rattle.std.proofs.lemmas.Bool.{cases_lt}
use Rattle.std.proofs.lemmas.List.{get_or_append_left, get_or-append-add, length-map, get_or-map, take_all, take_more}
use Rattle.std.proofs.lemmas.List.FromFn.{fill_by_all, get_or-map-range_with_len, length-map-range_with_len}
use Rattle.std.proofs.Math.Seq.{drop-append_seam, take-append_seam}
use Rattle.byteorder.specs.Endian.{little_bytes, little_number}
use Rattle.row_model.specs.Values.{IsSet, bytes_in}
use Rattle.dictionaries.specs.Fields.{u32_at}
use Rattle.column_bytes.specs.Coding.{joined, end_at}
use Rattle.dictionaries.specs.Dictionary.{IsDictionary, text_count, text_from, texts_at, texts_by, texts_size}
use Rattle.dictionaries.specs.Sets.{AreNumbered, AreNumbers, AreSetCodes, AreSetEnds, IsSetDictionary, member_at, number_bytes, set_at, set_in, sets_at, sets_by, sets_part, texts_part}
use Rattle.column_bytes.proofs.Distinct.{texts_by_each}
use Rattle.column_bytes.proofs.JoinedTexts.{end_more, end_upto}
use Rattle.dictionaries.proofs.Places.{length-texts}
use Rattle.column_bytes.proofs.Spelled.{length-little, u32_front, u32_written}

-- ---- numbers

pub length-numbers : (ns : List ℕ) → length (number_bytes ns) ≡ 4 * length ns
length-numbers [] = refl
length-numbers (n ∷ ns) = let rest = length-numbers ns in omega (arith, length-append (little_bytes 4 n) (number_bytes ns), length-little 4 n, rest)

pub numbers_both : (xs ys : List ℕ) → number_bytes (xs ++ ys) ≡ number_bytes xs ++ number_bytes ys
numbers_both [] ys = refl
numbers_both (x ∷ xs) ys = ap (λ b. little_bytes 4 x ++ b) (numbers_both xs ys) ∙ sym (append_assoc (little_bytes 4 x) (number_bytes xs) (number_bytes ys))

pub numbers_more : (out : List ℕ) (ns : List ℕ) (i : ℕ) → i < length ns → (out ++ number_bytes (take i ns)) ++ little_bytes 4 (slice_index ns i) ≡ out ++ number_bytes (take (i + 1) ns)
numbers_more out ns i within =
    append_assoc out (number_bytes (take i ns)) (little_bytes 4 (slice_index ns i))
    ∙ ap (λ b. out ++ b) (ap (λ b. number_bytes (take i ns) ++ b) (sym (append-nil (little_bytes 4 (slice_index ns i)))) ∙ sym (numbers_both (take i ns) (slice_index ns i ∷ [])) ∙ ap number_bytes (sym (take_more ns i 0 within)))

drop_behind : (xs ys : List ℕ) (at : ℕ) → drop (length xs + at) (xs ++ ys) ≡ drop at ys
drop_behind [] ys at = let e : 0 + at ≡ at = omega arith in ap (λ n. drop n ys) e
drop_behind (x ∷ xs) ys at = let e : suc (length xs) + at ≡ suc (length xs + at) = omega arith in ap (λ n. drop n (x ∷ (xs ++ ys))) e ∙ drop_behind xs ys at

u32_behind : (xs ys : List ℕ) (at : ℕ) → u32_at (xs ++ ys) (length xs + at) ≡ u32_at ys at
unfolding u32_at
u32_behind xs ys at = ap (little_number 4) (drop_behind xs ys at)

number_at : (ns : List ℕ) (j : ℕ) → j < length ns → ((i : ℕ) → i < length ns → slice_index ns i < 2 ^ 32) → u32_at (number_bytes ns) (4 * j) ≡ slice_index ns j
number_at [] j h small = absurd (omega arith)
number_at (n ∷ ns) zero h small = u32_front (little_bytes 4 n) (number_bytes ns) 0 (omega (arith, length-little 4 n)) ∙ u32_written [] n 0 refl (small 0 (omega arith))
number_at (n ∷ ns) (suc j) h small =
    let e : 4 * suc j ≡ length (little_bytes 4 n) + 4 * j = omega (arith, length-little 4 n) in
    ap (u32_at (number_bytes (n ∷ ns))) e ∙ u32_behind (little_bytes 4 n) (number_bytes ns) (4 * j) ∙ number_at ns j (omega arith) (λ i k. small (suc i) (omega arith))

-- ---- members of all sets

joined_at : (sets : List (List ℕ)) (k i : ℕ) → k < length sets → i < length (slice_index_or sets k []) → slice_index (joined sets) (end_at sets k + i) ≡ slice_index (slice_index_or sets k []) i
joined_at [] k i h within = absurd (omega arith)
joined_at (s ∷ sets) zero i h within = let e : 0 + i ≡ i = omega arith in ap (slice_index (s ++ joined sets)) e ∙ get_or_append_left s (joined sets) 0 i within
joined_at (s ∷ sets) (suc k) i h within =
    let e : end_at (s ∷ sets) (suc k) + i ≡ length s + (end_at sets k + i) = omega (arith, length-append s (joined (take k sets))) in
    ap (slice_index (s ++ joined sets)) e ∙ get_or-append-add s (joined sets) (end_at sets k + i) 0 ∙ joined_at sets k i (omega arith) within

pub joined_below : (n : ℕ) (sets : List (List ℕ)) → ((k : ℕ) → k < length sets → AreNumbers n (slice_index_or sets k [])) → (j : ℕ) → j < length (joined sets) → slice_index (joined sets) j < n
joined_below n [] each j h = absurd (omega arith)
joined_below n (s ∷ sets) each j h = elim (cases_lt j (length s)) [
  | inl below ↦ subst (λ m. m < n) (sym (get_or_append_left s (joined sets) 0 j below)) (each 0 (omega arith) j below)
  | inr past ↦
      let e : j ≡ length s + (j - length s) = omega arith in
      subst (λ m. m < n) (sym (ap (slice_index (s ++ joined sets)) e ∙ get_or-append-add s (joined sets) (j - length s) 0))
      (joined_below n sets (λ k i. each (suc k) (omega arith)) (j - length s) (omega (arith, length-append s (joined sets), h)))
]

joined_few : (sets : List (List ℕ)) → ((k : ℕ) → k < length sets → length (slice_index_or sets k []) ≤ 1024) → length (joined sets) ≤ 1024 * length sets
joined_few [] each = omega arith
joined_few (s ∷ sets) each = let rest = joined_few sets (λ k h. each (suc k) (omega arith)) in let one = each 0 (omega arith) in omega (arith, length-append s (joined sets), rest, one)

pub members_few : (texts sets : List (List ℕ)) → AreSetCodes texts sets → length (joined sets) ≤ 1024 * length sets
members_few texts sets held = joined_few sets (λ k h. let few = (held.each k h).few in omega (arith, few, length-map (slice_index_or sets k []) (λ (code : ℕ). slice_index_or texts code [])))

pub bytes_joined : (texts : List (List ℕ)) → length (joined texts) ≡ bytes_in texts
bytes_joined [] = refl
bytes_joined (t ∷ texts) = let rest = bytes_joined texts in omega (arith, length-append t (joined texts), rest)

-- ---- the dictionary

pub record IsSetsMade (bytes : List ℕ) (texts sets : List (List ℕ)) : Type 0 where
  pub is : IsSetDictionary bytes
  pub same : sets_at bytes ≡ sets_by texts sets
  pub small : length bytes ≤ 2 ^ 40

module _ (texts sets : List (List ℕ)) (dict front : List ℕ) (dictionary : IsDictionary dict) (texts_are : texts_at dict ≡ texts) (small : length dict ≤ 2 ^ 33)
    (held : AreSetCodes texts sets) (few : length sets ≤ 65536) (few_texts : length texts ≤ 67108864)
    (len : length front ≡ 4 + 4 * length sets) (counted : u32_at front 0 ≡ length sets)
    (ends : (k : ℕ) → k < length sets → u32_at front (4 + 4 * k) ≡ end_at sets (k + 1)) where
  abbrev the_bytes : List ℕ
  the_bytes = dict ++ (front ++ number_bytes (joined sets))

  abbrev the_part : List ℕ
  the_part = front ++ number_bytes (joined sets)

  count : text_count the_part ≡ length sets
  count = u32_front front (number_bytes (joined sets)) 0 (omega (arith, len)) ∙ counted

  from : (k : ℕ) → k ≤ length sets → text_from the_part k ≡ end_at sets k
  from zero h = refl
  from (suc k) h = let e : k + 1 ≡ suc k = omega arith in u32_front front (number_bytes (joined sets)) (4 + 4 * k) (omega (arith, len)) ∙ ends k (omega arith) ∙ ap (end_at sets) e

  whole : end_at sets (length sets) ≡ length (joined sets)
  whole = ap (λ ts. length (joined ts)) (take_all (length sets) sets (omega arith))

  long : length the_part ≡ 4 + 4 * length sets + 4 * length (joined sets)
  long = omega (arith, length-append front (number_bytes (joined sets)), length-numbers (joined sets), len)

  last : text_from the_part (text_count the_part) ≡ length (joined sets)
  last = ap (text_from the_part) count ∙ from (length sets) (omega arith) ∙ whole

  below : (j : ℕ) → j < length (joined sets) → slice_index (joined sets) j < length texts
  below = joined_below (length texts) sets held.numbers

  member : (j : ℕ) → j < length (joined sets) → member_at the_part j ≡ slice_index (joined sets) j
  member j h =
      let e : 4 + 4 * text_count the_part + 4 * j ≡ length front + 4 * j = omega (arith, count, len) in
      ap (u32_at the_part) e ∙ u32_behind front (number_bytes (joined sets)) (4 * j) ∙ number_at (joined sets) j h (λ i k. let less = below i k in omega (arith, less, few_texts))

  are_ends : AreSetEnds the_part
  are_ends = record {
    counted = omega (arith, long);
    whole = omega (arith, long, last, count);
    rising = λ k h.
        let within : k < length sets = omega (arith, h, count) in
        let e : k + 1 ≡ suc k = omega arith in
        let more = ap (end_at sets) (sym e) ∙ end_more sets k within in
        omega (arith, from k (omega arith), from (suc k) (omega arith), more);
  }

  texts_count : text_count dict ≡ length texts
  texts_count = sym (length-texts dict) ∙ ap length texts_are

  numbered : AreNumbered dict the_part
  numbered = record {
    dictionary = dictionary;
    ends = are_ends;
    members = λ j h.
        let within : j < length (joined sets) = omega (arith, h, last) in
        let less = below j within in
        omega (arith, member j within, less, texts_count);
  }

  width : (k : ℕ) → k < length sets → text_from the_part (suc k) - text_from the_part k ≡ length (slice_index_or sets k [])
  width k within =
      let e : k + 1 ≡ suc k = omega arith in
      let more = ap (end_at sets) (sym e) ∙ end_more sets k within in
      omega (arith, from k (omega arith), from (suc k) (omega arith), more)

  set_is : (k : ℕ) → k < length sets → set_at texts the_part k ≡ texts_by texts (slice_index_or sets k [])
  set_is k within =
      let wide = width k within in
      let e : k + 1 ≡ suc k = omega arith in
      let more = ap (end_at sets) (sym e) ∙ end_more sets k within in
      let upto = end_upto sets (suc k) in
      let long_set : length (set_at texts the_part k) ≡ length (slice_index_or sets k []) = set_long k within in
      sym (texts_by_each texts (slice_index_or sets k []) (set_at texts the_part k) (sym long_set) (λ i h.
      let inside : i < length (slice_index_or sets k []) = omega (arith, h, long_set) in
      let there : end_at sets k + i < length (joined sets) = omega (arith, inside, more, upto) in
      let place : text_from the_part k + i ≡ end_at sets k + i = ap (λ (m : ℕ). m + i) (from k (omega arith)) in
      ap (λ m. slice_index_or texts m []) (sym (ap (member_at the_part) place ∙ member (end_at sets k + i) there ∙ joined_at sets k i within inside))
      ∙ sym (get_or-map-range_with_len (λ (j : ℕ). slice_index_or texts (member_at the_part j) []) (text_from the_part k) (text_from the_part (suc k) - text_from the_part k) i (text_from the_part k + i) [] (omega (arith, inside, wide)) (omega arith))))
    where
      set_long : (k : ℕ) → k < length sets → length (set_at texts the_part k) ≡ length (slice_index_or sets k [])
      set_long k within = length-map-range_with_len (λ (j : ℕ). slice_index_or texts (member_at the_part j) []) (text_from the_part k) (text_from the_part (suc k) - text_from the_part k) ∙ width k within

  from_dict : (k : ℕ) → 4 + 4 * k ≤ length dict → text_from the_bytes k ≡ text_from dict k
  from_dict zero h = refl
  from_dict (suc k) h = u32_front dict the_part (4 + 4 * k) (omega arith)

  size : texts_size the_bytes ≡ length dict
  size =
      let first : text_count the_bytes ≡ text_count dict = u32_front dict the_part 0 dictionary.ends.counted in
      let whole_dict = dictionary.ends.whole in
      let end = ap (text_from the_bytes) first ∙ from_dict (text_count dict) (omega (arith, whole_dict)) in
      omega (arith, first, whole_dict, end)

  front_is : texts_part the_bytes ≡ dict
  front_is = ap (λ m. take m the_bytes) size ∙ take-append_seam dict the_part

  behind_is : sets_part the_bytes ≡ the_part
  behind_is = ap (λ m. drop m the_bytes) size ∙ drop-append_seam dict the_part

  in_is : (k : ℕ) → k < length sets → set_in the_bytes k ≡ texts_by texts (slice_index_or sets k [])
  in_is k within = ap₂ (λ (t p : List ℕ). set_at (texts_at t) p k) front_is behind_is ∙ ap (λ ts. set_at ts the_part k) texts_are ∙ set_is k within

  sets_count : text_count (sets_part the_bytes) ≡ length sets
  sets_count = ap text_count behind_is ∙ count

  pub sets_made : IsSetsMade the_bytes texts sets
  sets_made = record {
    is = record {
      numbered = subst (λ t. AreNumbered t (sets_part the_bytes)) (sym front_is) (subst (AreNumbered dict) (sym behind_is) numbered);
      each = λ k h. let within : k < length sets = omega (arith, h, sets_count) in subst IsSet (sym (in_is k within)) (held.each k within);
    };
    same = sym (fill_by_all (set_in the_bytes) (sets_by texts sets) (text_count (sets_part the_bytes)) [] (length-map sets (texts_by texts) ∙ sym sets_count)
        (λ k h. let within : k < length sets = omega (arith, h, sets_count) in get_or-map (texts_by texts) sets k [] [] within ∙ sym (in_is k within)));
    small = let most = members_few texts sets held in omega (arith, length-append dict the_part, long, most, few, small);
  }
