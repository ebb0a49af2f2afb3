-- The bytes of a dictionary that are written for texts.
use Rattle.std.proofs.Common.{◌≡◌, ℕ, zero, suc, ◌+◌, ◌*◌, ◌<◌, ◌≤◌, ◌^◌, List, [], ◌∷◌, ◌++◌, length, take, drop, slice_index_or, slice_range, refl, sym, ap, ap₂, subst, ◌∙◌, arith, append_assoc, append-nil, length-append}
use Rattle.std.proofs.lemmas.List.{take_all}
use Rattle.std.proofs.lemmas.List.FromFn.{fill_by_all}
use Rattle.std.proofs.Math.Seq.{drop-append_seam}
use Rattle.dictionaries.specs.Fields.{u32_at}
use Rattle.dictionaries.specs.Dictionary.{IsText, AreTexts, IsDictionary, text_count, text_from, text_at, texts_at}
use Rattle.column_bytes.specs.Coding.{joined, end_at}
use Rattle.column_bytes.proofs.Spelled.{u32_front, part_between}

pub joined_more : (texts : List (List ℕ)) (i : ℕ) → i < length texts → joined (take (i + 1) texts) ≡ joined (take i texts) ++ slice_index_or texts i []
joined_more [] i h = absurd (omega arith)
joined_more (text ∷ texts) zero h = append-nil text
joined_more (text ∷ texts) (suc i) h =
    let e : suc i + 1 ≡ suc (i + 1) = omega arith in
    ap (λ n. joined (take n (text ∷ texts))) e
    ∙ ap (λ xs. text ++ xs) (joined_more texts i (omega arith))
    ∙ sym (append_assoc text (joined (take i texts)) (slice_index_or texts i []))

pub end_more : (texts : List (List ℕ)) (i : ℕ) → i < length texts → end_at texts (i + 1) ≡ end_at texts i + length (slice_index_or texts i [])
end_more texts i h = ap length (joined_more texts i h) ∙ length-append (joined (take i texts)) (slice_index_or texts i [])

joined_split : (texts : List (List ℕ)) (i : ℕ) → joined texts ≡ joined (take i texts) ++ joined (drop i texts)
joined_split texts zero = refl
joined_split [] (suc i) = refl
joined_split (text ∷ texts) (suc i) = ap (λ xs. text ++ xs) (joined_split texts i) ∙ sym (append_assoc text (joined (take i texts)) (joined (drop i texts)))

pub end_upto : (texts : List (List ℕ)) (k : ℕ) → end_at texts k ≤ length (joined texts)
end_upto texts k = let whole = ap length (joined_split texts k) ∙ length-append (joined (take k texts)) (joined (drop k texts)) in omega (arith, whole)

joined_part : (texts : List (List ℕ)) (k : ℕ) → k < length texts → slice_range (joined texts) (end_at texts k) (end_at texts (k + 1)) ≡ slice_index_or texts k []
joined_part texts k h =
    let text = slice_index_or texts k [] in
    let rest = joined (drop (k + 1) texts) in
    ap (λ xs. slice_range xs (end_at texts k) (end_at texts (k + 1))) (joined_split texts (k + 1) ∙ ap (λ xs. xs ++ rest) (joined_more texts k h))
    ∙ part_between (joined (take k texts)) text rest (end_at texts k) (end_at texts (k + 1)) refl (sym (end_more texts k h))

pub end_small : (texts : List (List ℕ)) → AreTexts texts → (k : ℕ) → k ≤ length texts → end_at texts k ≤ 65535 * k
end_small texts are zero h = omega arith
end_small texts are (suc k) h =
    let before = end_small texts are k (omega arith) in
    let short = (are k (omega arith)).short in
    let e : k + 1 ≡ suc k = omega arith in
    let more = ap (end_at texts) (sym e) ∙ end_more texts k (omega arith) in
    omega (arith, before, short, more)

-- so few texts have fewer bytes than 2^32
pub joined_small : (texts : List (List ℕ)) → AreTexts texts → length texts ≤ 65536 → length (joined texts) < 4294967296
joined_small texts are few =
    let most = end_small texts are (length texts) (omega arith) in
    let all : end_at texts (length texts) ≡ length (joined texts) = ap (λ ts. length (joined ts)) (take_all (length texts) texts (omega arith)) in
    omega (arith, most, all, few)

-- ends and texts that were written are a dictionary of these texts
pub record IsMade (bytes : List ℕ) (texts : List (List ℕ)) : Type 0 where
  pub is : IsDictionary bytes
  pub same : texts_at bytes ≡ texts
  pub small : length bytes ≤ 2 ^ 33

pub made : (texts : List (List ℕ)) (front bytes : List ℕ) → length texts ≤ 67108864 → length (joined texts) < 4294967296 → AreTexts texts → length front ≡ 4 + 4 * length texts → u32_at front 0 ≡ length texts
    → ((k : ℕ) → k < length texts → u32_at front (4 + 4 * k) ≡ end_at texts (k + 1)) → bytes ≡ front ++ joined texts → IsMade bytes texts
made texts front bytes few most are len counted ends spelled =
    let n = length texts in
    let count : text_count bytes ≡ n = ap (λ b. u32_at b 0) spelled ∙ u32_front front (joined texts) 0 (omega arith) ∙ counted in
    let after : (k : ℕ) → k < n → text_from bytes (suc k) ≡ end_at texts (k + 1)
    = λ k h. ap (λ b. u32_at b (4 + 4 * k)) spelled ∙ u32_front front (joined texts) (4 + 4 * k) (omega arith) ∙ ends k h in
    let before : (k : ℕ) → k ≤ n → text_from bytes k ≡ end_at texts k = from_at texts bytes after in
    let all : end_at texts n ≡ length (joined texts) = ap (λ ts. length (joined ts)) (take_all n texts (omega arith)) in
    let behind : drop (4 + 4 * text_count bytes) bytes ≡ joined texts
    = ap₂ drop (ap (λ m. 4 + 4 * m) count ∙ sym len) spelled ∙ drop-append_seam front (joined texts) in
    let text : (k : ℕ) → k < n → text_at bytes k ≡ slice_index_or texts k []
    = λ k h. ap (λ b. slice_range b (text_from bytes k) (text_from bytes (suc k))) behind
    ∙ ap₂ (slice_range (joined texts)) (before k (omega arith)) (after k h) ∙ joined_part texts k h in
    let last = before n (omega arith) in
    let long = ap length spelled ∙ length-append front (joined texts) in
    record {
      is = record {
        ends = record {
          counted = omega (arith, long, len);
          whole = ap (λ m. 4 + 4 * m + text_from bytes m) count ∙ omega (arith, last, all, long, len);
          rising = λ k h.
              let within : k < n = omega (arith, count) in
              omega (arith, before k (omega arith), after k within, end_more texts k within);
        };
        texts = λ k h. let within : k < n = omega (arith, count) in subst IsText (sym (text k within)) (are k within);
      };
      same = sym (fill_by_all (text_at bytes) texts (text_count bytes) [] (sym count) (λ k h. sym (text k (omega (arith, count)))));
      small = omega (arith, long, len, all, most);
    }
  where
    from_at : (ts : List (List ℕ)) (b : List ℕ) → ((k : ℕ) → k < length ts → text_from b (suc k) ≡ end_at ts (k + 1)) → (k : ℕ) → k ≤ length ts → text_from b k ≡ end_at ts k
    from_at ts b each zero h = refl
    from_at ts b each (suc k) h = let e : k + 1 ≡ suc k = omega arith in each k (omega arith) ∙ ap (end_at ts) e
