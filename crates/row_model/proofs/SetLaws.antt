-- Texts that are a set, place by place.
use Rattle.std.proofs.Common.{◌≡◌, ℕ, suc, ◌+◌, ◌-◌, ◌<◌, ◌≤◌, List, [], ◌∷◌, ◌++◌, length, take, drop, slice_index_or, sym, ap, subst, ◌∙◌, arith}
use Rattle.std.specs.List.{AllByRecursion}
use Rattle.std.specs.Str.{IsUtf8}
use Rattle.std.specs.Ordering.{nat_cmp}
use Rattle.std.specs.Cmp.Lexicographic.{slice_cmp}
use Rattle.std.specs.declared.cmp.Ordering.TheVariants.{Less}
use Rattle.std.proofs.lemmas.Cmp.{nat_list_cmp_total}
use Rattle.std.proofs.lemmas.List.{take_more, take-append-drop}
use Rattle.std.proofs.lemmas.Map.Keys.{Less-from_sorted, sorted_from_all_adjacent}
use Rattle.row_model.specs.Values.{IsSet, bytes_in}
use Rattle.row_model.specs.Sets.{GoesUp}

each_utf8 : (ts : List (List ℕ)) → ((k : ℕ) → k < length ts → IsUtf8 (slice_index_or ts k [])) → AllByRecursion IsUtf8 ts
each_utf8 [] each = tt
each_utf8 (t ∷ ts) each = (each 0 (omega arith), each_utf8 ts (λ k h. each (suc k) (omega arith)))

pub set_is : (ts : List (List ℕ)) → length ts ≤ 1024 → ((k : ℕ) → k < length ts → IsUtf8 (slice_index_or ts k [])) → ((k : ℕ) → k < length ts → GoesUp ts k) → bytes_in ts ≤ 65535 → IsSet ts
set_is ts few utf8 up together = record {
  few = few;
  utf8 = each_utf8 ts utf8;
  ascending = sorted_from_all_adjacent nat_list_cmp_total ts [] (λ k h.
      let before : k + 1 - 1 ≡ k = omega arith in
      subst (λ (j : ℕ). slice_cmp nat_cmp (slice_index_or ts j []) (slice_index_or ts (k + 1) []) ≡ Less) before (up (k + 1) h (omega arith)));
  together = together;
}

pub set_goes_up : (ts : List (List ℕ)) (i : ℕ) → IsSet ts → i < length ts → GoesUp ts i
set_goes_up ts i is within some = Less-from_sorted (slice_cmp nat_cmp) ts (i - 1) i [] is.ascending (omega (arith, some)) within

bytes_both : (xs ys : List (List ℕ)) → bytes_in (xs ++ ys) ≡ bytes_in xs + bytes_in ys
bytes_both [] ys = omega arith
bytes_both (x ∷ xs) ys = let rest = bytes_both xs ys in omega (arith, rest)

pub bytes_more : (ts : List (List ℕ)) (i : ℕ) → i < length ts → bytes_in (take (i + 1) ts) ≡ bytes_in (take i ts) + length (slice_index_or ts i [])
bytes_more ts i within =
    let one = ap bytes_in (take_more ts i [] within) ∙ bytes_both (take i ts) (slice_index_or ts i [] ∷ []) in
    omega (arith, one)

pub bytes_upto : (ts : List (List ℕ)) (i : ℕ) → bytes_in (take i ts) ≤ bytes_in ts
bytes_upto ts i = let whole = sym (bytes_both (take i ts) (drop i ts)) ∙ ap bytes_in (take-append-drop i ts) in omega (arith, whole)
