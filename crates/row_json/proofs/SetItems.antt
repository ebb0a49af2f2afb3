-- The texts of an array, and the keys of the set that they are put into.
use Rattle.std.proofs.Common.{◌≡◌, ℕ, suc, ◌+◌, ◌<◌, ◌≤◌, Bool, true, false, ◌||◌, List, [], ◌∷◌, ◌++◌, length, map, Option, Some, None, option_and_then, nat_lt, if◌then◌else◌, Ordering, Less, Equal, Greater, String, Global, string_bytes, string_cmp, refl, sym, ap, subst, ◌∙◌, arith, rules}
use Rattle.std.proofs.lemmas.Bool.{lt-ltb, le-ltb, ltb-false}
use Rattle.std.proofs.lemmas.Str.{IsUtf8-string_bytes}
use Rattle.std.specs.List.{AllByRecursion}
use Rattle.std.specs.List.Sorted.{IsStrictlySortedBy}
use Rattle.std.specs.Ordering.{match_ordering}
use Rattle.std.specs.Str.{IsUtf8}
use Rattle.std.specs.BTreeSet.{insert_key}
use Rattle.serde_json.specs.Data.{item, string}
use Rattle.serde_json.specs.View.{view, items_view}
use Rattle.serde_json.specs.declared.value.Value.{Value, the_lemmas}
use Rattle.serde_json.specs.declared.value.Value as Json
use Rattle.row_model.specs.declared.rows.Value.TheVariants.{Set}
use Rattle.row_model.specs.Texts.{text_cmp}
use Rattle.row_model.specs.Values.{IsSet, bytes_in}
use Rattle.row_json.specs.Row.{item_count, set_of, texts_with}

abbrev pub texts_of : List (String Global) → List (List ℕ)
texts_of keys = map string_bytes keys

by_order : (o : Ordering) (k x : String Global) (xs : List (String Global)) → texts_of (insert_key string_cmp xs k) ≡ insert_key text_cmp (texts_of xs) (string_bytes k)
    → texts_of (match_ordering o (k ∷ x ∷ xs) (x ∷ xs) (x ∷ insert_key string_cmp xs k))
    ≡ match_ordering o (string_bytes k ∷ string_bytes x ∷ texts_of xs) (string_bytes x ∷ texts_of xs) (string_bytes x ∷ insert_key text_cmp (texts_of xs) (string_bytes k))
by_order Less k x xs rest = refl
by_order Equal k x xs rest = refl
by_order Greater k x xs rest = ap (λ ts. string_bytes x ∷ ts) rest

-- a string put among others is a text put among texts
pub text_put : (keys : List (String Global)) (k : String Global) → texts_of (insert_key string_cmp keys k) ≡ insert_key text_cmp (texts_of keys) (string_bytes k)
text_put [] k = refl
text_put (x ∷ xs) k = by_order (string_cmp k x) k x xs (text_put xs k)

put_by : (o : Ordering) (k x : String Global) (xs : List (String Global)) → length (insert_key string_cmp xs k) ≤ suc (length xs)
    → length (match_ordering o (k ∷ x ∷ xs) (x ∷ xs) (x ∷ insert_key string_cmp xs k)) ≤ suc (suc (length xs))
put_by Less k x xs rest = omega arith
put_by Equal k x xs rest = omega arith
put_by Greater k x xs rest = omega (arith, rest)

-- which are one more at most
pub put_length : (keys : List (String Global)) (k : String Global) → length (insert_key string_cmp keys k) ≤ suc (length keys)
put_length [] k = omega arith
put_length (x ∷ xs) k = put_by (string_cmp k x) k x xs (put_length xs k)

pub count_items : (vs : List Value) → item_count (items_view vs) ≡ length vs
count_items [] = refl
count_items (v ∷ vs) = ap suc (count_items vs)

all_texts : (P : List ℕ → Type 0) (keys : List (String Global)) → AllByRecursion (λ k. P (string_bytes k)) keys → AllByRecursion P (texts_of keys)
all_texts P [] h = tt
all_texts P (k ∷ keys) h = (h.0, all_texts P keys h.1)

pub sorted_texts : (keys : List (String Global)) → IsStrictlySortedBy string_cmp keys → IsStrictlySortedBy text_cmp (texts_of keys)
unfolding IsStrictlySortedBy
sorted_texts [] h = tt
sorted_texts (k ∷ keys) h = (all_texts _ keys h.0, sorted_texts keys h.1)

pub utf8_texts : (keys : List (String Global)) → AllByRecursion IsUtf8 (texts_of keys)
utf8_texts [] = tt
utf8_texts (k ∷ keys) = (IsUtf8-string_bytes k, utf8_texts keys)

-- ---- the value

pub many_none : (n : ℕ) (o : Option (List (List ℕ))) → 1024 < n → option_and_then (set_of n) o ≡ None
many_none n None h = refl
many_none n (Some ts) h = rw (lt-ltb 1024 n h) refl

pub set_made : (n : ℕ) (ts : List (List ℕ)) → n ≤ 1024 → IsSet ts → set_of n ts ≡ Some (Set ts)
set_made n ts few is = rw (le-ltb 1024 n few, le-ltb 65535 (bytes_in ts) is.together) refl

refused_by : (b : Bool) (n : ℕ) (ts : List (List ℕ)) → nat_lt 65535 (bytes_in ts) ≡ b → n ≤ 1024 → (bytes_in ts ≤ 65535 → ⊥) → set_of n ts ≡ None
refused_by true n ts is few over = rw (le-ltb 1024 n few, is) refl
refused_by false n ts is few over = absurd (over (ltb-false 65535 (bytes_in ts) is))

pub set_refused : (n : ℕ) (keys : List (String Global)) → n ≤ 1024 → length (texts_of keys) ≤ n → IsStrictlySortedBy string_cmp keys → (IsSet (texts_of keys) → ⊥) → set_of n (texts_of keys) ≡ None
set_refused n keys few len ordered over =
    refused_by (nat_lt 65535 (bytes_in (texts_of keys))) n (texts_of keys) refl few
    (λ together. over (record { few = omega (arith, few, len); utf8 = utf8_texts keys; ascending = sorted_texts keys ordered; together = together }))

-- a string in front is put among the texts
pub texts_step : (ts : List (List ℕ)) (text : String Global) (vs : List Value) → texts_with ts (items_view (Json.String text ∷ vs)) ≡ texts_with (insert_key text_cmp ts (string_bytes text)) (items_view vs)
texts_step ts text vs =
    let seen : view (Json.String text) ≡ string (string_bytes text) = search (rules, the_lemmas) in
    ap (λ d. texts_with ts (item d (items_view vs))) seen
