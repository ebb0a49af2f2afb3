-- The set that is read of an array, against what the array holds.
use Rattle.std.proofs.Common.{◌≡◌, ℕ, suc, ◌≤◌, Bool, true, false, ◌||◌, List, [], ◌∷◌, length, Option, Some, None, option_and_then, unwrap_or, nat_lt, if◌then◌else◌, bytes_eq, Ordering, Less, Equal, Greater, is_eq, refl, sym, ap, ap₂, subst, ◌∙◌, arith}
use Rattle.std.proofs.lemmas.Bool.{lt-ltb, le-ltb, ltb-false}
use Rattle.std.proofs.lemmas.Cmp.{nat_list_cmp_total}
use Rattle.std.proofs.lemmas.Map.Lookups.{btree_set_from_contains, exact_bytes}
use Rattle.std.proofs.lemmas.Map.Text.{is_eq-slice_cmp}
use Rattle.std.specs.BTreeSet.{BTreeSet, insert_key}
use Rattle.std.specs.List.{AllByRecursion, list_any}
use Rattle.std.specs.List.Sorted.{IsStrictlySortedBy}
use Rattle.std.specs.Ordering.{match_ordering, ordering_reverse}
use Rattle.std.specs.BTreeMap.{is_at}
use Rattle.serde_json.specs.Data.{Data, null, boolean, number, string, array, object, Items, no_items, item}
use Rattle.row_model.specs.declared.rows.Value.{Value}
use Rattle.row_model.specs.declared.rows.Value.TheVariants.{Set}
use Rattle.row_model.specs.Texts.{text_cmp}
use Rattle.row_model.specs.Names.{is_among}
use Rattle.row_model.specs.Values.{bytes_in}
use Rattle.row_json.specs.Row.{item_count, set_of, texts_with, value_of}
use Rattle.row_json.specs.Meaning.{AreTexts, HoldsValue, IsSetValue}
use Rattle.row_json.proofs.Found.{found_none}

-- ---- a text put among texts

or_again : (b r : Bool) → (b || r) ≡ (b || (b || r))
or_again true r = refl
or_again false r = refl

or_swap : (a b r : Bool) → (a || (b || r)) ≡ (b || (a || r))
or_swap true true r = refl
or_swap true false r = refl
or_swap false true r = refl
or_swap false false r = refl

or_move : (a b c : Bool) → ((a || b) || c) ≡ (b || (a || c))
or_move true true c = refl
or_move true false c = refl
or_move false true c = refl
or_move false false c = refl

or_none : (a : Bool) → a ≡ (a || false)
or_none true = refl
or_none false = refl

among_by : (o : Ordering) (x : List ℕ) (xs : List (List ℕ)) (k t : List ℕ) → text_cmp k x ≡ o → is_among (insert_key text_cmp xs k) t ≡ (bytes_eq k t || is_among xs t)
    → is_among (match_ordering o (k ∷ x ∷ xs) (x ∷ xs) (x ∷ insert_key text_cmp xs k)) t ≡ (bytes_eq k t || (bytes_eq x t || is_among xs t))
among_by Less x xs k t is rest = refl
among_by Equal x xs k t is rest = or_again (bytes_eq x t) (is_among xs t) ∙ ap (λ n. bytes_eq n t || (bytes_eq x t || is_among xs t)) (sym (exact_bytes k x is))
among_by Greater x xs k t is rest = ap (λ b. bytes_eq x t || b) rest ∙ or_swap (bytes_eq x t) (bytes_eq k t) (is_among xs t)

among_put : (xs : List (List ℕ)) (k t : List ℕ) → is_among (insert_key text_cmp xs k) t ≡ (bytes_eq k t || is_among xs t)
among_put [] k t = refl
among_put (x ∷ xs) k t = among_by (text_cmp k x) x xs k t refl (among_put xs k t)

all_above : (k x : List ℕ) (ys : List (List ℕ)) → text_cmp k x ≡ Less → AllByRecursion (λ y. text_cmp x y ≡ Less) ys → AllByRecursion (λ y. text_cmp k y ≡ Less) ys
all_above k x [] h all = tt
all_above k x (y ∷ ys) h all = (nat_list_cmp_total.trans k x y h all.0, all_above k x ys h all.1)

all_by : (P : List ℕ → Type 0) (o : Ordering) (x : List ℕ) (xs : List (List ℕ)) (k : List ℕ) → AllByRecursion P (x ∷ xs) → P k → AllByRecursion P (insert_key text_cmp xs k)
    → AllByRecursion P (match_ordering o (k ∷ x ∷ xs) (x ∷ xs) (x ∷ insert_key text_cmp xs k))
all_by P Less x xs k all one rest = (one, all)
all_by P Equal x xs k all one rest = all
all_by P Greater x xs k all one rest = (all.0, rest)

all_put : (P : List ℕ → Type 0) (xs : List (List ℕ)) (k : List ℕ) → AllByRecursion P xs → P k → AllByRecursion P (insert_key text_cmp xs k)
all_put P [] k all one = (one, tt)
all_put P (x ∷ xs) k all one = all_by P (text_cmp k x) x xs k all one (all_put P xs k all.1 one)

sorted_by : (o : Ordering) (x : List ℕ) (xs : List (List ℕ)) (k : List ℕ) → text_cmp k x ≡ o → IsStrictlySortedBy text_cmp (x ∷ xs) → IsStrictlySortedBy text_cmp (insert_key text_cmp xs k)
    → IsStrictlySortedBy text_cmp (match_ordering o (k ∷ x ∷ xs) (x ∷ xs) (x ∷ insert_key text_cmp xs k))
unfolding IsStrictlySortedBy
sorted_by Less x xs k is all rest = ((is, all_above k x xs is all.0), all)
sorted_by Equal x xs k is all rest = all
sorted_by Greater x xs k is all rest = (all_put (λ y. text_cmp x y ≡ Less) xs k all.0 (nat_list_cmp_total.antisymm x k ∙ ap ordering_reverse is), rest)

sorted_put : (xs : List (List ℕ)) (k : List ℕ) → IsStrictlySortedBy text_cmp xs → IsStrictlySortedBy text_cmp (insert_key text_cmp xs k)
unfolding IsStrictlySortedBy
sorted_put [] k all = (tt, tt)
sorted_put (x ∷ xs) k all = sorted_by (text_cmp k x) x xs k refl all (sorted_put xs k all.1)

-- ---- the texts of an array

texts_same : (xs ys : List (List ℕ)) → Some xs ≡ Some ys → xs ≡ ys
texts_same xs ys h = ap (λ o. unwrap_or o xs) h

sorted_with : (seen : List (List ℕ)) (items : Items) (ts : List (List ℕ)) → texts_with seen items ≡ Some ts → IsStrictlySortedBy text_cmp seen → IsStrictlySortedBy text_cmp ts
sorted_with seen no_items ts h all = subst (IsStrictlySortedBy text_cmp) (texts_same seen ts h) all
sorted_with seen (item (string u) rest) ts h all = sorted_with (insert_key text_cmp seen u) rest ts h (sorted_put seen u all)
sorted_with seen (item null rest) ts h all = absurd (found_none ts h)
sorted_with seen (item (boolean b) rest) ts h all = absurd (found_none ts h)
sorted_with seen (item (number n) rest) ts h all = absurd (found_none ts h)
sorted_with seen (item (array xs) rest) ts h all = absurd (found_none ts h)
sorted_with seen (item (object m) rest) ts h all = absurd (found_none ts h)

among_with : (seen : List (List ℕ)) (items : Items) (ts texts : List (List ℕ)) (t : List ℕ) → texts_with seen items ≡ Some ts → AreTexts items texts → is_among ts t ≡ (is_among seen t || is_among texts t)
among_with seen no_items ts texts t h are = ap (λ xs. is_among xs t) (sym (texts_same seen ts h)) ∙ or_none (is_among seen t) ∙ ap (λ xs. is_among seen t || is_among xs t) (sym are)
among_with seen (item (string u) rest) ts texts t h are =
    among_with (insert_key text_cmp seen u) rest ts are.0 t h are.2
    ∙ ap (λ b. b || is_among are.0 t) (among_put seen u t)
    ∙ or_move (bytes_eq u t) (is_among seen t) (is_among are.0 t)
    ∙ ap (λ xs. is_among seen t || is_among xs t) (sym are.1)
among_with seen (item null rest) ts texts t h are = absurd are
among_with seen (item (boolean b) rest) ts texts t h are = absurd are
among_with seen (item (number n) rest) ts texts t h are = absurd are
among_with seen (item (array xs) rest) ts texts t h are = absurd are
among_with seen (item (object m) rest) ts texts t h are = absurd are

counted : (items : Items) (texts : List (List ℕ)) → AreTexts items texts → length texts ≡ item_count items
counted no_items texts are = ap length are
counted (item (string u) rest) texts are = ap length are.1 ∙ ap suc (counted rest are.0 are.2)
counted (item null rest) texts are = absurd are
counted (item (boolean b) rest) texts are = absurd are
counted (item (number n) rest) texts are = absurd are
counted (item (array xs) rest) texts are = absurd are
counted (item (object m) rest) texts are = absurd are

texts_there : (seen : List (List ℕ)) (items : Items) (ts : List (List ℕ)) → texts_with seen items ≡ Some ts → (texts : List (List ℕ)) × AreTexts items texts
texts_there seen no_items ts h = ([], refl)
texts_there seen (item (string u) rest) ts h = let found = texts_there (insert_key text_cmp seen u) rest ts h in (u ∷ found.0, (found.0, refl, found.1))
texts_there seen (item null rest) ts h = absurd (found_none ts h)
texts_there seen (item (boolean b) rest) ts h = absurd (found_none ts h)
texts_there seen (item (number n) rest) ts h = absurd (found_none ts h)
texts_there seen (item (array xs) rest) ts h = absurd (found_none ts h)
texts_there seen (item (object m) rest) ts h = absurd (found_none ts h)

texts_read : (seen : List (List ℕ)) (items : Items) (texts : List (List ℕ)) → AreTexts items texts → (ts : List (List ℕ)) × (texts_with seen items ≡ Some ts)
texts_read seen no_items texts are = (seen, refl)
texts_read seen (item (string u) rest) texts are = texts_read (insert_key text_cmp seen u) rest are.0 are.2
texts_read seen (item null rest) texts are = absurd are
texts_read seen (item (boolean b) rest) texts are = absurd are
texts_read seen (item (number n) rest) texts are = absurd are
texts_read seen (item (array xs) rest) texts are = absurd are
texts_read seen (item (object m) rest) texts are = absurd are

-- ---- texts in order with the same texts among them are one list

eq_reversed : (o : Ordering) → is_eq (ordering_reverse o) ≡ is_eq o
eq_reversed Less = refl
eq_reversed Equal = refl
eq_reversed Greater = refl

among_any : (xs : List (List ℕ)) (q : List ℕ) → list_any (is_at (text_cmp q)) xs ≡ is_among xs q
among_any [] q = refl
among_any (x ∷ xs) q = ap₂ (λ a b. a || b) (ap is_eq (nat_list_cmp_total.antisymm q x) ∙ eq_reversed (text_cmp x q) ∙ is_eq-slice_cmp x q) (among_any xs q)

only_list : (xs ys : List (List ℕ)) → IsStrictlySortedBy text_cmp xs → IsStrictlySortedBy text_cmp ys → ((t : List ℕ) → is_among xs t ≡ is_among ys t) → xs ≡ ys
only_list xs ys all every same =
    btree_set_from_contains nat_list_cmp_total (record { keys = xs }) (record { keys = ys }) all every (λ q. among_any xs q ∙ same q ∙ sym (among_any ys q)) exact_bytes

-- ---- the value

none_sorted : IsStrictlySortedBy text_cmp []
unfolding IsStrictlySortedBy
none_sorted = tt

held_by : (items : Items) (v : Value) (ts : List (List ℕ)) (b c : Bool) → texts_with [] items ≡ Some ts → nat_lt 1024 (item_count items) ≡ b → nat_lt 65535 (bytes_in ts) ≡ c
    → (if b || c then None else Some (Set ts)) ≡ Some v → HoldsValue (array items) v
held_by items v ts true c read many long h = absurd (found_none v h)
held_by items v ts false true read many long h = absurd (found_none v h)
held_by items v ts false false read many long h =
    let there = texts_there [] items ts read in
    subst (HoldsValue (array items)) (ap (λ o. unwrap_or o v) h) (record {
      items = items;
      is = refl;
      texts = there.0;
      are = there.1;
      few = omega (arith, ltb-false 1024 (item_count items) many, counted items there.0 there.1);
      ascending = sorted_with [] items ts read none_sorted;
      same = λ t. among_with [] items ts there.0 t read there.1;
      together = ltb-false 65535 (bytes_in ts) long;
    })

held_at : (items : Items) (v : Value) (o : Option (List (List ℕ))) → texts_with [] items ≡ o → option_and_then (set_of (item_count items)) o ≡ Some v → HoldsValue (array items) v
held_at items v None read h = absurd (found_none v h)
held_at items v (Some ts) read h = held_by items v ts (nat_lt 1024 (item_count items)) (nat_lt 65535 (bytes_in ts)) read refl refl h

pub set_held : (items : Items) (v : Value) → value_of (array items) ≡ Some v → HoldsValue (array items) v
set_held items v h = held_at items v (texts_with [] items) refl h

abbrev items_in : Data → Items
items_in (array items) = items
items_in other = no_items

pub held_set : (items : Items) (members : List (List ℕ)) → HoldsValue (array items) (Set members) → value_of (array items) ≡ Some (Set members)
held_set items members h =
    let are = subst (λ its. AreTexts its h.texts) (sym (ap items_in h.is)) h.are in
    let read = texts_read [] items h.texts are in
    let same = only_list read.0 members (sorted_with [] items read.0 read.1 none_sorted) h.ascending (λ t. among_with [] items read.0 h.texts t read.1 are ∙ sym (h.same t)) in
    let few : item_count items ≤ 1024 = omega (arith, h.few, counted items h.texts are) in
    ap (option_and_then (set_of (item_count items))) (read.1 ∙ ap Some same)
    ∙ rw (le-ltb 1024 (item_count items) few, le-ltb 65535 (bytes_in members) h.together) refl
