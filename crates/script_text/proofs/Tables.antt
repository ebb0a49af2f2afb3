-- Names of tables, one after another.
use Rattle.std.proofs.Common.{◌≡◌, ◌<◌, ◌≤◌, ◌+◌, ◌&&◌, ◌||◌, ◌++◌, ℕ, List, [], ◌∷◌, length, refl, sym, ◌∙◌, arith, Bool, true, false, not, subst, true≢false, ltb, leb, length-append}
use Rattle.std.proofs.lemmas.Bool.{and_parts, or_parts, not-true, false_from_ne_true}
use Rattle.std.proofs.lemmas.Bool.Decides.{nat_tests}
use Rattle.std.proofs.lemmas.List.Folds.{list_any-append, list_all-append}
use Rattle.std.proofs.lemmas.Slice.Eq.{bytes_eq-Decides}
use Rattle.std.specs.Char.{is_ascii_lowercase}
use Rattle.std.specs.List.{list_all, AllByRecursion}
use Rattle.std.specs.Str.{bytes_eq}
use Rattle.script_text.specs.Words.{are_tables, may_follow}
use Rattle.row_model.specs.Names.{is_table_name, is_name_byte, is_among, are_distinct}
use Rattle.leaf_model.proofs.Distinct.{distinct_names}
use Rattle.script_text.specs.Fits.{IsTableName, AreTables}
use Rattle.script_text.proofs.Names.{name_utf8}

-- what holds of 1 to 16 distinct names of tables
pub record Fit (names : List (List ℕ)) : Type 0 where
  pub some : 0 < length names
  pub few : length names ≤ 16
  pub each : list_all is_table_name names ≡ true
  pub distinct : are_distinct names ≡ true

pub fit : (names : List (List ℕ)) → are_tables names ≡ true → Fit names
fit names is =
    let a = and_parts (ltb 0 (length names) && leb (length names) 16 && list_all is_table_name names) (are_distinct names) is in
    let b = and_parts (ltb 0 (length names) && leb (length names) 16) (list_all is_table_name names) a.0 in
    let d = and_parts (ltb 0 (length names)) (leb (length names) 16) b.0 in
    let low : ltb 0 (length names) ≡ true = d.0 in
    let high : leb (length names) 16 ≡ true = d.1 in
    record { some = grind (arith, nat_tests, low); few = grind (arith, nat_tests, high); each = b.1; distinct = a.1 }

or_true : (b : Bool) → (b || true) ≡ true
or_true true = refl
or_true false = refl

-- a name again
again_by : (x : List ℕ) (xs : List (List ℕ)) (word : List ℕ) (rest : List (List ℕ)) (is : Bool) → bytes_eq x word ≡ is → (is_among xs word ≡ true → are_distinct (xs ++ word ∷ rest) ≡ true → ⊥) → is_among (x ∷ xs) word ≡ true → are_distinct (x ∷ xs ++ word ∷ rest) ≡ true → ⊥
again_by x xs word rest true is later among distinct =
    let same : x ≡ word = (bytes_eq-Decides x word).0 is in
    let none : is_among (xs ++ word ∷ rest) x ≡ false = not-true _ (and_parts (not (is_among (xs ++ word ∷ rest) x)) (are_distinct (xs ++ word ∷ rest)) distinct).0 in
    let here : bytes_eq word x ≡ true = (bytes_eq-Decides word x).1 (sym same) in
    let found : is_among (xs ++ word ∷ rest) x ≡ true = list_any-append (λ other. bytes_eq other x) xs (word ∷ rest) ∙ rw here (or_true (is_among xs x)) in
    true≢false (sym found ∙ none)
again_by x xs word rest false is later among distinct =
    let there : is_among xs word ≡ true = subst (λ b. (b || is_among xs word) ≡ true) is among in
    later there (and_parts (not (is_among (xs ++ word ∷ rest) x)) (are_distinct (xs ++ word ∷ rest)) distinct).1

pub distinct_again : (xs : List (List ℕ)) (word : List ℕ) (rest : List (List ℕ)) → is_among xs word ≡ true → are_distinct (xs ++ word ∷ rest) ≡ true → ⊥
distinct_again [] word rest among distinct = true≢false (sym among)
distinct_again (x ∷ xs) word rest among distinct = again_by x xs word rest (bytes_eq x word) refl (distinct_again xs word rest) among distinct

-- one more name
pub distinct_more : (xs : List (List ℕ)) (word : List ℕ) → are_distinct xs ≡ true → is_among xs word ≡ false → are_distinct (xs ++ word ∷ []) ≡ true
distinct_more [] word distinct new = refl
distinct_more (x ∷ xs) word distinct new =
    let parts = and_parts (not (is_among xs x)) (are_distinct xs) distinct in
    let news = or_parts (bytes_eq x word) (is_among xs word) new in
    let none : is_among xs x ≡ false = not-true _ parts.0 in
    let other : bytes_eq word x ≡ false = false_from_ne_true _ (λ is. true≢false (sym ((bytes_eq-Decides x word).1 (sym ((bytes_eq-Decides word x).0 is))) ∙ news.0)) in
    let still : is_among (xs ++ word ∷ []) x ≡ false = rw (list_any-append (λ other. bytes_eq other x) xs (word ∷ []), none, other) in
    rw (still, distinct_more xs word parts.1 news.1)

-- what may follow does
pub record Followed (names : List (List ℕ)) : Type 0 where
  pub few : length names ≤ 16
  pub each : list_all is_table_name names ≡ true
  pub distinct : are_distinct names ≡ true

pub followed : (names : List (List ℕ)) (word : List ℕ) → may_follow names word ≡ true → list_all is_table_name names ≡ true → are_distinct names ≡ true → Followed (names ++ word ∷ [])
followed names word may each distinct =
    let a = and_parts (ltb (length names) 16 && is_table_name word) (not (is_among names word)) may in
    let b = and_parts (ltb (length names) 16) (is_table_name word) a.0 in
    let short : ltb (length names) 16 ≡ true = b.0 in
    let longer : length (names ++ word ∷ []) ≡ length names + 1 = length-append names (word ∷ []) in
    record {
      few = grind (arith, nat_tests, short, longer);
      each = rw (list_all-append is_table_name names (word ∷ []), each, b.1);
      distinct = distinct_more names word distinct (not-true _ a.1);
    }

-- where a name may not follow, the whole is no list of tables
pub refused : (names : List (List ℕ)) (word : List ℕ) (rest words : List (List ℕ)) → names ++ word ∷ rest ≡ words → may_follow names word ≡ false → are_tables words ≡ false
refused names word rest words is refused_it = false_from_ne_true _ (λ are.
    let f = fit (names ++ word ∷ rest) (subst (λ ws. are_tables ws ≡ true) (sym is) are) in
    let long : length (names ++ word ∷ rest) ≡ length names + length (word ∷ rest) = length-append names (word ∷ rest) in
    let short : ltb (length names) 16 ≡ true = grind (arith, nat_tests, f.few, long) in
    let named : is_table_name word ≡ true = (and_parts _ _ (and_parts (list_all is_table_name names) (list_all is_table_name (word ∷ rest)) (sym (list_all-append is_table_name names (word ∷ rest)) ∙ f.each)).1).0 in
    let new : is_among names word ≡ false = false_from_ne_true _ (λ among. distinct_again names word rest among f.distinct) in
    let may : may_follow names word ≡ true = rw (short, named, new) in
    true≢false (sym may ∙ refused_it))

-- as types
name_short : (b : ℕ) (bs : List ℕ) → is_table_name (b ∷ bs) ≡ true → length bs ≤ 63
name_short b bs is =
    let high : leb (length bs) 63 ≡ true = (and_parts (leb (length bs) 63) (list_all is_name_byte bs) (and_parts (is_ascii_lowercase b) (leb (length bs) 63 && list_all is_name_byte bs) is).1).0 in
    grind (arith, nat_tests, high)

is_name : (name : List ℕ) → is_table_name name ≡ true → IsTableName name
is_name [] is = absurd (true≢false (sym is))
is_name (b ∷ bs) is = record { spelling = is; utf8 = name_utf8 (b ∷ bs) is; some = omega arith; short = omega (arith, name_short b bs is) }

are_names : (names : List (List ℕ)) → list_all is_table_name names ≡ true → AllByRecursion IsTableName names
are_names [] each = tt
are_names (name ∷ names) each =
    let parts = and_parts (is_table_name name) (list_all is_table_name names) each in
    (is_name name parts.0, are_names names parts.1)

pub are_tables-is : (names : List (List ℕ)) → 0 < length names → length names ≤ 16 → list_all is_table_name names ≡ true → are_distinct names ≡ true → AreTables names
are_tables-is names some few each distinct = record { some = some; few = few; names = are_names names each; distinct = distinct_names names distinct }
