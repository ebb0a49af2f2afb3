-- Columns that follow one another by name, and the tests of names.
use Rattle.std.proofs.Common.{◌≡◌, ℕ, zero, suc, ◌+◌, ◌-◌, ◌≤◌, ◌<◌, Bool, true, false, not, ◌&&◌, ◌||◌, List, [], ◌∷◌, length, take, drop, refl, sym, ap, subst, ◌∙◌, arith}
use Rattle.std.specs.Prelude.{slice_index_or}
use Rattle.std.specs.List.{list_any}
use Rattle.std.specs.List.Sorted.{IsSortedByKey}
use Rattle.std.specs.Str.{bytes_eq}
use Rattle.std.specs.Ordering.{is_gt, is_lt, ordering_reverse}
use Rattle.std.specs.declared.cmp.Ordering.{Ordering}
use Rattle.std.specs.declared.cmp.Ordering.TheVariants.{Less, Equal, Greater}
use Rattle.std.proofs.lemmas.Bool.{and_parts}
use Rattle.std.proofs.lemmas.Cmp.{nat_list_cmp_total}
use Rattle.std.proofs.lemmas.List.{take_all, drop_more, drop_all}
use Rattle.row_model.specs.Texts.{text_cmp}
use Rattle.row_model.specs.Names.{is_among, are_distinct}
use Rattle.region_layout.specs.declared.directory.Place.{Place}
use Rattle.region_layout.specs.declared.directory.TablePlaces.{TablePlaces}
use Rattle.region_layout.specs.Tests.{do_not_fall, places_are_named, table_names}

-- ---- one name after another, as a loop does

module _ (places : List Place) (last : List ℕ) (i : ℕ) where
  pub does_not_fall : (p : Place) → i < length places → p ≡ slice_index_or places i p → is_gt (text_cmp last p.name) ≡ false → do_not_fall last (drop i places) ≡ do_not_fall p.name (drop (i + 1) places)
  does_not_fall p within is up =
      let first : drop i places ≡ p ∷ drop (i + 1) places = drop_more places i p within ∙ ap (λ (q : Place). q ∷ drop (i + 1) places) (sym is) in
      ap (do_not_fall last) first ∙ ap (λ (b : Bool). not b && do_not_fall p.name (drop (i + 1) places)) up

  pub falls : (p : Place) → i < length places → p ≡ slice_index_or places i p → is_gt (text_cmp last p.name) ≡ true → do_not_fall last (drop i places) ≡ false
  falls p within is down =
      let first : drop i places ≡ p ∷ drop (i + 1) places = drop_more places i p within ∙ ap (λ (q : Place). q ∷ drop (i + 1) places) (sym is) in
      ap (do_not_fall last) first ∙ ap (λ (b : Bool). not b && do_not_fall p.name (drop (i + 1) places)) down

  pub none_is_left : length places ≤ i → do_not_fall last (drop i places) ≡ true
  none_is_left all = ap (do_not_fall last) (drop_all i places all)

-- ---- what the test says

-- no name falls
abbrev pub InOrder : List Place → Type 0
InOrder places = IsSortedByKey (λ (p : Place). p.name) text_cmp places

not_below : (a b : List ℕ) → not (is_gt (text_cmp a b)) ≡ true → is_lt (text_cmp b a) ≡ false
not_below a b e = ap is_lt (nat_list_cmp_total.antisymm b a) ∙ by (text_cmp a b) e
  where
    by : (o : Ordering) → not (is_gt o) ≡ true → is_lt (ordering_reverse o) ≡ false
    by Less e = refl
    by Equal e = refl
    by Greater e = absurd cc

not_above : (a b : List ℕ) → is_lt (text_cmp b a) ≡ false → not (is_gt (text_cmp a b)) ≡ true
not_above a b e = by (text_cmp a b) (sym (ap is_lt (nat_list_cmp_total.antisymm b a)) ∙ e)
  where
    by : (o : Ordering) → is_lt (ordering_reverse o) ≡ false → not (is_gt o) ≡ true
    by Less e = refl
    by Equal e = refl
    by Greater e = absurd cc

pub none_in_order : InOrder []
none_in_order k d low within = absurd (omega (arith, within))

pub one_in_order : (p : Place) → InOrder (p ∷ [])
one_in_order p k d low within = absurd (omega (arith, within))

pub more_in_order : (p q : Place) (rest : List Place) → not (is_gt (text_cmp p.name q.name)) ≡ true → InOrder (q ∷ rest) → InOrder (p ∷ q ∷ rest)
more_in_order p q rest up others zero d low within = not_below p.name q.name up
more_in_order p q rest up others (suc k) d low within =
    let next : k + 1 < length (q ∷ rest) = omega (arith, within) in
    let one : suc (k + 1) ≡ suc k + 1 = omega arith in
    subst (λ (n : ℕ). is_lt (text_cmp (slice_index_or (p ∷ q ∷ rest) n d).name (slice_index_or (q ∷ rest) k d).name) ≡ false) one (others k d (omega arith) next)

behind_in_order : (p : Place) (rest : List Place) → InOrder (p ∷ rest) → InOrder rest
behind_in_order p rest up k d low within =
    let next : suc k + 1 < length (p ∷ rest) = omega (arith, within) in
    let one : suc k + 1 ≡ suc (k + 1) = omega arith in
    subst (λ (n : ℕ). is_lt (text_cmp (slice_index_or (p ∷ rest) n d).name (slice_index_or rest k d).name) ≡ false) one (up (suc k) d (omega arith) next)

order_behind : (p : Place) (rest : List Place) → do_not_fall p.name rest ≡ true → InOrder (p ∷ rest)
order_behind p [] e = one_in_order p
order_behind p (q ∷ rest) e =
    let both = and_parts (not (is_gt (text_cmp p.name q.name))) (do_not_fall q.name rest) e in
    more_in_order p q rest both.0 (order_behind q rest both.1)

pub order_from : (places : List Place) → do_not_fall [] places ≡ true → InOrder places
order_from [] e = none_in_order
order_from (p ∷ rest) e = order_behind p rest (and_parts (not (is_gt (text_cmp [] p.name))) (do_not_fall p.name rest) e).1

behind_again : (p : Place) (rest : List Place) → InOrder (p ∷ rest) → do_not_fall p.name rest ≡ true
behind_again p [] up = refl
behind_again p (q ∷ rest) up =
    let first : is_lt (text_cmp q.name p.name) ≡ false = up 0 p (omega arith) (omega arith) in
    ap (λ (b : Bool). b && do_not_fall q.name rest) (not_above p.name q.name first) ∙ behind_again q rest (behind_in_order p (q ∷ rest) up)

least : (name : List ℕ) → not (is_gt (text_cmp [] name)) ≡ true
least [] = refl
least (b ∷ name) = refl

pub order_again : (places : List Place) → InOrder places → do_not_fall [] places ≡ true
order_again [] up = refl
order_again (p ∷ rest) up = ap (λ (b : Bool). b && do_not_fall p.name rest) (least p.name) ∙ behind_again p rest up

-- ---- distinct names

among_names : (name : List ℕ) (tables : List TablePlaces) → list_any (places_are_named name) tables ≡ is_among (table_names tables) name
among_names name [] = refl
among_names name (t ∷ tables) = ap (λ b. bytes_eq t.name name || b) (among_names name tables)

-- the tables behind the first
abbrev behind : List TablePlaces → List TablePlaces
behind tables = take (length tables - 1) (drop 1 tables)

by_first : (tables : List TablePlaces) (first : TablePlaces) (name : List ℕ) → 0 < length tables → first ≡ slice_index_or tables 0 first → name ≡ first.name
    → are_distinct (table_names tables) ≡ (not (list_any (places_are_named name) (behind tables)) && are_distinct (table_names (behind tables)))
by_first [] first name some is same = absurd (omega (arith, some))
by_first (t ∷ ts) first name some is same =
    let all : take (length (t ∷ ts) - 1) ts ≡ ts = take_all (length (t ∷ ts) - 1) ts (omega arith) in
    rw (all, same, is, among_names t.name ts) refl

pub first_alone : (tables : List TablePlaces) (first : TablePlaces) (name : List ℕ) → 0 < length tables → first ≡ slice_index_or tables 0 first → name ≡ first.name
    → list_any (places_are_named name) (behind tables) ≡ false → are_distinct (table_names (behind tables)) ≡ are_distinct (table_names tables)
first_alone tables first name some is same alone = sym (by_first tables first name some is same ∙ ap (λ b. not b && are_distinct (table_names (behind tables))) alone)

pub first_again : (tables : List TablePlaces) (first : TablePlaces) (name : List ℕ) → 0 < length tables → first ≡ slice_index_or tables 0 first → name ≡ first.name
    → list_any (places_are_named name) (behind tables) ≡ true → false ≡ are_distinct (table_names tables)
first_again tables first name some is same again = sym (by_first tables first name some is same ∙ ap (λ b. not b && are_distinct (table_names (behind tables))) again)
