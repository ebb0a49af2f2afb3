-- Where things end that stand one after another.
use Rattle.std.proofs.Common.{◌≡◌, ℕ, ◌+◌, ◌≤◌, ◌<◌, ◌^◌, cond, ltb, eqb, eq-eqb, List, [], ◌∷◌, ◌++◌, length, drop, Option, Some, None, refl, sym, ap, subst, ◌∙◌, arith}
use Rattle.std.specs.Prelude.{slice_index_or}
use Rattle.std.specs.List.{flat_map}
use Rattle.std.proofs.lemmas.Bool.{eqb-true, lt-ltb}
use Rattle.std.proofs.lemmas.List.{drop_more, drop_all}
use Rattle.std.proofs.lemmas.List.Concat.{flat_map-cons}
use Rattle.leaf_model.specs.Reading.{◌>>=◌}
use Rattle.leaf_model.proofs.Fields.{bind_some, held, some_is}
use Rattle.region_layout.specs.declared.directory.Place.{Place}
use Rattle.region_layout.specs.declared.directory.TablePlaces.{TablePlaces}
use Rattle.region_layout.specs.declared.directory.BlockPlaces.{BlockPlaces}
use Rattle.region_layout.specs.Directory.{Joined}
use Rattle.region_layout.specs.Tests.{end_by, end_of_place, end_of_block, end_of_table}

-- ---- as a loop does

module _ {A : Type 0} (step : ℕ → A → Option ℕ) (xs : List A) (at i : ℕ) where
  first_left : (x : A) → i < length xs → x ≡ slice_index_or xs i x → drop i xs ≡ x ∷ drop (i + 1) xs
  first_left x within is = drop_more xs i x within ∙ ap (λ (y : A). y ∷ drop (i + 1) xs) (sym is)

  pub goes_on : (x : A) (next : ℕ) → i < length xs → x ≡ slice_index_or xs i x → step at x ≡ Some next → end_by step at (drop i xs) ≡ end_by step next (drop (i + 1) xs)
  goes_on x next within is stepped = ap (end_by step at) (first_left x within is) ∙ ap (λ (r : Option ℕ). r >>= λ n. end_by step n (drop (i + 1) xs)) stepped

  pub breaks : (x : A) → i < length xs → x ≡ slice_index_or xs i x → step at x ≡ None → end_by step at (drop i xs) ≡ None
  breaks x within is stepped = ap (end_by step at) (first_left x within is) ∙ ap (λ (r : Option ℕ). r >>= λ n. end_by step n (drop (i + 1) xs)) stepped

  pub is_done : length xs ≤ i → end_by step at (drop i xs) ≡ Some at
  is_done all = ap (end_by step at) (drop_all i xs all)

-- ---- lists of lists

bind_more : (r : Option ℕ) (f g h : ℕ → Option ℕ) → ((n : ℕ) → f n ≡ (g n >>= h)) → (r >>= f) ≡ ((r >>= g) >>= h)
bind_more (Some n) f g h each = each n
bind_more None f g h each = refl

end_append : {A : Type 0} (step : ℕ → A → Option ℕ) (from : ℕ) (xs ys : List A) → end_by step from (xs ++ ys) ≡ (end_by step from xs >>= λ mid. end_by step mid ys)
end_append step from [] ys = refl
end_append step from (x ∷ xs) ys =
    bind_more (step from x) (λ next. end_by step next (xs ++ ys)) (λ next. end_by step next xs) (λ mid. end_by step mid ys) (λ next. end_append step next xs ys)

bind_same : (r s : Option ℕ) (f g : ℕ → Option ℕ) → r ≡ s → ((n : ℕ) → f n ≡ g n) → (r >>= f) ≡ (s >>= g)
bind_same r s f g same each = ap (λ (o : Option ℕ). o >>= f) same ∙ by s
  where
    by : (o : Option ℕ) → (o >>= f) ≡ (o >>= g)
    by (Some n) = each n
    by None = refl

nested : {A B : Type 0} (step : ℕ → B → Option ℕ) (outer : ℕ → A → Option ℕ) (parts : A → List B) → ((at : ℕ) (x : A) → outer at x ≡ end_by step at (parts x))
    → (from : ℕ) (xs : List A) → end_by outer from xs ≡ end_by step from (flat_map parts xs)
nested step outer parts each from [] = refl
nested step outer parts each from (x ∷ xs) =
    bind_same (outer from x) (end_by step from (parts x)) (λ next. end_by outer next xs) (λ next. end_by step next (flat_map parts xs)) (each from x) (λ next. nested step outer parts each next xs)
    ∙ sym (end_append step from (parts x) (flat_map parts xs))
    ∙ ap (end_by step from) (sym (flat_map-cons parts x xs))

-- the columns of a table, in their order
abbrev pub table_columns : TablePlaces → List Place
table_columns t = flat_map (λ (b : BlockPlaces). b.columns) t.blocks

table_end : (from : ℕ) (t : TablePlaces) → end_of_table from t ≡ end_by end_of_place from (table_columns t)
table_end from t = nested end_of_place end_of_block (λ (b : BlockPlaces). b.columns) (λ at b. refl) from t.blocks

-- the end of tables is that of all their columns
pub tables_end : (from : ℕ) (tables : List TablePlaces) → end_by end_of_table from tables ≡ end_by end_of_place from (flat_map table_columns tables)
tables_end from tables = nested end_of_place end_of_table table_columns table_end from tables

-- ---- columns that are joined

pub joined_from : (from to : ℕ) (places : List Place) → end_by end_of_place from places ≡ Some to → Joined from places to
joined_from from to [] e = some_is from to e
joined_from from to (p ∷ rest) e =
    let a = bind_some (end_of_place from p) (λ next. end_by end_of_place next rest) to e in
    let g = held (eqb p.place from) (cond (ltb (from + p.length) (2 ^ 64)) (Some (from + p.length)) None) a.0 a.1 in
    let h = held (ltb (from + p.length) (2 ^ 64)) (Some (from + p.length)) a.0 g.1 in
    (eqb-true p.place from g.0, subst (λ (n : ℕ). Joined n rest to) (sym (some_is (from + p.length) a.0 h.1)) (joined_from a.0 to rest a.2))

pub joined_up : (from to : ℕ) (places : List Place) → Joined from places to → from ≤ to
joined_up from to [] joined = omega (arith, joined)
joined_up from to (p ∷ rest) joined = omega (arith, joined_up (from + p.length) to rest joined.1)

place_end : (from : ℕ) (p : Place) → p.place ≡ from → from + p.length < 2 ^ 64 → end_of_place from p ≡ Some (from + p.length)
place_end from p here low =
    ap (λ b. cond b (cond (ltb (from + p.length) (2 ^ 64)) (Some (from + p.length)) None) None) (eq-eqb p.place from here)
    ∙ ap (λ b. cond b (Some (from + p.length)) None) (lt-ltb (from + p.length) (2 ^ 64) low)

pub joined_again : (from to : ℕ) (places : List Place) → Joined from places to → to < 2 ^ 64 → end_by end_of_place from places ≡ Some to
joined_again from to [] joined low = ap (λ (n : ℕ). Some n) joined
joined_again from to (p ∷ rest) joined low =
    let up = joined_up (from + p.length) to rest joined.1 in
    ap (λ (r : Option ℕ). r >>= λ next. end_by end_of_place next rest) (place_end from p joined.0 (omega (arith, up, low)))
    ∙ joined_again (from + p.length) to rest joined.1 low
