-- What was seen of a row is what the definitions look up in it.
use Rattle.std.proofs.Common.{◌≡◌, ℕ, List, [], ◌∷◌, ◌++◌, length, take, drop, map, filter_map, ◌&&◌, Option, Some, None, option_map, option_and_then, option_to_list, refl, sym, ap, ◌∙◌, arith}
use Rattle.std.specs.List.{list_all}
use Rattle.std.proofs.lemmas.List.{append_assoc, length-map, map-append}
use Rattle.row_model.specs.declared.rows.Value.{Value}
use Rattle.row_model.specs.declared.rows.Row.{Row}
use Rattle.leaf_model.specs.declared.queries.Cond.{Cond}
use Rattle.leaf_model.specs.declared.queries.Agg.{Agg}
use Rattle.leaf_model.specs.declared.queries.Agg.TheVariants.{Count, Sum, Min, Max, Avg}
use Rattle.leaf_model.specs.declared.queries.Query.{Query}
use Rattle.leaf_model.specs.declared.lent_cells.LentValue.{LentValue}
use Rattle.leaf_model.specs.Groups.{agg_ints, as_int, cond_accepts, fold_of, key_of, keys_of, value_of}
use Rattle.leaf_model.specs.Lent.{each_value, lent_value}
use Rattle.group_table.specs.Reads.{agg_name, all_met, names_in, seen_fold, seen_folds, seen_key, values_in}

-- ---- conditions

pub conditions_met : (row : Row) (cs : List Cond) → all_met cs (map (λ (c : Cond). value_of c.name row) cs) ≡ list_all (λ (c : Cond). cond_accepts c (value_of c.name row)) cs
conditions_met row [] = refl
conditions_met row (c ∷ cs) = ap (λ rest. cond_accepts c (value_of c.name row) && rest) (conditions_met row cs)

-- ---- aggregates

one_mapped : {A B : Type 0} (f : A → Option B) (x : A) → option_to_list (f x) ≡ filter_map f (x ∷ [])
one_mapped {B = B} f x = by (f x) refl
  where
    by : (o : Option B) → f x ≡ o → option_to_list (f x) ≡ filter_map f (x ∷ [])
    by None e = rw e refl
    by (Some y) e = rw e refl

fold_is : (row : Row) (agg : Agg) → seen_fold agg (value_of (agg_name agg) row) ≡ fold_of (agg_ints agg (row ∷ []))
fold_is row Count = refl
fold_is row (Sum name) = ap fold_of (one_mapped (λ (r : Row). option_and_then as_int (value_of name r)) row)
fold_is row (Min name) = ap fold_of (one_mapped (λ (r : Row). option_and_then as_int (value_of name r)) row)
fold_is row (Max name) = ap fold_of (one_mapped (λ (r : Row). option_and_then as_int (value_of name r)) row)
fold_is row (Avg name) = ap fold_of (one_mapped (λ (r : Row). option_and_then as_int (value_of name r)) row)

pub folds_are : (row : Row) (aggs : List Agg) → seen_folds aggs (map (λ agg. value_of (agg_name agg) row) aggs) ≡ map (λ agg. fold_of (agg_ints agg (row ∷ []))) aggs
folds_are row [] = refl
folds_are row (a ∷ as_) = ap (λ f. f ∷ seen_folds as_ (map (λ agg. value_of (agg_name agg) row) as_)) (fold_is row a) ∙ ap (λ fs. fold_of (agg_ints a (row ∷ [])) ∷ fs) (folds_are row as_)

-- ---- the parts of what was seen

abbrev head_of : {A : Type 0} → A → List A → A
head_of d [] = d
head_of d (x ∷ xs) = x

abbrev tail_of : {A : Type 0} → List A → List A
tail_of [] = []
tail_of (x ∷ xs) = xs

-- the part that stands for the front of a list, and the part behind it
pub record Parts {A B : Type 0} (f : A → B) (n : ℕ) (xs : List A) (ys zs : List B) : Type 0 where
  pub front : map f (take n xs) ≡ ys
  pub back : map f (drop n xs) ≡ zs

pub parts_of : {A B : Type 0} (f : A → B) (xs : List A) (ys zs : List B) → map f xs ≡ ys ++ zs → Parts f (length ys) xs ys zs
parts_of f xs [] zs e = record { front = refl; back = e }
parts_of f [] (y ∷ ys) zs e = absurd (let long = ap length e in omega (arith, long))
parts_of f (x ∷ xs) (y ∷ ys) zs e =
    let rest = parts_of f xs ys zs (ap tail_of e) in
    record { front = ap (λ b. b ∷ map f (take (length ys) xs)) (ap (head_of y) e) ∙ ap (λ bs. y ∷ bs) rest.front; back = rest.back }

map_twice : {A B C : Type 0} (g : B → C) (f : A → B) (xs : List A) → map g (map f xs) ≡ map (λ x. g (f x)) xs
map_twice g f [] = refl
map_twice g f (x ∷ xs) = ap (λ rest. g (f x) ∷ rest) (map_twice g f xs)

-- what was seen for conditions, for keys, and for aggregates
pub record SeenParts (q : Query) (row : Row) (seen : List (Option LentValue)) : Type 0 where
  pub conds : each_value (take (length q.conds) seen) ≡ map (λ (c : Cond). value_of c.name row) q.conds
  pub keys : map seen_key (take (length q.keys) (drop (length q.conds) seen)) ≡ keys_of q row
  pub aggs : each_value (drop (length q.keys) (drop (length q.conds) seen)) ≡ map (λ agg. value_of (agg_name agg) row) q.aggs

pub seen_parts : (q : Query) (row : Row) (seen : List (Option LentValue)) → each_value seen ≡ values_in row (names_in q) → SeenParts q row seen
seen_parts q row seen e =
    let look = λ (name : List ℕ). value_of name row in
    let own = λ (v : Option LentValue). option_map lent_value v in
    let cs = map (λ (c : Cond). c.name) q.conds in
    let as_ = map agg_name q.aggs in
    let whole = e ∙ map-append look cs (q.keys ++ as_) ∙ ap (λ rest. map look cs ++ rest) (map-append look q.keys as_) in
    let first = parts_of own seen (map look cs) (map look q.keys ++ map look as_) whole in
    let many_conds : length (map look cs) ≡ length q.conds = length-map cs look ∙ length-map q.conds (λ (c : Cond). c.name) in
    let second = parts_of own (drop (length (map look cs)) seen) (map look q.keys) (map look as_) first.back in
    let many_keys : length (map look q.keys) ≡ length q.keys = length-map q.keys look in
    record {
      conds = rw (sym many_conds) (first.front ∙ map_twice look (λ (c : Cond). c.name) q.conds);
      keys = rw (sym many_conds, sym many_keys) (sym (map_twice key_of own (take (length (map look q.keys)) (drop (length (map look cs)) seen))) ∙ ap (map key_of) second.front ∙ map_twice key_of look q.keys);
      aggs = rw (sym many_conds, sym many_keys) (second.back ∙ map_twice look agg_name q.aggs);
    }

pub value_count : {A : Type 0} (f : A → Option Value) (xs : List A) (seen : List (Option LentValue)) → each_value seen ≡ map f xs → length seen ≡ length xs
value_count f xs seen e = sym (length-map seen (λ (v : Option LentValue). option_map lent_value v)) ∙ ap length e ∙ length-map xs f

-- what is looked for, part by part
pub names_three : (row : Row) (q : Query) (ws xs ys zs : List (Option Value)) → ws ≡ [] → xs ≡ ws ++ values_in row (map (λ (c : Cond). c.name) q.conds) → ys ≡ xs ++ values_in row q.keys
    → zs ≡ ys ++ values_in row (map agg_name q.aggs) → zs ≡ values_in row (names_in q)
names_three row q ws xs ys zs none first second third =
    let look = λ (name : List ℕ). value_of name row in
    let cs = map (λ (c : Cond). c.name) q.conds in
    let as_ = map agg_name q.aggs in
    let begun = first ∙ ap (λ l. l ++ map look cs) none in
    let so_far = second ∙ ap (λ l. l ++ map look q.keys) begun in
    third ∙ ap (λ l. l ++ map look as_) so_far ∙ append_assoc (map look cs) (map look q.keys) (map look as_)
    ∙ sym (map-append look cs (q.keys ++ as_) ∙ ap (λ rest. map look cs ++ rest) (map-append look q.keys as_))
