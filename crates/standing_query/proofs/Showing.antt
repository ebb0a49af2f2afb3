-- The row that the keys of a spread show is alike to the row that has them.
use Rattle.std.proofs.Common.{◌≡◌, ℕ, Bool, true, false, ◌||◌, List, [], ◌∷◌, ◌++◌, map, Option, Some, None, refl, sym, ap, ◌∙◌}
use Rattle.std.specs.List.{AllByRecursion}
use Rattle.std.specs.Prelude.{bytes_eq, if◌then◌else◌}
use Rattle.std.proofs.lemmas.Slice.Eq.{bytes_eq-Decides}
use Rattle.row_model.specs.declared.rows.Value.{Value}
use Rattle.row_model.specs.declared.rows.Value.TheVariants as value
use Rattle.row_model.specs.declared.rows.Cell.{Cell}
use Rattle.row_model.specs.declared.rows.Row.{Row}
use Rattle.leaf_model.specs.declared.queries.Query.{Query}
use Rattle.leaf_model.specs.declared.groups.Key.{Key}
use Rattle.row_model.specs.Values.{time_name}
use Rattle.leaf_model.specs.Groups.{cell_value, key_of, keys_of, value_of}
use Rattle.standing_query.specs.Spread.{cell_under, cells_read, cells_shown, names_read, row_shown, spread, value_shown}
use Rattle.standing_query.proofs.Alike.{AreAlike, Same}
use Rattle.standing_query.specs.Names.{has}
use Rattle.standing_query.proofs.Names.{each_own, names_kept}

value_again : (v : Option Value) → value_shown (key_of v) ≡ v
value_again None = refl
value_again (Some (value.Int n)) = refl
value_again (Some (value.Text t)) = refl
value_again (Some (value.Set members)) = refl

-- the keys of a row under these names
abbrev under : Row → List (List ℕ) → List Key
under row names = map (λ name. key_of (value_of name row)) names

-- the cell of one name before others
cell_at : (n m : List ℕ) (v here : Option Value) (any : Bool) (others : List Cell) (x : Bool) → bytes_eq n m ≡ x → (x ≡ true → v ≡ here)
    → cell_value n others ≡ (if any then here else None) → cell_value n (cell_under m v ++ others) ≡ (if x || any then here else None)
cell_at n m None here true others true e same more = more
cell_at n m None here false others true e same more = more ∙ same refl
cell_at n m None here any others false e same more = more
cell_at n m (Some w) here any others true e same more = rw e (same refl)
cell_at n m (Some w) here any others false e same more = rw e more

-- the cells that are shown have what the row has, under these names alone
cells_are : (n : List ℕ) (row : Row) (names : List (List ℕ)) → cell_value n (cells_shown names (under row names)) ≡ (if has n names then value_of n row else None)
cells_are n row [] = refl
cells_are n row (m ∷ ms) =
    let v : Option Value = value_of m row in
    let others : List Cell = cells_shown ms (under row ms) in
    ap (λ (w : Option Value). cell_value n (cell_under m w ++ others)) (value_again v)
    ∙ cell_at n m v (value_of n row) (has n ms) others (bytes_eq n m) refl
    (λ is. ap (λ (j : List ℕ). value_of j row) (sym ((bytes_eq-Decides n m).0 is)))
    (cells_are n row ms)

-- the row that a row's keys show
abbrev pub shown_of : Query → Row → Row
shown_of q row = row_shown (cells_read q) (keys_of (spread q) row)

same_at : (q : Query) (row : Row) (n : List ℕ) (x : Bool) → bytes_eq n time_name ≡ x → has n (names_read q) ≡ true → Same (shown_of q row) row n
same_at q row n true e is = rw e refl
same_at q row n false e is =
    let there : has n (cells_read q) ≡ true = names_kept n (names_read q) e ∙ is in
    let cells : cell_value n (cells_shown (cells_read q) (under row (cells_read q))) ≡ value_of n row =
    cells_are n row (cells_read q) ∙ ap (λ (y : Bool). if y then value_of n row else None) there in
    not_time n (shown_of q row) e ∙ cells
  where
    not_time : (n : List ℕ) (r : Row) → bytes_eq n time_name ≡ false → value_of n r ≡ cell_value n r.cells
    not_time n r e = rw e refl

each_same : (q : Query) (row : Row) (names : List (List ℕ)) → AllByRecursion (λ n. has n (names_read q) ≡ true) names → AllByRecursion (Same (shown_of q row) row) names
each_same q row [] all = tt
each_same q row (n ∷ ns) all = (same_at q row n (bytes_eq n time_name) refl all.0, each_same q row ns all.1)

pub shown_alike : (q : Query) (row : Row) → AreAlike q (shown_of q row) row
shown_alike q row = record { time = refl; values = each_same q row (names_read q) (each_own (names_read q)) }
