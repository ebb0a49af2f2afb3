-- What is seen of rows: the cells of a row fill in what nothing was seen of.
use Rattle.std.proofs.Common.{◌≡◌, ℕ, ℤ, zero, suc, ◌+◌, ◌-◌, ◌<◌, ◌≤◌, Bool, true, false, is_some, if◌then◌else◌, List, [], ◌∷◌, length, take, drop, ◌++◌, map, option_map, slice_index_or, slice_set, Option, Some, None, refl, sym, ap, subst, ◌∙◌, arith}
use Rattle.std.specs.Str.{bytes_eq}
use Rattle.row_model.specs.declared.rows.Value.{Value}
use Rattle.row_model.specs.declared.rows.Cell.{Cell}
use Rattle.row_model.specs.declared.rows.Row.{Row}
use Rattle.leaf_model.specs.declared.looks.Sought.{Sought}
use Rattle.leaf_model.specs.declared.looks.Sought.TheVariants as sought
use Rattle.leaf_model.specs.Groups.{cell_value}
use Rattle.leaf_model.specs.Looks.{looks_begun, begun_one, filled, filled_from, filled_one, is_sought, sought_in}
use Rattle.leaf_model.specs.Fronts.{any_cell_at, any_cells_at, front_of}
use Rattle.leaf_model.specs.declared.lent_cells.LentValue.{LentValue}
use Rattle.leaf_model.specs.Lent.{each_value, lent_value}
use Rattle.leaf_model.specs.Reading.{◌>>=◌, name_at, value_at}
use Rattle.leaf_model.proofs.Fields.{bind_some, some_is}
use Rattle.leaf_model.proofs.LentLaws.{cells_open}

-- without cells nothing is filled in
one_kept : (s : Sought) (v : Option Value) → filled_one s v [] ≡ v
one_kept s None = refl
one_kept s (Some value) = refl

pub all_kept : (all : List Sought) (values : List (Option Value)) → length values ≡ length all → filled all values [] ≡ values
all_kept [] [] same = refl
all_kept [] (v ∷ vs) same = absurd (omega (arith, same))
all_kept (s ∷ ss) [] same = absurd (omega (arith, same))
all_kept (s ∷ ss) (v ∷ vs) same = ap (λ (w : Option Value). w ∷ filled ss vs []) (one_kept s v) ∙ ap (λ (ws : List (Option Value)). v ∷ ws) (all_kept ss vs (omega (arith, same)))

-- with all cells of a row, what was begun is what the row has
one_seen : (time : ℤ) (s : Sought) (cells : List Cell) → filled_one s (begun_one time s) cells ≡ sought_in (record { time = time; cells = cells }) s
one_seen time sought.Time cells = refl
one_seen time (sought.Cell other) [] = refl
one_seen time (sought.Cell other) (c ∷ cs) = by (bytes_eq other.now c.name) (one_seen time (sought.Cell other) cs)
  where
    by : (b : Bool) → filled_one (sought.Cell other) None cs ≡ cell_value other.now cs → (if b then Some c.value else filled_one (sought.Cell other) None cs) ≡ (if b then Some c.value else cell_value other.now cs)
    by true e = refl
    by false e = e

pub all_seen : (row : Row) (all : List Sought) → filled all (looks_begun row.time all) row.cells ≡ map (sought_in row) all
all_seen row [] = refl
all_seen row (s ∷ ss) = ap (λ (w : Option Value). w ∷ filled ss (looks_begun row.time ss) row.cells) (one_seen row.time s row.cells) ∙ ap (λ (ws : List (Option Value)). sought_in row s ∷ ws) (all_seen row ss)

-- one cell more of those at the front of bytes
pub next_cell : (count i : ℕ) (rest : List ℕ) (c : Cell) (after : List ℕ) → i < count → is_some (any_cells_at (count - i) rest) ≡ true → any_cell_at rest ≡ Some (c, after)
    → front_of (any_cells_at (count - i) rest) ≡ c ∷ front_of (any_cells_at (count - (i + 1)) after)
next_cell count i rest c after lt some e =
    let less : count - i - 1 ≡ count - (i + 1) = omega arith in
    (cells_open (count - i) rest c after (omega (arith, lt)) some e).front ∙ ap (λ (n : ℕ). c ∷ front_of (any_cells_at n after)) less

pub no_cells : (seen : List (Option LentValue)) (all : List Sought) → length seen ≡ length all → length (each_value seen) ≡ length all
no_cells [] all same = same
no_cells (v ∷ vs) [] same = absurd (omega (arith, same))
no_cells (v ∷ vs) (s ∷ ss) same = ap suc (no_cells vs ss (omega (arith, same)))

-- one more of those that are looked for was filled in
pub put_seen : (all : List Sought) (items : List (Option LentValue)) (i : ℕ) (s : Sought) (old new : Option LentValue) (c : Cell) (others : List Cell) → i < length all → length items ≡ length all
    → slice_index_or items i old ≡ old
    → filled_one (slice_index_or all i s) (option_map lent_value new) others ≡ filled_one (slice_index_or all i s) (option_map lent_value old) (c ∷ others)
    → filled (take (i + 1) all) (each_value (take (i + 1) (slice_set items i new))) others ++ filled (drop (i + 1) all) (each_value (drop (i + 1) (slice_set items i new))) (c ∷ others)
    ≡ filled (take i all) (each_value (take i items)) others ++ filled (drop i all) (each_value (drop i items)) (c ∷ others)
put_seen all items i s old new c others lt same at e =
    let more : suc i ≡ i + 1 = omega arith in
    subst (λ (j : ℕ). filled (take j all) (each_value (take j (slice_set items i new))) others ++ filled (drop j all) (each_value (drop j (slice_set items i new))) (c ∷ others)
    ≡ filled (take i all) (each_value (take i items)) others ++ filled (drop i all) (each_value (drop i items)) (c ∷ others)) more (put all items i lt same (e ∙ ap (λ (v : Option LentValue). filled_one (slice_index_or all i s) (option_map lent_value v) (c ∷ others)) (sym at)))
  where
    put : (all : List Sought) (items : List (Option LentValue)) (i : ℕ) → i < length all → length items ≡ length all
        → filled_one (slice_index_or all i s) (option_map lent_value new) others ≡ filled_one (slice_index_or all i s) (option_map lent_value (slice_index_or items i old)) (c ∷ others)
        → filled (take (suc i) all) (each_value (take (suc i) (slice_set items i new))) others ++ filled (drop (suc i) all) (each_value (drop (suc i) (slice_set items i new))) (c ∷ others)
        ≡ filled (take i all) (each_value (take i items)) others ++ filled (drop i all) (each_value (drop i items)) (c ∷ others)
    put [] items i lt same e = absurd (omega (arith, lt))
    put (t ∷ ts) [] i lt same e = absurd (omega (arith, same))
    put (t ∷ ts) (v ∷ vs) zero lt same e = ap (λ (w : Option Value). w ∷ filled ts (each_value vs) (c ∷ others)) e
    put (t ∷ ts) (v ∷ vs) (suc i) lt same e = ap (λ (ws : List (Option Value)). filled_one t (option_map lent_value v) others ∷ ws) (put ts vs i (omega (arith, lt)) (omega (arith, same)) e)

-- the same, where its definition is not looked through
pub put_from : (all : List Sought) (items : List (Option LentValue)) (i : ℕ) (s : Sought) (old new : Option LentValue) (c : Cell) (others : List Cell) → i < length all → length items ≡ length all
    → slice_index_or items i old ≡ old
    → filled_one (slice_index_or all i s) (option_map lent_value new) others ≡ filled_one (slice_index_or all i s) (option_map lent_value old) (c ∷ others)
    → filled_from all (slice_set items i new) (i + 1) c others ≡ filled_from all items i c others
put_from all items i s old new c others lt same at e = put_seen all items i s old new c others lt same at e

-- a place where another name is looked for is passed
one_other : (s : Sought) (v : Option Value) (c : Cell) (others : List Cell) → is_sought s c.name ≡ false → filled_one s v others ≡ filled_one s v (c ∷ others)
one_other s (Some value) c others e = refl
one_other s None c others e = sym (ap (λ (b : Bool). if b then Some c.value else filled_one s None others) e)

pub one_passed : (all : List Sought) (items : List (Option LentValue)) (i : ℕ) (s : Sought) (c : Cell) (others : List Cell) → i < length all → length items ≡ length all
    → is_sought (slice_index_or all i s) c.name ≡ false
    → filled_from all items (i + 1) c others ≡ filled_from all items i c others
one_passed all items i s c others lt same e =
    let more : suc i ≡ i + 1 = omega arith in
    subst (λ (j : ℕ). filled_from all items j c others ≡ filled_from all items i c others) more (pass all items i lt same e)
  where
    pass : (all : List Sought) (items : List (Option LentValue)) (i : ℕ) → i < length all → length items ≡ length all → is_sought (slice_index_or all i s) c.name ≡ false
        → filled_from all items (suc i) c others ≡ filled_from all items i c others
    pass [] items i lt same e = absurd (omega (arith, lt))
    pass (t ∷ ts) [] i lt same e = absurd (omega (arith, same))
    pass (t ∷ ts) (v ∷ vs) zero lt same e = ap (λ (w : Option Value). w ∷ filled ts (each_value vs) (c ∷ others)) (one_other t (option_map lent_value v) c others e)
    pass (t ∷ ts) (v ∷ vs) (suc i) lt same e = ap (λ (ws : List (Option Value)). filled_one t (option_map lent_value v) others ∷ ws) (pass ts vs i (omega (arith, lt)) (omega (arith, same)) e)

-- behind the last place all have had the cell
pub all_passed : (all : List Sought) (items : List (Option LentValue)) (i : ℕ) (c : Cell) (others : List Cell) → length all ≤ i → length items ≡ length all
    → filled_from all items i c others ≡ filled all (each_value items) others
all_passed [] [] zero c others le same = refl
all_passed [] [] (suc i) c others le same = refl
all_passed [] (v ∷ vs) i c others le same = absurd (omega (arith, same))
all_passed (t ∷ ts) [] i c others le same = absurd (omega (arith, same))
all_passed (t ∷ ts) (v ∷ vs) zero c others le same = absurd (omega (arith, le))
all_passed (t ∷ ts) (v ∷ vs) (suc i) c others le same = ap (λ (ws : List (Option Value)). filled_one t (option_map lent_value v) others ∷ ws) (all_passed ts vs i c others (omega (arith, le)) (omega (arith, same)))

-- a cell is its name and its value
cell_parts : (bytes name after : List ℕ) → name_at bytes ≡ Some (name, after) → (x : Cell × List ℕ) → any_cell_at bytes ≡ Some x
    → (v : Value × List ℕ) × (value_at after ≡ Some v) × ((record { name = name; value = v.0 }, v.1) ≡ x)
unfolding any_cell_at
cell_parts bytes name after at x whole =
    let here : any_cell_at bytes ≡ (value_at after >>= λ value. Some (record { name = name; value = value.0 }, value.1)) = ap (λ (r : Option (List ℕ × List ℕ)). r >>= λ n. value_at n.1 >>= λ value. Some (record { name = n.0; value = value.0 }, value.1)) at in
    let b = bind_some (value_at after) (λ value. Some (record { name = name; value = value.0 }, value.1)) x (sym here ∙ whole) in
    (b.0, b.1, some_is (record { name = name; value = b.0.0 }, b.0.1) x b.2)

-- a cell was looked at, where its value was for its name
pub cell_looked : (bytes name after rest : List ℕ) (all : List Sought) (old new : List (Option Value)) (behind : Value → List Cell → List (Option Value)) → name_at bytes ≡ Some (name, after)
    → ((v : Value × List ℕ) → value_at after ≡ Some v → (rest ≡ v.1) × ((others : List Cell) → filled all new others ≡ behind v.0 others))
    → ((value : Value) (others : List Cell) → behind value others ≡ filled all old (record { name = name; value = value } ∷ others))
    → (x : Cell × List ℕ) → any_cell_at bytes ≡ Some x → (rest ≡ x.1) × ((others : List Cell) → filled all new others ≡ filled all old (x.0 ∷ others))
cell_looked bytes name after rest all old new behind at looked passed x e =
    let parts = cell_parts bytes name after at x e in
    let here = looked parts.0 parts.1 in
    subst (λ (y : Cell × List ℕ). (rest ≡ y.1) × ((others : List Cell) → filled all new others ≡ filled all old (y.0 ∷ others))) parts.2 (here.0, λ others. here.1 others ∙ passed parts.0.0 others)

-- its value was passed over, since no place is left where its name is looked for
pub value_passed : (after rest : List ℕ) (value : Value) (name : List ℕ) (all : List Sought) (items : List (Option LentValue)) (i : ℕ) → value_at after ≡ Some (value, rest) → length all ≤ i → length items ≡ length all
    → (v : Value × List ℕ) → value_at after ≡ Some v → (rest ≡ v.1) × ((others : List Cell) → filled all (each_value items) others ≡ filled_from all items i (record { name = name; value = v.0 }) others)
value_passed after rest value name all items i at none same v e = (ap (λ (w : Value × List ℕ). w.1) (some_is (value, rest) v (sym at ∙ e)), λ others. sym (all_passed all items i (record { name = name; value = v.0 }) others none same))

-- what follows it by another name
pub cell_there : (r : Option (Cell × List ℕ)) (x : Cell × List ℕ) (after : List ℕ) → r ≡ Some x → after ≡ x.1 → r ≡ Some (x.0, after)
cell_there r x after e same = e ∙ ap (λ (w : List ℕ). Some (x.0, w)) (sym same)
