-- Of cells in the order of their headings, those at the front under one heading are a column, and what stands behind
-- them is left of the rows.
use Rattle.std.proofs.Common.{◌≡◌, ◌⊎◌, inl, inr, ℕ, zero, suc, ◌+◌, ◌-◌, ◌<◌, ◌≤◌, Bool, true, false, List, [], ◌∷◌, ◌++◌, length, map, take, drop, set, cond, slice_index_or, Option, Some, None, option_map, if◌then◌else◌, refl, sym, ap, subst, ◌∙◌, arith, eq-eqb, eqb-true}
use Rattle.std.specs.List.{All, AllByRecursion, filter, last_or, prefix_len}
use Rattle.std.specs.List.Sorted.{IsStrictlySortedBy}
use Rattle.std.specs.Cmp.Lexicographic.{slice_cmp}
use Rattle.std.specs.Ordering.{nat_cmp, is_eq, is_lt, ordering_reverse}
use Rattle.std.specs.declared.cmp.Ordering.{Ordering}
use Rattle.std.specs.declared.cmp.Ordering.TheVariants.{Less, Equal, Greater}
use Rattle.std.proofs.Math.Seq.{drop-cons}
use Rattle.std.proofs.lemmas.Bool.{cases_lt}
use Rattle.std.proofs.lemmas.Cmp.{tied_itself}
use Rattle.std.proofs.lemmas.List.{append-nil, get_or_past, get_or-set_other, get_or-set_same, get_or-map, length-drop, length-map, map-append, take-append-drop, take_all}
use Rattle.std.proofs.lemmas.List.Elements.{All-from_recursion, All-take, filter-append}
use Rattle.std.proofs.lemmas.List.Sums.{prefix_len-le-length}
use Rattle.row_model.specs.declared.rows.Value.{Value}
use Rattle.row_model.specs.declared.rows.Cell.{Cell}
use Rattle.leaf_model.specs.declared.lent_cells.LentValue.{LentValue}
use Rattle.leaf_model.specs.Lent.{each_value, lent_cell, lent_value}
use Rattle.column_bytes.specs.Coding.{AreOfKind}
use Rattle.row_blocks.specs.declared.runs.PlacedCell.{PlacedCell}
use Rattle.row_model.specs.declared.rows.Row.{Row}
use Rattle.row_model.specs.Values.{IsRow}
use Rattle.row_blocks.specs.declared.column.BlockColumn.{BlockColumn}
use Rattle.row_blocks.specs.Headings.{Heading, heading, heading_cmp, heading_of}
use Rattle.row_blocks.specs.Columns.{MeanCells, cells_in}
use Rattle.row_blocks.specs.Merging.{AreCells, AreTaken, BeginsWith, HoldCells, IsEarliest, IsNotBefore, front_value, rest_after}
use Rattle.row_blocks.specs.Places.{names_of}
use Rattle.row_blocks.specs.Runs.{AreLeft, HoldRests, Rise, comes_before, comes_under, is_at, last_value, row_cells}
use Rattle.row_blocks.proofs.Lent.{same_by_places}
use Rattle.row_blocks.proofs.Order.{exact_heading, heading_total}
use Rattle.row_blocks.proofs.Taking.{after_name, all_taken, fronts_are_of_kind, one_more_taken, rest_are}

abbrev pub cell_in : PlacedCell → Cell
cell_in p = lent_cell p.cell

abbrev pub heading_at : PlacedCell → Heading
heading_at p = heading_of (lent_cell p.cell)

-- ---- the cells of one row

pub row_cells-append : (i : ℕ) (ps qs : List PlacedCell) → row_cells i (ps ++ qs) ≡ row_cells i ps ++ row_cells i qs
row_cells-append i ps qs = ap (map cell_in) (filter-append (is_at i) ps qs) ∙ map-append cell_in (filter (is_at i) ps) (filter (is_at i) qs)

row_cells-front : (p : PlacedCell) (ps : List PlacedCell) → row_cells p.place (p ∷ ps) ≡ lent_cell p.cell ∷ row_cells p.place ps
row_cells-front p ps = ap (λ (b : Bool). map cell_in (cond b (p ∷ filter (is_at p.place) ps) (filter (is_at p.place) ps))) (eq-eqb p.place p.place refl)

pub each_cell : (P : Cell → Type 0) (i : ℕ) (ps : List PlacedCell) → AllByRecursion (λ (p : PlacedCell). P (lent_cell p.cell)) ps → AllByRecursion P (row_cells i ps)
each_cell P i [] all = tt
each_cell P i (p ∷ ps) all = by (is_at i p) (each_cell P i ps all.1)
  where
    by : (b : Bool) → AllByRecursion P (row_cells i ps) → AllByRecursion P (map cell_in (cond b (p ∷ filter (is_at i) ps) (filter (is_at i) ps)))
    by true others = (all.0, others)
    by false others = others

-- ---- their values are lent

last_or_push : {A : Type 0} (o : Option A) (xs : List A) (x : A) → last_or o (xs ++ x ∷ []) ≡ Some x
last_or_push o [] x = refl
last_or_push o (y ∷ xs) x = last_or_push (Some y) xs x

abbrev ValuesAre : List (Option LentValue) → List PlacedCell → ℕ → Type 0
ValuesAre values cells i = option_map lent_value (slice_index_or values i None) ≡ last_value (row_cells i cells)

pub one_more_lent : (values : List (Option LentValue)) (done all : List PlacedCell) (p : PlacedCell) (value : LentValue) → all ≡ done ++ p ∷ []
    → lent_value value ≡ (lent_cell p.cell).value → p.place < length values → (i : ℕ) → ValuesAre values done i → ValuesAre (set values p.place (Some value)) all i
one_more_lent values done all p value all_are value_is within i before = by (is_at i p) refl
  where
    here : option_map lent_value (slice_index_or (set values p.place (Some value)) p.place None) ≡ Some (lent_cell p.cell).value
    here = ap (option_map lent_value) (get_or-set_same values p.place (Some value) None within) ∙ ap (λ (v : Value). Some v) value_is

    more : row_cells i all ≡ row_cells i done ++ map cell_in (cond (is_at i p) (p ∷ []) [])
    more = ap (row_cells i) all_are ∙ row_cells-append i done (p ∷ [])

    by : (b : Bool) → is_at i p ≡ b → ValuesAre (set values p.place (Some value)) all i
    by true e =
        ap (λ (k : ℕ). option_map lent_value (slice_index_or (set values p.place (Some value)) k None)) (sym (eqb-true p.place i e)) ∙ here
        ∙ sym (last_or_push None (map (λ (c : Cell). c.value) (row_cells i done)) (lent_cell p.cell).value)
        ∙ ap (last_or None) (sym (map-append (λ (c : Cell). c.value) (row_cells i done) (lent_cell p.cell ∷ [])))
        ∙ ap last_value (ap (λ (b : Bool). row_cells i done ++ map cell_in (cond b (p ∷ []) [])) (sym e) ∙ sym more)
    by false e =
        ap (option_map lent_value) (get_or-set_other values p.place i (Some value) None (λ (same : i ≡ p.place). let both : true ≡ false = sym (eq-eqb p.place i (sym same)) ∙ e in absurd cc))
        ∙ before
        ∙ ap last_value (sym (append-nil (row_cells i done)) ∙ ap (λ (b : Bool). row_cells i done ++ map cell_in (cond b (p ∷ []) [])) (sym e) ∙ sym more)

-- ---- cells that rise

name_before : (p q : PlacedCell) → slice_cmp nat_cmp (lent_cell p.cell).name (lent_cell q.cell).name ≡ Less → comes_before q p ≡ false
name_before p q e = ap is_lt (heading_total.antisymm (heading_at q) (heading_at p) ∙ ap ordering_reverse (after_name (lent_cell p.cell) (lent_cell q.cell) e))

names_before : (p : PlacedCell) (ps : List PlacedCell) → AllByRecursion (λ (name : List ℕ). slice_cmp nat_cmp (lent_cell p.cell).name name ≡ Less) (names_of (map cell_in ps))
    → AllByRecursion (λ q. comes_before q p ≡ false) ps
names_before p [] up = tt
names_before p (q ∷ ps) up = (name_before p q up.0, names_before p ps up.1)

-- the cells of a row rise
pub row_rises : (ps : List PlacedCell) → IsStrictlySortedBy (slice_cmp nat_cmp) (names_of (map cell_in ps)) → Rise ps
unfolding IsStrictlySortedBy
row_rises [] sorted = tt
row_rises (p ∷ ps) sorted = (names_before p ps sorted.0, row_rises ps sorted.1)

pub rise_behind : (k : ℕ) (ps : List PlacedCell) → Rise ps → Rise (drop k ps)
rise_behind zero ps rise = rise
rise_behind (suc k) [] rise = tt
rise_behind (suc k) (p ∷ ps) rise = rise_behind k ps rise.1

-- a heading that comes before another comes before all that do not come before that one
still_before : (h : Heading) (p q : PlacedCell) → heading_cmp h (heading_at p) ≡ Less → comes_before q p ≡ false → heading_cmp h (heading_at q) ≡ Less
still_before h p q before up = by (heading_cmp (heading_at q) (heading_at p)) refl
  where
    by : (o : Ordering) → heading_cmp (heading_at q) (heading_at p) ≡ o → heading_cmp h (heading_at q) ≡ Less
    by Less e = let both : true ≡ false = sym (ap is_lt e) ∙ up in absurd cc
    by Equal e = ap (heading_cmp h) (exact_heading (heading_at q) (heading_at p) e) ∙ before
    by Greater e = heading_total.trans h (heading_at p) (heading_at q) before (heading_total.antisymm (heading_at p) (heading_at q) ∙ ap ordering_reverse e)

all_still_before : (h : Heading) (p : PlacedCell) (ps : List PlacedCell) → heading_cmp h (heading_at p) ≡ Less → AllByRecursion (λ q. comes_before q p ≡ false) ps
    → AllByRecursion (λ (q : PlacedCell). heading_cmp h (heading_at q) ≡ Less) ps
all_still_before h p [] before up = tt
all_still_before h p (q ∷ ps) before up = (still_before h p q before up.0, all_still_before h p ps before up.1)

-- no heading comes before that of the first
abbrev NotBehind : Heading → Cell → Type 0
NotBehind h c = heading_cmp h (heading_of c) ≡ Greater → ⊥

not_behind : (p q : PlacedCell) → comes_before q p ≡ false → NotBehind (heading_at p) (lent_cell q.cell)
not_behind p q up e =
    let both : true ≡ false = sym (ap is_lt (heading_total.antisymm (heading_at q) (heading_at p) ∙ ap ordering_reverse e)) ∙ up in
    absurd cc

none_behind : (p : PlacedCell) (ps : List PlacedCell) → AllByRecursion (λ q. comes_before q p ≡ false) ps → AllByRecursion (λ (q : PlacedCell). NotBehind (heading_at p) (lent_cell q.cell)) ps
none_behind p [] up = tt
none_behind p (q ∷ ps) up = (not_behind p q up.0, none_behind p ps up.1)

pub first_earliest : (p : PlacedCell) (ps : List PlacedCell) → Rise (p ∷ ps) → AllByRecursion (λ (q : PlacedCell). NotBehind (heading_at p) (lent_cell q.cell)) (p ∷ ps)
first_earliest p ps rise =
    ((λ e. let both : Equal ≡ Greater = sym (tied_itself heading_total (heading_at p)) ∙ e in absurd cc), none_behind p ps rise.0)

-- ---- the cells at the front under one heading

next : (n : ℕ) → suc n ≡ 1 + n
next n = omega arith

pub run_alike : (h : Heading) (ps : List PlacedCell) → AllByRecursion (λ (p : PlacedCell). heading_cmp h (heading_at p) ≡ Equal) (take (prefix_len (comes_under h) ps) ps)
run_alike h [] = tt
run_alike h (p ∷ ps) = by (heading_cmp h (heading_at p)) refl (run_alike h ps)
  where
    by : (o : Ordering) → heading_cmp h (heading_at p) ≡ o → AllByRecursion (λ (q : PlacedCell). heading_cmp h (heading_at q) ≡ Equal) (take (prefix_len (comes_under h) ps) ps)
        → AllByRecursion (λ (q : PlacedCell). heading_cmp h (heading_at q) ≡ Equal) (take (cond (is_eq o) (1 + prefix_len (comes_under h) ps) 0) (p ∷ ps))
    by Less e others = tt
    by Equal e others =
        subst (λ (n : ℕ). AllByRecursion (λ (q : PlacedCell). heading_cmp h (heading_at q) ≡ Equal) (take n (p ∷ ps))) (next (prefix_len (comes_under h) ps)) (e, others)
    by Greater e others = tt

pub behind_later : (h : Heading) (ps : List PlacedCell) → Rise ps → AllByRecursion (λ (p : PlacedCell). NotBehind h (lent_cell p.cell)) ps
    → AllByRecursion (λ (p : PlacedCell). heading_cmp h (heading_at p) ≡ Less) (drop (prefix_len (comes_under h) ps) ps)
behind_later h [] rise all = tt
behind_later h (p ∷ ps) rise all = by (heading_cmp h (heading_at p)) refl (behind_later h ps rise.1 all.1)
  where
    by : (o : Ordering) → heading_cmp h (heading_at p) ≡ o → AllByRecursion (λ (q : PlacedCell). heading_cmp h (heading_at q) ≡ Less) (drop (prefix_len (comes_under h) ps) ps)
        → AllByRecursion (λ (q : PlacedCell). heading_cmp h (heading_at q) ≡ Less) (drop (cond (is_eq o) (1 + prefix_len (comes_under h) ps) 0) (p ∷ ps))
    by Less e others = (e, all_still_before h p ps e rise.0)
    by Equal e others =
        subst (λ (n : ℕ). AllByRecursion (λ (q : PlacedCell). heading_cmp h (heading_at q) ≡ Less) (drop n (p ∷ ps))) (next (prefix_len (comes_under h) ps)) others
    by Greater e others = absurd (all.0 e)

-- a row has at most one cell under a heading
one_or_none : (h : Heading) (cells others : List Cell) → AreCells (cells ++ others)
    → AllByRecursion (λ (c : Cell). heading_cmp h (heading_of c) ≡ Equal) cells → AllByRecursion (λ (c : Cell). heading_cmp h (heading_of c) ≡ Less) others
    → (last_value cells ≡ front_value h (cells ++ others)) × (others ≡ rest_after h (cells ++ others))
unfolding IsStrictlySortedBy
one_or_none h [] [] are alike later = (refl, refl)
one_or_none h [] (d ∷ others) are alike later =
    (sym (ap (λ (o : Ordering). if is_eq o then Some d.value else None) later.0), sym (ap (λ (o : Ordering). if is_eq o then others else d ∷ others) later.0))
one_or_none h (c ∷ []) others are alike later =
    (sym (ap (λ (o : Ordering). if is_eq o then Some c.value else None) alike.0), sym (ap (λ (o : Ordering). if is_eq o then others else c ∷ others) alike.0))
one_or_none h (c ∷ d ∷ cells) others are alike later =
    let both : Equal ≡ Less = sym alike.1.0 ∙ heading_total.congr h (heading_of c) (heading_of d) alike.0 ∙ after_name c d are.ascending.0.0 in
    absurd cc

-- ---- a column is taken

no_cells : AreCells []
unfolding IsStrictlySortedBy
no_cells = record { each = tt; ascending = tt }

pub are_anywhere : (rests : List (List Cell)) → ((i : ℕ) → i < length rests → AreCells (slice_index_or rests i [])) → (i : ℕ) → AreCells (slice_index_or rests i [])
are_anywhere [] are i = no_cells
are_anywhere (cells ∷ rests) are zero = are 0 (omega arith)
are_anywhere (cells ∷ rests) are (suc i) = are_anywhere rests (λ k within. are (suc k) (omega arith)) i

rest_at : (h : Heading) (rests : List (List Cell)) (i : ℕ) → slice_index_or (map (rest_after h) rests) i [] ≡ rest_after h (slice_index_or rests i [])
rest_at h [] i = refl
rest_at h (cells ∷ rests) zero = refl
rest_at h (cells ∷ rests) (suc i) = rest_at h rests i

begins_inside : (c : Cell) (rests : List (List Cell)) (i : ℕ) → BeginsWith c (slice_index_or rests i []) → i < length rests
begins_inside c [] i begins = absurd begins
begins_inside c (cells ∷ rests) zero begins = omega arith
begins_inside c (cells ∷ rests) (suc i) begins = omega (arith, begins_inside c rests i begins)

module _ (rests : List (List Cell)) (p : PlacedCell) (ps : List PlacedCell) (are : (i : ℕ) → AreCells (slice_index_or rests i [])) (rise : Rise (p ∷ ps)) (hold : HoldRests rests (p ∷ ps)) where
  abbrev run : List PlacedCell
  run = take (prefix_len (comes_under (heading_at p)) (p ∷ ps)) (p ∷ ps)

  abbrev behind : List PlacedCell
  behind = drop (prefix_len (comes_under (heading_at p)) (p ∷ ps)) (p ∷ ps)

  parts : (i : ℕ) → row_cells i run ++ row_cells i behind ≡ slice_index_or rests i []
  parts i =
      sym (row_cells-append i run behind) ∙ ap (row_cells i) (take-append-drop (prefix_len (comes_under (heading_at p)) (p ∷ ps)) (p ∷ ps)) ∙ hold i

  one : (i : ℕ) → (last_value (row_cells i run) ≡ front_value (heading_at p) (slice_index_or rests i [])) × (row_cells i behind ≡ rest_after (heading_at p) (slice_index_or rests i []))
  one i =
      let h = heading_at p in
      let found = one_or_none h (row_cells i run) (row_cells i behind) (subst AreCells (sym (parts i)) (are i))
      (each_cell (λ (c : Cell). heading_cmp h (heading_of c) ≡ Equal) i run (run_alike h (p ∷ ps)))
      (each_cell (λ (c : Cell). heading_cmp h (heading_of c) ≡ Less) i behind (behind_later h (p ∷ ps) rise (first_earliest p ps rise))) in
      (found.0 ∙ ap (front_value h) (parts i), found.1 ∙ ap (rest_after h) (parts i))

  pub lent_values : (i : ℕ) → last_value (row_cells i run) ≡ front_value (heading_at p) (slice_index_or rests i [])
  lent_values i = (one i).0

  pub held_behind : HoldRests (map (rest_after (heading_at p)) rests) behind
  held_behind i = (one i).1 ∙ sym (rest_at (heading_at p) rests i)

  not_before : (i : ℕ) → IsNotBefore (heading_at p) (slice_index_or rests i [])
  not_before i = subst (IsNotBefore (heading_at p)) (hold i) (by (row_cells i (p ∷ ps)) (each_cell (NotBehind (heading_at p)) i (p ∷ ps) (first_earliest p ps rise)))
    where
      by : (cells : List Cell) → AllByRecursion (NotBehind (heading_at p)) cells → IsNotBefore (heading_at p) cells
      by [] all = tt
      by (c ∷ cells) all = all.0

  begins : BeginsWith (lent_cell p.cell) (slice_index_or rests p.place [])
  begins = subst (BeginsWith (lent_cell p.cell)) (sym (row_cells-front p ps) ∙ hold p.place) refl

  pub is_earliest : IsEarliest (Some (lent_cell p.cell)) rests
  is_earliest = ((p.place, begins_inside (lent_cell p.cell) rests p.place begins, begins), λ i within. not_before i)

-- ---- rows and columns

pub rests_are : (rows : List Row) (columns : List BlockColumn) (rests : List (List Cell)) → AllByRecursion IsRow rows → AreTaken rows columns rests → (i : ℕ) → AreCells (slice_index_or rests i [])
rests_are rows columns rests are taken = are_anywhere rests (λ i within. rest_are rows columns rests i are taken within)

none_left : (i : ℕ) (p : PlacedCell) (ps : List PlacedCell) → row_cells i (p ∷ ps) ≡ [] → row_cells i ps ≡ []
none_left i p ps none = by (is_at i p) none
  where
    by : (b : Bool) → map cell_in (cond b (p ∷ filter (is_at i) ps) (filter (is_at i) ps)) ≡ [] → row_cells i ps ≡ []
    by true e = absurd (omega (arith, ap length e))
    by false e = e

places_below : (n : ℕ) (ps : List PlacedCell) → ((i : ℕ) → n ≤ i → row_cells i ps ≡ []) → AllByRecursion (λ (p : PlacedCell). p.place < n) ps
places_below n [] none = tt
places_below n (p ∷ ps) none = (here (cases_lt p.place n), places_below n ps (λ i past. none_left i p ps (none i past)))
  where
    here : (p.place < n) ⊎ (n ≤ p.place) → p.place < n
    here (inl below) = below
    here (inr past) = absurd (omega (arith, ap length (sym (row_cells-front p ps) ∙ none p.place past)))

-- each stands at the place of a row
pub places_inside : (rests : List (List Cell)) (ps : List PlacedCell) → HoldRests rests ps → All (λ (p : PlacedCell). p.place < length rests) ps
places_inside rests ps hold =
    All-from_recursion (λ (p : PlacedCell). p.place < length rests) ps (places_below (length rests) ps (λ i past. hold i ∙ get_or_past rests i [] past))

-- the cells at the front under the heading of the first, and the rests behind them
pub record IsRun (rests : List (List Cell)) (p : PlacedCell) (ps : List PlacedCell) (count : ℕ) : Type 0 where
  pub some : 0 < count
  pub few : count ≤ length ps
  pub places : All (λ (q : PlacedCell). q.place < length rests) (take count ps)
  pub values : (i : ℕ) → last_value (row_cells i (take count ps)) ≡ front_value (heading_at p) (slice_index_or rests i [])
  pub earliest : IsEarliest (Some (lent_cell p.cell)) rests
  pub rise : Rise (drop count ps)
  pub hold : HoldRests (map (rest_after (heading_at p)) rests) (drop count ps)

first_counts : (p : PlacedCell) (ps : List PlacedCell) → 0 < prefix_len (comes_under (heading_at p)) (p ∷ ps)
first_counts p ps = subst (λ (o : Ordering). 0 < cond (is_eq o) (1 + prefix_len (comes_under (heading_at p)) ps) 0) (sym (tied_itself heading_total (heading_at p))) (omega arith)

run_of : (rests : List (List Cell)) (p : PlacedCell) (ps : List PlacedCell) → ((i : ℕ) → AreCells (slice_index_or rests i [])) → Rise (p ∷ ps) → HoldRests rests (p ∷ ps)
    → IsRun rests p (p ∷ ps) (prefix_len (comes_under (heading_at p)) (p ∷ ps))
run_of rests p ps are rise hold =
    let count = prefix_len (comes_under (heading_at p)) (p ∷ ps) in
    record {
      some = first_counts p ps;
      few = prefix_len-le-length (comes_under (heading_at p)) (p ∷ ps);
      places = All-take (λ (q : PlacedCell). q.place < length rests) count (p ∷ ps) (places_inside rests (p ∷ ps) hold);
      values = lent_values rests p ps are rise hold;
      earliest = is_earliest rests p ps are rise hold;
      rise = rise_behind count (p ∷ ps) rise;
      hold = held_behind rests p ps are rise hold;
    }

pub next_run : (rows : List Row) (columns : List BlockColumn) (cells : List PlacedCell) (from count : ℕ) (p : PlacedCell) → AllByRecursion IsRow rows → (left : AreLeft rows columns (drop from cells))
    → from < length cells → p ≡ slice_index_or cells from p → count ≡ prefix_len (comes_under (heading_at p)) (take (length cells - from) (drop from cells)) → IsRun left.rests p (drop from cells) count
next_run rows columns cells from count p are left within item counted =
    let split : drop from cells ≡ p ∷ drop (suc from) cells = drop-cons cells from p within ∙ ap (λ (q : PlacedCell). q ∷ drop (suc from) cells) (sym item) in
    let each = rests_are rows columns left.rests are left.taken in
    let whole : take (length cells - from) (drop from cells) ≡ drop from cells = take_all (length cells - from) (drop from cells) (omega (arith, length-drop from cells)) in
    subst (IsRun left.rests p (drop from cells)) (sym (counted ∙ ap (λ (l : List PlacedCell). prefix_len (comes_under (heading_at p)) l) whole))
    (subst (λ (l : List PlacedCell). IsRun left.rests p l (prefix_len (comes_under (heading_at p)) l)) (sym split)
    (run_of left.rests p (drop (suc from) cells) each (subst Rise split left.rise) (subst (HoldRests left.rests) split left.hold)))

pub run_values : (rests : List (List Cell)) (p : PlacedCell) (ps : List PlacedCell) (count : ℕ) (values : List (Option LentValue)) → IsRun rests p ps count → length values ≡ length rests
    → ((i : ℕ) → i < length values → option_map lent_value (slice_index_or values i None) ≡ last_value (row_cells i (take count ps))) → each_value values ≡ map (front_value (heading_at p)) rests
run_values rests p ps count values is same lent =
    let h = heading_at p in
    let counted : length (each_value values) ≡ length (map (front_value h) rests) = length-map values (option_map lent_value) ∙ same ∙ sym (length-map rests (front_value h)) in
    same_by_places (each_value values) (map (front_value h) rests) counted (λ k below.
    let here : k < length values = omega (arith, below, length-map values (option_map lent_value)) in
    get_or-map (option_map lent_value) values k None None here ∙ lent k here ∙ is.values k ∙ sym (get_or-map (front_value h) rests k [] None (omega (arith, here, same))))

pub run_kind : (rows : List Row) (columns : List BlockColumn) (ps : List PlacedCell) (p : PlacedCell) (values : List (Option LentValue)) → AllByRecursion IsRow rows → (left : AreLeft rows columns ps)
    → each_value values ≡ map (front_value (heading_at p)) left.rests → AreOfKind (heading_at p).kind (each_value values)
run_kind rows columns ps p values are left fronts =
    subst (AreOfKind (heading_at p).kind) (sym fronts) (fronts_are_of_kind (heading_at p) left.rests (λ i within. rests_are rows columns left.rests are left.taken i))

pub run_taken : (rows : List Row) (columns : List BlockColumn) (ps : List PlacedCell) (p : PlacedCell) (count : ℕ) (column : BlockColumn) → AllByRecursion IsRow rows → (left : AreLeft rows columns ps)
    → IsRun left.rests p ps count → heading column ≡ heading_at p → MeanCells column.bytes (length rows) → cells_in column.bytes ≡ map (front_value (heading_at p)) left.rests
    → AreLeft rows (columns ++ column ∷ []) (drop count ps)
run_taken rows columns ps p count column are left is head mean cells = record {
  rests = map (rest_after (heading_at p)) left.rests;
  taken = one_more_taken rows columns left.rests (lent_cell p.cell) column are left.taken is.earliest head (subst (MeanCells column.bytes) (sym left.taken.same) mean) cells;
  rise = is.rise;
  hold = is.hold;
}

pub none_left_over : (rows : List Row) (columns : List BlockColumn) (ps : List PlacedCell) → AreLeft rows columns ps → ps ≡ [] → HoldCells rows columns
none_left_over rows columns ps left none =
    all_taken rows columns left.rests left.taken (λ i within. sym (left.hold i) ∙ ap (row_cells i) none)
