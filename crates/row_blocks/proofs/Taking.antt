-- A column more is taken off the rows, and less is left of them.
use Rattle.std.proofs.Common.{◌≡◌, ℕ, ◌<◌, Bool, true, false, List, [], ◌∷◌, ◌++◌, length, map, slice_index_or, pos, Option, Some, None, IfSome, if◌then◌else◌, refl, sym, ap, subst, ◌∙◌, append_assoc, arith}
use Rattle.std.specs.List.{AllByRecursion}
use Rattle.std.specs.List.Sorted.{IsStrictlySortedBy}
use Rattle.std.specs.Cmp.Lexicographic.{slice_cmp}
use Rattle.std.specs.Ordering.{nat_cmp, is_eq, ordering_then}
use Rattle.std.specs.declared.cmp.Ordering.{Ordering}
use Rattle.std.specs.declared.cmp.Ordering.TheVariants.{Less, Equal, Greater}
use Rattle.std.proofs.lemmas.List.{append-nil, length-append, length-map, get_or-map, map_push}
use Rattle.std.proofs.lemmas.List.Concat.{flat_map-append}
use Rattle.std.proofs.lemmas.List.Elements.{All-from_recursion}
use Rattle.row_model.specs.declared.rows.Value.{Value}
use Rattle.row_model.specs.declared.rows.Value.TheVariants as values
use Rattle.row_model.specs.declared.rows.Cell.{Cell}
use Rattle.row_model.specs.declared.rows.Row.{Row}
use Rattle.row_model.specs.Values.{IsCell, IsCellName, IsRow, IsValue}
use Rattle.row_blocks.specs.declared.column.BlockColumn.{BlockColumn}
use Rattle.row_blocks.specs.Columns.{MeanCells, cells_in}
use Rattle.row_blocks.specs.Headings.{Heading, heading, heading_of, heading_cmp, kind_of, kind_place}
use Rattle.column_bytes.specs.Coding.{AreOfKind, IsOfKind}
use Rattle.row_blocks.specs.Blocks.{IsOther, cell_at_place, cells_at, value_in}
use Rattle.row_blocks.specs.Merging.{AreCells, AreTaken, BeginsWith, HoldCells, IsBehind, IsEarliest, IsNotBefore, cells_count, cells_of_rows, front_value, rest_after}
use Rattle.row_blocks.proofs.Fewer.{one_fewer}
use Rattle.row_blocks.proofs.Order.{exact_heading, heading_total}

-- ---- lists

pub all_push : {X : Type 0} (P : X → Type 0) (xs : List X) (x : X) → AllByRecursion P xs → P x → AllByRecursion P (xs ++ x ∷ [])
all_push P [] x all p = (p, tt)
all_push P (y ∷ xs) x all p = (all.0, all_push P xs x all.1 p)

pub all_weaker : {X : Type 0} (P Q : X → Type 0) (xs : List X) → ((x : X) → P x → Q x) → AllByRecursion P xs → AllByRecursion Q xs
all_weaker P Q [] weaker all = tt
all_weaker P Q (x ∷ xs) weaker all = (weaker x all.0, all_weaker P Q xs weaker all.1)

pub all_back : {X : Type 0} (P : X → Type 0) (xs ys : List X) → AllByRecursion P (xs ++ ys) → AllByRecursion P ys
all_back P [] ys all = all
all_back P (x ∷ xs) ys all = all_back P xs ys all.1

pub all_mapped : {X Y : Type 0} (P : Y → Type 0) (f : X → Y) (xs : List X) → AllByRecursion (λ x. P (f x)) xs → AllByRecursion P (map f xs)
all_mapped P f [] all = tt
all_mapped P f (x ∷ xs) all = (all.0, all_mapped P f xs all.1)

pub sorted_push : {K : Type 0} (R : K → K → Ordering) (xs : List K) (y : K) → IsStrictlySortedBy R xs → AllByRecursion (λ x. R x y ≡ Less) xs → IsStrictlySortedBy R (xs ++ y ∷ [])
unfolding IsStrictlySortedBy
sorted_push R [] y sorted below = (tt, tt)
sorted_push R (x ∷ xs) y sorted below = (all_push (λ z. R x z ≡ Less) xs y sorted.0 below.0, sorted_push R xs y sorted.1 below.1)

sorted_back : (xs ys : List Cell) → IsStrictlySortedBy (slice_cmp nat_cmp) (map (λ (c : Cell). c.name) (xs ++ ys)) → IsStrictlySortedBy (slice_cmp nat_cmp) (map (λ (c : Cell). c.name) ys)
unfolding IsStrictlySortedBy
sorted_back [] ys sorted = sorted
sorted_back (x ∷ xs) ys sorted = sorted_back xs ys sorted.1

-- ---- cells of one row

pub after_name : (c d : Cell) → slice_cmp nat_cmp c.name d.name ≡ Less → heading_cmp (heading_of c) (heading_of d) ≡ Less
after_name c d e = ap (λ (o : Ordering). ordering_then o (nat_cmp (kind_place (heading_of c).kind) (kind_place (heading_of d).kind))) e

next_behind : (h : Heading) (c : Cell) (cells : List Cell) → AreCells (c ∷ cells) → heading_cmp h (heading_of c) ≡ Less → IsBehind h cells
unfolding IsStrictlySortedBy
next_behind h c [] are before = tt
next_behind h c (d ∷ cells) are before = heading_total.trans h (heading_of c) (heading_of d) before (after_name c d are.ascending.0.0)

next_after : (h : Heading) (c : Cell) (cells : List Cell) → AreCells (c ∷ cells) → heading_cmp h (heading_of c) ≡ Equal → IsBehind h cells
unfolding IsStrictlySortedBy
next_after h c [] are alike = tt
next_after h c (d ∷ cells) are alike = heading_total.congr h (heading_of c) (heading_of d) alike ∙ after_name c d are.ascending.0.0

-- what is left of a row stays behind an earlier heading
stays_behind : (h g : Heading) (cells : List Cell) → AreCells cells → IsBehind h cells → IsBehind h (rest_after g cells)
stays_behind h g [] are behind = tt
stays_behind h g (c ∷ cells) are behind = by (is_eq (heading_cmp g (heading_of c)))
  where
    by : (b : Bool) → IsBehind h (if b then cells else c ∷ cells)
    by true = next_behind h c cells are behind
    by false = behind

-- and behind the one whose column was taken
comes_behind : (h : Heading) (cells : List Cell) → AreCells cells → IsNotBefore h cells → IsBehind h (rest_after h cells)
comes_behind h [] are not_before = tt
comes_behind h (c ∷ cells) are not_before = by (heading_cmp h (heading_of c)) refl
  where
    by : (o : Ordering) → heading_cmp h (heading_of c) ≡ o → IsBehind h (if is_eq o then cells else c ∷ cells)
    by Less e = e
    by Equal e = next_after h c cells are e
    by Greater e = absurd (not_before e)

-- the cell that the column takes and what is left are the cells
put_back : (h : Heading) (cells : List Cell) → cell_at_place h.name (front_value h cells) ++ rest_after h cells ≡ cells
put_back h [] = refl
put_back h (c ∷ cells) = by (heading_cmp h (heading_of c)) refl
  where
    by : (o : Ordering) → heading_cmp h (heading_of c) ≡ o → cell_at_place h.name (if is_eq o then Some c.value else None) ++ (if is_eq o then cells else c ∷ cells) ≡ c ∷ cells
    by Less e = refl
    by Equal e = ap (λ (g : Heading). record { name = g.name; value = c.value } ∷ cells) (exact_heading h (heading_of c) e)
    by Greater e = refl

front_is : (c : Cell) (cells : List Cell) → BeginsWith c cells → AreCells cells → IsCell c
front_is c [] begins are = absurd begins
front_is c (d ∷ cells) begins are = subst IsCell begins are.each.0

front_behind : (h : Heading) (c : Cell) (cells : List Cell) → BeginsWith c cells → IsBehind h cells → heading_cmp h (heading_of c) ≡ Less
front_behind h c [] begins behind = absurd begins
front_behind h c (d ∷ cells) begins behind = subst (λ (e : Cell). heading_cmp h (heading_of e) ≡ Less) begins behind

-- ---- rows

abbrev pub no_row : Row
no_row = record { time = pos 0; cells = [] }

pub row_is : (rows : List Row) (i : ℕ) → AllByRecursion IsRow rows → i < length rows → IsRow (slice_index_or rows i no_row)
row_is rows i are within = All-from_recursion IsRow rows are i no_row within

pub cells_at_row : (rows : List Row) (i : ℕ) → i < length rows → slice_index_or (cells_of_rows rows) i [] ≡ (slice_index_or rows i no_row).cells
cells_at_row rows i within = get_or-map (λ (row : Row). row.cells) rows i no_row [] within

-- what is left of a row are cells
pub rest_are : (rows : List Row) (columns : List BlockColumn) (rests : List (List Cell)) (i : ℕ) → AllByRecursion IsRow rows → AreTaken rows columns rests → i < length rests → AreCells (slice_index_or rests i [])
rest_are rows columns rests i are taken within =
    let same = taken.same in
    let inside : i < length rows = omega arith in
    let is = row_is rows i are inside in
    let whole : (slice_index_or rows i no_row).cells ≡ cells_at i columns ++ slice_index_or rests i [] = sym (taken.taken i inside ∙ cells_at_row rows i inside) in
    record {
      each = all_back IsCell (cells_at i columns) (slice_index_or rests i []) (subst (AllByRecursion IsCell) whole is.cells);
      ascending = sorted_back (cells_at i columns) (slice_index_or rests i [])
          (subst (λ (cells : List Cell). IsStrictlySortedBy (slice_cmp nat_cmp) (map (λ (c : Cell). c.name) cells)) whole is.ascending);
    }

-- before the first column all cells are left
pub none_taken : (rows : List Row) (rests : List (List Cell)) → rests ≡ cells_of_rows rows → AreTaken rows [] rests
unfolding IsStrictlySortedBy
none_taken rows rests whole = record {
  same = ap length whole ∙ length-map rows (λ (row : Row). row.cells);
  each = tt;
  ascend = tt;
  behind = tt;
  taken = λ i within. ap (λ (all : List (List Cell)). slice_index_or all i []) whole;
  few = let same = ap cells_count whole in omega (arith, same);
}

pub one_more_taken : (rows : List Row) (columns : List BlockColumn) (rests : List (List Cell)) (c : Cell) (column : BlockColumn)
    → AllByRecursion IsRow rows → AreTaken rows columns rests → IsEarliest (Some c) rests
    → heading column ≡ heading_of c → MeanCells column.bytes (length rests) → cells_in column.bytes ≡ map (front_value (heading_of c)) rests
    → AreTaken rows (columns ++ column ∷ []) (map (rest_after (heading_of c)) rests)
one_more_taken rows columns rests c column are taken first head mean cells =
    let h = heading_of c in
    let at = first.0.0 in
    let is : IsCell c = front_is c (slice_index_or rests at []) first.0.2 (rest_are rows columns rests at are taken first.0.1) in
    let named : column.name ≡ c.name = ap (λ (g : Heading). g.name) head in
    record {
      same = length-map rests (rest_after h) ∙ taken.same;
      each = all_push (IsOther (length rows)) columns column taken.each
          (record { name = subst IsCellName (sym named) is.name; cells = subst (MeanCells column.bytes) taken.same mean });
      ascend = subst (IsStrictlySortedBy heading_cmp) (sym (map_push heading columns column))
          (sorted_push heading_cmp (map heading columns) (heading column) taken.ascend
          (all_mapped (λ (g : Heading). heading_cmp g (heading column) ≡ Less) heading columns
          (all_weaker (λ (d : BlockColumn). (i : ℕ) → i < length rests → IsBehind (heading d) (slice_index_or rests i []))
          (λ (d : BlockColumn). heading_cmp (heading d) (heading column) ≡ Less) columns
          (λ d behind. subst (λ (g : Heading). heading_cmp (heading d) g ≡ Less) (sym head)
          (front_behind (heading d) c (slice_index_or rests at []) first.0.2 (behind at first.0.1))) taken.behind)));
      behind = all_push (λ (d : BlockColumn). (i : ℕ) → i < length (map (rest_after h) rests) → IsBehind (heading d) (slice_index_or (map (rest_after h) rests) i [])) columns column
          (all_weaker (λ (d : BlockColumn). (i : ℕ) → i < length rests → IsBehind (heading d) (slice_index_or rests i []))
          (λ (d : BlockColumn). (i : ℕ) → i < length (map (rest_after h) rests) → IsBehind (heading d) (slice_index_or (map (rest_after h) rests) i [])) columns
          (λ d behind i within.
          let inside : i < length rests = omega (arith, length-map rests (rest_after h)) in
          subst (IsBehind (heading d)) (sym (get_or-map (rest_after h) rests i [] [] inside))
          (stays_behind (heading d) h (slice_index_or rests i []) (rest_are rows columns rests i are taken inside) (behind i inside))) taken.behind)
          (λ i within.
          let inside : i < length rests = omega (arith, length-map rests (rest_after h)) in
          subst (λ (g : Heading). IsBehind g (slice_index_or (map (rest_after h) rests) i [])) (sym head)
          (subst (IsBehind h) (sym (get_or-map (rest_after h) rests i [] [] inside))
          (comes_behind h (slice_index_or rests i []) (rest_are rows columns rests i are taken inside) (first.1 i inside))));
      taken = λ i within.
          let same = taken.same in
          let inside : i < length rests = omega arith in
          let rest = slice_index_or rests i [] in
          let value : value_in column.bytes i ≡ front_value h rest
          = ap (λ (all : List (Option Value)). slice_index_or all i None) cells ∙ get_or-map (front_value h) rests i [] None inside in
          let here : cells_at i (column ∷ []) ≡ cell_at_place h.name (front_value h rest)
          = append-nil (cell_at_place column.name (value_in column.bytes i)) ∙ ap (λ (v : Option Value). cell_at_place column.name v) value
          ∙ ap (λ (name : List ℕ). cell_at_place name (front_value h rest)) named in
          ap (λ (all : List Cell). all ++ slice_index_or (map (rest_after h) rests) i []) (flat_map-append (λ (d : BlockColumn). cell_at_place d.name (value_in d.bytes i)) columns (column ∷ []))
          ∙ append_assoc (cells_at i columns) (cells_at i (column ∷ [])) (slice_index_or (map (rest_after h) rests) i [])
          ∙ ap (λ (back : List Cell). cells_at i columns ++ back)
          (ap (λ (all : List Cell). all ++ slice_index_or (map (rest_after h) rests) i []) here
          ∙ ap (λ (all : List Cell). cell_at_place h.name (front_value h rest) ++ all) (get_or-map (rest_after h) rests i [] [] inside)
          ∙ put_back h rest)
          ∙ taken.taken i within;
      few =
          let before = taken.few in let fewer = one_fewer c rests at first.0.2 in
          omega (arith, length-append columns (column ∷ []), before, fewer);
    }

-- where no cells are left the columns hold them all
pub all_taken : (rows : List Row) (columns : List BlockColumn) (rests : List (List Cell)) → AreTaken rows columns rests → IsEarliest None rests → HoldCells rows columns
all_taken rows columns rests taken none = record {
  each = taken.each;
  ascend = taken.ascend;
  cells = λ i within.
      let same = taken.same in
      sym (append-nil (cells_at i columns)) ∙ ap (λ (rest : List Cell). cells_at i columns ++ rest) (sym (none i (omega arith))) ∙ taken.taken i within;
  few = let so_far = taken.few in omega (arith, so_far);
}

-- ---- the values of a column are of its kind

front_kind : (h : Heading) (cells : List Cell) → AreCells cells → IfSome (front_value h cells) (IsOfKind h.kind)
front_kind h [] are = tt
front_kind h (c ∷ cells) are = by (heading_cmp h (heading_of c)) refl
  where
    of_value : (value : Value) → IsValue value → IsOfKind (kind_of value) value
    of_value (values.Int n) is = tt
    of_value (values.Text text) is = is.1
    of_value (values.Set members) is = is

    by : (o : Ordering) → heading_cmp h (heading_of c) ≡ o → IfSome (if is_eq o then Some c.value else None) (IsOfKind h.kind)
    by Less e = tt
    by Equal e = subst (λ (g : Heading). IsOfKind g.kind c.value) (sym (exact_heading h (heading_of c) e)) (of_value c.value are.each.0.value)
    by Greater e = tt

pub fronts_are_of_kind : (h : Heading) (rests : List (List Cell)) → ((i : ℕ) → i < length rests → AreCells (slice_index_or rests i [])) → AreOfKind h.kind (map (front_value h) rests)
fronts_are_of_kind h rests are i within =
    let inside : i < length rests = omega (arith, length-map rests (front_value h)) in
    subst (λ (v : Option Value). IfSome v (IsOfKind h.kind)) (sym (get_or-map (front_value h) rests i [] None inside)) (front_kind h (slice_index_or rests i []) (are i inside))
