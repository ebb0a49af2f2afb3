-- The first cells of the rows under a heading, one row more.
use Rattle.std.proofs.Common.{◌≡◌, ℕ, suc, ◌+◌, ◌<◌, List, [], ◌∷◌, ◌++◌, length, map, take, get_or, slice_index, slice_index_or, ℤ, pos, Bool, is_some, unwrap_or, Option, Some, None, IfSome, option_map, below_more, refl, sym, ap, ap₂, subst, ◌∙◌, arith}
use Rattle.std.specs.List.{AllByRecursion}
use Rattle.std.proofs.lemmas.List.Elements.{All-from_recursion}
use Rattle.std.proofs.lemmas.List.{get_or_append_left, get_or-map, get_or_push, length-map, length_push, map_push, take_more}
use Rattle.row_model.specs.declared.rows.Value.{Value}
use Rattle.row_model.specs.declared.rows.Value.TheVariants as values
use Rattle.row_model.specs.declared.rows.Cell.{Cell}
use Rattle.row_model.specs.declared.rows.Row.{Row}
use Rattle.row_model.specs.Values.{IsRow}
use Rattle.leaf_model.specs.declared.lent_cells.LentCells.{LentCells}
use Rattle.leaf_model.specs.declared.lent_cells.LentValue.{LentValue}
use Rattle.leaf_model.specs.Lent.{each_cells, lent_cells, lent_value}
use Rattle.column_bytes.specs.declared.kind.Kind.{Kind}
use Rattle.column_bytes.specs.Cells.{Entries}
use Rattle.column_bytes.specs.Coding.{AreIntegers, AreOfKind, IsCoding, IsOfKind}
use Rattle.column_bytes.specs.Column.{HasCells, kind_in}
use Rattle.dictionaries.specs.Dictionary.{AreKept}
use Rattle.row_blocks.specs.declared.column.BlockColumn.{BlockColumn}
use Rattle.row_blocks.specs.Columns.{MeanCells}
use Rattle.row_blocks.specs.Headings.{Heading, heading_of, kind_of}
use Rattle.row_blocks.specs.Merging.{ArePassed, AreTaken, HasFront, IsEarliest, IsNext, IsNotBefore, earlier, front, front_value, fronts, rest_after}
use Rattle.row_blocks.proofs.Earliest.{earliest_more}
use Rattle.row_blocks.proofs.Means.{written}
use Rattle.row_blocks.proofs.Taking.{all_push, one_more_taken}

pub same_by_places : (xs ys : List (Option Value)) → length xs ≡ length ys → ((k : ℕ) → k < length xs → slice_index_or xs k None ≡ slice_index_or ys k None) → xs ≡ ys
same_by_places [] [] counted each = refl
same_by_places [] (y ∷ ys) counted each = absurd (omega (arith, counted))
same_by_places (x ∷ xs) [] counted each = absurd (omega (arith, counted))
same_by_places (x ∷ xs) (y ∷ ys) counted each = ap₂ (λ z zs. z ∷ zs) (each 0 (omega arith)) (same_by_places xs ys (omega (arith, counted)) (λ k below. each (suc k) (omega (arith, below))))

-- ---- what is said of the elements of two lists at each place, and of one more of each

each_pair : {A B : Type 0} (P : A → B → Type 0) (a : A) (b : B) (xs : List A) (ys : List B) (x : A) (y : B) → length ys ≡ length xs
    → ((i : ℕ) → i < length xs → P (slice_index_or xs i a) (slice_index_or ys i b)) → P x y
    → (i : ℕ) → i < length (xs ++ x ∷ []) → P (slice_index_or (xs ++ x ∷ []) i a) (slice_index_or (ys ++ y ∷ []) i b)
each_pair P a b xs ys x y same each last i within =
    below_more (λ k. P (slice_index_or (xs ++ x ∷ []) k a) (slice_index_or (ys ++ y ∷ []) k b)) (length xs)
    (λ k below.
    subst (λ u. P u (slice_index_or (ys ++ y ∷ []) k b)) (sym (get_or_append_left xs (x ∷ []) a k below))
    (subst (P (slice_index_or xs k a)) (sym (get_or_append_left ys (y ∷ []) b k (omega (arith, same, below)))) (each k below)))
    (subst (λ u. P u (slice_index_or (ys ++ y ∷ []) (length xs) b)) (sym (get_or_push xs x a (length xs) refl))
    (subst (P x) (sym (get_or_push ys y b (length xs) same)) last))
    i (omega (arith, within, length_push xs x))

pub integers_push : (cells : List (Option Value)) (integers made : List ℤ) (cell : Option Value) (n : ℤ) → AreIntegers cells integers → made ≡ integers ++ n ∷ []
    → ((value : Value) → cell ≡ Some value → value ≡ values.Int n) → AreIntegers (cells ++ cell ∷ []) made
integers_push cells integers made cell n are made_is is =
    subst (AreIntegers (cells ++ cell ∷ [])) (sym made_is) (record {
      same = omega (arith, length_push cells cell, length_push integers n, are.same);
      each = λ i value within. each_pair (λ (v : Option Value) (k : ℤ). (value : Value) → v ≡ Some value → value ≡ values.Int k) None (pos 0) cells integers cell n are.same
          (λ k below value. are.each k value below) is i within value;
    })

pub codes_push : (cells : List (Option Value)) (codes made : List ℕ) (cell : Option Value) (code : ℕ) (old new : List (List ℕ)) → IsCoding cells codes (Entries old) → made ≡ codes ++ code ∷ []
    → AreKept old new → ((value : Value) → cell ≡ Some value → (code < length new) × (value ≡ values.Text (slice_index_or new code []))) → IsCoding (cells ++ cell ∷ []) made (Entries new)
codes_push cells codes made cell code old new are made_is kept is =
    subst (λ (l : List ℕ). IsCoding (cells ++ cell ∷ []) l (Entries new)) (sym made_is) (record {
      same = omega (arith, length_push cells cell, length_push codes code, are.same);
      each = λ i value within. each_pair
          (λ (v : Option Value) (k : ℕ). (value : Value) → v ≡ Some value → (values.Text (slice_index_or new k []) ≡ value) × (k < length new)) None 0 cells codes cell code are.same
          (λ k below value e.
          let was = are.each k value below e in
          let stays = kept (slice_index codes k) was.1 in
          (ap values.Text stays.1 ∙ was.0, stays.0))
          (λ value e. let found = is value e in (sym found.1, found.0)) i within value;
    })

pub there_push : (cells : List (Option Value)) (present made : List Bool) (cell : Option Value) → map is_some cells ≡ present → made ≡ present ++ is_some cell ∷ []
    → map is_some (cells ++ cell ∷ []) ≡ made
there_push cells present made cell are made_is = map_push is_some cells cell ∙ ap (λ (l : List Bool). l ++ is_some cell ∷ []) are ∙ sym made_is

pub passed_push : (h : Heading) (rests nexts made : List (List Cell)) (rest next : List Cell) → ArePassed h rests nexts → made ≡ nexts ++ next ∷ [] → IsNotBefore h rest → next ≡ rest_after h rest
    → ArePassed h (rests ++ rest ∷ []) made
passed_push h rests nexts made rest next are made_is first left = record {
  first = all_push (IsNotBefore h) rests rest are.first first;
  left = made_is ∙ ap (λ (l : List (List Cell)). l ++ next ∷ []) are.left ∙ ap (λ (cells : List Cell). map (rest_after h) rests ++ cells ∷ []) left ∙ sym (map_push (rest_after h) rests rest);
}

-- a value that is lent is there where it is
is_there : (value : Option LentValue) → is_some value ≡ is_some (option_map lent_value value)
is_there None = refl
is_there (Some value) = refl

-- ---- one row more

module _ (rests : List LentCells) (i : ℕ) (rest : LentCells) (within : i < length rests) (is : rest ≡ get_or rests i rest) where
  pub cells_more : each_cells (take (i + 1) rests) ≡ each_cells (take i rests) ++ lent_cells rest ∷ []
  cells_more =
      ap (λ (l : List LentCells). each_cells l) (take_more rests i rest within) ∙ map_push lent_cells (take i rests) (get_or rests i rest)
      ∙ ap (λ (r : LentCells). each_cells (take i rests) ++ lent_cells r ∷ []) (sym is)

  pub fronts_more : (h : Heading) → fronts h (take (i + 1) rests) ≡ fronts h (take i rests) ++ front_value h (lent_cells rest) ∷ []
  fronts_more h = ap (map (front_value h)) cells_more ∙ map_push (front_value h) (each_cells (take i rests)) (lent_cells rest)

  pub front_at : (h : Heading) → slice_index_or (fronts h rests) i None ≡ front_value h (lent_cells rest)
  front_at h =
      get_or-map (front_value h) (each_cells rests) i [] None (omega (arith, length-map rests lent_cells, within))
      ∙ ap (front_value h) (get_or-map lent_cells rests i rest [] within ∙ ap lent_cells (sym is))

  pub integers_more : (h : Heading) (integers made : List ℤ) (value : Option Value) (n m : ℤ) → AreIntegers (fronts h (take i rests)) integers → made ≡ integers ++ n ∷ []
      → m ≡ n → value ≡ front_value h (lent_cells rest) → ((found : Value) → value ≡ Some found → found ≡ values.Int m) → AreIntegers (fronts h (take (i + 1) rests)) made
  integers_more h integers made value n m are made_is last same found_is =
      subst (λ (l : List (Option Value)). AreIntegers l made) (sym (fronts_more h))
      (integers_push (fronts h (take i rests)) integers made (front_value h (lent_cells rest)) n are made_is (λ found e. found_is found (same ∙ e) ∙ ap values.Int last))

  pub codes_more : (h : Heading) (codes made : List ℕ) (value : Option Value) (code : ℕ) (old new : List (List ℕ)) → IsCoding (fronts h (take i rests)) codes (Entries old) → made ≡ codes ++ code ∷ []
      → AreKept old new → value ≡ front_value h (lent_cells rest) → ((found : Value) → value ≡ Some found → (code < length new) × (found ≡ values.Text (slice_index_or new code [])))
      → IsCoding (fronts h (take (i + 1) rests)) made (Entries new)
  codes_more h codes made value code old new are made_is kept same found_is =
      subst (λ (l : List (Option Value)). IsCoding l made (Entries new)) (sym (fronts_more h))
      (codes_push (fronts h (take i rests)) codes made (front_value h (lent_cells rest)) code old new are made_is kept (λ found e. found_is found (same ∙ e)))

  pub there_more : (h : Heading) (present made : List Bool) (value : Option LentValue) → map is_some (fronts h (take i rests)) ≡ present → made ≡ present ++ is_some value ∷ []
      → option_map lent_value value ≡ front_value h (lent_cells rest) → map is_some (fronts h (take (i + 1) rests)) ≡ made
  there_more h present made value are made_is same =
      ap (λ (l : List (Option Value)). map is_some l) (fronts_more h)
      ∙ there_push (fronts h (take i rests)) present made (front_value h (lent_cells rest)) are
      (made_is ∙ ap (λ (b : Bool). present ++ b ∷ []) (is_there value ∙ ap (λ (v : Option Value). is_some v) same))

  pub passed_more : (h : Heading) (nexts made : List LentCells) (next : LentCells) → ArePassed h (each_cells (take i rests)) (each_cells nexts) → made ≡ nexts ++ next ∷ []
      → IsNotBefore h (lent_cells rest) → lent_cells next ≡ rest_after h (lent_cells rest) → ArePassed h (each_cells (take (i + 1) rests)) (each_cells made)
  passed_more h nexts made next are made_is first left =
      subst (λ (l : List (List Cell)). ArePassed h l (each_cells made)) (sym cells_more)
      (passed_push h (each_cells (take i rests)) (each_cells nexts) (each_cells made) (lent_cells rest) (lent_cells next) are
      (ap (λ (l : List LentCells). each_cells l) made_is ∙ map_push lent_cells nexts next) first left)

  pub earliest_now : (like : Option Cell) → IsEarliest like (each_cells (take i rests)) → IsEarliest (earlier like (front (lent_cells rest))) (each_cells (take (i + 1) rests))
  earliest_now like first =
      subst (IsEarliest (earlier like (front (lent_cells rest)))) (sym cells_more) (earliest_more like (each_cells (take i rests)) (lent_cells rest) first)

  -- it is of the kind that all are
  pub kind_at : (h : Heading) (kind : Kind) (value : Option Value) → AreOfKind kind (fronts h rests) → value ≡ front_value h (lent_cells rest) → IfSome value (IsOfKind kind)
  kind_at h kind value are same =
      subst (λ (v : Option Value). IfSome v (IsOfKind kind)) (front_at h ∙ sym same) (are i (omega (arith, length-map (each_cells rests) (front_value h), length-map rests lent_cells, within)))

-- ---- all rows

-- a column that was made of the first cells under the earliest heading
is_next : (rests : List LentCells) (cell : Cell) (nexts : List (List Cell)) (bytes : List ℕ) (column : BlockColumn) → HasFront cell (each_cells rests)
    → column.name ≡ cell.name → column.bytes ≡ bytes → ArePassed (heading_of cell) (each_cells rests) nexts → kind_in bytes ≡ kind_of cell.value
    → HasCells bytes (length rests) (fronts (heading_of cell) rests) → IsNext (each_cells rests) nexts column
is_next rests cell nexts bytes column begins name same passed kind has =
    let h = heading_of cell in
    let is = written bytes column.bytes (length rests) (fronts h rests) has same in
    record {
      cell = cell;
      first = (begins, λ i within. All-from_recursion (IsNotBefore h) (each_cells rests) passed.first i [] within);
      under = ap (λ (n : List ℕ). record { name = n; kind = kind_in column.bytes }) name ∙ ap (λ (k : Kind). record { name = cell.name; kind = k }) (ap kind_in same ∙ kind);
      means = subst (MeanCells column.bytes) (sym (length-map rests lent_cells)) is.0;
      cells = is.1;
      left = passed.left;
    }

pub next_found : (rests : List LentCells) (cell : Cell) (nexts : List (List Cell)) (found : Option (List ℕ)) (bytes : List ℕ) (column : BlockColumn) → found ≡ Some bytes
    → HasFront cell (each_cells rests) → column.name ≡ cell.name → column.bytes ≡ bytes → IfSome found (λ _. ArePassed (heading_of cell) (each_cells rests) nexts)
    → IfSome found (λ b. kind_in b ≡ kind_of cell.value) → IfSome found (λ b. HasCells b (length rests) (fronts (heading_of cell) rests)) → IsNext (each_cells rests) nexts column
next_found rests cell nexts None bytes column is begins name same passed kind has = absurd cc
next_found rests cell nexts (Some b) bytes column is begins name same passed kind has =
    is_next rests cell nexts b column begins name (same ∙ sym (ap (λ (o : Option (List ℕ)). unwrap_or o b) is)) passed kind has

-- it is taken off the rows
pub next_taken : (rows : List Row) (columns made : List BlockColumn) (rests nexts : List (List Cell)) (found : Option BlockColumn) (column : BlockColumn) → found ≡ Some column
    → AllByRecursion IsRow rows → AreTaken rows columns rests → IfSome found (IsNext rests nexts) → made ≡ columns ++ column ∷ [] → AreTaken rows made nexts
next_taken rows columns made rests nexts None column is are taken next made_is = absurd cc
next_taken rows columns made rests nexts (Some other) column is are taken next made_is =
    subst (λ (l : List BlockColumn). AreTaken rows l nexts) (ap (λ (d : BlockColumn). columns ++ d ∷ []) (ap (λ (o : Option BlockColumn). unwrap_or o other) is) ∙ sym made_is)
    (subst (AreTaken rows (columns ++ other ∷ [])) (sym next.left)
    (one_more_taken rows columns rests next.cell other are taken next.first next.under next.means next.cells))
