-- The groups of a block's rows are those of the rows at its wanted places.
use Rattle.std.proofs.Common.{◌≡◌, ℕ, ◌+◌, ◌-◌, ◌<◌, ◌≤◌, Bool, true, false, ◌&&◌, List, ◌∷◌, length, map, drop, filter, slice_index_or, ℤ, pos, int_le, refl, sym, ap, ap₂, ◌∙◌, arith}
use Rattle.std.specs.List.{AllByRecursion, range_with_len}
use Rattle.std.proofs.lemmas.List.{drop-map, length-map}
use Rattle.row_model.specs.declared.rows.Row.{Row}
use Rattle.leaf_model.specs.declared.queries.Query.{Query}
use Rattle.leaf_model.specs.declared.groups.Group.{Group}
use Rattle.leaf_model.specs.Groups.{groups, passes}
use Rattle.group_table.specs.Joined.{IsWithin}
use Rattle.group_table.proofs.Within.{groups_grow}
use Rattle.row_blocks.specs.declared.column.BlockColumn.{BlockColumn}
use Rattle.row_blocks.specs.Blocks.{Block, row_at, rows_in, time_in_cell, value_in}
use Rattle.row_blocks.specs.Held.{live_rows}
use Rattle.block_scan.specs.Reads.{is_wanted, row_of, wanted_places}
use Rattle.block_scan.proofs.Lists.{all_within, both_tests, drop_range, filter_mapped, filter_within, map_within, no_longer, weaker_test}
use Rattle.block_scan.proofs.Narrowed.{groups_of}

-- a time in the query's range
abbrev pub in_range : Query → Row → Bool
in_range q row = int_le q.from row.time && int_le row.time q.to

range_of : (a b c : Bool) → (a && (b && c)) ≡ true → (a && b) ≡ true
range_of true true c e = refl
range_of true false c e = e
range_of false b c e = e

pub groups_in_range : (q : Query) (rows : List Row) → groups q (filter (in_range q) rows) ≡ groups q rows
groups_in_range q rows = ap (groups_of q) (weaker_test (in_range q) (passes q) (λ row e. range_of (int_le q.from row.time) (int_le row.time q.to) _ e) rows)

module _ (q : Query) (rows : ℕ) (times : BlockColumn) (others : List BlockColumn) (ts : List ℤ) (skip : ℕ) (horizon : ℤ)
    (counted : length ts ≡ rows) (some : skip ≤ rows) (each : (i : ℕ) → i < rows → slice_index_or ts i (pos 0) ≡ time_in_cell (value_in times.bytes i)) where
  abbrev pub block : Block
  block = record { rows = rows; columns = times ∷ others }

  abbrev pub left : ℕ
  left = length ts - skip

  inside : (i : ℕ) → i < skip + left → i < rows
  inside i h = omega (arith, h, counted, some)

  abbrev pub wanted_row : Row → Bool
  wanted_row row = is_wanted q horizon row.time

  -- the rows at the wanted places are the live ones in the query's range
  pub rows_wanted : map (row_of ts others) (wanted_places q horizon ts skip) ≡ filter (in_range q) (live_rows skip horizon block)
  rows_wanted =
      let f = row_at (times ∷ others) in
      let from : skip ≡ 0 + skip = omega arith in
      let count : left ≡ rows - skip = omega (arith, counted) in
      map_within (row_of ts others) f (λ i. is_wanted q horizon (slice_index_or ts i (pos 0))) skip left
      (λ i h. ap (λ (t : ℤ). record { time = t; cells = (row_of ts others i).cells }) (each i (inside i h)))
      ∙ ap (map f) (filter_within (λ i. is_wanted q horizon (slice_index_or ts i (pos 0))) (λ i. wanted_row (f i)) skip left (λ i h. ap (is_wanted q horizon) (each i (inside i h))))
      ∙ sym (filter_mapped wanted_row f (range_with_len skip left))
      ∙ ap (λ (l : List ℕ). filter wanted_row (map f l)) (ap₂ range_with_len from count ∙ sym (drop_range skip 0 rows))
      ∙ ap (filter wanted_row) (sym (drop-map f skip (range_with_len 0 rows)))
      ∙ sym (both_tests (λ (row : Row). int_le horizon row.time) (in_range q) (drop skip (rows_in block)))

  pub no_more_places : length (wanted_places q horizon ts skip) ≤ length (live_rows skip horizon block)
  no_more_places =
      let same : length (wanted_places q horizon ts skip) ≡ length (filter (in_range q) (live_rows skip horizon block))
      = sym (length-map (wanted_places q horizon ts skip) (row_of ts others)) ∙ ap (λ (l : List Row). length l) rows_wanted in
      omega (arith, same, no_longer (in_range q) (live_rows skip horizon block))

  pub folded : (gs : List Group) (left : List ℕ) → groups q (map (row_of ts others) left) ≡ groups q (map (row_of ts others) (wanted_places q horizon ts skip))
      → gs ≡ groups q (map (row_of ts others) left) → gs ≡ groups q (live_rows skip horizon block)
  folded gs left same is = is ∙ same ∙ ap (groups q) rows_wanted ∙ groups_in_range q (live_rows skip horizon block)

  pub folded_within : (gs : List Group) (left : List ℕ) → length left ≤ length (wanted_places q horizon ts skip) → AllByRecursion (IsWithin (length left)) gs
      → AllByRecursion (IsWithin (length (live_rows skip horizon block))) gs
  folded_within gs left few within = groups_grow (length left) (length (live_rows skip horizon block)) gs (omega (arith, few, no_more_places)) within

pub places_inside : (q : Query) (horizon : ℤ) (ts : List ℤ) (skip : ℕ) → skip ≤ length ts → AllByRecursion (λ place. place < length ts) (wanted_places q horizon ts skip)
places_inside q horizon ts skip h = all_within (λ i. is_wanted q horizon (slice_index_or ts i (pos 0))) skip (length ts - skip) (length ts) (omega (arith, h))
