-- The groups of rows at places that a test sorts, and of places of one list of keys.
use Rattle.std.proofs.Common.{◌≡◌, ℕ, ◌<◌, ◌≤◌, ◌+◌, ◌&&◌, int_le, pos, slice_index_or, get_or, take, Bool, true, false, not, cond, List, [], ◌∷◌, ◌++◌, length, map, filter, ℤ, Option, Some, None, refl, sym, ap, ap₂, ◌∙◌, arith}
use Rattle.std.specs.Prelude.{filter_map, option_to_list}
use Rattle.std.specs.List.{AllByRecursion, cons_option}
use Rattle.std.proofs.lemmas.Int.{ints}
use Rattle.std.proofs.lemmas.List.{append_assoc, length-map, take_more}
use Rattle.std.proofs.lemmas.List.Elements.{filter_map-append}
use Rattle.row_model.specs.declared.rows.Row.{Row}
use Rattle.leaf_model.specs.declared.queries.Agg.{Agg}
use Rattle.leaf_model.specs.declared.queries.Agg.TheVariants.{Count, Sum, Min, Max, Avg}
use Rattle.leaf_model.specs.declared.queries.Query.{Query}
use Rattle.leaf_model.specs.declared.groups.Key.{Key}
use Rattle.leaf_model.specs.declared.groups.Fold.{Fold}
use Rattle.leaf_model.specs.declared.groups.Group.{Group}
use Rattle.leaf_model.specs.Groups.{agg_ints, fold_of, group_of, groups, keys_of, passes}
use Rattle.group_table.specs.Joined.{IsFoldWithin, joined, joined_fold}
use Rattle.group_table.proofs.Monoid.{fold_of-append}
use Rattle.slot_groups.specs.Slots.{class_group}
use Rattle.slot_groups.proofs.Splits.{class_of}
use Rattle.block_scan.specs.declared.decoded.Decoded.{Decoded}
use Rattle.row_blocks.specs.declared.column.BlockColumn.{BlockColumn}
use Rattle.block_scan.specs.Decoded.{IsSized, conds_hold}
use Rattle.block_scan.specs.Reads.{is_wanted, row_of}
use Rattle.block_scan.specs.declared.slots.Slots.{Slots}
use Rattle.block_scan.specs.Slots.{AreOfAggs, IsKeyed, StandsIn, agg_at, fold_at, integer_of, keys_at, slot_at, slots_in}
use Rattle.group_table.proofs.Laws.{groups-append, joined-nil, joined-one, no_row, one_row}

abbrev Single : Query → Row → List Group
Single q row = groups q (row ∷ [])

rows_assoc : (q : Query) (xs ys zs : List Row) → joined (groups q xs) (joined (groups q ys) (groups q zs)) ≡ joined (joined (groups q xs) (groups q ys)) (groups q zs)
rows_assoc q xs ys zs =
    ap (joined (groups q xs)) (sym (groups-append q ys zs)) ∙ sym (groups-append q xs (ys ++ zs))
    ∙ ap (groups q) (sym (append_assoc xs ys zs))
    ∙ groups-append q (xs ++ ys) zs ∙ ap (λ gs. joined gs (groups q zs)) (groups-append q xs ys)

row_comm_at : (q : Query) (row : Row) (gs : List Group) (x : Bool) → passes q row ≡ x → joined gs (Single q row) ≡ joined (Single q row) gs
row_comm_at q row gs true h = let alone = one_row q row h in ap (joined gs) alone ∙ joined-one _ gs ∙ ap (λ hs. joined hs gs) (sym alone)
row_comm_at q row gs false h = let alone = no_row q row h in ap (joined gs) alone ∙ joined-nil gs ∙ ap (λ hs. joined hs gs) (sym alone)

module _ (q : Query) (row : ℕ → Row) (p : ℕ → Bool) where
  abbrev IsSplitAt : List ℕ → Type 0
  IsSplitAt places = groups q (map row places) ≡ joined (groups q (map row (filter p places))) (groups q (map row (filter (λ i. not (p i)) places)))

  one_more : (i : ℕ) (places : List ℕ) (b : Bool) → p i ≡ b → IsSplitAt places → IsSplitAt (i ∷ places)
  one_more i places true e so_far =
      let x = row i in
      let yes = map row (filter p places) in
      let no = map row (filter (λ k. not (p k)) places) in
      rw e (groups-append q (x ∷ []) (map row places) ∙ ap (joined (Single q x)) so_far ∙ rows_assoc q (x ∷ []) yes no ∙ ap (λ gs. joined gs (groups q no)) (sym (groups-append q (x ∷ []) yes)))
  one_more i places false e so_far =
      let x = row i in
      let yes = map row (filter p places) in
      let no = map row (filter (λ k. not (p k)) places) in
      rw e (groups-append q (x ∷ []) (map row places) ∙ ap (joined (Single q x)) so_far ∙ rows_assoc q (x ∷ []) yes no
      ∙ ap (λ gs. joined gs (groups q no)) (sym (row_comm_at q x (groups q yes) (passes q x) refl)) ∙ sym (rows_assoc q yes (x ∷ []) no)
      ∙ ap (joined (groups q yes)) (sym (groups-append q (x ∷ []) no)))

  split_places : (places : List ℕ) → IsSplitAt places
  split_places [] = refl
  split_places (i ∷ places) = one_more i places (p i) refl (split_places places)

  -- both parts one behind the other have the groups of all
  pub groups_split : (places : List ℕ) → groups q (map row (filter p places) ++ map row (filter (λ i. not (p i)) places)) ≡ groups q (map row places)
  groups_split places = groups-append q (map row (filter p places)) (map row (filter (λ i. not (p i)) places)) ∙ sym (split_places places)

-- ---- folds

one_fold : (d : Decoded) (i : ℕ) → filter_map (integer_of d) (i ∷ []) ≡ option_to_list (integer_of d i)
one_fold d i = by (integer_of d i)
  where
    by : (n : Option ℤ) → cons_option n [] ≡ option_to_list n
    by None = refl
    by (Some n) = refl

-- one place more
pub fold_more : (d : Decoded) (places : List ℕ) (k place : ℕ) (fold now : Fold) (number : Option ℤ) → k < length places → place ≡ get_or places k 0 → fold ≡ fold_at (take k places) d
    → number ≡ integer_of d place → now ≡ joined_fold fold (fold_of (option_to_list number)) → now ≡ fold_at (take (k + 1) places) d
fold_more d places k place fold now number within at so_far is added =
    added ∙ (λ i. joined_fold (so_far i) (fold_of (option_to_list (is i))))
    ∙ ap (λ (ns : List ℤ). joined_fold (fold_at (take k places) d) (fold_of ns)) (sym (one_fold d place))
    ∙ sym (fold_of-append (filter_map (integer_of d) (take k places)) (filter_map (integer_of d) (place ∷ [])))
    ∙ ap fold_of (sym (filter_map-append (integer_of d) (take k places) (place ∷ [])))
    ∙ ap (λ (p : ℕ). fold_at (take k places ++ p ∷ []) d) at
    ∙ ap (λ (l : List ℕ). fold_at l d) (sym (take_more places k 0 within))

pub fold_grows : (m n : ℕ) (f : Fold) → m ≤ n → IsFoldWithin m f → IsFoldWithin n f
fold_grows m n f h w = record { seen = omega (arith, w.seen); low = omega (arith, ints, w.low); high = omega (arith, ints, w.high) }

-- ---- one group

ints_mapped : (h : Row → Option ℤ) (row : ℕ → Row) (places : List ℕ) → filter_map h (map row places) ≡ filter_map (λ i. h (row i)) places
ints_mapped h row [] = refl
ints_mapped h row (i ∷ places) = ap (cons_option (h (row i))) (ints_mapped h row places)

ints_alike : (f g : ℕ → Option ℤ) (n : ℕ) → ((i : ℕ) → i < n → f i ≡ g i) → (places : List ℕ) → AllByRecursion (λ i. i < n) places → filter_map f places ≡ filter_map g places
ints_alike f g n same [] inside = refl
ints_alike f g n same (i ∷ places) inside = ap₂ cons_option (same i inside.0) (ints_alike f g n same places inside.1)

none_counted : (rows : List Row) → [] ≡ filter_map (agg_at Count) rows
none_counted [] = refl
none_counted (row ∷ rows) = none_counted rows

agg_ints_at : (agg : Agg) (rows : List Row) → agg_ints agg rows ≡ filter_map (agg_at agg) rows
agg_ints_at Count rows = none_counted rows
agg_ints_at (Sum name) rows = refl
agg_ints_at (Min name) rows = refl
agg_ints_at (Max name) rows = refl
agg_ints_at (Avg name) rows = refl

folds_at : (n : ℕ) (row : ℕ → Row) (places : List ℕ) → AllByRecursion (λ i. i < n) places → (aggs : List Agg) (decoded : List Decoded) → AreOfAggs n row aggs decoded
    → map (fold_at places) decoded ≡ map (λ agg. fold_of (agg_ints agg (map row places))) aggs
folds_at n row places inside [] [] are = refl
folds_at n row places inside [] (d ∷ decoded) are = absurd are
folds_at n row places inside (agg ∷ aggs) [] are = absurd are
folds_at n row places inside (agg ∷ aggs) (d ∷ decoded) are =
    ap₂ (λ (f : Fold) (fs : List Fold). f ∷ fs)
    (ap fold_of (sym (agg_ints_at agg (map row places) ∙ ints_mapped (agg_at agg) row places ∙ ints_alike (λ i. agg_at agg (row i)) (integer_of d) n are.0.each places inside)))
    (folds_at n row places inside aggs decoded are.1)

passing_rows : (q : Query) (row : ℕ → Row) (slots : Slots) (places : List ℕ) → AllByRecursion (IsKeyed q row slots) places → filter (passes q) (map row places) ≡ map row places
passing_rows q row slots [] are = refl
passing_rows q row slots (i ∷ places) are =
    ap (λ (b : Bool). cond b (row i ∷ filter (passes q) (map row places)) (filter (passes q) (map row places))) are.0.passes ∙ ap (λ (l : List Row). row i ∷ l) (passing_rows q row slots places are.1)

keys_alike : (q : Query) (row : ℕ → Row) (slots : Slots) (s : ℕ) (places : List ℕ) → AllByRecursion (IsKeyed q row slots) places → AllByRecursion (λ i. slot_at slots i ≡ s) places
    → AllByRecursion (λ (r : Row). keys_of q r ≡ keys_at q slots s) (map row places)
keys_alike q row slots s [] are same = tt
keys_alike q row slots s (i ∷ places) are same = (are.0.keyed ∙ ap (keys_at q slots) same.0, keys_alike q row slots s places are.1 same.1)

some_group : (q : Query) (keys : List Key) (row : ℕ → Row) (places : List ℕ) → 0 < length places → class_group q keys (map row places) ≡ group_of q keys (map row places) ∷ []
some_group q keys row [] some = absurd (omega (arith, some))
some_group q keys row (i ∷ places) some = refl

-- the group of places in one slot
pub one_group : (q : Query) (n : ℕ) (row : ℕ → Row) (slots : Slots) (s : ℕ) (decoded : List Decoded) (places : List ℕ) (keys : List Key) (count : ℕ) (folds : List Fold)
    → AreOfAggs n row q.aggs decoded → AllByRecursion (IsKeyed q row slots) places → AllByRecursion (λ i. i < n) places
    → AllByRecursion (λ i. slot_at slots i ≡ s) places → 0 < length places → keys ≡ keys_at q slots s → count ≡ length places → folds ≡ map (fold_at places) decoded
    → record { keys = keys; count = count; folds = folds } ∷ [] ≡ groups q (map row places)
one_group q n row slots s decoded places keys count folds aggs are inside same some keys_are count_is folds_are =
    let k = keys_at q slots s in
    let c = count_is ∙ sym (length-map places row) in
    let f = folds_are ∙ folds_at n row places inside q.aggs decoded aggs in
    (λ i. record { keys = keys_are i; count = c i; folds = f i } ∷ [])
    ∙ sym (some_group q k row places some) ∙ ap (class_group q k) (sym (passing_rows q row slots places are))
    ∙ sym (class_of q k (map row places) (keys_alike q row slots s places are same))

-- ---- places that all pass

pub aggs_sized : (n : ℕ) (row : ℕ → Row) (aggs : List Agg) (decoded : List Decoded) → AreOfAggs n row aggs decoded → AllByRecursion (IsSized n) decoded
aggs_sized n row [] [] are = tt
aggs_sized n row [] (d ∷ decoded) are = absurd are
aggs_sized n row (agg ∷ aggs) [] are = absurd are
aggs_sized n row (agg ∷ aggs) (d ∷ decoded) are = (are.0.sized, aggs_sized n row aggs decoded are.1)

pub slots_high : (q : Query) (row : ℕ → Row) (slots : Slots) (places : List ℕ) → AllByRecursion (StandsIn q row slots) places → AllByRecursion (λ i. slot_at slots i < slots_in slots) places
slots_high q row slots [] are = tt
slots_high q row slots (i ∷ places) are = (are.0.sized, slots_high q row slots places are.1)

pub all_keyed : (q : Query) (row : ℕ → Row) (slots : Slots) (places : List ℕ) → AllByRecursion (StandsIn q row slots) places → AllByRecursion (λ i. passes q (row i) ≡ true) places
    → AllByRecursion (IsKeyed q row slots) places
all_keyed q row slots [] are pass = tt
all_keyed q row slots (i ∷ places) are pass = (record { passes = pass.0; keyed = are.0.keyed }, all_keyed q row slots places are.1 pass.1)

passing : (a b c d : Bool) → (a && (b && c)) ≡ true → d ≡ true → (b && (c && d)) ≡ true
passing true true true d e f = f
passing true true false d e f = absurd cc
passing true false c d e f = absurd cc
passing false b c d e f = absurd cc

-- what is wanted and meets the conditions passes
pub all_pass : (q : Query) (horizon : ℤ) (ts : List ℤ) (columns : List BlockColumn) (places : List ℕ)
    → AllByRecursion (λ i. passes q (row_of ts columns i) ≡ true) (filter (λ i. conds_hold q.conds (row_of ts columns i)) (filter (λ i. is_wanted q horizon (slice_index_or ts i (pos 0))) places))
all_pass q horizon ts columns [] = tt
all_pass q horizon ts columns (i ∷ places) = by (is_wanted q horizon (slice_index_or ts i (pos 0))) refl (all_pass q horizon ts columns places)
  where
    met : (c : Bool) → is_wanted q horizon (slice_index_or ts i (pos 0)) ≡ true → conds_hold q.conds (row_of ts columns i) ≡ c
        → AllByRecursion (λ i. passes q (row_of ts columns i) ≡ true) (filter (λ i. conds_hold q.conds (row_of ts columns i)) (filter (λ i. is_wanted q horizon (slice_index_or ts i (pos 0))) places))
        → AllByRecursion (λ i. passes q (row_of ts columns i) ≡ true)
        (cond c (i ∷ filter (λ i. conds_hold q.conds (row_of ts columns i)) (filter (λ i. is_wanted q horizon (slice_index_or ts i (pos 0))) places))
        (filter (λ i. conds_hold q.conds (row_of ts columns i)) (filter (λ i. is_wanted q horizon (slice_index_or ts i (pos 0))) places)))
    met true e f rest = (passing (int_le horizon (slice_index_or ts i (pos 0))) (int_le q.from (slice_index_or ts i (pos 0))) (int_le (slice_index_or ts i (pos 0)) q.to) (conds_hold q.conds (row_of ts columns i)) e f, rest)
    met false e f rest = rest

    by : (b : Bool) → is_wanted q horizon (slice_index_or ts i (pos 0)) ≡ b
        → AllByRecursion (λ i. passes q (row_of ts columns i) ≡ true) (filter (λ i. conds_hold q.conds (row_of ts columns i)) (filter (λ i. is_wanted q horizon (slice_index_or ts i (pos 0))) places))
        → AllByRecursion (λ i. passes q (row_of ts columns i) ≡ true)
        (filter (λ i. conds_hold q.conds (row_of ts columns i)) (cond b (i ∷ filter (λ i. is_wanted q horizon (slice_index_or ts i (pos 0))) places) (filter (λ i. is_wanted q horizon (slice_index_or ts i (pos 0))) places)))
    by true e rest = met (conds_hold q.conds (row_of ts columns i)) e refl rest
    by false e rest = rest
