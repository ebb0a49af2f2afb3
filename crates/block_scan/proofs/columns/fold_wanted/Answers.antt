use Rattle.std.proofs.Common.{◌≡◌, Vec, Global, true, ◌-◌, ℕ, ◌≤◌, ◌<◌, List, length, map, filter, ℤ, pos, slice_index_or, sym, ap, subst, ◌∙◌, arith}
use Rattle.std.specs.Prelude.{Option, IfSome}
use Rattle.std.specs.List.{AllByRecursion, range_with_len}
use Rattle.std.proofs.lemmas.List.FromFn.{length-range_with_len}
use Rattle.std.specs.Int.{w64}
use Rattle.std.proofs.lemmas.Int.{to_z-of_z}
use Rattle.leaf_model.specs.declared.groups.Group.{Group}
use Rattle.leaf_model.specs.Groups.{groups, passes}
use Rattle.group_table.specs.Joined.{IsWithin}
use Rattle.group_table.proofs.Within.{groups_grow}
use Rattle.block_scan.specs.Decoded.{conds_hold}
use Rattle.block_scan.specs.Reads.{columns_of, is_wanted, row_of, wanted_places}
use Rattle.block_scan.proofs.Decodes.{groups_narrow}
use Rattle.block_scan.proofs.Folded.{places_inside}
use Rattle.block_scan.proofs.Lists.{all_filter, if_ok, no_longer}
use Rattle.block_scan.proofs.Split.{all_pass}
use Rattle.block_scan.proofs.columns.fold_wanted.Goals as goal

pub narrow_all-requires-clause-places : goal.narrow_all-requires-clause-places
narrow_all-requires-clause-places c =
    let ts = c.args.times.now in
    let same : c.in_ok-wanted.wanted.items ≡ wanted_places c.args.query.now c.args.horizon ts c.args.skip
    = c.in_ok-wanted.ensures ∙ ap (λ (z : ℤ). wanted_places c.args.query.now z ts c.args.skip) (to_z-of_z w64 c.args.horizon c.ranges.horizon) in
    let skip = c.requires.skip in
    subst (λ (l : List ℕ). AllByRecursion (λ place. place < length ts) l) (sym same) (places_inside c.args.query.now c.args.horizon ts c.args.skip skip)

pub fold_passing-requires-clause-places : goal.fold_passing-requires-clause-places
fold_passing-requires-clause-places c =
    let q = c.args.query.now in let h = c.args.horizon in let others = columns_of c.args.others.now in
    let ts = c.args.times.now in
    let wanted : c.in_ok-wanted.wanted.items ≡ wanted_places q h ts c.args.skip
    = c.in_ok-wanted.ensures ∙ ap (λ (z : ℤ). wanted_places q z ts c.args.skip) (to_z-of_z w64 h c.ranges.horizon) in
    let found = subst (λ (f : Option (Vec ℕ Global)). IfSome f (λ left. left.items ≡ filter (λ i. conds_hold c.as_slice.result.now (row_of ts others i)) c.in_ok-wanted.wanted.items)) c.in-Some.is c.in_ok-left.ensures in
    let left : c.as_slice-in-Some.result.now ≡ filter (λ i. conds_hold q.conds (row_of ts others i)) (wanted_places q h ts c.args.skip)
    = c.as_slice-in-Some.ensures.value ∙ found ∙ (λ i. filter (λ k. conds_hold (c.as_slice.ensures i) (row_of ts others k)) (wanted i)) in
    let skip = c.requires.skip in
    subst (λ (l : List ℕ). AllByRecursion (λ place. place < length ts) l) (sym left)
    (all_filter (λ place. place < length ts) (λ i. conds_hold q.conds (row_of ts others i)) (wanted_places q h ts c.args.skip) (places_inside q h ts c.args.skip skip))

pub fold_passing-requires-clause-short : goal.fold_passing-requires-clause-short
fold_passing-requires-clause-short c =
    let q = c.args.query.now in let h = c.args.horizon in let others = columns_of c.args.others.now in
    let ts = c.args.times.now in
    let wanted : c.in_ok-wanted.wanted.items ≡ wanted_places q h ts c.args.skip
    = c.in_ok-wanted.ensures ∙ ap (λ (z : ℤ). wanted_places q z ts c.args.skip) (to_z-of_z w64 h c.ranges.horizon) in
    let found = subst (λ (f : Option (Vec ℕ Global)). IfSome f (λ left. left.items ≡ filter (λ i. conds_hold c.as_slice.result.now (row_of ts others i)) c.in_ok-wanted.wanted.items)) c.in-Some.is c.in_ok-left.ensures in
    let left : c.as_slice-in-Some.result.now ≡ filter (λ i. conds_hold q.conds (row_of ts others i)) (wanted_places q h ts c.args.skip)
    = c.as_slice-in-Some.ensures.value ∙ found ∙ (λ i. filter (λ k. conds_hold (c.as_slice.ensures i) (row_of ts others k)) (wanted i)) in
    omega (
      arith,
      ap (λ (l : List ℕ). length l) left,
      no_longer (λ i. conds_hold q.conds (row_of ts others i)) (wanted_places q h ts c.args.skip),
      no_longer (λ i. is_wanted q h (slice_index_or ts i (pos 0))) (range_with_len c.args.skip (length ts - c.args.skip)),
      length-range_with_len c.args.skip (length ts - c.args.skip),
      c.requires.few,
    )

pub fold_passing-requires-clause-passing : goal.fold_passing-requires-clause-passing
fold_passing-requires-clause-passing c =
    let q = c.args.query.now in let h = c.args.horizon in let others = columns_of c.args.others.now in
    let ts = c.args.times.now in
    let wanted : c.in_ok-wanted.wanted.items ≡ wanted_places q h ts c.args.skip
    = c.in_ok-wanted.ensures ∙ ap (λ (z : ℤ). wanted_places q z ts c.args.skip) (to_z-of_z w64 h c.ranges.horizon) in
    let found = subst (λ (f : Option (Vec ℕ Global)). IfSome f (λ left. left.items ≡ filter (λ i. conds_hold c.as_slice.result.now (row_of ts others i)) c.in_ok-wanted.wanted.items)) c.in-Some.is c.in_ok-left.ensures in
    let left : c.as_slice-in-Some.result.now ≡ filter (λ i. conds_hold q.conds (row_of ts others i)) (wanted_places q h ts c.args.skip)
    = c.as_slice-in-Some.ensures.value ∙ found ∙ (λ i. filter (λ k. conds_hold (c.as_slice.ensures i) (row_of ts others k)) (wanted i)) in
    subst (λ (l : List ℕ). AllByRecursion (λ place. passes q (row_of ts others place) ≡ true) l) (sym left) (all_pass q h ts others (range_with_len c.args.skip (length ts - c.args.skip)))

pub returns-in-Some-clause-groups : goal.returns-in-Some-clause-groups
returns-in-Some-clause-groups c =
    let q = c.args.query.now in let h = c.args.horizon in let others = columns_of c.args.others.now in
    let ts = c.args.times.now in
    let wanted : c.in_ok-wanted.wanted.items ≡ wanted_places q h ts c.args.skip
    = c.in_ok-wanted.ensures ∙ ap (λ (z : ℤ). wanted_places q z ts c.args.skip) (to_z-of_z w64 h c.ranges.horizon) in
    let found = subst (λ (f : Option (Vec ℕ Global)). IfSome f (λ left. left.items ≡ filter (λ i. conds_hold c.as_slice.result.now (row_of ts others i)) c.in_ok-wanted.wanted.items)) c.in-Some.is c.in_ok-left.ensures in
    let left : c.as_slice-in-Some.result.now ≡ filter (λ i. conds_hold q.conds (row_of ts others i)) (wanted_places q h ts c.args.skip)
    = c.as_slice-in-Some.ensures.value ∙ found ∙ (λ i. filter (λ k. conds_hold (c.as_slice.ensures i) (row_of ts others k)) (wanted i)) in
    if_ok (λ (gs : List Group). gs ≡ groups q (map (row_of ts others) c.as_slice-in-Some.result.now))
    (λ (gs : List Group). gs ≡ groups q (map (row_of ts others) (wanted_places q h ts c.args.skip))) c.fold_passing.result c.fold_passing.ensures.groups
    (λ gs is. is ∙ (groups_narrow q (row_of ts others) (wanted_places q h ts c.args.skip) c.as_slice-in-Some.result.now left))

pub returns-in-Some-clause-within : goal.returns-in-Some-clause-within
returns-in-Some-clause-within c =
    let q = c.args.query.now in let h = c.args.horizon in let others = columns_of c.args.others.now in
    let ts = c.args.times.now in
    let wanted : c.in_ok-wanted.wanted.items ≡ wanted_places q h ts c.args.skip
    = c.in_ok-wanted.ensures ∙ ap (λ (z : ℤ). wanted_places q z ts c.args.skip) (to_z-of_z w64 h c.ranges.horizon) in
    let found = subst (λ (f : Option (Vec ℕ Global)). IfSome f (λ left. left.items ≡ filter (λ i. conds_hold c.as_slice.result.now (row_of ts others i)) c.in_ok-wanted.wanted.items)) c.in-Some.is c.in_ok-left.ensures in
    let left : c.as_slice-in-Some.result.now ≡ filter (λ i. conds_hold q.conds (row_of ts others i)) (wanted_places q h ts c.args.skip)
    = c.as_slice-in-Some.ensures.value ∙ found ∙ (λ i. filter (λ k. conds_hold (c.as_slice.ensures i) (row_of ts others k)) (wanted i)) in
    let few : length c.as_slice-in-Some.result.now ≤ length (wanted_places q h ts c.args.skip)
    = omega (arith, ap (λ (l : List ℕ). length l) left, no_longer (λ i. conds_hold q.conds (row_of ts others i)) (wanted_places q h ts c.args.skip)) in
    if_ok (λ (gs : List Group). AllByRecursion (IsWithin (length c.as_slice-in-Some.result.now)) gs)
    (λ (gs : List Group). AllByRecursion (IsWithin (length (wanted_places q h ts c.args.skip))) gs) c.fold_passing.result c.fold_passing.ensures.within
    (λ gs within. groups_grow (length c.as_slice-in-Some.result.now) (length (wanted_places q h ts c.args.skip)) gs few within)

pub fold_places-requires-clause-places : goal.fold_places-requires-clause-places
fold_places-requires-clause-places c =
    let q = c.args.query.now in let h = c.args.horizon in let others = columns_of c.args.others.now in
    let ts = c.args.times.now in
    let wanted : c.in_ok-wanted.wanted.items ≡ wanted_places q h ts c.args.skip
    = c.in_ok-wanted.ensures ∙ ap (λ (z : ℤ). wanted_places q z ts c.args.skip) (to_z-of_z w64 h c.ranges.horizon) in
    let all : c.as_slice-in-None.result.now ≡ wanted_places q h ts c.args.skip
    = c.as_slice-in-None.ensures.value ∙ c.in_ok-all-in-None.ensures ∙ ap (λ (z : ℤ). wanted_places q z ts c.args.skip) (to_z-of_z w64 h c.ranges.horizon) in
    let skip = c.requires.skip in
    subst (λ (l : List ℕ). AllByRecursion (λ place. place < length ts) l) (sym all) (places_inside q h ts c.args.skip skip)

pub returns-in_ok-all-in-None-clause-groups : goal.returns-in_ok-all-in-None-clause-groups
returns-in_ok-all-in-None-clause-groups c =
    let q = c.args.query.now in let h = c.args.horizon in let others = columns_of c.args.others.now in
    let ts = c.args.times.now in
    let wanted : c.in_ok-wanted.wanted.items ≡ wanted_places q h ts c.args.skip
    = c.in_ok-wanted.ensures ∙ ap (λ (z : ℤ). wanted_places q z ts c.args.skip) (to_z-of_z w64 h c.ranges.horizon) in
    let all : c.as_slice-in-None.result.now ≡ wanted_places q h ts c.args.skip
    = c.as_slice-in-None.ensures.value ∙ c.in_ok-all-in-None.ensures ∙ ap (λ (z : ℤ). wanted_places q z ts c.args.skip) (to_z-of_z w64 h c.ranges.horizon) in
    if_ok (λ (gs : List Group). gs ≡ groups q (map (row_of ts others) c.as_slice-in-None.result.now))
    (λ (gs : List Group). gs ≡ groups q (map (row_of ts others) (wanted_places q h ts c.args.skip))) c.fold_places.result c.fold_places.ensures.groups
    (λ gs is. is ∙ (ap (λ (l : List ℕ). groups q (map (row_of ts others) l)) all))

pub returns-in_ok-all-in-None-clause-within : goal.returns-in_ok-all-in-None-clause-within
returns-in_ok-all-in-None-clause-within c =
    let q = c.args.query.now in let h = c.args.horizon in let others = columns_of c.args.others.now in
    let ts = c.args.times.now in
    let wanted : c.in_ok-wanted.wanted.items ≡ wanted_places q h ts c.args.skip
    = c.in_ok-wanted.ensures ∙ ap (λ (z : ℤ). wanted_places q z ts c.args.skip) (to_z-of_z w64 h c.ranges.horizon) in
    let all : c.as_slice-in-None.result.now ≡ wanted_places q h ts c.args.skip
    = c.as_slice-in-None.ensures.value ∙ c.in_ok-all-in-None.ensures ∙ ap (λ (z : ℤ). wanted_places q z ts c.args.skip) (to_z-of_z w64 h c.ranges.horizon) in
    let few : length c.as_slice-in-None.result.now ≤ length (wanted_places q h ts c.args.skip) = omega (arith, ap (λ (l : List ℕ). length l) all) in
    if_ok (λ (gs : List Group). AllByRecursion (IsWithin (length c.as_slice-in-None.result.now)) gs)
    (λ (gs : List Group). AllByRecursion (IsWithin (length (wanted_places q h ts c.args.skip))) gs) c.fold_places.result c.fold_places.ensures.within
    (λ gs within. groups_grow (length c.as_slice-in-None.result.now) (length (wanted_places q h ts c.args.skip)) gs few within)
