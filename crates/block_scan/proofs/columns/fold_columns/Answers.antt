use Rattle.std.proofs.Common.{◌≡◌, ℕ, ◌∷◌, List, length, map, ℤ, sym, subst, ◌∙◌, arith}
use Rattle.std.specs.Prelude.{IfOk}
use Rattle.std.specs.List.{AllByRecursion}
use Rattle.std.specs.Int.{w64}
use Rattle.std.proofs.lemmas.Int.{to_z-of_z}
use Rattle.leaf_model.specs.declared.groups.Group.{Group}
use Rattle.leaf_model.specs.Groups.{groups}
use Rattle.group_table.specs.Joined.{IsWithin}
use Rattle.group_table.proofs.Within.{groups_grow}
use Rattle.row_blocks.specs.Held.{live_rows}
use Rattle.block_scan.specs.Reads.{IsRead, columns_of, row_of, wanted_places}
use Rattle.block_scan.specs.Timed.{StandForTimes}
use Rattle.block_scan.proofs.Lists.{if_ok}
use Rattle.block_scan.proofs.columns.fold_columns.Goals as goal

pub fold_wanted-requires : goal.fold_wanted-requires
fold_wanted-requires c =
    let q = c.args.query.now in let h = c.args.horizon in let times = c.args.times.now.column.now in let others = columns_of c.args.others.now in let ts = c.as_slice.result.now in
    let stand : StandForTimes q c.args.rows times c.args.skip h ts
    = subst (StandForTimes q c.args.rows times c.args.skip h) (sym c.as_slice.ensures.value)
    (subst (λ (z : ℤ). StandForTimes q c.args.rows times c.args.skip z c.in_ok-seen.seen.items) (to_z-of_z w64 h c.ranges.horizon) c.in_ok-seen.ensures) in
    record {
      few = omega (arith, stand.count, c.requires.few);
      skip = omega (arith, stand.count, c.requires.skip);
      read = subst (λ (n : ℕ). AllByRecursion (IsRead n) c.args.others.now) (sym stand.count) c.requires.others;
    }

pub returns-clause-groups : goal.returns-clause-groups
returns-clause-groups c =
    let q = c.args.query.now in let h = c.args.horizon in let times = c.args.times.now.column.now in let others = columns_of c.args.others.now in let ts = c.as_slice.result.now in
    let stand : StandForTimes q c.args.rows times c.args.skip h ts
    = subst (StandForTimes q c.args.rows times c.args.skip h) (sym c.as_slice.ensures.value)
    (subst (λ (z : ℤ). StandForTimes q c.args.rows times c.args.skip z c.in_ok-seen.seen.items) (to_z-of_z w64 h c.ranges.horizon) c.in_ok-seen.ensures) in
    if_ok (λ (gs : List Group). gs ≡ groups q (map (row_of ts others) (wanted_places q h ts c.args.skip)))
    (λ (gs : List Group). gs ≡ groups q (live_rows c.args.skip h (record { rows = c.args.rows; columns = times ∷ others }))) c.fold_wanted.result
    (subst (λ (z : ℤ). IfOk c.fold_wanted.result (λ gs. gs ≡ groups q (map (row_of ts others) (wanted_places q z ts c.args.skip)))) (to_z-of_z w64 h c.ranges.horizon) c.fold_wanted.ensures.groups)
    (λ gs is. is ∙ stand.same others)

pub returns-clause-within : goal.returns-clause-within
returns-clause-within c =
    let q = c.args.query.now in let h = c.args.horizon in let times = c.args.times.now.column.now in let others = columns_of c.args.others.now in let ts = c.as_slice.result.now in
    let stand : StandForTimes q c.args.rows times c.args.skip h ts
    = subst (StandForTimes q c.args.rows times c.args.skip h) (sym c.as_slice.ensures.value)
    (subst (λ (z : ℤ). StandForTimes q c.args.rows times c.args.skip z c.in_ok-seen.seen.items) (to_z-of_z w64 h c.ranges.horizon) c.in_ok-seen.ensures) in
    let live = live_rows c.args.skip h (record { rows = c.args.rows; columns = times ∷ others }) in
    if_ok (λ (gs : List Group). AllByRecursion (IsWithin (length (wanted_places q h ts c.args.skip))) gs) (λ (gs : List Group). AllByRecursion (IsWithin (length live)) gs) c.fold_wanted.result
    (subst (λ (z : ℤ). IfOk c.fold_wanted.result (λ gs. AllByRecursion (IsWithin (length (wanted_places q z ts c.args.skip))) gs)) (to_z-of_z w64 h c.ranges.horizon) c.fold_wanted.ensures.within)
    (λ gs within. groups_grow (length (wanted_places q h ts c.args.skip)) (length live) gs (stand.few others) within)
