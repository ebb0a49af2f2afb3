use Rattle.std.proofs.Common.{◌≡◌, ◌+◌, [], length, ap, arith}
use Rattle.leaf_model.specs.Lent.{lent_rows}
use Rattle.group_table.proofs.KeptLaws.{all_kept, no_start, within_none}
use Rattle.group_table.proofs.fold.fold_rows.Goals as goal

pub fold_within-requires : goal.fold_within-requires
fold_within-requires c =
    let all = ap length (all_kept (lent_rows c.args.rows.now)) in
    record { start = no_start _ _ _ c.no_groups-none.ensures (omega (arith, all, c.len.ensures)) }

pub returns-clause-value : goal.returns-clause-value
returns-clause-value c = rw (all_kept (lent_rows c.args.rows.now)) at (c.fold_within.ensures.value [] c.no_groups-none.ensures)

pub returns-clause-within : goal.returns-clause-within
returns-clause-within c =
    let sum : 0 + length (lent_rows c.args.rows.now) ≡ length (lent_rows c.args.rows.now) = omega arith in
    rw sum at (rw (all_kept (lent_rows c.args.rows.now)) at (c.fold_within.ensures.within 0 (within_none 0 _ c.no_groups-none.ensures)))
