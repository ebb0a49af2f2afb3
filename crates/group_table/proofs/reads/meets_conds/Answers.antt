use Rattle.std.proofs.Common.{ap, ◌∙◌, arith}
use Rattle.leaf_model.specs.Groups.{value_of}
use Rattle.leaf_model.specs.declared.queries.Cond.{Cond}
use Rattle.group_table.specs.Reads.{all_met, seen_row}
use Rattle.group_table.proofs.SeenLaws.{conditions_met, value_count}
use Rattle.group_table.proofs.reads.meets_conds.Goals as goal

pub meets_all-requires : goal.meets_all-requires
meets_all-requires c =
    let same = value_count (λ (cond : Cond). value_of cond.name (seen_row c.args.row.now)) c.args.query.now.conds c.args.row.now.conds.now c.requires.conds in
    rw c.as_slice.ensures (omega (arith, same))

pub returns : goal.returns
returns c =
    (rw c.as_slice.ensures at c.meets_all.ensures)
    ∙ ap (all_met c.args.query.now.conds) c.requires.conds
    ∙ conditions_met (seen_row c.args.row.now) c.args.query.now.conds
