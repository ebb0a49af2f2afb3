use Rattle.std.proofs.Common.{◌∙◌, ap, arith, subst, sym}
use Rattle.std.specs.Prelude.{replicate}
use Rattle.std.specs.List.{AllByRecursion}
use Rattle.leaf_model.specs.Groups.{groups}
use Rattle.group_table.specs.Joined.{IsWithin}
use Rattle.standing_query.specs.Spread.{row_shown}
use Rattle.standing_query.proofs.Telling.{folded_once, once_fits, once_value, once_within}
use Rattle.standing_query.proofs.told.told_one.Goals as goal

pub groups_times-requires : goal.groups_times-requires
groups_times-requires c =
    let once = folded_once c.args.query.now c.in_ok-row.row c.from_ref.result.now c.in_ok-once.once c.from_ref.ensures.value c.in_ok-once.ensures.value c.in_ok-once.ensures.within in
    once_fits c.args.query.now c.in_ok-row.row c.args.group.now.count c.in_ok-once.once once (omega arith) c.requires

pub returns-clause-value : goal.returns-clause-value
returns-clause-value c =
    let once = folded_once c.args.query.now c.in_ok-row.row c.from_ref.result.now c.in_ok-once.once c.from_ref.ensures.value c.in_ok-once.ensures.value c.in_ok-once.ensures.within in
    c.groups_times.ensures ∙ once_value c.args.query.now c.in_ok-row.row c.args.group.now.count c.in_ok-once.once once (omega arith)
    ∙ ap (λ row. groups c.args.query.now (replicate c.args.group.now.count row)) (c.in_ok-row.ensures ∙ ap (row_shown c.args.names.now) c.as_slice.ensures)

pub returns-clause-within : goal.returns-clause-within
returns-clause-within c =
    let once = folded_once c.args.query.now c.in_ok-row.row c.from_ref.result.now c.in_ok-once.once c.from_ref.ensures.value c.in_ok-once.ensures.value c.in_ok-once.ensures.within in
    subst (AllByRecursion (IsWithin c.args.group.now.count)) (sym c.groups_times.ensures)
    (once_within c.args.query.now c.in_ok-row.row c.args.group.now.count c.in_ok-once.once once (omega arith))
