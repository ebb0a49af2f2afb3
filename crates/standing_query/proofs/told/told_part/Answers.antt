use Rattle.std.proofs.Common.{IfOk, ◌≡◌, length, subst}
use Rattle.std.specs.List.{AllByRecursion}
use Rattle.leaf_model.specs.Groups.{groups}
use Rattle.group_table.specs.Joined.{IsWithin}
use Rattle.standing_query.specs.Spread.{rows_shown}
use Rattle.standing_query.proofs.Telling.{halves, halves_count, halves_fit}
use Rattle.standing_query.proofs.told.told_part.Goals as goal

pub merge-requires : goal.merge-requires
merge-requires c =
    halves_fit c.args.names.now c.args.part.now c.as_slices.result.0.now c.as_slices.result.1.now c.as_slices.ensures
    c.in_ok-mine.mine c.in_ok-theirs.theirs c.requires c.in_ok-mine.ensures.within c.in_ok-theirs.ensures.within

pub returns-clause-value : goal.returns-clause-value
returns-clause-value c =
    let rows = halves c.args.names.now c.args.part.now c.as_slices.result.0.now c.as_slices.result.1.now c.as_slices.ensures in
    subst (λ rs. IfOk c.merge.result (λ gs. gs ≡ groups c.args.query.now rs)) rows
    (c.merge.ensures.both c.args.query.now (rows_shown c.args.names.now c.as_slices.result.0.now) (rows_shown c.args.names.now c.as_slices.result.1.now) c.in_ok-mine.ensures.value c.in_ok-theirs.ensures.value)

pub returns-clause-within : goal.returns-clause-within
returns-clause-within c =
    let count = halves_count c.args.names.now c.args.part.now c.as_slices.result.0.now c.as_slices.result.1.now c.as_slices.ensures in
    subst (λ n. IfOk c.merge.result (λ gs. AllByRecursion (IsWithin n) gs)) count
    (c.merge.ensures.within (length (rows_shown c.args.names.now c.as_slices.result.0.now)) (length (rows_shown c.args.names.now c.as_slices.result.1.now)) c.in_ok-mine.ensures.within c.in_ok-theirs.ensures.within)
