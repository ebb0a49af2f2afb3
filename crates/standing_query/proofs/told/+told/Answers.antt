use Rattle.std.proofs.Common.{IfOk, ◌≡◌, length, subst}
use Rattle.std.specs.List.{AllByRecursion}
use Rattle.leaf_model.specs.Groups.{groups}
use Rattle.group_table.specs.Joined.{IsWithin}
use Rattle.standing_query.specs.Spread.{rows_shown}
use Rattle.standing_query.proofs.Telling.{apart, halves, halves_count, halves_fit}
use Rattle.standing_query.proofs.told.+told.Goals as goal

pub merge-requires : goal.merge-requires
merge-requires t c =
    halves_fit c.args.names.now c.args.spread.now c.split_at.result.0.now c.split_at.result.1.now
    (apart c.args.spread.now c.split_at.result.0.now c.split_at.result.1.now _ c.split_at.ensures.front c.split_at.ensures.back)
    c.in_ok-mine.mine c.in_ok-theirs.theirs c.requires c.in_ok-mine.ensures.within c.in_ok-theirs.ensures.within

pub returns-clause-value : goal.returns-clause-value
returns-clause-value t c =
    let rows = halves c.args.names.now c.args.spread.now c.split_at.result.0.now c.split_at.result.1.now
    (apart c.args.spread.now c.split_at.result.0.now c.split_at.result.1.now _ c.split_at.ensures.front c.split_at.ensures.back) in
    subst (λ rs. IfOk c.merge.result (λ gs. gs ≡ groups c.args.query.now rs)) rows
    (c.merge.ensures.both c.args.query.now (rows_shown c.args.names.now c.split_at.result.0.now) (rows_shown c.args.names.now c.split_at.result.1.now) c.in_ok-mine.ensures.value c.in_ok-theirs.ensures.value)

pub returns-clause-within : goal.returns-clause-within
returns-clause-within t c =
    let count = halves_count c.args.names.now c.args.spread.now c.split_at.result.0.now c.split_at.result.1.now
    (apart c.args.spread.now c.split_at.result.0.now c.split_at.result.1.now _ c.split_at.ensures.front c.split_at.ensures.back) in
    subst (λ n. IfOk c.merge.result (λ gs. AllByRecursion (IsWithin n) gs)) count
    (c.merge.ensures.within (length (rows_shown c.args.names.now c.split_at.result.0.now)) (length (rows_shown c.args.names.now c.split_at.result.1.now)) c.in_ok-mine.ensures.within c.in_ok-theirs.ensures.within)
