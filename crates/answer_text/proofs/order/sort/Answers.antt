use Rattle.std.proofs.Common.{rules}
use Rattle.std.specs.Ordering.{is_lt}
use Rattle.std.proofs.lemmas.Fn.{always_returns_same}
use Rattle.std.proofs.lemmas.List.Sorted.{ranks_by}
use Rattle.std.proofs.lemmas.Result.{on_ok_weaker}
use Rattle.answer_text.specs.Answer.{group_cmp}
use Rattle.answer_text.proofs.GroupOrder.{group_cmp_total}
use Rattle.answer_text.proofs.Sorting.{sorted_as}
use Rattle.answer_text.proofs.order.sort.Goals as goal

pub returns : goal.returns
returns c =
    let cmp = group_cmp c.args.query.now in
    let total = group_cmp_total c.args.query.now in
    let stable = c.sort_by.ensures.stable (λ a b. is_lt (cmp a.now b.now)) (ranks_by total (λ g. g.now)) (always_returns_same _ _ _ (λ a r f k. search rules)) in
    on_ok_weaker c.sort_by.result
    (λ sorted. sorted_as (λ g. g.now) cmp total _ _ (sorted (λ a b. is_lt (cmp a.now b.now)) (ranks_by total (λ g. g.now)) (always_returns_same _ _ _ (λ a r f k. search rules))) stable)
    c.sort_by.ensures.sorted
