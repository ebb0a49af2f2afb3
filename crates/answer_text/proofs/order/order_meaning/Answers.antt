use Rattle.answer_text.specs.Answer.{group_cmp}
use Rattle.answer_text.proofs.GroupOrder.{group_cmp_total}
use Rattle.answer_text.proofs.Sorting.{same_in_order, sorted_in_order}
use Rattle.answer_text.proofs.order.order_meaning.Goals as goal

pub returns-clause-same : goal.returns-clause-same
returns-clause-same c = λ q gs. same_in_order (group_cmp q) gs

pub returns-clause-sorted : goal.returns-clause-sorted
returns-clause-sorted c = λ q gs. sorted_in_order (group_cmp q) (group_cmp_total q) gs
