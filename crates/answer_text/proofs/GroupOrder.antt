-- The order of an answer's groups is total.
use Rattle.std.specs.Cmp.{IsTotalOrder}
use Rattle.std.specs.Cmp.Lexicographic.{options_total}
use Rattle.std.proofs.lemmas.Cmp.{int_cmp_total, on_total, then_total, back_total}
use Rattle.leaf_model.specs.declared.groups.Group.{Group}
use Rattle.leaf_model.specs.declared.queries.Query.{Query}
use Rattle.leaf_model.proofs.KeyOrder.{keys_cmp_total}
use Rattle.answer_text.specs.Answer.{measure_of, group_cmp}

pub group_cmp_total : (q : Query) → IsTotalOrder (group_cmp q)
group_cmp_total q = then_total (on_total (measure_of q) (back_total (options_total int_cmp_total))) (on_total (λ (g : Group). g.keys) keys_cmp_total)
