use Rattle.std.proofs.Common.{length, IfOk, sym, ap, subst, ◌∙◌, arith}
use Rattle.leaf_model.specs.Lent.{each_value}
use Rattle.column_bytes.specs.Coding.{AreOfKind}
use Rattle.column_bytes.specs.Column.{HasCells}
use Rattle.column_bytes.proofs.Lent.{length-values}
use Rattle.column_bytes.proofs.column.encode.Goals as goal

pub encode_refs-requires-clause-some : goal.encode_refs-requires-clause-some
encode_refs-requires-clause-some c =
    let refs = c.deref.result.now in let same = ap each_value c.deref.ensures.value ∙ c.in_ok-lent.ensures in
    omega (arith, length-values refs, ap length same, c.requires.some)

pub encode_refs-requires-clause-few : goal.encode_refs-requires-clause-few
encode_refs-requires-clause-few c =
    let refs = c.deref.result.now in let same = ap each_value c.deref.ensures.value ∙ c.in_ok-lent.ensures in
    omega (arith, length-values refs, ap length same, c.requires.few)

pub encode_refs-requires-clause-kind : goal.encode_refs-requires-clause-kind
encode_refs-requires-clause-kind c = subst (AreOfKind c.args.kind) (sym (ap each_value c.deref.ensures.value ∙ c.in_ok-lent.ensures)) c.requires.kind

pub returns-clause-cells : goal.returns-clause-cells
returns-clause-cells c =
    let refs = c.deref.result.now in let same = ap each_value c.deref.ensures.value ∙ c.in_ok-lent.ensures in
    subst (λ cells. IfOk c.encode_refs.result (λ column. HasCells column (length cells) cells)) same
    (subst (λ n. IfOk c.encode_refs.result (λ column. HasCells column n (each_value refs))) (sym (length-values refs)) c.encode_refs.ensures.cells)
