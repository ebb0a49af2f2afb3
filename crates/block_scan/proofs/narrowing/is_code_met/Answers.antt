use Rattle.std.proofs.Common.{◌≡◌, ◌<◌, true, false, cond, Some, None, length, get_or, sym, ◌∙◌, arith}
use Rattle.std.proofs.lemmas.List.{get_or_read}
use Rattle.leaf_model.specs.Groups.{cond_accepts}
use Rattle.column_bytes.specs.Cells.{entries, no_value}
use Rattle.block_scan.proofs.Decodes.{accepted_at, accepted_count}
use Rattle.block_scan.proofs.narrowing.is_code_met.Goals as goal

pub bounds-accepted-index : goal.bounds-accepted-index
bounds-accepted-index c =
    let present = c.args.found.now.present.items in let codes = c.args.found.now.codes.items in let place = c.args.place in
    let code = c.index-then-index.result.now in
    let here : get_or present place false ≡ true = sym (get_or_read present place c.index.result.now (omega (arith, c.requires.sized.0, c.requires.place)) c.index.ensures false) ∙ c.if-index.true in
    let at : get_or codes place 0 ≡ code = sym (get_or_read codes place code (omega (arith, c.requires.sized.1, c.requires.place)) c.index-then-index.ensures 0) in
    omega (arith, at, c.requires.sized.2 place c.requires.place here, accepted_count c.args.cond.now (entries c.args.found.now.view.now.book) c.args.accepted.now c.requires.accepted)

pub returns-then-index : goal.returns-then-index
returns-then-index c =
    let all = entries c.args.found.now.view.now.book in
    let present = c.args.found.now.present.items in let codes = c.args.found.now.codes.items in let place = c.args.place in
    let code = c.index-then-index.result.now in
    let here : get_or present place false ≡ true = sym (get_or_read present place c.index.result.now (omega (arith, c.requires.sized.0, c.requires.place)) c.index.ensures false) ∙ c.if-index.true in
    let at : get_or codes place 0 ≡ code = sym (get_or_read codes place code (omega (arith, c.requires.sized.1, c.requires.place)) c.index-then-index.ensures 0) in
    let within : code < length all = omega (arith, at, c.requires.sized.2 place c.requires.place here) in
    accepted_at c.args.cond.now all c.args.accepted.now code c.requires.accepted within
    ∙ (λ i. cond_accepts c.args.cond.now (cond (sym here i) (Some (get_or all (sym at i) no_value)) None))
