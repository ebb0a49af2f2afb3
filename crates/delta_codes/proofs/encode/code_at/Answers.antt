use Rattle.std.proofs.Common.{rules, ◌-◌, pos, w64, FitsSigned, slice_index_or, sym, ap, ◌∙◌, arith}
use Rattle.std.proofs.lemmas.Int.{wrapping_sub_is}
use Rattle.delta_codes.specs.Slots.{zigzag}
use Rattle.delta_codes.proofs.Slots.{code_between}
use Rattle.delta_codes.proofs.encode.code_at.Goals as goal

pub returns-else-i-eq0-clause-code : goal.returns-else-i-eq0-clause-code
returns-else-i-eq0-clause-code c =
    let values = c.args.values.now in let i = c.args.i in
    let here : FitsSigned w64 (slice_index_or values i (pos 0)) = search rules in
    let before : FitsSigned w64 (slice_index_or values (i - 1) (pos 0)) = search rules in
    c.zigzag.ensures ∙ ap zigzag (wrapping_sub_is w64 _ _ here before)
    ∙ sym (code_between values (i - 1) i (omega arith) c.if-i-eq0.false)
