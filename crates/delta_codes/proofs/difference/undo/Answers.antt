use Rattle.std.proofs.Common.{rules, ◌+ℤ◌, ap, ◌∙◌, w64, FitsSigned}
use Rattle.std.specs.Int.{int_wrap}
use Rattle.std.proofs.lemmas.Int.{wrapping_add_is}
use Rattle.delta_codes.proofs.difference.undo.Goals as goal

pub returns : goal.returns
returns c =
    let fits : FitsSigned w64 c.unzigzag.result = search rules in
    wrapping_add_is w64 c.args.anchor c.unzigzag.result c.ranges.anchor fits ∙ ap (λ d. int_wrap w64 (c.args.anchor +ℤ d)) c.unzigzag.ensures
