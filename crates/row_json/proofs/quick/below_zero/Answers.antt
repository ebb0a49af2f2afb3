use Rattle.std.proofs.Common.{◌≡◌, ℤ, pos, ◌<ℤ◌, FitsSigned, Some, arith, rules, sym, ap, subst, ◌∙◌}
use Rattle.std.specs.Int.{w64}
use Rattle.std.proofs.lemmas.Int.{to_z-of_z}
use Rattle.row_json.proofs.Seen.{below_zero_is}
use Rattle.row_json.proofs.quick.below_zero.Goals as goal

pub returns-then-number-lt0 : goal.returns-then-number-lt0
returns-then-number-lt0 c =
    let told = c.in_ok-number.ensures in
    let z = c.in_ok-number.number in
    let less : z <ℤ pos 0 = grind (arith, c.if-number-lt0.true) in
    let made = below_zero_is c.args.numeral.now z told.0.0 told.0.1 told.1 less in
    (made.0, made.1, made.2 ∙ ap Some (sym (to_z-of_z w64 z (subst (FitsSigned w64) (sym told.1) told.0.1))))
