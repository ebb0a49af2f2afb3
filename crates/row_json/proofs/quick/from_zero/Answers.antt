use Rattle.std.proofs.Common.{◌≡◌, ◌<◌, ◌≤◌, ◌^◌, pos, Some, arith, rules, subst, sym, ap, ◌∙◌}
use Rattle.std.specs.Int.{w64}
use Rattle.std.proofs.lemmas.Int.{to_z_pos}
use Rattle.serde_json.specs.Data.{Num}
use Rattle.serde_json.specs.Find.{as_i64}
use Rattle.serde_json.specs.Read.{number_from}
use Rattle.row_json.proofs.Seen.{from_zero_is}
use Rattle.row_json.proofs.quick.from_zero.Goals as goal

pub returns-then-number : goal.returns-then-number
returns-then-number c =
    let told = c.in_ok-number.ensures in
    let n = c.in_ok-number.number in
    let small : n < 2 ^ 63 = omega (arith, c.if-number.true) in
    let made = from_zero_is c.args.numeral.now n told.0.0 told.0.1 told.1 small in
    (made.0, made.1, made.2 ∙ ap Some (sym (to_z_pos w64 n small)))
