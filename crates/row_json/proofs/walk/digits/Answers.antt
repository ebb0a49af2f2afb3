use Rattle.std.proofs.Common.{rules, arith, ◌≡◌, ℕ, List, ◌+◌, ◌-◌, ◌<◌, ◌≤◌, ◌^◌, ◌∙◌, Some, refl, sym, ap, subst, length, drop, take, get_or, true, false}
use Rattle.std.proofs.lemmas.List.{take_all, length-drop}
use Rattle.row_json.proofs.Plain.{digits_next}
use Rattle.row_json.proofs.walk.digits.Goals as goal

pub digits-preserved : goal.digits-preserved
digits-preserved c =
    let l = c.digits in
    let digit : c.from.result + 48 ≡ get_or c.args.text.now l.at 0 = omega (arith, c.from.ensures, c.if-text-at-ge48.true) in
    let few : c.from.result ≤ 9 = omega (arith, digit, c.if-text-at-le57.true) in
    let less = c.if-number-lt-MOST.true in
    (digits_next c.args.text.now l.number l.at c.from.result l.invariant.0 c.digits-test.true c.if-text-at-ge48.true c.if-text-at-le57.true digit (omega (arith, less, few)), omega (arith, less, few))
