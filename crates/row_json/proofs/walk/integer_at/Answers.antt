use Rattle.std.proofs.Common.{rules, arith, ◌≡◌, ℕ, List, ◌+◌, ◌-◌, ◌<◌, ◌≤◌, ◌^◌, ◌∙◌, Some, refl, sym, ap, subst, length, drop, take, get_or, true, false}
use Rattle.std.proofs.lemmas.List.{take_all, length-drop}
use Rattle.std.specs.Int.{w64}
use Rattle.std.proofs.lemmas.Int.{to_z_pos}
use Rattle.row_json.proofs.Plain.{natural_read, negative_read, negated}
use Rattle.row_json.proofs.walk.integer_at.Goals as goal

pub returns-then-is_empty : goal.returns-then-is_empty
returns-then-is_empty c =
    let found = c.in_ok-number.ensures in
    let n = c.in_ok-number.number in
    let ds = found.is.0 in
    let made = natural_read c.args.text.now ds c.in_ok-number.rest.now n found.is.1 found.is.2 found.ended in
    (made.0, made.1, made.2 ∙ ap Some (sym (to_z_pos w64 n found.is.2.small)))

pub returns : goal.returns
returns c =
    let found = c.in_ok-number-2.ensures in
    let n = c.in_ok-number-2.number in
    let ds = found.is.0 in
    let text = c.args.text.now in
    let all = take_all (length text - 1) (drop 1 text) (omega (arith, length-drop 1 text)) in
    let some : 0 < n = omega (arith, c.if-number-eq0.false) in
    let made = negative_read text ds c.in_ok-number-2.rest.now n some (search rules) (search rules) (sym all ∙ found.is.1) found.is.2 found.ended in
    (made.0, made.1, made.2 ∙ ap Some (sym (negated n found.is.2.small)))
