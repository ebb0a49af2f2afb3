use Rattle.std.proofs.Common.{rules, arith, ◌≡◌, ℕ, List, ◌+◌, ◌-◌, ◌<◌, ◌≤◌, ◌^◌, ◌∙◌, Some, refl, sym, ap, subst, length, drop, take, get_or, true, false}
use Rattle.std.proofs.lemmas.List.{take_all, length-drop}
use Rattle.row_json.proofs.Plain.{name_read}
use Rattle.row_json.proofs.walk.name_at.Goals as goal

pub returns : goal.returns
returns c =
    let rest = c.in_ok-name.rest.now in
    let after = take (length rest - 1) (drop 1 rest) in
    let same : after ≡ drop 1 rest = take_all (length rest - 1) (drop 1 rest) (omega (arith, length-drop 1 rest)) in
    name_read c.args.text.now c.in_ok-name.name.now rest after c.in_ok-name.ensures (search rules) (search rules) same
