use Rattle.std.proofs.Common.{rules, arith, ◌≡◌, ℕ, List, ◌+◌, ◌-◌, ◌<◌, ◌≤◌, ◌^◌, ◌∙◌, Some, refl, sym, ap, subst, length, drop, take, get_or, true, false}
use Rattle.std.proofs.lemmas.List.{take_all, length-drop}
use Rattle.row_json.specs.Plain.{is_ended}
use Rattle.row_json.proofs.Plain.{null_found}
use Rattle.row_json.proofs.walk.null_at.Goals as goal

pub returns : goal.returns
returns c =
    let text = c.args.text.now in
    let rest = take (length text - 4) (drop 4 text) in
    let same : rest ≡ drop 4 text = take_all (length text - 4) (drop 4 text) (omega (arith, length-drop 4 text)) in
    let ended : is_ended rest ≡ true = search rules in
    null_found text rest (search rules) (search rules) (search rules) (search rules) (search rules) same ended
