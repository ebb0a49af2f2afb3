use Rattle.std.proofs.Common.{rules, arith, ◌≡◌, ◌+◌, ◌-◌, ◌<◌, ◌≤◌, ◌∙◌, refl, sym, ap, subst, length, drop, take, get_or, true, false}
use Rattle.std.proofs.lemmas.List.{take_all, length-drop}
use Rattle.row_json.proofs.Plain.{text_read}
use Rattle.row_json.specs.Plain.{is_ended}
use Rattle.row_json.proofs.walk.text_at.Goals as goal

pub returns : goal.returns
returns c =
    let ended : is_ended c.in_ok-inside.rest.now ≡ true = search rules in
    text_read c.args.text.now c.in_ok-inside.inside.now c.in_ok-inside.rest.now c.in_ok-inside.ensures ended
