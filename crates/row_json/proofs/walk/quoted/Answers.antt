use Rattle.std.proofs.Common.{rules, arith, ◌≡◌, ◌+◌, ◌-◌, ◌<◌, ◌≤◌, ◌∙◌, refl, sym, ap, subst, length, drop, take, get_or, true, false}
use Rattle.std.proofs.lemmas.List.{take_all, length-drop}
use Rattle.row_json.proofs.Plain.{quoted_read}
use Rattle.row_json.proofs.walk.quoted.Goals as goal

pub returns : goal.returns
returns c =
    let text = c.args.text.now in
    let inside = take (length text - 1) (drop 1 text) in
    let len = c.plain_len-len.result in
    let same : inside ≡ drop 1 text = take_all (length text - 1) (drop 1 text) (omega (arith, length-drop 1 text)) in
    quoted_read text inside len (length inside - (len + 1)) (search rules) (search rules) same c.plain_len-len.ensures.value (search rules) (search rules) (omega arith)
