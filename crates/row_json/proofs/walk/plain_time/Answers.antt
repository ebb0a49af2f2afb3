use Rattle.std.proofs.Common.{rules, arith, ◌≡◌, ℕ, List, ◌+◌, ◌-◌, ◌<◌, ◌≤◌, ◌^◌, ◌∙◌, Some, refl, sym, ap, subst, length, drop, take, get_or, true, false}
use Rattle.std.proofs.lemmas.List.{take_all, length-drop}
use Rattle.json.specs.Json.{members, value}
use Rattle.json.specs.Lex.{fresh}
use Rattle.std.proofs.Common.{[], ℤ, IfSome}
use Rattle.serde_json.specs.Data.{Members, no_members}
use Rattle.serde_json.specs.Read.{converted, of_members}
use Rattle.row_json.specs.Quick.{AreOfRow}
use Rattle.row_json.specs.Plain.{json_tokens_from}
use Rattle.row_json.proofs.Plain.{walked}
use Rattle.row_json.proofs.walk.plain_time.Goals as goal

pub returns : goal.returns
returns c =
    let text = c.args.text.now in
    let all = take_all (length text - 1) (drop 1 text) (omega (arith, length-drop 1 text)) in
    let told = subst (λ (r : List ℕ). IfSome c.members_time.result (λ (time : ℤ). (ms : Members) × (converted (λ ms. of_members ms no_members) (members (value 126) (length (json_tokens_from fresh r)) (json_tokens_from fresh r)) ≡ Some (ms, [])) × AreOfRow time ms)) all c.members_time.ensures in
    walked c.members_time.result text (search rules) (search rules) told
