use Rattle.std.proofs.Common.{◌≡◌, [], ◌∷◌, length, Some, ap, ◌∙◌, arith}
use Rattle.json.specs.Token.{Token}
use Rattle.json.specs.Lex.{tokens}
use Rattle.json.specs.Json.{members, value, parse_map}
use Rattle.json.proofs.Grammar.{value-begin_object}
use Rattle.serde_json.specs.Data.{object}
use Rattle.serde_json.specs.Read.{of_json, converted}
use Rattle.row_json.proofs.Grown.{converted_object, whole_text}
use Rattle.row_json.proofs.quick_rows.text_row.Goals as goal

pub returns-clause-exact : goal.returns-clause-exact
returns-clause-exact c =
    let ts = tokens c.args.text.now in
    let s = c.next.new.self in
    let found = c.in_ok-row.ensures.exact in
    let all = found.0 in
    let first : ts ≡ Token.begin_object ∷ s = grind arith in
    let last : c.members_row.new.reader ≡ [] = grind arith in
    let opened = ap (converted of_json) (ap (value 127) first ∙ value-begin_object 127 s (omega arith)) ∙ converted_object (members (value 126) (length s) s) in
    let done : converted of_json (value 127 ts) ≡ Some (object all, []) = opened ∙ ap (parse_map object) found.1 ∙ ap (λ r. Some (object all, r)) last in
    (all, whole_text (value 127 ts) (object all) done, found.2)
