use Rattle.std.proofs.Common.{◌≡◌, List, ℕ, length, Some, None, Option, option_map, false, true, nat_lt, ◌==◌, ◌||◌, Ok, sym, ap, subst, ◌∙◌, arith}
use Rattle.json.specs.Token.{Token}
use Rattle.json.specs.Reads.{token_of}
use Rattle.serde_json.specs.Data.{Data, null, number, string}
use Rattle.row_json.specs.Row.{is_bad_name, cell_of}
use Rattle.row_json.specs.Quick.{data_of, HasNoFault}
use Rattle.row_json.proofs.Seen.{fine_number, fine_string, fine_null, good_name}
use Rattle.row_json.proofs.quick.cell_in.Goals as goal

pub returns-in_ok-_integer-in-Number : goal.returns-in_ok-_integer-in-Number
returns-in_ok-_integer-in-Number c =
    let found = c.in_ok-_integer-in-Number.ensures in
    let good = good_name c.args.name.now (grind arith) (grind arith) in
    (number found.0, ap (λ t. data_of (token_of t)) c.in-Number.is ∙ ap (option_map number) found.1, fine_number c.args.name.now found.0 c.in_ok-_integer-in-Number._integer c.requires good found.2)

pub returns-else-text-gt-MAX_TEXT : goal.returns-else-text-gt-MAX_TEXT
returns-else-text-gt-MAX_TEXT c =
    let good = good_name c.args.name.now (grind arith) (grind arith) in
    (string c.in-String.text.now, ap (λ t. data_of (token_of t)) c.in-String.is, fine_string c.args.name.now c.in-String.text.now c.requires good (grind arith))

pub returns-in-Null : goal.returns-in-Null
returns-in-Null c =
    let good = good_name c.args.name.now (grind arith) (grind arith) in
    (null, ap (λ t. data_of (token_of t)) c.in-Null.is, fine_null c.args.name.now c.requires good)
