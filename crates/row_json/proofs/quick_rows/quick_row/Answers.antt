use Rattle.std.proofs.Common.{◌≡◌, Some, arith, rules}
use Rattle.serde_json.specs.Data.{object}
use Rattle.serde_json.specs.Read.{read}
use Rattle.row_json.proofs.Made.{row_made}
use Rattle.row_json.proofs.quick_rows.quick_row.Goals as goal

pub returns-clause-exact : goal.returns-clause-exact
returns-clause-exact c =
    let found = c.in_ok-row.ensures.exact in
    let reads : read c.args.text.now ≡ Some (object found.0) = grind arith in
    row_made c.args.text.now found.0 c.in_ok-row.row (search rules) reads found.2
