use Rattle.std.proofs.Common.{◌≡◌, ℤ, List, Some, None, Ok, Option, IfSome, sym, ap, subst, ◌∙◌, arith, rules}
use Rattle.row_model.specs.declared.rows.Cell.{Cell}
use Rattle.row_json.specs.Row.{row_of}
use Rattle.row_json.proofs.Seen.{quick_is}
use Rattle.row_json.proofs.quick.quick_time.Goals as goal

pub returns-in-Ok : goal.returns-in-Ok
returns-in-Ok c = quick_is c.utf8_time.result c.args.text.now (search rules) (grind arith)
