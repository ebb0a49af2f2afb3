use Rattle.std.proofs.Common.{◌≡◌, ◌+◌, ◌<◌, ◌^◌, ◌∙◌, List, ap, length, arith}
use Rattle.row_model.specs.declared.rows.Row.{Row}
use Rattle.text_lines.specs.Lines.{lines_of}
use Rattle.script_text.proofs.InParts.{alone_read, alone_fits, alone_refused}
use Rattle.script_text.proofs.row_parts.read_alone.Goals as goal

pub of-requires : goal.of-requires
of-requires c =
    let many : length c.in-Ok.rows ≡ c.args.count = (alone_read c.args.number (lines_of c.args.text.now) c.in-Ok.rows c.in-Ok.ensures.exact).1 ∙ c.requires.lines in
    omega (arith, many, c.requires.few)

pub fault_behind-requires : goal.fault_behind-requires
fault_behind-requires c =
    let place : c.args.number + length (lines_of c.args.text.now) < 2 ^ 64 = omega (arith, c.requires.lines, c.requires.place) in
    alone_fits c.args.number (lines_of c.args.text.now) c.in-Err.fault (2 ^ 64) c.in-Err.ensures.exact place

pub returns-in-Ok-clause-count : goal.returns-in-Ok-clause-count
returns-in-Ok-clause-count c =
    ap (λ (rows : List Row). length rows) c.of.ensures ∙ (alone_read c.args.number (lines_of c.args.text.now) c.in-Ok.rows c.in-Ok.ensures.exact).1 ∙ c.requires.lines

pub returns-in-Err-clause-exact : goal.returns-in-Err-clause-exact
returns-in-Err-clause-exact c =
    alone_refused c.args.number (lines_of c.args.text.now) c.in-Err.fault c.fault_behind.result c.in-Err.ensures.exact c.fault_behind.ensures
