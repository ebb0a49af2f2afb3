use Rattle.std.proofs.Common.{rules, ◌≡◌, ◌+◌, Err, sym, ◌∙◌, ap, arith}
use Rattle.text_lines.specs.Lines.{lines_of}
use Rattle.script_text.specs.Script.{IfAt, NumberedLine, begun, read_from}
use Rattle.script_text.proofs.Keeps.{closed_fits_as}
use Rattle.script_text.proofs.Steps.{parses_as, read_end, read_step, refused_at}
use Rattle.script_text.proofs.parsing.script_behind.Goals as goal

pub returns-in_err-step-clause-exact : goal.returns-in_err-step-clause-exact
returns-in_err-step-clause-exact g c =
    let fleet = c.args.fleet.now in
    let line : NumberedLine = record { number = c.in-Some.line.number; bytes = c.in-Some.line.bytes.now; after = lines_of c.in-Some.line.after.now } in
    let whole = read_from c.args.last fleet 0 (c.args.fleet_line + 1) (begun c.args.fleet_line fleet) (lines_of c.args.text.now) in
    let fault : IfAt c.in_err-step.field-0.0 (λ at why. whole ≡ Err (at, why)) =
    refused_at c.args.last (c.loop-line.last_line + 1) fleet c.loop-line.reading (lines_of c.loop-line.rest.now) line whole c.in_err-step.field-0.0 c.in-Some.ensures.exact c.in_err-step.ensures.exact c.loop-line.invariant.0 in
    search (rules, fault)

pub loop-line-preserved : goal.loop-line-preserved
loop-line-preserved g c =
    let fleet = c.args.fleet.now in
    let line : NumberedLine = record { number = c.in-Some.line.number; bytes = c.in-Some.line.bytes.now; after = lines_of c.in-Some.line.after.now } in
    let step = c.in_ok-step.step in
    let inv = c.loop-line.invariant in
    let behind = read_step c.args.last (c.loop-line.last_line + 1) fleet c.loop-line.reading (lines_of c.loop-line.rest.now) line step c.in-Some.ensures.exact c.in_ok-step.ensures.exact in (
      ap (read_from c.args.last fleet 0 (line.number + step.rows + 1) step.reading) c.behind_rows-rest.ensures.lines ∙ sym behind ∙ inv.0,
      omega (arith, inv.1, c.in-Some.ensures.place, c.behind_rows-rest.ensures.shorter),
      c.in_ok-step.ensures.is_reading,
    )

pub returns-clause-exact : goal.returns-clause-exact
returns-clause-exact g c =
    let fleet = c.args.fleet.now in
    let whole = read_from c.args.last fleet 0 (c.args.fleet_line + 1) (begun c.args.fleet_line fleet) (lines_of c.args.text.now) in
    let read = read_end c.args.last (c.loop-line.last_line + 1) fleet c.loop-line.reading (lines_of c.loop-line.rest.now) whole c.in_default.ensures.exact c.loop-line.invariant.0 in
    parses_as c.closed.result _ whole read c.closed.ensures.exact

pub returns-clause-fits : goal.returns-clause-fits
returns-clause-fits g c = closed_fits_as c.args.last c.args.fleet.now c.loop-line.reading c.closed.result c.requires.fleet c.loop-line.invariant.2 c.closed.ensures.exact
