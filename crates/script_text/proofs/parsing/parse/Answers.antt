use Rattle.std.proofs.Common.{rules, Err, ◌≡◌, [], ◌∙◌, ap}
use Rattle.text_lines.specs.Lines.{lines_of}
use Rattle.script_text.specs.Script.{IfAt, NumberedLine, script_of}
use Rattle.script_text.proofs.Steps.{if_parsed, if_refused, script_is, script_none, script_first_fault}
use Rattle.script_text.proofs.parsing.parse.Goals as goal

pub returns-in_default-clause-parsed : goal.returns-in_default-clause-parsed
returns-in_default-clause-parsed g c =
    let none : c.of.result ≡ [] = c.of.ensures ∙ c.new.ensures.items in
    script_none c.args.text.now _ c.in_default.ensures.exact (ap (λ items. record { fleet_line = 0; items = items; standings = 0 }) none)

pub returns-in_err-fleet-clause-refused : goal.returns-in_err-fleet-clause-refused
returns-in_err-fleet-clause-refused g c =
    let line : NumberedLine = record { number = c.in-Some.first.number; bytes = c.in-Some.first.bytes.now; after = lines_of c.in-Some.first.after.now } in
    let fault : IfAt c.in_err-fleet.field-0.0 (λ at why. script_of c.args.text.now ≡ Err (at, why)) =
    script_first_fault c.args.text.now line c.in_err-fleet.field-0.0 c.in-Some.ensures.exact c.in_err-fleet.ensures.exact in
    search (rules, fault)

pub returns-clause-parsed : goal.returns-clause-parsed
returns-clause-parsed g c =
    let line : NumberedLine = record { number = c.in-Some.first.number; bytes = c.in-Some.first.bytes.now; after = lines_of c.in-Some.first.after.now } in
    if_parsed c.script_behind.result (script_of c.args.text.now) (script_is c.args.text.now line c.in_ok-fleet.fleet c.line_count.result c.script_behind.result c.in-Some.ensures.exact c.line_count.ensures c.in_ok-fleet.ensures.exact c.script_behind.ensures.exact)

pub returns-clause-refused : goal.returns-clause-refused
returns-clause-refused g c =
    let line : NumberedLine = record { number = c.in-Some.first.number; bytes = c.in-Some.first.bytes.now; after = lines_of c.in-Some.first.after.now } in
    if_refused c.script_behind.result (script_of c.args.text.now) (script_is c.args.text.now line c.in_ok-fleet.fleet c.line_count.result c.script_behind.result c.in-Some.ensures.exact c.line_count.ensures c.in_ok-fleet.ensures.exact c.script_behind.ensures.exact)
