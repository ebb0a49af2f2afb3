use Rattle.std.proofs.Common.{rules, ◌≡◌, ◌+◌, ◌^◌, ◌∙◌, List, [], ap, arith, length}
use Rattle.row_model.specs.declared.rows.Row.{Row}
use Rattle.script_text.proofs.InParts.{all_read, fault_fits, none_read, one_read, part_refused}
use Rattle.script_text.proofs.row_parts.read_rows.Goals as goal

pub loop-part-init : goal.loop-part-init
loop-part-init g c =
    none_read c.args.number c.args.text.now c.new-rows.result c.in_ok-parts.parts.items c.in_ok-read_each.field-0.items c.from_vec-read.result.items c.new-rows.ensures c.from_vec-read.ensures.items c.in_ok-parts.ensures.lines
    (search rules)

pub loop-part-preserved : goal.loop-part-preserved
loop-part-preserved g c =
    one_read c.args.number c.args.text.now c.loop-part.rows c.loop-part.read.items c.pop_front.new.self.items c.in-Some.part c.loop-part.invariant c.in-Some.ensures.items c.in-Ok.part c.put_behind.new.rows c.in-Ok.is
    c.in_ok-put_behind-in-Ok.ensures

pub fault_behind-requires : goal.fault_behind-requires
fault_behind-requires g c =
    fault_fits c.args.number c.args.text.now c.loop-part.rows c.loop-part.read.items c.pop_front.new.self.items c.in-Some.part c.loop-part.invariant c.in-Some.ensures.items c.in-Err.fault (2 ^ 64) (c.args.number + c.len.result) c.in-Err.is (omega arith) (omega arith)

pub returns-in-Err-clause-exact : goal.returns-in-Err-clause-exact
returns-in-Err-clause-exact g c =
    let told = part_refused c.args.number c.args.text.now c.loop-part.rows c.loop-part.read.items c.pop_front.new.self.items c.in-Some.part c.loop-part.invariant c.in-Some.ensures.items c.in-Err.fault c.fault_behind.result (c.args.number + c.len.result) c.in-Err.is (omega arith) c.fault_behind.ensures in
    search (rules, told)

pub returns-clause-exact : goal.returns-clause-exact
returns-clause-exact g c =
    let none : c.loop-part.read.items ≡ [] = search rules in
    let all = all_read c.args.number c.args.text.now c.loop-part.rows c.loop-part.read.items c.loop-part.invariant none in
    search (rules, all.0, c.of.ensures)

pub returns-clause-count : goal.returns-clause-count
returns-clause-count g c =
    let none : c.loop-part.read.items ≡ [] = search rules in
    let all = all_read c.args.number c.args.text.now c.loop-part.rows c.loop-part.read.items c.loop-part.invariant none in
    ap (λ (rows : List Row). length rows) c.of.ensures ∙ all.1 ∙ c.requires.lines
