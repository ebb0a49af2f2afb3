use Rattle.std.proofs.Common.{rules, ◌≡◌, ◌^◌, [], arith}
use Rattle.text_lines.proofs.InParts.{lines_short}
use Rattle.row_count.proofs.Counts.{all_counted, all_lines, counts_fit, error_fits, none_counted, one_counted, part_refused}
use Rattle.row_count.proofs.count.count_rows.Goals as goal

pub loop-count-init : goal.loop-count-init
loop-count-init g c =
    none_counted c.args.range c.args.text.now c.in_ok-parts.parts.items c.in_ok-count_each.field-0.items c.from_vec-counts.result.items c.in_ok-parts.ensures.lines c.from_vec-counts.ensures.items (search rules)

pub overflow_add-lines : goal.overflow_add-lines
overflow_add-lines g c =
    let fit = counts_fit c.args.range c.args.text.now c.loop-count.lines c.loop-count.rows c.loop-count.counts.items c.pop_front.new.self.items c.in-Some.count c.loop-count.invariant c.in-Some.ensures.items c.in-Ok.part c.in-Ok.is in
    omega (arith, fit, lines_short c.args.text.now)

pub overflow_add-rows : goal.overflow_add-rows
overflow_add-rows g c =
    let fit = counts_fit c.args.range c.args.text.now c.loop-count.lines c.loop-count.rows c.loop-count.counts.items c.pop_front.new.self.items c.in-Some.count c.loop-count.invariant c.in-Some.ensures.items c.in-Ok.part c.in-Ok.is in
    omega (arith, fit, lines_short c.args.text.now)

pub loop-count-preserved : goal.loop-count-preserved
loop-count-preserved g c =
    one_counted c.args.range c.args.text.now c.loop-count.lines c.loop-count.rows c.loop-count.counts.items c.pop_front.new.self.items c.in-Some.count c.loop-count.invariant c.in-Some.ensures.items c.in-Ok.part c.in-Ok.is

pub error_behind-requires : goal.error_behind-requires
error_behind-requires g c =
    error_fits c.args.range c.args.text.now c.loop-count.lines c.loop-count.rows c.loop-count.counts.items c.pop_front.new.self.items c.in-Some.count c.loop-count.invariant c.in-Some.ensures.items c.in-Err.error (2 ^ 64) c.in-Err.is (omega (arith, lines_short c.args.text.now))

pub returns-in-Err-clause-refused : goal.returns-in-Err-clause-refused
returns-in-Err-clause-refused g c =
    part_refused c.args.range c.args.text.now c.loop-count.lines c.loop-count.rows c.loop-count.counts.items c.pop_front.new.self.items c.in-Some.count c.loop-count.invariant c.in-Some.ensures.items c.in-Err.error c.error_behind.result c.in-Err.is c.error_behind.ensures

pub returns-clause-lines : goal.returns-clause-lines
returns-clause-lines g c =
    let none : c.loop-count.counts.items ≡ [] = search rules in
    all_lines c.args.range c.args.text.now c.loop-count.lines c.loop-count.rows c.loop-count.counts.items c.loop-count.invariant none

pub returns-clause-rows : goal.returns-clause-rows
returns-clause-rows g c =
    let none : c.loop-count.counts.items ≡ [] = search rules in
    all_counted c.args.range c.args.text.now c.loop-count.lines c.loop-count.rows c.loop-count.counts.items c.loop-count.invariant none
