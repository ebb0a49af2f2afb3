use Rattle.std.proofs.Common.{◌≡◌, ◌+◌, ap, sym, ◌∙◌, arith, rules, ℤ, true, false, add-zero}
use Rattle.std.specs.Int.{w64}
use Rattle.std.proofs.lemmas.Int.{to_z-of_z}
use Rattle.row_model.specs.declared.rows.Row.{Row}
use Rattle.row_count.specs.Count.{is_in}
use Rattle.text_lines.specs.Lines.{is_blank, without_return}
use Rattle.row_count.proofs.Counts.{count_after, count_blank, count_start, count_row, more_by, one_line}
use Rattle.row_count.proofs.count.count_part.Goals as goal

pub loop-rest-init : goal.loop-rest-init
loop-rest-init c = (count_start c.args.range c.args.part.now, omega arith, omega arith, omega arith)

pub loop-rest-preserved : goal.loop-rest-preserved
loop-rest-preserved c =
    let blank : is_blank (without_return c.cut_line.result.0.now) ≡ true = cc in
    let one = one_line c.loop-rest.rest.now c.cut_line.result.0.now c.cut_line.result.1.now c.cut_line.ensures.lines in
    let inv = c.loop-rest.invariant in (
      inv.0 ∙ ap (more_by c.loop-rest.count) (count_blank c.args.range c.loop-rest.line_number c.loop-rest.rest.now c.cut_line.result.0.now c.cut_line.result.1.now c.cut_line.ensures.lines blank),
      omega arith,
      omega arith,
      omega (arith, one),
    )

pub loop-rest-preserved-then-is_in : goal.loop-rest-preserved-then-is_in
loop-rest-preserved-then-is_in c =
    let l = c.loop-rest in
    let one = one_line l.rest.now c.cut_line.result.0.now c.cut_line.result.1.now c.cut_line.ensures.lines in
    let found = c.in-Ok.ensures.read in
    let blank : is_blank (without_return c.cut_line.result.0.now) ≡ false = cc in
    let row_at : ℤ → Row = λ t. record { time = t; cells = found.0 } in
    let row = row_at c.in-Ok.time in
    let inside : is_in c.args.range row ≡ true = ap (λ t. is_in c.args.range (row_at t)) (sym (to_z-of_z w64 c.in-Ok.time (search rules))) ∙ sym (c.is_in.ensures found.0) ∙ c.if-is_in.true in
    let inv = l.invariant in (
      inv.0 ∙ count_row c.args.range l.count l.line_number l.rest.now c.cut_line.result.0.now c.cut_line.result.1.now row true c.cut_line.ensures.lines blank (grind arith) inside,
      omega arith,
      omega arith,
      omega (arith, one),
    )

pub loop-rest-preserved-else-is_in : goal.loop-rest-preserved-else-is_in
loop-rest-preserved-else-is_in c =
    let l = c.loop-rest in
    let one = one_line l.rest.now c.cut_line.result.0.now c.cut_line.result.1.now c.cut_line.ensures.lines in
    let found = c.in-Ok.ensures.read in
    let blank : is_blank (without_return c.cut_line.result.0.now) ≡ false = cc in
    let row_at : ℤ → Row = λ t. record { time = t; cells = found.0 } in
    let row = row_at c.in-Ok.time in
    let inside : is_in c.args.range row ≡ false = ap (λ t. is_in c.args.range (row_at t)) (sym (to_z-of_z w64 c.in-Ok.time (search rules))) ∙ sym (c.is_in.ensures found.0) ∙ c.if-is_in.false in
    let inv = l.invariant in (
      inv.0 ∙ count_row c.args.range l.count l.line_number l.rest.now c.cut_line.result.0.now c.cut_line.result.1.now row false c.cut_line.ensures.lines blank (grind arith) inside ∙ ap (λ k. more_by k (count_after c.args.range (l.line_number + 1) c.cut_line.result.1.now)) (add-zero l.count),
      omega arith,
      omega arith,
      omega (arith, one),
    )
