use Rattle.std.proofs.Common.{◌-◌, Some, rules, sym, ap, ◌∙◌, arith, w64, FitsSigned}
use Rattle.std.proofs.lemmas.Int.{to_z-of_z}
use Rattle.row_model.specs.declared.rows.Value.TheVariants as values
use Rattle.row_blocks.specs.Blocks.{time_in_cell}
use Rattle.row_blocks.specs.Live.{time_at}
use Rattle.row_blocks.proofs.live.walked_time.Goals as goal

pub next_integer-requires-clause-inside : goal.next_integer-requires-clause-inside
next_integer-requires-clause-inside c = omega (arith, c.requires.times.count, c.requires.place)

pub next_integer-requires-clause-integer : goal.next_integer-requires-clause-integer
next_integer-requires-clause-integer c = (time_at c.args.block.now c.args.place, c.requires.times.each c.args.place c.requires.place)

pub next_integer-requires-clause-before : goal.next_integer-requires-clause-before
next_integer-requires-clause-before c = λ some.
    let place = c.args.place in
    c.requires.times.each (place - 1) (omega (arith, c.requires.place))
    ∙ ap (λ t. Some (values.Int t)) (sym (to_z-of_z w64 c.args.before c.ranges.before ∙ c.requires.before (omega (arith, c.requires.behind, c.if-place-skip.false))))

pub returns-else-place-skip : goal.returns-else-place-skip
returns-else-place-skip c =
    let fits : FitsSigned w64 c.next_integer.result = search rules in
    to_z-of_z w64 _ fits ∙ ap time_in_cell (sym c.next_integer.ensures ∙ c.requires.times.each c.args.place c.requires.place)
