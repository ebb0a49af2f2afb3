use Rattle.std.proofs.Common.{rules, ◌≡◌, ◌+◌, ◌<◌, ◌∷◌, ◌++◌, [], get_or, take, length, refl, ap, subst, ◌∙◌, arith}
use Rattle.std.proofs.lemmas.List.{length-set, take_more}
use Rattle.row_blocks.specs.declared.runs.PlacedCell.{PlacedCell}
use Rattle.row_blocks.proofs.FrontRun.{one_more_lent}
use Rattle.row_blocks.proofs.runs.lend_run.Goals as goal

pub loop-placed-preserved : goal.loop-placed-preserved
loop-placed-preserved c =
    let cells = c.args.cells.now in let k = c.loop-placed.placed-index in let item = c.placed-item.result in
    let was = c.loop-placed.invariant in
    let values = c.loop-placed.values in
    let within : k < length cells = c.loop-placed-test.true in
    let item_is : get_or cells k item ≡ item = search (rules, c.placed-item.is) in
    let more : take (k + 1) cells ≡ take k cells ++ item ∷ [] = take_more cells k item within ∙ ap (λ (p : PlacedCell). take k cells ++ p ∷ []) item_is in
    let placed : item.place < length c.args.values.now = subst (λ (p : PlacedCell). p.place < length c.args.values.now) item_is (c.requires k item within) in
    let place : item.place < length values = omega (arith, placed, was.same) in
    record {
      same = length-set values item.place _ ∙ was.same;
      lent = λ i inside. one_more_lent values (take k cells) (take (k + 1) cells) item _ more refl place i (was.lent i inside);
    }
