use Rattle.std.proofs.Common.{rules, ◌≡◌, [], sym, ap, ◌∙◌}
use Rattle.leaf_model.specs.Lent.{each_value, lent_cells, lent_row}
use Rattle.leaf_model.specs.Looks.{filled}
use Rattle.leaf_model.proofs.SeenLaws.{all_kept, all_seen, no_cells}
use Rattle.leaf_model.proofs.looks.look_at.Goals as goal

pub returns-clause-seen : goal.returns-clause-seen
returns-clause-seen c =
    let values = each_value c.loop-cell.seen.items in
    let none : lent_cells c.loop-cell.left ≡ [] = search (rules, c.split_first.ensures, c.in_default.is) in
    sym (all_kept c.args.sought.now values (no_cells c.loop-cell.seen.items c.args.sought.now (search (rules, c.loop-cell.invariant.same))))
    ∙ ap (filled c.args.sought.now values) (sym none)
    ∙ c.loop-cell.invariant.filled
    ∙ all_seen (lent_row c.args.row.now) c.args.sought.now
