use Rattle.std.proofs.Common.{◌++◌, sym, ap, ◌∙◌}
use Rattle.std.proofs.lemmas.List.{append-nil}
use Rattle.standing_query.proofs.Ends.{keys_end, names_end}
use Rattle.standing_query.proofs.shown.cells_shown.Goals as goal
use Rattle.standing_query.proofs.shown.cells_shown.Goals.{then-loop-i-test+else-i-keys, else-loop-i-test}

pub returns : goal.returns
returns c = elim c.loop-i-test.branch [
  | then-loop-i-test+else-i-keys w ↦
      sym (append-nil c.loop-i.cells.items) ∙ ap (λ cells. c.loop-i.cells.items ++ cells) (sym (keys_end c.args.names.now c.args.keys.now c.loop-i.i w.if-i-keys.false)) ∙ c.loop-i.invariant.so_far
  | else-loop-i-test w ↦
      sym (append-nil c.loop-i.cells.items) ∙ ap (λ cells. c.loop-i.cells.items ++ cells) (sym (names_end c.args.names.now c.args.keys.now c.loop-i.i w.loop-i-test.false)) ∙ c.loop-i.invariant.so_far
]
