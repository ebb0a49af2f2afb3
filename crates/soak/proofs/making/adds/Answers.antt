use Rattle.std.proofs.Common.{◌≡◌, ◌+◌, ◌∙◌, ap}
use Rattle.soak.specs.Soak.{first_row, rows_between}
use Rattle.soak.proofs.Drawn.{adds_more}
use Rattle.soak.proofs.making.adds.Goals as goal

pub loop-leaf-preserved : goal.loop-leaf-preserved
loop-leaf-preserved c =
    let inv = c.loop-leaf.invariant in
    let leaf = c.loop-leaf.leaf in
    let own : c.in_ok-rows.rows ≡ rows_between c.args.seed (first_row c.args.rows leaf) (first_row c.args.rows (leaf + 1)) =
    c.in_ok-rows.ensures.exact ∙ ap (λ s. rows_between s c.loop-leaf.draw.next c.first_row.result) inv.1 ∙ ap (λ from. rows_between c.args.seed from c.first_row.result) inv.2
    ∙ ap (rows_between c.args.seed (first_row c.args.rows leaf)) c.first_row.ensures in (
      adds_more c.args.seed c.args.rows leaf c.loop-leaf.items.items _ c.in_ok-rows.rows inv.0 own c.in_ok-push-2.ensures.items,
      c.in_ok-rows.ensures.seed ∙ inv.1,
      c.in_ok-rows.ensures.next ∙ c.first_row.ensures,
    )
