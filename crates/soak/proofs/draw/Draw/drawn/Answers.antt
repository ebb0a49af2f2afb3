use Rattle.std.proofs.Common.{◌≡◌, ◌+◌, ◌∙◌, sym, ap, subst, arith}
use Rattle.row_model.specs.Values.{IsRow}
use Rattle.soak.specs.Soak.{row_at, row_with, rows_between}
use Rattle.soak.proofs.Drawn.{rows_more}
use Rattle.soak.proofs.Fitting.{row_fits}
use Rattle.soak.proofs.draw.Draw.drawn.Goals as goal

pub loop-self-preserved : goal.loop-self-preserved
loop-self-preserved c =
    let inv = c.loop-self.invariant in
    let seed = c.args.self.now.seed in
    let n = c.loop-self.self.next in
    let next : c.words-host.new.self.next ≡ n + 1 = c.words-host.ensures.next in
    let row : row_with n c.words-host.result.0 c.words-host.result.1 ≡ row_at seed n = c.words-host.ensures.row ∙ ap (λ s. row_at s n) inv.0 in
    let more = rows_more seed c.args.self.now.next n c.loop-self.rows _ (row_with n c.words-host.result.0 c.words-host.result.1) inv.1 inv.3 row c.in_ok-put_row.ensures.put in (
      c.words-host.ensures.seed ∙ inv.0,
      omega (arith, next, inv.1),
      omega (arith, next, c.loop-self-test.true),
      more ∙ ap (rows_between seed c.args.self.now.next) (sym next),
      c.put_row.ensures.hosts,
    )

pub put_row-requires-clause-row : goal.put_row-requires-clause-row
put_row-requires-clause-row c =
    let seed = c.args.self.now.seed in
    let n = c.loop-self.self.next in
    let row : row_with n c.words-host.result.0 c.words-host.result.1 ≡ row_at seed n = c.words-host.ensures.row ∙ ap (λ s. row_at s n) c.loop-self.invariant.0 in
    subst IsRow (sym row) (row_fits seed n (omega (arith, c.loop-self-test.true, c.ranges.end)))
