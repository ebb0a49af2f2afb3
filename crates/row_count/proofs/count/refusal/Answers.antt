use Rattle.std.proofs.Common.{sym, subst}
use Rattle.row_count.specs.Outcome.{CountIsStopped}
use Rattle.row_count.proofs.Pieces.{refused_read, refused_whole}
use Rattle.row_count.proofs.count.refusal.Goals as goal

pub returns-in-Ok-clause-stopped : goal.returns-in-Ok-clause-stopped
returns-in-Ok-clause-stopped g c = λ range before at.
    subst (λ s. CountIsStopped range before (g.S.Source.left c.pass_rest.new.source) s) (sym c.status_of.ensures)
    (refused_whole range before _ (g.S.Source.left c.pass_rest.new.source) c.args.taken c.args.error at c.requires c.in-Ok.ensures.read)

pub returns-in-Err-clause-stopped : goal.returns-in-Err-clause-stopped
returns-in-Err-clause-stopped g c = λ range before at.
    subst (λ s. CountIsStopped range before (g.S.Source.left c.pass_rest.new.source) s) (sym c.from.ensures)
    (refused_read range before _ (g.S.Source.left c.pass_rest.new.source) c.args.taken c.args.error c.in-Err.error at c.requires c.in-Err.ensures.too_long c.in-Err.ensures.takes)
