use Rattle.std.proofs.Common.{◌∙◌, subst, sym}
use Rattle.script_text.specs.Fits.{IsScript}
use Rattle.soak.proofs.Drawn.{whole}
use Rattle.soak.proofs.Fitting.{soak_fits}
use Rattle.soak.proofs.making.script.Goals as goal

pub returns-clause-exact : goal.returns-clause-exact
returns-clause-exact c =
    whole c.args.seed c.args.rows _ _ _ _ c.in_ok-items.ensures c.in_ok-push_queries.ensures c.in_ok-push.ensures.items (c.of.ensures ∙ c.in_ok-push_queries-2.ensures)

pub returns-clause-fits : goal.returns-clause-fits
returns-clause-fits c =
    let exact = whole c.args.seed c.args.rows _ _ _ _ c.in_ok-items.ensures c.in_ok-push_queries.ensures c.in_ok-push.ensures.items (c.of.ensures ∙ c.in_ok-push_queries-2.ensures) in
    subst IsScript (sym exact) (soak_fits c.args.seed c.args.rows c.requires.few)
