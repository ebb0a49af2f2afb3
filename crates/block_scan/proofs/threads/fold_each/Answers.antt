use Rattle.std.proofs.Common.{Bor, ap, sym, subst, ◌∙◌}
use Rattle.std.specs.List.{AllZip}
use Rattle.rayon.proofs.ListFacts.{IfOk-then}
use Rattle.rayon.proofs.ToStd.{slice-AllZip}
use Rattle.leaf_model.specs.declared.queries.Query.{Query}
use Rattle.block_scan.specs.Seen.{IsFolded, SeenBlock}
use Rattle.block_scan.proofs.Merged.{Parts}
use Rattle.block_scan.proofs.threads.fold_each.Goals as goal

pub returns : goal.returns
returns g c =
    let q = c.args.query.now in let views = c.args.views.now in
    let slice = ap (λ it. it.base.slice.now) c.map.ensures.base ∙ ap (λ it. it.slice.now) c.with_min_len.ensures.base ∙ c.par_iter.ensures in
    let query = ap (λ f. f.1.now) c.map.ensures.f in
    IfOk-then c.collect.result _ _ c.collect.ensures (λ v h.
    let folded = subst (λ (p : Query). AllZip (λ (z : Bor SeenBlock) r. IsFolded p z.now r) h.1.0 h.0) query h.1.2 in
    subst (λ (parts : Parts). AllZip (IsFolded q) views parts) (sym h.2)
    (slice-AllZip h.1.0 views (h.1.1 ∙ slice) (λ s r. IsFolded q s r) h.0 folded))
