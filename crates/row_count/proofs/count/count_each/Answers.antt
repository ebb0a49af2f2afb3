use Rattle.std.proofs.Common.{Bor, List, ℕ, Result, ap, sym, subst, ◌∙◌}
use Rattle.std.specs.List.{AllZip}
use Rattle.rayon.proofs.ListFacts.{IfOk-then}
use Rattle.rayon.proofs.ToStd.{slice-AllZip}
use Rattle.row_count.specs.declared.count.CountError.{CountError}
use Rattle.row_count.specs.declared.count.PartCount.{PartCount}
use Rattle.row_count.specs.declared.count.Range.{Range}
use Rattle.row_count.specs.Count.{IsPartCounted}
use Rattle.row_count.proofs.count.count_each.Goals as goal

pub returns : goal.returns
returns g c =
    let range = c.args.range.now in let parts = c.args.parts.now in
    let slice = ap (λ it. it.base.slice.now) c.map.ensures.base ∙ ap (λ it. it.slice.now) c.with_min_len.ensures.base ∙ c.par_iter.ensures in
    let same = ap (λ f. f.1.now) c.map.ensures.f in
    IfOk-then c.collect.result _ _ c.collect.ensures (λ v h.
    let counted = subst (λ (r : Range). AllZip (λ (z : Bor (Bor (List ℕ))) one. IsPartCounted r z.now.now one) h.1.0 h.0) same h.1.2 in
    subst (λ (counts : List (Result PartCount CountError)). AllZip (λ (p : Bor (List ℕ)) one. IsPartCounted range p.now one) parts counts) (sym h.2)
    (slice-AllZip h.1.0 parts (h.1.1 ∙ slice) (λ (p : Bor (List ℕ)) one. IsPartCounted range p.now one) h.0 counted))
