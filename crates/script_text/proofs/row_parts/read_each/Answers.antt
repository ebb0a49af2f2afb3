use Rattle.std.proofs.Common.{Bor, List, ℕ, Result, ap, sym, subst, ◌∙◌}
use Rattle.std.specs.List.{AllZip}
use Rattle.rayon.proofs.ListFacts.{IfOk-then}
use Rattle.rayon.proofs.ToStd.{slice-AllZip}
use Rattle.row_model.specs.declared.rows.Row.{Row}
use Rattle.row_model.specs.declared.script_fault.ScriptFault.{ScriptFault}
use Rattle.script_text.specs.Parts.{IsPartRead}
use Rattle.script_text.proofs.row_parts.read_each.Goals as goal

pub returns : goal.returns
returns g c =
    let parts = c.args.parts.now in
    let slice = ap (λ it. it.base.slice.now) c.map.ensures.base ∙ ap (λ it. it.slice.now) c.with_min_len.ensures.base ∙ c.par_iter.ensures in
    IfOk-then c.collect.result _ _ c.collect.ensures (λ v h.
    subst (λ (reads : List (Result (List Row) ScriptFault)). AllZip (λ (p : Bor (List ℕ)) r. IsPartRead p.now r) parts reads) (sym h.2)
    (slice-AllZip h.1.0 parts (h.1.1 ∙ slice) (λ (p : Bor (List ℕ)) r. IsPartRead p.now r) h.0 h.1.2))
