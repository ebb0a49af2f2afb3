use Rattle.std.proofs.Common.{List, ℕ, drop, ◌∙◌, ap, refl}
use Rattle.berth_mem.specs.declared.record.CutOff.{CutOff}
use Rattle.berth_mem.proofs.puts.region_shorten.Goals as goal

pub returns-clause-call : goal.returns-clause-call
returns-clause-call c =
    let cut : CutOff = record { len = c.args.len; lost = c.in_ok-lost.lost } in
    (cut, refl, c.in_ok-lost.ensures ∙ ap (λ (l : List ℕ). drop c.args.len l) c.deref.ensures.value, c.in_ok-push.ensures.items)
