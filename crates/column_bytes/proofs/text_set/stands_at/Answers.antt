use Rattle.std.proofs.Common.{◌∙◌, sym, ap, Bor, List, ℕ}
use Rattle.std.proofs.lemmas.Slice.Eq.{bytes_eq-Decides}
use Rattle.column_bytes.proofs.Distinct.{lent_at}
use Rattle.column_bytes.proofs.text_set.stands_at.Goals as goal

pub returns-in-Some-clause-same : goal.returns-in-Some-clause-same
returns-in-Some-clause-same c = λ is.
    let equal = (bytes_eq-Decides c.as_bytes.result.now c.as_bytes-in-Some.result.now).0 (sym c.eq.ensures ∙ is) in
    let found = c.in-Some.ensures.lookup in
    lent_at c.args.texts.now c.args.place c.in-Some.other.now found.3.0 ∙ ap (λ (text : Bor (List ℕ)). text.now) (sym found.1)
    ∙ sym c.as_bytes.ensures.value ∙ equal ∙ c.as_bytes-in-Some.ensures.value
