use Rattle.std.proofs.Common.{◌≡◌, rules, ◌∙◌, w64, to_z, of_z}
use Rattle.query_text.proofs.Results.{on_ok}
use Rattle.query_text.proofs.printing.push_range.Goals as goal

pub returns : goal.returns
returns c =
    let table = rw c.as_str.ensures at c.in_ok-push_part-2.ensures in
    let low : to_z w64 (of_z w64 c.args.query.now.from) ≡ c.args.query.now.from = search rules in
    let high : to_z w64 (of_z w64 c.args.query.now.to) ≡ c.args.query.now.to = search rules in
    let low_part = rw low at c.in_ok-push_bound.ensures in
    let high_part = rw high at c.push_bound-2.ensures in
    on_ok c.push_bound-2.result (λ h further. h further ∙ low_part _ ∙ table _ ∙ c.in_ok-push_part.ensures _) high_part
