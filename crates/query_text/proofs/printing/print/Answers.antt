use Rattle.std.proofs.Common.{◌≡◌, [], ◌++◌, ◌∙◌, rules, sym, ap, string_bytes}
use Rattle.std.specs.Prelude.{codes, decimal}
use Rattle.std.proofs.lemmas.List.{append-nil}
use Rattle.query_text.proofs.printing.print.Goals as goal

pub returns : goal.returns
returns c =
    let names = rw c.as_slice.ensures at c.in_ok-push_names.ensures in
    let aggs = rw c.as_slice-2.ensures at c.in_ok-push_aggs.ensures in
    let conds = rw c.as_slice-3.ensures at c.in_ok-push_conds.ensures in
    let group = rw c.as_slice-4.ensures at c.in_ok-push_group.ensures in
    let order = rw c.as_slice-5.ensures at c.in_ok-push_order.ensures in
    let limit : string_bytes c.push_limit.new.out ≡ string_bytes c.push_order.new.out ++ (codes " LIMIT " ++ decimal c.args.query.now.limit) =
    sym (append-nil _) ∙ c.in_ok-push_limit.ensures [] ∙ ap (λ bs. string_bytes c.push_order.new.out ++ (codes " LIMIT " ++ bs)) (append-nil (decimal c.args.query.now.limit)) in
    let empty : string_bytes c.new-out.result ≡ [] = search rules in
    let written = limit ∙ order _ ∙ group _ ∙ conds _ ∙ c.in_ok-push_range.ensures _ ∙ aggs _ ∙ names _ ∙ c.in_ok-push_part.ensures _ in
    record { spelled = c.of.ensures ∙ (rw empty at written) }
