use Rattle.std.proofs.Common.{◌≡◌, ℕ, List, IfOk, map, subst, ap, ◌∙◌}
use Rattle.std.specs.List.{filter}
use Rattle.standing_query.specs.Names.{has, is_cell}
use Rattle.standing_query.specs.Spread.{cells_read, names_read}
use Rattle.standing_query.proofs.Ascending.{cells_are}
use Rattle.standing_query.proofs.spread.cells_of.Goals as goal

pub returns : goal.returns
returns c =
    let ordered = c.put_in_order.ensures in
    let are : filter is_cell (map (λ n. n.now) c.as_slice.result.now) ≡ cells_read c.args.query.now =
    rw c.as_slice.ensures.value (cells_are (names_read c.args.query.now) _ ordered.ascends (λ k. ordered.same k ∙ ap (has k) c.in_ok-names.ensures)) in
    subst (λ (names : List (List ℕ)). IfOk c.cells_among.result (λ cells. cells.items ≡ names)) are c.cells_among.ensures
