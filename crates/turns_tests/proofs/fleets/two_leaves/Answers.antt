use Rattle.std.proofs.Common.{◌≡◌, ℕ, List, length, refl, sym, ap, subst, ◌∙◌}
use Rattle.leaf_table.specs.Calls.{SeatView}
use Rattle.leaf_table.specs.Lists.{lists_in, row}
use Rattle.aggregator.specs.Asks.{AreSeatsAt}
use Rattle.turns_tests.proofs.NewSeats.{first_row, seats_at, stewards_at}
use Rattle.turns_tests.proofs.fleets.two_leaves.Goals as goal

pub returns : goal.returns
returns c =
    let new = c.in_ok-fleet.ensures in
    let names = c.in_ok-names.ensures in
    let rows = c.into_inner-rows.result.items in
    let same : lists_in rows ≡ c.in_ok-fleet.callers = c.into_inner-rows.ensures in
    let one : length (lists_in rows) ≡ 1 = ap (λ (xs : List (List SeatView)). length xs) same ∙ (new.counts.2 ∙ names.0) in
    let first : row c.in_ok-fleet.callers 0 ≡ c.swap_remove.result.items = ap (λ (xs : List (List SeatView)). row xs 0) (sym same) ∙ (first_row rows c.swap_remove.result one ∙ ap (λ v. v.items) (sym c.swap_remove.ensures.value)) in
    record {
      stewards = stewards_at names.0 new (λ leaf t. refl);
      callers = subst (λ (seats : List SeatView). AreSeatsAt c.in_ok-fleet.fleet 0 seats) first (seats_at names.0 new);
    }
