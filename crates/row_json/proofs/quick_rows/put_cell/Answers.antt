use Rattle.std.proofs.Common.{◌≡◌, ◌++◌, ◌∷◌, take, drop, subst, rules}
use Rattle.row_model.specs.declared.rows.Cell.{Cell}
use Rattle.row_json.specs.QuickRow.{IsPlace}
use Rattle.row_json.proofs.Put.{puts_none, puts_some}
use Rattle.row_json.proofs.quick_rows.put_cell.Goals as goal

pub returns-in_default-clause-puts : goal.returns-in_default-clause-puts
returns-in_default-clause-puts c =
    let there = subst (λ cs. IsPlace cs c.args.name.now c.in_ok-place.place) c.as_slice.ensures.value c.in_ok-place.ensures in
    puts_none c.args.name.now c.args.value c.args.cells.now.items c.in_ok-place.place (search rules) c.requires.name there

pub returns-clause-puts : goal.returns-clause-puts
returns-clause-puts c =
    let cells = c.args.cells.now.items in
    let place = c.in_ok-place.place in
    let there = subst (λ cs. IsPlace cs c.args.name.now place) c.as_slice.ensures.value c.in_ok-place.ensures in
    let cell : Cell = record { name = c.in_ok-name.name; value = c.in-Some.value } in
    let put_in : c.insert.new.self.items ≡ take place cells ++ cell ∷ drop place cells = search rules in
    puts_some c.args.name.now c.args.value cells c.insert.new.self.items place cell c.in-Some.is c.in_ok-name.ensures c.requires.name there put_in
