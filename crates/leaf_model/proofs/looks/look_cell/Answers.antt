use Rattle.std.proofs.Common.{rules, ◌≡◌, length}
use Rattle.leaf_model.specs.Lent.{each_value, lent_value}
use Rattle.leaf_model.specs.Looks.{filled_from}
use Rattle.leaf_model.proofs.SeenLaws.{cell_looked, value_passed}
use Rattle.leaf_model.proofs.looks.look_cell.Goals as goal

pub returns-then-place-sought-clause-looked : goal.returns-then-place-sought-clause-looked
returns-then-place-sought-clause-looked c =
    let name = c.name_in.result.0.now in
    let after = c.name_in.result.1.now in
    let all = c.args.sought.now in
    let items = c.args.seen.now.items in
    let place = c.place_from-place.result in
    let same : length items ≡ length all = search (rules, c.requires.same) in
    cell_looked c.args.bytes.now name after c.look_value.result.now all (each_value items) (each_value c.look_value.new.seen.items) (λ value others. filled_from all items place (record { name = name; value = value }) others) c.name_in.ensures c.look_value.ensures.looked (λ value others. c.place_from-place.ensures.passed items value others same)

pub returns-clause-looked : goal.returns-clause-looked
returns-clause-looked c =
    let name = c.name_in.result.0.now in
    let after = c.name_in.result.1.now in
    let rest = c.value_in.result.1.now in
    let all = c.args.sought.now in
    let items = c.args.seen.now.items in
    let place = c.place_from-place.result in
    let same : length items ≡ length all = search (rules, c.requires.same) in
    cell_looked c.args.bytes.now name after rest all (each_value items) (each_value items) (λ value others. filled_from all items place (record { name = name; value = value }) others) c.name_in.ensures (value_passed after rest (lent_value c.value_in.result.0) name all items place c.value_in.ensures c.if-place-sought.false same) (λ value others. c.place_from-place.ensures.passed items value others same)
