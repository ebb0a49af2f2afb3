use Rattle.std.proofs.Common.{◌≡◌, List, rules, length, position, Some, None, option_map, refl, ap, subst, ◌∙◌}
use Rattle.std.proofs.lemmas.Option.{slice_get_read}
use Rattle.region_layout.specs.declared.directory.TablePlaces.{TablePlaces}
use Rattle.region_strangers.specs.Strangers.{stranger_of}
use Rattle.region_strangers.specs.Strangers.{is_stranger}
use Rattle.region_strangers.proofs.First.{names_of, no_stranger, stranger_at}
use Rattle.region_strangers.proofs.known.all_known.Goals as goal

pub returns-in-None-clause-known : goal.returns-in-None-clause-known
returns-in-None-clause-known c =
    let names = c.args.names.now in
    let none : position (is_stranger names) c.args.tables ≡ None = search rules in
    no_stranger names c.args.tables none

pub returns-in-Some-clause-stranger : goal.returns-in-Some-clause-stranger
returns-in-Some-clause-stranger c =
    let names = c.args.names.now in
    let items = c.into_inner-tables.result.items in
    let i = c.in-Some.place in
    let same : items ≡ c.args.tables = search rules in
    let at : position (is_stranger names) items ≡ Some i = search rules in
    let found = stranger_at names items i at in
    let here = slice_get_read items (length items) i c.swap_remove.result refl found.0 c.swap_remove.ensures.value in
    subst (λ (l : List TablePlaces). stranger_of names (names_of l) ≡ Some c.swap_remove.result.name) same (found.1 ∙ ap (option_map (λ (t : TablePlaces). t.name)) here)
