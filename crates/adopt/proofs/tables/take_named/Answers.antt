use Rattle.std.proofs.Common.{◌≡◌, rules, length, position, Some, None, refl, sym, ap, ◌∙◌}
use Rattle.std.proofs.lemmas.Option.{slice_get_read}
use Rattle.table_state.specs.Tables.{Table, bare, columns_most}
use Rattle.region_layout.specs.Images.{TableImage, table_of}
use Rattle.adopt.specs.Finishing.{IsMade}
use Rattle.adopt.specs.Tables.{has_name}
use Rattle.adopt.proofs.Arranging.{each_at, named_at, removed_at, removed_nowhere, taken_at, taken_nowhere}
use Rattle.adopt.proofs.tables.take_named.Goals as goal

pub made_table-requires : goal.made_table-requires
made_table-requires c =
    let items = c.args.drained.now.items in
    let i = c.in-Some.place in
    let at : position (has_name c.args.name.now) items ≡ Some i = search rules in
    let found = named_at c.args.name.now items i at in
    each_at IsMade items i c.remove.result c.requires (slice_get_read items (length items) i c.remove.result refl found.0 c.remove.ensures.value)

pub returns-in-Some-clause-taken : goal.returns-in-Some-clause-taken
returns-in-Some-clause-taken c =
    let items = c.args.drained.now.items in
    let name = c.args.name.now in
    let i = c.in-Some.place in
    let at : position (has_name name) items ≡ Some i = search rules in
    let found = named_at name items i at in
    let here = slice_get_read items (length items) i c.remove.result refl found.0 c.remove.ensures.value in
    c.made_table.ensures.made ∙ sym (ap table_of (taken_at name items c.remove.result (found.1 ∙ here)))

pub returns-in-Some-clause-columns : goal.returns-in-Some-clause-columns
returns-in-Some-clause-columns c =
    let items = c.args.drained.now.items in
    let name = c.args.name.now in
    let i = c.in-Some.place in
    let at : position (has_name name) items ≡ Some i = search rules in
    let found = named_at name items i at in
    let here = slice_get_read items (length items) i c.remove.result refl found.0 c.remove.ensures.value in
    c.made_table.ensures.columns ∙ sym (ap (λ (t : TableImage). t.columns) (taken_at name items c.remove.result (found.1 ∙ here)))

pub returns-in-Some-clause-left : goal.returns-in-Some-clause-left
returns-in-Some-clause-left c =
    let items = c.args.drained.now.items in
    let name = c.args.name.now in
    let i = c.in-Some.place in
    let at : position (has_name name) items ≡ Some i = search rules in
    c.remove.ensures.items ∙ removed_at name items i at

pub returns-in-None-clause-taken : goal.returns-in-None-clause-taken
returns-in-None-clause-taken c =
    let items = c.args.drained.now.items in
    let name = c.args.name.now in
    let none : position (has_name name) items ≡ None = search rules in
    ap bare c.new.ensures ∙ sym (ap table_of (taken_nowhere name items none))

pub returns-in-None-clause-columns : goal.returns-in-None-clause-columns
returns-in-None-clause-columns c =
    let items = c.args.drained.now.items in
    let name = c.args.name.now in
    let none : position (has_name name) items ≡ None = search rules in
    ap (λ (t : Table). columns_most t.store) c.new.ensures ∙ sym (ap (λ (t : TableImage). t.columns) (taken_nowhere name items none))

pub returns-in-None-clause-left : goal.returns-in-None-clause-left
returns-in-None-clause-left c =
    let items = c.args.drained.now.items in
    let name = c.args.name.now in
    let none : position (has_name name) items ≡ None = search rules in
    removed_nowhere name items none
