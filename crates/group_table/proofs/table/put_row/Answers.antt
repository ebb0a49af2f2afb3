use Rattle.std.proofs.Common.{rules, ◌≡◌, true, [], ◌∷◌, drop, map, slice_index_or, slice_set, sym, ap, ◌∙◌}
use Rattle.leaf_model.specs.Groups.{group_of}
use Rattle.group_table.specs.Reads.{seen_key, seen_row}
use Rattle.group_table.specs.Joined.{joined_group}
use Rattle.group_table.specs.Table.{is_first}
use Rattle.group_table.proofs.Placed.{put_into}
use Rattle.group_table.proofs.table.put_row.Goals as goal

pub returns-then-place-clause-value : goal.returns-then-place-clause-value
returns-then-place-clause-value c =
    let items = c.args.table.items in
    let at = c.args.place.at in
    let ks = map seen_key c.args.row.now.keys.now in
    let g = group_of c.args.query.now ks (seen_row c.args.row.now ∷ []) in
    let mine = c.index_mut.result.now in
    let first : is_first ks (drop at items) ≡ true = search (rules, c.requires.there, c.if-place.true) in
    let old : slice_index_or items at mine ≡ mine = search (rules, c.index_mut.ensures.value) in
    ap (λ h. slice_set items at h) (c.add_to.ensures.value ks ∙ ap (λ a. joined_group a g) (sym old)) ∙ put_into g items at mine first

pub returns-then-place-clause-row : goal.returns-then-place-clause-row
returns-then-place-clause-row c = (c.add_to.ensures.row (map seen_key c.args.row.now.keys.now), tt)
