use Rattle.std.proofs.Common.{rules, ◌≡◌, true, false, [], ◌∷◌, ◌+◌, drop, length, map, slice_index_or, slice_set, refl, sym, ap, subst, ◌∙◌, arith}
use Rattle.leaf_model.specs.declared.groups.Group.{Group}
use Rattle.leaf_model.specs.Groups.{group_of, keys_of, passes}
use Rattle.group_table.specs.Reads.{seen_key, seen_row}
use Rattle.group_table.specs.Joined.{joined, joined_group}
use Rattle.group_table.specs.Table.{is_first}
use Rattle.group_table.specs.Split.{IsSplit}
use Rattle.group_table.proofs.Laws.{no_row, joined-nil}
use Rattle.group_table.proofs.Placed.{found, put_into, shaped_at}
use Rattle.group_table.proofs.Split.{made_table, row_put, row_within, settled_value, fresh_value, settled_split, fresh_split, split_grows}
use Rattle.group_table.proofs.tables.add_row.Goals as goal

pub returns-then-not-is_passing-clause-value : goal.returns-then-not-is_passing-clause-value
returns-then-not-is_passing-clause-value c =
    let stays : passes c.args.query.now (seen_row c.args.row.now) ≡ false = search (rules, c.is_passing.ensures, c.if-not-is_passing.true) in
    let both = joined c.args.tables.settled.items c.args.tables.fresh.items in
    sym (ap (joined both) (no_row c.args.query.now (seen_row c.args.row.now) stays) ∙ joined-nil both)

pub returns-then-not-is_passing-clause-split : goal.returns-then-not-is_passing-clause-split
returns-then-not-is_passing-clause-split c = λ n split. split_grows n (n + 1) _ _ _ (omega arith) split

pub find-place-requires : goal.find-place-requires
find-place-requires c = rw c.as_slice.ensures.value (made_table c.args.query.now c.args.tables.settled.items c.requires.split.mine).ascends

pub add_to-requires-clause-same : goal.add_to-requires-clause-same
add_to-requires-clause-same c =
    let table = c.args.tables.settled.items in
    let at = c.find-place.result.at in
    let mine = c.index_mut.result.now in
    let old : slice_index_or table at mine ≡ mine = search (rules, c.index_mut.ensures.value) in
    let inside = rw c.as_slice.ensures.value at (c.find-place.ensures.inside c.if-place.true) in
    ap (λ (g : Group). length g.folds) (sym old) ∙ shaped_at _ table at mine (made_table c.args.query.now table c.requires.split.mine).shaped inside

pub place_of-place-requires : goal.place_of-place-requires
place_of-place-requires c = rw c.as_slice-2.ensures.value (made_table c.args.query.now c.args.tables.fresh.items c.requires.split.others).ascends

pub put_row-requires-clause-same : goal.put_row-requires-clause-same
put_row-requires-clause-same c = (made_table c.args.query.now c.args.tables.fresh.items c.requires.split.others).shaped

pub returns-then-place-clause-value : goal.returns-then-place-clause-value
returns-then-place-clause-value c =
    let q = c.args.query.now in
    let row = seen_row c.args.row.now in
    let passing : passes q row ≡ true = search (rules, c.is_passing.ensures, c.if-not-is_passing.false) in
    let keys = map seen_key c.args.row.now.keys.now in
    let same : keys ≡ keys_of q row = c.requires.seen.keys in
    let table = c.args.tables.settled.items in
    let at = c.find-place.result.at in
    let g = group_of q keys (row ∷ []) in
    let mine = c.index_mut.result.now in
    let first : is_first keys (drop at table) ≡ true = rw (sym c.as_slice.ensures.value) (c.find-place.ensures.there c.if-place.true) in
    let there = found g table at (made_table q table c.requires.split.mine).ascends first in
    let old : slice_index_or table at mine ≡ mine = search (rules, c.index_mut.ensures.value) in
    let put = ap (λ h. slice_set table at h) (c.add_to.ensures.value keys ∙ ap (λ a. joined_group a g) (sym old)) ∙ put_into g table at mine first in
    let grown = row_put q row keys table _ at passing same there put in
    ap (λ gs. joined gs c.args.tables.fresh.items) grown ∙ settled_value q row _ _ c.requires.split.mine c.requires.split.others

pub returns-then-place-clause-split : goal.returns-then-place-clause-split
returns-then-place-clause-split c =
    let q = c.args.query.now in
    let row = seen_row c.args.row.now in
    let passing : passes q row ≡ true = search (rules, c.is_passing.ensures, c.if-not-is_passing.false) in
    let keys = map seen_key c.args.row.now.keys.now in
    let same : keys ≡ keys_of q row = c.requires.seen.keys in
    let table = c.args.tables.settled.items in
    let at = c.find-place.result.at in
    let g = group_of q keys (row ∷ []) in
    let mine = c.index_mut.result.now in
    let first : is_first keys (drop at table) ≡ true = rw (sym c.as_slice.ensures.value) (c.find-place.ensures.there c.if-place.true) in
    let there = found g table at (made_table q table c.requires.split.mine).ascends first in
    let old : slice_index_or table at mine ≡ mine = search (rules, c.index_mut.ensures.value) in
    let put = ap (λ h. slice_set table at h) (c.add_to.ensures.value keys ∙ ap (λ a. joined_group a g) (sym old)) ∙ put_into g table at mine first in
    let grown = row_put q row keys table _ at passing same there put in
    let one = row_within q row keys passing same (c.add_to.ensures.row keys, tt) in
    λ n split. subst (λ gs. IsSplit (n + 1) q gs c.args.tables.fresh.items) (sym grown) (settled_split n q row _ _ one split)

pub returns-clause-value : goal.returns-clause-value
returns-clause-value c =
    let q = c.args.query.now in
    let row = seen_row c.args.row.now in
    let passing : passes q row ≡ true = search (rules, c.is_passing.ensures, c.if-not-is_passing.false) in
    let keys = map seen_key c.args.row.now.keys.now in
    let same : keys ≡ keys_of q row = c.requires.seen.keys in
    let there = rw c.as_slice-2.ensures.value at (c.place_of-place.ensures.place (group_of q keys (row ∷ [])) refl) in
    let put = c.in_ok-fresh.ensures.value in
    let grown = row_put q row keys c.args.tables.fresh.items c.in_ok-fresh.fresh.items c.place_of-place.result.at passing same there put in
    ap (joined c.args.tables.settled.items) grown ∙ fresh_value q row _ _ c.requires.split.mine c.requires.split.others

pub returns-clause-split : goal.returns-clause-split
returns-clause-split c =
    let q = c.args.query.now in
    let row = seen_row c.args.row.now in
    let passing : passes q row ≡ true = search (rules, c.is_passing.ensures, c.if-not-is_passing.false) in
    let keys = map seen_key c.args.row.now.keys.now in
    let same : keys ≡ keys_of q row = c.requires.seen.keys in
    let there = rw c.as_slice-2.ensures.value at (c.place_of-place.ensures.place (group_of q keys (row ∷ [])) refl) in
    let put = c.in_ok-fresh.ensures.value in
    let grown = row_put q row keys c.args.tables.fresh.items c.in_ok-fresh.fresh.items c.place_of-place.result.at passing same there put in
    let one = row_within q row keys passing same (c.in_ok-fresh.ensures.row) in
    λ n split. subst (IsSplit (n + 1) q c.args.tables.settled.items) (sym grown) (fresh_split n q row _ _ one split)
