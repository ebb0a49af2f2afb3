use Rattle.std.proofs.Common.{◌≡◌, ◌+◌, ◌++◌, List, length, ℤ, to_z, of_z, sym, ap, subst, ◌∙◌}
use Rattle.std.specs.Prelude.{IfOk}
use Rattle.std.specs.List.{AllByRecursion, flat_map}
use Rattle.std.specs.Int.{w64}
use Rattle.std.proofs.lemmas.Int.{to_z-of_z}
use Rattle.row_model.specs.declared.rows.Row.{Row}
use Rattle.leaf_model.specs.declared.groups.Group.{Group}
use Rattle.leaf_model.specs.Content.{rows_from}
use Rattle.leaf_model.specs.Groups.{groups}
use Rattle.leaf_model.specs.Lent.{lent_rows}
use Rattle.group_table.specs.Joined.{IsWithin}
use Rattle.group_table.specs.Kept.{MayGrow}
use Rattle.row_blocks.specs.Blocks.{Block}
use Rattle.row_blocks.specs.Held.{blocks_held}
use Rattle.block_scan.specs.Seen.{SeenBlock, StandFor, seen_rows}
use Rattle.block_scan.proofs.Lists.{if_ok}
use Rattle.block_scan.proofs.Scanned.{held_split}
use Rattle.block_scan.proofs.Merged.{all_groups, all_start, all_within}
use Rattle.block_scan.proofs.scanning.scan.Goals as goal

pub fold_onto-requires : goal.fold_onto-requires
fold_onto-requires g c =
    let q = c.args.query.now in let h = c.args.horizon in let views = c.in_ok-views.views.items in
    let stands : StandFor q c.args.blocks.now c.args.skip h views
    = subst (λ (z : ℤ). StandFor q c.args.blocks.now c.args.skip z views) (to_z-of_z w64 h c.ranges.horizon)
    (subst (λ (l : List Block). StandFor q l c.args.skip (to_z w64 (of_z w64 h)) views) c.as_slice.ensures c.in_ok-views.ensures.views) in
    let start = all_start q c.args.blocks.now (lent_rows c.args.tail.now) c.args.skip h views stands c.in_ok-all.all c.requires.few
    (c.in_ok-all.ensures.groups ∙ ap (λ (l : List SeenBlock). groups q (flat_map seen_rows l)) c.as_slice-2.ensures.value)
    (subst (λ (l : List SeenBlock). AllByRecursion (IsWithin (length (flat_map seen_rows l))) c.in_ok-all.all) c.as_slice-2.ensures.value c.in_ok-all.ensures.within) in
    subst (λ (z : ℤ). MayGrow q (length (rows_from z (lent_rows c.args.tail.now))) c.in_ok-all.all) (sym (to_z-of_z w64 h c.ranges.horizon)) start

pub returns-clause-groups : goal.returns-clause-groups
returns-clause-groups g c =
    let q = c.args.query.now in let h = c.args.horizon in let views = c.in_ok-views.views.items in
    let stands : StandFor q c.args.blocks.now c.args.skip h views
    = subst (λ (z : ℤ). StandFor q c.args.blocks.now c.args.skip z views) (to_z-of_z w64 h c.ranges.horizon)
    (subst (λ (l : List Block). StandFor q l c.args.skip (to_z w64 (of_z w64 h)) views) c.as_slice.ensures c.in_ok-views.ensures.views) in
    let all = all_groups q c.args.blocks.now (lent_rows c.args.tail.now) c.args.skip h views stands c.in_ok-all.all (c.in_ok-all.ensures.groups ∙ ap (λ (l : List SeenBlock). groups q (flat_map seen_rows l)) c.as_slice-2.ensures.value) in
    subst (λ (rows : List Row). IfOk c.fold_onto.result (λ gs. gs ≡ groups q rows)) (sym (held_split c.args.blocks.now (lent_rows c.args.tail.now) c.args.skip h))
    (subst (λ (z : ℤ). IfOk c.fold_onto.result (λ gs. gs ≡ groups q (blocks_held c.args.blocks.now c.args.skip h ++ rows_from z (lent_rows c.args.tail.now)))) (to_z-of_z w64 h c.ranges.horizon)
    (c.fold_onto.ensures.value (blocks_held c.args.blocks.now c.args.skip h) all))

pub returns-clause-within : goal.returns-clause-within
returns-clause-within g c =
    let q = c.args.query.now in let h = c.args.horizon in let views = c.in_ok-views.views.items in
    let stands : StandFor q c.args.blocks.now c.args.skip h views
    = subst (λ (z : ℤ). StandFor q c.args.blocks.now c.args.skip z views) (to_z-of_z w64 h c.ranges.horizon)
    (subst (λ (l : List Block). StandFor q l c.args.skip (to_z w64 (of_z w64 h)) views) c.as_slice.ensures c.in_ok-views.ensures.views) in
    let n = length (flat_map seen_rows views) in let m = length (rows_from h (lent_rows c.args.tail.now)) in
    if_ok (λ (gs : List Group). AllByRecursion (IsWithin (n + m)) gs) _ c.fold_onto.result
    (subst (λ (z : ℤ). IfOk c.fold_onto.result (λ (gs : List Group). AllByRecursion (IsWithin (n + length (rows_from z (lent_rows c.args.tail.now)))) gs)) (to_z-of_z w64 h c.ranges.horizon)
    (c.fold_onto.ensures.within n
    (subst (λ (l : List SeenBlock). AllByRecursion (IsWithin (length (flat_map seen_rows l))) c.in_ok-all.all) c.as_slice-2.ensures.value c.in_ok-all.ensures.within)))
    (all_within q c.args.blocks.now (lent_rows c.args.tail.now) c.args.skip h views stands)
