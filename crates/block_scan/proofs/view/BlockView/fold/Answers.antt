use Rattle.std.proofs.Common.{◌≡◌, ◌∷◌, length, ◌∙◌, subst}
use Rattle.std.specs.Prelude.{IfOk}
use Rattle.std.specs.List.{AllByRecursion}
use Rattle.std.specs.Int.{w64}
use Rattle.std.proofs.lemmas.Int.{to_z-of_z}
use Rattle.leaf_model.specs.Groups.{groups}
use Rattle.group_table.specs.Joined.{IsWithin}
use Rattle.block_scan.specs.Reads.{columns_of}
use Rattle.block_scan.specs.Seen.{SeenBlock, seen, seen_rows}
use Rattle.block_scan.proofs.view.BlockView.fold.Goals as goal

pub returns-clause-groups : goal.returns-clause-groups
returns-clause-groups c =
    let inside = c.self.inside in
    subst (λ (s : SeenBlock). IfOk c.fold_columns.result (λ gs. gs ≡ groups c.args.query.now (seen_rows s)))
    ((λ i. seen inside.skip (to_z-of_z w64 inside.horizon c.self.invariant.horizon i) (record { rows = inside.rows; columns = inside.times.column.now ∷ columns_of (c.as_slice.ensures.value i) })) ∙ c.self.view_is)
    c.fold_columns.ensures.groups

pub returns-clause-within : goal.returns-clause-within
returns-clause-within c =
    let inside = c.self.inside in
    subst (λ (s : SeenBlock). IfOk c.fold_columns.result (λ gs. AllByRecursion (IsWithin (length (seen_rows s))) gs))
    ((λ i. seen inside.skip (to_z-of_z w64 inside.horizon c.self.invariant.horizon i) (record { rows = inside.rows; columns = inside.times.column.now ∷ columns_of (c.as_slice.ensures.value i) })) ∙ c.self.view_is)
    c.fold_columns.ensures.within
