use Rattle.std.proofs.Common.{◌+◌, length, ℤ, subst}
use Rattle.std.specs.Prelude.{IfOk}
use Rattle.std.specs.Int.{w64}
use Rattle.std.specs.List.{AllByRecursion}
use Rattle.std.proofs.lemmas.Int.{to_z-of_z}
use Rattle.leaf_model.specs.Content.{rows_from}
use Rattle.leaf_model.specs.Lent.{lent_rows}
use Rattle.group_table.specs.Joined.{IsWithin}
use Rattle.group_table.proofs.fold.fold_onto.Goals as goal

pub returns-clause-within : goal.returns-clause-within
returns-clause-within c = λ m within.
    subst (λ (h : ℤ). IfOk c.fold_within.result (λ gs. AllByRecursion (IsWithin (m + length (rows_from h (lent_rows c.args.rows.now)))) gs)) (to_z-of_z w64 c.args.horizon c.ranges.horizon) (c.fold_within.ensures.within m within)
