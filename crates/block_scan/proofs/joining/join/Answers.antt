use Rattle.std.proofs.Common.{◌≡◌, ◌+◌, ◌++◌, List, sym, subst, ◌∙◌}
use Rattle.std.specs.List.{AllByRecursion}
use Rattle.leaf_model.specs.declared.groups.Group.{Group}
use Rattle.leaf_model.specs.Groups.{groups}
use Rattle.group_table.specs.Joined.{IsWithin}
use Rattle.block_scan.specs.Slots.{EndsBelow}
use Rattle.block_scan.proofs.Joined.{both_appended, both_within}
use Rattle.block_scan.proofs.Lists.{if_ok}
use Rattle.block_scan.proofs.joining.join.Goals as goal

pub returns-then-ends_below-clause-within : goal.returns-then-ends_below-clause-within
returns-then-ends_below-clause-within c = λ m n mine theirs.
    if_ok (λ (gs : List Group). gs ≡ c.args.front ++ c.args.back) (λ (gs : List Group). AllByRecursion (IsWithin (m + n)) gs) c.append.result c.append.ensures
    (λ gs is. subst (λ (l : List Group). AllByRecursion (IsWithin (m + n)) l) (sym is) (both_within m n c.args.front c.args.back mine theirs))

pub returns-then-ends_below-clause-both : goal.returns-then-ends_below-clause-both
returns-then-ends_below-clause-both c = λ q xs ys mine theirs.
    let below : EndsBelow c.args.front c.args.back
    = subst (λ (l : List Group). EndsBelow l c.args.back) c.as_slice.ensures
    (subst (λ (l : List Group). EndsBelow c.as_slice.result.now l) c.as_slice-2.ensures (c.ends_below.ensures c.if-ends_below.true)) in
    if_ok (λ (gs : List Group). gs ≡ c.args.front ++ c.args.back) (λ (gs : List Group). gs ≡ groups q (xs ++ ys)) c.append.result c.append.ensures
    (λ gs is. is ∙ both_appended q xs ys c.args.front c.args.back mine theirs below)
