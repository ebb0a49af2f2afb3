use Rattle.std.proofs.Common.{◌≡◌, ℕ, Vec, Global, List, length, map, sym, subst, ◌∙◌, arith}
use Rattle.std.specs.List.{AllByRecursion}
use Rattle.std.specs.List.Sorted.{IsPermutation}
use Rattle.leaf_model.specs.declared.groups.Group.{Group}
use Rattle.leaf_model.specs.Groups.{groups}
use Rattle.group_table.specs.Joined.{IsWithin}
use Rattle.block_scan.specs.Slots.{AreLaid, IsKeyed, gathered, lists_in, slot_at, slots_in, used_slots}
use Rattle.block_scan.proofs.InTurn.{all_below, gathered_groups, gathered_length}
use Rattle.block_scan.proofs.Laid.{all_gathered, laid_all, laid_in_slots}
use Rattle.block_scan.proofs.Lists.{if_ok}
use Rattle.block_scan.proofs.grouping.fold_by_slot.Goals as goal

pub fold_lists-requires-clause-laid : goal.fold_lists-requires-clause-laid
fold_lists-requires-clause-laid c =
    let slots = c.args.slots.now in
    let laid = subst (λ (l : List (Vec ℕ Global)). AreLaid (slot_at slots) (slots_in slots) c.args.places.now (lists_in l)) (sym c.as_slice-2.ensures.value) c.in_ok-lists.ensures in
    laid_in_slots c.args.rows slots c.args.places.now (lists_in c.as_slice-2.result.now) laid c.requires.inside

pub fold_lists-requires-clause-order : goal.fold_lists-requires-clause-order
fold_lists-requires-clause-order c =
    let slots = c.args.slots.now in
    let laid = subst (λ (l : List (Vec ℕ Global)). AreLaid (slot_at slots) (slots_in slots) c.args.places.now (lists_in l)) (sym c.as_slice.ensures.value) c.in_ok-lists.ensures in
    let mixed = subst (λ (l : List ℕ). IsPermutation {X = ℕ} (used_slots (lists_in c.as_slice.result.now)) l) (sym c.as_slice-3.ensures.value) c.in_ok-order.ensures in
    all_below (slot_at slots) (slots_in slots) c.args.places.now (lists_in c.as_slice.result.now) c.as_slice-3.result.now laid c.requires.sized mixed

pub fold_lists-requires-clause-few : goal.fold_lists-requires-clause-few
fold_lists-requires-clause-few c =
    let slots = c.args.slots.now in
    let laid = subst (λ (l : List (Vec ℕ Global)). AreLaid (slot_at slots) (slots_in slots) c.args.places.now (lists_in l)) (sym c.as_slice-2.ensures.value) c.in_ok-lists.ensures in
    let same = c.as_slice.ensures.value ∙ sym c.as_slice-2.ensures.value in
    let mixed = subst (λ (l : List ℕ). IsPermutation {X = ℕ} (used_slots (lists_in c.as_slice-2.result.now)) l) (sym c.as_slice-3.ensures.value)
    (subst (λ (l : List (Vec ℕ Global)). IsPermutation {X = ℕ} (used_slots (lists_in l)) c.in_ok-order.order.items) same c.in_ok-order.ensures) in
    omega (arith, c.requires.few, gathered_length (slot_at slots) (slots_in slots) c.args.places.now (lists_in c.as_slice-2.result.now) c.as_slice-3.result.now laid c.requires.sized mixed)

pub returns-clause-groups : goal.returns-clause-groups
returns-clause-groups c = λ row aggs are.
    let q = c.args.query.now in let slots = c.args.slots.now in let lists = lists_in c.as_slice-2.result.now in let order = c.as_slice-3.result.now in
    let laid = subst (λ (l : List (Vec ℕ Global)). AreLaid (slot_at slots) (slots_in slots) c.args.places.now (lists_in l)) (sym c.as_slice-2.ensures.value) c.in_ok-lists.ensures in
    let same = c.as_slice.ensures.value ∙ sym c.as_slice-2.ensures.value in
    let mixed = subst (λ (l : List ℕ). IsPermutation {X = ℕ} (used_slots (lists_in c.as_slice-2.result.now)) l) (sym c.as_slice-3.ensures.value)
    (subst (λ (l : List (Vec ℕ Global)). IsPermutation {X = ℕ} (used_slots (lists_in l)) c.in_ok-order.order.items) same c.in_ok-order.ensures) in
    let passing = all_gathered (IsKeyed q row slots) lists (laid_all (slot_at slots) (slots_in slots) c.args.places.now lists laid (IsKeyed q row slots) are) order in
    if_ok (λ (gs : List Group). gs ≡ groups q (map row (gathered lists order))) (λ (gs : List Group). gs ≡ groups q (map row c.args.places.now)) c.fold_lists.result (c.fold_lists.ensures.groups row aggs passing)
    (λ gs is. is ∙ gathered_groups (slot_at slots) (slots_in slots) c.args.places.now lists order laid c.requires.sized mixed q row)

pub returns-clause-within : goal.returns-clause-within
returns-clause-within c =
    let slots = c.args.slots.now in let lists = lists_in c.as_slice-2.result.now in let order = c.as_slice-3.result.now in
    let laid = subst (λ (l : List (Vec ℕ Global)). AreLaid (slot_at slots) (slots_in slots) c.args.places.now (lists_in l)) (sym c.as_slice-2.ensures.value) c.in_ok-lists.ensures in
    let same = c.as_slice.ensures.value ∙ sym c.as_slice-2.ensures.value in
    let mixed = subst (λ (l : List ℕ). IsPermutation {X = ℕ} (used_slots (lists_in c.as_slice-2.result.now)) l) (sym c.as_slice-3.ensures.value)
    (subst (λ (l : List (Vec ℕ Global)). IsPermutation {X = ℕ} (used_slots (lists_in l)) c.in_ok-order.order.items) same c.in_ok-order.ensures) in
    let long = gathered_length (slot_at slots) (slots_in slots) c.args.places.now lists order laid c.requires.sized mixed in
    if_ok (λ (gs : List Group). AllByRecursion (IsWithin (length (gathered lists order))) gs) (λ (gs : List Group). AllByRecursion (IsWithin (length c.args.places.now)) gs) c.fold_lists.result c.fold_lists.ensures.within
    (λ gs within. subst (λ (n : ℕ). AllByRecursion (IsWithin n) gs) long within)
