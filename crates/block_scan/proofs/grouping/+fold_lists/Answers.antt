use Rattle.std.proofs.Common.{◌≡◌, ℕ, ◌<◌, ◌++◌, Vec, Global, get_or, List, length, map, sym, ap, subst, ◌∙◌, arith, length-append}
use Rattle.std.specs.Prelude.{IfOk}
use Rattle.std.specs.List.{AllByRecursion}
use Rattle.std.proofs.lemmas.List.{length-map, map-append}
use Rattle.leaf_model.specs.declared.groups.Group.{Group}
use Rattle.leaf_model.specs.Groups.{groups}
use Rattle.group_table.specs.Joined.{IsWithin}
use Rattle.group_table.proofs.Within.{joined_fit}
use Rattle.block_scan.specs.Slots.{IsKeyed, gathered, lists_in, slots_in}
use Rattle.block_scan.proofs.Laid.{first_below, one_list, two_parts}
use Rattle.block_scan.proofs.Lists.{all_parts, if_ok}
use Rattle.block_scan.proofs.grouping.+fold_lists.Goals as goal

pub join-requires : goal.join-requires
join-requires t c =
    let lists = lists_in c.args.lists.now in let low = c.split_at.result.0.now in let high = c.split_at.result.1.now in
    let all = two_parts lists c.args.order.now low high _ c.split_at.ensures.front c.split_at.ensures.back in
    let long = sym (length-append (gathered lists low) (gathered lists high)) ∙ ap (λ (l : List ℕ). length l) all in
    joined_fit (length (gathered lists low)) (length (gathered lists high)) c.in_ok-front-in_default.front c.in_ok-back-in_default.back (omega (arith, long, c.requires.few))
    c.in_ok-front-in_default.ensures.within c.in_ok-back-in_default.ensures.within

pub returns-in-len1-clause-groups : goal.returns-in-len1-clause-groups
returns-in-len1-clause-groups t c = λ row aggs are.
    let q = c.args.query.now in let lists = lists_in c.args.lists.now in
    let low : get_or c.args.order.now 0 0 < length c.args.lists.now
    = omega (arith, first_below (slots_in c.args.slots.now) c.args.order.now c.in-len1.len_at_least c.requires.order, c.requires.laid.count, length-map c.args.lists.now (λ (v : Vec ℕ Global). v.items)) in
    let all : gathered lists c.args.order.now ≡ c.as_slice-places.result.now
    = one_list c.args.lists.now c.args.order.now c.index-lists-slot.result c.as_slice-places.result.now c.in-len1.len_at_least c.in-len1.len_below low c.index-lists-slot.is c.as_slice-places.ensures.value in
    let one = c.fold_list.ensures.groups row aggs (subst (λ (l : List ℕ). AllByRecursion (IsKeyed q row c.args.slots.now) l) all are) in
    subst (λ (l : List ℕ). IfOk c.fold_list.result (λ gs. gs ≡ groups q (map row l))) (sym all) one

pub returns-in_ok-back-in_default-clause-groups : goal.returns-in_ok-back-in_default-clause-groups
returns-in_ok-back-in_default-clause-groups t c = λ row aggs are.
    let q = c.args.query.now in let lists = lists_in c.args.lists.now in let low = c.split_at.result.0.now in let high = c.split_at.result.1.now in
    let all = two_parts lists c.args.order.now low high _ c.split_at.ensures.front c.split_at.ensures.back in
    let both = all_parts (IsKeyed q row c.args.slots.now) (gathered lists low) (gathered lists high) (subst (λ (l : List ℕ). AllByRecursion (IsKeyed q row c.args.slots.now) l) (sym all) are) in
    let mine = c.in_ok-front-in_default.ensures.groups row aggs both.0 in
    let theirs = c.in_ok-back-in_default.ensures.groups row aggs both.1 in
    let rows = sym (map-append row (gathered lists low) (gathered lists high)) ∙ ap (λ (l : List ℕ). map row l) all in
    if_ok (λ (gs : List Group). gs ≡ groups q (map row (gathered lists low) ++ map row (gathered lists high))) (λ (gs : List Group). gs ≡ groups q (map row (gathered lists c.args.order.now))) c.join.result
    (c.join.ensures.both q (map row (gathered lists low)) (map row (gathered lists high)) mine theirs) (λ gs is. is ∙ ap (groups q) rows)

pub returns-in_ok-back-in_default-clause-within : goal.returns-in_ok-back-in_default-clause-within
returns-in_ok-back-in_default-clause-within t c =
    let lists = lists_in c.args.lists.now in let low = c.split_at.result.0.now in let high = c.split_at.result.1.now in
    let all = two_parts lists c.args.order.now low high _ c.split_at.ensures.front c.split_at.ensures.back in
    let long = sym (length-append (gathered lists low) (gathered lists high)) ∙ ap (λ (l : List ℕ). length l) all in
    subst (λ (n : ℕ). IfOk c.join.result (λ gs. AllByRecursion (IsWithin n) gs)) long
    (c.join.ensures.within (length (gathered lists low)) (length (gathered lists high)) c.in_ok-front-in_default.ensures.within c.in_ok-back-in_default.ensures.within)
