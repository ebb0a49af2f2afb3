use Rattle.std.proofs.Common.{◌≡◌, ◌<◌, rules, List, [], ◌∷◌, length, map, refl, ◌∙◌}
use Rattle.leaf_model.specs.declared.groups.Group.{Group}
use Rattle.leaf_model.specs.Groups.{groups}
use Rattle.block_scan.specs.Slots.{fold_at, keys_at}
use Rattle.block_scan.proofs.Lists.{if_ok}
use Rattle.block_scan.proofs.Split.{one_group}
use Rattle.block_scan.proofs.grouping.fold_list.Goals as goal

pub returns-clause-groups : goal.returns-clause-groups
returns-clause-groups c = λ row aggs are.
    let q = c.args.query.now in let slots = c.args.slots.now in let places = c.args.places.now in let decoded = c.args.decoded.now in let s = c.args.slot in
    let folds = map (fold_at places) decoded in
    let some : 0 < length places = search rules in
    let whole = one_group q c.args.rows row slots s decoded places (keys_at q slots s) (length places) folds aggs are c.requires.inside c.requires.same some refl refl refl in
    if_ok (λ (gs : List Group). gs ≡ record { keys = keys_at q slots s; count = length places; folds = folds } ∷ []) (λ (gs : List Group). gs ≡ groups q (map row places)) c.fold_slot.result c.fold_slot.ensures.groups
    (λ gs is. is ∙ whole)
