use Rattle.std.proofs.Common.{◌≡◌, ℕ, ◌≤◌, List, [], length, map, Option, Some, option_map, option_and_then, IfSome, String, Global, string_bytes, true≢false, refl, sym, ap, subst, ◌∙◌, arith}
use Rattle.std.proofs.lemmas.List.{length-map}
use Rattle.std.specs.BTreeSet.{BTreeSet}
use Rattle.serde_json.specs.View.{items_view}
use Rattle.row_model.specs.declared.rows.Value.TheVariants.{Set}
use Rattle.row_model.specs.Values.{IsSet}
use Rattle.row_json.specs.Row.{item_count, set_of, texts_with}
use Rattle.row_json.proofs.SetItems.{texts_of, count_items, many_none, set_made, set_refused}
use Rattle.row_json.proofs.sets.set_in.Goals as goal

pub returns-then-len-gt-MAX_MEMBERS-clause-exact : goal.returns-then-len-gt-MAX_MEMBERS-clause-exact
returns-then-len-gt-MAX_MEMBERS-clause-exact c =
    let items = c.args.items.items in
    sym (many_none (item_count (items_view items)) (texts_with [] (items_view items)) (omega (arith, c.if-len-gt-MAX_MEMBERS.true, c.len.ensures, count_items items)))

pub returns-then-is_set-clause-exact : goal.returns-then-is_set-clause-exact
returns-then-is_set-clause-exact c =
    let items = c.args.items.items in let keys = c.in-Some.strings.keys in
    let n = item_count (items_view items) in
    let few : n ≤ 1024 = omega (arith, c.if-len-gt-MAX_MEMBERS.false, c.len.ensures, count_items items) in
    let found = sym c.in_ok-strings.ensures.exact ∙ ap (option_map (λ (texts : BTreeSet (String Global)). map string_bytes texts.keys)) c.in-Some.is in
    let same = c.of-texts.ensures ∙ c.in_ok-own_texts.ensures.same in
    ap (λ t. Some (Set t)) same
    ∙ sym (set_made n (texts_of keys) few (subst IsSet same (c.if-is_set.ensures.0 refl)))
    ∙ sym (ap (option_and_then (set_of n)) found)

pub returns-else-is_set-clause-exact : goal.returns-else-is_set-clause-exact
returns-else-is_set-clause-exact c =
    let items = c.args.items.items in let keys = c.in-Some.strings.keys in
    let n = item_count (items_view items) in
    let few : n ≤ 1024 = omega (arith, c.if-len-gt-MAX_MEMBERS.false, c.len.ensures, count_items items) in
    let found = sym c.in_ok-strings.ensures.exact ∙ ap (option_map (λ (texts : BTreeSet (String Global)). map string_bytes texts.keys)) c.in-Some.is in
    let same = c.of-texts.ensures ∙ c.in_ok-own_texts.ensures.same in
    let least = subst (λ (f : Option (BTreeSet (String Global))). IfSome f (λ texts. length texts.keys ≤ length items)) c.in-Some.is c.in_ok-strings.ensures.few in
    let len : length (texts_of keys) ≤ n = omega (arith, least, count_items items, length-map keys string_bytes) in
    sym (ap (option_and_then (set_of n)) found
    ∙ set_refused n keys few len c.own_texts.ensures.ordered (λ is. true≢false (sym (c.is_set.ensures.1 (subst IsSet (sym same) is)) ∙ c.if-is_set.false)))
