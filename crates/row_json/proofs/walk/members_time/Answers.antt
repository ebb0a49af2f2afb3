use Rattle.std.proofs.Common.{rules, arith, ◌≡◌, ℕ, List, ◌+◌, ◌-◌, ◌<◌, ◌≤◌, ◌^◌, ◌∙◌, Some, refl, sym, ap, subst, length, drop, take, get_or, true, false}
use Rattle.std.proofs.lemmas.List.{take_all, length-drop}
use Rattle.json.specs.Json.{members, value}
use Rattle.json.specs.Lex.{fresh, after_comma, after_value}
use Rattle.json.specs.Token.{Token}
use Rattle.serde_json.specs.Data.{Members, no_members, put}
use Rattle.serde_json.specs.Read.{converted, of_members}
use Rattle.std.proofs.Common.{[]}
use Rattle.row_json.specs.Plain.{json_tokens_from}
use Rattle.row_json.proofs.Seen.{count_put, ended, fine_put}
use Rattle.row_json.proofs.Plain.{comma_taken, counted_tokens, first_byte, member_read, members_closed, only_byte}
use Rattle.row_json.proofs.walk.members_time.Goals as goal

pub members-init : goal.members-init
members-init c = (length (json_tokens_from fresh c.args.text.now), no_members, fresh, refl, omega arith, refl, tt, tt, omega arith, omega arith)

pub returns-then-after-eq125 : goal.returns-then-after-eq125
returns-then-after-eq125 c =
    let l = c.members in let inv = l.invariant in
    let n = inv.0 in let old = inv.1 in
    let k = c.in_ok-name.name.now in let held = c.in_ok-name.held.now in let after = c.in_ok-now.after.now in
    let found = c.in_ok-now.ensures in let d = found.0 in
    let key = c.in_ok-name.ensures in
    let enough = counted_tokens inv.2 l.rest.now k held after old n d inv.3 key found.1 inv.4 in
    let done = member_read inv.2 l.rest.now k held after old n d inv.3 key found.1 inv.4 in
    let closed = members_closed (put k d old) (n - 1) after (only_byte 125 after c.if-after-eq1.true c.if-after-eq125.true) (omega (arith, enough)) in
    let text = json_tokens_from fresh c.args.text.now in
    ended c.in_ok-now.now (put k d old) (converted (λ ms. of_members ms no_members) (members (value 126) (length text) text)) []
    (inv.5 ∙ done ∙ closed) (found.3 old inv.7) (fine_put k d old found.2 inv.6) (omega (arith, count_put k d old, inv.8, c.members-test.true))

pub members-preserved : goal.members-preserved
members-preserved c =
    let l = c.members in let inv = l.invariant in
    let n = inv.0 in let old = inv.1 in
    let k = c.in_ok-name.name.now in let held = c.in_ok-name.held.now in let after = c.in_ok-now.after.now in
    let found = c.in_ok-now.ensures in let d = found.0 in
    let key = c.in_ok-name.ensures in
    let enough = counted_tokens inv.2 l.rest.now k held after old n d inv.3 key found.1 inv.4 in
    let done = member_read inv.2 l.rest.now k held after old n d inv.3 key found.1 inv.4 in
    let rest = take (length after - 1) (drop 1 after) in
    let all : rest ≡ drop 1 after = take_all (length after - 1) (drop 1 after) (omega (arith, length-drop 1 after)) in
    let some : 0 < length after = search rules in
    let comma : json_tokens_from after_value after ≡ json_tokens_from after_comma rest = ap (json_tokens_from after_value) (first_byte 44 after some c.if-after-ne44.false) ∙ comma_taken (drop 1 after) ∙ ap (json_tokens_from after_comma) (sym all) in (
      n - 1,
      put k d old,
      after_comma,
      refl,
      omega (arith, enough, ap (λ (ts : List Token). length ts) comma),
      inv.5 ∙ done ∙ ap (λ (ts : List Token). converted (λ ms. of_members ms (put k d old)) (members (value 126) (n - 1) ts)) comma,
      fine_put k d old found.2 inv.6,
      found.3 old inv.7,
      omega (arith, count_put k d old, inv.8),
      omega (arith, c.members-test.true),
    )
