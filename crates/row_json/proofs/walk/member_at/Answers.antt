use Rattle.std.proofs.Common.{rules, ◌≡◌, Some, true, false, sym, ap, ◌∙◌}
use Rattle.std.specs.Int.{w64}
use Rattle.std.proofs.lemmas.Int.{to_z-of_z}
use Rattle.row_json.specs.Row.{is_time}
use Rattle.row_json.proofs.Seen.{fine_time, knows_other, knows_time}
use Rattle.row_json.proofs.walk.member_at.Goals as goal

pub returns-then-is_time : goal.returns-then-is_time
returns-then-is_time c =
    let found = c.in_ok-now.ensures in
    let name = c.args.name.now in
    let own : is_time name ≡ true = sym c.is_time.ensures ∙ c.if-is_time.true in
    let same = ap Some (sym (to_z-of_z w64 c.in_ok-now.now (search rules))) in
    (found.0, found.1, fine_time name found.0 own, λ old known. knows_time c.in_ok-now.now name found.0 old own found.2 ∙ same)

pub returns : goal.returns
returns c =
    let found = c.in_ok-rest.ensures in
    let name = c.args.name.now in
    let other : is_time name ≡ false = sym c.is_time.ensures ∙ c.if-is_time.false in
    (found.0, found.1, found.2, λ old known. knows_other c.args.time name found.0 old other known)
