use Rattle.std.proofs.Common.{◌≡◌, Some, true, false, List, ℕ, option_map, sym, ap, subst, ◌∙◌, arith, rules}
use Rattle.std.specs.Int.{w64}
use Rattle.std.proofs.lemmas.Int.{to_z-of_z}
use Rattle.serde_json.specs.Data.{Members, put, object}
use Rattle.row_json.specs.Row.{is_time, time_of}
use Rattle.row_json.specs.Quick.{Knows, HasNoFault}
use Rattle.row_json.proofs.Seen.{knows_time, knows_other, fine_time}
use Rattle.row_json.proofs.quick.with_member.Goals as goal

pub returns-then-eq : goal.returns-then-eq
returns-then-eq c =
    let found = c.in_ok-now.ensures in
    let name = c.args.name.now in
    let own : is_time name ≡ true = sym c.if-eq.ensures in
    let same = ap Some (sym (to_z-of_z w64 c.in_ok-now.now (search rules))) in
    (found.0, found.1, fine_time name found.0 own, λ old known. knows_time c.in_ok-now.now name found.0 old own found.2 ∙ same)

pub returns : goal.returns
returns c =
    let found = c.in_ok-cell_in.ensures in
    let name = c.args.name.now in
    let other : is_time name ≡ false = sym c.if-eq.ensures in
    (found.0, found.1, found.2, λ old known. knows_other c.args.time name found.0 old other known)
