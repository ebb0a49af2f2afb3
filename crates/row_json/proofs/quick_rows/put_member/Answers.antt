use Rattle.std.proofs.Common.{◌≡◌, Some, true, false, sym, ap, ◌∙◌, rules}
use Rattle.std.specs.Int.{w64}
use Rattle.std.proofs.lemmas.Int.{to_z-of_z}
use Rattle.row_json.specs.Row.{is_time}
use Rattle.row_json.proofs.Seen.{knows_time, knows_other}
use Rattle.row_json.proofs.Put.{puts_time}
use Rattle.row_json.proofs.quick_rows.put_member.Goals as goal

pub returns-then-eq-clause-exact : goal.returns-then-eq-clause-exact
returns-then-eq-clause-exact c =
    let found = c.in_ok-now.ensures in
    let name = c.args.name.now in
    let own : is_time name ≡ true = sym c.if-eq.ensures in
    let same = ap Some (sym (to_z-of_z w64 c.in_ok-now.now (search rules))) in
    (found.0, found.1, (λ old known. knows_time c.in_ok-now.now name found.0 old own found.2 ∙ same), puts_time name found.0 c.args.cells.now.items own)

pub returns-clause-exact : goal.returns-clause-exact
returns-clause-exact c =
    let found = c.in_ok-value.ensures.exact in
    let name = c.args.name.now in
    let other : is_time name ≡ false = sym c.if-eq.ensures in
    (found.0, found.1, (λ old known. knows_other c.args.time name found.0 old other known), c.in_ok-put_cell.ensures.puts found.0 found.2)
