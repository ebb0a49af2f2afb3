use Rattle.std.proofs.Common.{rules, arith, ◌≡◌, ℕ, List, ◌+◌, ◌-◌, ◌<◌, ◌≤◌, ◌^◌, ◌∙◌, Some, refl, sym, ap, subst, length, drop, take, get_or, true, false}
use Rattle.std.proofs.lemmas.List.{take_all, length-drop}
use Rattle.serde_json.specs.Data.{number, string}
use Rattle.row_json.proofs.Seen.{fine_number, fine_string}
use Rattle.row_json.proofs.walk.cell_at.Goals as goal

pub returns-then-text-eq34 : goal.returns-then-text-eq34
returns-then-text-eq34 c =
    let held = c.in_ok-held.held.now in
    (string held, c.in_ok-held.ensures, fine_string c.args.name.now held c.requires.other c.requires.good c.if-held-gt-MAX_TEXT.false)

pub returns : goal.returns
returns c =
    let found = c.in_ok-rest.ensures in
    (number found.0, found.1, fine_number c.args.name.now found.0 c.in_ok-rest.field-0-0 c.requires.other c.requires.good found.2)
