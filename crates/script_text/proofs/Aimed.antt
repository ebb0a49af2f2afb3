-- What is said of a command's stewards is said by whom the command is for.
use Rattle.std.proofs.Common.{◌≡◌, ℕ, List, refl, ap, sym, ◌∙◌}
use Rattle.script_text.specs.declared.command.Command.{Command}
use Rattle.script_text.specs.declared.command.Command.TheVariants as command
use Rattle.script_text.specs.Aims.{Aim, IsAim, aim_of, is_for_some_steward, is_for_steward, is_second_for}
use Rattle.script_text.specs.Fits.{IsCommand}
use Rattle.script_text.specs.Stewards.{is_a_stewards, is_second, is_stewards}

pub stewards_aim : (leaf : ℕ) (c : Command) → is_stewards leaf c ≡ is_for_steward leaf (aim_of c)
stewards_aim leaf (command.Rollover percent) = refl
stewards_aim leaf _ = refl

pub some_stewards_aim : (c : Command) → is_a_stewards c ≡ is_for_some_steward (aim_of c)
some_stewards_aim (command.Rollover percent) = refl
some_stewards_aim _ = refl

pub second_aim : (lanes : List (List Command)) (c : Command) → is_second lanes c ≡ is_second_for lanes (aim_of c)
second_aim lanes (command.Rollover percent) = refl
second_aim lanes _ = refl

-- the same by an aim that is known
pub stewards_by : (leaf : ℕ) (c : Command) (aim : Aim) → aim ≡ aim_of c → is_stewards leaf c ≡ is_for_steward leaf aim
stewards_by leaf c aim is = stewards_aim leaf c ∙ ap (is_for_steward leaf) (sym is)

pub some_stewards_by : (c : Command) (aim : Aim) → aim ≡ aim_of c → is_a_stewards c ≡ is_for_some_steward aim
some_stewards_by c aim is = some_stewards_aim c ∙ ap is_for_some_steward (sym is)

pub second_by : (lanes : List (List Command)) (c : Command) (aim : Aim) → aim ≡ aim_of c → is_second_for lanes aim ≡ is_second lanes c
second_by lanes c aim is = ap (is_second_for lanes) is ∙ sym (second_aim lanes c)

-- a command of a fleet is for a leaf and a table that it has
pub aim_fits : (leaves : ℕ) (tables : List (List ℕ)) (c : Command) → IsCommand leaves tables c → IsAim leaves tables (aim_of c)
aim_fits leaves tables (command.Fleet machines per_machine names) is = is
aim_fits leaves tables (command.Query q) is = is.0
aim_fits leaves tables (command.Flush leaf table) is = is.0
aim_fits leaves tables (command.Drain leaf stop) is = is.0
aim_fits leaves tables (command.Kill leaf) is = is
aim_fits leaves tables (command.Start leaf) is = is
aim_fits leaves tables (command.Rollover percent) is = tt
aim_fits leaves tables (command.Standing leaf query) is = is
aim_fits leaves tables (command.Tell number) is = is
aim_fits leaves tables _ is = is.1
