use Rattle.std.proofs.Common.{◌≡◌, ◌++◌, ◌∷◌, [], ap, sym, ◌∙◌, subst, false}
use Rattle.script_text.specs.declared.reading.LineRead.{LineRead}
use Rattle.script_text.specs.declared.reading.Position.TheVariants as position
use Rattle.script_text.specs.Bursts.{stepped}
use Rattle.script_text.specs.Readings.{IsReading}
use Rattle.script_text.specs.Stewards.{is_second}
use Rattle.script_text.proofs.Keeps.{command_keeps}
use Rattle.script_text.proofs.reading.command_in_lane.Goals as goal

pub returns-clause-is_reading : goal.returns-clause-is_reading
returns-clause-is_reading g c =
    let fleet = c.args.fleet.now in
    let found = c.in_ok-command.command in
    let not : is_second c.args.earlier found ≡ false = sym c.if-has_second.ensures in
    let lane : c.in_ok-lane.lane ≡ c.args.lane ++ found ∷ [] = c.in_ok-lane.ensures in
    let is : c.stepped.result ≡ stepped c.args.script (position.Lane c.args.earlier (c.args.lane ++ found ∷ [])) c.row_count-rows.result =
    c.stepped.ensures ∙ ap (λ commands. stepped c.args.script (position.Lane c.args.earlier commands) c.row_count-rows.result) lane in
    subst (λ (s : LineRead). IsReading fleet s.reading) (sym is) (command_keeps fleet c.args.script c.args.earlier c.args.lane found c.row_count-rows.result not c.in_ok-command.ensures.is_command c.requires.reading)
