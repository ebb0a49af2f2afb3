use Rattle.std.proofs.Common.{◌≡◌, ap, sym, ◌∙◌, subst}
use Rattle.script_text.specs.declared.item.Item.TheVariants.{One}
use Rattle.script_text.specs.declared.reading.LineRead.{LineRead}
use Rattle.script_text.specs.declared.reading.Position.TheVariants as position
use Rattle.script_text.specs.Bursts.{stepped, with_item}
use Rattle.script_text.specs.Readings.{IsReading}
use Rattle.script_text.proofs.Keeps.{command_outside_keeps, tell_outside_keeps}
use Rattle.script_text.proofs.reading.outside.Goals as goal

pub returns-in_ok-script-in-Tell-clause-is_reading : goal.returns-in_ok-script-in-Tell-clause-is_reading
returns-in_ok-script-in-Tell-clause-is_reading g c =
    let fleet = c.args.fleet.now in
    let found = c.in_ok-command-in-Tell.command in
    let more : c.in_ok-script-in-Tell.script ≡ with_item c.args.script (One found) = c.in_ok-script-in-Tell.ensures in
    let is : c.stepped.result ≡ stepped (with_item c.args.script (One found)) position.Outside 0 = c.stepped.ensures ∙ ap (λ script. stepped script position.Outside 0) more in
    let told = c.in_ok-command-in-Tell.ensures in
    subst (λ (s : LineRead). IsReading fleet s.reading) (sym is) (tell_outside_keeps fleet c.args.script found 0 c.requires.reading (told.alone _ _) told.told told.none)

pub returns-in_ok-script-in-Command-clause-is_reading : goal.returns-in_ok-script-in-Command-clause-is_reading
returns-in_ok-script-in-Command-clause-is_reading g c =
    let fleet = c.args.fleet.now in
    let found = c.in_ok-command-in-Command.command in
    let rows = c.row_count-rows.result in
    let more : c.in_ok-script-in-Command.script ≡ with_item c.args.script (One found) = c.in_ok-script-in-Command.ensures in
    let is : c.stepped-in-Command.result ≡ stepped (with_item c.args.script (One found)) position.Outside rows = c.stepped-in-Command.ensures ∙ ap (λ script. stepped script position.Outside rows) more in
    subst (λ (s : LineRead). IsReading fleet s.reading) (sym is) (command_outside_keeps fleet c.args.script found rows c.requires.reading c.in_ok-command-in-Command.ensures.is_command)
