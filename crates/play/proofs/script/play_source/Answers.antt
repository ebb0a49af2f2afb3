use Rattle.std.proofs.Common.{rules, ◌≡◌, ◌≤◌, sym, subst, length, Ok}
use Rattle.berth_face.specs.Streams.{ReadsAll, TakesAtMost}
use Rattle.run_ends.specs.Outcome.{IfScript, IsRefused, TakesText}
use Rattle.run_ends.specs.Source.{longest_text}
use Rattle.play.specs.Outcome.{play_verdict}
use Rattle.script_text.specs.Fits.{IsScript}
use Rattle.script_text.specs.Script.{script_of}
use Rattle.play.proofs.Ends.{leaves_as_told}
use Rattle.play.proofs.Short.{source_short}
use Rattle.play.specs.Played.{leaves_in}
use Rattle.play.proofs.Own.{no_play_fault, no_more_fault, Found}
use Rattle.play.proofs.script.play_source.Goals as goal

pub returns-in-Err-clause-script : goal.returns-in-Err-clause-script
returns-in-Err-clause-script g c =
    let read : ReadsAll (g.S.Source.left c.args.source.now) (g.S.Source.left c.read_all.new.source) c.in-Ok.text.items = search rules in
    let found : Found c.in-Ok.text.items c.in-Err.fault = search rules in
    let small : length c.in-Ok.text.items ≤ longest_text = search rules in
    subst (λ s. IfScript s (IsRefused (play_verdict (length c.args.berths.now.items)) (g.S.Source.left c.args.source.now) (g.S.Source.left c.read_all.new.source))) (sym c.status_of.ensures)
    (no_play_fault (length c.args.berths.now.items) (g.S.Source.left c.args.source.now) (g.S.Source.left c.read_all.new.source) c.in-Ok.text.items c.in-Err.fault read small found)

pub returns-in-Err-clause-too_long : goal.returns-in-Err-clause-too_long
returns-in-Err-clause-too_long g c =
    let found : Found c.in-Ok.text.items c.in-Err.fault = search rules in
    let takes : TakesAtMost (g.S.Source.left c.args.source.now) (g.S.Source.left c.read_all.new.source) longest_text = search rules in
    subst (λ s. TakesText s (g.S.Source.left c.args.source.now) (g.S.Source.left c.read_all.new.source)) (sym c.status_of.ensures)
    (no_more_fault (g.S.Source.left c.args.source.now) (g.S.Source.left c.read_all.new.source) c.in-Ok.text.items c.in-Err.fault found takes)

pub returns-clause-berths : goal.returns-clause-berths
returns-clause-berths g c =
    let before = g.S.Source.left c.args.source.now in
    let after = g.S.Source.left c.read_all.new.source in
    let script = c.in-Ok-parse.script in
    let read : ReadsAll before after c.in-Ok.text.items = search rules in
    let is : script_of c.in-Ok.text.items ≡ Ok script = search rules in
    let fits : IsScript script = search rules in
    leaves_as_told g.B.Berth.meaning before after c.in-Ok.text.items script c.args.berths.now.items c.play_items.new.berths.items read is fits.items c.play_items.ensures.berths

pub returns-clause-short : goal.returns-clause-short
returns-clause-short g c =
    let before = g.S.Source.left c.args.source.now in
    let after = g.S.Source.left c.read_all.new.source in
    let script = c.in-Ok-parse.script in
    let read : ReadsAll before after c.in-Ok.text.items = search rules in
    let is : script_of c.in-Ok.text.items ≡ Ok script = search rules in
    let enough : leaves_in script.items ≤ length c.args.berths.now.items = search rules in
    source_short g.N.Bases.base g.B.Berth.meaning before after _ _ c.args.berths.now.items c.play_items.new.berths.items _ _ script c.in-Ok.text.items read is enough c.play_items.result c.play_items.ensures.short

pub returns-clause-done : goal.returns-clause-done
returns-clause-done g c = λ done.
    let before = g.S.Source.left c.args.source.now in
    let after = g.S.Source.left c.read_all.new.source in
    let script = c.in-Ok-parse.script in
    let read : ReadsAll before after c.in-Ok.text.items = search rules in
    let is : script_of c.in-Ok.text.items ≡ Ok script = search rules in
    let enough : leaves_in script.items ≤ length c.args.berths.now.items = search rules in
    (c.in-Ok.text.items, script, read, is, enough, c.play_items.ensures.done done)
