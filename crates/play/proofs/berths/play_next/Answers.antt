use Rattle.std.proofs.Common.{IfOk, OnOk, subst, sym}
use Rattle.std.specs.List.{AllByRecursion}
use Rattle.std.specs.Io.KnownBytes.{Appends}
use Rattle.printed_lines.specs.Lines.{IsOf, lines_text}
use Rattle.play.proofs.Plays.{advances, on_err, stops_one}
use Rattle.berth_face.specs.Streams.{WritesFront}
use Rattle.play.proofs.berths.play_next.Goals as goal

pub write_lines-requires : goal.write_lines-requires
write_lines-requires g c = subst (λ ns. IfOk c.play_followed-lines.result (λ lines. AllByRecursion (IsOf ns) lines.items)) c.requires.names c.play_followed-lines.ensures.lines_fit

pub returns-clause-played : goal.returns-clause-played
returns-clause-played g c =
    let was = g.K.Sink.written c.args.sink.now in
    let now = g.K.Sink.written c.write_lines.new.sink in
    advances g.B.Berth.meaning c.args.crew.now.fleet c.args.item c.args.followers.now.list.items c.play_followed-lines.new.followers.list.items c.args.crew.now.holds c.play_followed-lines.new.crew.holds was now _ _
    c.play_followed-lines.result c.write_lines.result c.requires.may_play c.play_followed-lines.ensures.did c.write_lines.ensures.made
    (subst (λ ns. OnOk c.write_lines.result (IfOk c.play_followed-lines.result (λ lines. Appends was now (lines_text ns lines.items)))) (sym c.requires.names) c.write_lines.ensures.written)

pub returns-clause-stops : goal.returns-clause-stops
returns-clause-stops g c =
    let was = g.K.Sink.written c.args.sink.now in
    let now = g.K.Sink.written c.write_lines.new.sink in
    on_err c.write_lines.result (stops_one g.B.Berth.meaning c.args.crew.now.fleet c.args.item _ c.args.followers.now.list.items c.args.crew.now.holds c.play_followed-lines.new.crew.holds was now _ _ c.play_followed-lines.result c.play_followed-lines.ensures.did
    (subst (λ ns. IfOk c.play_followed-lines.result (λ lines. WritesFront was now (lines_text ns lines.items))) (sym c.requires.names) c.write_lines.ensures.front) c.write_lines.ensures.none)
