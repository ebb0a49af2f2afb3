use Rattle.std.proofs.Common.{rules, ◌≡◌, []}
use Rattle.play.proofs.Ends.{nothing_written}
use Rattle.play.proofs.berths.play_items.Goals as goal

pub returns-in-Ok-None-clause-done : goal.returns-in-Ok-None-clause-done
returns-in-Ok-None-clause-done g c =
    let none : c.args.items ≡ [] = search rules in
    λ e. nothing_written g.N.Bases.base g.B.Berth.meaning c.args.items (g.K.Sink.written c.args.sink.now) c.args.berths.now.items _ none
