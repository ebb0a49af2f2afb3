use Rattle.crash_states.proofs.Lefts.{runs_left, rests_left, copies_left}
use Rattle.crash_states.proofs.standing_is_left.Goals as goal

pub returns : goal.returns
returns g c = record {
  runs = λ ws others owner log writes runs. runs_left ws others owner log writes (g.B.Berth.meaning c.args.berth.now) runs;
  rests = λ ws others least next rests. rests_left ws others least next (g.B.Berth.meaning c.args.berth.now) rests;
  copies = λ ws others drain writes copies. copies_left ws others drain writes (g.B.Berth.meaning c.args.berth.now) copies;
}
