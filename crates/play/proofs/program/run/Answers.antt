use Rattle.std.proofs.Common.{length, rules}
use Rattle.std.specs.Prelude.{nat_le, nat_lt}
use Rattle.play.specs.Played.{soak_leaves}
use Rattle.play.proofs.Soaked.{none_taken}
use Rattle.play.proofs.program.run.Goals as goal

-- what holds of a run is found field by field, but for what a run takes that reads no source
pub returns-in-Some-Soak : goal.returns-in-Some-Soak
returns-in-Some-Soak g c = record {
  done = search rules;
  short = search rules;
  words = search rules;
  script = search rules;
  read_fault = search rules;
  write_fault = search rules;
  exact = search rules;
  takes = search rules;
  too_long = none_taken (nat_lt (length c.args.berths.now.items) soak_leaves) (g.S.Source.left c.args.source.now) c.play_soak.result c.play_soak.ensures.script;
  unread = search rules;
  unwritten = search rules;
  unplayed = search rules;
  unwatched = search rules;
  count_unwritten = search rules;
  count_cut_short = search rules;
  count_unplayed = search rules;
  count_unwatched = search rules;
  inspect_unwatched = search rules;
  left = search rules;
}

pub returns-in-Some-Inspect : goal.returns-in-Some-Inspect
returns-in-Some-Inspect g c = record {
  done = search rules;
  short = search rules;
  words = search rules;
  script = search rules;
  read_fault = search rules;
  write_fault = search rules;
  exact = search rules;
  takes = search rules;
  too_long = none_taken (nat_le (length c.args.berths.now.items) c.in-Some-Inspect.leaf) (g.S.Source.left c.args.source.now) c.play_inspect.result c.play_inspect.ensures.script;
  unread = search rules;
  unwritten = search rules;
  unplayed = search rules;
  unwatched = search rules;
  count_unwritten = search rules;
  count_cut_short = search rules;
  count_unplayed = search rules;
  count_unwatched = search rules;
  inspect_unwatched = search rules;
  left = search rules;
}
