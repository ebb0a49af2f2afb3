use Rattle.std.proofs.Common.{◌-◌}
use Rattle.leaf_model.specs.Reading.{texts_at}
use Rattle.leaf_model.proofs.LentLaws.{Passes}
use Rattle.leaf_model.proofs.spelled.behind_texts.Given as goal

abbrev pub invariant-loop : goal.invariant-loop
invariant-loop l = Passes (texts_at (l.count - l.counter) l.rest) (texts_at l.count l.bytes)
