use Rattle.berth_face.specs.declared.stream.Failed.{Failed}
use Rattle.berth_files.proofs.Counted.{unwritten}
use Rattle.berth_files.proofs.whole.write_near.Goals as goal

pub returns-then-is_far-clause-told : goal.returns-then-is_far-clause-told
returns-then-is_far-clause-told g c = λ told. unwritten (Unit {0}) Failed c.args.file c.args.at c.args.bytes.now (record {}) (g.F.FileCalls.holds c.args.files.now)
