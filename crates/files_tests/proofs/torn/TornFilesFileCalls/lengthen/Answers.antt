use Rattle.std.proofs.Common.{[]}
use Rattle.files_tests.proofs.Tearing.{written}
use Rattle.files_tests.proofs.torn.TornFilesFileCalls.lengthen.Goals as goal

pub returns-clause-told : goal.returns-clause-told
returns-clause-told g c = λ told. written (g.F.FileCalls.holds c.args.self.now.files) (g.F.FileCalls.holds c.lengthen.new.self) c.args.file c.args.len [] c.lengthen.result (c.lengthen.ensures.told told)
