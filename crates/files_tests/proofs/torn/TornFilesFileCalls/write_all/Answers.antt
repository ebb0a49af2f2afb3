use Rattle.files_tests.proofs.Tearing.{written}
use Rattle.files_tests.proofs.torn.TornFilesFileCalls.write_all.Goals as goal

pub returns-clause-told : goal.returns-clause-told
returns-clause-told g c = λ told. written (g.F.FileCalls.holds c.args.self.now.files) (g.F.FileCalls.holds c.write_all.new.self) c.args.file c.args.at c.args.bytes.now c.write_all.result (c.write_all.ensures.told told)
