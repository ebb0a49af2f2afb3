use Rattle.std.proofs.Common.{rules, ◌-◌, length}
use Rattle.berth_files.specs.Files.{file_content}
use Rattle.berth_files.proofs.Parts.{reads_on}
use Rattle.berth_files.proofs.whole.read_on.Goals as goal

pub returns-clause-told : goal.returns-clause-told
returns-clause-told g c = λ tells so_far here.
    reads_on c.read_some.result (file_content c.args.file (g.F.FileCalls.holds c.args.files.now)) c.args.room.now c.read_some.new.buf c.args.at c.args.done (length c.args.room.now - c.args.done)
    c.requires.within (search rules) c.read_some.ensures.bound (c.read_some.ensures.told tells).0 so_far here
