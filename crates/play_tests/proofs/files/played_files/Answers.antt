use Rattle.play_tests.proofs.OverFiles.{all_last}
use Rattle.play_tests.proofs.files.played_files.Goals as goal

pub returns : goal.returns
returns g c = all_last _ _ _ c.pop-left.result c.pop-left.ensures.items c.in_ok-_status.ensures
