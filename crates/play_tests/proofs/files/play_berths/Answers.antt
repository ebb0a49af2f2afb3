use Rattle.play_tests.proofs.OverFiles.{all_again, base_at}
use Rattle.play_tests.proofs.files.play_berths.Goals as goal

pub run_over-requires-clause-bases : goal.run_over-requires-clause-bases
run_over-requires-clause-bases g c κs within = λ leaf b used at. base_at _ c.args.berths.now.items c.requires.fresh leaf b at

pub returns : goal.returns
returns g c =
    let ran = c.in_ok-status.ensures.ran in
    all_again _ c.args.berths.now.items _ ran.2.left.as_many c.requires.fresh c.in_ok-status.ensures.again
