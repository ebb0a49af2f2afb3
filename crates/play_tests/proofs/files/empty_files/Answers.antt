use Rattle.std.proofs.Common.{◌∙◌}
use Rattle.play_tests.proofs.OverFiles.{opened_empty}
use Rattle.play_tests.proofs.files.empty_files.Goals as goal

pub returns : goal.returns
returns c =
    let means = c.over-berth.ensures.files in
    let files = c.new-files.ensures in
    (c.has_empty_base.ensures (opened_empty c.new-region.result.items c.new-disk.result.items _ _ c.new-region.ensures.items c.new-disk.ensures.items means files.opened), means.clock ∙ files.clock)
