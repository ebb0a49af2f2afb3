use Rattle.std.proofs.Common.{◌≤◌, subst}
use Rattle.play_tests.proofs.files.images_of.Goals as goal

pub images-requires : goal.images-requires
images-requires c = subst (λ n. c.args.moment ≤ n) c.files-kept.ensures.clock c.requires
