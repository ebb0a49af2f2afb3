use Rattle.std.proofs.Common.{refl}
use Rattle.berth_mem.specs.Forms.{meaning}
use Rattle.files_tests.specs.Laws as laws
use Rattle.files_tests.specs.Torn.{keeps_region}
use Rattle.files_tests.proofs.Tearing.{shut_now}
use Rattle.files_tests.proofs.torn.shut.Goals as goal

pub returns : goal.returns
returns c =
    let b = c.region_write.new.self.files.files.kept in
    record { closed = shut_now c.region_write.result _ _ (λ p left. keeps_region (meaning b) (λ q was. laws.keeps_region b q was) p left) (c.region_write.ensures.told refl) }
