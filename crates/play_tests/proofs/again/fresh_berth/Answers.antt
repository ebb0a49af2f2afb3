use Rattle.std.proofs.Common.{[], subst}
use Rattle.berth_mem.specs.Forms.{FreshOn}
use Rattle.play.specs.Empty.{is_fresh_base}
use Rattle.play_tests.proofs.again.fresh_berth.Goals as goal

pub returns : goal.returns
returns c =
    let empty : FreshOn [] [] c.new-3.result =
    subst (λ region. FreshOn region [] c.new-3.result) c.new.ensures.items (subst (λ disk. FreshOn c.new.result.items disk c.new-3.result) c.new-2.ensures.items c.new-3.ensures.fresh) in
    is_fresh_base c.new-3.result empty
