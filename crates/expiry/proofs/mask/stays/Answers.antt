use Rattle.std.proofs.Common.{false, length, ℤ, w64, ap, ◌∙◌, arith}
use Rattle.std.proofs.lemmas.Int.{to_z-of_z}
use Rattle.std.proofs.lemmas.List.FromFn.{fill_by_all}
use Rattle.expiry.specs.Masks.{stays_at}
use Rattle.expiry.proofs.mask.stays.Goals as goal

pub returns : goal.returns
returns c =
    let times = c.args.times.now in
    let skip = c.args.skip in
    let at_end = c.loop-place.invariant in
    fill_by_all (stays_at times skip c.args.horizon) c.loop-place.mask.items (length times) false at_end.long
    (λ k within. at_end.done k (omega arith) within ∙ ap (λ (h : ℤ). stays_at times skip h k) (to_z-of_z w64 c.args.horizon c.ranges.horizon))
