use Rattle.std.proofs.Common.{◌≡◌, List, ℕ, [], subst}
use Rattle.berth_face.specs.Berth.{Pair}
use Rattle.berth_mem.specs.Forms.{FreshOn}
use Rattle.berth_mem.specs.declared.record.BerthCall.{BerthCall}
use Rattle.berth_mem.specs.Record.{disk_before, leaves_at}
use Rattle.berth_mem.proofs.Picked.{lost_too}
use Rattle.berth_mem.proofs.berth.MemBerth.pick.Goals as goal

pub returns-then-image-eq0-clause-left : goal.returns-then-image-eq0-clause-left
returns-then-image-eq0-clause-left c =
    let now = c.args.self.now in
    let p : Pair = record { region = c.in_ok-region.region.items; disk = c.in_ok-region.disk.items } in
    (p, subst (λ (cs : List BerthCall). leaves_at cs now.region.items now.disk.items (λ d. d ≡ disk_before cs now.disk.items) c.args.moment p) c.deref.ensures.value c.in_ok-region.ensures, c.new.ensures.fresh)

pub returns-else-image-eq0-clause-left : goal.returns-else-image-eq0-clause-left
returns-else-image-eq0-clause-left c =
    let now = c.args.self.now in
    let p : Pair = record { region = c.in_ok-region.region.items; disk = c.in_ok-region.disk.items } in
    let left = subst (λ (cs : List BerthCall). leaves_at cs now.region.items now.disk.items (λ d. d ≡ disk_before cs now.disk.items) c.args.moment p) c.deref.ensures.value c.in_ok-region.ensures in
    let b = c.new-else-image-eq0-2.result in (
      record { region = []; disk = p.disk },
      lost_too now.calls.items now.region.items now.disk.items (λ d. d ≡ disk_before now.calls.items now.disk.items) c.args.moment p left,
      subst (λ (r : List ℕ). FreshOn r p.disk b) c.new-else-image-eq0.ensures.items c.new-else-image-eq0-2.ensures.fresh,
    )
