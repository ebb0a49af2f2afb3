use Rattle.std.proofs.Common.{◌<◌, length, Vec, Global, ℕ, arith}
use Rattle.std.proofs.lemmas.List.{length-map}
use Rattle.block_scan.proofs.Laid.{put_in}
use Rattle.block_scan.proofs.laying.put.Goals as goal

pub returns : goal.returns
returns c =
    let low : c.args.slot < length c.args.lists.now.items = omega (arith, c.requires, length-map c.args.lists.now.items (λ (v : Vec ℕ Global). v.items)) in
    put_in c.args.lists.now.items c.args.slot c.index_mut.result.now c.push.new.self c.args.place low c.index_mut.ensures.value c.in_ok-push.ensures.items
