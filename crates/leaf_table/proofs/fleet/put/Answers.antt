use Rattle.std.proofs.Common.{◌<◌, length, Vec, Global, arith}
use Rattle.std.proofs.lemmas.List.{length-map}
use Rattle.leaf_table.specs.Calls.{SeatView}
use Rattle.leaf_table.proofs.Places.{put_in}
use Rattle.leaf_table.proofs.fleet.put.Goals as goal

pub returns : goal.returns
returns c =
    let low : c.args.at < length c.args.rows.now.items = omega (arith, c.requires, length-map c.args.rows.now.items (λ (v : Vec SeatView Global). v.items)) in
    put_in c.args.rows.now.items c.args.at c.index_mut.result.now c.push.new.self c.args.seat low c.index_mut.ensures.value c.in_ok-push.ensures.items
