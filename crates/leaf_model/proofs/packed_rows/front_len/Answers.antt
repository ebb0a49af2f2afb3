use Rattle.std.proofs.Common.{arith}
use Rattle.leaf_model.specs.Packed.{packed_rows}
use Rattle.leaf_model.proofs.PackedLaws.{front_some, front_end}
use Rattle.leaf_model.proofs.packed_rows.front_len.Goals as goal

pub behind_rows-requires : goal.behind_rows-requires
behind_rows-requires c = front_some c.args.all c.args.count c.args.bytes.now (packed_rows c.args.all c.args.bytes.now) c.requires.few c.requires.packed

pub overflow_sub-result : goal.overflow_sub-result
overflow_sub-result c =
    let e = front_end c.args.all c.args.count c.args.bytes.now (packed_rows c.args.all c.args.bytes.now) (packed_rows c.args.count c.args.bytes.now) c.behind_rows.result.now c.requires.few c.requires.packed c.behind_rows.ensures in
    omega (arith, e)

pub returns : goal.returns
returns c =
    let e = front_end c.args.all c.args.count c.args.bytes.now (packed_rows c.args.all c.args.bytes.now) (packed_rows c.args.count c.args.bytes.now) c.behind_rows.result.now c.requires.few c.requires.packed c.behind_rows.ensures in
    omega (arith, e)
