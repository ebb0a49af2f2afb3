use Rattle.std.proofs.Common.{◌-◌, length, take, refl, arith}
use Rattle.leaf_model.proofs.PackedBytes.{cut_packed, rest_shorter}
use Rattle.leaf_model.proofs.packed_rows.spelling.Goals as goal

pub overflow_sub-len : goal.overflow_sub-len
overflow_sub-len c = rest_shorter c.args.count c.args.bytes.now c.args.rest.now (λ i. omega (arith, c.type_inv.bytes i)) c.requires

pub returns : goal.returns
returns c =
    let bytes = c.args.bytes.now in
    (cut_packed c.args.count bytes c.args.rest.now (take (length bytes - length c.args.rest.now) bytes) (λ i. omega (arith, c.type_inv.bytes i)) c.requires refl).spelled
