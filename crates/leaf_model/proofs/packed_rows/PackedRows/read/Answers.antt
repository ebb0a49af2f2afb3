use Rattle.std.proofs.Common.{◌≡◌, ◌∙◌, ◌-◌, length, take, arith, rules}
use Rattle.leaf_model.specs.Packed.{packed_rows}
use Rattle.leaf_model.proofs.PackedLaws.{are_packed, packed_is}
use Rattle.leaf_model.proofs.PackedBytes.{rest_shorter, cut_packed}
use Rattle.leaf_model.proofs.packed_rows.PackedRows.read.Goals as goal

pub overflow_sub-len : goal.overflow_sub-len
overflow_sub-len c = rest_shorter c.args.count c.args.bytes.now c.args.rest.now (λ i. omega (arith, c.type_inv.bytes i)) c.requires

pub invariant_of-result : goal.invariant_of-result
invariant_of-result c =
    let bytes = c.args.bytes.now in
    let own = c.of.result in
    let cut : own ≡ take (length bytes - length c.args.rest.now) bytes = c.of.ensures ∙ search rules in
    are_packed c.args.count own (packed_rows c.args.count bytes) (cut_packed c.args.count bytes c.args.rest.now own (λ i. omega (arith, c.type_inv.bytes i)) c.requires cut)

pub returns : goal.returns
returns c =
    let bytes = c.args.bytes.now in
    let own = c.of.result in
    let cut : own ≡ take (length bytes - length c.args.rest.now) bytes = c.of.ensures ∙ search rules in
    packed_is c.args.count own (packed_rows c.args.count bytes) (cut_packed c.args.count bytes c.args.rest.now own (λ i. omega (arith, c.type_inv.bytes i)) c.requires cut)
