use Rattle.std.proofs.Common.{◌-◌, drop}
use Rattle.leaf_model.proofs.PackedLaws.{dropped, ends_within, are_packed, packed_is}
use Rattle.leaf_model.proofs.packed_rows.PackedRows.drop_first.Goals as goal

pub cut_front-requires : goal.cut_front-requires
cut_front-requires c =
    ends_within c.self.inside.count c.args.count c.front_len-len.result c.as_slice.result.now c.as_slice-2.result.now c.self.inside.bytes c.args.self.now c.self.view_is c.as_slice.ensures c.as_slice-2.ensures c.know.ensures c.front_len-len.ensures

pub invariant_of-self : goal.invariant_of-self
invariant_of-self c =
    are_packed (c.self.inside.count - c.args.count) c.cut_front.new.self (drop c.args.count c.args.self.now)
    (dropped c.self.inside.count c.args.count c.front_len-len.result c.as_slice.result.now c.as_slice-2.result.now c.self.inside.bytes c.cut_front.new.self c.args.self.now c.self.view_is c.as_slice.ensures c.as_slice-2.ensures c.know.ensures c.requires c.front_len-len.ensures c.cut_front.ensures)

pub returns : goal.returns
returns c =
    packed_is (c.self.inside.count - c.args.count) c.cut_front.new.self (drop c.args.count c.args.self.now)
    (dropped c.self.inside.count c.args.count c.front_len-len.result c.as_slice.result.now c.as_slice-2.result.now c.self.inside.bytes c.cut_front.new.self c.args.self.now c.self.view_is c.as_slice.ensures c.as_slice-2.ensures c.know.ensures c.requires c.front_len-len.ensures c.cut_front.ensures)
