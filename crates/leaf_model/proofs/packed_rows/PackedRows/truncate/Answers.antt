use Rattle.std.proofs.Common.{take}
use Rattle.leaf_model.proofs.PackedLaws.{truncated, ends_within, are_packed, packed_is}
use Rattle.leaf_model.proofs.packed_rows.PackedRows.truncate.Goals as goal

pub truncate-requires : goal.truncate-requires
truncate-requires c =
    ends_within c.self.inside.count c.args.count c.front_len-len.result c.as_slice.result.now c.as_slice-2.result.now c.self.inside.bytes c.args.self.now c.self.view_is c.as_slice.ensures c.as_slice-2.ensures c.know.ensures c.front_len-len.ensures

pub invariant_of-self : goal.invariant_of-self
invariant_of-self c =
    are_packed c.args.count c.truncate.new.self (take c.args.count c.args.self.now)
    (truncated c.self.inside.count c.args.count c.front_len-len.result c.as_slice.result.now c.as_slice-2.result.now c.self.inside.bytes c.truncate.new.self c.args.self.now c.self.view_is c.as_slice.ensures c.as_slice-2.ensures c.know.ensures c.requires c.front_len-len.ensures c.truncate.ensures)

pub returns : goal.returns
returns c =
    packed_is c.args.count c.truncate.new.self (take c.args.count c.args.self.now)
    (truncated c.self.inside.count c.args.count c.front_len-len.result c.as_slice.result.now c.as_slice-2.result.now c.self.inside.bytes c.truncate.new.self c.args.self.now c.self.view_is c.as_slice.ensures c.as_slice-2.ensures c.know.ensures c.requires c.front_len-len.ensures c.truncate.ensures)
