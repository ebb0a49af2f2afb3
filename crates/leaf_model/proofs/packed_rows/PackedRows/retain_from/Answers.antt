use Rattle.std.proofs.Common.{to_z, of_z}
use Rattle.std.specs.Int.{w64}
use Rattle.std.proofs.lemmas.Int.{to_z-of_z}
use Rattle.leaf_model.specs.Content.{rows_from}
use Rattle.leaf_model.proofs.PackedLaws.{retained, are_packed, packed_is}
use Rattle.leaf_model.proofs.packed_rows.PackedRows.retain_from.Goals as goal

pub invariant_of-self : goal.invariant_of-self
invariant_of-self c =
    are_packed c.keep_from-count.result c.keep_from-count.new.self (rows_from c.args.horizon c.args.self.now)
    (retained c.self.inside.count c.keep_from-count.result (to_z w64 (of_z w64 c.args.horizon)) c.args.horizon c.as_slice.result.now c.self.inside.bytes c.keep_from-count.new.self c.args.self.now c.self.view_is c.as_slice.ensures c.know.ensures (to_z-of_z w64 c.args.horizon c.ranges.horizon) c.keep_from-count.ensures.kept c.keep_from-count.ensures.counted)

pub returns : goal.returns
returns c =
    packed_is c.keep_from-count.result c.keep_from-count.new.self (rows_from c.args.horizon c.args.self.now)
    (retained c.self.inside.count c.keep_from-count.result (to_z w64 (of_z w64 c.args.horizon)) c.args.horizon c.as_slice.result.now c.self.inside.bytes c.keep_from-count.new.self c.args.self.now c.self.view_is c.as_slice.ensures c.know.ensures (to_z-of_z w64 c.args.horizon c.ranges.horizon) c.keep_from-count.ensures.kept c.keep_from-count.ensures.counted)
