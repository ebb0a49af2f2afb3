use Rattle.std.proofs.Common.{◌+◌, ◌≤◌, ◌++◌, ◌∙◌, length, ap, sym, subst, rules, to_z, of_z, ℕ, List}
use Rattle.std.specs.Int.{w64}
use Rattle.std.proofs.lemmas.Int.{to_z-of_z}
use Rattle.leaf_model.specs.Content.{rows_from}
use Rattle.leaf_model.specs.Lent.{lent_rows}
use Rattle.leaf_model.specs.Packed.{packed_rows, ArePacked}
use Rattle.leaf_model.proofs.PackedLaws.{extended, no_more, are_packed, packed_is}
use Rattle.leaf_model.proofs.packed_rows.PackedRows.extend_from.Goals as goal

pub with_more-self-inside-requires : goal.with_more-self-inside-requires
with_more-self-inside-requires c =
    let few = no_more (c.self.inside.count + c.in_ok-added.added) c.put_from.new.self (c.args.self.now ++ rows_from c.args.horizon (lent_rows c.args.rows.now))
    (extended c.self.inside.count c.in_ok-added.added (to_z w64 (of_z w64 c.args.horizon)) c.args.horizon c.as_slice.result.now c.self.inside.bytes c.put_from.new.self c.args.self.now (lent_rows c.args.rows.now) c.self.view_is c.as_slice.ensures c.know.ensures (to_z-of_z w64 c.args.horizon c.ranges.horizon) c.requires c.in_ok-added.ensures.put c.in_ok-added.ensures.counted) in
    subst (λ (w : List ℕ). c.self.inside.count + c.in_ok-added.added ≤ length w) (search rules) few

pub invariant_of-self-2 : goal.invariant_of-self-2
invariant_of-self-2 c =
    subst (λ (n : ℕ). ArePacked n c.put_from.new.self) (sym c.with_more-self-inside.ensures)
    (are_packed (c.self.inside.count + c.in_ok-added.added) c.put_from.new.self (c.args.self.now ++ rows_from c.args.horizon (lent_rows c.args.rows.now))
    (extended c.self.inside.count c.in_ok-added.added (to_z w64 (of_z w64 c.args.horizon)) c.args.horizon c.as_slice.result.now c.self.inside.bytes c.put_from.new.self c.args.self.now (lent_rows c.args.rows.now) c.self.view_is c.as_slice.ensures c.know.ensures (to_z-of_z w64 c.args.horizon c.ranges.horizon) c.requires c.in_ok-added.ensures.put c.in_ok-added.ensures.counted))

pub returns-clause-put : goal.returns-clause-put
returns-clause-put c =
    ap (λ (n : ℕ). packed_rows n c.put_from.new.self) c.with_more-self-inside.ensures
    ∙ packed_is (c.self.inside.count + c.in_ok-added.added) c.put_from.new.self (c.args.self.now ++ rows_from c.args.horizon (lent_rows c.args.rows.now))
    (extended c.self.inside.count c.in_ok-added.added (to_z w64 (of_z w64 c.args.horizon)) c.args.horizon c.as_slice.result.now c.self.inside.bytes c.put_from.new.self c.args.self.now (lent_rows c.args.rows.now) c.self.view_is c.as_slice.ensures c.know.ensures (to_z-of_z w64 c.args.horizon c.ranges.horizon) c.requires c.in_ok-added.ensures.put c.in_ok-added.ensures.counted)
