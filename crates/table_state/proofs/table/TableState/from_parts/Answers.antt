use Rattle.std.proofs.Common.{◌≡◌, ◌≤◌, ℤ, List, length, to_z, of_z, sym, ap₂, subst, ◌∙◌, rules}
use Rattle.std.specs.Int.{w64}
use Rattle.row_blocks.specs.Blocks.{Block}
use Rattle.table_state.specs.Stored.{StoreStands, sealed_rows}
use Rattle.table_state.specs.Tables.{IsPartsOf, most_rows}
use Rattle.table_state.proofs.Ahead.{none_ahead}
use Rattle.table_state.proofs.Stood.{parts_few, parts_stand, parts_told, standing}
use Rattle.table_state.proofs.table.TableState.from_parts.Goals as goal

pub count_live-live-requires-clause-few : goal.count_live-live-requires-clause-few
count_live-live-requires-clause-few c =
    let p = c.args.parts in
    let same : to_z w64 (of_z w64 p.horizon) ≡ p.horizon = search rules in
    let slice : c.as_slice.result.now ≡ p.blocks = search rules in
    subst (λ (l : List Block). length (sealed_rows l p.skip (to_z w64 (of_z w64 p.horizon))) ≤ most_rows) (sym slice)
    (subst (λ (t : ℤ). length (sealed_rows p.blocks p.skip t) ≤ most_rows) (sym same) (parts_few p c.requires))

pub invariant_of-result : goal.invariant_of-result
invariant_of-result c =
    let p = c.args.parts in
    let same : to_z w64 (of_z w64 p.horizon) ≡ p.horizon = search rules in
    let slice : c.as_slice.result.now ≡ p.blocks = search rules in
    let blocks : c.of.result ≡ p.blocks = search rules in (
      subst (λ (t : ℤ). StoreStands c.of.result p.skip c.new.result t c.count_live-live.result) (sym same)
          (parts_stand p c.of.result c.new.result c.count_live-live.result c.requires blocks c.new.ensures
          (c.count_live-live.ensures ∙ ap₂ (λ (l : List Block) (t : ℤ). length (sealed_rows l p.skip t)) slice same)),
      none_ahead c.of.result p.skip (to_z w64 (of_z w64 p.horizon)),
    )

pub returns-clause-of : goal.returns-clause-of
returns-clause-of c =
    let p = c.args.parts in
    let same : to_z w64 (of_z w64 p.horizon) ≡ p.horizon = search rules in
    let blocks : c.of.result ≡ p.blocks = search rules in
    subst (λ (t : ℤ). IsPartsOf p (standing c.of.result p.skip c.new.result t p.writes c.new-2.result)) (sym same)
    (parts_told p c.of.result c.new.result c.new-2.result blocks c.new.ensures)
