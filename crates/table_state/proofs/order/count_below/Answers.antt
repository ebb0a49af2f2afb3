use Rattle.std.proofs.Common.{◌≡◌, ℤ, List, ◌∷◌, ◌+◌, length, ap, int_le, true, false, to_z, of_z, sym, subst, rules, arith, ◌∙◌}
use Rattle.std.specs.Int.{w64}
use Rattle.std.proofs.lemmas.Int.{to_z-of_z}
use Rattle.row_model.specs.declared.rows.Row.{Row}
use Rattle.leaf_model.specs.Content.{rows_from}
use Rattle.leaf_model.specs.Lent.{lent_row, lent_rows}
use Rattle.table_state.proofs.Ascending.{first_stays, one_goes, one_behind}
use Rattle.table_state.proofs.order.count_below.Goals as goal

pub returns-then-horizon-row-clause-left : goal.returns-then-horizon-row-clause-left
returns-then-horizon-row-clause-left c = λ from to up.
    let h = c.args.horizon in let row = c.in-Some.row in let i = c.loop-row.invariant in
    let at : to_z w64 (of_z w64 row.time) ≡ row.time = search rules in
    let stays = subst (λ (z : ℤ). int_le h z ≡ true) at (subst (λ (z : ℤ). int_le z (to_z w64 (of_z w64 row.time)) ≡ true) (to_z-of_z w64 h c.ranges.horizon) c.if-horizon-row.true) in
    let same = subst (λ (z : ℤ). rows_from z (lent_rows c.loop-row.left) ≡ rows_from z (lent_rows c.args.rows.now)) (to_z-of_z w64 h c.ranges.horizon) i.same in
    first_stays h from to (lent_row row) (lent_rows c.args.rows.now) (lent_rows c.loop-row.left) (lent_rows c.in-Some.others) c.loop-row.below up i.behind c.in-Some.ensures same stays

pub loop-row-preserved : goal.loop-row-preserved
loop-row-preserved c =
    let h = to_z w64 (of_z w64 c.args.horizon) in let row = c.in-Some.row in let i = c.loop-row.invariant in
    let at : to_z w64 (of_z w64 row.time) ≡ row.time = search rules in
    let gone = subst (λ (z : ℤ). int_le h z ≡ false) at c.if-horizon-row.false in
    let parts : lent_row row ∷ lent_rows c.in-Some.others ≡ lent_rows c.loop-row.left = c.in-Some.ensures in record {
      few = omega (arith, i.few, ap (λ (l : List Row). length l) parts);
      behind = one_behind (lent_row row) (lent_rows c.args.rows.now) (lent_rows c.loop-row.left) (lent_rows c.in-Some.others) c.loop-row.below i.behind parts;
      same = one_goes h (lent_row row) (lent_rows c.in-Some.others) gone ∙ ap (λ (l : List Row). rows_from h l) parts ∙ i.same;
    }
