use Rattle.std.proofs.Common.{◌≡◌, ℤ, List, int_le, true, to_z, of_z, sym, subst, rules}
use Rattle.std.specs.Int.{w64}
use Rattle.row_model.specs.declared.rows.Row.{Row}
use Rattle.leaf_model.specs.Content.{rows_from}
use Rattle.leaf_model.specs.Lent.{lent_rows}
use Rattle.table_state.specs.Stored.{AreNoted}
use Rattle.table_state.proofs.Ascending.{noted_joined}
use Rattle.table_state.proofs.tail.Tail.extend_from.Goals as goal

pub invariant_of-self-2 : goal.invariant_of-self-2
invariant_of-self-2 c =
    let t = c.self.inside in let least = c.least_with-self-inside.result in let last = c.ascend_on-self-inside.result in
    let at : to_z w64 (of_z w64 t.least) ≡ t.least = search rules in
    let fits : to_z w64 (of_z w64 least) ≡ least = search rules in
    let low = subst (λ (z : ℤ). int_le least z ≡ true) at c.least_with-self-inside.ensures.most in
    let more = rows_from (to_z w64 (of_z w64 c.args.horizon)) (lent_rows c.args.more.now) in
    subst (λ (z : ℤ). AreNoted z last c.extend_from.new.self) (sym fits)
    (subst (λ (rows : List Row). AreNoted least last rows) (sym c.in_ok-extend_from.ensures.put)
    (noted_joined least t.least t.last last t.rows more low c.self.invariant c.least_with-self-inside.ensures.least c.ascend_on-self-inside.ensures))
