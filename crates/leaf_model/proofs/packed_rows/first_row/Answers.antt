use Rattle.std.proofs.Common.{ℤ, sym, subst, ◌∙◌, arith}
use Rattle.std.specs.Prelude.{FitsSigned}
use Rattle.std.specs.Int.{w64}
use Rattle.std.proofs.lemmas.Int.{to_z-of_z}
use Rattle.leaf_model.specs.Lent.{lent_row}
use Rattle.leaf_model.proofs.PackedLaws.{row_shorter, first_is}
use Rattle.leaf_model.proofs.packed_rows.first_row.Goals as goal

pub overflow_sub-result : goal.overflow_sub-result
overflow_sub-result c = row_shorter c.args.bytes.now (lent_row c.row_in.result.0, c.row_in.result.1.now) (λ i. omega (arith, c.type_inv.bytes i)) c.row_in.ensures

pub returns : goal.returns
returns c row rest fit parts =
    let is = first_is c.args.bytes.now (lent_row c.row_in.result.0) c.row_in.result.1.now row rest c.row_in.ensures fit parts in
    (to_z-of_z w64 c.row_in.result.0.time (subst (λ (z : ℤ). FitsSigned w64 z) (sym is.0) fit.time.1) ∙ is.0, is.1)
