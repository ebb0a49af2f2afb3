use Rattle.std.proofs.Common.{◌+◌, slice_index_or, is_some, ap, ◌∙◌, arith}
use Rattle.std.specs.Int.{from_bool}
use Rattle.row_blocks.specs.Blocks.{value_in}
use Rattle.row_blocks.specs.Places.{no_column}
use Rattle.row_blocks.proofs.Standing.{one_at_most, one_more_cell}
use Rattle.row_blocks.proofs.places.count_at.Goals as goal

pub loop-k-preserved : goal.loop-k-preserved
loop-k-preserved c =
    let was = c.loop-k.invariant in
    record {
      counted = ap (λ n. c.loop-k.count + n) (c.from-count.ensures ∙ ap from_bool c.has_cell.ensures) ∙ ap (λ n. n + from_bool (is_some (value_in (slice_index_or c.args.columns.now c.loop-k.k no_column).bytes c.args.i))) was.counted
          ∙ one_more_cell c.args.i c.loop-k.k c.args.columns.now c.loop-k-test.true;
      few = omega (arith, was.few, c.from-count.ensures, one_at_most c.has_cell.result);
    }
