use Rattle.std.proofs.Common.{arith}
use Rattle.std.specs.Cmp.Lexicographic.{slice_cmp}
use Rattle.std.specs.Ordering.{nat_cmp}
use Rattle.std.proofs.lemmas.Cmp.{nat_list_cmp_total}
use Rattle.row_blocks.specs.declared.column.BlockColumn.{BlockColumn}
use Rattle.row_blocks.proofs.Adjacent.{sorted_by}
use Rattle.row_blocks.proofs.rules.have_own_names.Goals as goal

pub returns : goal.returns
returns c = λ yes. sorted_by (slice_cmp nat_cmp) (λ (d : BlockColumn). d.name) c.args.columns.now nat_list_cmp_total (λ k within. c.loop-i.invariant k (omega (arith, c.loop-i-test.false, within)))
