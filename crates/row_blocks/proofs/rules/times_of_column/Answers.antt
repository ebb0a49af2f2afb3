use Rattle.std.proofs.Common.{List, ℕ, ap, subst}
use Rattle.column_bytes.specs.Column.{kind_in}
use Rattle.row_blocks.specs.Columns.{IsSeen, MeanCells}
use Rattle.row_blocks.proofs.rules.times_of_column.Goals as goal

pub times_of_integers-requires-clause-kind : goal.times_of_integers-requires-clause-kind
times_of_integers-requires-clause-kind c =
    let a = c.in-Ints.ensures in let b = c.in-Some.ensures.1.kind in let d = ap kind_in c.as_slice.ensures in cc

pub times_of_integers-requires-clause-mean : goal.times_of_integers-requires-clause-mean
times_of_integers-requires-clause-mean c = subst (λ (bytes : List ℕ). MeanCells bytes c.args.rows) c.as_slice.ensures c.in-Some.ensures.0

pub times_of_integers-requires-clause-seen : goal.times_of_integers-requires-clause-seen
times_of_integers-requires-clause-seen c = subst (λ (bytes : List ℕ). IsSeen c.in-Some.view bytes) c.as_slice.ensures c.in-Some.ensures.1
