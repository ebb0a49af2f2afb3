use Rattle.std.proofs.Common.{subst}
use Rattle.block_scan.specs.declared.finding.NamedColumns.{NamedColumns}
use Rattle.row_blocks.specs.Blocks.{cells_at, value_in}
use Rattle.block_scan.specs.Decoded.{IsNamed}
use Rattle.block_scan.specs.Reads.{columns_of}
use Rattle.block_scan.proofs.Decodes.{cell_same}
use Rattle.block_scan.proofs.finding.with_one.Goals as goal

pub returns-in-Nowhere : goal.returns-in-Nowhere
returns-in-Nowhere c = λ rows name rest read e named.
    let column = c.args.column.now.column.now in
    let none = subst (λ (n : NamedColumns). IsNamed rows name rest n) c.in-Nowhere.is named in
    (read, λ i. cell_same name column.name (value_in column.bytes i) (cells_at i (columns_of rest)) e (none i))
