use Rattle.std.proofs.Common.{◌∙◌}
use Rattle.std.specs.Int.{w64}
use Rattle.std.proofs.lemmas.Int.{to_z-of_z}
use Rattle.block_scan.specs.Reads.{columns_of}
use Rattle.block_scan.specs.Seen.{seen}
use Rattle.block_scan.proofs.Scanned.{read_times}
use Rattle.block_scan.proofs.block.read_columns.Goals as goal

pub returns-clause-view : goal.returns-clause-view
returns-clause-view g c =
    let columns = read_times c.args.query.now c.args.rows c.args.times.now c.read_column-read_times.result.column.now c.args.others.now (columns_of c.in_ok-read.read.items)
    c.requires.timed.name c.read_column-read_times.ensures.column c.in_ok-read.ensures.columns in
    c.of.ensures ∙ (λ i. seen c.args.skip (to_z-of_z w64 c.args.horizon c.ranges.horizon i) (record { rows = c.args.rows; columns = columns i }))
