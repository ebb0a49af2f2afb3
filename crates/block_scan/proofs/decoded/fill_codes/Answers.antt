use Rattle.std.proofs.Common.{◌<◌, length, sym, ◌∙◌, arith}
use Rattle.column_bytes.specs.Cells.{entries}
use Rattle.block_scan.proofs.Decodes.{entry_at}
use Rattle.block_scan.proofs.decoded.fill_codes.Goals as goal

pub returns-clause-each : goal.returns-clause-each
returns-clause-each c = λ i h.
    let within : i < length c.codes.new.codes = omega (arith, h, c.codes.auto.codes, c.requires.codes) in
    entry_at c.args.read.now.column.now.bytes (entries c.args.read.now.view.book) c.codes.new.present c.codes.new.codes i within (sym c.requires.read.cells ∙ c.codes.ensures.cells)

pub returns-clause-below : goal.returns-clause-below
returns-clause-below c = λ i h e. c.codes.ensures.below i (omega (arith, h, c.requires.read.count)) e
