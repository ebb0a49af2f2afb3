use Rattle.std.proofs.Common.{◌<◌, length, sym, ◌∙◌, arith}
use Rattle.block_scan.proofs.Decodes.{integer_at}
use Rattle.block_scan.proofs.decoded.fill_integers.Goals as goal

pub returns : goal.returns
returns c = λ i h.
    let within : i < length c.integers.new.present = omega (arith, h, c.integers.auto.present, c.requires.present) in
    integer_at c.args.read.now.column.now.bytes c.integers.new.present c.integers.new.values i within (sym c.requires.read.cells ∙ c.integers.ensures)
