use Rattle.std.proofs.Common.{◌<◌, length, sym, ◌∙◌, arith}
use Rattle.block_scan.proofs.Cells.{time_at}
use Rattle.block_scan.proofs.places.fill_times.Goals as goal

pub returns : goal.returns
returns c = λ i h.
    let present : i < length c.integers.new.present = omega (arith, h, c.integers.auto.present, c.requires.present) in
    time_at c.args.times.now.column.now.bytes c.integers.new.present c.integers.new.values i present (sym c.requires.read.cells ∙ c.integers.ensures) (c.requires.timed.each i h)
