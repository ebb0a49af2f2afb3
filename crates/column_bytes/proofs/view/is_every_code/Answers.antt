use Rattle.std.proofs.Common.{rules, ◌*◌, ◌^◌, ◌≤◌, ap, arith, tests}
use Rattle.bit_columns.specs.Bits.{code}
use Rattle.column_bytes.specs.Cells.{book_of}
use Rattle.column_bytes.proofs.Greatest.{between, bits_small}
use Rattle.column_bytes.proofs.view.is_every_code.Goals as goal

pub returns-then-greatest_code-last : goal.returns-then-greatest_code-last
returns-then-greatest_code-last c =
    let header = c.args.header.now in
    let packed = c.args.packed.now in
    let greatest = c.greatest_code.result in
    let last = c.last_code-last.result in
    let within : greatest ≤ last = search (rules, tests) in
    let same = ap (λ w. 2 ^ w) c.requires.same in
    λ yes i below.
    let small = bits_small packed.bytes (i * packed.width) packed.width in
    between (book_of header.form header.count c.args.extra.now) (code packed.bytes packed.width i) last (c.is_code.ensures.0 c.if-not-is_code.false)
    c.last_code-last.ensures (omega (arith, c.greatest_code.ensures, same, small, within))
