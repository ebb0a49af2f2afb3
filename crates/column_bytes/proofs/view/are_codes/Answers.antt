use Rattle.std.proofs.Common.{arith}
use Rattle.column_bytes.proofs.Parts.{are_codes-from_each}
use Rattle.column_bytes.proofs.view.are_codes.Goals as goal

pub returns-then-is_every_code : goal.returns-then-is_every_code
returns-then-is_every_code c =
    let header = c.args.header.now in (
      λ yes. are_codes-from_each header.form header.count c.args.presence.now c.args.packed.now c.args.extra.now
          (λ j within there. c.is_every_code.ensures yes j (omega (arith, c.requires.codes))),
      λ are. c.if-is_every_code.true,
    )
