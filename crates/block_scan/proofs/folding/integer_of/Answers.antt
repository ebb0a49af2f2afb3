use Rattle.std.proofs.Common.{sym, ap, subst, ◌∙◌}
use Rattle.block_scan.specs.declared.decoded.Decoded.{Decoded}
use Rattle.block_scan.specs.Decoded.{IsSized}
use Rattle.block_scan.specs.Slots.{integer_of}
use Rattle.block_scan.proofs.Decodes.{no_integers}
use Rattle.block_scan.proofs.folding.integer_of.Goals as goal

pub returns-in-Codes : goal.returns-in-Codes
returns-in-Codes c =
    sym (ap (λ (d : Decoded). integer_of d c.args.place) c.in-Codes.is
    ∙ no_integers c.args.rows c.in-Codes.field-0 c.args.place (subst (IsSized c.args.rows) c.in-Codes.is c.requires.sized) c.requires.place)
