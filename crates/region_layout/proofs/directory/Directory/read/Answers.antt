use Rattle.std.proofs.Common.{arith, subst}
use Rattle.row_records.specs.declared.fault.ReadError.{ReadError}
use Rattle.row_records.specs.Reading.{ReadFails}
use Rattle.region_layout.specs.Directory.{directory_at}
use Rattle.region_layout.proofs.Found.{kept_found, kept_fits, kept_only, none_read}
use Rattle.region_layout.proofs.directory.Directory.read.Goals as goal

pub returns-in-Ok-clause-found : goal.returns-in-Ok-clause-found
returns-in-Ok-clause-found c = kept_found c.args.bytes.now c.args.place c.in-Ok.directory (omega (arith, c.ranges.place)) (λ i. omega (arith, c.type_inv.bytes i)) c.in-Ok.ensures c.kept.result c.kept.ensures

pub returns-in-Ok-clause-fits : goal.returns-in-Ok-clause-fits
returns-in-Ok-clause-fits c = kept_fits c.args.bytes.now c.args.place c.in-Ok.directory (omega (arith, c.ranges.place)) (λ i. omega (arith, c.type_inv.bytes i)) c.in-Ok.ensures c.kept.result c.kept.ensures

pub returns-in-Ok-clause-only : goal.returns-in-Ok-clause-only
returns-in-Ok-clause-only c = kept_only c.args.bytes.now c.args.place c.in-Ok.directory (omega (arith, c.ranges.place)) (λ i. omega (arith, c.type_inv.bytes i)) c.in-Ok.ensures c.kept.result c.kept.ensures

pub returns-in-Err-Broken-clause-only : goal.returns-in-Err-Broken-clause-only
returns-in-Err-Broken-clause-only c = λ d spelled is.
    absurd (none_read c.args.bytes.now c.args.place d (subst (λ (w : ReadError). ReadFails w (directory_at c.args.bytes.now)) c.in-Err-Broken.field-0-is c.in-Err-Broken.ensures) spelled is)
