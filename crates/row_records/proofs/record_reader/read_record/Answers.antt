use Rattle.std.proofs.Common.{◌∙◌, sym, ap, subst, arith}
use Rattle.row_records.specs.Records.{record_read}
use Rattle.row_records.specs.Reading.{record_of, ReadFails}
use Rattle.row_records.specs.declared.fault.ReadError.{ReadError}
use Rattle.row_records.proofs.Records.{record_found, record_again}
use Rattle.row_records.proofs.record_reader.read_record.Goals as goal

pub returns-in-Ok-clause-found : goal.returns-in-Ok-clause-found
returns-in-Ok-clause-found c = record_found c.args.bytes.now (record_read c.in-Ok.flush) (λ i. omega (arith, c.type_inv.bytes i)) c.in-Ok.ensures

pub returns-in-Ok-clause-only : goal.returns-in-Ok-clause-only
returns-in-Ok-clause-only c = λ r is e. sym c.in-Ok.ensures ∙ ap record_of e ∙ record_again r is

pub returns-in-Err-Broken-clause-only : goal.returns-in-Err-Broken-clause-only
returns-in-Err-Broken-clause-only c = λ r is e. sym (subst (λ (w : ReadError). ReadFails w (record_of c.args.bytes.now)) c.in-Err-Broken.field-0-is c.in-Err-Broken.ensures) ∙ ap record_of e ∙ record_again r is
