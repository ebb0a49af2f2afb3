use Rattle.std.proofs.Common.{◌-◌, arith, refl, subst, length, ap, length-append}
use Rattle.row_records.specs.declared.fault.ReadError.{ReadError}
use Rattle.leaf_model.specs.Bytes.{rows_bytes}
use Rattle.leaf_model.specs.Reading.{rows_at}
use Rattle.row_records.specs.Reading.{ReadFails}
use Rattle.row_records.proofs.Front.{front_parts, in_front, same_front, no_front}
use Rattle.row_records.proofs.row_reader.read_rows.Goals as goal

pub overflow_sub-result : goal.overflow_sub-result
overflow_sub-result c =
    let rows = c.in-Ok.rows in
    let rest = c.in-Ok.rest.now in
    omega (arith, length-append (rows_bytes rows) rest, ap length (front_parts c.args.count c.args.bytes.now rows rest (λ i. omega (arith, c.type_inv.bytes i)) c.in-Ok.ensures.given))

pub returns-in-Ok-clause-found : goal.returns-in-Ok-clause-found
returns-in-Ok-clause-found c =
    in_front c.args.count c.args.bytes.now c.in-Ok.rows c.in-Ok.rest.now (length c.args.bytes.now - length c.in-Ok.rest.now) (λ i. omega (arith, c.type_inv.bytes i)) c.in-Ok.ensures.given refl

pub returns-in-Ok-clause-only : goal.returns-in-Ok-clause-only
returns-in-Ok-clause-only c = λ rows rest fits n e. same_front c.args.count c.args.bytes.now rows c.in-Ok.rows rest c.in-Ok.rest.now c.in-Ok.ensures.given fits n e

pub returns-in-Err-Broken-clause-only : goal.returns-in-Err-Broken-clause-only
returns-in-Err-Broken-clause-only c = λ rows rest fits n e.
    no_front c.args.count c.args.bytes.now rows rest (subst (λ (w : ReadError). ReadFails w (rows_at c.args.count c.args.bytes.now)) c.in-Err-Broken.field-0-is c.in-Err-Broken.ensures.given) fits n e
