use Rattle.std.proofs.Common.{length, slice_index, ap, ◌∙◌}
use Rattle.column_bytes.specs.Cells.{Coded, cells_of, kind_of_book}
use Rattle.column_bytes.proofs.Parts.{length-codes}
use Rattle.column_bytes.specs.Column.{codes_part, extra_part, width_in, count_in}
use Rattle.column_bytes.proofs.Named.{kind_named}
use Rattle.column_bytes.proofs.view.ColumnView.read.Goals as goal

pub returns-in-Some-clause-accepted : goal.returns-in-Some-clause-accepted
returns-in-Some-clause-accepted g c =
    let found = c.in-Some.ensures.column in
    let bytes = c.args.bytes.now in
    record {
      form = found.0;
      is = found.1;
      count = ap (λ (v : Coded). length v.codes) found.2 ∙ length-codes (codes_part bytes) (width_in bytes) (count_in bytes);
      cells_are = ap cells_of found.2;
    }

pub returns-in-Some-clause-kind : goal.returns-in-Some-clause-kind
returns-in-Some-clause-kind g c =
    let found = c.in-Some.ensures.column in
    let bytes = c.args.bytes.now in
    ap (λ (v : Coded). kind_of_book v.book) found.2
    ∙ kind_named (slice_index bytes 0) (slice_index bytes 1) found.0 (count_in bytes) (extra_part bytes) found.1.header.form_is
