use Rattle.std.proofs.Common.{◌<◌, length, slice_index_or, is_some, sym, ap, subst, ◌∙◌, arith}
use Rattle.std.proofs.lemmas.List.Elements.{All-from_recursion}
use Rattle.column_bytes.specs.Cells.{Coded}
use Rattle.row_blocks.specs.Blocks.{IsOther}
use Rattle.row_blocks.specs.Columns.{IsSeen}
use Rattle.row_blocks.specs.Places.{no_column}
use Rattle.row_blocks.proofs.Standing.{seen_at, seen_count, seen_length, seen_pair}
use Rattle.row_blocks.proofs.places.has_cell.Goals as goal

pub bounds-views-k : goal.bounds-views-k
bounds-views-k c = omega (arith, seen_length c.args.views.now c.args.columns.now c.requires.seen, c.requires.column)

pub has_cell-requires : goal.has_cell-requires
has_cell-requires c =
    let view = c.index-views-k.result in let column = slice_index_or c.args.columns.now c.args.k no_column in
    let seen : IsSeen view column.bytes
    = subst (λ (v : Coded). IsSeen v column.bytes) (sym c.index-views-k.is) (seen_pair c.args.views.now c.args.columns.now c.args.k view no_column c.requires.seen c.requires.column) in
    let is : IsOther c.args.rows column = All-from_recursion (IsOther c.args.rows) c.args.columns.now c.requires.each c.args.k no_column c.requires.column in
    omega (arith, seen_count c.args.rows view column seen is, c.requires.inside)

pub returns : goal.returns
returns c =
    let view = c.index-views-k.result in let column = slice_index_or c.args.columns.now c.args.k no_column in
    let seen : IsSeen view column.bytes
    = subst (λ (v : Coded). IsSeen v column.bytes) (sym c.index-views-k.is) (seen_pair c.args.views.now c.args.columns.now c.args.k view no_column c.requires.seen c.requires.column) in
    let is : IsOther c.args.rows column = All-from_recursion (IsOther c.args.rows) c.args.columns.now c.requires.each c.args.k no_column c.requires.column in
    let inside : c.args.i < length view.codes = omega (arith, seen_count c.args.rows view column seen is, c.requires.inside) in
    c.has_cell.ensures ∙ ap is_some (seen_at view column.bytes seen c.args.i inside)
