-- Headings of columns, and their order.
use Rattle.std.specs.Prelude.{ℕ, List}
use Rattle.std.specs.declared.cmp.Ordering.{Ordering}
use Rattle.std.specs.Ordering.{nat_cmp, ordering_then}
use Rattle.row_model.specs.declared.rows.Value.{Value}
use Rattle.row_model.specs.declared.rows.Value.TheVariants as values
use Rattle.row_model.specs.declared.rows.Cell.{Cell}
use Rattle.row_model.specs.Texts.{text_cmp}
use Rattle.column_bytes.specs.declared.kind.Kind.{Kind}
use Rattle.column_bytes.specs.declared.kind.Kind.TheVariants.{Ints, Texts, Sets}
use Rattle.column_bytes.specs.Column.{kind_in}
use Rattle.row_blocks.specs.declared.column.BlockColumn.{BlockColumn}

-- a name and a kind: no two columns of a block have the same
pub record Heading : Type 0 where
  pub name : List ℕ
  pub kind : Kind

abbrev pub kind_of : Value → Kind
kind_of (values.Int n) = Ints
kind_of (values.Text text) = Texts
kind_of (values.Set members) = Sets

-- the heading of the column of a cell
abbrev pub heading_of : Cell → Heading
heading_of c = record { name = c.name; kind = kind_of c.value }

abbrev pub heading : BlockColumn → Heading
heading c = record { name = c.name; kind = kind_in c.bytes }

-- the rank of a kind: integers before texts, texts before sets
abbrev pub kind_place : Kind → ℕ
kind_place Ints = 0
kind_place Texts = 1
kind_place Sets = 2

-- by name, then by kind
abbrev pub heading_cmp : Heading → Heading → Ordering
heading_cmp a b = ordering_then (text_cmp a.name b.name) (nat_cmp (kind_place a.kind) (kind_place b.kind))
