use Rattle.std.proofs.Common.{◌≡◌, ◌≤◌, ℕ, List, [], ◌∷◌, ◌++◌, length, ℤ, sym, ap, subst, ◌∙◌, arith}
use Rattle.leaf_model.specs.Lent.{lent_rows}
use Rattle.row_blocks.specs.declared.column.BlockColumn.{BlockColumn}
use Rattle.row_blocks.specs.Blocks.{Block, IsBlock, rows_in, times_of}
use Rattle.time_range.specs.Ranges.{IsRangeOf}
use Rattle.row_blocks.specs.Held.{rows_and_cells}
use Rattle.row_blocks.proofs.Fewer.{few_columns}
use Rattle.row_blocks.proofs.Sealed.{counted_times, holds_times, means_rows, sealed, sealed_range}
use Rattle.row_blocks.proofs.sealing.seal_with.Goals as goal

pub times_column-requires-clause-some : goal.times_column-requires-clause-some
times_column-requires-clause-some c = omega (arith, c.requires.some, counted_times (lent_rows c.args.rows.now) c.args.times.now c.requires.times)

pub times_column-requires-clause-few : goal.times_column-requires-clause-few
times_column-requires-clause-few c = omega (arith, c.requires.few, counted_times (lent_rows c.args.rows.now) c.args.times.now c.requires.times)

pub of-requires-2-clause-block : goal.of-requires-2-clause-block
of-requires-2-clause-block c =
    let rows = lent_rows c.args.rows.now in
    let count : length rows ≡ c.len.result = sym c.len.ensures in
    let column = c.in_ok-first.first in let others = c.args.others.items in let said = c.in_ok-first.ensures in
    let columns : c.of.result ≡ column ∷ others
    = c.of.ensures ∙ c.in_ok-append.ensures.items ∙ ap (λ (l : List BlockColumn). l ++ others) (c.in_ok-push.ensures.items ∙ ap (λ (l : List BlockColumn). l ++ column ∷ []) c.new-columns.ensures.items) in
    subst (λ (n : ℕ). IsBlock (record { rows = n; columns = c.of.result })) count
    (subst (λ (l : List BlockColumn). IsBlock (record { rows = length rows; columns = l })) (sym columns)
    (sealed rows column others c.requires.some c.requires.few c.requires.rows
    (holds_times rows c.args.times.now column c.requires.times said.name said.kind said.means said.cells) c.requires.others))

pub of-requires-2-clause-range : goal.of-requires-2-clause-range
of-requires-2-clause-range c =
    let rows = lent_rows c.args.rows.now in
    let count : length rows ≡ c.len.result = sym c.len.ensures in
    let column = c.in_ok-first.first in let others = c.args.others.items in let said = c.in_ok-first.ensures in
    let range = c.range_of-range.result in
    let columns : c.of.result ≡ column ∷ others
    = c.of.ensures ∙ c.in_ok-append.ensures.items ∙ ap (λ (l : List BlockColumn). l ++ others) (c.in_ok-push.ensures.items ∙ ap (λ (l : List BlockColumn). l ++ column ∷ []) c.new-columns.ensures.items) in
    subst (λ (n : ℕ). IsRangeOf (times_of (rows_in (record { rows = n; columns = c.of.result }))) range) count
    (subst (λ (l : List BlockColumn). IsRangeOf (times_of (rows_in (record { rows = length rows; columns = l }))) range) (sym columns)
    (sealed_range rows column others range
    (holds_times rows c.args.times.now column c.requires.times said.name said.kind said.means said.cells) c.requires.others
    (subst (λ (times : List ℤ). IsRangeOf times range) c.requires.times c.range_of-range.ensures)))

pub returns-clause-rows : goal.returns-clause-rows
returns-clause-rows c =
    let rows = lent_rows c.args.rows.now in
    let count : length rows ≡ c.len.result = sym c.len.ensures in
    let column = c.in_ok-first.first in let others = c.args.others.items in let said = c.in_ok-first.ensures in
    let columns : c.of.result ≡ column ∷ others
    = c.of.ensures ∙ c.in_ok-append.ensures.items ∙ ap (λ (l : List BlockColumn). l ++ others) (c.in_ok-push.ensures.items ∙ ap (λ (l : List BlockColumn). l ++ column ∷ []) c.new-columns.ensures.items) in
    ap rows_in c.of-2.ensures
    ∙ ap (λ (n : ℕ). rows_in (record { rows = n; columns = c.of.result })) (sym count)
    ∙ ap (λ (l : List BlockColumn). rows_in (record { rows = length rows; columns = l })) columns
    ∙ means_rows rows column others
    (holds_times rows c.args.times.now column c.requires.times said.name said.kind said.means said.cells) c.requires.others

pub returns-clause-few : goal.returns-clause-few
returns-clause-few c =
    let rows = lent_rows c.args.rows.now in
    let column = c.in_ok-first.first in let others = c.args.others.items in
    let columns : c.of.result ≡ column ∷ others
    = c.of.ensures ∙ c.in_ok-append.ensures.items ∙ ap (λ (l : List BlockColumn). l ++ others) (c.in_ok-push.ensures.items ∙ ap (λ (l : List BlockColumn). l ++ column ∷ []) c.new-columns.ensures.items) in
    subst (λ (b : Block). length b.columns ≤ rows_and_cells rows) (sym c.of-2.ensures)
    (subst (λ (l : List BlockColumn). length l ≤ rows_and_cells rows) (sym columns)
    (few_columns rows column others c.requires.some c.requires.others))
