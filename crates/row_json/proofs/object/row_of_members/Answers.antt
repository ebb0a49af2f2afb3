use Rattle.std.proofs.Common.{◌≡◌, ◌≤◌, Ok, rules, arith, length, sym, subst, ◌∙◌}
use Rattle.std.proofs.lemmas.Bool.{ltb-false}
use Rattle.std.specs.List.{AllByRecursion}
use Rattle.serde_json.specs.View.{members_view}
use Rattle.row_model.specs.Values.{IsCell, IsTime}
use Rattle.row_json.specs.Row.{cells_of, cell_count}
use Rattle.row_json.specs.QuickRow.{Ascend}
use Rattle.row_json.proofs.Order.{at_ok, cells_counted, entries_ascend}
use Rattle.row_json.proofs.object.row_of_members.Goals as goal
use mir.Val.{to_z, of_z}
use mir.Syntax.{w64}

pub returns-clause-is_row : goal.returns-clause-is_row
returns-clause-is_row c =
    let entries = c.args.members.entries in
    let cells = c.in_ok-cells.cells.items in
    let made : Ok cells ≡ cells_of (members_view entries) = c.in_ok-cells.ensures.exact (λ e. cc) in
    let same : c.of.result ≡ cells = c.of.ensures in
    let time : IsTime c.in-Some.time = (rw c.in-Some.is at c.requires, search rules) in
    let back : to_z w64 (of_z w64 c.in-Some.time) ≡ c.in-Some.time = search rules in
    let counted : length cells ≤ cell_count (members_view entries) = at_ok cells _ (λ cs. length cs ≤ cell_count (members_view entries)) made (cells_counted (members_view entries)) in
    let ascending : Ascend cells = at_ok cells _ Ascend made (entries_ascend entries c.in_ok-cells.ensures.ordered) in
    record {
      time = subst IsTime (sym back) time;
      few = rw same (omega (arith, counted, ltb-false 1024 (cell_count (members_view entries)) (sym c.has_too_many.ensures ∙ c.if-has_too_many.false)));
      cells = subst (AllByRecursion IsCell) (sym same) c.in_ok-cells.ensures.are_cells;
      ascending = subst Ascend (sym same) ascending;
    }
