use Rattle.std.proofs.Common.{rules, ◌≡◌, ◌++◌, List, Some, ap, ◌∙◌}
use Rattle.region_layout.specs.declared.drained.DrainTable.{DrainTable}
use Rattle.leaf_machine.specs.Shut.{ShutState, drained_columns, last_columns}
use Rattle.leaf_machine.proofs.ShutLists.{kept_less, none_more, same_less, waits_less}
use Rattle.leaf_machine.proofs.shut_tables.ShutTables.seal.Goals as goal

pub returns-in_err-name-clause-columns : goal.returns-in_err-name-clause-columns
returns-in_err-name-clause-columns c = none_more c.args.self.now.columns

pub returns-in_err-reserve-clause-columns : goal.returns-in_err-reserve-clause-columns
returns-in_err-reserve-clause-columns c =
    let last = c.self.inside.last in
    let reserved : List DrainTable = c.reserve.new.self.items in
    same_less (drained_columns reserved ++ last_columns last) c.args.self.now.columns
    (ap (λ (l : List DrainTable). drained_columns l ++ last_columns last) c.reserve.ensures.items ∙ ap (λ (t : ShutState). t.columns) c.self.view_is)

pub returns-then-is_err-clause-columns : goal.returns-then-is_err-clause-columns
returns-then-is_err-clause-columns c =
    let table = c.in-Some.table in
    let there : c.self.inside.last ≡ Some table = search rules in
    waits_less c.self.inside.sealed.items c.reserve.new.self.items c.self.inside.last table c.seal_tail.new.self c.args.self.now.columns c.reserve.ensures.items there (ap (λ (t : ShutState). t.columns) c.self.view_is)
    c.seal_tail.ensures.columns

pub returns-clause-columns : goal.returns-clause-columns
returns-clause-columns c =
    let table = c.in-Some.table in
    let there : c.self.inside.last ≡ Some table = search rules in
    let keep = c.keep.ensures in
    kept_less c.self.inside.sealed.items c.reserve.new.self.items c.self.inside.last table c.seal_tail.new.self c.args.self.now.columns c.reserve.ensures.items there (ap (λ (t : ShutState). t.columns) c.self.view_is)
    c.seal_tail.ensures.columns c.keep.new.sealed.items keep.0 c.take.new.self keep.1 keep.4 c.take.ensures.after
