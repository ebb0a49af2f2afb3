use Rattle.std.proofs.Common.{length, ap, arith}
use Rattle.leaf_table.specs.Lists.{lists_in}
use Rattle.script_text.specs.declared.fleet.FleetShape.{FleetShape}
use Rattle.player.specs.Members.{holds_in}
use Rattle.player.proofs.Columns.{lists_count}
use Rattle.player.proofs.MemberSteps.{with_parts}
use Rattle.player.proofs.Returned.{joined_all, seats_on}
use Rattle.player.proofs.TakenBack.{free_between, may_join, members_between, own_between, seats_between, takes_back}
use Rattle.player.proofs.members.Members.take_back.Goals as goal

pub join_rows-requires-clause-may : goal.join_rows-requires-clause-may
join_rows-requires-clause-may g c = λ table below.
    let x = c.args.self.now in
    may_join x c.args.other c.requires.members.0 c.requires.members.1 c.requires.same table
    (c.requires.seats table (omega (arith, below, lists_count x.rows.items, c.requires.members.0.rows.count)))

pub take_leaves-requires-clause-members : goal.take_leaves-requires-clause-members
take_leaves-requires-clause-members g c = λ κs bounds.
    let x = c.args.self.now in
    let y = c.args.other in
    let are = c.requires.members in
    let names = ap (λ (f : FleetShape). length f.names) c.requires.same.fleet in
    let joins = c.join_rows.ensures.joins in
    let rows = c.join_rows.new.rows in
    members_between x y are.0 are.1 c.requires.same rows joins.counts.0
    (joined_all (length x.rows.items) (lists_in x.rows.items) (lists_in y.rows.items) (lists_in rows.items) (lists_in c.join_rows.new.others.items) joins
    (omega (arith, lists_count x.rows.items)) (omega (arith, lists_count x.rows.items, are.0.rows.count, are.1.rows.count, names)))

pub take_leaves-requires-clause-free : goal.take_leaves-requires-clause-free
take_leaves-requires-clause-free g c = λ κs bounds.
    let x = c.args.self.now in
    let y = c.args.other in
    let are = c.requires.members in
    let names = ap (λ (f : FleetShape). length f.names) c.requires.same.fleet in
    let joins = c.join_rows.ensures.joins in
    let rows = c.join_rows.new.rows in
    free_between x y are.0 are.1 c.requires.same rows joins.counts.0
    (joined_all (length x.rows.items) (lists_in x.rows.items) (lists_in y.rows.items) (lists_in rows.items) (lists_in c.join_rows.new.others.items) joins
    (omega (arith, lists_count x.rows.items)) (omega (arith, lists_count x.rows.items, are.0.rows.count, are.1.rows.count, names)))
    c.requires.leaves

pub take_leaves-requires-clause-own : goal.take_leaves-requires-clause-own
take_leaves-requires-clause-own g c = λ κs bounds.
    let x = c.args.self.now in
    let y = c.args.other in
    let are = c.requires.members in
    let names = ap (λ (f : FleetShape). length f.names) c.requires.same.fleet in
    let joins = c.join_rows.ensures.joins in
    let rows = c.join_rows.new.rows in
    own_between x y are.0 are.1 c.requires.same rows joins.counts.0
    (joined_all (length x.rows.items) (lists_in x.rows.items) (lists_in y.rows.items) (lists_in rows.items) (lists_in c.join_rows.new.others.items) joins
    (omega (arith, lists_count x.rows.items)) (omega (arith, lists_count x.rows.items, are.0.rows.count, are.1.rows.count, names)))

pub returns-clause-back : goal.returns-clause-back
returns-clause-back g c =
    let x = c.args.self.now in
    let y = c.args.other in
    let are = c.requires.members in
    let names = ap (λ (f : FleetShape). length f.names) c.requires.same.fleet in
    let joins = c.join_rows.ensures.joins in
    let rows = c.join_rows.new.rows in
    takes_back x y are.0 are.1 c.requires.same rows joins.counts.0
    (joined_all (length x.rows.items) (lists_in x.rows.items) (lists_in y.rows.items) (lists_in rows.items) (lists_in c.join_rows.new.others.items) joins
    (omega (arith, lists_count x.rows.items)) (omega (arith, lists_count x.rows.items, are.0.rows.count, are.1.rows.count, names)))
    g.B.Berth.meaning (holds_in c.take_leaves.new.self) c.take_leaves.ensures.back

pub returns-clause-seats : goal.returns-clause-seats
returns-clause-seats g c =
    let x = c.args.self.now in
    let y = c.args.other in
    let are = c.requires.members in
    let names = ap (λ (f : FleetShape). length f.names) c.requires.same.fleet in
    let joins = c.join_rows.ensures.joins in
    let rows = c.join_rows.new.rows in
    seats_on (holds_in x) (holds_in (with_parts x x.leaves rows)) (holds_in c.take_leaves.new.self)
    (seats_between x y are.0 are.1 c.requires.same rows joins.counts.0
    (joined_all (length x.rows.items) (lists_in x.rows.items) (lists_in y.rows.items) (lists_in rows.items) (lists_in c.join_rows.new.others.items) joins
    (omega (arith, lists_count x.rows.items)) (omega (arith, lists_count x.rows.items, are.0.rows.count, are.1.rows.count, names))))
    c.take_leaves.ensures.seats
