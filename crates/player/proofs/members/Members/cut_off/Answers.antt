use Rattle.std.proofs.Common.{◌≡◌, ◌≤◌, ℕ, List, length, refl, ap, arith}
use Rattle.leaf_table.specs.Lists.{lists_in}
use Rattle.script_text.specs.declared.fleet.FleetShape.{FleetShape}
use Rattle.player.specs.Crew.{is_set}
use Rattle.player.proofs.Columns.{lists_count}
use Rattle.player.proofs.CutInTwo.{cuts_off, may_split, off_members, rest_members}
use Rattle.player.proofs.members.Members.cut_off.Goals as goal

abbrev fleet_named : ℕ → ℕ → List (List ℕ) → FleetShape
fleet_named machines per_machine names = record { machines = machines; per_machine = per_machine; names = names }

pub split_rows-requires-clause-may : goal.split_rows-requires-clause-may
split_rows-requires-clause-may g c = λ table set. may_split c.args.self.now table c.requires.members (c.requires.spares table set)

pub returns-clause-cut : goal.returns-clause-cut
returns-clause-cut g c =
    let x = c.args.self.now in
    let fleet = ap (λ (ns : List (List ℕ)). fleet_named x.machines x.per_machine ns) c.in_ok-names.ensures in
    let all : length (lists_in x.rows.items) ≤ length c.args.tables.now = omega (arith, x.rows.ok.0, lists_count x.rows.items, c.requires.counts.0, c.requires.members.rows.count) in
    let slots : length c.args.leaves.now ≡ length x.leaves.items = omega (arith, c.requires.counts.1, c.requires.members.leaves) in
    cuts_off x
    (record { names = c.in_ok-names.names; machines = x.machines; per_machine = x.per_machine; tables = x.tables; leaves = c.split_slots.new.off; rows = c.split_rows.new.off })
    (record { names = x.names; machines = x.machines; per_machine = x.per_machine; tables = x.tables; leaves = c.split_slots.new.slots; rows = c.split_rows.new.rows })
    (is_set c.args.tables.now) (is_set c.args.leaves.now) (length c.args.tables.now) (length c.args.leaves.now) c.requires.members fleet refl refl refl
    c.split_rows.ensures.splits all c.split_slots.ensures.splits slots

pub returns-clause-off : goal.returns-clause-off
returns-clause-off g c =
    let x = c.args.self.now in
    let fleet = ap (λ (ns : List (List ℕ)). fleet_named x.machines x.per_machine ns) c.in_ok-names.ensures in
    let all : length (lists_in x.rows.items) ≤ length c.args.tables.now = omega (arith, x.rows.ok.0, lists_count x.rows.items, c.requires.counts.0, c.requires.members.rows.count) in
    let slots : length c.args.leaves.now ≡ length x.leaves.items = omega (arith, c.requires.counts.1, c.requires.members.leaves) in (
      off_members x
          (record { names = c.in_ok-names.names; machines = x.machines; per_machine = x.per_machine; tables = x.tables; leaves = c.split_slots.new.off; rows = c.split_rows.new.off })
          (record { names = x.names; machines = x.machines; per_machine = x.per_machine; tables = x.tables; leaves = c.split_slots.new.slots; rows = c.split_rows.new.rows }) (is_set c.args.tables.now) (is_set c.args.leaves.now) (length c.args.tables.now) (length c.args.leaves.now) c.requires.members fleet refl refl refl
          c.split_rows.ensures.splits all c.split_slots.ensures.splits slots,
      record { fleet = fleet; tables = refl },
    )

pub returns-clause-members : goal.returns-clause-members
returns-clause-members g c =
    let x = c.args.self.now in
    let fleet = ap (λ (ns : List (List ℕ)). fleet_named x.machines x.per_machine ns) c.in_ok-names.ensures in
    let all : length (lists_in x.rows.items) ≤ length c.args.tables.now = omega (arith, x.rows.ok.0, lists_count x.rows.items, c.requires.counts.0, c.requires.members.rows.count) in
    let slots : length c.args.leaves.now ≡ length x.leaves.items = omega (arith, c.requires.counts.1, c.requires.members.leaves) in
    rest_members x
    (record { names = c.in_ok-names.names; machines = x.machines; per_machine = x.per_machine; tables = x.tables; leaves = c.split_slots.new.off; rows = c.split_rows.new.off })
    (record { names = x.names; machines = x.machines; per_machine = x.per_machine; tables = x.tables; leaves = c.split_slots.new.slots; rows = c.split_rows.new.rows })
    (is_set c.args.tables.now) (is_set c.args.leaves.now) (length c.args.tables.now) (length c.args.leaves.now) c.requires.members fleet refl refl refl
    c.split_rows.ensures.splits all c.split_slots.ensures.splits slots
