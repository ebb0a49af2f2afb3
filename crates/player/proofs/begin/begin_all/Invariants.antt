use Rattle.std.proofs.Common.{◌≡◌, ◌+◌, ◌≤◌, drop, length}
use Rattle.std.specs.Prelude.{vec_capacity}
use Rattle.std.specs.List.{AllByRecursion}
use Rattle.leaf_table.specs.Lists.{lists_in}
use Rattle.player.specs.Beginning.{AreBegun}
use Rattle.player.proofs.begin.begin_all.Given as goal

-- the leaves before the number have begun, and what they took is gone from the lists
abbrev pub invariant-loop-number : goal.invariant-loop-number
invariant-loop-number g l = record {
  begun : AreBegun g.B.Berth.meaning l.names l.tables (lists_in l.fn.stewards.items) l.fn.berths.items l.number l.leaves.items;
  same : AllByRecursion (λ copy. copy ≡ l.names) l.copies.items;
  copies_left : length l.copies.items + l.number ≡ length l.fn.stewards.items;
  stewards : l.stewards.items ≡ drop l.number l.fn.stewards.items;
  stewards_left : length l.stewards.items + l.number ≡ length l.fn.stewards.items;
  berths : l.berths.items ≡ drop l.number l.fn.berths.items;
  berths_left : length l.fn.stewards.items ≤ length l.berths.items + l.number;
  room : vec_capacity l.berths ≡ vec_capacity l.fn.berths;
  space : length l.fn.stewards.items ≤ vec_capacity l.leaves;
}
