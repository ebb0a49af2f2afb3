use Rattle.std.proofs.Common.{◌≡◌}
use Rattle.leaf_table.specs.Lists.{lists_in}
use Rattle.player.specs.Crew.{column}
use Rattle.player.specs.Meeting.{MeetFirst}
use Rattle.player.specs.Rows.{MayMeet, OnlyColumn}
use Rattle.leaf_deeds.specs.Held.{KeepsSeats, berth_of, seats_of, leaf_state}
use Rattle.player.proofs.meet.meet.Given as goal

-- the seats before the place have met
abbrev pub invariant-loop-place : goal.invariant-loop-place
invariant-loop-place g l = record {
  met : MeetFirst l.place (leaf_state l.fn.leaf) (column l.number (lists_in l.fn.rows.items)) (leaf_state l.leaf) (column l.number (lists_in l.rows.items)) (g.B.Berth.meaning (berth_of l.fn.leaf));
  berth : berth_of l.leaf ≡ berth_of l.fn.leaf;
  keeps : KeepsSeats (seats_of l.fn.leaf) (seats_of l.leaf);
  may : MayMeet l.number (seats_of l.leaf) (lists_in l.rows.items);
  only : OnlyColumn l.number (lists_in l.fn.rows.items) (lists_in l.rows.items);
}
