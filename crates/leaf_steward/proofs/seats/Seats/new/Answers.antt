use Rattle.leaf_steward.proofs.Seating.{unused_seated}
use Rattle.leaf_steward.proofs.seats.Seats.new.Goals as goal

pub invariant_of-result : goal.invariant_of-result
invariant_of-result c = record {
  named = c.requires.named;
  names = c.requires.names;
  alike = c.requires.alike;
  count = c.requires.count;
  each = λ place t v table seat. unused_seated t v (c.requires.unused place t v table seat);
}
