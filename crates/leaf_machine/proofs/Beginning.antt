-- A leaf that serves its tables is one that begins to shut them.
use Rattle.std.proofs.Common.{inr, refl, arith}
use Rattle.std.proofs.lemmas.Bool.{false≢true}
use Rattle.std.proofs.lemmas.Option.{none-some}
use Rattle.berth_face.specs.Berth.{Meaning}
use Rattle.leaf_machine.specs.States.{IsShutting, IsUp, Serving}
use Rattle.leaf_machine.specs.Prepares.{begins}

pub up_begun : (x : Serving) (m : Meaning) → IsUp x m → IsShutting (begins x) m
up_begun x m up = record {
  few = omega arith;
  opened = λ place t v at was past. up.opened place t v at was;
  closed_are = λ place t v at was before. absurd (omega (arith, before));
  contents = λ place t v at was c found. absurd (none-some c found);
  spares = λ place t v at was past. up.spares place t v at was;
  spares_closed = λ place t v at was before. absurd (omega (arith, before));
  spares_owed = λ empty. up.spares_owed;
  spares_shut = λ waits. absurd (false≢true waits);
  owed = up.owed;
  last = λ waits. absurd (false≢true waits);
  owner = λ waits some. absurd (false≢true waits);
  owes = λ some. inr refl;
  stands = up.stands;
}

pub begun_up : (x : Serving) (m : Meaning) → IsShutting (begins x) m → IsUp x m
begun_up x m is = record {
  opened = λ place t v at was. is.opened place t v at was (omega arith);
  spares = λ place t v at was. is.spares place t v at was (omega arith);
  spares_owed = is.spares_owed refl;
  owed = is.owed;
  stands = is.stands;
}
