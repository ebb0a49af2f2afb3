-- What an order did is what each command did that tells it.
use Rattle.std.proofs.Common.{◌≡◌, ◌⊎◌, inl, inr, List, Result, Vec, Global, sym, subst}
use Rattle.std.specs.Prelude.{IsErr}
use Rattle.berth_face.specs.Berth.{Meaning}
use Rattle.rollover_watch.specs.Watches.{Held}
use Rattle.script_text.specs.declared.command.Command.{Command}
use Rattle.script_text.specs.declared.command.Command.TheVariants as command
use Rattle.script_text.specs.declared.fleet.FleetShape.{FleetShape}
use Rattle.script_text.specs.declared.order.Order.{Order}
use Rattle.script_text.specs.declared.order.Part.{Part}
use Rattle.script_text.specs.declared.order.Part.TheVariants as part
use Rattle.script_text.specs.Aims.{aim_of_part}
use Rattle.script_text.specs.Commands.{leaf_count}
use Rattle.script_text.specs.Orders.{IsOfLeaves, IsOrder, IsPart, part_of}
use Rattle.script_text.proofs.Ordered.{part_fits}
use Rattle.printed_lines.specs.declared.line.Line.{Line}
use Rattle.transcript.specs.Answers.{AnswersPart}
use Rattle.transcript.specs.Shapes.{PrintsPart}
use Rattle.transcript.specs.Watching.{HearsPart}
use Rattle.leaf_moves.specs.Holds.{Hold, base_states_in}
use Rattle.leaf_moves.specs.Plays.{MayPlay}
use Rattle.player.specs.Crew.{HasAimed, HasFor, HasOrder, PlaysOrder, PlaysWith}

pub part_may : (fleet : FleetShape) (c : Command) → MayPlay fleet c → IsPart (leaf_count fleet) fleet.names (part_of c)
part_may fleet (command.Fleet machines per_machine tables) may = tt
part_may fleet c may = part_fits (leaf_count fleet) fleet.names c may

-- a command that a fleet may play is the leaves'
pub is_leaves : (fleet : FleetShape) (c : Command) → MayPlay fleet c → IsOfLeaves (part_of c)
is_leaves fleet (command.Standing leaf q) may = absurd may
is_leaves fleet (command.Tell number) may = absurd may
is_leaves fleet _ may = tt

-- a fleet may play the order of a command that it may play
pub order_may : (fleet : FleetShape) (c : Command) (o : Order) → part_of c ≡ part.Leaves o → MayPlay fleet c → IsOrder (leaf_count fleet) fleet.names o
order_may fleet c o is may = subst (IsPart (leaf_count fleet) fleet.names) is (part_may fleet c may)

-- what the command needs, the order needs
pub order_has : {B : Type 0} (fleet : FleetShape) (xs : List (Hold B)) (c : Command) (o : Order) → part_of c ≡ part.Leaves o → HasFor fleet xs c → HasOrder fleet xs o
order_has fleet xs c o is has = subst (λ (p : Part). HasAimed fleet xs (aim_of_part p)) is has

pub plays_as : {B E : Type 0} (meaning : B → Meaning) (fleet : FleetShape) (c : Command) (o : Order) (xs ys : List (Hold B)) (us vs : List Held) (result : Result (Vec Line Global) E) → part_of c ≡ part.Leaves o
    → PlaysOrder meaning fleet o xs us result ys vs ⊎ (IsErr result × (ys ≡ xs) × (vs ≡ us)) → PlaysWith meaning fleet c xs us result ys vs ⊎ (IsErr result × (ys ≡ xs) × (vs ≡ us))
plays_as meaning fleet c o xs ys us vs result is (inl p) = inl (record {
  pieces = p.pieces;
  plays = record {
    goes = p.goes;
    prints = subst (λ (q : Part). PrintsPart fleet q p.pieces) (sym is) p.prints;
    answers = λ histories on. subst (λ (q : Part). AnswersPart fleet (base_states_in ys) histories q p.pieces) (sym is) (p.answers histories on);
  };
  counted = p.counted;
  fit = p.fit;
  heard = subst (λ (q : Part). HearsPart fleet q p.pieces us vs) (sym is) p.heard;
  lines_are = p.lines_are;
})
plays_as meaning fleet c o xs ys us vs result is (inr none) = inr none
