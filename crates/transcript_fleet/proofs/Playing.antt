-- A stretch of a run goes on by one command, and by those of a lane.
use Rattle.std.proofs.Common.{ℕ, List, [], ◌∷◌, ◌++◌, map, Option, sym, subst}
use Rattle.std.specs.List.{AllByRecursion}
use Rattle.std.proofs.lemmas.List.{append-nil, append_assoc}
use Rattle.berth_face.specs.Berth.{Meaning}
use Rattle.leaf_history.specs.History.{Entry}
use Rattle.script_text.specs.declared.fleet.FleetShape.{FleetShape}
use Rattle.transcript.specs.Pieces.{Piece, Played, PlayedItem, One, pieces_in, plays_in}
use Rattle.transcript.specs.Shapes.{Prints}
use Rattle.transcript.specs.Answers.{Answers, WornIsLong}
use Rattle.transcript.specs.Transcript.{Known, base_states_of}
use Rattle.leaf_moves.specs.Holds.{GoOn, Hold}
use Rattle.leaf_moves.specs.Plays.{Plays}
use Rattle.leaf_moves.specs.Lanes.{PlaysOn}
use Rattle.transcript_fleet.specs.Session.{Stretch}
use Rattle.transcript_fleet.proofs.Lists.{All-append, pieces-append, plays-snoc}
use Rattle.transcript_fleet.proofs.Growing.{AllGrow, Becomes, becomes_self, becomes_still, went_back}
use Rattle.transcript_fleet.proofs.Going.{Leaves, LeavesAlone, alone_on, command_goes}
use Rattle.transcript_fleet.proofs.Asking.{answers_known}

-- What is known of commands that were played: each printed what belongs to it, and its answers, and the seats that it
-- told as worn, are right however histories go on from these holds.
pub record AreRight {B : Type 0} (fleet : FleetShape) (known : ℕ → Option Known) (plays : List Played) (xs : List (Hold B)) : Type 0 where
  pub prints : AllByRecursion (λ (p : Played). Prints fleet p.command p.pieces) plays
  pub answered : (histories : ℕ → ℕ → List Entry) → GoOn xs histories → AllByRecursion (Answers fleet (base_states_of fleet known) histories) plays
  pub worn : (histories : ℕ → ℕ → List Entry) → GoOn xs histories → AllByRecursion (WornIsLong histories) (pieces_in plays)

-- A stretch went on by these pieces up to these items.
pub record WentOn {B : Type 0} (meaning : B → Meaning) (fleet : FleetShape) (known : ℕ → Option Known) (olds : List B) (before : List Piece) (start : ℕ → ℕ → List Entry)
    (items : List PlayedItem) (pieces : List Piece) (xs ys : List (Hold B)) : Type 0 where
  pub stretch : Stretch meaning fleet known olds before start items ys
  pub becomes : Becomes xs ys
  pub alone : LeavesAlone xs pieces

-- ---- what is known of commands

module _ {B : Type 0} {fleet : FleetShape} {known : ℕ → Option Known} where
  pub right_joined : {plays others : List Played} {xs : List (Hold B)} → AreRight fleet known plays xs → AreRight fleet known others xs → AreRight fleet known (plays ++ others) xs
  right_joined {plays} {others} first then = record {
    prints = All-append (λ (p : Played). Prints fleet p.command p.pieces) plays others first.prints then.prints;
    answered = λ histories on. All-append (Answers fleet (base_states_of fleet known) histories) plays others (first.answered histories on) (then.answered histories on);
    worn = λ histories on. subst (λ (ps : List Piece). AllByRecursion (WornIsLong histories) ps) (sym (pieces-append plays others))
        (All-append (WornIsLong histories) (pieces_in plays) (pieces_in others) (first.worn histories on) (then.worn histories on));
  }

  -- it is known still where histories have grown
  pub right_still : {plays : List Played} {xs ys : List (Hold B)} → AllGrow xs ys → AreRight fleet known plays xs → AreRight fleet known plays ys
  right_still grow right = record {
    prints = right.prints;
    answered = λ histories on. right.answered histories (went_back histories grow on);
    worn = λ histories on. right.worn histories (went_back histories grow on);
  }

module _ {B : Type 0} {meaning : B → Meaning} {fleet : FleetShape} {known : ℕ → Option Known} {olds : List B} {before : List Piece} {start : ℕ → ℕ → List Entry} where
  pub leaves_of : {items : List PlayedItem} {xs : List (Hold B)} → Stretch meaning fleet known olds before start items xs → Leaves meaning fleet known olds before start items xs
  leaves_of s = record { counts = s.counts; each = s.each }

  pub right_of : {items : List PlayedItem} {xs : List (Hold B)} → Stretch meaning fleet known olds before start items xs → AreRight fleet known (plays_in items) xs
  right_of s = record { prints = s.prints; answered = s.answered; worn = s.worn }

  pub stretch_of : {items : List PlayedItem} {xs : List (Hold B)} → Leaves meaning fleet known olds before start items xs → AreRight fleet known (plays_in items) xs → Stretch meaning fleet known olds before start items xs
  stretch_of leaves right = record { counts = leaves.counts; prints = right.prints; each = leaves.each; answered = right.answered; worn = right.worn }

  -- ---- one command

  pub command_on : {items : List PlayedItem} {xs ys : List (Hold B)} (p : Played) → Stretch meaning fleet known olds before start items xs → Plays meaning fleet p.command xs p.pieces ys
      → WentOn meaning fleet known olds before start (items ++ One p ∷ []) p.pieces xs ys
  command_on {items} {xs} {ys} p s step =
      let b = command_goes meaning fleet known olds before start items p.command xs p.pieces ys (leaves_of s) step.goes in
      let one : AreRight fleet known (p ∷ []) ys = record {
        prints = (step.prints, tt);
        answered = λ histories on. (answers_known b.leaves p.command p.pieces histories step.prints b.within_are (step.answers histories on), tt);
        worn = λ histories on. subst (λ (ps : List Piece). AllByRecursion (WornIsLong histories) ps) (sym (append-nil p.pieces)) (b.worn histories on);
      } in
      let all = right_joined (right_still b.becomes.grow (right_of s)) one in
      record {
        stretch = stretch_of b.leaves (subst (λ (ps : List Played). AreRight fleet known ps ys) (sym (plays-snoc items (One p))) all);
        becomes = b.becomes;
        alone = b.alone;
      }

  -- ---- those of a lane

  pub lane_on : {xs : List (Hold B)} {lane : List Played} {ys : List (Hold B)} → PlaysOn meaning fleet xs lane ys → (items : List PlayedItem) → Stretch meaning fleet known olds before start items xs
      → WentOn meaning fleet known olds before start (items ++ map One lane) (pieces_in lane) xs ys
  lane_on {xs} {lane} {ys} (PlaysOn.none ws l zs empty same) items s =
      subst (λ (qs : List Played). WentOn meaning fleet known olds before start (items ++ map One qs) (pieces_in qs) xs ys) (sym empty)
      (subst (λ (zs : List (Hold B)). WentOn meaning fleet known olds before start (items ++ []) [] xs zs) (sym same)
      (record {
        stretch = subst (λ (qs : List PlayedItem). Stretch meaning fleet known olds before start qs xs) (sym (append-nil items)) s;
        becomes = becomes_self;
        alone = λ leaf x at none. tt;
      }))
  lane_on {xs} {lane} {ys} (PlaysOn.more ws l zs p others between step rest is) items s =
      let first = command_on p s step in
      let then = lane_on rest (items ++ One p ∷ []) first.stretch in
      subst (λ (qs : List Played). WentOn meaning fleet known olds before start (items ++ map One qs) (pieces_in qs) xs ys) (sym is)
      (record {
        stretch = subst (λ (qs : List PlayedItem). Stretch meaning fleet known olds before start qs ys) (append_assoc items (One p ∷ []) (map One others)) then.stretch;
        becomes = becomes_still first.becomes then.becomes;
        alone = alone_on p.pieces (pieces_in others) first.becomes first.alone then.alone;
      })
