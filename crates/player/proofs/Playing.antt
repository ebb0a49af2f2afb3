-- What each order comes to.
use Rattle.std.proofs.Common.{◌≡◌, ◌⊎◌, inl, inr, ⊎_elim, ℕ, [], ◌∷◌, List, Result, Vec, Global, refl, sym, subst}
use Rattle.std.specs.Prelude.{IfOk, IsErr}
use Rattle.std.specs.List.{AllByRecursion}
use Rattle.std.proofs.lemmas.Result.{IfOk-from_err, IfOk-weaker}
use Rattle.row_model.specs.declared.rows.Row.{Row}
use Rattle.leaf_model.specs.declared.queries.Query.{Query}
use Rattle.berth_face.specs.Berth.{Meaning}
use Rattle.rollover_watch.specs.Watches.{Held}
use Rattle.script_text.specs.declared.order.Order.{Order}
use Rattle.script_text.specs.declared.order.Order.TheVariants as order
use Rattle.script_text.specs.declared.order.TableRequest.{TableRequest}
use Rattle.script_text.specs.Commands.{leaf_count}
use Rattle.printed_lines.specs.declared.line.Deed.{Deed}
use Rattle.printed_lines.specs.declared.line.Line.{Line}
use Rattle.printed_lines.specs.Lines.{IsOf}
use Rattle.script_text.specs.declared.fleet.FleetShape.{FleetShape}
use Rattle.transcript.specs.Pieces.{lines_in}
use Rattle.leaf_moves.specs.Holds.{Hold}
use Rattle.player.specs.declared.members.Members.{Members}
use Rattle.player.specs.Crew.{PlaysOrder, StillHas}
use Rattle.player.specs.Members.{fleet_in, holds_in}
use Rattle.player.specs.Commands.{ActsAt, AsksAll, CallsAt, StartsFirst, TailsAll}
use Rattle.player.proofs.Chains.{still_none}

module _ {B E : Type 0} (meaning : B → Meaning) (x y : Members B) (watches : List Held) (result : Result (Vec Line Global) E) where
  pub starts_play : StartsFirst meaning (leaf_count (fleet_in x)) x result y → PlaysOrder meaning (fleet_in x) order.Start (holds_in x) watches result (holds_in y) watches
  starts_play starts = record {
    pieces = starts.pieces;
    goes = starts.goes.goes;
    prints = starts.prints;
    answers = λ histories go. tt;
    counted = starts.goes.counted;
    fit = starts.goes.fit;
    heard = refl;
    lines_are = starts.goes.lines_are;
  }

  pub call_plays : (leaf table : ℕ) (r : TableRequest) → CallsAt meaning leaf table r x result y → PlaysOrder meaning (fleet_in x) (order.Call leaf table r) (holds_in x) watches result (holds_in y) watches
  call_plays leaf table r calls = record {
    pieces = calls.piece ∷ [];
    goes = calls.goes.goes;
    prints = (calls.piece, calls.prints, refl);
    answers = λ histories go. tt;
    counted = calls.goes.counted;
    fit = calls.goes.fit;
    heard = refl;
    lines_are = calls.goes.lines_are;
  }

  pub deed_plays : (leaf : ℕ) (d : Deed) → ActsAt meaning leaf d x result y → PlaysOrder meaning (fleet_in x) (order.Deed leaf d) (holds_in x) watches result (holds_in y) watches
  deed_plays leaf d acts = record {
    pieces = acts.piece ∷ [];
    goes = acts.goes.goes;
    prints = (acts.piece, acts.prints, refl);
    answers = λ histories go. tt;
    counted = acts.goes.counted;
    fit = acts.goes.fit;
    heard = refl;
    lines_are = acts.goes.lines_are;
  }

  query_plays : (q : Query) → AsksAll meaning q x result y → PlaysOrder meaning (fleet_in x) (order.Query q) (holds_in x) watches result (holds_in y) watches
  query_plays q asks = record {
    pieces = asks.pieces;
    goes = asks.goes.goes;
    prints = asks.prints;
    answers = asks.answers;
    counted = asks.goes.counted;
    fit = asks.goes.fit;
    heard = refl;
    lines_are = asks.goes.lines_are;
  }

  tail_plays : (key table : ℕ) (rows : List Row) → TailsAll meaning key table rows x result y
      → PlaysOrder meaning (fleet_in x) (order.Tail key table rows) (holds_in x) watches result (holds_in y) watches
  tail_plays key table rows tails = record {
    pieces = tails.pieces;
    goes = tails.goes.goes;
    prints = tt;
    answers = tails.answers;
    counted = tails.goes.counted;
    fit = tails.goes.fit;
    heard = refl;
    lines_are = tails.goes.lines_are;
  }

  -- an order that is this one played, or memory ran out before
  abbrev pub Played : Order → Type 0
  Played o = PlaysOrder meaning (fleet_in x) o (holds_in x) watches result (holds_in y) watches ⊎ (IsErr result × (holds_in y ≡ holds_in x) × (watches ≡ watches))

  pub played_as : (o o' : Order) → o ≡ o' → PlaysOrder meaning (fleet_in x) o' (holds_in x) watches result (holds_in y) watches → Played o
  played_as o o' is plays = inl (subst (λ (d : Order). PlaysOrder meaning (fleet_in x) d (holds_in x) watches result (holds_in y) watches) (sym is) plays)

  pub query_or_none : (q : Query) (o : Order) → o ≡ order.Query q → AsksAll meaning q x result y ⊎ (IsErr result × (holds_in y ≡ holds_in x)) → Played o
  query_or_none q o is asks = ⊎_elim (λ h. played_as o (order.Query q) is (query_plays q h)) (λ h. inr (h.0, h.1, refl)) asks

  pub tail_or_none : (key table : ℕ) (rows : List Row) (o : Order) → o ≡ order.Tail key table rows → TailsAll meaning key table rows x result y ⊎ (IsErr result × (holds_in y ≡ holds_in x)) → Played o
  tail_or_none key table rows o is tails = ⊎_elim (λ h. played_as o (order.Tail key table rows) is (tail_plays key table rows h)) (λ h. inr (h.0, h.1, refl)) tails

-- a tail leaves what is held
pub tail_still : {B E : Type 0} (meaning : B → Meaning) (key table : ℕ) (rows : List Row) (x y : Members B) (result : Result (Vec Line Global) E)
    → TailsAll meaning key table rows x result y ⊎ (IsErr result × (holds_in y ≡ holds_in x)) → StillHas (holds_in x) (holds_in y)
tail_still meaning key table rows x y result tails = ⊎_elim (λ h. h.goes.still) (λ h. subst (StillHas (holds_in x)) (sym h.1) (still_none meaning (holds_in x))) tails

-- a query leaves what is held
pub query_still : {B E : Type 0} (meaning : B → Meaning) (q : Query) (x y : Members B) (result : Result (Vec Line Global) E) → AsksAll meaning q x result y ⊎ (IsErr result × (holds_in y ≡ holds_in x))
    → StillHas (holds_in x) (holds_in y)
query_still meaning q x y result asks = ⊎_elim (λ h. h.goes.still) (λ h. subst (StillHas (holds_in x)) (sym h.1) (still_none meaning (holds_in x))) asks

-- the lines are of the fleet's tables
pub lines_fit : {B E : Type 0} (meaning : B → Meaning) (fleet : FleetShape) (o : Order) (xs ys : List (Hold B)) (before after : List Held) (result : Result (Vec Line Global) E)
    → PlaysOrder meaning fleet o xs before result ys after ⊎ (IsErr result × (ys ≡ xs) × (after ≡ before)) → IfOk result (λ lines. AllByRecursion (IsOf fleet.names) lines.items)
lines_fit meaning fleet o xs ys before after result played =
    ⊎_elim (λ (h : PlaysOrder meaning fleet o xs before result ys after). IfOk-weaker result (λ lines. lines.items ≡ lines_in h.pieces) (λ lines. AllByRecursion (IsOf fleet.names) lines.items)
    (λ lines are. subst (AllByRecursion (IsOf fleet.names)) (sym are) h.fit) h.lines_are)
    (λ h. IfOk-from_err result (λ lines. AllByRecursion (IsOf fleet.names) lines.items) h.0) played
