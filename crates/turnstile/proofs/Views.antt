-- What the other seats know after one seat's view has changed.
use Rattle.std.proofs.Common.{◌≡◌, ◌≢◌, ℕ, ◌+◌, ◌≤◌, List, set, sym, subst, ⊎_elim, inl, inr, ◌∙◌, Option}
use mathlib.Core.Option.{some}
use lib.ListN.{get_elem?}
use Rattle.atomic_table.specs.Table.{State}
use Rattle.atomic_table.proofs.Lists.{at_set}
use Rattle.turnstile.specs.Ids.{total_of}
use Rattle.turnstile.specs.declared.object.TurnEntry.{TurnEntry}
use Rattle.turnstile.specs.declared.view.View.{View}
use Rattle.turnstile.specs.Views.{ViewOwns, Owned, holds_ticket, share_of, room_of}
use Rattle.turnstile.specs.Rule.{Stands, Knows, Turned}
use Rattle.turnstile.proofs.Totals.{total_set, total_below}

module _ {B C R : Type 0} where
  -- of each view: the seat's new one, or another seat's old one
  pub each_after : (P : ℕ → View B C R → Type 0) (vs : List (View B C R)) (me : ℕ) (w : View B C R) → P me w → ((j : ℕ) (d : View B C R) → j ≢ me → get_elem? vs j ≡ some d → P j d) → (j : ℕ) (d : View B C R) → get_elem? (set vs me w) j ≡ some d → P j d
  each_after P vs me w mine others j d e = ⊎_elim (λ (t : (j ≡ me) × (w ≡ d)). subst (λ (x : ℕ × View B C R). P x.0 x.1) (λ i. (sym t.0 i, t.1 i)) mine)
      (λ (t : (j ≢ me) × (get_elem? vs j ≡ some d)). others j d t.0 t.1) (at_set vs me j w d e)

  -- the view of the seat id goes from v to w: the three sums
  pub sums : (vs : List (View B C R)) (id : ℕ) (v w : View B C R) → get_elem? vs id ≡ some v
      → (total_of holds_ticket (set vs id w) + holds_ticket v ≡ total_of holds_ticket vs + holds_ticket w)
      × (total_of share_of (set vs id w) + v.share ≡ total_of share_of vs + w.share)
      × (total_of room_of (set vs id w) + v.room ≡ total_of room_of vs + w.room)
  sums vs id v w at = (total_set holds_ticket vs id v w at, total_set share_of vs id v w at, total_set room_of vs id v w at)

module _ {B C R : Type 0} (base : B) where
  -- what a seat knows when no entry is added and its ids stay
  pub moved : (log : List (TurnEntry C R)) (serving tickets out serving' tickets' out' : ℕ) (owner owner' holder : ℕ → ℕ) (j : ℕ) (d : View B C R)
      → (Stands log serving tickets out owner j d d.stage → Stands log serving' tickets' out' owner' j d d.stage) → Knows base log serving tickets out owner holder j d → Knows base log serving' tickets' out' owner' holder j d
  moved log serving tickets out serving' tickets' out' owner owner' holder j d f k = record {
    based = k.based;
    begins = k.begins;
    other_begins = k.other_begins;
    apart = k.apart;
    own_apart = k.own_apart;
    older_is = k.older_is;
    fresh = k.fresh;
    holder_is = k.holder_is;
    taken_is = k.taken_is;
    within = k.within;
    turn = k.turn;
    stage = f k.stage;
    room = k.room;
    caller = k.caller;
  }

  -- the ids of other seats stay
  pub same_ids : {log : List (TurnEntry C R)} {serving tickets out j : ℕ} {owner holder holder' : ℕ → ℕ} {d : View B C R} → Knows base log serving tickets out owner holder j d → ((x : ℕ) → ViewOwns d x → holder' x ≡ holder x) → Knows base log serving tickets out owner holder' j d
  same_ids k f = record {
    based = k.based;
    begins = k.begins;
    other_begins = k.other_begins;
    apart = k.apart;
    own_apart = k.own_apart;
    older_is = k.older_is;
    fresh = k.fresh;
    holder_is = λ x own. f x own ∙ k.holder_is x own;
    taken_is = k.taken_is;
    within = k.within;
    turn = k.turn;
    stage = k.stage;
    room = k.room;
    caller = k.caller;
  }

  -- what was one of its ids still is
  pub still_owns : {log : List (TurnEntry C R)} {serving tickets out j x : ℕ} {owner holder : ℕ → ℕ} {d : View B C R} → Knows base log serving tickets out owner holder j d → Owned d x → ViewOwns d x
  still_owns {x = x} k was = ⊎_elim (λ t. inl t) (λ t. inr (k.older_is x t)) was

-- no more tickets than ids
pub few : {B C R O : Type 0} (legal : B → List (TurnEntry C R) → Type 0) (stands : B → List (TurnEntry C R) → O → Type 0) (base : B) (s : State (Option O) (View B C R)) → Turned legal stands base s → total_of holds_ticket s.views ≤ total_of share_of s.views
few legal stands base s r = total_below holds_ticket share_of s.views (λ j d e. (r.each j d e).turn)
