-- What a seat is inside the table, between two calls and while its turn has come.
use Rattle.std.specs.Prelude.{◌≡◌, ℕ, ◌+◌, ◌<◌, ◌≤◌, List, [], ◌∷◌, ◌++◌, length, Option, None}
use Rattle.atomic_table.specs.Table.{Me}
use Rattle.atomic_table.specs.Seated.{TableId}
use Rattle.atomic_table.specs.declared.shared.Seat.{Seat}
use Rattle.turnstile.specs.declared.object.TurnEntry.{TurnEntry}
use Rattle.turnstile.specs.declared.view.View.{View}
use Rattle.turnstile.specs.declared.view.Stage.TheVariants.{Rests, Inside}
use Rattle.turnstile.specs.Views.{ViewOthers}
use Rattle.turnstile.specs.Seats.{SeatStanding, AreIds}

-- the seat's table is this one, and has three words
abbrev pub Fits : TableId → TableId → Type 0
Fits seat table = (seat ≡ table) × (table.words ≡ 3)

module _ {B C R : Type 0} where
  -- what a contract sees of a view
  abbrev pub standing : TableId → View B C R → SeatStanding B C R
  standing at v = record { at = at; base = v.base; seen = v.seen; id = v.id; share = v.share; taken = v.taken; room = v.room }

  module _ {O : Type 0} where
    -- what a contract sees of a seat
    abbrev pub standing_of : Seat O (View B C R) → SeatStanding B C R
    standing_of p = standing p.table_id p.me.0

    -- the seat has no ticket and holds no value
    pub record Rested (m : Me O (View B C R)) : Type 0 where
      pub stage : m.0.stage ≡ Rests
      pub other : m.0.other ≡ []
      pub slots : m.1 ≡ []

    -- the numbers beside a seat are those of its view
    pub record Kept (p : Seat O (View B C R)) (id share seen : ℕ) : Type 0 where
      pub rested : Rested p.me
      pub id_is : id ≡ p.me.0.id
      pub share_is : share ≡ p.me.0.share
      pub seen_is : seen ≡ length p.me.0.seen
      pub has_id : 0 < share
      pub within : id + share ≤ 65537
      -- each entry that it has seen has one of the ids of a turnstile
      pub ids : AreIds p.me.0.seen

  -- the turn has come, and the value is out: it stands for the history that the seat has seen
  pub record Entered {O : Type 0} (legal : B → List (TurnEntry C R) → Type 0) (stands : B → List (TurnEntry C R) → O → Type 0) (b : B) (v : View B C R) (ticket : ℕ) (value : O) (m : Me (Option O) (View B C R)) : Type 0 where
    pub between : List (TurnEntry C R)
    pub view : m.0 ≡ record v { seen = v.seen ++ between; stage = Inside ticket }
    pub slot : m.1 ≡ (0, None) ∷ []
    pub others : ViewOthers v between
    pub count : length (v.seen ++ between) ≡ ticket
    pub is_legal : legal b (v.seen ++ between)
    pub stands_for : stands b (v.seen ++ between) value
    pub room : v.share ≤ v.room
