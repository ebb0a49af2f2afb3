-- How contracts see a seat and a turnstile, and what each call asks of its seats and tells them.
use Rattle.std.specs.Prelude.{◌≡◌, ◌≢◌, ◌⊎◌, ℕ, ◌+◌, ◌-◌, ◌<◌, ◌≤◌, ◌^◌, List, [], ◌∷◌, ◌++◌, length, Option, Some}
use Rattle.std.specs.List.{AllByRecursion}
use Rattle.atomic_table.specs.Seated.{TableId}
use Rattle.turnstile.specs.declared.object.TurnEntry.{TurnEntry}
use Rattle.turnstile.specs.Ids.{run_of, OwnsId, LongerOf}
use Rattle.turnstile.specs.Objects.{entry_of}

-- a turnstile: which one it is, and what its histories begin from
pub record Site (B : Type 0) : Type 0 where
  pub at : TableId
  pub base : B

-- a seat: its turnstile, the prefix of the history that it has seen, and its ids
pub record SeatStanding (B C R : Type 0) : Type 0 where
  pub at : TableId
  pub base : Option B
  pub seen : List (TurnEntry C R)
  -- its own ids: `share` of them, from this one on
  pub id : ℕ
  pub share : ℕ
  -- the ids that it took over
  pub taken : List ℕ
  -- how many entries after the 2^62nd it may still make
  pub room : ℕ

-- each entry has one of the ids of a turnstile
abbrev pub AreIds : {C R : Type 0} → List (TurnEntry C R) → Type 0
AreIds {C} {R} es = AllByRecursion (λ (e : TurnEntry C R). e.by < 65537) es

module _ {B C R : Type 0} where
  -- the seat is one of this turnstile's, and has an id of its own
  pub record IsSeatOf (s : SeatStanding B C R) (t : Site B) : Type 0 where
    pub at : s.at ≡ t.at
    pub base : s.base ≡ Some t.base
    pub has_id : 0 < s.share

  -- a seat that has seen nothing
  abbrev pub unused_seat : Site B → ℕ → ℕ → ℕ → SeatStanding B C R
  unused_seat t id share room = record { at = t.at; base = Some t.base; seen = []; id = id; share = share; taken = []; room = room }

  -- the id is one of the seat's
  abbrev pub Owns : SeatStanding B C R → ℕ → Type 0
  Owns s x = OwnsId s.id s.share s.taken x

  -- these entries are other seats'
  abbrev pub Others : SeatStanding B C R → List (TurnEntry C R) → Type 0
  Others s es = AllByRecursion (λ (e : TurnEntry C R). ¬ Owns s e.by) es

  -- the seat may make the call, whatever entries others make first
  abbrev pub MayCall : (B → List (TurnEntry C R) → Type 0) → (B → List (TurnEntry C R) → ℕ → C → Type 0) → B → SeatStanding B C R → C → Type 0
  MayCall legal may b s call = (between : List (TurnEntry C R)) → Others s between → legal b (s.seen ++ between) → may b (s.seen ++ between) s.id call

  -- a seat has room if it may still make one entry after the 2^62nd for each of its ids, or it is a caller's and has
  -- seen fewer than 2^62
  abbrev pub HasRoom : SeatStanding B C R → Type 0
  HasRoom s = (s.share ≤ s.room) ⊎ ((s.id ≢ 0) × (length s.seen < 2 ^ 62))

  -- One entry was made; it is the last that the seat has seen. Others may have made entries before it.
  pub record Called (legal : B → List (TurnEntry C R) → Type 0) (b : B) (clock : ℕ) (s : SeatStanding B C R) (call : C) (reply : R) (s' : SeatStanding B C R) : Type 0 where
    pub between : List (TurnEntry C R)
    pub room : ℕ
    pub view : s' ≡ record s { seen = (s.seen ++ between) ++ entry_of s.id clock call reply ∷ []; room = room }
    pub others : Others s between
    pub is_legal : legal b s'.seen
    -- only an entry after the 2^62nd takes room
    pub room_falls : (room ≤ s.room) × (s.room ≤ room + 1) × (length (s.seen ++ between) < 2 ^ 62 → room ≡ s.room)

  -- the seat gives away its last k ids
  abbrev pub keeps_all_but : ℕ → SeatStanding B C R → SeatStanding B C R
  keeps_all_but k s = record s { share = s.share - k; room = s.room - k }

  -- the new seat has them, and has seen the same prefix
  abbrev pub given : ℕ → SeatStanding B C R → SeatStanding B C R
  given k s = record s { id = s.id + (s.share - k); share = k; taken = []; room = k }

  -- the seat s has taken over the seat u: its ids, and what it had seen
  pub record Joined (s u s' : SeatStanding B C R) : Type 0 where
    pub seen : List (TurnEntry C R)
    pub view : s' ≡ record s { seen = seen; taken = s.taken ++ (run_of u.id u.share ++ u.taken); room = s.room + u.room }
    pub longer : LongerOf s.seen u.seen seen

  -- what a seat has learned, without a call of its own, are entries of other seats
  abbrev pub LearnsOthers : SeatStanding B C R → SeatStanding B C R → Type 0
  LearnsOthers s s' = (more : List (TurnEntry C R)) → s'.seen ≡ s.seen ++ more → Others s more

  -- the seat s has seen what the seat u had seen; nothing else of it has changed
  pub record SeesAlso (s u s' : SeatStanding B C R) : Type 0 where
    pub seen : List (TurnEntry C R)
    pub view : s' ≡ record s { seen = seen }
    pub longer : LongerOf s.seen u.seen seen
