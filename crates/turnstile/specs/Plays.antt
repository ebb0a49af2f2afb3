-- What each atomic step tells its caller.
use Rattle.std.specs.Prelude.{◌≡◌, ◌≢◌, ℕ, ◌+◌, ◌^◌, ◌<◌, ◌≤◌, List, [], ◌∷◌, ◌++◌, length, Option, Some}
use Rattle.std.specs.List.{AllByRecursion}
use Rattle.atomic_table.specs.Table.{Me, Step}
use Rattle.turnstile.specs.Ids.{LongerOf}
use Rattle.turnstile.specs.declared.object.TurnEntry.{TurnEntry}
use Rattle.turnstile.specs.declared.view.View.{View}
use Rattle.turnstile.specs.declared.view.Stage.TheVariants.{Rests, Waits, Inside, Posted}
use Rattle.turnstile.specs.Views.{Owned, ViewOthers, staged}
use Rattle.turnstile.specs.Seats.{AreIds}

abbrev At : Type 0 → Type 0
At O = Step (Option O)

abbrev Sat : Type 0 → Type 0 → Type 0 → Type 0 → Type 0
Sat B C R O = Me (Option O) (View B C R)

module _ {B C R O : Type 0} where
  -- a ticket was drawn
  abbrev pub drew : At O → Sat B C R O → ℕ → Sat B C R O → Type 0
  drew st m found m' = (m'.0 ≡ staged m.0 (Waits found)) × (m'.1 ≡ m.1) × (m.0.id ≢ 0 → length m.0.seen < 2 ^ 62 → m.0.share ≤ m.0.room) × (found < 2 ^ 63)

  -- the turn has come, with a value that stands for the history so far
  pub record Comes (legal : B → List (TurnEntry C R) → Type 0) (stands : B → List (TurnEntry C R) → O → Type 0) (b : B) (m : Sat B C R O) (found : ℕ) (m' : Sat B C R O) : Type 0 where
    pub between : List (TurnEntry C R)
    pub value : O
    pub seen : m'.0 ≡ record m.0 { seen = m.0.seen ++ between; stage = Inside found }
    pub slot : m'.1 ≡ (0, Some value) ∷ []
    pub others : ViewOthers m.0 between
    pub count : length (m.0.seen ++ between) ≡ found
    pub is_legal : legal b (m.0.seen ++ between)
    pub stands_for : stands b (m.0.seen ++ between) value

  -- at each look the turn has come, or nothing has changed
  abbrev pub looked : (B → List (TurnEntry C R) → Type 0) → (B → List (TurnEntry C R) → O → Type 0) → At O → Sat B C R O → ℕ → Sat B C R O → Type 0
  looked legal stands st m found m' = (t : ℕ) → m.0.stage ≡ Waits t
      → (found ≡ t → (b : B) → m.0.base ≡ Some b → Comes legal stands b m found m') × (found ≢ t → m' ≡ m)

  -- the entry was added to the history that the seat had seen
  abbrev pub posted : Option (TurnEntry C R) → At O → Sat B C R O → ℕ → Sat B C R O → Type 0
  posted said st m found m' = (t : ℕ) (e : TurnEntry C R) → m.0.stage ≡ Inside t → said ≡ Some e
      → (room : ℕ) × (m'.0 ≡ record m.0 { seen = m.0.seen ++ e ∷ []; room = room; stage = Posted t }) × (m'.1 ≡ m.1) × (room ≤ m.0.room) × (m.0.room ≤ room + 1) × (length m.0.seen < 2 ^ 62 → room ≡ m.0.room) × AreIds m'.0.seen

  -- the turn was passed on
  abbrev pub left : At O → Sat B C R O → ℕ → Sat B C R O → Type 0
  left st m found m' = (m'.0 ≡ staged m.0 Rests) × (m'.1 ≡ [])

  -- the seat has seen the longer of the two prefixes
  pub record Met (m m' : Sat B C R O) : Type 0 where
    pub seen : List (TurnEntry C R)
    pub view : m'.0 ≡ record m.0 { seen = seen; other = [] }
    pub slots : m'.1 ≡ m.1
    pub longer : LongerOf m.0.seen m.0.other seen
    pub ids : AreIds seen
    -- the entries that it had not seen have none of the ids that it had before it last took over another's
    pub others : (more : List (TurnEntry C R)) → seen ≡ m.0.seen ++ more → AllByRecursion (λ (e : TurnEntry C R). ¬ Owned m.0 e.by) more

  abbrev pub met : At O → Sat B C R O → ℕ → Sat B C R O → Type 0
  met st m found m' = Met m m'
