-- The lanes of a burst: what each gets to play with, and how it is taken back.
use Rattle.std.specs.Prelude.{◌≡◌, ℕ, ◌<◌, Bool, List, ◌++◌, ◌∷◌, [], length, Option, Some, None, slice_get, MatchBool}
use Rattle.std.specs.List.{flat_map}
use Rattle.berth_face.specs.Berth.{Meaning}
use Rattle.turnstile.specs.Seats.{keeps_all_but, given, Joined}
use Rattle.leaf_table.specs.Calls.{SeatView}
use Rattle.script_text.specs.declared.fleet.FleetShape.{FleetShape}
use Rattle.transcript.specs.Pieces.{Played, PlayedItem, One, Burst}
use Rattle.leaf_moves.specs.Stage.{Leaf, Meets, MeetAll}
use Rattle.leaf_moves.specs.Holds.{Hold, AllMeet, caller_in}
use Rattle.leaf_moves.specs.Plays.{Plays}

-- ---- cut off

-- If the table is needed, the callers' seat gives one id away, and keeps others. If not, it stays.
abbrev pub SplitsIf : Bool → Option SeatView → Option SeatView → Option SeatView → Type 0
SplitsIf needed None off rest = (off ≡ None) × (rest ≡ None)
SplitsIf needed (Some s) off rest = MatchBool needed ((1 < s.share) × (off ≡ Some (given 1 s)) × (rest ≡ Some (keeps_all_but 1 s))) ((off ≡ None) × (rest ≡ Some s))

-- Of one leaf: an id of each table that is needed, and the leaf itself if the lane acts on it.
pub record CutsOffAt {B : Type 0} (needs : ℕ → Bool) (acts : Bool) (x off rest : Hold B) : Type 0 where
  pub tables : (off.tables ≡ x.tables) × (rest.tables ≡ x.tables)
  pub counts : (length off.callers ≡ length x.callers) × (length rest.callers ≡ length x.callers)
  pub seats : (table : ℕ) → SplitsIf (needs table) (caller_in x.callers table) (caller_in off.callers table) (caller_in rest.callers table)
  pub held : MatchBool acts ((off.held ≡ x.held) × (rest.held ≡ None)) ((off.held ≡ None) × (rest.held ≡ x.held))

-- the same, of each leaf
pub record CutsOff {B : Type 0} (needs acts : ℕ → Bool) (xs off rest : List (Hold B)) : Type 0 where
  pub counts : (length off ≡ length xs) × (length rest ≡ length xs)
  pub each : (leaf : ℕ) (x o r : Hold B) → slice_get xs leaf ≡ Some x → slice_get off leaf ≡ Some o → slice_get rest leaf ≡ Some r → CutsOffAt needs (acts leaf) x o r

-- ---- taken back

-- two callers' seats at a table met, and the first took over the ids of the second
pub record JoinsTo (s u t : SeatView) : Type 0 where
  pub one : SeatView
  pub other : SeatView
  pub met : Meets s u one other
  pub joined : Joined one other t

abbrev pub JoinsIf : Option SeatView → Option SeatView → Option SeatView → Type 0
JoinsIf s None t = t ≡ s
JoinsIf None (Some u) t = ⊥
JoinsIf (Some s) (Some u) None = ⊥
JoinsIf (Some s) (Some u) (Some t) = JoinsTo s u t

-- the leaf that a lane held comes back, and its seats meet the callers'; one that was not given away stays
abbrev pub ComesBack : {B : Type 0} → (B → Meaning) → Option (Leaf × B) → Option (Leaf × B) → List (Option SeatView) → Option (Leaf × B) → List (Option SeatView) → Type 0
ComesBack meaning None stayed callers held callers' = (held ≡ stayed) × (callers' ≡ callers)
ComesBack meaning (Some l) stayed callers held callers' = (leaf' : Leaf) × MeetAll l.0 callers leaf' callers' (meaning l.1) × (held ≡ Some (leaf', l.1))

-- Of one leaf: the seats are joined, and the leaf is put back.
pub record TakesBackAt {B : Type 0} (meaning : B → Meaning) (rest off x : Hold B) : Type 0 where
  pub tables : x.tables ≡ rest.tables
  pub joined : List (Option SeatView)
  pub count : length joined ≡ length rest.callers
  pub seats : (table : ℕ) → JoinsIf (caller_in rest.callers table) (caller_in off.callers table) (caller_in joined table)
  pub held : ComesBack meaning off.held rest.held joined x.held x.callers

pub record TakesBack {B : Type 0} (meaning : B → Meaning) (rest off xs : List (Hold B)) : Type 0 where
  pub counts : (length rest ≡ length xs) × (length off ≡ length xs)
  pub each : (leaf : ℕ) (r o x : Hold B) → slice_get rest leaf ≡ Some r → slice_get off leaf ≡ Some o → slice_get xs leaf ≡ Some x → TakesBackAt meaning r o x

-- ---- played

-- the commands of a lane, played one after another
pub data PlaysOn {B : Type 0} (meaning : B → Meaning) (fleet : FleetShape) : List (Hold B) → List Played → List (Hold B) → Type 0 where
  none : (xs : List (Hold B)) (lane : List Played) (ys : List (Hold B)) → lane ≡ [] → ys ≡ xs → PlaysOn meaning fleet xs lane ys
  more : (xs : List (Hold B)) (lane : List Played) (ys : List (Hold B)) (p : Played) (others : List Played) (between : List (Hold B))
      → Plays meaning fleet p.command xs p.pieces between
      → PlaysOn meaning fleet between others ys
      → lane ≡ p ∷ others
      → PlaysOn meaning fleet xs lane ys

-- Lanes that play beside one another: each plays with what was cut off for it, which is then taken back.
pub data Fans {B : Type 0} (meaning : B → Meaning) (fleet : FleetShape) : List (Hold B) → List (List Played) → List (Hold B) → Type 0 where
  none : (xs : List (Hold B)) (lanes : List (List Played)) (ys : List (Hold B)) → lanes ≡ [] → ys ≡ xs → Fans meaning fleet xs lanes ys
  beside : (xs : List (Hold B)) (lanes : List (List Played)) (ys : List (Hold B)) (first : List (List Played)) (lane : List Played) (needs acts : ℕ → Bool) (off rest rest' off' : List (Hold B))
      → CutsOff needs acts xs off rest
      → Fans meaning fleet rest first rest'
      → PlaysOn meaning fleet off lane off'
      → TakesBack meaning rest' off' ys
      → lanes ≡ first ++ lane ∷ []
      → Fans meaning fleet xs lanes ys

-- an item of a script: a command; or lanes beside one another, after all seats have met; or, if the ids do not suffice,
-- lanes one after another
pub data PlaysItem {B : Type 0} (meaning : B → Meaning) (fleet : FleetShape) (xs : List (Hold B)) (x : PlayedItem) (ys : List (Hold B)) : Type 0 where
  one : (p : Played)
      → x ≡ One p
      → Plays meaning fleet p.command xs p.pieces ys
      → PlaysItem meaning fleet xs x ys
  beside : (lanes : List (List Played)) (met : List (Hold B))
      → x ≡ Burst lanes
      → AllMeet meaning xs met
      → Fans meaning fleet met lanes ys
      → PlaysItem meaning fleet xs x ys
  in_turn : (lanes : List (List Played))
      → x ≡ Burst lanes
      → PlaysOn meaning fleet xs (flat_map (λ lane. lane) lanes) ys
      → PlaysItem meaning fleet xs x ys
