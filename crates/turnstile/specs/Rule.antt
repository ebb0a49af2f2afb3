-- The rule of the table.
use Rattle.std.specs.Prelude.{◌≡◌, ◌≢◌, ℕ, zero, suc, ◌+◌, ◌-◌, ◌^◌, ◌<◌, ◌≤◌, List, [], ◌∷◌, length, Option, Some}
use mathlib.Core.Option.{some, none}
use mathlib.Core.Option as maybe
use mathlib.Core.List.{IsPrefix}
use lib.ListN.{get_elem?}
use Rattle.atomic_table.specs.Table.{State}
use Rattle.turnstile.specs.Ids.{total_of, Among}
use Rattle.turnstile.specs.declared.object.TurnEntry.{TurnEntry}
use Rattle.turnstile.specs.declared.view.View.{View}
use Rattle.turnstile.specs.declared.view.Stage.{Stage}
use Rattle.turnstile.specs.declared.view.Stage.TheVariants.{Rests, Waits, Inside, Posted}
use Rattle.turnstile.specs.Views.{ticketed, InRange, Fresh, ViewOwns, Owned, holds_ticket, share_of, room_of}
use Rattle.turnstile.specs.Seats.{AreIds}

-- a value at home stands for the history; while the value is out none is at home
abbrev pub Homes : {L O : Type 0} → (L → O → Type 0) → L → ℕ → List (maybe.Option (Option O)) → Type 0
Homes {L} {O} stands log zero hs = (o : O) × (hs ≡ some (Some o) ∷ []) × stands log o
Homes stands log (suc k) hs = hs ≡ none ∷ []

module _ {B C R : Type 0} where
  module _ (log : List (TurnEntry C R)) (serving tickets out : ℕ) (owner : ℕ → ℕ) (j : ℕ) where
    -- a ticket is its seat's alone, and only the one that is served has the value
    abbrev pub Stands : View B C R → Stage → Type 0
    Stands v Rests = Unit {0}
    Stands v (Waits t) = (serving ≤ t) × (t < tickets) × (owner t ≡ j) × (t ≡ serving → out ≡ 0)
    Stands v (Inside t) = (t ≡ serving) × (t < tickets) × (owner t ≡ j) × (out ≡ 1) × (v.seen ≡ log)
    Stands v (Posted t) = (t ≡ serving) × (t < tickets) × (owner t ≡ j) × (out ≡ 2) × (v.seen ≡ log)

  -- what the seat j knows
  pub record Knows (base : B) (log : List (TurnEntry C R)) (serving tickets out : ℕ) (owner holder : ℕ → ℕ) (j : ℕ) (v : View B C R) : Type 0 where
    pub based : (b : B) → v.base ≡ Some b → b ≡ base
    -- what it has seen is a prefix of the history, and so is what was handed to it
    pub begins : IsPrefix v.seen log
    pub other_begins : IsPrefix v.other log
    -- every entry of one of its ids has been seen
    pub apart : (k : ℕ) (e : TurnEntry C R) → length v.seen ≤ k → length v.other ≤ k → get_elem? log k ≡ some e → ¬ ViewOwns v e.by
    -- those of the ids that it had before it last took over another's are in what it has seen itself
    pub own_apart : (k : ℕ) (e : TurnEntry C R) → length v.seen ≤ k → get_elem? log k ≡ some e → ¬ Owned v e.by
    pub older_is : (x : ℕ) → Among x v.older → Among x v.taken
    -- no entry has one of its later ids, which it may give away
    pub fresh : (k : ℕ) (e : TurnEntry C R) → get_elem? log k ≡ some e → ¬ Fresh v e.by
    -- no id is owned by two seats, and none is owned twice
    pub holder_is : (x : ℕ) → ViewOwns v x → holder x ≡ j
    pub taken_is : (x : ℕ) → Among x v.taken → ¬ InRange v x
    -- its own ids are ids of a turnstile
    pub within : v.id + v.share ≤ 65537
    -- with a ticket it has an id of its own
    pub turn : ticketed v.stage ≤ v.share
    pub stage : Stands log serving tickets out owner j v v.stage
    -- only an entry after the 2^62nd takes from its room
    pub room : v.share ≤ v.room + 1
    pub caller : v.id ≢ 0 → length v.seen < 2 ^ 62 → v.share ≤ v.room

  -- the history is legal, its length is in word 0, and the value at home stands for it
  pub record Turned {O : Type 0} (legal : B → List (TurnEntry C R) → Type 0) (stands : B → List (TurnEntry C R) → O → Type 0) (base : B) (s : State (Option O) (View B C R)) : Type 0 where
    pub log : List (TurnEntry C R)
    pub serving : ℕ
    pub tickets : ℕ
    -- 0: the value is at home; 1: it is out, and the turn's entry is not posted; 2: the entry is posted
    pub out : ℕ
    -- which seat has which ticket, and which id
    pub owner : ℕ → ℕ
    pub holder : ℕ → ℕ
    pub is_legal : legal base log
    -- each entry has one of the ids of a turnstile
    pub ids : AreIds log
    pub words : s.words ≡ length log ∷ tickets ∷ serving ∷ []
    pub counted : (out ≤ 2) × (length log ≡ serving + (out - 1))
    pub busy : 0 < out → serving < tickets
    pub home : Homes (stands base) log out s.homes
    pub each : (j : ℕ) (v : View B C R) → get_elem? s.views j ≡ some v → Knows base log serving tickets out owner holder j v
    -- the tickets from the one that is served on are held, each by one seat
    pub waiting : serving + total_of holds_ticket s.views ≡ tickets
    pub shares : total_of share_of s.views ≤ 65537
    -- so the history stays below 2^63 entries
    pub rooms : (length log - 2 ^ 62) + total_of room_of s.views ≤ 66560
