-- What a seat knows, and how it changes.
use Rattle.std.specs.Prelude.{ℕ, ◌+◌, ◌-◌, ◌<◌, List, [], ◌++◌, Some, None}
use Rattle.std.specs.List.{AllByRecursion}
use Rattle.turnstile.specs.Ids.{run_of, InShare, OwnsId}
use Rattle.turnstile.specs.declared.object.TurnEntry.{TurnEntry}
use Rattle.turnstile.specs.declared.view.View.{View}
use Rattle.turnstile.specs.declared.view.Start.{Start}
use Rattle.turnstile.specs.declared.view.Stage.{Stage}
use Rattle.turnstile.specs.declared.view.Stage.TheVariants.{Rests, Waits, Inside, Posted}

-- whether a seat at this stage has a ticket
abbrev pub ticketed : Stage → ℕ
ticketed Rests = 0
ticketed (Waits _) = 1
ticketed (Inside _) = 1
ticketed (Posted _) = 1

module _ {B C R : Type 0} where
  -- the ids that the seat was made with and has not given away
  abbrev pub InRange : View B C R → ℕ → Type 0
  InRange v x = InShare v.id v.share x

  -- those that no entry has yet
  abbrev pub Fresh : View B C R → ℕ → Type 0
  Fresh v x = (v.id < x) × (x < v.id + v.share)

  -- the id is one of the seat's
  abbrev pub ViewOwns : View B C R → ℕ → Type 0
  ViewOwns v x = OwnsId v.id v.share v.taken x

  -- the id was one of the seat's before it last took over another's
  abbrev pub Owned : View B C R → ℕ → Type 0
  Owned v x = OwnsId v.id v.share v.older x

  -- these entries are other seats'
  abbrev pub ViewOthers : View B C R → List (TurnEntry C R) → Type 0
  ViewOthers v es = AllByRecursion (λ (e : TurnEntry C R). ¬ ViewOwns v e.by) es

  -- what a seat counts for in the rule's three sums
  abbrev pub holds_ticket : View B C R → ℕ
  holds_ticket v = ticketed v.stage

  abbrev pub share_of : View B C R → ℕ
  share_of v = v.share

  abbrev pub room_of : View B C R → ℕ
  room_of v = v.room

  -- the first seat: the steward's and the first caller's in one
  abbrev pub first_view : Start B → View B C R
  first_view k = record { base = Some k.base; seen = []; other = []; id = 0; share = 1 + k.share; taken = []; older = []; room = 1024 + k.share; stage = Rests }

  -- the same seat at another stage
  abbrev pub staged : View B C R → Stage → View B C R
  staged v stage = record v { stage = stage }

  -- the seat gives away its last k ids
  abbrev pub view_keeps_all_but : ℕ → View B C R → View B C R
  view_keeps_all_but k v = record v { share = v.share - k; room = v.room - k }

  -- the new seat has them, and has seen the same prefix
  abbrev pub view_given : ℕ → View B C R → View B C R
  view_given k v = record { base = v.base; seen = v.seen; other = []; id = v.id + (v.share - k); share = k; taken = []; older = []; room = k; stage = Rests }

  -- the seat takes over the ids of another
  abbrev pub view_joined : View B C R → View B C R → View B C R
  view_joined v u = record v { other = u.seen; taken = v.taken ++ (run_of u.id u.share ++ u.taken); older = v.taken; room = v.room + u.room }

  -- what is left of the other
  abbrev pub spent : View B C R
  spent = record { base = None; seen = []; other = []; id = 0; share = 0; taken = []; older = []; room = 0; stage = Rests }
