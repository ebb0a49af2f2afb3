-- What a watch means, and what it means when it was told an event.
use Rattle.std.specs.Prelude.{◌≡◌, ◌+◌, ◌^◌, ◌-◌, ℕ, min, Bool, true, false, Option, option_map, List, [], ◌∷◌, ◌++◌, filter}
use Rattle.std.specs.List.{AllZip, list_any}
use Rattle.rollover_watch.specs.declared.event.Drained.TheVariants as drained
use Rattle.rollover_watch.specs.declared.event.Started.TheVariants as started
use Rattle.rollover_watch.specs.declared.event.RollEvent.{RollEvent}
use Rattle.rollover_watch.specs.declared.event.RollEvent.TheVariants as event
use Rattle.rollover_watch.specs.declared.event.Wish.{Wish}
use Rattle.rollover_watch.specs.declared.event.Wish.TheVariants.{Leave, Halt}

-- The meaning of a watch. By the events that it is told from now on: the line that it shows, and its wish at an event.
-- So far: the number of drains that ended well and of starts from memory, and the events, if it keeps them.
pub record Held : Type 0 where
  pub line : List RollEvent → List ℕ
  pub drained : ℕ
  pub adopted : ℕ
  pub events : Option (List RollEvent)
  pub wish : List RollEvent → RollEvent → Wish

-- a drain that was done
abbrev pub is_drained : RollEvent → Bool
is_drained (event.Drain leaf drained.Done) = true
is_drained _ = false

-- a start that found the tables in memory
abbrev pub is_adopted : RollEvent → Bool
is_adopted (event.Start leaf started.Memory) = true
is_adopted _ = false

-- a count rises by one if the event counts, and saturates at 64 bits
abbrev pub raised : Bool → ℕ → ℕ
raised false count = count
raised true count = min (count + 1) (2 ^ 64 - 1)

-- A watch was told an event. Each count rises if the event counts for it. The events that it keeps end with this one.
-- What it shows and wishes from now on is what it would have shown and wished after this event.
pub record HasHeard (event : RollEvent) (old new : Held) : Type 0 where
  pub drained : new.drained ≡ raised (is_drained event) old.drained
  pub adopted : new.adopted ≡ raised (is_adopted event) old.adopted
  pub events : new.events ≡ option_map (λ events. events ++ event ∷ []) old.events
  pub line : (more : List RollEvent) → new.line more ≡ old.line (event ∷ more)
  pub wish : (more : List RollEvent) (next : RollEvent) → new.wish more next ≡ old.wish (event ∷ more) next

-- whether a wish is to be told more
abbrev pub is_staying : Wish → Bool
is_staying Leave = false
is_staying _ = true

-- whether a wish is that no further wave begins
abbrev pub is_halting : Wish → Bool
is_halting Halt = true
is_halting _ = false

-- each watch of a list was told an event; those that wished to leave are gone; the others are in their order, and have
-- heard it
abbrev pub AreTold : RollEvent → List Held → List Held → Type 0
AreTold event old new = AllZip (HasHeard event) (filter (λ (watch : Held). is_staying (watch.wish [] event)) old) new

-- whether a watch of the list asks for a halt
abbrev pub is_halt_asked : RollEvent → List Held → Bool
is_halt_asked event watches = list_any (λ (watch : Held). is_halting (watch.wish [] event)) watches
