-- What the steps of a rollover did.
use Rattle.std.specs.Prelude.{ℕ, Bool, false, List, [], ◌∷◌, ◌++◌, length, map}
use Rattle.rollover_watch.specs.declared.event.RollEvent.{RollEvent}
use Rattle.rollover_watch.specs.declared.event.RollEvent.TheVariants as event
use Rattle.rollover_watch.specs.Watches.{Held}
use Rattle.rollover_driver.specs.declared.driving.Rolled.{Rolled}
use Rattle.rollover_driver.specs.Calls.{FleetCall, event_of}
use Rattle.rollover_driver.specs.Drives.{AreAllTold, WavesGo}

-- the event that tells a wave
abbrev pub wave_begins : ℕ → ℕ → List RollEvent
wave_begins number total = event.Wave number total ∷ []

-- a fleet has its leaves, and took calls of this kind, which were told to watches after the first events
pub record HasDone {F : Type 0} (has : F → ℕ → Type 0) (stands : F → List FleetCall → F → Type 0) (Are : List FleetCall → Type 0) (first : List RollEvent)
    (old_fleet : F) (old : List Held) (asked : Bool) (new_fleet : F) (new : List Held) : Type 0 where
  pub same : (leaf : ℕ) → has old_fleet leaf → has new_fleet leaf
  pub calls : List FleetCall
  pub are : Are calls
  pub goes : (begun : F) (before : List FleetCall) → stands begun before old_fleet → stands begun (before ++ calls) new_fleet
  pub told : AreAllTold (first ++ map event_of calls) old asked new

-- a fleet has its leaves, and went through waves
pub record HasRolled {F : Type 0} (has : F → ℕ → Type 0) (stands : F → List FleetCall → F → Type 0) (waves : List (List ℕ))
    (old_fleet : F) (old : List Held) (rolled : Rolled) (new_fleet : F) (new : List Held) : Type 0 where
  pub same : (leaf : ℕ) → has old_fleet leaf → has new_fleet leaf
  pub calls : List FleetCall
  pub goes : (begun : F) (before : List FleetCall) → stands begun before old_fleet → stands begun (before ++ calls) new_fleet
  pub rolls : WavesGo (length waves) 0 waves false old calls rolled new
