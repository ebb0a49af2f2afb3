-- What is asked of a fleet, and the event that tells it.
use Rattle.std.specs.Prelude.{◌≡◌, ℕ, List, ◌++◌}
use Rattle.std.specs.List.{AllZip}
use Rattle.rollover_watch.specs.declared.event.Drained.{Drained}
use Rattle.rollover_watch.specs.declared.event.Started.{Started}
use Rattle.rollover_watch.specs.declared.event.RollEvent.{RollEvent}
use Rattle.rollover_watch.specs.declared.event.RollEvent.TheVariants as event

-- a call to a fleet with its answer: a leaf was drained, or started
pub data FleetCall : Type 0 where
  Drains : (leaf : ℕ) (got : Drained) → FleetCall
  Starts : (leaf : ℕ) (got : Started) → FleetCall

-- the event that tells it
abbrev pub event_of : FleetCall → RollEvent
event_of (Drains leaf got) = event.Drain leaf got
event_of (Starts leaf got) = event.Start leaf got

-- calls of one kind, `Drains` or `Starts`: one of each leaf of a list, in its order, with whatever it answered
abbrev pub AreOfEach : {A : Type 0} → (ℕ → A → FleetCall) → List ℕ → List FleetCall → Type 0
AreOfEach {A} kind leaves calls = AllZip (λ leaf call. (got : A) × (call ≡ kind leaf got)) leaves calls

-- each leaf of a wave was drained, and then each was started
abbrev pub AreOfWave : List ℕ → List FleetCall → Type 0
AreOfWave wave calls = (drains starts : List FleetCall) × AreOfEach Drains wave drains × AreOfEach Starts wave starts × (calls ≡ drains ++ starts)
