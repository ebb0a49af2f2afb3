-- The events of a rollover.
use Rattle.std.specs.Prelude.{◌≡◌, ◌+◌, ℕ, Bool, true, false, ◌||◌, List, [], ◌∷◌, ◌++◌, length, map}
use Rattle.rollover_watch.specs.declared.event.RollEvent.{RollEvent}
use Rattle.rollover_watch.specs.declared.event.RollEvent.TheVariants as event
use Rattle.rollover_watch.specs.Watches.{Held, AreTold, is_halt_asked}
use Rattle.rollover_driver.specs.declared.driving.Rolled.{Rolled}
use Rattle.rollover_driver.specs.Calls.{FleetCall, event_of, AreOfWave}

-- events were told to watches one after another, and whether one of these asked for a halt
abbrev pub AreAllTold : List RollEvent → List Held → Bool → List Held → Type 0
AreAllTold [] old asked new = (asked ≡ false) × (new ≡ old)
AreAllTold (first ∷ events) old asked new = (between : List Held) × (later : Bool) × AreTold first old between × AreAllTold events between later new
    × (asked ≡ (is_halt_asked first old || later))

-- `begun` of `total` waves were begun, and these are left. If none is left, or a halt was asked for, no call follows.
-- Else the next wave begins: it is told; each of its leaves is drained, which is told; then each is started, which is
-- told. The other waves follow.
abbrev pub WavesGo : (total begun : ℕ) (waves : List (List ℕ)) (asked : Bool) (old : List Held) (calls : List FleetCall) (rolled : Rolled) (new : List Held) → Type 0
WavesGo total begun [] asked old calls rolled new = (calls ≡ []) × (rolled ≡ record { waves = begun; halted = false }) × (new ≡ old)
WavesGo total begun (wave ∷ waves) true old calls rolled new = (calls ≡ []) × (rolled ≡ record { waves = begun; halted = true }) × (new ≡ old)
WavesGo total begun (wave ∷ waves) false old calls rolled new = (own rest : List FleetCall) × (later : Bool) × (between : List Held) × AreOfWave wave own × (calls ≡ own ++ rest)
    × AreAllTold (event.Wave (begun + 1) total ∷ map event_of own) old later between × WavesGo total (begun + 1) waves later between rest rolled new

-- the events of a rollover: those of its waves, and at last that it ended
pub record Drives (waves : List (List ℕ)) (old : List Held) (calls : List FleetCall) (rolled : Rolled) (new : List Held) : Type 0 where
  pub between : List Held
  pub goes : WavesGo (length waves) 0 waves false old calls rolled between
  pub ended : AreTold (event.Ended rolled.waves rolled.halted) between new
