-- What every event keeps, every run keeps.
use Rattle.std.proofs.Common.{ℕ, Bool}
use Rattle.berth_face.specs.Berth.{Pair}
use Rattle.crash_moments.specs.Left.{Left}
use Rattle.crash_events.specs.Machine.{Machine}
use Rattle.crash_events.specs.Events.{Reaches, here, next}
use Rattle.crash_events.specs.Kept.{Kept}
use Rattle.crash_events.specs.Fits.{FitsPair, states_by_name}
use Rattle.crash_events.specs.Laws.{IsPlain}
use Rattle.crash_events.proofs.EveryEvent as one_event
use Rattle.crash_events.proofs.Fitting.{fitting_is_left}
use Rattle.crash_events.proofs.Plain.{plain_always}

pub kept_throughout : (m m' : Machine) → Kept m → Reaches m m' → Kept m'
kept_throughout m m' k here = k
kept_throughout m m' k (next {n} {p} run step) = one_event.kept_always n m' (kept_throughout m n k run) step

pub plain_throughout : (m m' : Machine) → IsPlain m.tables → Reaches m m' → IsPlain m'.tables
plain_throughout m m' plain here = plain
plain_throughout m m' plain (next {n} {p} run step) = plain_always n m' (plain_throughout m n plain run) step

pub left_throughout : (reads : ℕ → Bool) (m m' : Machine) (pair : Pair) → IsPlain m.tables → Kept m → Reaches m m' → FitsPair reads m' pair → Left reads (states_by_name m'.tables) pair
left_throughout reads m m' pair plain k run fits = fitting_is_left reads m' pair (plain_throughout m m' plain run) (kept_throughout m m' k run) fits
