-- How the disks that a crash may leave go on from call to call.
use Rattle.std.proofs.Common.{IsTrue, ◌∙◌, refl, arith}
use Rattle.berth_face.specs.Berth.{Meaning, Passes, Stays, Ended, SameDisk}
use Rattle.region_reading.specs.Reading.{Untouched}

pub ended_stay : (a b : Meaning) → Passes a b → Stays a b → Ended SameDisk a b
ended_stay a b time stays = λ p left. (p, (stays.leaves b.clock p time.later (omega arith)).0 left, refl)

-- a look
pub untouched_disks : (a b : Meaning) → Untouched a b → IsTrue a.tells → Ended SameDisk a b
untouched_disks a b same told = ended_stay a b same.time (same.stays told)

pub ended_on : (a b c : Meaning) → Ended SameDisk a b → Ended SameDisk b c → Ended SameDisk a c
ended_on a b c ab bc = λ p left.
    let last = bc p left in
    let first = ab last.0 last.1 in
    (first.0, first.1, last.2 ∙ first.2)
