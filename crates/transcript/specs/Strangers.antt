-- Strangers that a start finds: names of tables that the leaf does not have.
use Rattle.std.specs.Prelude.{◌⊎◌, ℕ, List, [], ◌∷◌, ⊤}
use Rattle.berth_face.specs.Berth.{IsClosed}
use Rattle.adopt.specs.Adopting.{HasNoStranger, IsNoImage, IsStranger}
use Rattle.log_recovery.specs.Recovery.{IsRecoveryRefusal}
use Rattle.log_recovery.specs.declared.fault.RecoveryFault.TheVariants as found
use Rattle.leaf_words.specs.declared.ways.Way.TheVariants.{Memory, Disk}
use Rattle.printed_lines.specs.declared.line.Ending.{Ending}
use Rattle.printed_lines.specs.declared.line.Ending.TheVariants as ends
use Rattle.transcript.specs.Pieces.{Did}

-- A start over this region and log tells the first stranger of the region's directory, or, if the region is no image,
-- of the log. A start that came up found none.
abbrev pub FitsStrangers : List (List ℕ) → List ℕ → List ℕ → Ending → Type 0
FitsStrangers names region disk (ends.FaultStranger name) = IsStranger names region name ⊎ (HasNoStranger names region × IsNoImage region × IsRecoveryRefusal names disk (found.Stranger name))
FitsStrangers names region disk (ends.Started Memory) = HasNoStranger names region
FitsStrangers names region disk (ends.Started (Disk w)) = HasNoStranger names region × ((name : List ℕ) → IsRecoveryRefusal names disk (found.Stranger name) → ⊥)
FitsStrangers names region disk _ = ⊤

-- what remains to hold of the region after a start or another deed that ended so; nothing once the leaf was up
abbrev pub Behind : Ending → List ℕ → (List ℕ → Type 0) → Type 0
Behind (ends.Started way) region P = ⊤
Behind (ends.FaultWorn table) region P = P region
Behind ends.NotUp region P = P region
Behind ends.FaultRegion region P = P region ⊎ ((now : List ℕ) × IsClosed now × P now)
Behind _ region P = (now : List ℕ) × IsClosed now × P now

-- each start among these deeds, until the leaf is first up, fits the strangers of the log, and of the region that the
-- starts before it left
abbrev pub StrangersIn : List (List ℕ) → List ℕ → List ℕ → List Did → Type 0
StrangersIn names disk region [] = ⊤
StrangersIn names disk region (d ∷ ds) = FitsStrangers names region disk d.ending × Behind d.ending region (λ now. StrangersIn names disk now ds)
