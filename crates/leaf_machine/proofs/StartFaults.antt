-- How a refusal of the opening is told as one of the start.
use Rattle.std.proofs.Common.{◌≡◌, ◌∙◌, ℕ, List, [], Result, Err, refl, sym, ap}
use Rattle.berth_face.specs.Berth.{Meaning, Pair}
use Rattle.leaf_opening.specs.declared.ways.OpenFault.{OpenFault}
use Rattle.leaf_opening.specs.declared.ways.OpenFault.TheVariants as found
use Rattle.leaf_words.specs.declared.ways.Way.{Way}
use Rattle.leaf_opening.specs.Answers.{IsExact}
use Rattle.leaf_opening.specs.Starts.{IsOpeningRefusal, TellsName}
use Rattle.leaf_table.specs.Calls.{IsFresh}
use Rattle.leaf_words.specs.declared.note.Note.{Note}
use Rattle.leaf_steward.specs.Seated.{Seated, AtEach}
use Rattle.leaf_machine.specs.declared.faults.StartFault.{StartFault}
use Rattle.leaf_machine.specs.declared.faults.StartFault.TheVariants.{RegionFault, DiskFault, DiskDamaged, Stranger, NoMemory, Worn}
use Rattle.leaf_machine.specs.Starts.{IsExactRefusal, IsStart, IsStartRefused, told_of}

-- what was found, by how it is told
pub told_refused : (names : List (List ℕ)) (old new : Meaning) (f : OpenFault) → IsOpeningRefusal names old new f → IsStartRefused names old new (told_of f)
told_refused names old new found.RegionFault is = (found.RegionFault, refl, is)
told_refused names old new found.DiskFault is = (found.DiskFault, refl, is)
told_refused names old new found.DiskDamaged is = (found.DiskDamaged, refl, is)
told_refused names old new (found.Stranger name) is = (found.Stranger name, refl, is)
told_refused names old new found.NoMemory is = (found.NoMemory, refl, is)

-- nothing that is found tells of a seat
pub told_start : {B : Type 0} (x : Seated) (berth after : B) (notes : List Note) (f : OpenFault) → AtEach (λ place t v. IsFresh v) x → notes ≡ [] → TellsName f → IsStart x berth notes (Err ((x, after), told_of f))
told_start x berth after notes found.RegionFault fresh none named = (fresh, refl, none)
told_start x berth after notes found.DiskFault fresh none named = (fresh, refl, none)
told_start x berth after notes found.DiskDamaged fresh none named = (fresh, refl, none)
told_start x berth after notes (found.Stranger name) fresh none named = (fresh, refl, none, named)
told_start x berth after notes found.NoMemory fresh none named = (fresh, refl, none)

-- what the bytes decide is told as it is
abbrev answer : OpenFault → Result Way OpenFault
answer f = Err f

pub told_exact : (names : List (List ℕ)) (held : Pair) (f : OpenFault) → IsExact names held.region held.disk (answer f) → IsExactRefusal names held (told_of f)
told_exact names held found.RegionFault is = tt
told_exact names held found.DiskFault is = is
told_exact names held found.DiskDamaged is = is
told_exact names held (found.Stranger name) is = is
told_exact names held found.NoMemory is = tt

-- each is told as itself
abbrev found_of : StartFault → OpenFault
found_of RegionFault = found.RegionFault
found_of DiskFault = found.DiskFault
found_of DiskDamaged = found.DiskDamaged
found_of (Stranger name) = found.Stranger name
found_of NoMemory = found.NoMemory
found_of (Worn table) = found.NoMemory

told_back : (f : OpenFault) → found_of (told_of f) ≡ f
told_back found.RegionFault = refl
told_back found.DiskFault = refl
told_back found.DiskDamaged = refl
told_back (found.Stranger name) = refl
told_back found.NoMemory = refl

pub told_as : (f g : OpenFault) → told_of f ≡ told_of g → f ≡ g
told_as f g same = sym (told_back f) ∙ ap found_of same ∙ told_back g
