-- What a start, a flush and a kill make of one leaf.
use Rattle.std.proofs.Common.{◌≡◌, ℕ, false, List, [], length, Option, Err, refl, sym, ap, subst}
use Rattle.std.specs.Prelude.{IsTrue}
use Rattle.leaf_model.specs.declared.writes.Write.{Write}
use Rattle.row_records.specs.Records.{LogRecord}
use Rattle.berth_face.specs.Berth.{Meaning}
use Rattle.disk_backup.specs.Scanning.{BeginsScan}
use Rattle.leaf_words.specs.declared.ways.Way.{Way}
use Rattle.leaf_words.specs.declared.ways.Way.TheVariants.{Memory, Disk}
use Rattle.leaf_opening.specs.declared.ways.OpenFault.{OpenFault}
use Rattle.leaf_opening.specs.declared.ways.OpenFault.TheVariants as found
use Rattle.leaf_opening.specs.Starts.{IsOpeningRefusal}
use Rattle.crash_moments.specs.Left.{NamedStates}
use Rattle.crash_states.specs.Standing.{Rests, Runs}
use Rattle.leaf_words.specs.declared.note.Note.{Note}
use Rattle.leaf_steward.specs.Seated.{Seated, AreFounded, watched_by}
use Rattle.leaf_steward.specs.Making.{Makes}
use Rattle.leaf_machine.specs.declared.faults.StartFault.{StartFault}
use Rattle.leaf_machine.specs.declared.faults.StartFault.TheVariants as fault
use Rattle.leaf_machine.specs.States.{Serving, ServingGoesOn, RestsOn, GoesOnServing, SeatsTold}
use Rattle.leaf_machine.specs.Starts.{IsExactRefusal, IsStart, IsStartRefused, StartGoesOn, told_of}
use Rattle.printed_lines.specs.declared.line.Ending.{Ending}
use Rattle.printed_lines.specs.declared.line.Ending.TheVariants as ending
use Rattle.printed_lines.specs.declared.line.Deed.{Deed}
use Rattle.printed_lines.specs.declared.line.Deed.TheVariants.{Start}
use Rattle.transcript.specs.Counts.{reads_disk}
use Rattle.leaf_moves.specs.Stage.{Leaf, IsDown, IsUp, LeafStands, Carries, seated_of}
use Rattle.leaf_moves.specs.Steps.{StartMoves, Moves, IsTrueOf, RegionRefused, ending_of}
use Rattle.leaf_deeds.specs.Deeds.{DeedDoes}
use Rattle.leaf_deeds.specs.Moves.{Drains, FaultRose}
use Rattle.leaf_deeds.proofs.Carrying.{carries_none}

-- ---- what stands behind the entries

-- a leaf that serves goes on
pub runs_carried : (x y : Serving) (notes : List Note) (m m' : Meaning) → Makes m.clock m'.clock x.seated notes y.seated
    → (IsTrue m.tells → AreFounded x.seated → ServingGoesOn x y m m') → Carries (IsUp x) (IsUp y) notes m m'
runs_carried x y notes m m' made crash = record {
  made = made;
  stands = λ base tells founded sound stands.
      let on : GoesOnServing x y m m' = crash tells founded stands.0 stands.1 in
      record { stands = (on.later, on.runs); told = on.told base };
}

-- nothing is done
pub carries_still : (leaf : Leaf) (m : Meaning) (notes : List Note) → notes ≡ [] → Carries leaf leaf notes m m
carries_still leaf m notes none = subst (λ (ns : List Note). Carries leaf leaf ns m m) (sym none) (carries_none leaf m)

-- a leaf comes to rest
pub rests_carried : (leaf : Leaf) (y : Seated) (notes : List Note) (m m' : Meaning) → Makes m.clock m'.clock (seated_of leaf) notes y
    → ((base : NamedStates) → AreFounded (seated_of leaf) → LeafStands base leaf m → RestsOn (seated_of leaf) y m m') → Carries leaf (IsDown y) notes m m'
rests_carried leaf y notes m m' made crash = record {
  made = made;
  stands = λ base tells founded sound stands.
      let on : RestsOn (seated_of leaf) y m m' = crash base founded stands in
      record { stands = (on.least, on.next, on.rests base sound); told = on.told base };
}

-- a start that is refused, by its fault
pub record Refused (x : Seated) (notes : List Note) (y : Seated) (f : StartFault) : Type 0 where
  pub worn : IsTrueOf x f
  pub same : y ≡ x
  pub none : notes ≡ []

pub refused : {B : Type 0} (x : Seated) (b : B) (notes : List Note) (y : Seated × B) (f : StartFault) → IsStart x b notes (Err (y, f)) → Refused x notes y.0 f
refused x b notes y fault.RegionFault start = record { worn = tt; same = start.1; none = start.2 }
refused x b notes y fault.DiskFault start = record { worn = tt; same = start.1; none = start.2 }
refused x b notes y fault.DiskDamaged start = record { worn = tt; same = start.1; none = start.2 }
refused x b notes y (fault.Stranger name) start = record { worn = start.3; same = start.1; none = start.2 }
refused x b notes y fault.NoMemory start = record { worn = tt; same = start.1; none = start.2 }
refused x b notes y (fault.Worn table) start = record { worn = start.0.worn; same = start.1; none = start.3 }

-- what the opening left of the region
opening_left : (names : List (List ℕ)) (old new : Meaning) (o : OpenFault) (f : StartFault) → f ≡ told_of o → IsOpeningRefusal names old new o → RegionRefused f old new
opening_left names old new found.RegionFault f e is = subst (λ (g : StartFault). RegionRefused g old new) (sym e) is.0
opening_left names old new found.DiskFault f e is = subst (λ (g : StartFault). RegionRefused g old new) (sym e) is
opening_left names old new found.DiskDamaged f e is = subst (λ (g : StartFault). RegionRefused g old new) (sym e) is.0
opening_left names old new (found.Stranger name) f e is = subst (λ (g : StartFault). RegionRefused g old new) (sym e) is.0
opening_left names old new found.NoMemory f e is = subst (λ (g : StartFault). RegionRefused g old new) (sym e) is

-- for a worn seat nothing was touched
region_refused : {B : Type 0} (meaning : B → Meaning) (x : Seated) (b : B) (notes : List Note) (y : Seated × B) (f : StartFault) → IsStart x b notes (Err (y, f))
    → IsStartRefused x.names (meaning b) (meaning y.1) f → RegionRefused f (meaning b) (meaning y.1)
region_refused meaning x b notes y fault.RegionFault start why = opening_left x.names (meaning b) (meaning y.1) why.0 fault.RegionFault why.1 why.2
region_refused meaning x b notes y fault.DiskFault start why = opening_left x.names (meaning b) (meaning y.1) why.0 fault.DiskFault why.1 why.2
region_refused meaning x b notes y fault.DiskDamaged start why = opening_left x.names (meaning b) (meaning y.1) why.0 fault.DiskDamaged why.1 why.2
region_refused meaning x b notes y (fault.Stranger name) start why = opening_left x.names (meaning b) (meaning y.1) why.0 (fault.Stranger name) why.1 why.2
region_refused meaning x b notes y fault.NoMemory start why = opening_left x.names (meaning b) (meaning y.1) why.0 fault.NoMemory why.1 why.2
region_refused {B} meaning x b notes y (fault.Worn table) start why = ap (λ (c : B). (meaning c).held.region) start.2

-- a start that does not read the disk came from memory
pub from_memory : (way : Way) → reads_disk Start (ending.Started way) ≡ false → way ≡ Memory
from_memory Memory none = refl
from_memory (Disk w) none = absurd cc

-- one that is refused does
refusal_reads : (f : StartFault) → reads_disk Start (ending_of f) ≡ false → ⊥
refusal_reads fault.RegionFault none = absurd cc
refusal_reads fault.DiskFault none = absurd cc
refusal_reads fault.DiskDamaged none = absurd cc
refusal_reads (fault.Stranger name) none = absurd cc
refusal_reads fault.NoMemory none = absurd cc
refusal_reads (fault.Worn table) none = absurd cc

-- ---- a start

pub start_carries : (x : Seated) (y : Serving) (notes : List Note) (m m' : Meaning) → Makes m.clock m'.clock x notes y.seated
    → ((others : NamedStates) (least : List ℕ → List Write) (next : Option LogRecord) → IsTrue m.tells → AreFounded x → Rests (watched_by x) others least next m
    → ((writes : List ℕ → List Write) × Runs (watched_by y.seated) y.owing.owner y.owing.log writes m') × SeatsTold others x y.seated m m')
    → Carries (IsDown x) (IsUp y) notes m m'
start_carries x y notes m m' made crash = record {
  made = made;
  stands = λ base tells founded sound stands.
      let on = crash base stands.0 stands.1 tells founded stands.2 in
      record { stands = on.0; told = on.1 };
}

pub refusal_carries : {B : Type 0} (meaning : B → Meaning) (x y : Seated × B) (f : StartFault) (notes : List Note) → Makes (meaning x.1).clock (meaning y.1).clock x.0 notes y.0
    → ((others : NamedStates) (least : List ℕ → List Write) (next : Option LogRecord) → IsTrue (meaning x.1).tells → AreFounded x.0 → Rests (watched_by x.0) others least next (meaning x.1)
    → StartGoesOn meaning x.0 (meaning x.1) others least next (Err (y, f)))
    → Carries (IsDown x.0) (IsDown y.0) notes (meaning x.1) (meaning y.1)
refusal_carries meaning x y f notes made crash = record {
  made = made;
  stands = λ base tells founded sound stands.
      let on = crash base stands.0 stands.1 tells founded stands.2 in
      record { stands = (stands.0, stands.1, on.0); told = on.1 };
}

pub start_refused : {B : Type 0} (meaning : B → Meaning) (x y : Seated × B) (f : StartFault) (notes : List Note) (ends : ending.the_data)
    → IsStart x.0 x.1 notes (Err (y, f))
    → (IsTrue (meaning x.1).tells → IsStartRefused x.0.names (meaning x.1) (meaning y.1) f)
    → (IsTrue (meaning x.1).tells → IsExactRefusal x.0.names (meaning x.1).held f)
    → (IsTrue (meaning x.1).tells → BeginsScan (length (meaning x.1).held.disk) (meaning x.1).held.disk (meaning y.1).held.disk)
    → ((others : NamedStates) (least : List ℕ → List Write) (next : Option LogRecord) → IsTrue (meaning x.1).tells → AreFounded x.0 → Rests (watched_by x.0) others least next (meaning x.1)
    → StartGoesOn meaning x.0 (meaning x.1) others least next (Err (y, f)))
    → ends ≡ ending_of f
    → StartMoves (meaning x.1) (meaning y.1) (IsDown x.0) notes ends (IsDown y.0)
start_refused meaning x y f notes ends start why exact disk crash told =
    let was : Refused x.0 notes y.0 f = refused x.0 x.1 notes y f start in
    StartMoves.refused x.0 f refl was.worn (λ base tells founded stands. (crash base stands.0 stands.1 tells founded stands.2).2)
    (λ tells. record { why = why tells; exact = exact tells; region = region_refused meaning x.0 x.1 notes y f start (why tells); disk = disk tells })
    was.none told (ap IsDown was.same)

pub refusal_read : {A : Type 0} (f : StartFault) (ends : ending.the_data) → ends ≡ ending_of f → reads_disk Start ends ≡ false → A
refusal_read f ends told none = absurd (refusal_reads f (subst (λ (e : ending.the_data). reads_disk Start e ≡ false) told none))

-- ---- a kill

pub kill_carries : (leaf : Leaf) (y : Seated) (notes : List Note) {B : Type 0} (meaning : B → Meaning) (b b' : B) → b' ≡ b → Makes (meaning b).clock (meaning b).clock (seated_of leaf) notes y
    → ((base : NamedStates) → AreFounded (seated_of leaf) → LeafStands base leaf (meaning b) → RestsOn (seated_of leaf) y (meaning b) (meaning b'))
    → Carries leaf (IsDown y) notes (meaning b) (meaning b')
kill_carries leaf y notes {B} meaning b b' same made crash =
    rests_carried leaf y notes (meaning b) (meaning b') (subst (λ (c : B). Makes (meaning b).clock (meaning c).clock (seated_of leaf) notes y) (sym same) made) crash

-- ---- a drain of a leaf that is down

pub drain_not_up : (x : Seated) (m : Meaning) (stop : Option ℕ) (notes : List Note) → notes ≡ [] → Drains m m (IsDown x) stop notes ending.NotUp (IsDown x)
drain_not_up x m stop notes none = record {
  moves = (tt, none, refl, refl);
  carries = carries_still (IsDown x) m notes none;
  reads = refl;
}

-- ---- a deed, by what it is

pub does_as : (d deed : Deed) (m m' : Meaning) (leaf : Leaf) (notes : List Note) (ends : Ending) (leaf' : Leaf) → deed ≡ d
    → Moves d m m' leaf notes ends leaf' → Carries leaf leaf' notes m m' → FaultRose ends m m' → (reads_disk d ends ≡ false → m'.disk_reads ≡ m.disk_reads) → DeedDoes deed m m' leaf notes ends leaf'
does_as d deed m m' leaf notes ends leaf' is moves carries cause reads =
    subst (λ (e : Deed). DeedDoes e m m' leaf notes ends leaf') (sym is) (record { moves = moves; carries = carries; cause = cause; reads = reads })
