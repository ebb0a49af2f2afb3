-- What the first write of a scan does to each pair.
use Rattle.std.proofs.Common.{◌≡◌, inl, inr, ℕ, ◌≤◌, ◌<◌, List, [], ◌∷◌, length, take, min, refl, sym, ap, subst, arith}
use Rattle.std.specs.Prelude.{Result}
use Rattle.berth_face.specs.Berth.{Pair, Meaning, Passes, Stays, Torn, DiskWritten, written}
use Rattle.berth_face.specs.Moments.{EachNow, Throughout}
use Rattle.berth_face.proofs.Moments.{started, goes_on, throughout_join, throughout_map, through_stay}
use Rattle.disk_backup.specs.Scanning.{StepsFrom, BeginsScan, scanned_disk}

-- a pair comes from itself
pub from_itself : (n : ℕ) (a : Meaning) → EachNow (StepsFrom (BeginsScan n) a) a
from_itself n a = λ p left. record { from = p; was = left; region = inl refl; disk = inl refl }

no_bytes : (n : ℕ) → min 0 n ≡ 0
no_bytes n = omega arith

untorn : (disk : List ℕ) → Torn 0 1 disk disk
untorn disk = record { before = ap (λ (k : ℕ). take k disk) (no_bytes (length disk)); after = refl; no_shorter = omega arith; no_longer = omega arith }

pub gate_written : {T E : Type 0} (result : Result T E) (a b : Meaning) → Passes a b → DiskWritten 0 (0 ∷ []) result a b → Throughout (StepsFrom (Torn 0 1) a) a b
gate_written result a b time wrote =
    goes_on a a b (StepsFrom (Torn 0 1) a) (started a (StepsFrom (Torn 0 1) a) (λ p left. record { from = p; was = left; region = inl refl; disk = untorn p.disk })) time
    (λ t p from to left. let came = wrote.inside t p from to left in record { from = came.0; was = came.1; region = inl came.2.0; disk = came.2.1 })
    (λ p left. let came = wrote.ended p left in record { from = came.0; was = came.1; region = inl came.2.0; disk = came.2.1 })

-- the first write, where nothing was called before
pub gate_first : (a b : Meaning) → Throughout (StepsFrom (Torn 0 1) a) a b → Throughout (StepsFrom (BeginsScan 0) a) a b
gate_first a b all = throughout_map a b (StepsFrom (Torn 0 1) a) (StepsFrom (BeginsScan 0) a) (λ p came. record {
  from = came.from;
  was = came.was;
  region = came.region;
  disk = inr (record { short = omega arith; synced = λ e. absurd (omega (arith, e)); torn = came.disk });
}) all

-- a call before that changed nothing
pub begins_after : (n : ℕ) (a b c : Meaning) → Passes a b → Stays a b → Throughout (StepsFrom (BeginsScan n) b) b c → Throughout (StepsFrom (BeginsScan n) a) a c
begins_after n a b c time stays all =
    throughout_join a b c (StepsFrom (BeginsScan n) a) (through_stay a a b (StepsFrom (BeginsScan n) a) (started a (StepsFrom (BeginsScan n) a) (from_itself n a)) time stays)
    (throughout_map b c (StepsFrom (BeginsScan n) b) (StepsFrom (BeginsScan n) a) (λ p came. record {
      from = came.from;
      was = (stays.leaves b.clock came.from time.later (omega arith)).0 came.was;
      region = came.region;
      disk = came.disk;
    }) all)

pub begun_short : (disk : List ℕ) → length disk ≤ 1 → scanned_disk disk ≡ 0 ∷ []
begun_short [] short = refl
begun_short (b ∷ []) short = refl
begun_short (b ∷ c ∷ rest) short = absurd (omega (arith, short))

pub begun_long : (disk : List ℕ) → 1 < length disk → scanned_disk disk ≡ disk
begun_long [] long = absurd (omega (arith, long))
begun_long (b ∷ []) long = absurd (omega (arith, long))
begun_long (b ∷ c ∷ rest) long = refl

-- ---- what the disk reads as

-- a first byte that is written whole is one of those that a cut write leaves
pub gate_torn : (old new : List ℕ) → new ≡ written 0 (0 ∷ []) old → Torn 0 1 old new
gate_torn old new is = subst (λ (disk : List ℕ). Torn 0 1 old disk) (sym is) (whole old)
  where
    whole : (disk : List ℕ) → Torn 0 1 disk (written 0 (0 ∷ []) disk)
    whole [] = record { before = refl; after = refl; no_shorter = omega arith; no_longer = omega arith }
    whole (b ∷ rest) = record { before = ap (λ (k : ℕ). take k (0 ∷ rest)) (no_bytes (length (b ∷ rest))); after = refl; no_shorter = omega arith; no_longer = omega arith }

-- a disk that reads as so many bytes, whose first one was written
pub gate_begins : (n : ℕ) (old new : List ℕ) → n ≤ 1 → n ≡ length old → Torn 0 1 old new → BeginsScan n old new
gate_begins n old new few size torn = inr (record { short = few; synced = λ e. omega (arith, few, size); torn = torn })

-- a read before it
pub begins_of : (n : ℕ) (p q : Pair) (now : List ℕ) → q ≡ p → n ≡ length p.disk → BeginsScan n q.disk now → BeginsScan (length p.disk) p.disk now
begins_of n p q now same size held =
    subst (λ (m : ℕ). BeginsScan m p.disk now) size (subst (λ (r : Pair). BeginsScan n r.disk now) same held)
