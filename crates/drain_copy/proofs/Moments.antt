-- What a crash may leave, and what may stand, at each moment of the calls of a step.
use Rattle.std.proofs.Common.{◌≡◌, ◌⊎◌, inl, inr, ℕ, ◌+◌, ◌≤◌, max, ◌++◌, List, [], ◌∷◌, length, take, drop, Ok, Err, refl, sym, ap, ◌∙◌, subst, arith}
use Rattle.std.specs.Prelude.{Result, OnOk, OnErr}
use Rattle.std.proofs.lemmas.List.{take_all}
use Rattle.berth_face.specs.Berth.{Pair, Meaning, IsClosed, Passes, Torn, Cut, Inside, Ended, RegionStep, SameDisk, RegionWritten, RegionCut, written}
use Rattle.berth_face.specs.Moments.{EachNow, KeepsRegion, Meanwhile, StandsHeld, Throughout}
use Rattle.berth_face.proofs.Moments.{started, goes_on, now_of, throughout_map, meanwhile_call, meanwhile_here, meanwhile_map}
use Rattle.drain_copy.specs.declared.step.Next.TheVariants as next
use Rattle.drain_copy.specs.Draining.{DrainState, DrainsFrom, IsInRoom, AllClosed, held, longest}
use Rattle.drain_copy.specs.Regions.{LeftFrom, ClosedOrOpened, EndsAt, IsCutOrBegun, IsWithin}
use Rattle.drain_copy.proofs.Closed.{none_closed, cut_closed, byte_closed, behind_torn, behind_written, flag_torn, flag_first, end_torn, end_written, head_torn, head_closed, written_length}

-- before the first call
pub begun : (P : List ℕ → Type 0) (a : Meaning) → EachNow (λ p. P p.region) a → Throughout (LeftFrom P a) a a
begun P a now = started a (LeftFrom P a) (λ p left. record { from = p; was = left; disk = refl; region = now p left })

-- one call on the region more: what it makes while it is unfinished, and the region that is read when it has ended
module _ (P makes : List ℕ → Type 0) (a b c : Meaning) (shut : (region : List ℕ) → IsClosed region → P region) (torn : (region : List ℕ) → makes region → P region) where
  pub called : Throughout (LeftFrom P a) a b → Passes b c → Inside (RegionStep makes) b c → Ended SameDisk b c → KeepsRegion c → P c.held.region → Throughout (LeftFrom P a) a c
  called so_far time inside ended keeps held =
      goes_on a b c (LeftFrom P a) so_far time
      (λ t p from to left. let came = inside t p from to left in more p came.0 came.1 came.2.1 (made p.region came.2.0))
      (λ p left. let came = ended p left in more p came.0 came.1 came.2 (kept p.region (keeps p left)))
    where
      more : (p q : Pair) → b.leaves b.clock q → p.disk ≡ q.disk → P p.region → LeftFrom P a p
      more p q was disk region = let had = now_of a b (LeftFrom P a) so_far q was in record { from = had.from; was = had.was; disk = disk ∙ had.disk; region = region }

      made : (region : List ℕ) → makes region ⊎ IsClosed region → P region
      made region by = elim by [
        | inl cut_short ↦ torn region cut_short
        | inr closed ↦ shut region closed
      ]

      kept : (region : List ℕ) → (region ≡ c.held.region) ⊎ IsClosed region → P region
      kept region by = elim by [
        | inl same ↦ subst P (sym same) held
        | inr closed ↦ shut region closed
      ]

-- what is read when a call has ended
held_by : {T E : Type 0} (P makes : List ℕ → Type 0) (result : Result T E) (now done : List ℕ) → OnOk result (now ≡ done) → OnErr result (makes now) → P done → ((region : List ℕ) → makes region → P region) → P now
held_by P makes (Ok x) now done ok err whole torn = subst P (sym ok) whole
held_by P makes (Err e) now done ok err whole torn = torn now err

-- a write
pub writes : {T E : Type 0} (P : List ℕ → Type 0) (at : ℕ) (bytes : List ℕ) (result : Result T E) (a b c : Meaning) → ((region : List ℕ) → IsClosed region → P region)
    → ((region : List ℕ) → Torn at (length bytes) b.held.region region → P region)
    → P (written at bytes b.held.region) → Throughout (LeftFrom P a) a b → KeepsRegion c → Passes b c → RegionWritten at bytes result b c → Throughout (LeftFrom P a) a c
writes P at bytes result a b c shut torn whole so_far keeps time wrote =
    called P (Torn at (length bytes) b.held.region) a b c shut torn so_far time wrote.inside wrote.ended keeps
    (held_by P (Torn at (length bytes) b.held.region) result c.held.region (written at bytes b.held.region) wrote.ok wrote.err whole torn)

-- a write that leaves it closed
shut_write : {T E : Type 0} (at : ℕ) (bytes : List ℕ) (result : Result T E) (a b c : Meaning) → ((region : List ℕ) → Torn at (length bytes) b.held.region region → IsClosed region)
    → IsClosed (written at bytes b.held.region) → Throughout (LeftFrom IsClosed a) a b → KeepsRegion c → Passes b c → RegionWritten at bytes result b c → Throughout (LeftFrom IsClosed a) a c
shut_write at bytes result a b c torn whole so_far keeps time wrote = writes IsClosed at bytes result a b c (λ region closed. closed) torn whole so_far keeps time wrote

-- ---- the calls of the first step

-- a closed region is emptied
pub emptied : {T E : Type 0} (result : Result T E) (a b : Meaning) → AllClosed a → IsClosed a.held.region → KeepsRegion b → Passes a b → RegionCut 0 result a b → Throughout (LeftFrom IsClosed a) a b
emptied result a b all closed keeps time cut =
    called IsClosed (Cut 0 a.held.region) a a b (λ region shut. shut) (λ region. cut_closed 0 a.held.region region closed) (begun IsClosed a all) time cut.inside cut.ended keeps
    (held_by IsClosed (Cut 0 a.held.region) result b.held.region [] cut.ok cut.err none_closed (λ region. cut_closed 0 a.held.region region closed))

-- a closed flag is written into an empty region
pub flag_shut : {T E : Type 0} (result : Result T E) (a b c : Meaning) → b.held.region ≡ [] → Throughout (LeftFrom IsClosed a) a b → KeepsRegion c → Passes b c → RegionWritten 0 (0 ∷ []) result b c
    → Throughout (LeftFrom IsClosed a) a c
flag_shut result a b c empty so_far keeps time wrote =
    shut_write 0 (0 ∷ []) result a b c (λ region torn. byte_closed region (subst (λ (l : List ℕ). Torn 0 1 l region) empty torn))
    (subst (λ (l : List ℕ). IsClosed (written 0 (0 ∷ []) l)) (sym empty) (inl (omega arith))) so_far keeps time wrote

-- ---- of the first two: bytes are written behind a closed flag

pub behind_flag : {T E : Type 0} {bytes : List ℕ} (result : Result T E) (rest : List ℕ) (a b c : Meaning) → b.held.region ≡ 0 ∷ rest → Throughout (LeftFrom IsClosed a) a b → KeepsRegion c → Passes b c
    → RegionWritten 1 bytes result b c → Throughout (LeftFrom IsClosed a) a c
behind_flag {bytes} result rest a b c head so_far keeps time wrote =
    shut_write 1 bytes result a b c (λ region torn. behind_torn (length bytes) rest region (subst (λ (l : List ℕ). Torn 1 (length bytes) l region) head torn))
    (subst (λ (l : List ℕ). IsClosed (written 1 bytes l)) (sym head) (behind_written bytes rest)) so_far keeps time wrote

-- ---- bytes at the region's end

pub appended : {T E : Type 0} {bytes : List ℕ} (result : Result T E) (at : ℕ) (a b : Meaning) → 1 ≤ at → EndsAt at a.held.region → written at bytes a.held.region ≡ a.held.region ++ bytes → AllClosed a
    → KeepsRegion b → Passes a b → RegionWritten at bytes result a b → Throughout (LeftFrom IsClosed a) a b
appended {bytes} result at a b some ends whole all keeps time wrote =
    shut_write at bytes result a a b (λ region torn. end_torn at (length bytes) a.held.region region some ends torn)
    (subst IsClosed (sym whole) (end_written at bytes a.held.region some ends)) (begun IsClosed a all) keeps time wrote

-- behind them, the head but for its flag
pub head_written : {T E : Type 0} {head : List ℕ} (result : Result T E) (n : ℕ) (a b c : Meaning) → length head ≡ 15 → EndsAt n b.held.region → Throughout (LeftFrom IsClosed a) a b
    → KeepsRegion c → Passes b c → RegionWritten 1 head result b c → Throughout (LeftFrom IsClosed a) a c
head_written {head} result n a b c all ends so_far keeps time wrote =
    shut_write 1 head result a b c (λ region torn. head_torn n (length head) b.held.region region ends torn) (head_closed n head b.held.region all ends) so_far keeps time wrote

-- ---- of the last

pub flag_opened : {T E : Type 0} (result : Result T E) (a b : Meaning) → AllClosed a → KeepsRegion b → Passes a b → RegionWritten 0 (1 ∷ []) result a b
    → Throughout (LeftFrom (ClosedOrOpened (drop 1 a.held.region)) a) a b
flag_opened result a b all keeps time wrote =
    let P = ClosedOrOpened (drop 1 a.held.region) in
    writes P 0 (1 ∷ []) result a a b (λ region shut. inl shut) (λ region. flag_torn a.held.region region) (inr refl) (begun P a (λ p left. inl (all p left))) keeps time wrote

-- ---- the regions that may stand meanwhile

-- one write more
writes_on : {T E : Type 0} (P : List ℕ → Type 0) (at : ℕ) (bytes : List ℕ) (result : Result T E) (a b c : Meaning) → ((region : List ℕ) → Torn at (length bytes) b.held.region region → P region)
    → P (written at bytes b.held.region) → Meanwhile P a b → StandsHeld c → Passes b c → RegionWritten at bytes result b c → Meanwhile P a c
writes_on P at bytes result a b c torn whole so_far stands time wrote =
    let held = held_by P (Torn at (length bytes) b.held.region) result c.held.region (written at bytes b.held.region) wrote.ok wrote.err whole torn in
    meanwhile_call a b c P (Torn at (length bytes) b.held.region) so_far time wrote.meanwhile torn stands held

-- in the first step the region is emptied
pub cut_empties : {T E : Type 0} (result : Result T E) (a b : Meaning) → StandsHeld a → StandsHeld b → Passes a b → RegionCut 0 result a b → Meanwhile (IsCutOrBegun a.held.region) a b
cut_empties result a b stands_a stands time cut =
    let P = IsCutOrBegun a.held.region in
    let held = held_by P (Cut 0 a.held.region) result b.held.region [] cut.ok cut.err (inr (omega arith)) (λ region torn. inl torn.front) in
    meanwhile_call a a b P (Cut 0 a.held.region) (meanwhile_here a P stands_a (inl (sym (take_all (length a.held.region) a.held.region (omega arith))))) time cut.meanwhile (λ region torn. inl torn.front) stands held

-- and begun
pub begun_write : {T E : Type 0} (was : List ℕ) (at : ℕ) (bytes : List ℕ) (result : Result T E) (a b c : Meaning) → length b.held.region ≤ 16 → at + length bytes ≤ 16
    → Meanwhile (IsCutOrBegun was) a b → StandsHeld c → Passes b c → RegionWritten at bytes result b c → Meanwhile (IsCutOrBegun was) a c
begun_write was at bytes result a b c old new so_far stands time wrote =
    writes_on (IsCutOrBegun was) at bytes result a b c (λ region torn. inr (torn_short region torn.no_longer)) (inr (omega (arith, old, new, written_length at bytes b.held.region))) so_far stands time wrote
  where
    torn_short : (region : List ℕ) → length region ≤ max (length b.held.region) (at + length bytes) → length region ≤ 16
    torn_short region no_longer = omega (arith, no_longer, old, new)

-- a write within so many bytes
pub within_write : {T E : Type 0} (n at : ℕ) (bytes : List ℕ) (result : Result T E) (a b c : Meaning) → length b.held.region ≤ n → at + length bytes ≤ n
    → Meanwhile (IsWithin n) a b → StandsHeld c → Passes b c → RegionWritten at bytes result b c → Meanwhile (IsWithin n) a c
within_write n at bytes result a b c old new so_far stands time wrote =
    writes_on (IsWithin n) at bytes result a b c (λ region torn. torn_within region torn.no_longer) (omega (arith, old, new, written_length at bytes b.held.region)) so_far stands time wrote
  where
    torn_within : (region : List ℕ) → length region ≤ max (length b.held.region) (at + length bytes) → IsWithin n region
    torn_within region no_longer = omega (arith, no_longer, old, new)

-- ---- a step

pub drains_closed : (d : DrainState) (a b : Meaning) → Throughout (LeftFrom IsClosed a) a b → Throughout (DrainsFrom d a) a b
drains_closed d a b all = throughout_map a b (LeftFrom IsClosed a) (DrainsFrom d a) (λ p came. record { from = came.from; was = came.was; disk = came.disk; region = inl came.region }) all

pub drains_opened : (d : DrainState) (a b : Meaning) → d.next ≡ next.Flag → take 1 d.image ≡ 1 ∷ [] → a.held.region ≡ 0 ∷ drop 1 d.image
    → Throughout (LeftFrom (ClosedOrOpened (drop 1 a.held.region)) a) a b → Throughout (DrainsFrom d a) a b
drains_opened d a b last flag stands all =
    throughout_map a b (LeftFrom (ClosedOrOpened (drop 1 a.held.region)) a) (DrainsFrom d a)
    (λ p came. record { from = came.from; was = came.was; disk = came.disk; region = whole p.region came.region }) all
  where
    whole : (region : List ℕ) → ClosedOrOpened (drop 1 a.held.region) region → IsClosed region ⊎ ((d.next ≡ next.Flag) × (region ≡ d.image))
    whole region by = elim by [
      | inl closed ↦ inl closed
      | inr opened ↦ inr (last, opened ∙ ap (λ (l : List ℕ). 1 ∷ drop 1 l) stands ∙ flag_first d.image flag)
    ]

pub in_room : (n : ℕ) (d : DrainState) (a b : Meaning) → n + held d ≤ length d.image + longest d.heap → Meanwhile (IsWithin n) a b → Meanwhile (IsInRoom d) a b
in_room n d a b fits all = meanwhile_map a b (IsWithin n) (IsInRoom d) within all
  where
    within : (region : List ℕ) → IsWithin n region → IsInRoom d region
    within region few = omega (arith, few, fits)
