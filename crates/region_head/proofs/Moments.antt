-- What a crash may leave, and what may stand, at each moment while a region is read, its flag is closed and it is cut.
use Rattle.std.proofs.Common.{◌≡◌, ◌⊎◌, inl, inr, ℕ, List, [], ◌∷◌, length, take, Ok, Err, refl, sym, ap, subst, ◌∙◌, arith, length-take}
use Rattle.std.specs.Prelude.{Result, OnOk, OnErr}
use Rattle.berth_face.specs.Berth.{Pair, Meaning, IsClosed, Passes, Stays, Cut, Torn, RegionWritten, RegionCut}
use Rattle.berth_face.specs.Moments.{EachNow, KeepsRegion, Meanwhile, StandsHeld, Throughout}
use Rattle.berth_face.proofs.Moments.{started, goes_on, now_of, throughout_map, throughout_join, through_stay, meanwhile_call, meanwhile_here, meanwhile_join, meanwhile_stay}
use Rattle.region_head.specs.declared.head.Head.TheVariants.{Version}
use Rattle.region_head.specs.Head.{head_of, version_of}
use Rattle.region_head.proofs.Heads.{open_head}
use Rattle.region_head.specs.Closing.{AdoptsFrom, ClosedFrom, IsBroken, IsNoLonger, IsOpenRegion, closed_flag}
use Rattle.region_head.proofs.Closing.{closed_breaks, cut_closed, flag_closed, torn_breaks, torn_cut, untouched}

left_by : (old now region : List ℕ) → IsBroken old now → (region ≡ now) ⊎ IsClosed region → IsClosed region ⊎ IsBroken old region
left_by old now region broken keeps = elim keeps [
  | inl same ↦ inr (subst (IsBroken old) (sym same) broken)
  | inr shut ↦ inl shut
]

-- a pair comes from itself
pub from_itself : (a : Meaning) → KeepsRegion a → EachNow (AdoptsFrom a) a
from_itself a keeps = λ p left. record { from = p; was = left; disk = refl; region = left_by a.held.region a.held.region p.region (untouched a.held.region) (keeps p left) }

-- a call that changes nothing
pub adopts_stay : (a b : Meaning) → KeepsRegion a → Passes a b → Stays a b → Throughout (AdoptsFrom a) a b
adopts_stay a b keeps time stays = through_stay a a b (AdoptsFrom a) (started a (AdoptsFrom a) (from_itself a keeps)) time stays

-- such a call before
pub adopts_after : (a b c : Meaning) → KeepsRegion a → Passes a b → Stays a b → Throughout (AdoptsFrom b) b c → Throughout (AdoptsFrom a) a c
adopts_after a b c keeps time stays all =
    throughout_join a b c (AdoptsFrom a) (adopts_stay a b keeps time stays)
    (throughout_map b c (AdoptsFrom b) (AdoptsFrom a) (λ p came. record {
      from = came.from;
      was = (stays.leaves b.clock came.from time.later (omega arith)).0 came.was;
      disk = came.disk;
      region = subst (λ (h : Pair). IsClosed p.region ⊎ IsBroken h.region p.region) stays.held came.region;
    }) all)

-- what reads give behind the write that closes an open flag
broken_by : {T E : Type 0} (result : Result T E) (old new : List ℕ) (version : ℕ) → head_of old ≡ Version version → OnOk result (new ≡ closed_flag old) → OnErr result (Torn 0 1 old new) → IsBroken old new
broken_by (Ok x) old new version opened ok err = closed_breaks old new version opened (subst IsClosed (sym ok) (flag_closed _))
broken_by (Err e) old new version opened ok err = torn_breaks old new version opened err

-- the write that closes an open flag
pub flag_closes : {T E : Type 0} (result : Result T E) (a b : Meaning) → IsOpenRegion a.held.region → KeepsRegion a → KeepsRegion b → Passes a b → RegionWritten 0 (0 ∷ []) result a b → Throughout (AdoptsFrom a) a b
flag_closes result a b open_flag before after time wrote =
    goes_on a a b (AdoptsFrom a) (started a (AdoptsFrom a) (from_itself a before)) time
    (λ t p from to left. let came = wrote.inside t p from to left in record { from = came.0; was = came.1; disk = came.2.1; region = inside p.region came.2.0 })
    (λ p left. let came = wrote.ended p left in record {
      from = came.0;
      was = came.1;
      disk = came.2;
      region = left_by a.held.region b.held.region p.region (broken_by result a.held.region b.held.region (version_of a.held.region) head wrote.ok wrote.err) (after p left);
    })
  where
    head : head_of a.held.region ≡ Version (version_of a.held.region)
    head = open_head a.held.region open_flag

    inside : (region : List ℕ) → Torn 0 1 a.held.region region ⊎ IsClosed region → IsClosed region ⊎ IsBroken a.held.region region
    inside region made = elim made [
      | inl torn ↦ inr (torn_breaks a.held.region region (version_of a.held.region) head torn)
      | inr shut ↦ inl shut
    ]

-- ---- once the flag is closed

closed_by : (now region : List ℕ) → IsClosed now → (region ≡ now) ⊎ IsClosed region → IsClosed region
closed_by now region is keeps = elim keeps [
  | inl same ↦ subst IsClosed (sym same) is
  | inr shut ↦ shut
]

pub closed_itself : (a : Meaning) → IsClosed a.held.region → KeepsRegion a → EachNow (ClosedFrom a) a
closed_itself a is keeps = λ p left. record { from = p; was = left; disk = refl; region = closed_by a.held.region p.region is (keeps p left) }

-- no call at all
pub closed_start : (a : Meaning) → IsClosed a.held.region → KeepsRegion a → Throughout (ClosedFrom a) a a
closed_start a is keeps = started a (ClosedFrom a) (closed_itself a is keeps)

-- a call that changes nothing
pub closed_stay : (a b : Meaning) → IsClosed a.held.region → KeepsRegion a → Passes a b → Stays a b → Throughout (ClosedFrom a) a b
closed_stay a b is keeps time stays = through_stay a a b (ClosedFrom a) (closed_start a is keeps) time stays

-- such a call before
pub closed_after : (a b c : Meaning) → IsClosed a.held.region → KeepsRegion a → Passes a b → Stays a b → Throughout (ClosedFrom b) b c → Throughout (ClosedFrom a) a c
closed_after a b c is keeps time stays all =
    throughout_join a b c (ClosedFrom a) (closed_stay a b is keeps time stays)
    (throughout_map b c (ClosedFrom b) (ClosedFrom a) (λ p came. record {
      from = came.from;
      was = (stays.leaves b.clock came.from time.later (omega arith)).0 came.was;
      disk = came.disk;
      region = came.region;
    }) all)

-- calls one after another
pub closed_on : (a b c : Meaning) → Throughout (ClosedFrom a) a b → Throughout (ClosedFrom b) b c → Throughout (ClosedFrom a) a c
closed_on a b c first all =
    throughout_join a b c (ClosedFrom a) first
    (throughout_map b c (ClosedFrom b) (ClosedFrom a) (λ p came.
    let before = now_of a b (ClosedFrom a) first came.from came.was in
    record { from = before.from; was = before.was; disk = came.disk ∙ before.disk; region = came.region }) all)

cut_by : {T E : Type 0} (result : Result T E) (n : ℕ) (old new : List ℕ) → IsClosed old → OnOk result (new ≡ take n old) → OnErr result (Cut n old new) → IsClosed new
cut_by (Ok x) n old new is ok err = subst IsClosed (sym ok) (cut_closed n old is)
cut_by (Err e) n old new is ok err = torn_cut n old new is err

-- a cut
pub region_cut : {T E : Type 0} (result : Result T E) (n : ℕ) (a b : Meaning) → IsClosed a.held.region → KeepsRegion a → KeepsRegion b → Passes a b → RegionCut n result a b → Throughout (ClosedFrom a) a b
region_cut result n a b is before after time made =
    goes_on a a b (ClosedFrom a) (closed_start a is before) time
    (λ t p from to left. let came = made.inside t p from to left in record { from = came.0; was = came.1; disk = came.2.1; region = inside p.region came.2.0 })
    (λ p left. let came = made.ended p left in record {
      from = came.0;
      was = came.1;
      disk = came.2;
      region = closed_by b.held.region p.region (cut_by result n a.held.region b.held.region is made.ok made.err) (after p left);
    })
  where
    inside : (region : List ℕ) → Cut n a.held.region region ⊎ IsClosed region → IsClosed region
    inside region cut = elim cut [
      | inl torn ↦ torn_cut n a.held.region region is torn
      | inr shut ↦ shut
    ]

-- the flag is closed, and then the region stays closed
pub adopts_closed : (a b c : Meaning) → IsOpenRegion a.held.region → Throughout (AdoptsFrom a) a b → Throughout (ClosedFrom b) b c → Throughout (AdoptsFrom a) a c
adopts_closed a b c open_flag first all =
    throughout_join a b c (AdoptsFrom a) first
    (throughout_map b c (ClosedFrom b) (AdoptsFrom a) (λ p came.
    let before = now_of a b (AdoptsFrom a) first came.from came.was in
    record {
      from = before.from;
      was = before.was;
      disk = came.disk ∙ before.disk;
      region = inr (closed_breaks a.held.region p.region (version_of a.held.region) (open_head a.held.region open_flag) came.region);
    }) all)

-- ---- how long the region is meanwhile

-- no call at all
pub short_start : (a : Meaning) → StandsHeld a → Meanwhile (IsNoLonger a.held.region) a a
short_start a stands = meanwhile_here a (IsNoLonger a.held.region) stands (omega arith)

-- a call that changes nothing
pub short_stay : (a b : Meaning) → StandsHeld a → Passes a b → Stays a b → Meanwhile (IsNoLonger a.held.region) a b
short_stay a b stands time stays = meanwhile_stay a a b (IsNoLonger a.held.region) (short_start a stands) time stays

-- such a call before
pub short_after : (a b c : Meaning) → StandsHeld a → Passes a b → Stays a b → Meanwhile (IsNoLonger b.held.region) b c → Meanwhile (IsNoLonger a.held.region) a c
short_after a b c stands time stays all =
    meanwhile_join a b c (IsNoLonger a.held.region) (short_stay a b stands time stays) (subst (λ (h : Pair). Meanwhile (IsNoLonger h.region) b c) stays.held all)

cut_short : (n : ℕ) (old new : List ℕ) → Cut n old new → IsNoLonger old new
cut_short n old new cut =
    let same : length new ≡ length (take (length new) old) = ap (λ (l : List ℕ). length l) cut.front in
    let size = length-take (length new) old in
    omega (arith, same, size)

short_by : {T E : Type 0} (result : Result T E) (n : ℕ) (old new : List ℕ) → OnOk result (new ≡ take n old) → OnErr result (Cut n old new) → IsNoLonger old new
short_by (Ok x) n old new ok err =
    let same : length new ≡ length (take n old) = ap (λ (l : List ℕ). length l) ok in
    let size = length-take n old in
    omega (arith, same, size)
short_by (Err e) n old new ok err = cut_short n old new err

-- a cut
pub short_cut : {T E : Type 0} (result : Result T E) (n : ℕ) (a b : Meaning) → StandsHeld a → StandsHeld b → Passes a b → RegionCut n result a b → Meanwhile (IsNoLonger a.held.region) a b
short_cut result n a b before after time made =
    meanwhile_call a a b (IsNoLonger a.held.region) (Cut n a.held.region) (short_start a before) time made.meanwhile (λ region cut. cut_short n a.held.region region cut)
    after (short_by result n a.held.region b.held.region made.ok made.err)
