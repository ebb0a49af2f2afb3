-- Events that change what the leaf is doing or its region alone.
use Rattle.std.proofs.Common.{◌≡◌, ℕ, Bool, true, false, List, refl, ap, Option}
use Rattle.std.specs.Prelude.{◌||◌, if◌then◌else◌}
use Rattle.crash_events.specs.Machine.{Tracked, Hand, Mode, Down, Finding, Scanning, Adopting, Opening, Up, Preparing, Copying, RegionIs, Closed, Whole, Either}
use Rattle.crash_events.specs.Events.{MayKill, MayStop}
use Rattle.crash_events.specs.Kept.{in_hand, holds_image, stays, may_be_live, is_closed, KeptTable, KeptLeaf, KeptIn}
use Rattle.crash_events.proofs.Places.{Places-weaken, no, closed_is_not_other, whole_is_not_other, either_is_not_other}

-- the facts of a table that no mode takes away
abbrev Goes : Mode → RegionIs → Mode → RegionIs → Type 0
Goes mode region mode' region' = (n : ℕ) (x : Tracked) → KeptTable mode region n x → KeptTable mode' region' n x

all_go : (mode mode' : Mode) (region region' : RegionIs) (hand : Option Hand) (ts : List Tracked) → Goes mode region mode' region' → KeptLeaf mode' region' hand → KeptIn mode region hand ts → KeptIn mode' region' hand ts
all_go mode mode' region region' hand ts f leaf k =
    (leaf, Places-weaken (λ t x. KeptTable mode region (in_hand hand t) x) (λ t x. KeptTable mode' region' (in_hand hand t) x) (λ t x. f (in_hand hand t) x) 0 ts k.1)

pub prepares : (hand : Option Hand) (ts : List Tracked) → KeptIn Up Closed hand ts → KeptIn Preparing Closed hand ts
prepares hand ts k = all_go Up Preparing Closed Closed hand ts
    (λ n x h. record {
      flushed = h.flushed;
      sure = h.sure;
      taken = h.taken;
      tight = λ own e. h.tight own (h.up own refl);
      frozen = no;
      live = λ own e. refl;
      up = λ own e. no e;
      handed = h.handed;
      stranger = h.stranger;
      unknown = λ own e. h.unknown own refl;
    })
    (record { frozen = no; shut = λ e. refl; other = closed_is_not_other; no_hand = no }) k

pub opens_flag : (hand : Option Hand) (ts : List Tracked) → KeptIn Copying Closed hand ts → KeptIn Copying Either hand ts
opens_flag hand ts k = all_go Copying Copying Closed Either hand ts
    (λ n x h. record {
      flushed = h.flushed;
      sure = h.sure;
      taken = h.taken;
      tight = h.tight;
      frozen = λ e. h.frozen refl;
      live = h.live;
      up = h.up;
      handed = h.handed;
      stranger = h.stranger;
      unknown = h.unknown;
    })
    (record { frozen = λ e. k.0.frozen refl; shut = no; other = either_is_not_other; no_hand = no }) k

pub flag_opens : (hand : Option Hand) (ts : List Tracked) → KeptIn Copying Either hand ts → KeptIn Copying Whole hand ts
flag_opens hand ts k = all_go Copying Copying Either Whole hand ts
    (λ n x h. record {
      flushed = h.flushed;
      sure = h.sure;
      taken = h.taken;
      tight = h.tight;
      frozen = λ e. h.frozen refl;
      live = h.live;
      up = h.up;
      handed = h.handed;
      stranger = h.stranger;
      unknown = h.unknown;
    })
    (record { frozen = λ e. k.0.frozen refl; shut = no; other = whole_is_not_other; no_hand = no }) k

pub closes_flag : (found : Bool) (hand : Option Hand) (ts : List Tracked) → KeptIn (Finding found) Whole hand ts → KeptIn (Finding found) Either hand ts
closes_flag found hand ts k = all_go (Finding found) (Finding found) Whole Either hand ts
    (λ n x h. record {
      flushed = h.flushed;
      sure = h.sure;
      taken = h.taken;
      tight = h.tight;
      frozen = λ e. h.frozen refl;
      live = h.live;
      up = h.up;
      handed = h.handed;
      stranger = h.stranger;
      unknown = h.unknown;
    })
    (record { frozen = λ e. k.0.frozen refl; shut = no; other = either_is_not_other; no_hand = no }) k

-- a mode that freezes freezes whatever the region
or_true : (a b : Bool) → b ≡ true → (a || b) ≡ true
or_true true b e = refl
or_true false b e = e

pub or_left : (a b : Bool) → a ≡ true → (a || b) ≡ true
or_left true b e = refl
or_left false b e = no e

pub or_false : (a : Bool) → (a || false) ≡ true → a ≡ true
or_false true e = refl
or_false false e = e

pub flag_closes : (found : Bool) (region : RegionIs) (hand : Option Hand) (ts : List Tracked) → KeptIn (Finding found) region hand ts → KeptIn (Finding found) Closed hand ts
flag_closes found region hand ts k = all_go (Finding found) (Finding found) region Closed hand ts
    (λ n x h. record {
      flushed = h.flushed;
      sure = h.sure;
      taken = h.taken;
      tight = h.tight;
      frozen = λ e. h.frozen (or_true (holds_image region) found e);
      live = h.live;
      up = h.up;
      handed = h.handed;
      stranger = h.stranger;
      unknown = h.unknown;
    })
    (record { frozen = λ e. k.0.frozen (or_true (holds_image region) found e); shut = no; other = closed_is_not_other; no_hand = no }) k

adopts : (hand : Option Hand) (ts : List Tracked) → KeptIn (Finding true) Closed hand ts → KeptIn Adopting Closed hand ts
adopts hand ts k = all_go (Finding true) Adopting Closed Closed hand ts
    (λ n x h. record {
      flushed = h.flushed;
      sure = h.sure;
      taken = h.taken;
      tight = h.tight;
      frozen = λ e. h.frozen refl;
      live = h.live;
      up = h.up;
      handed = h.handed;
      stranger = h.stranger;
      unknown = h.unknown;
    })
    (record { frozen = λ e. k.0.frozen refl; shut = λ e. refl; other = closed_is_not_other; no_hand = λ e. k.0.frozen refl }) k

scans : (hand : Option Hand) (ts : List Tracked) → KeptIn (Finding false) Closed hand ts → KeptIn (Scanning false) Closed hand ts
scans hand ts k = all_go (Finding false) (Scanning false) Closed Closed hand ts
    (λ n x h. record {
      flushed = h.flushed;
      sure = h.sure;
      taken = h.taken;
      tight = h.tight;
      frozen = no;
      live = h.live;
      up = h.up;
      handed = h.handed;
      stranger = h.stranger;
      unknown = h.unknown;
    })
    (record { frozen = no; shut = λ e. refl; other = closed_is_not_other; no_hand = no }) k

pub goes_its_way : (found : Bool) (hand : Option Hand) (ts : List Tracked) → KeptIn (Finding found) Closed hand ts → KeptIn (if found then Adopting else Scanning false) Closed hand ts
goes_its_way true hand ts k = adopts hand ts k
goes_its_way false hand ts k = scans hand ts k

-- down, where that frees no table and opens none
goes_down : (mode : Mode) (region : RegionIs) (hand : Option Hand) (ts : List Tracked) → (may_be_live mode region ≡ true → may_be_live Down region ≡ true)
    → KeptIn mode region hand ts → KeptIn Down region hand ts
goes_down mode region hand ts g k = all_go mode Down region region hand ts
    (λ n x h. record {
      flushed = h.flushed;
      sure = h.sure;
      taken = h.taken;
      tight = λ own e. no e;
      frozen = λ e. h.frozen (or_left (holds_image region) (stays mode) (or_false (holds_image region) e));
      live = λ own e. g (h.live own e);
      up = λ own e. no e;
      handed = h.handed;
      stranger = h.stranger;
      unknown = λ own e. no e;
    })
    (record { frozen = λ e. k.0.frozen (or_left (holds_image region) (stays mode) (or_false (holds_image region) e)); shut = no; other = λ e. refl; no_hand = no }) k

-- a region that is closed
pub closed_region : (region : RegionIs) → region ≡ Closed → is_closed region ≡ true
closed_region region e = ap is_closed e

pub is_killed : (mode : Mode) (region : RegionIs) (hand : Option Hand) (ts : List Tracked) → MayKill mode → KeptIn mode region hand ts → KeptIn Down region hand ts
is_killed Up region hand ts may k = goes_down Up region hand ts (λ e. closed_region region (k.0.shut refl)) k
is_killed Preparing region hand ts may k = goes_down Preparing region hand ts (λ e. closed_region region (k.0.shut refl)) k
is_killed Copying region hand ts may k = goes_down Copying region hand ts no k
is_killed Down region hand ts may k = absurd may
is_killed (Finding found) region hand ts may k = absurd may
is_killed (Scanning made) region hand ts may k = absurd may
is_killed Adopting region hand ts may k = absurd may
is_killed Opening region hand ts may k = absurd may

pub is_stopped : (mode : Mode) (region : RegionIs) (hand : Option Hand) (ts : List Tracked) → MayStop mode → KeptIn mode region hand ts → KeptIn Down region hand ts
is_stopped (Finding found) region hand ts may k = goes_down (Finding found) region hand ts no k
is_stopped (Scanning made) region hand ts may k = goes_down (Scanning made) region hand ts no k
is_stopped Adopting region hand ts may k = goes_down Adopting region hand ts no k
is_stopped Up region hand ts may k = absurd may
is_stopped Preparing region hand ts may k = absurd may
is_stopped Copying region hand ts may k = absurd may
is_stopped Down region hand ts may k = absurd may
is_stopped Opening region hand ts may k = absurd may
