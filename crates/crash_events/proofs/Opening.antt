-- A table is opened.
use Rattle.std.proofs.Common.{◌≡◌, ℕ, ◌+◌, ◌-◌, Bool, true, false, List, [], ◌∷◌, map, refl, sym, ap, subst, ◌∙◌, arith, Option, Some, None, slice_get, slice_set}
use Rattle.std.specs.Prelude.{◌&&◌, ◌||◌, not, if◌then◌else◌}
use Rattle.std.proofs.lemmas.List.{length-take}
use Rattle.leaf_history.specs.History.{changed}
use Rattle.crash_events.specs.Machine.{Machine, Tracked, Hand, Mode, Down, Finding, Scanning, Adopting, Opening, Up, Preparing, Copying, RegionIs, Closed}
use Rattle.crash_events.specs.Events.{all_own_live, emptied, forgotten, open_call, NoneElsewhere, MayOpenFrom}
use Rattle.crash_events.specs.Kept.{AllPlaces, KeptTable, KeptLeaf, KeptIn, Kept}
use Rattle.crash_moments.proofs.Bases.{both}
use Rattle.crash_events.proofs.Places.{Places-get, Places-set, no, closed_is_not_other, with_all, Places-map}

opened_one : (n : ℕ) (mode : Mode) (x : Tracked) → x.own ≡ true → KeptTable mode Closed n x
    → KeptTable Opening Closed 0 (record x { state = changed true x.state (open_call x) })
opened_one n mode x own h = record {
  flushed = omega arith;
  sure = omega arith;
  taken = rw (length-take (x.sure - x.state.handed_in) x.state.writes) (omega (arith, h.sure, h.taken));
  tight = λ o e. omega arith;
  frozen = λ e. no e;
  live = λ o e. refl;
  up = λ o e. no e;
  handed = λ e. no e;
  stranger = λ e. both x.own e own;
  unknown = λ e. both x.own e own;
}

open_tight : (mode : Mode) (x : Tracked) → MayOpenFrom mode → KeptTable mode Closed 0 x → x.own ≡ true → x.state.live ≡ true → x.sure + 0 ≡ x.state.taken
open_tight Opening x may h own live = h.tight own live
open_tight Adopting x may h own live = no (h.live own live)
open_tight (Scanning made) x may h own live = no (h.live own live)
open_tight Up x may h own live = absurd may
open_tight Preparing x may h own live = absurd may
open_tight Copying x may h own live = absurd may
open_tight Down x may h own live = absurd may
open_tight (Finding found) x may h own live = absurd may

beside_opened : (mode : Mode) (x : Tracked) → MayOpenFrom mode → (x.own ≡ false → x.sure ≡ 0) → KeptTable mode Closed 0 x → (b : Bool) → x.own ≡ b
    → KeptTable Opening Closed 0 (if b then x else emptied x)
beside_opened mode x may z h true own = record {
  flushed = h.flushed;
  sure = h.sure;
  taken = h.taken;
  tight = open_tight mode x may h;
  frozen = λ e. no e;
  live = λ o e. refl;
  up = λ o e. no e;
  handed = h.handed;
  stranger = h.stranger;
  unknown = λ e. both x.own e own;
}
beside_opened mode x may z h false own = record {
  flushed = h.flushed;
  sure = omega (arith, z own);
  taken = omega arith;
  tight = λ e. both x.own own e;
  frozen = λ e. no e;
  live = λ o e. refl;
  up = λ o e. no e;
  handed = λ e. both x.state.handed (h.stranger own).1 e;
  stranger = h.stranger;
  unknown = λ o e. (refl, omega (arith, h.flushed, z own), z own, refl);
}

if_true : (b : Bool) (p q : Tracked) → b ≡ true → (if b then p else q) ≡ p
if_true true p q e = refl
if_true false p q e = no e

if_false : (b : Bool) (p q : Tracked) → b ≡ false → (if b then p else q) ≡ q
if_false false p q e = refl
if_false true p q e = both true e refl

forgotten_own : (x : Tracked) → x.own ≡ true → forgotten x ≡ x
forgotten_own x own = if_true x.own x _ own

opening : (mode : Mode) (ts : List Tracked) (t : ℕ) (x : Tracked) → MayOpenFrom mode → slice_get ts t ≡ Some x → x.own ≡ true
    → NoneElsewhere ts
    → AllPlaces (λ i z. KeptTable mode Closed 0 z) 0 ts
    → AllPlaces (λ i z. KeptTable Opening Closed 0 z) 0 (map forgotten (slice_set ts t (record x { state = changed true x.state (open_call x) })))
opening mode ts t x may at own zero_sure k =
    let A : Tracked → Type 0 = λ y. y.own ≡ false → y.sure ≡ 0 in
    let P : ℕ → Tracked → Type 0 = λ i z. KeptTable mode Closed 0 z in
    let Q : ℕ → Tracked → Type 0 = λ i z. KeptTable Opening Closed 0 (forgotten z) in
    let y : Tracked = record x { state = changed true x.state (open_call x) } in
    let opened_y : KeptTable Opening Closed 0 y = opened_one 0 mode x own (Places-get P 0 t ts x at k) in
    Places-map (λ i z. KeptTable Opening Closed 0 z) forgotten 0 (slice_set ts t y)
    (Places-set (λ i z. A z × P i z) Q 0 t ts x y at (λ i z n h. beside_opened mode z may h.0 h.1 z.own refl) (subst (KeptTable Opening Closed 0) (sym (forgotten_own y own)) opened_y) (with_all A P 0 ts zero_sure k))

-- all are open: the leaf is Up
all_up : (b : ℕ) (xs : List Tracked) → all_own_live xs ≡ true → AllPlaces (λ i z. KeptTable Opening Closed 0 z) b (map forgotten xs) → AllPlaces (λ i z. KeptTable Up Closed 0 z) b (map forgotten xs)
all_up b [] e h = tt
all_up b (x ∷ xs) e h =
    let p : KeptTable Opening Closed 0 (forgotten x) = h.0 in (
      record {
        flushed = p.flushed;
        sure = p.sure;
        taken = p.taken;
        tight = p.tight;
        frozen = λ f. no f;
        live = λ o f. refl;
        up = λ o f. is_live x x.own refl (and_left (not x.own || x.state.live) (all_own_live xs) e) o;
        handed = p.handed;
        stranger = p.stranger;
        unknown = p.unknown;
      },
      all_up (b + 1) xs (and_right (not x.own || x.state.live) (all_own_live xs) e) h.1,
    )
  where
    and_left : (a b : Bool) → (a && b) ≡ true → a ≡ true
    and_left true b e = refl
    and_left false b e = no e

    and_right : (a b : Bool) → (a && b) ≡ true → b ≡ true
    and_right true b e = e
    and_right false b e = no e

    or_live : (b l : Bool) → b ≡ true → (not b || l) ≡ true → l ≡ true
    or_live true l t e = e
    or_live false l t e = no t

    is_live : (x : Tracked) (b : Bool) → x.own ≡ b → (not x.own || x.state.live) ≡ true → (forgotten x).own ≡ true → (forgotten x).state.live ≡ true
    is_live x true own e o = subst (λ (z : Tracked). z.state.live ≡ true) (sym (forgotten_own x own)) (or_live x.own x.state.live own e)
    is_live x false own e o = both (forgotten x).own (ap (λ (z : Tracked). z.own) (if_false x.own x (emptied x) own) ∙ own) o

-- one of the tables is opened
opens_one : (mode : Mode) (ts : List Tracked) (t : ℕ) (x : Tracked) (b : Bool) → MayOpenFrom mode → slice_get ts t ≡ Some x → x.own ≡ true
    → NoneElsewhere ts
    → all_own_live (slice_set ts t (record x { state = changed true x.state (open_call x) })) ≡ b
    → AllPlaces (λ i z. KeptTable mode Closed 0 z) 0 ts
    → KeptIn (if b then Up else Opening) Closed None (map forgotten (slice_set ts t (record x { state = changed true x.state (open_call x) })))
opens_one mode ts t x true may at own zero_sure all k = (
  record { frozen = λ e. no e; shut = λ e. refl; other = closed_is_not_other; no_hand = λ e. refl },
  all_up 0 (slice_set ts t (record x { state = changed true x.state (open_call x) })) all (opening mode ts t x may at own zero_sure k),
)
opens_one mode ts t x false may at own zero_sure all k = (
  record { frozen = λ e. no e; shut = λ e. refl; other = closed_is_not_other; no_hand = λ e. refl },
  opening mode ts t x may at own zero_sure k,
)

-- from these modes the region is closed and no record is settled
open_calm : (mode : Mode) (region : RegionIs) (hand : Option Hand) → MayOpenFrom mode → KeptLeaf mode region hand → (region ≡ Closed) × (hand ≡ None)
open_calm Opening region hand may k = (k.shut refl, k.no_hand refl)
open_calm Adopting region hand may k = (k.shut refl, k.no_hand refl)
open_calm (Scanning made) region hand may k = (k.shut refl, k.no_hand may)
open_calm Up region hand may k = absurd may
open_calm Preparing region hand may k = absurd may
open_calm Copying region hand may k = absurd may
open_calm Down region hand may k = absurd may
open_calm (Finding found) region hand may k = absurd may

pub opens_table : (m : Machine) (t : ℕ) (x : Tracked) → MayOpenFrom m.mode → slice_get m.tables t ≡ Some x → x.own ≡ true
    → NoneElsewhere m.tables → Kept m
    → KeptIn (if all_own_live (slice_set m.tables t (record x { state = changed true x.state (open_call x) })) then Up else Opening) m.region m.hand
    (map forgotten (slice_set m.tables t (record x { state = changed true x.state (open_call x) })))
opens_table m t x may at own zero_sure k =
    let calm : (m.region ≡ Closed) × (m.hand ≡ None) = open_calm m.mode m.region m.hand may k.0 in
    let k' : KeptIn m.mode Closed None m.tables = subst (λ h. KeptIn m.mode Closed h m.tables) calm.1 (subst (λ r. KeptIn m.mode r m.hand m.tables) calm.0 k) in
    let ts : List Tracked = map forgotten (slice_set m.tables t (record x { state = changed true x.state (open_call x) })) in
    let all : Bool = all_own_live (slice_set m.tables t (record x { state = changed true x.state (open_call x) })) in
    subst (λ r. KeptIn (if all then Up else Opening) r m.hand ts) (sym calm.0)
    (subst (λ h. KeptIn (if all then Up else Opening) Closed h ts) (sym calm.1)
    (opens_one m.mode m.tables t x all may at own zero_sure refl k'.1))
