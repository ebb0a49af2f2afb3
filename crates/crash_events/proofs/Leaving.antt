-- What a sync or a crash leaves.
use Rattle.std.proofs.Common.{◌≡◌, ℕ, ◌+◌, ◌≤◌, Bool, true, false, List, [], ◌∷◌, refl, sym, subst, ◌∙◌, arith, Option, Some, None, inl, inr}
use Rattle.std.specs.Prelude.{◌==◌, ◌&&◌, if◌then◌else◌}
use Rattle.crash_events.specs.Machine.{Machine, Tracked, Hand, Mode, Down, Finding, Scanning, Adopting, Opening, Up, Preparing, Copying, RegionIs, Closed, Whole, Either, Other}
use Rattle.crash_events.specs.Events.{gate_begun, MayBe, Resettled, AfterCrash}
use Rattle.crash_events.specs.Kept.{in_hand, AllPlaces, holds_image, stays, is_frozen, may_be_live, is_tight, is_up, is_running, is_closed, KeptTable, KeptLeaf, KeptIn, Kept}
use Rattle.crash_moments.proofs.Bases.{both}
use Rattle.crash_events.proofs.Places.{no, closed_is_not_other}
use Rattle.crash_events.proofs.Modes.{or_left, or_false, closed_region}

begun_le : (hand : Option Hand) (t : ℕ) → gate_begun hand t ≤ in_hand hand t
begun_le None t = omega arith
begun_le (Some h) t = by (h.table == t) h.gate
  where
    by : (b g : Bool) → (if b && g then h.writes else 0) ≤ (if b then h.writes else 0)
    by true true = omega arith
    by true false = omega arith
    by false g = omega arith

-- what a crash leaves lies between what is sure and what is in the hand too
pub may_be_between : (m : Machine) (t : ℕ) (x : Tracked) (n : ℕ) → MayBe m t x n → (x.sure ≤ n) × (n ≤ x.sure + in_hand m.hand t)
may_be_between m t x n (inl e) = (omega (arith, e), omega (arith, e))
may_be_between m t x n (inr e) = let le : gate_begun m.hand t ≤ in_hand m.hand t = begun_le m.hand t in (omega (arith, e), omega (arith, e, le))

-- the tables that a sync or a crash leaves
resettles : (m : Machine) (mode' : Mode) (region' : RegionIs) → is_tight mode' true ≡ false → is_tight mode' false ≡ false → is_up mode' ≡ false → is_running mode' ≡ false
    → (is_frozen mode' region' ≡ true → is_frozen m.mode m.region ≡ true)
    → (may_be_live m.mode m.region ≡ true → may_be_live mode' region' ≡ true)
    → (b : ℕ) (xs ys : List Tracked) → Resettled m b xs ys → AllPlaces (λ t x. KeptTable m.mode m.region (in_hand m.hand t) x) b xs → AllPlaces (λ t x. KeptTable mode' region' 0 x) b ys
resettles m mode' region' t1 t2 u r f l b [] [] s h = tt
resettles m mode' region' t1 t2 u r f l b [] (y ∷ ys) s h = absurd s
resettles m mode' region' t1 t2 u r f l b (x ∷ xs) [] s h = absurd s
resettles m mode' region' t1 t2 u r f l b (x ∷ xs) (y ∷ ys) s h =
    let n : ℕ = s.0.0 in
    let between : (x.sure ≤ n) × (n ≤ x.sure + in_hand m.hand b) = may_be_between m b x n s.0.1 in
    let p : KeptTable m.mode m.region (in_hand m.hand b) x = h.0 in
    let q : KeptTable mode' region' 0 (record x { sure = n }) = record {
      flushed = omega (arith, p.flushed, between.0);
      sure = omega (arith, p.sure, between.1);
      taken = p.taken;
      tight = λ o e. loose x.state.live e;
      frozen = λ e. let z = p.frozen (f e) in (z.0, (omega (arith, z.1.0, z.1.1, p.sure, p.taken, between.0, between.1), omega (arith, z.1.1, p.sure, p.taken, between.0, between.1)));
      live = λ o e. l (p.live o e);
      up = λ o e. both (is_up mode') u e;
      handed = λ e. let z = p.handed e in (z.0, (omega (arith, z.1.0, z.1.1, p.sure, p.taken, between.0, between.1), omega (arith, z.1.1, p.sure, p.taken, between.0, between.1)));
      stranger = p.stranger;
      unknown = λ o e. both (is_running mode') r e;
    } in
    (subst (KeptTable mode' region' 0) (sym s.0.2) q, resettles m mode' region' t1 t2 u r f l (b + 1) xs ys s.1 h.1)
  where
    loose : {A : Type 0} (live : Bool) → is_tight mode' live ≡ true → A
    loose true e = both (is_tight mode' true) t1 e
    loose false e = both (is_tight mode' false) t2 e

live_is_closed : (mode : Mode) (region : RegionIs) (hand : Option Hand) → KeptLeaf mode region hand → may_be_live mode region ≡ true → is_closed region ≡ true
live_is_closed Up region hand k e = closed_region region (k.shut refl)
live_is_closed Preparing region hand k e = closed_region region (k.shut refl)
live_is_closed Opening region hand k e = closed_region region (k.shut refl)
live_is_closed Down region hand k e = e
live_is_closed (Finding found) region hand k e = no e
live_is_closed (Scanning made) region hand k e = no e
live_is_closed Adopting region hand k e = no e
live_is_closed Copying region hand k e = no e

crash_frozen : (mode : Mode) (region r : RegionIs) → AfterCrash region r → is_frozen Down r ≡ true → is_frozen mode region ≡ true
crash_frozen mode Closed Closed s e = no e
crash_frozen mode Whole Closed s e = refl
crash_frozen mode Whole Whole s e = refl
crash_frozen mode Either Closed s e = refl
crash_frozen mode Either Whole s e = refl
crash_frozen mode Other Closed s e = no e
crash_frozen mode Other Other s e = no e
crash_frozen mode _ _ s e = absurd s

crash_closed : (region r : RegionIs) → AfterCrash region r → is_closed region ≡ true → may_be_live Down r ≡ true
crash_closed Closed Closed s e = refl
crash_closed Whole r s e = no e
crash_closed Either r s e = no e
crash_closed Other r s e = no e
crash_closed _ _ s e = absurd s

pub crashes : (m : Machine) (r : RegionIs) (ts : List Tracked) → AfterCrash m.region r → Resettled m 0 m.tables ts → Kept m → KeptIn Down r None ts
crashes m r ts s rs k = (
  record { frozen = λ e. refl; shut = no; other = λ e. refl; no_hand = λ e. refl },
  resettles m Down r refl refl refl refl (crash_frozen m.mode m.region r s) (λ e. crash_closed m.region r s (live_is_closed m.mode m.region m.hand k.0 e)) 0 m.tables ts rs k.1,
)

pub barriers : (m : Machine) (made : Bool) (ts : List Tracked) → m.mode ≡ Scanning made → Resettled m 0 m.tables ts → Kept m → KeptIn (Scanning true) m.region None ts
barriers m made ts scanning rs k =
    let closed : m.region ≡ Closed = k.0.shut (rw scanning refl) in (
      record { frozen = λ e. refl; shut = λ e. closed; other = λ e. closed_is_not_other (sym closed ∙ e); no_hand = λ e. refl },
      resettles m (Scanning true) m.region refl refl refl refl (λ e. or_left (holds_image m.region) (stays m.mode) (or_false (holds_image m.region) e))
          (λ e. let dead : may_be_live m.mode m.region ≡ false = rw scanning refl in both (may_be_live m.mode m.region) dead e) 0 m.tables ts rs k.1,
    )
