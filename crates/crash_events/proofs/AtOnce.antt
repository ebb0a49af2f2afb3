-- Events that look at all tables: the plan of a drain, a table that was drained, the head that is read.
use Rattle.std.proofs.Common.{◌≡◌, ℕ, ◌+◌, Bool, true, false, List, refl, Option, Some, None, slice_get, slice_set}
use Rattle.std.specs.Prelude.{if◌then◌else◌}
use Rattle.crash_events.specs.Machine.{Tracked, Hand, Mode, Down, Finding, Preparing, Copying, RegionIs, Closed, Whole, Either, Other}
use Rattle.crash_events.specs.Events.{AllShut, IsSettled, AllSettled, AsRead, is_whole}
use Rattle.crash_events.specs.Kept.{in_hand, is_frozen, is_shut, may_be_other, is_tight, has_no_hand, is_up, is_running, KeptTable, KeptIn}
use Rattle.crash_moments.proofs.Bases.{both}
use Rattle.crash_events.proofs.Places.{Places-weaken, Places-get, Places-set, no, some_hand, closed_is_not_other, whole_is_not_other, with_all}

pub plans : (hand : Option Hand) (ts : List Tracked) → AllShut ts → hand ≡ None → AllSettled ts → KeptIn Preparing Closed hand ts → KeptIn Copying Closed hand ts
plans hand ts shut none settled k =
    let S : Tracked → Type 0 = λ x. x.state.live ≡ false in
    let P : ℕ → Tracked → Type 0 = λ t x. KeptTable Preparing Closed (in_hand hand t) x in
    let Q : ℕ → Tracked → Type 0 = λ t x. IsSettled x × P t x in (
      record { frozen = λ e. none; shut = no; other = closed_is_not_other; no_hand = no },
      Places-weaken (λ t x. S x × Q t x) (λ t x. KeptTable Copying Closed (in_hand hand t) x)
          (λ t x h. let p : KeptTable Preparing Closed (in_hand hand t) x = h.1.1 in record {
            flushed = p.flushed;
            sure = p.sure;
            taken = p.taken;
            tight = λ o e. no e;
            frozen = λ e. (h.0, h.1.0);
            live = λ o e. both x.state.live h.0 e;
            up = λ o e. no e;
            handed = p.handed;
            stranger = p.stranger;
            unknown = λ o e. p.unknown o refl;
          }) 0 ts (with_all S Q 0 ts shut (with_all IsSettled P 0 ts settled k.1)),
    )

-- what the head shows
finds : (region r : RegionIs) (hand : Option Hand) (ts : List Tracked) → (is_frozen (Finding (is_whole r)) r ≡ true → is_frozen Down region ≡ true)
    → (r ≡ Other → may_be_other (Finding (is_whole r)) ≡ true)
    → AllShut ts → KeptIn Down region hand ts → KeptIn (Finding (is_whole r)) r hand ts
finds region r hand ts f o shut k =
    let S : Tracked → Type 0 = λ x. x.state.live ≡ false in
    let P : ℕ → Tracked → Type 0 = λ t x. KeptTable Down region (in_hand hand t) x in (
      record { frozen = λ e. k.0.frozen (f e); shut = no; other = o; no_hand = no },
      Places-weaken (λ t x. S x × P t x) (λ t x. KeptTable (Finding (is_whole r)) r (in_hand hand t) x)
          (λ t x h. let p : KeptTable Down region (in_hand hand t) x = h.1 in record {
            flushed = p.flushed;
            sure = p.sure;
            taken = p.taken;
            tight = λ w e. no e;
            frozen = λ e. p.frozen (f e);
            live = λ w e. both x.state.live h.0 e;
            up = λ w e. no e;
            handed = p.handed;
            stranger = p.stranger;
            unknown = λ w e. no e;
          }) 0 ts (with_all S P 0 ts shut k.1),
    )

pub finds_any : (region r : RegionIs) (hand : Option Hand) (ts : List Tracked) → AsRead region r → AllShut ts → KeptIn Down region hand ts → KeptIn (Finding (is_whole r)) r hand ts
finds_any Closed Closed hand ts reads shut k = finds Closed Closed hand ts (λ e. e) (λ e. refl) shut k
finds_any Whole Whole hand ts reads shut k = finds Whole Whole hand ts (λ e. refl) whole_is_not_other shut k
finds_any Either Closed hand ts reads shut k = finds Either Closed hand ts no (λ e. refl) shut k
finds_any Either Whole hand ts reads shut k = finds Either Whole hand ts (λ e. refl) whole_is_not_other shut k
finds_any Other Closed hand ts reads shut k = finds Other Closed hand ts no (λ e. refl) shut k
finds_any Other Other hand ts reads shut k = finds Other Other hand ts no (λ e. refl) shut k
finds_any _ _ hand ts reads shut k = absurd reads

-- a table is handed
hands_one : (mode : Mode) (ts : List Tracked) (hand : Option Hand) (t : ℕ) (x : Tracked) → is_tight mode true ≡ false → is_tight mode false ≡ false → is_up mode ≡ false
    → is_shut mode ≡ false → has_no_hand mode ≡ false → (is_running mode ≡ true → is_running Copying ≡ true) → slice_get ts t ≡ Some x → x.own ≡ true
    → KeptIn Copying Whole hand ts → KeptIn mode Whole hand (slice_set ts t (record x { state = record x.state { handed = true } }))
hands_one mode ts hand t x t1 t2 u sh nh r at own k =
    let P : ℕ → Tracked → Type 0 = λ i z. KeptTable Copying Whole (in_hand hand i) z in
    let Q : ℕ → Tracked → Type 0 = λ i z. KeptTable mode Whole (in_hand hand i) z in
    let y : Tracked = record x { state = record x.state { handed = true } } in
    let p : KeptTable Copying Whole (in_hand hand (0 + t)) x = Places-get P 0 t ts x at k.1 in
    let there : KeptTable mode Whole (in_hand hand (0 + t)) y = record {
      flushed = p.flushed;
      sure = p.sure;
      taken = p.taken;
      tight = λ o e. loose x.state.live e;
      frozen = λ e. p.frozen refl;
      live = λ o e. both x.state.live (p.frozen refl).0 e;
      up = λ o e. both (is_up mode) u e;
      handed = λ e. p.frozen refl;
      stranger = λ e. both x.own e own;
      unknown = λ e. both x.own e own;
    } in (
      record { frozen = λ e. k.0.frozen refl; shut = λ e. both (is_shut mode) sh e; other = whole_is_not_other; no_hand = λ e. both (has_no_hand mode) nh e },
      Places-set P Q 0 t ts x y at
          (λ i z n q. record {
            flushed = q.flushed;
            sure = q.sure;
            taken = q.taken;
            tight = λ o e. loose z.state.live e;
            frozen = λ e. q.frozen refl;
            live = λ o e. both z.state.live (q.frozen refl).0 e;
            up = λ o e. both (is_up mode) u e;
            handed = q.handed;
            stranger = q.stranger;
            unknown = λ o e. q.unknown o (r e);
          }) there k.1,
    )
  where
    loose : {A : Type 0} (live : Bool) → is_tight mode live ≡ true → A
    loose true e = both (is_tight mode true) t1 e
    loose false e = both (is_tight mode false) t2 e

pub hands : (ts : List Tracked) (hand : Option Hand) (t : ℕ) (x : Tracked) (b : Bool) → slice_get ts t ≡ Some x → x.own ≡ true
    → KeptIn Copying Whole hand ts → KeptIn (if b then Down else Copying) Whole hand (slice_set ts t (record x { state = record x.state { handed = true } }))
hands ts hand t x true at own k = hands_one Down ts hand t x refl refl refl refl refl no at own k
hands ts hand t x false at own k = hands_one Copying ts hand t x refl refl refl refl refl (λ e. e) at own k

-- the hand is laid or its gate begun: the same writes
pub hand_goes : (mode : Mode) (region : RegionIs) (h : Hand) (laid' gate' : Bool) (ts : List Tracked) → KeptIn mode region (Some h) ts → KeptIn mode region (Some (record h { laid = laid'; gate = gate' })) ts
hand_goes mode region h laid' gate' ts k = (record { frozen = λ e. some_hand h (k.0.frozen e); shut = k.0.shut; other = k.0.other; no_hand = λ e. some_hand h (k.0.no_hand e) }, k.1)
