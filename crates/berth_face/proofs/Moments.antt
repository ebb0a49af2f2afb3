-- How what holds at each moment goes on from call to call.
use Rattle.std.proofs.Common.{◌≡◌, ◌↔◌, inl, inr, ℕ, ◌≤◌, ◌<◌, List, ◌∙◌, sym, subst, refl, arith}
use Rattle.std.proofs.lemmas.Bool.{cases_lt}
use Rattle.berth_face.specs.Berth.{Pair, Meaning, Making, Passes, Stays}
use Rattle.berth_face.specs.Moments.{EachNow, Meanwhile, StandsHeld, Throughout}

pub passes_none : (a : Meaning) → Passes a a
passes_none a = record { tells = refl; later = omega arith; past = λ t p le. (λ x. x, λ x. x); past_regions = λ t region le. (λ x. x, λ x. x); region_faults = omega arith; disk_faults = omega arith }

pub passes_on : (a b c : Meaning) → Passes a b → Passes b c → Passes a c
passes_on a b c ab bc = record {
  tells = bc.tells ∙ ab.tells;
  later = omega (arith, ab.later, bc.later);
  past = λ t p le. (λ x. (ab.past t p le).0 ((bc.past t p (omega (arith, le, ab.later))).0 x), λ x. (bc.past t p (omega (arith, le, ab.later))).1 ((ab.past t p le).1 x));
  past_regions = λ t r le. (
    λ x. (ab.past_regions t r le).0 ((bc.past_regions t r (omega (arith, le, ab.later))).0 x),
    λ x. (bc.past_regions t r (omega (arith, le, ab.later))).1 ((ab.past_regions t r le).1 x),
  );
  region_faults = omega (arith, ab.region_faults, bc.region_faults);
  disk_faults = omega (arith, ab.disk_faults, bc.disk_faults);
}

-- before the first call
pub started : (a : Meaning) (P : Pair → Type 0) → EachNow P a → Throughout P a a
started a P here = record { passes = passes_none a; each = λ t p from to left. here p (subst (λ (u : ℕ). a.leaves u p) (same t from to) left) }
  where
    same : (t : ℕ) → a.clock ≤ t → t ≤ a.clock → t ≡ a.clock
    same t from to = omega arith

-- one call more: what holds inside it and when it has ended
pub goes_on : (a b c : Meaning) (P : Pair → Type 0) → Throughout P a b → Passes b c
    → ((t : ℕ) (p : Pair) → b.clock < t → t < c.clock → c.leaves t p → P p) → EachNow P c → Throughout P a c
goes_on a b c P so_far time inside ended = record { passes = passes_on a b c so_far.passes time; each = each }
  where
    each : (t : ℕ) (p : Pair) → a.clock ≤ t → t ≤ c.clock → c.leaves t p → P p
    each t p from to left = elim (cases_lt b.clock t) [
      | inl after ↦ elim (cases_lt t c.clock) [
        | inl before_end ↦ inside t p after before_end left
        | inr at_end ↦ let same : t ≡ c.clock = omega arith in ended p (subst (λ (u : ℕ). c.leaves u p) same left)
      ]
      | inr not_after ↦ so_far.each t p from not_after ((time.past t p not_after).0 left)
    ]

-- what holds at each moment also has what follows from it
pub throughout_map : (a b : Meaning) (P Q : Pair → Type 0) → ((p : Pair) → P p → Q p) → Throughout P a b → Throughout Q a b
throughout_map a b P Q f all = record { passes = all.passes; each = λ t p from to left. f p (all.each t p from to left) }

pub throughout_join : (a b c : Meaning) (P : Pair → Type 0) → Throughout P a b → Throughout P b c → Throughout P a c
throughout_join a b c P ab bc = goes_on a b c P ab bc.passes (λ t p from to left. bc.each t p (omega arith) (omega arith) left) (λ p left. bc.each c.clock p bc.passes.later (omega arith) left)

pub now_of : (a b : Meaning) (P : Pair → Type 0) → Throughout P a b → EachNow P b
now_of a b P all = λ p left. all.each b.clock p all.passes.later (omega arith) left

-- ---- of the regions that may stand meanwhile

-- before the first call
pub meanwhile_here : (a : Meaning) (P : List ℕ → Type 0) → StandsHeld a → P a.held.region → Meanwhile P a a
meanwhile_here a P stands held = record { passes = passes_none a; each = λ t r from to now. subst P (sym (stands r (subst (λ (u : ℕ). a.regions u r) (same t from to) now))) held }
  where
    same : (t : ℕ) → a.clock ≤ t → t ≤ a.clock → t ≡ a.clock
    same t from to = omega arith

-- calls more: what holds inside them and when they have ended
meanwhile_on : (a b c : Meaning) (P : List ℕ → Type 0) → Meanwhile P a b → Passes b c
    → ((t : ℕ) (r : List ℕ) → b.clock < t → t < c.clock → c.regions t r → P r) → ((r : List ℕ) → c.regions c.clock r → P r) → Meanwhile P a c
meanwhile_on a b c P so_far time inside ended = record { passes = passes_on a b c so_far.passes time; each = each }
  where
    each : (t : ℕ) (r : List ℕ) → a.clock ≤ t → t ≤ c.clock → c.regions t r → P r
    each t r from to now = elim (cases_lt b.clock t) [
      | inl after ↦ elim (cases_lt t c.clock) [
        | inl before_end ↦ inside t r after before_end now
        | inr at_end ↦ let same : t ≡ c.clock = omega arith in ended r (subst (λ (u : ℕ). c.regions u r) same now)
      ]
      | inr not_after ↦ so_far.each t r from not_after ((time.past_regions t r not_after).0 now)
    ]

-- one call more: what it makes, and what reads give when it has ended
pub meanwhile_call : (a b c : Meaning) (P makes : List ℕ → Type 0) → Meanwhile P a b → Passes b c → Making makes b c → ((r : List ℕ) → makes r → P r) → StandsHeld c → P c.held.region → Meanwhile P a c
meanwhile_call a b c P makes so_far time making made stands held =
    meanwhile_on a b c P so_far time (λ t r from to now. made r (making t r from to now)) (λ r now. subst P (sym (stands r now)) held)

pub meanwhile_map : (a b : Meaning) (P Q : List ℕ → Type 0) → ((r : List ℕ) → P r → Q r) → Meanwhile P a b → Meanwhile Q a b
meanwhile_map a b P Q f all = record { passes = all.passes; each = λ t r from to now. f r (all.each t r from to now) }

pub meanwhile_join : (a b c : Meaning) (P : List ℕ → Type 0) → Meanwhile P a b → Meanwhile P b c → Meanwhile P a c
meanwhile_join a b c P ab bc =
    meanwhile_on a b c P ab bc.passes (λ t r from to now. bc.each t r (omega arith) (omega arith) now) (λ r now. bc.each c.clock r bc.passes.later (omega arith) now)

-- ---- calls that change nothing, one after another

pub stays_none : (a : Meaning) → Stays a a
stays_none a = record {
  held = refl;
  leaves = λ t p from to. subst (λ (u : ℕ). a.leaves u p ↔ a.leaves a.clock p) (here t from to) (λ x. x, λ x. x);
  regions = λ t r from to. subst (λ (u : ℕ). a.regions u r ↔ a.regions a.clock r) (here t from to) (λ x. x, λ x. x);
}
  where
    here : (t : ℕ) → a.clock ≤ t → t ≤ a.clock → a.clock ≡ t
    here t from to = omega (arith, from, to)

-- of what passes, these facts alone are looked at
module _ (a b c : Meaning) (first : a.clock ≤ b.clock) (past : (t : ℕ) (p : Pair) → t ≤ b.clock → c.leaves t p ↔ b.leaves t p)
    (past_regions : (t : ℕ) (r : List ℕ) → t ≤ b.clock → c.regions t r ↔ b.regions t r) (ab : Stays a b) (bc : Stays b c) where
  pub stays_over : Stays a c
  stays_over = record { held = bc.held ∙ ab.held; leaves = leaves; regions = regions }
    where
      leaves : (t : ℕ) (p : Pair) → a.clock ≤ t → t ≤ c.clock → c.leaves t p ↔ a.leaves a.clock p
      leaves t p from to = elim (cases_lt b.clock t) [
        | inl after ↦
            let later = bc.leaves t p (omega (arith, after)) to in
            let sooner = ab.leaves b.clock p first (omega arith) in
            (λ x. sooner.0 (later.0 x), λ x. later.1 (sooner.1 x))
        | inr before ↦
            let same = past t p before in
            let sooner = ab.leaves t p from before in
            (λ x. sooner.0 (same.0 x), λ x. same.1 (sooner.1 x))
      ]

      regions : (t : ℕ) (r : List ℕ) → a.clock ≤ t → t ≤ c.clock → c.regions t r ↔ a.regions a.clock r
      regions t r from to = elim (cases_lt b.clock t) [
        | inl after ↦
            let later = bc.regions t r (omega (arith, after)) to in
            let sooner = ab.regions b.clock r first (omega arith) in
            (λ x. sooner.0 (later.0 x), λ x. later.1 (sooner.1 x))
        | inr before ↦
            let same = past_regions t r before in
            let sooner = ab.regions t r from before in
            (λ x. sooner.0 (same.0 x), λ x. same.1 (sooner.1 x))
      ]

pub stays_on : (a b c : Meaning) → Passes a b → Passes b c → Stays a b → Stays b c → Stays a c
stays_on a b c first second ab bc = stays_over a b c first.later second.past second.past_regions ab bc

-- what holds of each pair goes on through a call that changes nothing
pub through_stay : (a b c : Meaning) (P : Pair → Type 0) → Throughout P a b → Passes b c → Stays b c → Throughout P a c
through_stay a b c P so_far time stays =
    goes_on a b c P so_far time
    (λ t p from to left. now_of a b P so_far p ((stays.leaves t p (omega (arith, from)) (omega (arith, to))).0 left))
    (λ p left. now_of a b P so_far p ((stays.leaves c.clock p time.later (omega arith)).0 left))

-- and so does what holds of each region
pub meanwhile_stay : (a b c : Meaning) (P : List ℕ → Type 0) → Meanwhile P a b → Passes b c → Stays b c → Meanwhile P a c
meanwhile_stay a b c P so_far time stays =
    meanwhile_on a b c P so_far time
    (λ t r from to now. before r ((stays.regions t r (omega (arith, from)) (omega (arith, to))).0 now))
    (λ r now. before r ((stays.regions c.clock r time.later (omega arith)).0 now))
  where
    before : (r : List ℕ) → b.regions b.clock r → P r
    before r now = so_far.each b.clock r so_far.passes.later (omega arith) now
