-- Lists of calls and events that are joined.
use Rattle.std.proofs.Common.{◌≡◌, ℕ, ◌<◌, suc, zero, Bool, true, false, ◌||◌, List, [], ◌∷◌, ◌++◌, length, get_or, refl, sym, ap, ◌∙◌, subst, arith}
use Rattle.std.specs.List.{AllByRecursion}
use Rattle.rollover_watch.specs.declared.event.RollEvent.{RollEvent}
use Rattle.rollover_watch.specs.Watches.{Held, is_halt_asked}
use Rattle.rollover_driver.specs.Calls.{FleetCall, AreOfEach}
use Rattle.rollover_driver.specs.Drives.{AreAllTold}

pub or_false : (b : Bool) → (b || false) ≡ b
or_false true = refl
or_false false = refl

pub or_joined : (a b c : Bool) → ((a || b) || c) ≡ (a || (b || c))
or_joined true b c = refl
or_joined false b c = refl

-- events that were told, and then others
pub told_both : (events others : List RollEvent) (old mid new : List Held) (x y : Bool) → AreAllTold events old x mid → AreAllTold others mid y new
    → AreAllTold (events ++ others) old (x || y) new
told_both [] others old mid new x y front back =
    subst (λ (b : Bool). AreAllTold others old (b || y) new) (sym front.0) (subst (λ (ws : List Held). AreAllTold others ws y new) front.1 back)
told_both (event ∷ events) others old mid new x y front back = (
  front.0,
  (front.1 || y),
  front.2,
  told_both events others front.0 mid new front.1 y front.3 back,
  ap (λ (b : Bool). b || y) front.4 ∙ or_joined (is_halt_asked event old) front.1 y,
)

-- calls of the leaves of a list, and then of others
pub each_both : {A : Type 0} (kind : ℕ → A → FleetCall) (leaves others : List ℕ) (calls behind : List FleetCall) → AreOfEach kind leaves calls → AreOfEach kind others behind
    → AreOfEach kind (leaves ++ others) (calls ++ behind)
each_both kind [] others [] behind front back = back
each_both kind [] others (call ∷ calls) behind front back = absurd front
each_both kind (leaf ∷ leaves) others [] behind front back = absurd front
each_both kind (leaf ∷ leaves) others (call ∷ calls) behind front back = (front.0, each_both kind leaves others calls behind front.1 back)

-- what holds of all holds of each
pub all_at : {X : Type 0} (P : X → Type 0) (xs : List X) (i : ℕ) (d : X) → AllByRecursion P xs → i < length xs → P (get_or xs i d)
all_at P [] i d all inside = absurd (omega arith)
all_at P (x ∷ xs) zero d all inside = all.0
all_at P (x ∷ xs) (suc i) d all inside = all_at P xs i d all.1 (omega arith)

-- what a fleet has, one that has the same leaves has too
pub all_still : {F : Type 0} (has : F → ℕ → Type 0) (f g : F) (leaves : List ℕ) → ((leaf : ℕ) → has f leaf → has g leaf) → AllByRecursion (λ leaf. has f leaf) leaves
    → AllByRecursion (λ leaf. has g leaf) leaves
all_still has f g [] same all = tt
all_still has f g (leaf ∷ leaves) same all = (same leaf all.0, all_still has f g leaves same all.1)
