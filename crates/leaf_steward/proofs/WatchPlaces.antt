-- What stands at a place of a leaf's tables and seats, and of the list that they are watched as.
use Rattle.std.proofs.Common.{◌≡◌, ℕ, zero, suc, List, [], ◌∷◌, length, map, Some, refl, sym, ap, ap₂, subst, arith}
use Rattle.std.specs.Prelude.{slice_get, slice_set}
use Rattle.std.specs.List.{AllByRecursion}
use Rattle.std.proofs.lemmas.Option.{none-some, same_Some}
use Rattle.leaf_table.specs.Turns.{Shared}
use Rattle.leaf_table.specs.Calls.{SeatView, name_of}
use Rattle.crash_moments.specs.Watched.{Watched}
use Rattle.leaf_steward.specs.Seated.{Seated, watch, watched, watched_by}
use Rattle.leaf_steward.proofs.Seating.{same_at}

-- ---- one list

module _ {A : Type 0} (P : A → Type 0) where
  pub watch_all : (xs : List A) (i : ℕ) (x : A) → AllByRecursion P xs → slice_get xs i ≡ Some x → P x
  watch_all [] i x all at = absurd (none-some x at)
  watch_all (y ∷ xs) zero x all at = subst P (same_Some y x at) all.0
  watch_all (y ∷ xs) (suc i) x all at = watch_all xs i x all.1 at

-- ---- tables and seats, as they are watched

pub get_watch : (ts : List Shared) (vs : List SeatView) (place : ℕ) (t : Shared) (v : SeatView) → slice_get ts place ≡ Some t → slice_get vs place ≡ Some v → slice_get (watch ts vs) place ≡ Some (watched t v)
get_watch [] vs place t v at sat = absurd (none-some t at)
get_watch (x ∷ ts) [] place t v at sat = absurd (none-some v sat)
get_watch (x ∷ ts) (y ∷ vs) zero t v at sat = ap₂ (λ (a : Shared) (b : SeatView). Some (watched a b)) (same_Some x t at) (same_Some y v sat)
get_watch (x ∷ ts) (y ∷ vs) (suc place) t v at sat = get_watch ts vs place t v at sat

pub at_watch : (ts : List Shared) (vs : List SeatView) (place : ℕ) (w : Watched) → slice_get (watch ts vs) place ≡ Some w
    → (t : Shared) × (v : SeatView) × (slice_get ts place ≡ Some t) × (slice_get vs place ≡ Some v) × (w ≡ watched t v)
at_watch [] vs place w at = absurd (none-some w at)
at_watch (x ∷ ts) [] place w at = absurd (none-some w at)
at_watch (x ∷ ts) (y ∷ vs) zero w at = (x, y, refl, refl, sym (same_Some (watched x y) w at))
at_watch (x ∷ ts) (y ∷ vs) (suc place) w at = at_watch ts vs place w at

pub set_watch : (ts : List Shared) (vs : List SeatView) (place : ℕ) (t : Shared) (v : SeatView) → slice_get ts place ≡ Some t → watch ts (slice_set vs place v) ≡ slice_set (watch ts vs) place (watched t v)
set_watch [] vs place t v at = refl
set_watch (x ∷ ts) [] place t v at = refl
set_watch (x ∷ ts) (y ∷ vs) zero t v at = ap (λ (a : Shared). watched a v ∷ watch ts vs) (same_Some x t at)
set_watch (x ∷ ts) (y ∷ vs) (suc place) t v at = ap (λ (l : List Watched). watched x y ∷ l) (set_watch ts vs place t v at)

pub names_watch : (ts : List Shared) (vs : List SeatView) → length vs ≡ length ts → map (λ (w : Watched). w.name) (watch ts vs) ≡ map name_of ts
names_watch [] vs count = refl
names_watch (x ∷ ts) [] count = absurd (omega (arith, count))
names_watch (x ∷ ts) (y ∷ vs) count = ap (λ (l : List (List ℕ)). name_of x ∷ l) (names_watch ts vs (omega (arith, count)))

pub length_watch : (ts : List Shared) (vs : List SeatView) → length vs ≡ length ts → length (watch ts vs) ≡ length ts
length_watch [] vs count = refl
length_watch (x ∷ ts) [] count = absurd (omega (arith, count))
length_watch (x ∷ ts) (y ∷ vs) count = ap suc (length_watch ts vs (omega (arith, count)))

-- at each place the table and its seats, before and after, are watched
pub pair_watch : (R : ℕ → Watched → Watched → Type 0) (x y : Seated) → y.tables ≡ x.tables
    → ((place : ℕ) (t : Shared) (v w : SeatView) → slice_get x.tables place ≡ Some t → slice_get x.seats place ≡ Some v → slice_get y.seats place ≡ Some w → R place (watched t v) (watched t w))
    → (place : ℕ) (a b : Watched) → slice_get (watched_by x) place ≡ Some a → slice_get (watched_by y) place ≡ Some b → R place a b
pair_watch R x y same each place a b here there =
    let old = at_watch x.tables x.seats place a here in
    let new = at_watch y.tables y.seats place b there in
    let tables : slice_get x.tables place ≡ Some new.0 = subst (λ (ts : List Shared). slice_get ts place ≡ Some new.0) same new.2 in
    let table : old.0 ≡ new.0 = same_at x.tables place old.0 new.0 old.2 tables in
    let told : R place (watched old.0 old.1) (watched old.0 new.1) = each place old.0 old.1 new.1 old.2 old.3 new.3 in
    let moved : R place (watched old.0 old.1) (watched new.0 new.1) = subst (λ (t : Shared). R place (watched old.0 old.1) (watched t new.1)) table told in
    subst (λ (u : Watched). R place u b) (sym old.4) (subst (λ (u : Watched). R place (watched old.0 old.1) u) (sym new.4) moved)
