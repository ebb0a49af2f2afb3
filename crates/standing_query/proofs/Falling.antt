-- The times of a spread's groups never fall, so that those below a horizon stand in front.
use Rattle.std.proofs.Common.{◌≡◌, ℕ, zero, suc, ◌+◌, ◌<◌, Bool, true, false, List, [], ◌∷◌, length, drop, set, get_or, filter, ℤ, int_le, refl, sym, ap, subst, ◌∙◌, true≢false, arith}
use Rattle.std.specs.List.{AllByRecursion}
use Rattle.std.specs.Ordering.{int_cmp, ordering_then}
use Rattle.std.specs.Cmp.{int_cmp_is}
use Rattle.std.specs.Cmp.Lexicographic.{slice_cmp}
use Rattle.std.specs.declared.cmp.Ordering.{Ordering}
use Rattle.std.specs.declared.cmp.Ordering.TheVariants.{Less, Equal, Greater}
use Rattle.std.proofs.lemmas.Bool.{true_from_ne_false}
use Rattle.std.proofs.lemmas.Int.{ints}
use Rattle.row_model.specs.declared.rows.Row.{Row}
use Rattle.leaf_model.specs.declared.queries.Query.{Query}
use Rattle.leaf_model.specs.declared.groups.Key.{Key}
use Rattle.leaf_model.specs.declared.groups.Key.TheVariants as key
use Rattle.leaf_model.specs.declared.groups.Group.{Group}
use Rattle.leaf_model.specs.Groups.{groups, key_cmp, keys_cmp}
use Rattle.group_table.specs.Table.{keys_in, Above, Ascends}
use Rattle.group_table.proofs.Laws.{groups_ascend}
use Rattle.standing_query.specs.Spread.{spread, time_in}
use Rattle.standing_query.specs.Parts.{AreParts, NeverFall, begins_from, groups_from}
use Rattle.standing_query.proofs.Cut.{chain}
use Rattle.standing_query.proofs.Expired.{rows_are}

-- ---- keys that begin with a time

abbrev has_time : List Key → Bool
has_time [] = false
has_time (key.Missing ∷ ks) = false
has_time (key.Int n ∷ ks) = true
has_time (key.Text t ∷ ks) = false
has_time (key.Set members ∷ ks) = false

ints_up : (a b : ℤ) (rest : Ordering) → ordering_then (int_cmp a b) rest ≡ Less → int_le a b ≡ true
ints_up a b rest less = true_from_ne_false (int_le a b) (λ no.
    let above : Greater ≡ int_cmp a b = int_cmp_is a b Greater (omega (arith, ints, no)) in
    let wrong : Greater ≡ Less = subst (λ (o : Ordering). ordering_then o rest ≡ Less) (sym above) less in
    absurd cc)

keys_up : (ks js : List Key) → has_time ks ≡ true → has_time js ≡ true → keys_cmp ks js ≡ Less → int_le (time_in ks) (time_in js) ≡ true
keys_up [] js s t less = absurd (true≢false (sym s))
keys_up (key.Missing ∷ ks) js s t less = absurd (true≢false (sym s))
keys_up (key.Int a ∷ ks) [] s t less = absurd (true≢false (sym t))
keys_up (key.Int a ∷ ks) (key.Missing ∷ js) s t less = absurd (true≢false (sym t))
keys_up (key.Int a ∷ ks) (key.Int b ∷ js) s t less = ints_up a b (slice_cmp key_cmp ks js) less
keys_up (key.Int a ∷ ks) (key.Text u ∷ js) s t less = absurd (true≢false (sym t))
keys_up (key.Int a ∷ ks) (key.Set members ∷ js) s t less = absurd (true≢false (sym t))
keys_up (key.Text u ∷ ks) js s t less = absurd (true≢false (sym s))
keys_up (key.Set members ∷ ks) js s t less = absurd (true≢false (sym s))

abbrev Timed : List Group → Type 0
Timed gs = AllByRecursion (λ (g : Group). has_time g.keys ≡ true) gs

all_hold : (rows : List Row) → AllByRecursion (λ (row : Row). true ≡ true) rows
all_hold [] = tt
all_hold (row ∷ rows) = (refl, all_hold rows)

timed : (q : Query) (rows : List Row) → Timed (groups (spread q) rows)
timed q rows = rows_are has_time (spread q) (λ row. true) (λ row. refl) true rows (all_hold rows)

-- ---- groups that ascend by their keys

above_up : (g : Group) (gs : List Group) → has_time g.keys ≡ true → Timed gs → Above g.keys (keys_in gs) → AllByRecursion (λ (h : Group). int_le (time_in g.keys) (time_in h.keys) ≡ true) gs
above_up g [] here all above = tt
above_up g (h ∷ hs) here all above = (keys_up g.keys h.keys here all.0 above.0, above_up g hs here all.1 above.1)

all_up : (gs : List Group) → Timed gs → Ascends (keys_in gs) → NeverFall gs
all_up [] all up = tt
all_up (g ∷ gs) all up = (above_up g gs all.0 all.1 up.0, all_up gs all.1 up.1)

pub parts_never_fall : (s q : Query) → s ≡ spread q → (list : List (List Group)) (rows : List Row) → AreParts s rows list → AllByRecursion NeverFall list
parts_never_fall s q of [] rows parts = tt
parts_never_fall s q of (p ∷ ps) rows parts =
    let is : p ≡ groups (spread q) parts.0 = parts.3 ∙ ap (λ (t : Query). groups t parts.0) of in
    (subst NeverFall (sym is) (all_up (groups (spread q) parts.0) (timed q parts.0) (groups_ascend (spread q) parts.0)), parts_never_fall s q of ps parts.1 parts.4)

-- ---- groups of which the first is at or after a horizon

stay : (h t : ℤ) (gs : List Group) → int_le h t ≡ true → AllByRecursion (λ (g : Group). int_le t (time_in g.keys) ≡ true) gs → groups_from h gs ≡ gs
stay h t [] from all = refl
stay h t (g ∷ gs) from all = rw (chain h t (time_in g.keys) from all.0) (ap (λ (rest : List Group). g ∷ rest) (stay h t gs from all.1))

pub all_stay : (h : ℤ) (gs : List Group) → begins_from h gs ≡ true → NeverFall gs → groups_from h gs ≡ gs
all_stay h [] from falls = refl
all_stay h (g ∷ gs) from falls = rw from (ap (λ (rest : List Group). g ∷ rest) (stay h (time_in g.keys) gs from falls.0))

-- ---- parts one after another

module _ {X : Type 0} (P : X → Type 0) where
  pub one_of_rest : (xs : List X) (i : ℕ) (x : X) → i < length xs → x ≡ get_or xs i x → AllByRecursion P (drop i xs) → P x
  one_of_rest [] i x inside is all = absurd (omega (arith, inside))
  one_of_rest (y ∷ ys) zero x inside is all = subst P (sym is) all.0
  one_of_rest (y ∷ ys) (suc i) x inside is all = one_of_rest ys i x (omega (arith, inside)) is all

  behind_it : (xs : List X) (i : ℕ) (y : X) → AllByRecursion P (drop i xs) → AllByRecursion P (drop (suc i) (set xs i y))
  behind_it [] i y all = tt
  behind_it (x ∷ xs) zero y all = all.1
  behind_it (x ∷ xs) (suc i) y all = behind_it xs i y all

  pub rest_behind : (xs : List X) (i : ℕ) (y : X) → AllByRecursion P (drop i xs) → AllByRecursion P (drop (i + 1) (set xs i y))
  rest_behind xs i y all = subst (λ (n : ℕ). AllByRecursion P (drop n (set xs i y))) (next i) (behind_it xs i y all)
    where
      next : (n : ℕ) → suc n ≡ n + 1
      next n = omega arith
