-- What is kept once, and heeded from several places.
use Rattle.std.proofs.Common.{◌≡◌, ℕ, zero, suc, ◌<◌, Bool, true, false, ◌||◌, List, [], ◌∷◌, ◌++◌, length, map, set, Option, None, Some, refl, sym, ap, ap₂, subst, ◌∙◌, arith}
use Rattle.std.specs.Prelude.{nat_eq, slice_get, Vec}
use Rattle.std.specs.Global.{Global}
use Rattle.std.specs.List.{AllZip, list_any}
use Rattle.std.specs.Option.{option_eq}
use Rattle.std.proofs.lemmas.Bool.{eqb-false}
use Rattle.std.proofs.lemmas.List.{append_assoc, length-map, map-append}
use Rattle.printed_lines.specs.declared.line.Line.{Line}
use Rattle.standing_feed.specs.declared.heard.Heard.{Heard}
use Rattle.standing_feed.specs.declared.table_calls.TableCalls.{TableCalls}
use Rattle.standing_feed.specs.Following.{CallsAt}
use Rattle.standing_feed.specs.Sharing.{AreHeard, AreKept, AreOfTable, IsHeardBy, calls_at, entries_of, kept_in}

-- ---- what is kept

get_front : {X : Type 0} (xs : List X) (y : X) (i : ℕ) → i < length xs → slice_get (xs ++ y ∷ []) i ≡ slice_get xs i
get_front [] y i h = absurd (omega arith)
get_front (x ∷ xs) y zero h = refl
get_front (x ∷ xs) y (suc i) h = get_front xs y i (omega arith)

get_last : {X : Type 0} (xs : List X) (y : X) → slice_get (xs ++ y ∷ []) (length xs) ≡ Some y
get_last [] y = refl
get_last (x ∷ xs) y = get_last xs y

kept_more : {X : Type 0} (xs : List X) (y : X) (places : List (Option ℕ)) → AreKept (length xs) places → map (kept_in (xs ++ y ∷ [])) places ≡ map (kept_in xs) places
kept_more xs y [] all = refl
kept_more xs y (None ∷ ps) all = ap (λ rest. None ∷ rest) (kept_more xs y ps all.1)
kept_more xs y (Some i ∷ ps) all = ap₂ (λ one rest. one ∷ rest) (get_front xs y i all.0) (kept_more xs y ps all.1)

-- one table more, in a place of its own
pub kept_push : (ts us : List TableCalls) (places more : List (Option ℕ)) (t : TableCalls) → AreKept (length ts) places → us ≡ ts ++ t ∷ [] → more ≡ places ++ Some (length ts) ∷ []
    → map (kept_in (map calls_at us)) more ≡ map (kept_in (map calls_at ts)) places ++ Some (calls_at t) ∷ []
kept_push ts us places more t all us_are more_are =
    let cs : List CallsAt = map calls_at ts in
    let count : length cs ≡ length ts = length-map ts calls_at in
    ap₂ (λ (kept : List CallsAt) (ps : List (Option ℕ)). map (kept_in kept) ps) (ap (λ (xs : List TableCalls). map calls_at xs) us_are ∙ map-append calls_at ts (t ∷ [])) more_are
    ∙ (map-append (kept_in (cs ++ calls_at t ∷ [])) places (Some (length ts) ∷ [])
    ∙ ap₂ (λ (front : List (Option CallsAt)) (last : Option CallsAt). front ++ last ∷ []) (kept_more cs (calls_at t) places (subst (λ n. AreKept n places) (sym count) all))
    (subst (λ n. slice_get (cs ++ calls_at t ∷ []) n ≡ Some (calls_at t)) count (get_last cs (calls_at t))))

-- something that is put in a place that none of these is
get_apart : {X : Type 0} (xs : List X) (i j : ℕ) (x : X) → (j ≡ i → ⊥) → slice_get (set xs i x) j ≡ slice_get xs j
get_apart [] i j x apart = refl
get_apart (y ∷ ys) zero zero x apart = absurd (apart refl)
get_apart (y ∷ ys) zero (suc j) x apart = refl
get_apart (y ∷ ys) (suc i) zero x apart = refl
get_apart (y ∷ ys) (suc i) (suc j) x apart = get_apart ys i j x (λ e. apart (ap suc e))

pub kept_apart : {X : Type 0} (xs : List X) (i : ℕ) (x : X) (places : List (Option ℕ)) → list_any (λ (place : Option ℕ). option_eq nat_eq place (Some i)) places ≡ false
    → map (kept_in (set xs i x)) places ≡ map (kept_in xs) places
kept_apart xs i x [] none = refl
kept_apart xs i x (None ∷ ps) none = ap (λ rest. None ∷ rest) (kept_apart xs i x ps none)
kept_apart xs i x (Some j ∷ ps) none = by (nat_eq j i) refl none (λ rest. kept_apart xs i x ps rest)
  where
    by : (b : Bool) → nat_eq j i ≡ b → (b || list_any (λ (place : Option ℕ). option_eq nat_eq place (Some i)) ps) ≡ false
        → (list_any (λ (place : Option ℕ). option_eq nat_eq place (Some i)) ps ≡ false → map (kept_in (set xs i x)) ps ≡ map (kept_in xs) ps)
        → map (kept_in (set xs i x)) (Some j ∷ ps) ≡ map (kept_in xs) (Some j ∷ ps)
    by true same wrong others = absurd cc
    by false apart rest others = ap₂ (λ one more. one ∷ more) (get_apart xs i j x (eqb-false j i apart)) (others rest)

-- ---- tables whose lines are heard

-- those that were heard, and one more
heard_push : (lines : List Line) (ts : List TableCalls) (all : List (Vec Heard Global)) (t : TableCalls) (hs : Vec Heard Global)
    → AreHeard lines ts all → AreOfTable lines (calls_at t) hs.items → AreHeard lines (ts ++ t ∷ []) (all ++ hs ∷ [])
heard_push lines [] [] t hs are one = (one, tt)
heard_push lines [] (x ∷ all) t hs are one = absurd are
heard_push lines (x ∷ ts) [] t hs are one = absurd are
heard_push lines (x ∷ ts) (y ∷ all) t hs are one = (are.0, heard_push lines ts all t hs are.1 one)

pub heard_next : (lines : List Line) (ts left others : List TableCalls) (t : TableCalls) (all more : List (Vec Heard Global)) (hs : Vec Heard Global)
    → (xs : List TableCalls) × (ts ≡ xs ++ left) × AreHeard lines xs all → left ≡ t ∷ others → AreOfTable lines (calls_at t) hs.items → more ≡ all ++ hs ∷ []
    → (xs : List TableCalls) × (ts ≡ xs ++ others) × AreHeard lines xs more
heard_next lines ts left others t all more hs so_far is one more_are = (
  so_far.0 ++ t ∷ [],
  so_far.1 ∙ (ap (λ (rest : List TableCalls). so_far.0 ++ rest) is ∙ sym (append_assoc so_far.0 (t ∷ []) others)),
  subst (AreHeard lines (so_far.0 ++ t ∷ [])) (sym more_are) (heard_push lines so_far.0 all t hs so_far.2 one),
)

pub heard_count : (lines : List Line) (ts : List TableCalls) (all : List (Vec Heard Global)) → AreHeard lines ts all → length all ≡ length ts
heard_count lines [] [] are = refl
heard_count lines [] (x ∷ all) are = absurd are
heard_count lines (x ∷ ts) [] are = absurd are
heard_count lines (x ∷ ts) (y ∷ all) are = let rest = heard_count lines ts all are.1 in omega (arith, rest)

heard_at : (lines : List Line) (ts : List TableCalls) (all : List (Vec Heard Global)) (i : ℕ) → AreHeard lines ts all → i < length ts → IsHeardBy lines (slice_get (map calls_at ts) i) (slice_get (entries_of all) i)
heard_at lines [] all i are h = absurd (omega arith)
heard_at lines (t ∷ ts) [] i are h = absurd are
heard_at lines (t ∷ ts) (hs ∷ all) zero are h = are.0
heard_at lines (t ∷ ts) (hs ∷ all) (suc i) are h = heard_at lines ts all i are.1 (omega arith)

pub heard_places : (lines : List Line) (ts : List TableCalls) (all : List (Vec Heard Global)) (places : List (Option ℕ)) → AreHeard lines ts all → AreKept (length ts) places
    → AllZip (IsHeardBy lines) (map (kept_in (map calls_at ts)) places) (map (kept_in (entries_of all)) places)
heard_places lines ts all [] are kept = tt
heard_places lines ts all (None ∷ ps) are kept = (tt, heard_places lines ts all ps are kept.1)
heard_places lines ts all (Some i ∷ ps) are kept = (heard_at lines ts all i are kept.0, heard_places lines ts all ps are kept.1)
