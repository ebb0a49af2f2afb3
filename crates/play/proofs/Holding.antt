-- The berths of leaves that are held.
use Rattle.std.proofs.Common.{◌≡◌, ℕ, List, [], ◌∷◌, Option, Some, None, length, refl, sym, ap, subst, ◌∙◌, arith}
use Rattle.std.specs.Prelude.{map, slice_get}
use Rattle.std.specs.List.{cons_option}
use Rattle.berth_face.specs.Berth.{Meaning, Passes}
use Rattle.berth_face.proofs.Moments.{passes_none}
use Rattle.leaf_moves.specs.Stage.{Leaf}
use Rattle.leaf_moves.specs.Holds.{Hold, berth_in}
use Rattle.transcript_leaf.proofs.Lists.{element_at, get_map, length_mapped, same_some, within}
use Rattle.play.specs.Played.{KeepsCounts}
use Rattle.play.specs.Runs.{berths_in}

-- as time passes, no count of faults falls
pub keeps_passed : (old new : Meaning) → Passes old new → KeepsCounts old new
keeps_passed old new time = record { tells = time.tells; region_faults = time.region_faults; disk_faults = time.disk_faults }

-- the same berth
pub keeps_same : {B : Type 0} (meaning : B → Meaning) (old new : B) → old ≡ new → KeepsCounts (meaning old) (meaning new)
keeps_same {B} meaning old new same = subst (λ (b : B). KeepsCounts (meaning old) (meaning b)) same (keeps_passed (meaning old) (meaning old) (passes_none (meaning old)))

-- where there is a berth, a leaf is held with it
pub held_there : {B : Type 0} (x : Hold B) (b : B) → berth_in x ≡ Some b → (l : Leaf) × (x.held ≡ Some (l, b))
held_there {B} x b is = by x.held is
  where
    by : (o : Option (Leaf × B)) → berth_in (record { tables = x.tables; callers = x.callers; held = o }) ≡ Some b → (l : Leaf) × (o ≡ Some (l, b))
    by None e = absurd cc
    by (Some h) e = (h.0, ap (λ (c : B). Some (h.0, c)) (same_some h.1 b e))

-- ---- leaves that are all held

-- these are their berths
abbrev pub AreHeld : {B : Type 0} → List B → List (Hold B) → Type 0
AreHeld {B} own xs = map Some own ≡ map (λ (x : Hold B). berth_in x) xs

pub held_count : {B : Type 0} (own : List B) (xs : List (Hold B)) → AreHeld own xs → length own ≡ length xs
held_count {B} own xs are =
    sym (length_mapped Some own) ∙ (ap (λ (os : List (Option B)). length os) are ∙ length_mapped (λ (x : Hold B). berth_in x) xs)

pub held_berths : {B : Type 0} (own : List B) (xs : List (Hold B)) → AreHeld own xs → berths_in xs ≡ own
held_berths [] [] are = refl
held_berths (b ∷ own) [] are = absurd cc
held_berths [] (x ∷ xs) are = absurd cc
held_berths {B} (b ∷ own) (x ∷ xs) are =
    let both = parts (Some b) (berth_in x) (map Some own) (map (λ (y : Hold B). berth_in y) xs) are in
    ap (λ (o : Option B). cons_option o (berths_in xs)) (sym both.0) ∙ ap (λ (bs : List B). b ∷ bs) (held_berths own xs both.1)
  where
    parts : (o p : Option B) (os ps : List (Option B)) → o ∷ os ≡ p ∷ ps → (o ≡ p) × (os ≡ ps)
    parts o p os ps e = (cc, cc)

-- the leaf in the place of a berth
pub held_at : {B : Type 0} (own : List B) (xs : List (Hold B)) → AreHeld own xs → (leaf : ℕ) (b : B) → slice_get own leaf ≡ Some b → (x : Hold B) × (slice_get xs leaf ≡ Some x) × (berth_in x ≡ Some b)
held_at {B} own xs are leaf b at =
    let found = element_at xs leaf (omega (arith, within own leaf b at, held_count own xs are)) in
    let was : slice_get (map Some own) leaf ≡ Some (Some b) = get_map Some own leaf b at in
    let is : slice_get (map (λ (y : Hold B). berth_in y) xs) leaf ≡ Some (berth_in found.0) = get_map (λ (y : Hold B). berth_in y) xs leaf found.0 found.1 in
    (found.0, found.1, same_some (berth_in found.0) (Some b) (sym is ∙ (ap (λ (os : List (Option B)). slice_get os leaf) (sym are) ∙ was)))
