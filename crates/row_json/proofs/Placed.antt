-- Cells that are put in at their places, as the members of a row come.
use Rattle.std.proofs.Common.{◌≡◌, ℕ, ◌+◌, ◌-◌, ◌<◌, ◌≤◌, List, [], ◌∷◌, ◌++◌, length, take, drop, get_or, Some, Greater, nat_cmp, ap, sym, subst, ◌∙◌, arith}
use Rattle.std.proofs.lemmas.Bool.{le-ltb}
use Rattle.std.proofs.lemmas.Cmp.{nat_list_cmp_total}
use Rattle.std.proofs.lemmas.List.{take-append-drop, drop_more}
use Rattle.std.proofs.Math.Seq.{take-add}
use Rattle.std.specs.Cmp.Lexicographic.{slice_cmp}
use Rattle.std.specs.List.{AllByRecursion}
use Rattle.std.specs.List.Sorted.{IsStrictlySortedBy}
use Rattle.std.specs.Ordering.{ordering_reverse}
use Rattle.row_model.specs.declared.rows.Value.TheVariants.{Text}
use Rattle.row_model.specs.declared.rows.Cell.{Cell}
use Rattle.row_json.specs.Row.{text_of}
use Rattle.row_json.specs.QuickRow.{Ascend, Below, IsPlace, cell_names}

-- ---- what a cell may hold

pub text_means : (s t : List ℕ) → t ≡ s → length s ≤ 65535 → text_of s ≡ Some (Text t)
text_means s t same few = rw (le-ltb 65535 (length s) few) (ap (λ u. Some (Text u)) (sym same))

-- ---- lists

pub all_append : (P : Cell → Type 0) (a b : List Cell) → AllByRecursion P (a ++ b) → AllByRecursion P a × AllByRecursion P b
all_append P [] b h = (tt, h)
all_append P (c ∷ a) b h = let both = all_append P a b h.1 in ((h.0, both.0), both.1)

pub all_both : (P : Cell → Type 0) (a b : List Cell) → AllByRecursion P a → AllByRecursion P b → AllByRecursion P (a ++ b)
all_both P [] b h more = more
all_both P (c ∷ a) b h more = (h.0, all_both P a b h.1 more)

pub by_names : (P : List ℕ → Type 0) (cs : List Cell) → AllByRecursion P (cell_names cs) → AllByRecursion (λ (c : Cell). P c.name) cs
by_names P [] h = tt
by_names P (c ∷ cs) h = (h.0, by_names P cs h.1)

-- where names ascend, those in front of one are below it
in_front : (a : List Cell) (c : Cell) (b : List Cell) → Ascend (a ++ c ∷ b) → AllByRecursion (λ (d : Cell). Below d.name c.name) a
unfolding IsStrictlySortedBy
in_front [] c b h = tt
in_front (d ∷ a) c b h = ((all_append (λ (e : Cell). Below d.name e.name) a (c ∷ b) (by_names (Below d.name) (a ++ c ∷ b) h.0)).1.0, in_front a c b h.1)

below_too : (a : List Cell) (n k : List ℕ) → Below n k → AllByRecursion (λ (d : Cell). Below d.name n) a → AllByRecursion (λ (d : Cell). Below d.name k) a
below_too [] n k h all = tt
below_too (d ∷ a) n k h all = (nat_list_cmp_total.trans d.name n k all.0 h, below_too a n k h all.1)

-- ---- the place of a name

from_place : (cells : List Cell) (i : ℕ) (c : Cell) → i < length cells → get_or cells i c ≡ c → drop i cells ≡ c ∷ drop (i + 1) cells
from_place cells i c less at = drop_more cells i c less ∙ ap (λ (d : Cell). d ∷ drop (i + 1) cells) at

up_to_place : (cells : List Cell) (i : ℕ) (c : Cell) → i < length cells → get_or cells i c ≡ c → take (i + 1) cells ≡ take i cells ++ c ∷ []
up_to_place cells i c less at = take-add i 1 cells ∙ ap (λ (ds : List Cell). take i cells ++ take 1 ds) (from_place cells i c less at)

lesser_at : (cells : List Cell) (k : List ℕ) (i : ℕ) (c : Cell) → i < length cells → get_or cells i c ≡ c → Below c.name k → Ascend cells → AllByRecursion (λ (d : Cell). Below d.name k) (take (i + 1) cells)
lesser_at cells k i c less at below ascend =
    let Q : List Cell → Type 0 = λ ds. AllByRecursion (λ (d : Cell). Below d.name k) ds in
    let whole : cells ≡ take i cells ++ c ∷ drop (i + 1) cells = sym (take-append-drop i cells) ∙ ap (λ (ds : List Cell). take i cells ++ ds) (from_place cells i c less at) in
    let front = in_front (take i cells) c (drop (i + 1) cells) (subst Ascend whole ascend) in
    subst Q (sym (up_to_place cells i c less at)) (all_both (λ (d : Cell). Below d.name k) (take i cells) (c ∷ []) (below_too (take i cells) c.name k below front) (below, tt))

-- behind a cell whose name is less
pub behind : (cells : List Cell) (k : List ℕ) (place : ℕ) (c : Cell) → 0 < place → place ≤ length cells → get_or cells (place - 1) c ≡ c → slice_cmp nat_cmp k c.name ≡ Greater → Ascend cells
    → AllByRecursion (λ (d : Cell). Below k d.name) (drop place cells) → IsPlace cells k place
behind cells k place c some inside at more ascend greater =
    let P : ℕ → Type 0 = λ n. AllByRecursion (λ (d : Cell). Below d.name k) (take n cells) in
    let below : Below c.name k = nat_list_cmp_total.antisymm c.name k ∙ ap ordering_reverse more in
    let same : (place - 1) + 1 ≡ place = omega (arith, some) in
    record {
      inside = inside;
      lesser = subst P same (lesser_at cells k (place - 1) c (omega (arith, some, inside)) at below ascend);
      greater = greater;
    }

-- in front of a cell whose name is greater
pub in_front_too : (cells : List Cell) (k : List ℕ) (place : ℕ) (c : Cell) → 0 < place → place ≤ length cells → get_or cells (place - 1) c ≡ c → Below k c.name
    → AllByRecursion (λ (d : Cell). Below k d.name) (drop place cells) → AllByRecursion (λ (d : Cell). Below k d.name) (drop (place - 1) cells)
in_front_too cells k place c some inside at less greater =
    let Q : List Cell → Type 0 = λ ds. AllByRecursion (λ (d : Cell). Below k d.name) ds in
    let same : place ≡ (place - 1) + 1 = omega (arith, some) in
    let more : Q (c ∷ drop ((place - 1) + 1) cells) = (less, subst (λ (n : ℕ). Q (drop n cells)) same greater) in
    subst Q (sym (from_place cells (place - 1) c (omega (arith, some, inside)) at)) more
