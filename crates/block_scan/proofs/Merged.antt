-- The groups of blocks, merged one after another, and with those of the tail.
use Rattle.std.proofs.Common.{◌≡◌, ℕ, ◌+◌, ◌≤◌, ◌^◌, List, [], ◌∷◌, ◌++◌, length, ℤ, Result, Ok, Err, refl, sym, ap, subst, ◌∙◌, append_assoc, arith}
use Rattle.std.specs.Prelude.{IfOk}
use Rattle.std.specs.declared.alloc.AllocError.{AllocError}
use Rattle.std.specs.List.{AllByRecursion, AllZip, flat_map}
use Rattle.std.proofs.lemmas.List.{append-nil, length-append}
use Rattle.std.proofs.lemmas.List.Concat.{flat_map-append}
use Rattle.row_model.specs.declared.rows.Row.{Row}
use Rattle.leaf_model.specs.declared.queries.Query.{Query}
use Rattle.leaf_model.specs.declared.groups.Group.{Group}
use Rattle.leaf_model.specs.Content.{rows_from}
use Rattle.leaf_model.specs.Groups.{groups}
use Rattle.group_table.specs.Joined.{FitsGroup, IsWithin, joined}
use Rattle.group_table.specs.Kept.{MayGrow}
use Rattle.group_table.proofs.Within.{groups_grow, joined_fit}
use Rattle.row_blocks.specs.Blocks.{Block}
use Rattle.row_blocks.specs.Held.{blocks_held, rows_held}
use Rattle.block_scan.specs.Seen.{IsFolded, SeenBlock, StandFor, seen_rows}
use Rattle.block_scan.proofs.Scanned.{held_split}

abbrev pub Parts : Type 0
Parts = List (Result (List Group) AllocError)

-- all is what the blocks in front give, and the parts of the others are left
pub record AreMerged (q : Query) (views : List SeenBlock) (all : List Group) (parts : Parts) : Type 0 where
  pub front : List SeenBlock
  pub left : List SeenBlock
  pub both : front ++ left ≡ views
  pub is : all ≡ groups q (flat_map seen_rows front)
  pub within : AllByRecursion (IsWithin (length (flat_map seen_rows front))) all
  pub each : AllZip (IsFolded q) left parts

-- what was folded, by its two clauses
pub folded_both : (q : Query) (s : SeenBlock) (r : Result (List Group) AllocError) → IfOk r (λ gs. gs ≡ groups q (seen_rows s)) → IfOk r (λ gs. AllByRecursion (IsWithin (length (seen_rows s))) gs)
    → IsFolded q s r
folded_both q s (Ok gs) is within = record { is = is; within = within }
folded_both q s (Err e) is within = tt

pub none_merged : (q : Query) (views : List SeenBlock) (all : List Group) (parts rest : Parts) → all ≡ [] → rest ≡ parts → AllZip (IsFolded q) views parts → AreMerged q views all rest
none_merged q views all parts rest none same each = record {
  front = [];
  left = views;
  both = refl;
  is = none;
  within = subst (AllByRecursion (IsWithin 0)) (sym none) tt;
  each = subst (AllZip (IsFolded q) views) (sym same) each;
}

-- the block of the next part
pub record IsNext (q : Query) (views : List SeenBlock) (front : List SeenBlock) (gs : List Group) (rest : Parts) : Type 0 where
  pub view : SeenBlock
  pub left : List SeenBlock
  pub both : front ++ view ∷ left ≡ views
  pub is : gs ≡ groups q (seen_rows view)
  pub within : AllByRecursion (IsWithin (length (seen_rows view))) gs
  pub each : AllZip (IsFolded q) left rest

next_of : (q : Query) (views front left : List SeenBlock) (gs : List Group) (rest : Parts) → front ++ left ≡ views → AllZip (IsFolded q) left (Ok gs ∷ rest) → IsNext q views front gs rest
next_of q views front [] gs rest both each = absurd each
next_of q views front (view ∷ left) gs rest both each = record { view = view; left = left; both = both; is = each.0.is; within = each.0.within; each = each.1 }

module _ (q : Query) (views : List SeenBlock) (all gs : List Group) (part : Result (List Group) AllocError) (parts rest : Parts)
    (merged : AreMerged q views all parts) (front_is : parts ≡ part ∷ rest) (ok : part ≡ Ok gs) where
  next : IsNext q views merged.front gs rest
  next = next_of q views merged.front merged.left gs rest merged.both (subst (AllZip (IsFolded q) merged.left) (front_is ∙ ap (λ (p : Result (List Group) AllocError). p ∷ rest) ok) merged.each)

  abbrev before : List Row
  before = flat_map seen_rows merged.front

  rows_next : flat_map seen_rows (merged.front ++ next.view ∷ []) ≡ before ++ seen_rows next.view
  rows_next = flat_map-append seen_rows merged.front (next.view ∷ []) ∙ ap (λ (l : List Row). before ++ l) (append-nil (seen_rows next.view))

  pub next_fits : length (flat_map seen_rows views) ≤ 2 ^ 40 → AllByRecursion FitsGroup (joined all gs)
  next_fits few =
      let rest_rows = flat_map seen_rows next.left in
      let rows : flat_map seen_rows views ≡ before ++ (seen_rows next.view ++ rest_rows)
      = ap (flat_map seen_rows) (sym next.both) ∙ flat_map-append seen_rows merged.front (next.view ∷ next.left) in
      let count = ap (λ (l : List Row). length l) rows in
      joined_fit (length before) (length (seen_rows next.view)) all gs
      (omega (arith, few, count, length-append before (seen_rows next.view ++ rest_rows), length-append (seen_rows next.view) rest_rows)) merged.within next.within

  pub one_merged : (now : List Group)
      → ((m n : ℕ) → AllByRecursion (IsWithin m) all → AllByRecursion (IsWithin n) gs → AllByRecursion (IsWithin (m + n)) now)
      → ((p : Query) (xs ys : List Row) → all ≡ groups p xs → gs ≡ groups p ys → now ≡ groups p (xs ++ ys)) → AreMerged q views now rest
  one_merged now within both =
      let count : length before + length (seen_rows next.view) ≡ length (flat_map seen_rows (merged.front ++ next.view ∷ []))
      = sym (length-append before (seen_rows next.view)) ∙ ap (λ (l : List Row). length l) (sym rows_next) in
      record {
        front = merged.front ++ next.view ∷ [];
        left = next.left;
        both = append_assoc merged.front (next.view ∷ []) next.left ∙ next.both;
        is = both q before (seen_rows next.view) merged.is next.is ∙ ap (groups q) (sym rows_next);
        within = subst (λ (n : ℕ). AllByRecursion (IsWithin n) now) count (within (length before) (length (seen_rows next.view)) merged.within next.within);
        each = next.each;
      }

none_left : (q : Query) (views front left : List SeenBlock) (parts : Parts) → parts ≡ [] → front ++ left ≡ views → AllZip (IsFolded q) left parts → front ≡ views
none_left q views front [] parts none both each = sym (append-nil front) ∙ both
none_left q views front (view ∷ left) parts none both each = absurd (subst (AllZip (IsFolded q) (view ∷ left)) none each)

pub all_merged : (q : Query) (views : List SeenBlock) (all : List Group) (parts : Parts) → AreMerged q views all parts → parts ≡ []
    → (all ≡ groups q (flat_map seen_rows views)) × AllByRecursion (IsWithin (length (flat_map seen_rows views))) all
all_merged q views all parts merged none =
    let whole = none_left q views merged.front merged.left parts none merged.both merged.each in
    (merged.is ∙ ap (λ (l : List SeenBlock). groups q (flat_map seen_rows l)) whole, subst (λ (l : List SeenBlock). AllByRecursion (IsWithin (length (flat_map seen_rows l))) all) whole merged.within)

-- ---- with the tail

module _ (q : Query) (blocks : List Block) (tail : List Row) (skip : ℕ) (horizon : ℤ) (views : List SeenBlock) (stands : StandFor q blocks skip horizon views) where
  total : length (rows_held blocks tail skip horizon) ≡ length (blocks_held blocks skip horizon) + length (rows_from horizon tail)
  total = ap (λ (l : List Row). length l) (held_split blocks tail skip horizon) ∙ length-append (blocks_held blocks skip horizon) (rows_from horizon tail)

  pub few_seen : length (rows_held blocks tail skip horizon) ≤ 2 ^ 40 → length (flat_map seen_rows views) ≤ 2 ^ 40
  few_seen few = omega (arith, few, total, stands.few)

  -- onto these groups those of the tail may be folded
  pub all_start : (all : List Group) → length (rows_held blocks tail skip horizon) ≤ 2 ^ 40 → all ≡ groups q (flat_map seen_rows views) → AllByRecursion (IsWithin (length (flat_map seen_rows views))) all
      → MayGrow q (length (rows_from horizon tail)) all
  all_start all few is within = record {
    made = record { rows = flat_map seen_rows views; is = is };
    most = length (flat_map seen_rows views);
    within = within;
    few = omega (arith, few, total, stands.few);
  }

  pub all_groups : (all : List Group) → all ≡ groups q (flat_map seen_rows views) → all ≡ groups q (blocks_held blocks skip horizon)
  all_groups all is = is ∙ stands.same

  pub all_within : (now : List Group) → AllByRecursion (IsWithin (length (flat_map seen_rows views) + length (rows_from horizon tail))) now
      → AllByRecursion (IsWithin (length (rows_held blocks tail skip horizon))) now
  all_within now within = groups_grow (length (flat_map seen_rows views) + length (rows_from horizon tail)) (length (rows_held blocks tail skip horizon)) now (omega (arith, total, stands.few)) within
