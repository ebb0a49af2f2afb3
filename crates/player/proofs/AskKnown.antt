-- What is known of leaves that are asked, by the seats at their tables.
use Rattle.std.proofs.Common.{◌≡◌, ℕ, zero, suc, ◌+◌, ◌-◌, ◌≤◌, List, [], ◌∷◌, ◌++◌, length, take, Option, Some, None, refl, sym, ap, ap₂, ◌∙◌, arith}
use Rattle.std.proofs.lemmas.List.{take-append-le}
use Rattle.std.specs.Prelude.{slice_get}
use Rattle.std.specs.List.{flat_map}
use Rattle.row_model.specs.declared.rows.Row.{Row}
use Rattle.leaf_history.specs.Calls as call
use Rattle.leaf_history.specs.Replies as reply
use Rattle.leaf_history.specs.History.{Entry, after, contents_held}
use Rattle.leaf_table.specs.declared.base.TableBase.{TableBase}
use Rattle.leaf_table.specs.declared.replies.Reply.{Reply}
use Rattle.leaf_table.specs.declared.replies.Reply.TheVariants as told
use Rattle.leaf_table.specs.Turns.{Shared, is_founded, start_of}
use Rattle.leaf_table.specs.Calls.{SeatView, Answered, IsToldAs, base_seen, seen_of}
use Rattle.aggregator.specs.declared.lists.Named.{Named}
use Rattle.aggregator.specs.Sorts.{by_leaf, named_of}
use Rattle.aggregator.specs.Partial as fan
use Rattle.aggregator.specs.Partial.{rows_of_all}
use Rattle.transcript.specs.Histories.{BaseState, rows_before}
use Rattle.leaf_moves.specs.Holds.{Hold, caller_in, base_state_at, base_states_in, histories_of, seen_by, seen_in, steward_in}
use Rattle.player.proofs.AskLines.{number_named, numbered, named_numbered}
use Rattle.player.proofs.AskSteps.{paired, paired_of}
use Rattle.player.proofs.Columns.{same_some}

-- ---- lists by leaf

same_pairs : (leaf : ℕ) (o : Option ℕ) (ns : List Named) (ps : List (ℕ × ℕ)) → length ns ≡ length ps → length (numbered leaf o ++ ns) ≡ length (paired leaf o ++ ps)
same_pairs leaf None ns ps same = same
same_pairs leaf (Some number) ns ps same = ap suc same

-- as many are named
pub named_count : (first : ℕ) (rs : List Reply) → length (by_leaf named_of first rs) ≡ length (by_leaf paired_of first rs)
named_count first [] = refl
named_count first (r ∷ rs) =
    ap (λ (ns : List Named). length (ns ++ by_leaf named_of (suc first) rs)) (named_numbered first r)
    ∙ same_pairs first (number_named r) (by_leaf named_of (suc first) rs) (by_leaf paired_of (suc first) rs) (named_count (suc first) rs)

-- and they have the same rows
pub over_named : (F : ℕ × ℕ → List Row) (G : ℕ → ℕ → List Row) (first : ℕ) (rs : List Reply)
    → ((i leaf : ℕ) (r : Reply) (n : ℕ) → leaf ≡ first + i → slice_get rs i ≡ Some r → number_named r ≡ Some n → F (leaf, n) ≡ G leaf n)
    → flat_map F (by_leaf paired_of first rs) ≡ rows_of_all G (by_leaf named_of first rs)
over_named F G first [] same = refl
over_named F G first (r ∷ rs) same =
    by (over_named F G (suc first) rs (λ i leaf s n at there is. same (suc i) leaf s n (omega (arith, at)) there is)) (number_named r) refl
    ∙ ap (λ (ns : List Named). rows_of_all G (ns ++ by_leaf named_of (suc first) rs)) (sym (named_numbered first r))
  where
    by : flat_map F (by_leaf paired_of (suc first) rs) ≡ rows_of_all G (by_leaf named_of (suc first) rs)
        → (o : Option ℕ) → number_named r ≡ o → flat_map F (paired first o ++ by_leaf paired_of (suc first) rs) ≡ rows_of_all G (numbered first o ++ by_leaf named_of (suc first) rs)
    by others None is = others
    by others (Some n) is = ap₂ (λ (xs ys : List Row). xs ++ ys) (same 0 first r n (omega arith) refl is) others

-- ---- what is known of a leaf by its seat

caller_is : (callers : List (Option SeatView)) (table : ℕ) (w : SeatView) → slice_get callers table ≡ Some (Some w) → caller_in callers table ≡ Some w
caller_is [] table w at = absurd cc
caller_is (c ∷ cs) zero w at = same_some c (Some w) at
caller_is (c ∷ cs) (suc table) w at = caller_is cs table w at

seen_is : (v c : Option SeatView) (w : SeatView) → c ≡ Some w → seen_by v c ≡ seen_of w
seen_is None c w is = ap (seen_by None) is
seen_is (Some v) c w is = ap (seen_by (Some v)) is

base_state_is : (tables : List Shared) (table : ℕ) (t : Shared) → slice_get tables table ≡ Some t → base_state_at tables table ≡ record { founded = is_founded (base_seen t); base = start_of (base_seen t) }
base_state_is [] table t at = absurd cc
base_state_is (u ∷ us) zero t at = ap (λ (s : Shared). record { founded = is_founded (base_seen s); base = start_of (base_seen s) }) (same_some u t at)
base_state_is (u ∷ us) (suc table) t at = base_state_is us table t at

module _ {B : Type 0} where
  pub histories_at : (ys : List (Hold B)) (leaf table : ℕ) (y : Hold B) (w : SeatView) → slice_get ys leaf ≡ Some y → slice_get y.callers table ≡ Some (Some w) → histories_of ys leaf table ≡ seen_of w
  histories_at [] leaf table y w at there = absurd cc
  histories_at (x ∷ xs) zero table y w at there = ap (λ (h : Hold B). seen_in h table) (same_some x y at) ∙ seen_is (steward_in y.held table) (caller_in y.callers table) w (caller_is y.callers table w there)
  histories_at (x ∷ xs) (suc leaf) table y w at there = histories_at xs leaf table y w at there

  pub base_states_at : (ys : List (Hold B)) (leaf table : ℕ) (y : Hold B) (t : Shared) → slice_get ys leaf ≡ Some y → slice_get y.tables table ≡ Some t
      → base_states_in ys leaf table ≡ record { founded = is_founded (base_seen t); base = start_of (base_seen t) }
  base_states_at [] leaf table y t at there = absurd cc
  base_states_at (x ∷ xs) zero table y t at there = ap (λ (h : Hold B). base_state_at h.tables table) (same_some x y at) ∙ base_state_is y.tables table t there
  base_states_at (x ∷ xs) (suc leaf) table y t at there = base_states_at xs leaf table y t at there

no_number : (number : ℕ) → Some number ≡ None → ⊥
no_number number is = cc

-- the number of an answer's entry is how much its seat has seen
told_number : (n : ℕ) (made : reply.EntryReply) (number : ℕ) (x : Reply) → IsToldAs n made x → number_named x ≡ Some number → number ≡ n
told_number n (reply.Groups gs) number x is named = same_some number n (sym named ∙ ap number_named is)
told_number n (reply.Added kept late) number x is named = absurd (no_number number (sym named ∙ ap number_named is))
told_number n reply.Shut number x is named = absurd (no_number number (sym named ∙ ap number_named is))
told_number n reply.Full number x is named = absurd (no_number number (sym named ∙ ap number_named is))
told_number n reply.NoMemory number x is named = absurd (no_number number (sym named ∙ ap number_named is))
told_number n (reply.Removed k) number x is named = absurd (no_number number (sym named ∙ ap number_named is))
told_number n (reply.Counted k) number x is named = absurd is
told_number n reply.Noted number x is named = absurd is

pub number_is : (base : Option TableBase) (v : SeatView) (c : call.Call) (x : Reply) (w : SeatView) (number : ℕ) → Answered base v c x w → number_named x ≡ Some number → number ≡ length w.seen
number_is base v c (told.Groups n gs) w number answered named = told_number (length w.seen) answered.1 number (told.Groups n gs) answered.3 named
number_is base v c told.Worn w number answered named = absurd cc
number_is base v c (told.Added n kept late) w number answered named = absurd cc
number_is base v c (told.Removed n rows) w number answered named = absurd cc
number_is base v c (told.Shut n) w number answered named = absurd cc
number_is base v c (told.Full n) w number answered named = absurd cc
number_is base v c (told.NoMemory n) w number answered named = absurd cc

-- the rows before an entry that a seat has seen, however its history goes on
pub rows_stay : (g : BaseState) (base : Option TableBase) (entries seen more : List Entry) (n : ℕ) → g ≡ record { founded = is_founded base; base = start_of base } → entries ≡ seen ++ more → n - 1 ≤ length seen
    → rows_before g entries n ≡ fan.rows_seen_before base seen n
rows_stay g base entries seen more n base_state goes few =
    ap₂ (λ (h : BaseState) (es : List Entry). (contents_held (after h.founded h.base es)).rows) base_state
    (ap (λ (es : List Entry). take (n - 1) es) goes ∙ take-append-le (n - 1) seen more few)
