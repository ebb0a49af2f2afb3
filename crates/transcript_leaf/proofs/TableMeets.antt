-- At a table the seats meet, as far as they are there; and what the steward's learns there, and each.
use Rattle.std.proofs.Common.{◌≡◌, ◌⊎◌, inl, inr, ℕ, suc, ◌+◌, ◌≤◌, List, [], ◌++◌, length, Option, Some, None, refl, sym, ap, subst, ◌∙◌, arith, IsPermutation, IfSome}
use Rattle.std.proofs.lemmas.List.{append-nil, append_assoc, append_cancel_left, length-append, map-append}
use mathlib.Core.List.{IsPrefix}
use Rattle.turnstile.specs.Seats.{AreIds, Owns, SeesAlso}
use Rattle.turnstile.proofs.Prefixes.{prefix_whole}
use Rattle.leaf_history.specs.History.{Entry, LegalFrom}
use Rattle.leaf_history.specs.Laws.{AreCallers}
use Rattle.leaf_history.proofs.Histories.{LegalFrom-front}
use Rattle.leaf_table.specs.Turns.{TurnsTaken, told, history}
use Rattle.leaf_table.specs.Calls.{SeatView, seen_of}
use Rattle.leaf_table.proofs.Knowing.{callers_of}
use Rattle.transcript.specs.Pieces.{PlayedItem, all_pieces}
use Rattle.transcript.specs.Histories.{BaseState, InOrder, Shown, shown}
use Rattle.leaf_moves.specs.Holds.{seen_by}
use Rattle.leaf_moves.specs.Stage.{Meets, MeetsIf}
use Rattle.transcript_leaf.specs.Session.{IsStewards, OneOf, OwnedBy, TableSession}
use Rattle.transcript_leaf.proofs.Lists.{length_mapped}
use Rattle.transcript_leaf.proofs.Ids.{SameIds, callers_still, meets_same, one_same, owns_same, same_here, same_told, stewards_still}
use Rattle.transcript_leaf.proofs.Merging.{AreOthers, SameAll, all_refl, all_then, tells_append, tells_same, tells_wider}
use Rattle.transcript_leaf.proofs.Backs.{Learns, learns_by}

-- ---- what a seat learns

-- one seat has seen all that the other had
abbrev pub SeesMore : SeatView → SeatView → Type 0
SeesMore v w = (more : List Entry) × (seen_of w ≡ seen_of v ++ more)

pub told_more : (c v c' : SeatView) → SeesAlso c v c' → SeesMore c c'
told_more c v c' h =
    let own = h.longer.own in
    (history own.0, ap (λ (s : SeatView). seen_of s) h.view ∙ (ap history (sym own.1) ∙ map-append told c.seen own.0))

-- and what the other had
pub told_theirs : (c v c' : SeatView) → SeesAlso c v c' → SeesMore v c'
told_theirs c v c' h =
    let theirs = h.longer.theirs in
    (history theirs.0, ap (λ (s : SeatView). seen_of s) h.view ∙ (ap history (sym theirs.1) ∙ map-append told v.seen theirs.0))

-- the steward's seat has learned callers' entries, behind which its table's history is legal
pub record HasLearned (g : BaseState) (v w : SeatView) : Type 0 where
  pub more : List Entry
  pub callers : AreCallers more
  pub seen : seen_of w ≡ seen_of v ++ more
  pub legal : LegalFrom g.founded g.base (seen_of w)
  pub ids : SameIds v w

pub learns_if : (g : BaseState) (v v' : SeatView) (c c' : Option SeatView) → IsStewards v → MeetsIf v c v' c' → LegalFrom g.founded g.base (seen_of v') → HasLearned g v v'
learns_if g v v' (Some c) (Some c') is meets legal =
    let own = learns_by v c v' meets.steward meets.steward_learns in
    record {
      more = own.0;
      callers = callers_of v own.0 is.id (let share = is.share in omega (arith, share)) own.2;
      seen = own.1;
      legal = legal;
      ids = same_told v c v' meets.steward;
    }
learns_if g v v' None None is same legal = record {
  more = [];
  callers = tt;
  seen = ap (λ (s : SeatView). seen_of s) same ∙ sym (append-nil (seen_of v));
  legal = legal;
  ids = same_here v v' same;
}
learns_if g v v' c c' is meets legal = absurd meets

-- ---- what has been seen of the table, and who has which ids

pub sees_if : (v v' : SeatView) (c c' : Option SeatView) → MeetsIf v c v' c' → (more : List Entry) × (seen_by (Some v') c' ≡ seen_by (Some v) c ++ more)
sees_if v v' (Some c) (Some c') meets = told_more c v c' meets.caller
sees_if v v' None None same = ([], ap (λ (s : SeatView). seen_of s) same ∙ sym (append-nil (seen_of v)))
sees_if v v' c c' meets = absurd meets

-- behind it each has seen what the steward's had
pub reaches_if : (v v' : SeatView) (c c' : Option SeatView) → MeetsIf v c v' c' → (more : List Entry) × (seen_by (Some v') c' ≡ seen_of v ++ more)
reaches_if v v' (Some c) (Some c') meets = told_theirs c v c' meets.caller
reaches_if v v' None None same = ([], ap (λ (s : SeatView). seen_of s) same ∙ sym (append-nil (seen_of v)))
reaches_if v v' c c' meets = absurd meets

pub reaches_as : (seat : Option SeatView) (v' u w : SeatView) (c' : Option SeatView) → seat ≡ Some v' → u ≡ w → (more : List Entry) × (seen_by (Some v') c' ≡ seen_of u ++ more)
    → (more : List Entry) × (seen_by seat c' ≡ seen_of w ++ more)
reaches_as seat v' u w c' is same far =
    subst (λ (s : Option SeatView). (more : List Entry) × (seen_by s c' ≡ seen_of w ++ more)) (sym is)
    (subst (λ (s : SeatView). (more : List Entry) × (seen_by (Some v') c' ≡ seen_of s ++ more)) same far)

pub ids_if : (v v' : SeatView) (c c' : Option SeatView) → MeetsIf v c v' c' → SameAll (OneOf (Some v) c) (OneOf (Some v') c')
ids_if v v' (Some c) (Some c') meets =
    one_same (Some v) (Some v') (Some c) (Some c') (owns_same v v' (same_told v c v' meets.steward)) (owns_same c c' (same_told c v c' meets.caller))
ids_if v v' None None same = one_same (Some v) (Some v') None None (owns_same v v' (same_here v v' same)) (all_refl (OwnedBy None))
ids_if v v' c c' meets = absurd meets

-- of a table more has been seen, and the ids stay
abbrev pub GrowsAt : Option SeatView → Option SeatView → Option SeatView → Option SeatView → Type 0
GrowsAt v c v' c' = ((more : List Entry) × (seen_by v' c' ≡ seen_by v c ++ more)) × SameAll (OneOf v c) (OneOf v' c')

pub grows_not : (v c : Option SeatView) → GrowsAt v c v c
grows_not v c = (([], sym (append-nil (seen_by v c))), all_refl (OneOf v c))

pub grows_then : (v c w d u e : Option SeatView) → GrowsAt v c w d → GrowsAt w d u e → GrowsAt v c u e
grows_then v c w d u e a b = (
  (a.0.0 ++ b.0.0, b.0.1 ∙ (ap (λ (es : List Entry). es ++ b.0.0) a.0.1 ∙ append_assoc (seen_by v c) a.0.0 b.0.0)),
  all_then (OneOf v c) (OneOf w d) (OneOf u e) a.1 b.1,
)

pub grows_as : (v c w d v' c' w' d' : Option SeatView) → v ≡ v' → c ≡ c' → w ≡ w' → d ≡ d' → GrowsAt v' c' w' d' → GrowsAt v c w d
grows_as v c w d v' c' w' d' a b e f h =
    subst (λ (s : Option SeatView). GrowsAt s c w d) (sym a) (subst (λ (s : Option SeatView). GrowsAt v' s w d) (sym b)
    (subst (λ (s : Option SeatView). GrowsAt v' c' s d) (sym e) (subst (λ (s : Option SeatView). GrowsAt v' c' w' s) (sym f) h)))

pub grows_met : (v v' : SeatView) (c c' : Option SeatView) → MeetsIf v c v' c' → GrowsAt (Some v) c (Some v') c'
grows_met v v' c c' meets = (sees_if v v' c c' meets, ids_if v v' c c' meets)

-- a steward's seat has made entries
pub grows_made : (v w : SeatView) (c : Option SeatView) (es : List Entry) → seen_of w ≡ seen_of v ++ es → SameIds v w → GrowsAt (Some v) c (Some w) c
grows_made v w c es seen same = (by c, one_same (Some v) (Some w) c c (owns_same v w same) (all_refl (OwnedBy c)))
  where
    by : (c : Option SeatView) → (more : List Entry) × (seen_by (Some w) c ≡ seen_by (Some v) c ++ more)
    by None = (es, seen)
    by (Some s) = ([], sym (append-nil (seen_of s)))

-- ---- the session

-- of what two seats had seen, one saw what the other had and more: behind the meeting both have seen just that
met_seen : (v c : SeatView) (since : List Entry) (zs : TurnsTaken) → seen_of c ≡ seen_of v ++ since → IsPrefix c.seen zs → (zs ≡ v.seen) ⊎ (zs ≡ c.seen) → zs ≡ c.seen
met_seen v c since zs seen begins one = sym (prefix_whole c.seen zs begins (enough one))
  where
    ahead : length v.seen ≤ length c.seen
    ahead = omega (
      arith,
      length_mapped told v.seen,
      length_mapped told c.seen,
      ap (λ (es : List Entry). length es) seen,
      length-append (seen_of v) since,
    )

    enough : (zs ≡ v.seen) ⊎ (zs ≡ c.seen) → length zs ≤ length c.seen
    enough (inl is) = let n : length zs ≡ length v.seen = ap (λ (es : TurnsTaken). length es) is in omega (arith, n, ahead)
    enough (inr is) = let n : length zs ≡ length c.seen = ap (λ (es : TurnsTaken). length es) is in omega (arith, n)

both_met : (g : BaseState) (start : List Entry) (number place : ℕ) (items : List PlayedItem) (v v' c c' : SeatView)
    → TableSession g start number place items (Some v) (Some c) → Meets v c v' c' → TableSession g start number place items (Some v') (Some c')
both_met g start number place items v v' c c' t meets = record {
  stewards = stewards_still v v' (same_told v c v' meets.steward) t.stewards;
  callers = callers_still c c' (same_told c v c' meets.caller) t.callers;
  met = t.met ++ t.since;
  since = [];
  seen_steward = ap history same ∙ t.seen_caller;
  seen_caller = ap history same' ∙ (t.seen_caller ∙ ap (λ (es : List Entry). start ++ es) (sym (append-nil (t.met ++ t.since))));
  alone = (λ x. refl, λ x. absurd cc);
  told = t.told ++ t.later;
  later = [];
  lines = subst (λ (ss : List Shown). IsPermutation (shown number place (all_pieces items)) ss) (sym (append-nil (t.told ++ t.later))) t.lines;
  tells = tells_same (OneOf (Some v) (Some c)) (OneOf (Some v') (Some c')) (suc (length start)) (t.told ++ t.later) (t.met ++ t.since) (ids_if v v' (Some c) (Some c') meets)
      (tells_append (OneOf (Some v) (Some c)) (suc (length start)) t.told t.later t.met t.since t.tells
      (tells_wider (OwnedBy (Some v)) (OwnedBy (Some c)) (suc (length start) + length t.met) t.later t.since others t.tells_later));
  tells_later = refl;
  order = subst (λ (es : List Entry). InOrder number place (length start) items (length start + length es)) (sym (append-nil (t.met ++ t.since))) t.order;
  legal = subst (λ (es : List Entry). LegalFrom g.founded g.base (start ++ es)) (sym (append-nil (t.met ++ t.since))) t.legal;
}
  where
    ahead : seen_of c ≡ seen_of v ++ t.since
    ahead = t.seen_caller ∙ (sym (append_assoc start t.met t.since) ∙ ap (λ (es : List Entry). es ++ t.since) (sym t.seen_steward))

    view : v'.seen ≡ meets.steward.seen
    view = ap (λ (u : SeatView). u.seen) meets.steward.view

    same : v'.seen ≡ c.seen
    same = view ∙ met_seen v c t.since meets.steward.seen ahead meets.steward.longer.theirs meets.steward.longer.one

    same' : c'.seen ≡ c.seen
    same' = sym (meets_same v c v' c' meets) ∙ same

    -- what the steward's seat learned are others' entries
    own : Learns v v'
    own = learns_by v c v' meets.steward meets.steward_learns

    others : AreOthers (Owns v) t.since
    others = subst (λ (es : List Entry). AreOthers (Owns v) es) (append_cancel_left (seen_of v) own.0 t.since (sym own.1 ∙ (ap history same ∙ ahead))) own.2

pub table_meets : (g : BaseState) (start : List Entry) (number place : ℕ) (items : List PlayedItem) (v v' : SeatView) (c c' : Option SeatView)
    → TableSession g start number place items (Some v) c → MeetsIf v c v' c' → TableSession g start number place items (Some v') c'
table_meets g start number place items v v' (Some c) (Some c') t meets = both_met g start number place items v v' c c' t meets
table_meets g start number place items v v' None None t same = subst (λ (s : SeatView). TableSession g start number place items (Some s) None) (sym same) t
table_meets g start number place items v v' c c' t meets = absurd meets

-- behind it both have seen the same
pub same_if : (v v' : SeatView) (c c' : Option SeatView) → MeetsIf v c v' c' → IfSome c' (λ s. (seen_of v' ≡ seen_of s) × AreIds s.seen)
same_if v v' (Some c) (Some c') meets = (ap history (meets_same v c v' c' meets), meets.ids)
same_if v v' None None same = tt
same_if v v' c c' meets = absurd meets

-- what the steward's seat has seen is legal
pub steward_legal : (g : BaseState) (start : List Entry) (number place : ℕ) (items : List PlayedItem) (v : SeatView) (c : Option SeatView)
    → TableSession g start number place items (Some v) c → LegalFrom g.founded g.base (seen_of v)
steward_legal g start number place items v c t = subst (λ (es : List Entry). LegalFrom g.founded g.base es) (sym t.seen_steward)
    (LegalFrom-front g.founded g.base (start ++ t.met) t.since (subst (λ (es : List Entry). LegalFrom g.founded g.base es) (sym (append_assoc start t.met t.since)) t.legal))
