-- A burst behind what was before it, at one table.
use Rattle.std.proofs.Common.{◌≡◌, ℕ, suc, ◌+◌, ◌≤◌, List, [], ◌∷◌, ◌++◌, length, Some, sym, ap, subst, ◌∙◌, arith, IsPermutation}
use Rattle.std.specs.List.{AllByRecursion}
use Rattle.std.proofs.lemmas.Grind.{flat_map-append}
use Rattle.std.proofs.lemmas.List.{append_assoc, append_cancel_left, append-nil, length-append}
use Rattle.std.proofs.lemmas.List.Sorted.{IsPermutation-append}
use Rattle.leaf_history.specs.History.{Entry, LegalFrom}
use Rattle.leaf_table.specs.Calls.{SeatView, seen_of}
use Rattle.transcript.specs.Pieces.{Piece, Played, PlayedItem, One, Burst, pieces_in, plays_in, plays_of}
use Rattle.transcript.specs.Histories.{BaseState, Shown, Rises, ItemRises, InOrder, shown, shown_in}
use Rattle.transcript_leaf.specs.Session.{TableSession, TellsOf, OneOf, OwnedBy}
use Rattle.transcript_leaf.proofs.Merging.{SameAll, rises_lower, tells_append, tells_nothing, tells_same}

-- ---- the order

pub each_lower : (leaf table low low' : ℕ) (lanes : List (List Played)) (high : ℕ) → low ≤ low'
    → AllByRecursion (λ lane. Rises low' (shown leaf table (pieces_in lane)) high) lanes → AllByRecursion (λ lane. Rises low (shown leaf table (pieces_in lane)) high) lanes
each_lower leaf table low low' [] high l h = tt
each_lower leaf table low low' (lane ∷ lanes) high l h = (rises_lower low low' (shown leaf table (pieces_in lane)) high l h.0, each_lower leaf table low low' lanes high l h.1)

item_lower : (leaf table low low' : ℕ) (x : PlayedItem) (high : ℕ) → low ≤ low' → ItemRises leaf table low' x high → ItemRises leaf table low x high
item_lower leaf table low low' (One p) high l h = rises_lower low low' (shown leaf table p.pieces) high l h
item_lower leaf table low low' (Burst lanes) high l h = (omega (arith, l, h.0), each_lower leaf table low low' lanes high l h.1)

order_lower : (leaf table low low' : ℕ) (xs : List PlayedItem) (high : ℕ) → low ≤ low' → InOrder leaf table low' xs high → InOrder leaf table low xs high
order_lower leaf table low low' [] high l h = omega (arith, l, h)
order_lower leaf table low low' (x ∷ xs) high l h = (h.0, item_lower leaf table low low' x h.0 l h.1, h.2)

pub order_append : (leaf table low middle high : ℕ) (xs ys : List PlayedItem) → InOrder leaf table low xs middle → InOrder leaf table middle ys high → InOrder leaf table low (xs ++ ys) high
order_append leaf table low middle high [] ys g h = order_lower leaf table low middle ys high g h
order_append leaf table low middle high (x ∷ xs) ys g h = (g.0, g.1, order_append leaf table g.0 middle high xs ys g.2 h)

-- ---- the lines

pub shown_items : (leaf table : ℕ) (xs ys : List PlayedItem) → shown leaf table (pieces_in (plays_in (xs ++ ys))) ≡ shown leaf table (pieces_in (plays_in xs)) ++ shown leaf table (pieces_in (plays_in ys))
shown_items leaf table xs ys =
    ap (λ (ps : List Played). shown leaf table (pieces_in ps)) (flat_map-append plays_of xs ys)
    ∙ (ap (λ (ps : List Piece). shown leaf table ps) (flat_map-append (λ (p : Played). p.pieces) (plays_in xs) (plays_in ys))
    ∙ flat_map-append (shown_in leaf table) (pieces_in (plays_in xs)) (pieces_in (plays_in ys)))

-- ---- the burst

-- nothing was made since the last meeting
pub nothing_since : (start met since : List Entry) (v c : List Entry) → v ≡ start ++ met → c ≡ start ++ (met ++ since) → v ≡ c → since ≡ []
nothing_since start met since v c seen_v seen_c same =
    append_cancel_left met since [] (append_cancel_left start (met ++ since) (met ++ []) (sym seen_c ∙ (sym same ∙ (seen_v ∙ ap (λ (es : List Entry). start ++ es) (sym (append-nil met))))))

-- The steward's seat took part, and had met the callers'.
pub table_lent : (g : BaseState) (start : List Entry) (leaf table : ℕ) (items : List PlayedItem) (lanes : List (List Played)) (v c v' c' : SeatView)
    → TableSession g start leaf table items (Some v) (Some c)
    → seen_of v ≡ seen_of c
    → TableSession g (seen_of c) leaf table (Burst lanes ∷ []) (Some v') (Some c')
    → SameAll (OneOf (Some v) (Some c)) (OneOf (Some v') (Some c'))
    → TableSession g start leaf table (items ++ Burst lanes ∷ []) (Some v') (Some c')
table_lent g start leaf table items lanes v c v' c' t met b same = record {
  stewards = b.stewards;
  callers = b.callers;
  met = t.met ++ b.met;
  since = b.since;
  seen_steward = b.seen_steward ∙ (ap (λ (es : List Entry). es ++ b.met) c_is ∙ append_assoc start t.met b.met);
  seen_caller = b.seen_caller ∙ whole;
  alone = (λ e. absurd cc, λ e. absurd cc);
  told = t.told ++ b.told;
  later = b.later;
  lines = subst (λ (ss : List Shown). IsPermutation ss ((t.told ++ b.told) ++ b.later)) (sym (shown_items leaf table items (Burst lanes ∷ [])))
      (subst (λ (ss : List Shown). IsPermutation (shown leaf table (pieces_in (plays_in items)) ++ shown leaf table (pieces_in (plays_in (Burst lanes ∷ [])))) ss) (sym (append_assoc t.told b.told b.later))
      (IsPermutation-append (shown leaf table (pieces_in (plays_in items))) t.told (shown leaf table (pieces_in (plays_in (Burst lanes ∷ [])))) (b.told ++ b.later)
      (subst (λ (ss : List Shown). IsPermutation (shown leaf table (pieces_in (plays_in items))) ss) (ap (λ (ss : List Shown). t.told ++ ss) no_later ∙ append-nil t.told) t.lines) b.lines));
  tells = tells_append (OneOf (Some v') (Some c')) (suc (length start)) t.told b.told t.met b.met
      (tells_same (OneOf (Some v) (Some c)) (OneOf (Some v') (Some c')) (suc (length start)) t.told t.met same t.tells)
      (subst (λ (k : ℕ). TellsOf (OneOf (Some v') (Some c')) k b.told b.met) (omega (arith, c_length)) b.tells);
  tells_later = subst (λ (k : ℕ). TellsOf (OwnedBy (Some c')) k b.later b.since) later_is b.tells_later;
  order = subst (λ (k : ℕ). InOrder leaf table (length start) (items ++ Burst lanes ∷ []) k) high_is
      (order_append leaf table (length start) (length start + length (t.met ++ t.since)) (length (seen_of c) + length (b.met ++ b.since)) items (Burst lanes ∷ []) t.order
      (subst (λ (k : ℕ). InOrder leaf table k (Burst lanes ∷ []) (length (seen_of c) + length (b.met ++ b.since))) all_length b.order));
  legal = subst (λ (es : List Entry). LegalFrom g.founded g.base es) whole b.legal;
}
  where
    none : t.since ≡ []
    none = nothing_since start t.met t.since (seen_of v) (seen_of c) t.seen_steward t.seen_caller met

    no_later : t.later ≡ []
    no_later = tells_nothing (OwnedBy (Some c)) (suc (length start) + length t.met) t.later t.since none t.tells_later

    c_is : seen_of c ≡ start ++ t.met
    c_is = sym met ∙ t.seen_steward

    c_length : length (seen_of c) ≡ length start + length t.met
    c_length = ap (λ (es : List Entry). length es) c_is ∙ length-append start t.met

    all_length : length (seen_of c) ≡ length start + length (t.met ++ t.since)
    all_length = ap (λ (es : List Entry). length es) t.seen_caller ∙ length-append start (t.met ++ t.since)

    whole : seen_of c ++ (b.met ++ b.since) ≡ start ++ ((t.met ++ b.met) ++ b.since)
    whole = ap (λ (es : List Entry). es ++ (b.met ++ b.since)) c_is ∙ (append_assoc start t.met (b.met ++ b.since) ∙ ap (λ (es : List Entry). start ++ es) (sym (append_assoc t.met b.met b.since)))

    later_is : suc (length (seen_of c)) + length b.met ≡ suc (length start) + length (t.met ++ b.met)
    later_is = omega (arith, c_length, length-append t.met b.met)

    high_is : length (seen_of c) + length (b.met ++ b.since) ≡ length start + length ((t.met ++ b.met) ++ b.since)
    high_is = omega (arith, c_length, length-append b.met b.since, length-append (t.met ++ b.met) b.since, length-append t.met b.met)
