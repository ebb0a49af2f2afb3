-- The seats of a table are parted, before a burst has printed anything: each part has what it needs of the session.
use Rattle.std.proofs.Common.{◌≡◌, ◌⊎◌, inl, inr, ℕ, suc, ◌+◌, ◌<◌, ◌≤◌, Bool, true, false, List, [], ◌∷◌, ◌++◌, length, Option, Some, None, refl, sym, subst, ◌∙◌, arith, IsPermutation, IfSome}
use Rattle.std.proofs.lemmas.List.{append-nil, append_assoc}
use Rattle.std.proofs.lemmas.List.Sorted.{IsPermutation-refl, IsPermutation-sym}
use Rattle.turnstile.specs.Seats.{Owns, given, keeps_all_but}
use Rattle.leaf_history.specs.History.{Entry, LegalFrom}
use Rattle.leaf_history.proofs.Histories.{LegalFrom-front}
use Rattle.leaf_table.specs.Calls.{SeatView, seen_of}
use Rattle.transcript.specs.Pieces.{PlayedItem, all_pieces}
use Rattle.transcript.specs.Histories.{BaseState, InOrder, Shown, shown}
use Rattle.leaf_moves.specs.Lanes.{SplitsIf}
use Rattle.transcript_leaf.specs.Session.{IsCallers, IsStewards, OneOf, OwnedBy, TableSession}
use Rattle.transcript_leaf.proofs.Ids.{callers_own, given_back, given_callers, given_owns, keeps_callers, keeps_owns, kept_both, last_apart, parts_own, stewards_alone, stewards_own}
use Rattle.transcript_leaf.proofs.Merging.{AreBoth, AreOthers, empty_permutation, others_append, others_weaken, tells_none, tells_others}
use Rattle.transcript_leaf.proofs.Places.{some_if}

-- ---- a part of a seat

-- this caller's seat has seen as much, and owns no other ids
pub record IsPartOf (s : SeatView) (c : Option SeatView) : Type 0 where
  pub whole : SeatView
  pub is : c ≡ Some whole
  pub seen : seen_of s ≡ seen_of whole
  pub callers : IsCallers s
  pub fewer : (id : ℕ) → Owns s id → Owns whole id

-- a caller's seat is cut in two
pub record SplitAt (c off rest : Option SeatView) : Type 0 where
  pub off_part : IfSome off (λ s. IsPartOf s c)
  pub rest_part : IfSome rest (λ s. IsPartOf s c)
  pub both : AreBoth (OwnedBy rest) (OwnedBy off) (OwnedBy c)
  pub apart : (id : ℕ) → OwnedBy rest id → OwnedBy off id → ⊥

split_none : SplitAt None None None
split_none = record { off_part = tt; rest_part = tt; both = kept_both None; apart = λ id a b. a }

split_kept : (s : SeatView) → IsCallers s → SplitAt (Some s) None (Some s)
split_kept s calls = record {
  off_part = tt;
  rest_part = record { whole = s; is = refl; seen = refl; callers = calls; fewer = λ id o. o };
  both = kept_both (Some s);
  apart = λ id a b. b;
}

split_given : (s : SeatView) → 1 < s.share → IsCallers s → SplitAt (Some s) (Some (given 1 s)) (Some (keeps_all_but 1 s))
split_given s more calls = record {
  off_part = record { whole = s; is = refl; seen = refl; callers = given_callers s calls; fewer = λ id o. given_back s id calls.share o };
  rest_part = record { whole = s; is = refl; seen = refl; callers = keeps_callers s more calls; fewer = λ id o. keeps_owns s id o };
  both = λ id. (λ o. parts_own s id calls.share o, from id);
  apart = λ id a b. last_apart s calls (subst (λ (k : ℕ). Owns (keeps_all_but 1 s) k) (given_owns s id b) a);
}
  where
    from : (id : ℕ) → OwnedBy (Some (keeps_all_but 1 s)) id ⊎ OwnedBy (Some (given 1 s)) id → OwnedBy (Some s) id
    from id (inl o) = keeps_owns s id o
    from id (inr o) = given_back s id calls.share o

pub split_at : (needed : Bool) (c off rest : Option SeatView) → IfSome c IsCallers → SplitsIf needed c off rest → SplitAt c off rest
split_at needed None off rest calls h = rw (h.0, h.1) split_none
split_at true (Some s) off rest calls h = rw (h.1, h.2) (split_given s h.0 calls)
split_at false (Some s) off rest calls h = rw (h.0, h.1) (split_kept s calls)

-- ---- whose an id is

pub owned_stewards : (v : Option SeatView) (id : ℕ) → IfSome v IsStewards → OwnedBy v id → id ≡ 0
owned_stewards None id sits o = absurd o
owned_stewards (Some v) id sits o = stewards_own v id sits o

pub owned_callers : (c : Option SeatView) (id : ℕ) → IfSome c IsCallers → OwnedBy c id → 0 < id
owned_callers None id calls o = absurd o
owned_callers (Some c) id calls o = callers_own c id calls o

-- ---- the session of a part

abbrev no_lines : List Shown
no_lines = []

append_none : (xs ys : List Shown) → xs ++ ys ≡ [] → (xs ≡ []) × (ys ≡ [])
append_none [] ys e = (refl, e)
append_none (x ∷ xs) ys e = absurd cc

module _ (g : BaseState) (start : List Entry) (number place : ℕ) (items items' : List PlayedItem) (v c : Option SeatView) (t : TableSession g start number place items v c)
    (nothing : shown number place (all_pieces items) ≡ []) (nothing_then : shown number place (all_pieces items') ≡ [])
    (order : (high : ℕ) → length start ≤ high → InOrder number place (length start) items' high) where
  none_told : (t.told ≡ []) × (t.later ≡ [])
  none_told = append_none t.told t.later (empty_permutation (t.told ++ t.later) (shown number place (all_pieces items)) nothing
      (IsPermutation-sym (shown number place (all_pieces items)) (t.told ++ t.later) t.lines))

  met_others : AreOthers (OneOf v c) t.met
  met_others = tells_none (OneOf v c) (suc (length start)) t.told t.met none_told.0 t.tells

  since_others : AreOthers (OwnedBy c) t.since
  since_others = tells_none (OwnedBy c) (suc (length start) + length t.met) t.later t.since none_told.1 t.tells_later

  all_others : AreOthers (OwnedBy c) (t.met ++ t.since)
  all_others = others_append (OwnedBy c) t.met t.since (others_weaken (OneOf v c) (OwnedBy c) t.met (λ id o. inr o) met_others) since_others

  -- what has been seen since the beginning, of which nothing is told
  made_of : (v' c' : Option SeatView) (met since : List Entry) → IfSome v' IsStewards → IfSome c' IsCallers → IfSome v' (λ s. seen_of s ≡ start ++ met) → IfSome c' (λ s. seen_of s ≡ start ++ (met ++ since))
      → (c' ≡ None → since ≡ []) × (v' ≡ None → met ≡ []) → AreOthers (OneOf v' c') met → AreOthers (OwnedBy c') since
      → LegalFrom g.founded g.base (start ++ (met ++ since)) → TableSession g start number place items' v' c'
  made_of v' c' met since sits calls seen_v seen_c alone others others_since legal = record {
    stewards = sits;
    callers = calls;
    met = met;
    since = since;
    seen_steward = seen_v;
    seen_caller = seen_c;
    alone = alone;
    told = [];
    later = [];
    lines = subst (λ (ss : List Shown). IsPermutation ss []) (sym nothing_then) (IsPermutation-refl no_lines);
    tells = tells_others (OneOf v' c') (suc (length start)) [] [] met refl others;
    tells_later = tells_others (OwnedBy c') (suc (length start) + length met) [] [] since refl others_since;
    order = order (length start + length (met ++ since)) (omega arith);
    legal = legal;
  }

  front : (es more : List Entry) → LegalFrom g.founded g.base (es ++ more) → LegalFrom g.founded g.base es
  front es more h = LegalFrom-front g.founded g.base es more h

  -- the steward's seat is that which was there, or none is; and so is the callers', or a part of it
  pub table_part : (v' c' : Option SeatView) → IfSome v' (λ s. v ≡ Some s) → IfSome c' (λ s. IsPartOf s c) → TableSession g start number place items' v' c'
  table_part None None is part =
      made_of None None [] [] tt tt tt tt (λ x. refl, λ x. refl) tt tt (subst (λ (es : List Entry). LegalFrom g.founded g.base es) (sym (append-nil start)) (front start (t.met ++ t.since) t.legal))
  table_part None (Some s) is part =
      made_of None (Some s) [] (t.met ++ t.since) tt part.callers tt (part.seen ∙ some_if c (λ d. seen_of d ≡ start ++ (t.met ++ t.since)) part.whole t.seen_caller part.is) (λ x. absurd cc, λ x. refl) tt
      (others_weaken (OwnedBy c) (OwnedBy (Some s)) (t.met ++ t.since) (λ id o. subst (λ (d : Option SeatView). OwnedBy d id) (sym part.is) (part.fewer id o)) all_others) t.legal
  table_part (Some s) None is part =
      made_of (Some s) None t.met [] (some_if v IsStewards s t.stewards is) tt (some_if v (λ d. seen_of d ≡ start ++ t.met) s t.seen_steward is) tt (λ x. refl, λ x. absurd cc)
      (others_weaken (OneOf v c) (OneOf (Some s) None) t.met (λ id o. inl (subst (λ (d : Option SeatView). OwnedBy d id) (sym is) ((stewards_alone (Some s) id).0 o))) met_others) tt
      (subst (λ (es : List Entry). LegalFrom g.founded g.base (start ++ es)) (sym (append-nil t.met)) (front (start ++ t.met) t.since
      (subst (λ (es : List Entry). LegalFrom g.founded g.base es) (sym (append_assoc start t.met t.since)) t.legal)))
  table_part (Some s) (Some d) is part =
      made_of (Some s) (Some d) t.met t.since (some_if v IsStewards s t.stewards is) part.callers (some_if v (λ u. seen_of u ≡ start ++ t.met) s t.seen_steward is)
      (part.seen ∙ some_if c (λ u. seen_of u ≡ start ++ (t.met ++ t.since)) part.whole t.seen_caller part.is) (λ x. absurd cc, λ x. absurd cc)
      (others_weaken (OneOf v c) (OneOf (Some s) (Some d)) t.met wider met_others)
      (others_weaken (OwnedBy c) (OwnedBy (Some d)) t.since (λ id o. subst (λ (u : Option SeatView). OwnedBy u id) (sym part.is) (part.fewer id o)) since_others) t.legal
    where
      wider : (id : ℕ) → OneOf (Some s) (Some d) id → OneOf v c id
      wider id (inl o) = inl (subst (λ (u : Option SeatView). OwnedBy u id) (sym is) o)
      wider id (inr o) = inr (subst (λ (u : Option SeatView). OwnedBy u id) (sym part.is) (part.fewer id o))
