-- A burst of a leaf begins, and ends behind what was before it.
use Rattle.std.proofs.Common.{◌≡◌, ℕ, ◌+◌, ◌<◌, ◌≤◌, List, [], ◌∷◌, ◌++◌, length, map, Option, Some, refl, sym, ap, subst, ◌∙◌, le_refl, arith}
use Rattle.std.specs.Prelude.{slice_get}
use Rattle.std.specs.List.{AllByRecursion, flat_map}
use Rattle.std.proofs.lemmas.Grind.{flat_map-append}
use Rattle.std.proofs.lemmas.List.{append-nil, append_assoc}
use Rattle.std.proofs.lemmas.List.Sorted.{IsPermutation-refl}
use Rattle.berth_face.specs.Berth.{Meaning}
use Rattle.leaf_history.specs.History.{Entry, LegalFrom}
use Rattle.leaf_table.specs.Turns.{Shared}
use Rattle.leaf_table.specs.Calls.{SeatView, OwnsTheRest, name_of, seen_of}
use Rattle.transcript.specs.Pieces.{Piece, Played, PlayedItem, One, Burst, all_pieces, pieces_in}
use Rattle.transcript.specs.Histories.{BaseState, InOrder, Rises, Shown, shown, shown_in}
use Rattle.transcript.specs.Transcript.{Known, base_state_of}
use Rattle.leaf_moves.specs.Stage.{Leaf, seated_of}
use Rattle.leaf_moves.specs.Holds.{Hold, caller_in, seen_by, seen_in, steward_in}
use Rattle.transcript_leaf.specs.Session.{AreMet, AreSame, IsWhole, LeafHeld, LeafSession, TableSession}
use Rattle.transcript_leaf.proofs.Lists.{element_at, within}
use Rattle.transcript_leaf.proofs.Tables.{table_lent}
use Rattle.transcript_leaf.proofs.Backs.{ones_rise, plays_ones}
use Rattle.transcript_leaf.proofs.Telling.{pieces_append, retell}
use Rattle.transcript_leaf.proofs.Growing.{whole_still}
use Rattle.transcript_leaf.proofs.Places.{caller_is, same_name}
use Rattle.transcript_leaf.proofs.Sessions.{many_seats, many_tables}
use Rattle.transcript_leaf.proofs.Merging.{rises_lower, rises_most}

-- ---- one table

-- lanes of which none has played yet
pub order_none : (number place low high : ℕ) → low ≤ high → InOrder number place low (Burst [] ∷ []) high
order_none number place low high l = (high, (l, tt), le_refl high)

-- all that was seen is the beginning of the burst
table_lends : (g : BaseState) (start : List Entry) (number place : ℕ) (items : List PlayedItem) (v c : SeatView) → TableSession g start number place items (Some v) (Some c) → seen_of v ≡ seen_of c
    → TableSession g (seen_of c) number place (Burst [] ∷ []) (Some v) (Some c)
table_lends g start number place items v c t same = record {
  stewards = t.stewards;
  callers = t.callers;
  met = [];
  since = [];
  seen_steward = same ∙ sym (append-nil (seen_of c));
  seen_caller = sym (append-nil (seen_of c));
  alone = (λ x. refl, λ x. refl);
  told = [];
  later = [];
  lines = IsPermutation-refl no_lines;
  tells = refl;
  tells_later = refl;
  order = order_none number place (length (seen_of c)) (length (seen_of c) + 0) (omega arith);
  legal = subst (λ (es : List Entry). LegalFrom g.founded g.base es) (sym t.seen_caller ∙ sym (append-nil (seen_of c))) t.legal;
}
  where
    no_lines : List Shown
    no_lines = []

-- ---- the numbers of lanes that were played one after another

rises_split : (low high : ℕ) (xs ys : List Shown) → Rises low (xs ++ ys) high → Rises low xs high × Rises low ys high
rises_split low high [] ys h = (rises_most low high ys h, h)
rises_split low high (x ∷ xs) ys h =
    let rest = rises_split x.number high xs ys h.1 in
    ((h.0, rest.0), rises_lower low x.number ys high (omega (arith, h.0)) rest.1)

shown_pieces : (number place : ℕ) (xs ys : List Played) → shown number place (pieces_in (xs ++ ys)) ≡ shown number place (pieces_in xs) ++ shown number place (pieces_in ys)
shown_pieces number place xs ys =
    ap (λ (ps : List Piece). shown number place ps) (flat_map-append (λ (p : Played). p.pieces) xs ys) ∙ flat_map-append (shown_in number place) (pieces_in xs) (pieces_in ys)

each_rises : (number place low high : ℕ) (lanes : List (List Played)) → Rises low (shown number place (pieces_in (flat_map (λ lane. lane) lanes))) high
    → AllByRecursion (λ lane. Rises low (shown number place (pieces_in lane)) high) lanes
each_rises number place low high [] h = tt
each_rises number place low high (lane ∷ lanes) h =
    let two = rises_split low high (shown number place (pieces_in lane)) (shown number place (pieces_in (flat_map (λ l. l) lanes)))
    (subst (λ (ss : List Shown). Rises low ss high) (shown_pieces number place lane (flat_map (λ l. l) lanes)) h) in
    (two.0, each_rises number place low high lanes two.1)

pub order_in_turn : (number place low high : ℕ) (items : List PlayedItem) (lanes : List (List Played))
    → InOrder number place low (items ++ map One (flat_map (λ lane. lane) lanes)) high → InOrder number place low (items ++ Burst lanes ∷ []) high
order_in_turn number place low high [] lanes h =
    let all = ones_rise number place low high (flat_map (λ l. l) lanes) h in
    (high, (rises_most low high (shown number place (pieces_in (flat_map (λ l. l) lanes))) all, each_rises number place low high lanes all), le_refl high)
order_in_turn number place low high (x ∷ xs) lanes h = (h.0, h.1, order_in_turn number place h.0 high xs lanes h.2)

pub pieces_in_turn : (items : List PlayedItem) (lanes : List (List Played)) → all_pieces (items ++ Burst lanes ∷ []) ≡ all_pieces (items ++ map One (flat_map (λ lane. lane) lanes))
pieces_in_turn items lanes =
    pieces_append items (Burst lanes ∷ []) ∙ (ap (λ (ps : List Piece). all_pieces items ++ ps) same ∙ sym (pieces_append items (map One (flat_map (λ l. l) lanes))))
  where
    same : all_pieces (Burst lanes ∷ []) ≡ all_pieces (map One (flat_map (λ l. l) lanes))
    same = ap (λ (ps : List Played). pieces_in ps) (append-nil (flat_map (λ l. l) lanes) ∙ sym (plays_ones (flat_map (λ l. l) lanes)))

-- ---- the leaf

module _ {B : Type 0} (meaning : B → Meaning) (number : ℕ) (names : List (List ℕ)) (known : Option Known) (old : Meaning) (before : List Piece) (start : ℕ → List Entry) (items : List PlayedItem) where
  -- lanes that were played one after another are a burst too
  pub leaf_in_turn : (lanes : List (List Played)) (x : Hold B) → LeafSession meaning number names known old before start (items ++ map One (flat_map (λ lane. lane) lanes)) x
      → LeafSession meaning number names known old before start (items ++ Burst lanes ∷ []) x
  leaf_in_turn lanes x now = record {
    named = now.named;
    callers_are = now.callers_are;
    tables = λ place t at.
        retell (base_state_of known (name_of t)) (start place) number place (items ++ map One (flat_map (λ l. l) lanes)) (items ++ Burst lanes ∷ []) (steward_in x.held place) (caller_in x.callers place) (now.tables place t at)
        (ap (λ (ps : List Piece). shown number place ps) (pieces_in_turn items lanes)) (λ high h. order_in_turn number place (length (start place)) high items lanes h);
    known_base = now.known_base;
    held = λ l b e. let h = now.held l b e in (h.0, subst (λ (ps : List Piece). LeafHeld number names known old (before ++ ps) l (meaning b)) (sym (pieces_in_turn items lanes)) h.1);
  }

  module _ (x : Hold B) (was : LeafSession meaning number names known old before start items x) (met : AreMet x) (whole : IsWhole x) where
    -- the seats of each table
    pub seats_at : (place : ℕ) (t : Shared) → slice_get x.tables place ≡ Some t → (v c : SeatView) × (steward_in x.held place ≡ Some v) × (caller_in x.callers place ≡ Some c) × OwnsTheRest c
    seats_at place t at =
        let below : place < length x.callers = omega (arith, within x.tables place t at, was.callers_are, many_tables x was) in
        let c = whole.seats place below in
        let v = element_at (seated_of whole.leaf).seats place (omega (arith, below, many_seats x was whole.leaf whole.berth whole.held)) in
        (v.0, c.0, ap (λ (h : Option (Leaf × B)). steward_in h place) whole.held ∙ v.1, caller_is x.callers place (Some c.0) c.1, c.2)

    -- a table's session, over the seats that are there
    pub table_whole : (place : ℕ) (t : Shared) (v c : SeatView) → slice_get x.tables place ≡ Some t → steward_in x.held place ≡ Some v → caller_in x.callers place ≡ Some c
        → TableSession (base_state_of known (name_of t)) (start place) number place items (Some v) (Some c)
    table_whole place t v c at sat called =
        subst (λ (d : Option SeatView). TableSession (base_state_of known (name_of t)) (start place) number place items (Some v) d) called
        (subst (λ (s : Option SeatView). TableSession (base_state_of known (name_of t)) (start place) number place items s (caller_in x.callers place)) sat (was.tables place t at))

    -- what has been seen of it
    pub seen_is : (place : ℕ) (v c : SeatView) → steward_in x.held place ≡ Some v → caller_in x.callers place ≡ Some c → seen_in x place ≡ seen_of c
    seen_is place v c sat called = ap (λ (d : Option SeatView). seen_by (steward_in x.held place) d) called ∙ ap (λ (s : Option SeatView). seen_by s (Some c)) sat

    pub leaf_lends : LeafSession meaning number names known old (before ++ all_pieces items) (λ place. seen_in x place) (Burst [] ∷ []) x
    leaf_lends = record {
      named = was.named;
      callers_are = was.callers_are;
      tables = λ place t at.
          let s = seats_at place t at in
          let v = s.0 in
          let c = s.1 in
          rw (s.2, s.3) (table_lends (base_state_of known (name_of t)) (start place) number place items v c (table_whole place t v c at s.2 s.3) (met place v c s.2 s.3).0);
      known_base = was.known_base;
      held = λ l b e. let h = was.held l b e in (h.0, subst (λ (ps : List Piece). LeafHeld number names known old ps l (meaning b)) (sym (append-nil (before ++ all_pieces items))) h.1);
    }

    -- ---- it ends

    module _ (lanes : List (List Played)) (y : Hold B) (same : AreSame x y)
        (now : LeafSession meaning number names known old (before ++ all_pieces items) (λ place. seen_in x place) (Burst lanes ∷ []) y) where
      y_whole : IsWhole y
      y_whole = whole_still meaning number names known old (before ++ all_pieces items) (λ place. seen_in x place) (Burst lanes ∷ []) x y was.callers_are now same whole

      table_joined : (place : ℕ) (t : Shared) → slice_get y.tables place ≡ Some t
          → TableSession (base_state_of known (name_of t)) (start place) number place (items ++ Burst lanes ∷ []) (steward_in y.held place) (caller_in y.callers place)
      table_joined place t at =
          let u = same_name names y.tables x.tables now.named was.named place t at in
          let s = seats_at place u.0 u.1 in
          let v = s.0 in
          let c = s.1 in
          let below : place < length y.callers = omega (
            arith,
            within y.tables place t at,
            now.callers_are,
            many_tables y now,
          ) in
          let c' = y_whole.seats place below in
          let v' = element_at (seated_of y_whole.leaf).seats place (omega (
            arith,
            below,
            many_seats y now y_whole.leaf y_whole.berth y_whole.held,
          )) in
          let sat : steward_in y.held place ≡ Some v'.0 = ap (λ (h : Option (Leaf × B)). steward_in h place) y_whole.held ∙ v'.1 in
          let called : caller_in y.callers place ≡ Some c'.0 = caller_is y.callers place (Some c'.0) c'.1 in
          let burst : TableSession (base_state_of known (name_of t)) (seen_of c) number place (Burst lanes ∷ []) (Some v'.0) (Some c'.0) =
          rw (sat, called, s.2, s.3) at (now.tables place t at) in
          let first : TableSession (base_state_of known (name_of t)) (start place) number place items (Some v) (Some c) =
          subst (λ (n : List ℕ). TableSession (base_state_of known n) (start place) number place items (Some v) (Some c)) u.2 (table_whole place u.0 v c u.1 s.2 s.3) in
          rw (sat, called) (table_lent (base_state_of known (name_of t)) (start place) number place items lanes v c v'.0 c'.0 first (met place v c s.2 s.3).0 burst
          (rw (s.2, s.3, sat, called) at (same.ids place)))

      pub joined_on : LeafSession meaning number names known old before start (items ++ Burst lanes ∷ []) y
      joined_on = record {
        named = now.named;
        callers_are = now.callers_are;
        tables = table_joined;
        known_base = now.known_base;
        held = λ l b e.
            let h = now.held l b e in (
              h.0,
              subst (λ (ps : List Piece). LeafHeld number names known old ps l (meaning b)) (append_assoc before (all_pieces items) (all_pieces (Burst lanes ∷ []))
                  ∙ ap (λ (ps : List Piece). before ++ ps) (sym (pieces_append items (Burst lanes ∷ [])))) h.1,
            );
      }
