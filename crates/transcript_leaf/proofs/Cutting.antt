-- Of a leaf something is cut off for a lane, before any has played.
use Rattle.std.proofs.Common.{◌≡◌, ◌⊎◌, inl, inr, ℕ, ◌<◌, ◌≤◌, Bool, true, false, List, [], ◌∷◌, ◌++◌, length, map, Option, Some, None, refl, sym, ap, subst, ◌∙◌, arith, IfSome, MatchBool}
use Rattle.std.specs.Prelude.{is_some, slice_get}
use Rattle.std.proofs.lemmas.Bool.{cases_lt}
use Rattle.std.proofs.lemmas.Option.{slice_get_past}
use Rattle.berth_face.specs.Berth.{Meaning}
use Rattle.leaf_history.specs.History.{Entry}
use Rattle.leaf_table.specs.Turns.{Shared}
use Rattle.leaf_table.specs.Calls.{SeatView, name_of}
use Rattle.transcript.specs.Pieces.{Piece, PlayedItem, Burst, all_pieces}
use Rattle.transcript.specs.Histories.{InOrder, shown}
use Rattle.transcript.specs.Transcript.{Known, base_state_of}
use Rattle.leaf_moves.specs.Stage.{Leaf, seated_of}
use Rattle.leaf_moves.specs.Holds.{Hold, caller_in, steward_in}
use Rattle.leaf_moves.specs.Lanes.{CutsOffAt}
use Rattle.transcript_leaf.specs.Session.{AreApart, HoldsBoth, IsCallers, IsStewards, LeafHeld, LeafSession, OwnedBy}
use Rattle.transcript_leaf.proofs.Lists.{element_at}
use Rattle.transcript_leaf.proofs.Lending.{order_none}
use Rattle.transcript_leaf.proofs.Parts.{IsPartOf, SplitAt, owned_callers, owned_stewards, split_at, table_part}
use Rattle.transcript_leaf.proofs.Places.{caller_beyond}
use Rattle.transcript_leaf.proofs.Sessions.{many_seats, many_tables}
use Rattle.transcript_leaf.proofs.Ids.{kept_both, none_before}
use Rattle.transcript_leaf.proofs.Merging.{AreBoth, both_sum}

module _ {B : Type 0} (meaning : B → Meaning) (number : ℕ) (names : List (List ℕ)) (known : Option Known) (old : Meaning) (before : List Piece) (start : ℕ → List Entry) (items : List PlayedItem)
    (x : Hold B) (now : LeafSession meaning number names known old before start items x) where
  -- each seat is what it is
  pub seats_are : (place : ℕ) → IfSome (steward_in x.held place) IsStewards × IfSome (caller_in x.callers place) IsCallers
  seats_are place = by (cases_lt place (length names))
    where
      none : (h : Option (Leaf × B)) → ((l : Leaf) (b : B) → h ≡ Some (l, b) → slice_get (seated_of l).seats place ≡ None) → steward_in h place ≡ None
      none None f = refl
      none (Some h) f = f h.0 h.1 refl

      by : (place < length names) ⊎ (length names ≤ place) → IfSome (steward_in x.held place) IsStewards × IfSome (caller_in x.callers place) IsCallers
      by (inl below) =
          let t = element_at x.tables place (omega (arith, below, many_tables x now)) in
          let s = now.tables place t.0 t.1 in
          (s.stewards, s.callers)
      by (inr beyond) = (
        subst (λ (s : Option SeatView). IfSome s IsStewards) (sym (none x.held (λ l b e. slice_get_past (seated_of l).seats place
            (omega (arith, beyond, many_seats x now l b e, now.callers_are))))) tt,
        subst (λ (s : Option SeatView). IfSome s IsCallers) (sym (caller_beyond x.callers place (omega (arith, beyond, now.callers_are)))) tt,
      )

-- what was of one is of the first, or of the second
abbrev Side : {X : Type 0} → Option X → Option X → Option X → Type 0
Side off rest x = ((off ≡ x) × (rest ≡ None)) ⊎ ((off ≡ None) × (rest ≡ x))

side_of : {X : Type 0} (acts : Bool) (off rest x : Option X) → MatchBool acts ((off ≡ x) × (rest ≡ None)) ((off ≡ None) × (rest ≡ x)) → Side off rest x
side_of true off rest x h = inl h
side_of false off rest x h = inr h

side_parts : {X : Type 0} (off rest x : Option X) → Side off rest x → ((off ≡ None) ⊎ (off ≡ x)) × ((rest ≡ None) ⊎ (rest ≡ x))
side_parts off rest x (inl h) = (inr h.0, inl h.1)
side_parts off rest x (inr h) = (inl h.0, inr h.1)

side_held : {X : Type 0} (off rest x : Option X) → Side off rest x
    → ((is_some rest ≡ false → is_some x ≡ is_some off) × (is_some off ≡ false → is_some x ≡ is_some rest)) × ((is_some rest ≡ false) ⊎ (is_some off ≡ false))
side_held off rest x (inl h) = rw (h.0, h.1) ((λ e. refl, λ e. e), inl refl)
side_held off rest x (inr h) = rw (h.0, h.1) ((λ e. e, λ e. refl), inr refl)

-- so is the steward's seat
side_seat : {B : Type 0} (off rest x : Option (Leaf × B)) (place : ℕ) → Side off rest x → Side (steward_in off place) (steward_in rest place) (steward_in x place)
side_seat off rest x place (inl h) = inl (ap (λ o. steward_in o place) h.0, ap (λ o. steward_in o place) h.1)
side_seat off rest x place (inr h) = inr (ap (λ o. steward_in o place) h.0, ap (λ o. steward_in o place) h.1)

side_both : (off rest x : Option SeatView) → Side off rest x → AreBoth (OwnedBy rest) (OwnedBy off) (OwnedBy x)
side_both off rest x (inl h) = rw (h.0, h.1) (none_before x)
side_both off rest x (inr h) = rw (h.0, h.1) (kept_both x)

side_apart : (off rest x : Option SeatView) → Side off rest x → (id : ℕ) → OwnedBy rest id → OwnedBy off id → ⊥
side_apart off rest x (inl h) id a b = subst (λ (s : Option SeatView). OwnedBy s id) h.1 a
side_apart off rest x (inr h) id a b = subst (λ (s : Option SeatView). OwnedBy s id) h.0 b

module _ {B : Type 0} where
  -- the steward's seat is that which was there, or none is
  steward_part : (x y : Hold B) (place : ℕ) → (y.held ≡ None) ⊎ (y.held ≡ x.held) → IfSome (steward_in y.held place) (λ s. steward_in x.held place ≡ Some s)
  steward_part x y place (inl none) = subst (λ (h : Option (Leaf × B)). IfSome (steward_in h place) (λ s. steward_in x.held place ≡ Some s)) (sym none) tt
  steward_part x y place (inr same) = subst (λ (h : Option (Leaf × B)). IfSome (steward_in h place) (λ s. steward_in x.held place ≡ Some s)) (sym same) (itself (steward_in x.held place))
    where
      itself : (o : Option SeatView) → IfSome o (λ s. o ≡ Some s)
      itself None = tt
      itself (Some s) = refl

  -- a part of what is held, where nothing was printed
  part_session : (meaning : B → Meaning) (number : ℕ) (names : List (List ℕ)) (known : Option Known) (old : Meaning) (before : List Piece) (start : ℕ → List Entry) (items items' : List PlayedItem) (x y : Hold B)
      → LeafSession meaning number names known old before start items x → all_pieces items ≡ [] → all_pieces items' ≡ [] → ((place low high : ℕ) → low ≤ high → InOrder number place low items' high)
      → y.tables ≡ x.tables → length y.callers ≡ length x.callers → (y.held ≡ None) ⊎ (y.held ≡ x.held) → ((place : ℕ) → IfSome (caller_in y.callers place) (λ s. IsPartOf s (caller_in x.callers place)))
      → LeafSession meaning number names known old before start items' y
  part_session meaning number names known old before start items items' x y now none none_then order tables count held parts = record {
    named = ap (λ (ts : List Shared). map name_of ts) tables ∙ now.named;
    callers_are = count ∙ now.callers_are;
    tables = λ place t at.
        table_part (base_state_of known (name_of t)) (start place) number place items items' (steward_in x.held place) (caller_in x.callers place) (now.tables place t (was place t at))
        (ap (λ (ps : List Piece). shown number place ps) none) (ap (λ (ps : List Piece). shown number place ps) none_then) (λ high l. order place (length (start place)) high l)
        (steward_in y.held place) (caller_in y.callers place) (steward_part x y place held) (parts place);
    known_base = λ place t at. now.known_base place t (was place t at);
    held = λ l b e. by held l b e;
  }
    where
      was : (place : ℕ) (t : Shared) → slice_get y.tables place ≡ Some t → slice_get x.tables place ≡ Some t
      was place t at = ap (λ (ts : List Shared). slice_get ts place) (sym tables) ∙ at

      clash : (h : Option (Leaf × B)) (p : Leaf × B) → h ≡ None → h ≡ Some p → ⊥
      clash h p a b = cc

      by : (y.held ≡ None) ⊎ (y.held ≡ x.held) → (l : Leaf) (b : B) → y.held ≡ Some (l, b) → (map name_of (seated_of l).tables ≡ map name_of y.tables) × LeafHeld number names known old (before ++ all_pieces items') l (meaning b)
      by (inl gone) l b e = absurd (clash y.held (l, b) gone e)
      by (inr same) l b e =
          let h = now.held l b (sym same ∙ e) in
          (h.0 ∙ ap (λ (ts : List Shared). map name_of ts) (sym tables), subst (λ (ps : List Piece). LeafHeld number names known old (before ++ ps) l (meaning b)) (none ∙ sym none_then) h.1)

  module _ (meaning : B → Meaning) (number : ℕ) (names : List (List ℕ)) (known : Option Known) (old : Meaning) (before : List Piece) (start : ℕ → List Entry)
      (needs : ℕ → Bool) (acts : Bool) (x off rest : Hold B) (now : LeafSession meaning number names known old before start (Burst [] ∷ []) x) (cut : CutsOffAt needs acts x off rest) where
    split : (place : ℕ) → SplitAt (caller_in x.callers place) (caller_in off.callers place) (caller_in rest.callers place)
    split place = split_at (needs place) (caller_in x.callers place) (caller_in off.callers place) (caller_in rest.callers place)
        (seats_are meaning number names known old before start (Burst [] ∷ []) x now place).1 (cut.seats place)

    side : Side off.held rest.held x.held
    side = side_of acts off.held rest.held x.held cut.held

    seat_side : (place : ℕ) → Side (steward_in off.held place) (steward_in rest.held place) (steward_in x.held place)
    seat_side place = side_seat off.held rest.held x.held place side

    cut_off : LeafSession meaning number names known old before start [] off
    cut_off = part_session meaning number names known old before start (Burst [] ∷ []) [] x off now refl refl (λ place low high l. l) cut.tables.0 cut.counts.0 (side_parts off.held rest.held x.held side).0 (λ place. (split place).off_part)

    cut_rest : LeafSession meaning number names known old before start (Burst [] ∷ []) rest
    cut_rest = part_session meaning number names known old before start (Burst [] ∷ []) (Burst [] ∷ []) x rest now refl refl (λ place low high l. order_none number place low high l) cut.tables.1 cut.counts.1
        (side_parts off.held rest.held x.held side).1 (λ place. (split place).rest_part)

    cut_apart : AreApart rest off
    cut_apart place id (inl a) (inl b) = side_apart (steward_in off.held place) (steward_in rest.held place) (steward_in x.held place) (seat_side place) id a b
    cut_apart place id (inl a) (inr b) =
        let none = owned_stewards (steward_in rest.held place) id (seats_are meaning number names known old before start (Burst [] ∷ []) rest cut_rest place).0 a in
        let some = owned_callers (caller_in off.callers place) id (seats_are meaning number names known old before start [] off cut_off place).1 b in
        absurd (omega (arith, none, some))
    cut_apart place id (inr a) (inl b) =
        let none = owned_stewards (steward_in off.held place) id (seats_are meaning number names known old before start [] off cut_off place).0 b in
        let some = owned_callers (caller_in rest.callers place) id (seats_are meaning number names known old before start (Burst [] ∷ []) rest cut_rest place).1 a in
        absurd (omega (arith, none, some))
    cut_apart place id (inr a) (inr b) = (split place).apart id a b

    cut_both : HoldsBoth rest off x
    cut_both =
        let both = side_held off.held rest.held x.held side in record {
          ids = λ place id.
              both_sum (OwnedBy (steward_in rest.held place)) (OwnedBy (steward_in off.held place)) (OwnedBy (steward_in x.held place))
              (OwnedBy (caller_in rest.callers place)) (OwnedBy (caller_in off.callers place)) (OwnedBy (caller_in x.callers place))
              (side_both (steward_in off.held place) (steward_in rest.held place) (steward_in x.held place) (seat_side place)) (split place).both id;
          held = both.0;
          one = both.1;
        }

    -- something is cut off for a lane, before any has played
    pub leaf_cuts : LeafSession meaning number names known old before start [] off × LeafSession meaning number names known old before start (Burst [] ∷ []) rest × AreApart rest off × HoldsBoth rest off x
    leaf_cuts = (cut_off, cut_rest, cut_apart, cut_both)
