-- A lane of a leaf is taken back: its tables' seats are joined, and the leaf comes back, where the lane had it.
use Rattle.std.proofs.Common.{◌≡◌, ◌⊎◌, inl, inr, ℕ, ◌<◌, ◌≤◌, false, List, [], ◌∷◌, ◌++◌, length, map, Option, Some, None, refl, sym, ap, subst, ◌∙◌, arith}
use Rattle.std.specs.Prelude.{is_some, slice_get}
use Rattle.std.specs.List.{flat_map}
use Rattle.std.proofs.lemmas.Grind.{flat_map-append}
use Rattle.std.proofs.lemmas.List.{append-nil, append_assoc}
use Rattle.std.proofs.lemmas.Bool.{cases_lt}
use Rattle.std.proofs.lemmas.Option.{slice_get_past}
use Rattle.berth_face.specs.Berth.{Meaning}
use Rattle.leaf_history.specs.History.{Entry}
use Rattle.leaf_table.specs.Turns.{Shared}
use Rattle.leaf_table.specs.Calls.{SeatView, name_of, seen_of}
use Rattle.transcript.specs.Pieces.{Piece, Played, One, Burst, all_pieces, pieces_in, plays_in}
use Rattle.transcript.specs.Transcript.{Known, base_state_of}
use Rattle.leaf_moves.specs.Stage.{Leaf, MeetAll, MeetsIf, seated_of}
use Rattle.leaf_moves.specs.Holds.{Hold, caller_in, seen_by, seen_in, steward_in}
use Rattle.leaf_moves.specs.Lanes.{ComesBack, JoinsIf, TakesBackAt}
use Rattle.transcript_leaf.specs.Session.{AreApart, HasNoDeed, HoldsBoth, LeafHeld, LeafSession, TableSession}
use Rattle.transcript_leaf.proofs.Terms.{Grows}
use Rattle.transcript_leaf.proofs.Backs.{joined_learns, plays_lanes, plays_ones}
use Rattle.transcript_leaf.proofs.Behind.{held_between, held_meets, held_past}
use Rattle.transcript_leaf.proofs.Standing.{seats_become}
use Rattle.transcript_leaf.proofs.Taking.{ComesBackAt, back_both, table_back}
use Rattle.transcript_leaf.proofs.TableMeets.{HasLearned, learns_if, steward_legal, told_more, told_theirs}
use Rattle.transcript_leaf.proofs.Places.{caller_beyond, leaf_met, met_at, same_name, same_pair, seats_then}
use Rattle.transcript_leaf.proofs.Sessions.{many_seats, table_held, table_of}
use Rattle.transcript_leaf.proofs.Lists.{same_some}

-- ---- what has been seen of a table

abbrev MoreThan : List Entry → List Entry → Type 0
MoreThan es fs = (more : List Entry) × (fs ≡ es ++ more)

all_more : (fs : List Entry) → MoreThan [] fs
all_more fs = (fs, refl)

no_more : (es : List Entry) → MoreThan es es
no_more es = ([], sym (append-nil es))

more_on : (es fs gs : List Entry) → MoreThan es fs → MoreThan fs gs → MoreThan es gs
more_on es fs gs a b = (a.0 ++ b.0, b.1 ∙ (ap (λ (xs : List Entry). xs ++ b.0) a.1 ∙ append_assoc es a.0 b.0))

back_sees : (v c u d t w e : Option SeatView) → JoinsIf c d t → ComesBackAt v u t w e → MoreThan (seen_by v c) (seen_by w e) × MoreThan (seen_by u d) (seen_by w e)
back_sees v c None None t w e j back = rw (back.0, back.1, j) (no_more (seen_by v c), all_more (seen_by v c))
back_sees v (Some c) None (Some d) (Some t) w e j back = let both = joined_learns c d t j in rw (back.0, back.1) ((both.0.0, both.0.1), (both.1.0, both.1.1))
back_sees None (Some c) (Some u) None (Some t) (Some w) (Some e) j back =
    (subst (λ (s : SeatView). MoreThan (seen_of s) (seen_of e)) (same_some t c j) (told_more t u e back.caller), told_theirs t u e back.caller)
back_sees None (Some c) (Some u) (Some d) (Some t) (Some w) (Some e) j back =
    let both = joined_learns c d t j in
    let on = told_more t u e back.caller in
    (more_on (seen_of c) (seen_of t) (seen_of e) (both.0.0, both.0.1) on, more_on (seen_of d) (seen_of t) (seen_of e) (both.1.0, both.1.1) on)
back_sees None None (Some u) None None (Some w) None j back = (all_more (seen_of w), subst (λ (s : SeatView). MoreThan (seen_of u) (seen_of s)) (sym back) (no_more (seen_of u)))
back_sees v c u d t w e j back = absurd (first_of (search, cc))

-- ---- the pieces

pieces_lane : (lanes : List (List Played)) (lane : List Played) → all_pieces (Burst (lanes ++ lane ∷ []) ∷ []) ≡ all_pieces (Burst lanes ∷ []) ++ pieces_in lane
pieces_lane lanes lane =
    ap (λ (ps : List Played). pieces_in ps) (plays_lanes (lanes ++ lane ∷ []) ∙ (flat_map-append (λ (l : List Played). l) lanes (lane ∷ []) ∙ (ap (λ (ps : List Played). flat_map (λ (l : List Played). l) lanes ++ ps) (append-nil lane)
    ∙ ap (λ (ps : List Played). ps ++ lane) (sym (plays_lanes lanes)))))
    ∙ flat_map-append (λ (p : Played). p.pieces) (plays_in (Burst lanes ∷ [])) lane

pieces_ones : (lane : List Played) → all_pieces (map One lane) ≡ pieces_in lane
pieces_ones lane = ap (λ (ps : List Played). pieces_in ps) (plays_ones lane)

not_both : {X : Type 0} (o : Option X) (x : X) → o ≡ Some x → is_some o ≡ false → ⊥
not_both o x a b = cc

none_is : {X : Type 0} (o : Option X) → is_some o ≡ false → o ≡ None
none_is None e = refl
none_is (Some x) e = absurd cc

module _ {B : Type 0} (meaning : B → Meaning) (number : ℕ) (names : List (List ℕ)) (known : Option Known) (old : Meaning) (before : List Piece) (start : ℕ → List Entry)
    (lanes : List (List Played)) (lane : List Played) (rest off x : Hold B)
    (main : LeafSession meaning number names known old before start (Burst lanes ∷ []) rest) (away : LeafSession meaning number names known old before start (map One lane) off)
    (apart : AreApart rest off) (one : (is_some rest.held ≡ false) ⊎ (is_some off.held ≡ false))
    (none_here : is_some rest.held ≡ false → HasNoDeed number (all_pieces (Burst lanes ∷ []))) (none_there : is_some off.held ≡ false → HasNoDeed number (pieces_in lane))
    (back : TakesBackAt meaning rest off x) where
  -- ---- who has the leaf

  -- the leaf that was away, where it was: it meets the seats that were joined
  record WasAway : Type 0 where
    leaf : Leaf
    berth : B
    leaf_then : Leaf
    is : off.held ≡ Some (leaf, berth)
    met : MeetAll leaf back.joined leaf_then x.callers (meaning berth)
    now : x.held ≡ Some (leaf_then, berth)

  abbrev Stayed : Type 0
  Stayed = (off.held ≡ None) × (x.held ≡ rest.held) × (x.callers ≡ back.joined)

  which : WasAway ⊎ Stayed
  which = by off.held refl back.held
    where
      by : (o : Option (Leaf × B)) → off.held ≡ o → ComesBack meaning o rest.held back.joined x.held x.callers → WasAway ⊎ Stayed
      by None e h = inr (e, h.0, h.1)
      by (Some l) e h = inl (record { leaf = l.0; berth = l.1; leaf_then = h.0; is = e; met = h.1; now = h.2 })

  -- the other has none then
  other_none : (w : WasAway) → is_some rest.held ≡ false
  other_none w = by one
    where
      by : (is_some rest.held ≡ false) ⊎ (is_some off.held ≡ false) → is_some rest.held ≡ false
      by (inl e) = e
      by (inr e) = absurd (not_both off.held (w.leaf, w.berth) w.is e)

  many : (w : WasAway) → length (seated_of w.leaf).seats ≡ length back.joined
  many w = many_seats off away w.leaf w.berth w.is ∙ (away.callers_are ∙ (sym main.callers_are ∙ sym back.count))

  -- ---- place by place

  steward_of : (h k : Option (Leaf × B)) (place : ℕ) → h ≡ k → steward_in h place ≡ steward_in k place
  steward_of h k place e = ap (λ (o : Option (Leaf × B)). steward_in o place) e

  abbrev Comes : ℕ → Type 0
  Comes place = ComesBackAt (steward_in rest.held place) (steward_in off.held place) (caller_in back.joined place) (steward_in x.held place) (caller_in x.callers place)

  come : (place : ℕ) → Comes place
  come place = by which
    where
      there : (w : WasAway) → (place < length back.joined) ⊎ (length back.joined ≤ place) → Comes place
      there w (inl below) =
          let m = met_at w.leaf back.joined w.leaf_then x.callers (meaning w.berth) w.met (many w) place below in
          rw (none_is rest.held (other_none w), w.is, w.now, m.at, m.at_then) m.meets
      there w (inr beyond) =
          rw (
            none_is rest.held (other_none w),
            w.is,
            w.now,
            slice_get_past (seated_of w.leaf).seats place (omega (arith, beyond, many w)),
            seats_then w.leaf back.joined w.leaf_then x.callers (meaning w.berth) w.met (many w),
            slice_get_past w.met.seats place (omega (arith, beyond, w.met.count.0, many w)),
            caller_beyond back.joined place beyond,
            caller_beyond x.callers place (omega (arith, beyond, w.met.count.1)),
          )
          (refl, refl)

      by : WasAway ⊎ Stayed → Comes place
      by (inl w) = there w (cases_lt place (length back.joined))
      by (inr h) = rw (h.0, h.1, h.2) (refl, refl)

  -- ---- the tables

  table_of_rest : (place : ℕ) (t : Shared) → slice_get x.tables place ≡ Some t → slice_get rest.tables place ≡ Some t
  table_of_rest place t at = ap (λ (ts : List Shared). slice_get ts place) (sym back.tables) ∙ at

  -- the lane's table in that place has its name
  table_of_lane : (place : ℕ) (t : Shared) → slice_get rest.tables place ≡ Some t → (u : Shared) × (slice_get off.tables place ≡ Some u) × (name_of u ≡ name_of t)
  table_of_lane place t at = same_name names rest.tables off.tables main.named away.named place t at

  table_then : (place : ℕ) (t : Shared) → slice_get x.tables place ≡ Some t
      → TableSession (base_state_of known (name_of t)) (start place) number place (Burst (lanes ++ lane ∷ []) ∷ []) (steward_in x.held place) (caller_in x.callers place)
  table_then place t at =
      let u = table_of_lane place t (table_of_rest place t at) in
      table_back (base_state_of known (name_of t)) (start place) number place lanes lane (steward_in rest.held place) (caller_in rest.callers place) (steward_in off.held place) (caller_in off.callers place)
      (caller_in back.joined place) (steward_in x.held place) (caller_in x.callers place) (main.tables place t (table_of_rest place t at))
      (subst (λ (n : List ℕ). TableSession (base_state_of known n) (start place) number place (map One lane) (steward_in off.held place) (caller_in off.callers place)) u.2 (away.tables place u.0 u.1))
      (apart place) (back.seats place) (come place)

  -- ---- the leaf

  abbrev goal : Leaf × B → Type 0
  goal h = (map name_of (seated_of h.0).tables ≡ map name_of x.tables) × LeafHeld number names known old (before ++ all_pieces (Burst (lanes ++ lane ∷ []) ∷ [])) h.0 (meaning h.1)

  stayed : off.held ≡ None → x.held ≡ rest.held → (k : Leaf) (d : B) → x.held ≡ Some (k, d) → goal (k, d)
  stayed gone same k d e =
      let h = main.held k d (sym same ∙ e) in (
        h.0 ∙ ap (λ (ts : List Shared). map name_of ts) (sym back.tables),
        subst (λ (ps : List Piece). LeafHeld number names known old ps k (meaning d))
            (append_assoc before (all_pieces (Burst lanes ∷ [])) (pieces_in lane) ∙ ap (λ (ps : List Piece). before ++ ps) (sym (pieces_lane lanes lane)))
            (held_past number names known old (before ++ all_pieces (Burst lanes ∷ [])) (pieces_in lane) k (meaning d) (none_there (ap is_some gone)) h.1),
      )

  module _ (w : WasAway) where
    -- the table of the leaf in that place
    own_table : (place : ℕ) (t : Shared) → slice_get (seated_of w.leaf).tables place ≡ Some t → (u : Shared) × (slice_get off.tables place ≡ Some u) × (name_of u ≡ name_of t)
    own_table place t at = table_of off away w.leaf w.berth w.is place t at

    learned : (place : ℕ) (t : Shared) (u s : SeatView) → slice_get (seated_of w.leaf).tables place ≡ Some t → slice_get (seated_of w.leaf).seats place ≡ Some u → slice_get (seated_of w.leaf_then).seats place ≡ Some s
        → MeetsIf u (caller_in back.joined place) s (caller_in x.callers place) → HasLearned (base_state_of known (name_of t)) u s
    learned place t u s at sat sat' meets =
        let there = own_table place t at in
        let y = same_name names off.tables x.tables away.named (ap (λ (ts : List Shared). map name_of ts) back.tables ∙ main.named) place there.0 there.1 in
        let same : name_of y.0 ≡ name_of t = y.2 ∙ there.2 in
        let session : TableSession (base_state_of known (name_of t)) (start place) number place (Burst (lanes ++ lane ∷ []) ∷ []) (Some s) (caller_in x.callers place) =
        subst (λ (n : List ℕ). TableSession (base_state_of known n) (start place) number place (Burst (lanes ++ lane ∷ []) ∷ []) (Some s) (caller_in x.callers place)) same
        (subst (λ (v : Option SeatView). TableSession (base_state_of known (name_of y.0)) (start place) number place (Burst (lanes ++ lane ∷ []) ∷ []) v (caller_in x.callers place))
        (steward_of x.held (Some (w.leaf_then, w.berth)) place w.now ∙ sat') (table_then place y.0 y.1)) in
        learns_if (base_state_of known (name_of t)) u s (caller_in back.joined place) (caller_in x.callers place)
        (table_held off away w.leaf w.berth w.is place there.0 u there.1 sat).stewards meets
        (steward_legal (base_state_of known (name_of t)) (start place) number place (Burst (lanes ++ lane ∷ []) ∷ []) s (caller_in x.callers place) session)

    came_held : LeafHeld number names known old (before ++ all_pieces (Burst (lanes ++ lane ∷ []) ∷ [])) w.leaf_then (meaning w.berth)
    came_held =
        subst (λ (ps : List Piece). LeafHeld number names known old (before ++ ps) w.leaf_then (meaning w.berth)) (sym (pieces_lane lanes lane))
        (held_meets number names known old (before ++ (all_pieces (Burst lanes ∷ []) ++ pieces_in lane)) w.leaf w.leaf_then (meaning w.berth)
        (held_between number names known old before (all_pieces (Burst lanes ∷ [])) (pieces_in lane) w.leaf (meaning w.berth) (none_here (other_none w))
        (subst (λ (ps : List Piece). LeafHeld number names known old (before ++ ps) w.leaf (meaning w.berth)) (pieces_ones lane) (away.held w.leaf w.berth w.is).1))
        (leaf_met w.leaf back.joined w.leaf_then x.callers (meaning w.berth) w.met (many w) known learned))

  came : (w : WasAway) → goal (w.leaf_then, w.berth)
  came w = (
    ap (λ (l : Leaf). map name_of (seated_of l).tables) w.met.leaf_is
        ∙ (ap (λ s. map name_of s.tables) (seats_become w.leaf w.met.seats)
        ∙ ((away.held w.leaf w.berth w.is).0 ∙ (away.named ∙ (sym main.named ∙ ap (λ (ts : List Shared). map name_of ts) (sym back.tables))))),
    came_held w,
  )

  held_then : (k : Leaf) (d : B) → x.held ≡ Some (k, d) → goal (k, d)
  held_then k d e = by which
    where
      by : WasAway ⊎ Stayed → goal (k, d)
      by (inl w) = same_pair goal (w.leaf_then, w.berth) (k, d) (sym w.now ∙ e) (came w)
      by (inr h) = stayed h.0 h.1 k d e

  many_callers : length x.callers ≡ length rest.callers
  many_callers = by which
    where
      by : WasAway ⊎ Stayed → length x.callers ≡ length rest.callers
      by (inl w) = w.met.count.1 ∙ back.count
      by (inr h) = ap (λ (cs : List (Option SeatView)). length cs) h.2 ∙ back.count

  back_on : LeafSession meaning number names known old before start (Burst (lanes ++ lane ∷ []) ∷ []) x
  back_on = record {
    named = ap (λ (ts : List Shared). map name_of ts) back.tables ∙ main.named;
    callers_are = many_callers ∙ main.callers_are;
    tables = table_then;
    known_base = λ place t at. main.known_base place t (table_of_rest place t at);
    held = held_then;
  }

  back_grows : Grows rest x × Grows off x
  back_grows = (λ place. (sees place).0, λ place. (sees place).1)
    where
      sees : (place : ℕ) → MoreThan (seen_in rest place) (seen_in x place) × MoreThan (seen_in off place) (seen_in x place)
      sees place = back_sees (steward_in rest.held place) (caller_in rest.callers place) (steward_in off.held place) (caller_in off.callers place) (caller_in back.joined place)
          (steward_in x.held place) (caller_in x.callers place) (back.seats place) (come place)

  back_holds : HoldsBoth rest off x
  back_holds = record {
    ids = λ place id. back_both (steward_in rest.held place) (caller_in rest.callers place) (steward_in off.held place) (caller_in off.callers place) (caller_in back.joined place)
        (steward_in x.held place) (caller_in x.callers place) (back.seats place) (come place) id;
    held = (first which, second which);
    one = one;
  }
    where
      first : WasAway ⊎ Stayed → is_some rest.held ≡ false → is_some x.held ≡ is_some off.held
      first (inl w) e = ap is_some w.now ∙ sym (ap is_some w.is)
      first (inr h) e = ap is_some h.1 ∙ (e ∙ sym (ap is_some h.0))

      second : WasAway ⊎ Stayed → is_some off.held ≡ false → is_some x.held ≡ is_some rest.held
      second (inl w) e = absurd (not_both off.held (w.leaf, w.berth) w.is e)
      second (inr h) e = ap is_some h.1

  -- a lane is taken back
  pub leaf_back : LeafSession meaning number names known old before start (Burst (lanes ++ lane ∷ []) ∷ []) x × HoldsBoth rest off x × Grows rest x × Grows off x
  leaf_back = (back_on, back_holds, back_grows.0, back_grows.1)
