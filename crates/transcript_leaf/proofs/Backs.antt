-- A lane that holds a caller's seat of a table is taken back.
use Rattle.std.proofs.Common.{◌≡◌, ◌⊎◌, inl, inr, ℕ, suc, ◌+◌, ◌≤◌, List, [], ◌∷◌, ◌++◌, length, map, Option, Some, None, refl, sym, ap, subst, ◌∙◌, le_refl, arith, IfSome, IsPermutation}
use Rattle.std.specs.List.{AllByRecursion, flat_map}
use Rattle.std.proofs.lemmas.Grind.{flat_map-append}
use Rattle.std.proofs.lemmas.List.{append_assoc, append_cancel_left, append-nil, length-append, map-append}
use Rattle.std.proofs.lemmas.List.Sorted.{IsPermutation-append, IsPermutation-append_comm, IsPermutation-append_left, IsPermutation-append_right, IsPermutation-trans}
use Rattle.leaf_history.specs.History.{Entry, LegalFrom}
use Rattle.leaf_table.specs.Turns.{TurnsTaken, told, history}
use Rattle.leaf_table.specs.Calls.{SeatView, seen_of}
use Rattle.turnstile.specs.Seats.{LearnsOthers, Others, Owns, SeesAlso}
use Rattle.transcript.specs.Pieces.{Piece, Played, PlayedItem, One, Burst, pieces_in, plays_in}
use Rattle.transcript.specs.Histories.{BaseState, Shown, Rises, InOrder, shown, shown_in}
use Rattle.leaf_moves.specs.Lanes.{JoinsTo}
use Rattle.transcript_leaf.specs.Session.{TableSession, TellsOf, OneOf, OwnedBy, IsCallers, IsStewards}
use Rattle.transcript_leaf.proofs.Merging.{AreBoth, AreOthers, Merged, SameAll, Split, all_back, rises_append, rises_higher, tells_append, tells_merge, tells_others, tells_same, tells_split}
use Rattle.transcript_leaf.proofs.Ids.{callers_alone, joins_same}

-- ---- the order

pub each_higher : (leaf table low : ℕ) (lanes : List (List Played)) (high high' : ℕ) → high ≤ high'
    → AllByRecursion (λ lane. Rises low (shown leaf table (pieces_in lane)) high) lanes → AllByRecursion (λ lane. Rises low (shown leaf table (pieces_in lane)) high') lanes
each_higher leaf table low [] high high' l h = tt
each_higher leaf table low (lane ∷ lanes) high high' l h = (rises_higher low (shown leaf table (pieces_in lane)) high high' l h.0, each_higher leaf table low lanes high high' l h.1)

pub each_snoc : (leaf table low : ℕ) (lanes : List (List Played)) (lane : List Played) (high : ℕ)
    → AllByRecursion (λ lane. Rises low (shown leaf table (pieces_in lane)) high) lanes → Rises low (shown leaf table (pieces_in lane)) high
    → AllByRecursion (λ lane. Rises low (shown leaf table (pieces_in lane)) high) (lanes ++ lane ∷ [])
each_snoc leaf table low [] lane high h r = (r, tt)
each_snoc leaf table low (l ∷ lanes) lane high h r = (h.0, each_snoc leaf table low lanes lane high h.1 r)

-- the numbers of a lane rise, where those of its commands do
pub ones_rise : (leaf table low high : ℕ) (lane : List Played) → InOrder leaf table low (map One lane) high → Rises low (shown leaf table (pieces_in lane)) high
ones_rise leaf table low high [] h = h
ones_rise leaf table low high (p ∷ ps) h =
    subst (λ (ss : List Shown). Rises low ss high) (sym (flat_map-append (shown_in leaf table) p.pieces (pieces_in ps)))
    (rises_append low h.0 high (shown leaf table p.pieces) (shown leaf table (pieces_in ps)) h.1 (ones_rise leaf table h.0 high ps h.2))

-- ---- the lines

pub plays_ones : (lane : List Played) → plays_in (map One lane) ≡ lane
plays_ones [] = refl
plays_ones (p ∷ ps) = ap (λ (qs : List Played). p ∷ qs) (plays_ones ps)

pub plays_lanes : (lanes : List (List Played)) → plays_in (Burst lanes ∷ []) ≡ flat_map (λ lane. lane) lanes
plays_lanes lanes = append-nil (flat_map (λ lane. lane) lanes)

pub shown_lanes : (leaf table : ℕ) (lanes : List (List Played)) (lane : List Played)
    → shown leaf table (pieces_in (plays_in (Burst (lanes ++ lane ∷ []) ∷ []))) ≡ shown leaf table (pieces_in (plays_in (Burst lanes ∷ []))) ++ shown leaf table (pieces_in (plays_in (map One lane)))
shown_lanes leaf table lanes lane =
    ap (λ (ps : List Played). shown leaf table (pieces_in ps))
    (plays_lanes (lanes ++ lane ∷ []) ∙ (flat_map-append (λ (l : List Played). l) lanes (lane ∷ []) ∙ (ap (λ (ps : List Played). flat_map (λ (l : List Played). l) lanes ++ ps) (append-nil lane)
    ∙ (ap (λ (ps : List Played). ps ++ lane) (sym (plays_lanes lanes)) ∙ ap (λ (ps : List Played). plays_in (Burst lanes ∷ []) ++ ps) (sym (plays_ones lane))))))
    ∙ (ap (λ (ps : List Piece). shown leaf table ps) (flat_map-append (λ (p : Played). p.pieces) (plays_in (Burst lanes ∷ [])) (plays_in (map One lane)))
    ∙ flat_map-append (shown_in leaf table) (pieces_in (plays_in (Burst lanes ∷ []))) (pieces_in (plays_in (map One lane))))

-- four parts, of which the middle two change places
pub four : (a b c d : List Shown) → IsPermutation ((a ++ b) ++ (c ++ d)) ((a ++ c) ++ (b ++ d))
four a b c d =
    subst (λ (xs : List Shown). IsPermutation xs ((a ++ c) ++ (b ++ d))) (sym (append_assoc a b (c ++ d)))
    (subst (λ (ys : List Shown). IsPermutation (a ++ (b ++ (c ++ d))) ys) (sym (append_assoc a c (b ++ d)))
    (IsPermutation-append_right a (b ++ (c ++ d)) (c ++ (b ++ d))
    (subst (λ (xs : List Shown). IsPermutation xs (c ++ (b ++ d))) (append_assoc b c d)
    (subst (λ (ys : List Shown). IsPermutation ((b ++ c) ++ d) ys) (append_assoc c b d)
    (IsPermutation-append_left d (b ++ c) (c ++ b) (IsPermutation-append_comm b c))))))

-- ---- what a seat learned

-- a seat has seen more since, of which it made nothing
abbrev pub Learns : SeatView → SeatView → Type 0
Learns v w = (more : List Entry) × (seen_of w ≡ seen_of v ++ more) × AreOthers (Owns v) more

pub others_of : (v : SeatView) (es : TurnsTaken) → Others v es → AreOthers (Owns v) (history es)
others_of v [] o = tt
others_of v (e ∷ es) o = (o.0, others_of v es o.1)

-- at a meeting
pub learns_by : (v u w : SeatView) → SeesAlso v u w → LearnsOthers v w → Learns v w
learns_by v u w sees others =
    let more = sees.longer.own.0 in
    let seen : w.seen ≡ v.seen ++ more = ap (λ (s : SeatView). s.seen) sees.view ∙ sym sees.longer.own.1 in
    (history more, ap history seen ∙ map-append told v.seen more, others_of v more (others more seen))

-- where two seats are joined
pub joined_seen : (c d t : SeatView) → (j : JoinsTo c d t) → t.seen ≡ j.one.seen
joined_seen c d t j = ap (λ (s : SeatView). s.seen) j.joined.view ∙ by j.joined.longer.one
  where
    by : (j.joined.seen ≡ j.one.seen) ⊎ (j.joined.seen ≡ j.other.seen) → j.joined.seen ≡ j.one.seen
    by (inl e) = e
    by (inr e) = e ∙ sym (joins_same c d t j)

pub joined_learns : (c d t : SeatView) → JoinsTo c d t → Learns c t × Learns d t
joined_learns c d t j =
    let one = learns_by c d j.one j.met.steward j.met.steward_learns in
    let other = learns_by d c j.other j.met.caller j.met.caller_learns in (
      (one.0, ap history (joined_seen c d t j) ∙ one.1, one.2),
      (other.0, ap history (joined_seen c d t j ∙ joins_same c d t j) ∙ other.1, other.2),
    )

-- what is legal of both is legal of the one that they are joined to
pub joined_legal : (g : BaseState) (c d t : SeatView) → JoinsTo c d t → LegalFrom g.founded g.base (seen_of c) → LegalFrom g.founded g.base (seen_of d) → LegalFrom g.founded g.base (seen_of t)
joined_legal g c d t j legal_c legal_d = by j.met.steward.longer.one
  where
    seen : t.seen ≡ j.met.steward.seen
    seen = joined_seen c d t j ∙ ap (λ (s : SeatView). s.seen) j.met.steward.view

    by : (j.met.steward.seen ≡ c.seen) ⊎ (j.met.steward.seen ≡ d.seen) → LegalFrom g.founded g.base (seen_of t)
    by (inl e) = subst (λ (es : List Entry). LegalFrom g.founded g.base es) (ap history (sym (seen ∙ e))) legal_c
    by (inr e) = subst (λ (es : List Entry). LegalFrom g.founded g.base es) (ap history (sym (seen ∙ e))) legal_d

-- ---- two sessions, of what is there and of the lane

module _ (g : BaseState) (start : List Entry) (leaf table : ℕ) where
  -- what the callers' seat alone has told, over what came later
  pub callers_tell : (items : List PlayedItem) (c : SeatView) (t : TableSession g start leaf table items None (Some c)) (more : List Entry) → AreOthers (Owns c) more
      → TellsOf (OwnedBy (Some c)) (suc (length start)) (t.told ++ t.later) ((t.met ++ t.since) ++ more)
  callers_tell items c t more others =
      tells_others (OwnedBy (Some c)) (suc (length start)) (t.told ++ t.later) (t.met ++ t.since) more
      (tells_append (OwnedBy (Some c)) (suc (length start)) t.told t.later t.met t.since
      (tells_same (OneOf None (Some c)) (OwnedBy (Some c)) (suc (length start)) t.told t.met (callers_alone (Some c)) t.tells) t.tells_later) others

  module _ (lanes : List (List Played)) (lane : List Played) (v c u d : Option SeatView)
      (M : TableSession g start leaf table (Burst lanes ∷ []) v c) (L : TableSession g start leaf table (map One lane) u d) where
    -- all lines are told together, of all that was seen in either
    pub joined : (w e : Option SeatView) (met since : List Entry) (front rest : List Shown) → IfSome w IsStewards → IfSome e IsCallers
        → IfSome w (λ s. seen_of s ≡ start ++ met) → IfSome e (λ s. seen_of s ≡ start ++ (met ++ since)) → (e ≡ None → since ≡ []) × (w ≡ None → met ≡ [])
        → IsPermutation ((M.told ++ M.later) ++ (L.told ++ L.later)) (front ++ rest)
        → TellsOf (OneOf w e) (suc (length start)) front met → TellsOf (OwnedBy e) (suc (length start) + length met) rest since
        → length (M.met ++ M.since) ≤ length (met ++ since) → length (L.met ++ L.since) ≤ length (met ++ since)
        → LegalFrom g.founded g.base (start ++ (met ++ since))
        → TableSession g start leaf table (Burst (lanes ++ lane ∷ []) ∷ []) w e
    joined w e met since front rest stewards callers seen_w seen_e alone same tells tells_rest main_short lane_short legal = record {
      stewards = stewards;
      callers = callers;
      met = met;
      since = since;
      seen_steward = seen_w;
      seen_caller = seen_e;
      alone = alone;
      told = front;
      later = rest;
      lines = subst (λ (ss : List Shown). IsPermutation ss (front ++ rest)) (sym (shown_lanes leaf table lanes lane))
          (IsPermutation-trans (mains ++ lanes_own) ((M.told ++ M.later) ++ (L.told ++ L.later)) (front ++ rest)
          (IsPermutation-append mains (M.told ++ M.later) lanes_own (L.told ++ L.later) M.lines L.lines) same);
      tells = tells;
      tells_later = tells_rest;
      order = (high, (omega arith, each_snoc leaf table (length start) lanes lane high main_rises lane_rises), le_refl high);
      legal = legal;
    }
      where
        mains : List Shown
        mains = shown leaf table (pieces_in (plays_in (Burst lanes ∷ [])))

        lanes_own : List Shown
        lanes_own = shown leaf table (pieces_in (plays_in (map One lane)))

        high : ℕ
        high = length start + length (met ++ since)

        main_rises : AllByRecursion (λ lane. Rises (length start) (shown leaf table (pieces_in lane)) high) lanes
        main_rises = each_higher leaf table (length start) lanes M.order.0 high (omega (arith, M.order.2, main_short)) M.order.1.1

        lane_rises : Rises (length start) (shown leaf table (pieces_in lane)) high
        lane_rises = rises_higher (length start) (shown leaf table (pieces_in lane)) (length start + length (L.met ++ L.since)) high (omega (arith, lane_short))
            (ones_rise leaf table (length start) (length start + length (L.met ++ L.since)) lane L.order)

-- ---- a lane that holds a caller's seat

pub back_calls : (g : BaseState) (start : List Entry) (leaf table : ℕ) (lanes : List (List Played)) (lane : List Played) (v : Option SeatView) (c d t : SeatView)
    → TableSession g start leaf table (Burst lanes ∷ []) v (Some c)
    → TableSession g start leaf table (map One lane) None (Some d)
    → ((id : ℕ) → OneOf v (Some c) id → Owns d id → ⊥)
    → JoinsTo c d t
    → IsCallers t
    → AreBoth (Owns c) (Owns d) (Owns t)
    → TableSession g start leaf table (Burst (lanes ++ lane ∷ []) ∷ []) v (Some t)
back_calls g start leaf table lanes lane v c d t M L apart j callers ids =
    joined g start leaf table lanes lane v (Some c) None (Some d) M L v (Some t) M.met since front.lines rest.lines M.stewards callers M.seen_steward seen_t ((λ e. absurd cc), M.alone.1)
    (subst (λ (ss : List Shown). IsPermutation ((M.told ++ M.later) ++ ss) (front.lines ++ rest.lines)) (sym parts.both)
    (IsPermutation-trans ((M.told ++ M.later) ++ (parts.front ++ parts.rest)) ((M.told ++ parts.front) ++ (M.later ++ parts.rest)) (front.lines ++ rest.lines)
    (four M.told M.later parts.front parts.rest)
    (IsPermutation-append (M.told ++ parts.front) front.lines (M.later ++ parts.rest) rest.lines front.same rest.same)))
    (tells_same (λ id. OneOf v (Some c) id ⊎ OwnedBy (Some d) id) (OneOf v (Some t)) (suc (length start)) front.lines M.met owners front.tells)
    (tells_same (λ id. OwnedBy (Some c) id ⊎ OwnedBy (Some d) id) (OwnedBy (Some t)) (suc (length start) + length M.met) rest.lines since
    (all_back (Owns t) (λ id. Owns c id ⊎ Owns d id) ids) rest.tells)
    (omega (arith, length-append M.met M.since, length-append M.met since, length-append M.since own.0))
    (omega (arith, ap (λ (es : List Entry). length es) alike, length-append (L.met ++ L.since) theirs.0))
    (subst (λ (es : List Entry). LegalFrom g.founded g.base es) seen_t (joined_legal g c d t j
    (subst (λ (es : List Entry). LegalFrom g.founded g.base es) (sym M.seen_caller) M.legal) (subst (λ (es : List Entry). LegalFrom g.founded g.base es) (sym L.seen_caller) L.legal)))
  where
    own : Learns c t
    own = (joined_learns c d t j).0

    theirs : Learns d t
    theirs = (joined_learns c d t j).1

    since : List Entry
    since = M.since ++ own.0

    seen_t : seen_of t ≡ start ++ (M.met ++ since)
    seen_t = own.1 ∙ (ap (λ (es : List Entry). es ++ own.0) M.seen_caller ∙ (append_assoc start (M.met ++ M.since) own.0 ∙ ap (λ (es : List Entry). start ++ es) (append_assoc M.met M.since own.0)))

    seen_two : seen_of t ≡ start ++ ((L.met ++ L.since) ++ theirs.0)
    seen_two = theirs.1 ∙ (ap (λ (es : List Entry). es ++ theirs.0) L.seen_caller ∙ append_assoc start (L.met ++ L.since) theirs.0)

    alike : (L.met ++ L.since) ++ theirs.0 ≡ M.met ++ since
    alike = append_cancel_left start ((L.met ++ L.since) ++ theirs.0) (M.met ++ since) (sym seen_two ∙ seen_t)

    -- the lane's lines, over all that was seen
    parts : Split (OwnedBy (Some d)) (suc (length start)) (L.told ++ L.later) M.met since
    parts = tells_split (OwnedBy (Some d)) (suc (length start)) (L.told ++ L.later) M.met since
        (subst (λ (es : List Entry). TellsOf (OwnedBy (Some d)) (suc (length start)) (L.told ++ L.later) es) alike (callers_tell g start leaf table (map One lane) d L theirs.0 theirs.2))

    front : Merged (OneOf v (Some c)) (OwnedBy (Some d)) (suc (length start)) M.told parts.front M.met
    front = tells_merge (OneOf v (Some c)) (OwnedBy (Some d)) (suc (length start)) M.told parts.front M.met apart M.tells parts.tells

    rest : Merged (OwnedBy (Some c)) (OwnedBy (Some d)) (suc (length start) + length M.met) M.later parts.rest since
    rest = tells_merge (OwnedBy (Some c)) (OwnedBy (Some d)) (suc (length start) + length M.met) M.later parts.rest since (λ id owns. apart id (inr owns))
        (tells_others (OwnedBy (Some c)) (suc (length start) + length M.met) M.later M.since own.0 M.tells_later own.2) parts.tells_rest

    owners : SameAll (λ id. OneOf v (Some c) id ⊎ OwnedBy (Some d) id) (OneOf v (Some t))
    owners id = (to, from)
      where
        to : OneOf v (Some c) id ⊎ OwnedBy (Some d) id → OneOf v (Some t) id
        to (inl (inl owns)) = inl owns
        to (inl (inr owns)) = inr ((ids id).1 (inl owns))
        to (inr owns) = inr ((ids id).1 (inr owns))

        spread : Owns c id ⊎ Owns d id → OneOf v (Some c) id ⊎ OwnedBy (Some d) id
        spread (inl o) = inl (inr o)
        spread (inr o) = inr o

        from : OneOf v (Some t) id → OneOf v (Some c) id ⊎ OwnedBy (Some d) id
        from (inl owns) = inl (inl owns)
        from (inr owns) = spread ((ids id).0 owns)
