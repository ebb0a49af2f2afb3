-- A lane is taken back, whatever it holds of a table, and whatever is there of it.
use Rattle.std.proofs.Common.{◌≡◌, ◌⊎◌, inr, ℕ, suc, ◌+◌, ◌≤◌, List, [], ◌∷◌, ◌++◌, length, map, Option, Some, None, refl, sym, ap, subst, ◌∙◌, le_refl, arith}
use Rattle.std.specs.List.{AllByRecursion}
use Rattle.std.proofs.lemmas.List.{append-nil}
use Rattle.leaf_history.specs.History.{Entry}
use Rattle.leaf_table.specs.Calls.{SeatView}
use Rattle.turnstile.specs.Seats.{Owns}
use Rattle.leaf_moves.specs.Stage.{Meets, MeetsIf}
use Rattle.transcript.specs.Pieces.{Played, PlayedItem, One, Burst, all_pieces, pieces_in}
use Rattle.transcript.specs.Histories.{BaseState, InOrder, Rises, Shown, shown}
use Rattle.leaf_moves.specs.Lanes.{JoinsIf}
use Rattle.transcript_leaf.specs.Session.{TableSession, OneOf, OwnedBy, IsCallers}
use Rattle.transcript_leaf.proofs.Lists.{same_some}
use Rattle.transcript_leaf.proofs.Ids.{callers_alone, callers_still, joined_callers, joined_owns, kept_both, none_before, same_told, stewards_still}
use Rattle.transcript_leaf.proofs.Merging.{AreBoth, all_back, all_refl, all_sum, all_then, both_sum, empty_permutation, rises_most, tells_nothing}
use Rattle.transcript_leaf.proofs.Backs.{back_calls, each_higher, each_snoc, ones_rise, plays_ones, shown_lanes}
use Rattle.transcript_leaf.proofs.Stewards.{back_alone, back_steward}
use Rattle.transcript_leaf.proofs.TableMeets.{ids_if}
use Rattle.transcript_leaf.proofs.Telling.{retell}

-- ---- who has which ids then, and what has been seen

-- what is taken back of a table: the steward's seat is that which stayed, where the lane has none; or it comes back and
-- meets the callers'
abbrev pub ComesBackAt : Option SeatView → Option SeatView → Option SeatView → Option SeatView → Option SeatView → Type 0
ComesBackAt v None joined w e = (w ≡ v) × (e ≡ joined)
ComesBackAt None (Some u) joined (Some w) e = MeetsIf u joined w e
ComesBackAt None (Some u) joined None e = ⊥
ComesBackAt (Some v) (Some u) joined w e = ⊥

joined_both : (c d t : Option SeatView) → JoinsIf c d t → AreBoth (OwnedBy c) (OwnedBy d) (OwnedBy t)
joined_both c None t j = subst (λ (s : Option SeatView). AreBoth (OwnedBy c) (OwnedBy None) (OwnedBy s)) (sym j) (kept_both c)
joined_both (Some c) (Some d) (Some t) j = joined_owns c d t j
joined_both c d t j = absurd j

pub back_both : (v c u d t w e : Option SeatView) → JoinsIf c d t → ComesBackAt v u t w e → AreBoth (OneOf v c) (OneOf u d) (OneOf w e)
back_both v c None d t w e j back =
    both_sum (OwnedBy v) (OwnedBy None) (OwnedBy w) (OwnedBy c) (OwnedBy d) (OwnedBy e)
    (subst (λ (s : Option SeatView). AreBoth (OwnedBy v) (OwnedBy None) (OwnedBy s)) (sym back.0) (kept_both v))
    (subst (λ (s : Option SeatView). AreBoth (OwnedBy c) (OwnedBy d) (OwnedBy s)) (sym back.1) (joined_both c d t j))
back_both None c (Some u) d t (Some w) e j back =
    all_then (OneOf (Some w) e) (OneOf (Some u) t) (λ id. OneOf None c id ⊎ OneOf (Some u) d id) (all_back (OneOf (Some u) t) (OneOf (Some w) e) (ids_if u w t e back))
    (both_sum (OwnedBy None) (OwnedBy (Some u)) (OwnedBy (Some u)) (OwnedBy c) (OwnedBy d) (OwnedBy t) (none_before (Some u)) (joined_both c d t j))
back_both v c u d t w e j back = absurd back

-- ---- where one of them holds nothing of the table

module _ (g : BaseState) (start : List Entry) (number place : ℕ) where
  -- it has no line of the table
  no_lines : (items : List PlayedItem) → TableSession g start number place items None None → shown number place (all_pieces items) ≡ []
  no_lines items t = empty_permutation (shown number place (all_pieces items)) (t.told ++ t.later)
      (ap (λ (ss : List Shown). ss ++ t.later) (tells_nothing (OneOf None None) (suc (length start)) t.told t.met (t.alone.1 refl) t.tells)
      ∙ tells_nothing (OwnedBy None) (suc (length start) + length t.met) t.later t.since (t.alone.0 refl) t.tells_later) t.lines

  module _ (lanes : List (List Played)) (lane : List Played) (v c : Option SeatView) where
    back_nothing : TableSession g start number place (Burst lanes ∷ []) v c → TableSession g start number place (map One lane) None None
        → TableSession g start number place (Burst (lanes ++ lane ∷ []) ∷ []) v c
    back_nothing M L =
        retell g start number place (Burst lanes ∷ []) (Burst (lanes ++ lane ∷ []) ∷ []) v c M
        (shown_lanes number place lanes lane ∙ (ap (λ (ss : List Shown). shown number place (all_pieces (Burst lanes ∷ [])) ++ ss) none ∙ append-nil (shown number place (all_pieces (Burst lanes ∷ [])))))
        (λ high h. (
          h.0,
          (
            h.1.0,
            each_snoc number place (length start) lanes lane h.0 h.1.1
                (subst (λ (ss : List Shown). Rises (length start) ss h.0) (sym none ∙ ap (λ (ps : List Played). shown number place (pieces_in ps)) (plays_ones lane)) h.1.0),
          ),
          h.2,
        ))
      where
        none : shown number place (all_pieces (map One lane)) ≡ []
        none = no_lines (map One lane) L

    -- the lane's seats come back as they are
    back_whole : TableSession g start number place (Burst lanes ∷ []) None None → TableSession g start number place (map One lane) v c
        → TableSession g start number place (Burst (lanes ++ lane ∷ []) ∷ []) v c
    back_whole M L =
        retell g start number place (map One lane) (Burst (lanes ++ lane ∷ []) ∷ []) v c L
        (shown_lanes number place lanes lane ∙ ap (λ (ss : List Shown). ss ++ shown number place (all_pieces (map One lane))) (no_lines (Burst lanes ∷ []) M)) in_order
      where
        nothing : length (M.met ++ M.since) ≡ 0
        nothing = ap (λ (es : List Entry). length (es ++ M.since)) (M.alone.1 refl) ∙ ap (λ (es : List Entry). length es) (M.alone.0 refl)

        in_order : (high : ℕ) → InOrder number place (length start) (map One lane) high → InOrder number place (length start) (Burst (lanes ++ lane ∷ []) ∷ []) high
        in_order high h =
            let own = ones_rise number place (length start) high lane h in
            let most : length start ≤ high = rises_most (length start) high (shown number place (pieces_in lane)) own in
            let mains : AllByRecursion (λ l. Rises (length start) (shown number place (pieces_in l)) high) lanes =
            each_higher number place (length start) lanes M.order.0 high (omega (arith, M.order.2, nothing, most)) M.order.1.1 in
            (high, (most, each_snoc number place (length start) lanes lane high mains own), le_refl high)

-- ---- all cases

callers_both : (c : SeatView) (u d w e : Option SeatView) → AreBoth (OneOf None (Some c)) (OneOf u d) (OneOf w e) → AreBoth (Owns c) (OneOf u d) (OneOf w e)
callers_both c u d w e both =
    all_then (OneOf w e) (λ id. OneOf None (Some c) id ⊎ OneOf u d id) (λ id. Owns c id ⊎ OneOf u d id) both
    (all_sum (OneOf None (Some c)) (Owns c) (OneOf u d) (OneOf u d) (callers_alone (Some c)) (all_refl (OneOf u d)))

-- Both had begun with one history; no id is of both.
pub table_back : (g : BaseState) (start : List Entry) (number place : ℕ) (lanes : List (List Played)) (lane : List Played) (v c u d t w e : Option SeatView)
    → TableSession g start number place (Burst lanes ∷ []) v c
    → TableSession g start number place (map One lane) u d
    → ((id : ℕ) → OneOf v c id → OneOf u d id → ⊥)
    → JoinsIf c d t → ComesBackAt v u t w e
    → TableSession g start number place (Burst (lanes ++ lane ∷ []) ∷ []) w e
table_back g start number place lanes lane v c None None t w e M L apart j back = rw (back.0, back.1, j) (back_nothing g start number place lanes lane v c M L)
table_back g start number place lanes lane v (Some c) None (Some d) (Some t) w e M L apart j back =
    rw (back.0, back.1) (back_calls g start number place lanes lane v c d t M L (λ id o owns. apart id o (inr owns)) j
    (joined_callers c d t j M.callers L.callers (λ id o p. apart id (inr o) (inr p))) (joined_owns c d t j))
table_back g start number place lanes lane None (Some c) (Some u) None (Some t) (Some w) (Some e) M L apart j back =
    back_alone g start number place lanes lane u c M w e L (λ id o owns. apart id (inr o) owns) (subst (λ (s : SeatView). Meets u s w e) (same_some t c j) back)
    (stewards_still u w (same_told u t w back.steward) L.stewards) (callers_still t e (same_told t u e back.caller) (subst (λ (s : SeatView). IsCallers s) (sym (same_some t c j)) M.callers))
    (callers_both c (Some u) None (Some w) (Some e) (back_both None (Some c) (Some u) None (Some t) (Some w) (Some e) j back))
table_back g start number place lanes lane None (Some c) (Some u) (Some d) (Some t) (Some w) (Some e) M L apart j back =
    back_steward g start number place lanes lane u c M d t w e L (λ id o owns. apart id (inr o) owns) j (λ id o. (joined_owns c d t j id).1 o) back
    (stewards_still u w (same_told u t w back.steward) L.stewards)
    (callers_still t e (same_told t u e back.caller) (joined_callers c d t j M.callers L.callers (λ id o p. apart id (inr o) (inr p))))
    (callers_both c (Some u) (Some d) (Some w) (Some e) (back_both None (Some c) (Some u) (Some d) (Some t) (Some w) (Some e) j back))
table_back g start number place lanes lane None None (Some u) None None (Some w) None M L apart j back =
    subst (λ (s : SeatView). TableSession g start number place (Burst (lanes ++ lane ∷ []) ∷ []) (Some s) None) (sym back) (back_whole g start number place lanes lane (Some u) None M L)
table_back g start number place lanes lane v c u d t w e M L apart j back = absurd (first_of (search, cc))
