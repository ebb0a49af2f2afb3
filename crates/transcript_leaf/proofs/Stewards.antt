-- A lane that holds a leaf's steward is taken back.
use Rattle.std.proofs.Common.{◌≡◌, ◌⊎◌, inl, inr, ℕ, suc, ◌+◌, List, [], ◌∷◌, ◌++◌, length, map, Option, Some, None, refl, sym, ap, subst, ◌∙◌, arith, IsPermutation}
use Rattle.std.proofs.lemmas.List.{append_assoc, append_cancel_left, append-nil, length-append}
use Rattle.leaf_history.specs.History.{Entry, LegalFrom}
use Rattle.leaf_history.proofs.Histories.{LegalFrom-front}
use Rattle.leaf_table.specs.Turns.{history}
use Rattle.leaf_table.specs.Calls.{SeatView, seen_of}
use Rattle.turnstile.specs.Seats.{Owns}
use Rattle.leaf_moves.specs.Stage.{Meets}
use Rattle.transcript.specs.Pieces.{Played, One, Burst}
use Rattle.transcript.specs.Histories.{BaseState, Shown}
use Rattle.leaf_moves.specs.Lanes.{JoinsTo}
use Rattle.transcript_leaf.specs.Session.{TableSession, TellsOf, OneOf, OwnedBy, IsStewards, IsCallers}
use Rattle.transcript_leaf.proofs.Merging.{AreBoth, AreOthers, Merged, all_back, others_append, others_none, others_weaken, tells_append, tells_merge, tells_others, tells_same, tells_wider}
use Rattle.transcript_leaf.proofs.Backs.{Learns, callers_tell, joined, joined_learns, joined_legal, learns_by}
use Rattle.transcript_leaf.proofs.Ids.{meets_same}

-- The lane's steward u comes back and meets t, which is the callers' seat that was there, or that to which it was joined.
-- c has seen since what t had, and the lane's seats what it is said that `theirs` are.
module _ (g : BaseState) (start : List Entry) (leaf table : ℕ) (lanes : List (List Played)) (lane : List Played) (u c t w e : SeatView) (d : Option SeatView)
    (M : TableSession g start leaf table (Burst lanes ∷ []) None (Some c)) (L : TableSession g start leaf table (map One lane) (Some u) d)
    (apart : (id : ℕ) → Owns c id → OneOf (Some u) d id → ⊥) (meets : Meets u t w e) (stewards : IsStewards w) (callers : IsCallers e)
    (ids : AreBoth (Owns c) (OneOf (Some u) d) (OneOf (Some w) (Some e)))
    (own : Learns c t) (wider : (id : ℕ) → Owns c id → Owns t id)
    (theirs : (all : List Entry) → seen_of w ≡ start ++ (L.met ++ all) → (more : List Entry) × (L.since ++ more ≡ all) × AreOthers (OwnedBy d) more)
    (legal : LegalFrom g.founded g.base (seen_of t)) where
  u_own : Learns u w
  u_own = learns_by u t w meets.steward meets.steward_learns

  t_own : Learns t e
  t_own = learns_by t u e meets.caller meets.caller_learns

  abbrev all : List Entry
  all = L.met ++ u_own.0

  seen_w : seen_of w ≡ start ++ all
  seen_w = u_own.1 ∙ (ap (λ (es : List Entry). es ++ u_own.0) L.seen_steward ∙ append_assoc start L.met u_own.0)

  same : seen_of e ≡ seen_of w
  same = ap history (sym (meets_same u t w e meets))

  -- what is there, over all that was seen
  abbrev c_more : List Entry
  c_more = own.0 ++ t_own.0

  main_all : (M.met ++ M.since) ++ c_more ≡ all
  main_all = append_cancel_left start ((M.met ++ M.since) ++ c_more) all
      (sym (sym same ∙ (t_own.1 ∙ (ap (λ (es : List Entry). es ++ t_own.0) (own.1 ∙ ap (λ (es : List Entry). es ++ own.0) M.seen_caller)
      ∙ (append_assoc (start ++ (M.met ++ M.since)) own.0 t_own.0 ∙ append_assoc start (M.met ++ M.since) c_more)))) ∙ seen_w)

  main_tells : TellsOf (OwnedBy (Some c)) (suc (length start)) (M.told ++ M.later) all
  main_tells = subst (λ (es : List Entry). TellsOf (OwnedBy (Some c)) (suc (length start)) (M.told ++ M.later) es) main_all
      (callers_tell g start leaf table (Burst lanes ∷ []) c M c_more (others_append (Owns c) own.0 t_own.0 own.2 (others_weaken (Owns t) (Owns c) t_own.0 wider t_own.2)))

  -- and so the lane
  rest : (more : List Entry) × (L.since ++ more ≡ u_own.0) × AreOthers (OwnedBy d) more
  rest = theirs u_own.0 seen_w

  lane_tells : TellsOf (OneOf (Some u) d) (suc (length start)) (L.told ++ L.later) all
  lane_tells = tells_append (OneOf (Some u) d) (suc (length start)) L.told L.later L.met u_own.0 L.tells
      (tells_wider (OwnedBy (Some u)) (OwnedBy d) (suc (length start) + length L.met) L.later u_own.0 u_own.2
      (subst (λ (es : List Entry). TellsOf (OwnedBy d) (suc (length start) + length L.met) L.later es) rest.1
      (tells_others (OwnedBy d) (suc (length start) + length L.met) L.later L.since rest.0 L.tells_later rest.2)))

  merged : Merged (OwnedBy (Some c)) (OneOf (Some u) d) (suc (length start)) (M.told ++ M.later) (L.told ++ L.later) all
  merged = tells_merge (OwnedBy (Some c)) (OneOf (Some u) d) (suc (length start)) (M.told ++ M.later) (L.told ++ L.later) all apart main_tells lane_tells

  legal_w : LegalFrom g.founded g.base (seen_of w)
  legal_w = by meets.steward.longer.one
    where
      view : w.seen ≡ meets.steward.seen
      view = ap (λ (s : SeatView). s.seen) meets.steward.view

      by : (meets.steward.seen ≡ u.seen) ⊎ (meets.steward.seen ≡ t.seen) → LegalFrom g.founded g.base (seen_of w)
      by (inr x) = subst (λ (es : List Entry). LegalFrom g.founded g.base es) (ap history (sym (view ∙ x))) legal
      by (inl x) = subst (λ (es : List Entry). LegalFrom g.founded g.base es) (sym L.seen_steward ∙ ap history (sym (view ∙ x)))
          (LegalFrom-front g.founded g.base (start ++ L.met) L.since (subst (λ (es : List Entry). LegalFrom g.founded g.base es) (sym (append_assoc start L.met L.since)) L.legal))

  back_met : TableSession g start leaf table (Burst (lanes ++ lane ∷ []) ∷ []) (Some w) (Some e)
  back_met = joined g start leaf table lanes lane None (Some c) (Some u) d M L (Some w) (Some e) all [] merged.lines [] stewards callers seen_w (same ∙ (seen_w ∙ ap (λ (es : List Entry). start ++ es) none))
      ((λ x. refl), (λ x. absurd cc))
      (subst (λ (ss : List Shown). IsPermutation ((M.told ++ M.later) ++ (L.told ++ L.later)) ss) (sym (append-nil merged.lines)) merged.same)
      (tells_same (λ id. OwnedBy (Some c) id ⊎ OneOf (Some u) d id) (OneOf (Some w) (Some e)) (suc (length start)) merged.lines all
      (all_back (OneOf (Some w) (Some e)) (λ id. Owns c id ⊎ OneOf (Some u) d id) ids) merged.tells)
      refl
      (omega (arith, length-append all [], ap (λ (es : List Entry). length es) main_all, length-append (M.met ++ M.since) c_more))
      (omega (arith, length-append all [], length-append L.met u_own.0, length-append L.met L.since, ap (λ (es : List Entry). length es) rest.1, length-append L.since rest.0))
      (subst (λ (es : List Entry). LegalFrom g.founded g.base es) (seen_w ∙ ap (λ (es : List Entry). start ++ es) none) legal_w)
    where
      none : all ≡ all ++ []
      none = sym (append-nil all)

module _ (g : BaseState) (start : List Entry) (leaf table : ℕ) (lanes : List (List Played)) (lane : List Played) (u c : SeatView)
    (M : TableSession g start leaf table (Burst lanes ∷ []) None (Some c)) where
  legal_c : LegalFrom g.founded g.base (seen_of c)
  legal_c = subst (λ (es : List Entry). LegalFrom g.founded g.base es) (sym M.seen_caller) M.legal

  -- the lane holds a callers' seat too
  pub back_steward : (d t w e : SeatView) → TableSession g start leaf table (map One lane) (Some u) (Some d) → ((id : ℕ) → Owns c id → OneOf (Some u) (Some d) id → ⊥)
      → JoinsTo c d t → ((id : ℕ) → Owns c id ⊎ Owns d id → Owns t id) → Meets u t w e → IsStewards w → IsCallers e → AreBoth (Owns c) (OneOf (Some u) (Some d)) (OneOf (Some w) (Some e))
      → TableSession g start leaf table (Burst (lanes ++ lane ∷ []) ∷ []) (Some w) (Some e)
  back_steward d t w e L apart j within meets stewards callers ids =
      back_met g start leaf table lanes lane u c t w e (Some d) M L apart meets stewards callers ids both.0 (λ id o. within id (inl o)) theirs
      (joined_legal g c d t j legal_c (subst (λ (es : List Entry). LegalFrom g.founded g.base es) (sym L.seen_caller) L.legal))
    where
      both : Learns c t × Learns d t
      both = joined_learns c d t j

      t_own : Learns t e
      t_own = learns_by t u e meets.caller meets.caller_learns

      more : List Entry
      more = both.1.0 ++ t_own.0

      theirs : (all : List Entry) → seen_of w ≡ start ++ (L.met ++ all) → (ms : List Entry) × (L.since ++ ms ≡ all) × AreOthers (Owns d) ms
      theirs all seen = (
        more,
        append_cancel_left L.met (L.since ++ more) all (sym (append_assoc L.met L.since more)
            ∙ append_cancel_left start ((L.met ++ L.since) ++ more) (L.met ++ all) (sym (ap history (meets_same u t w e meets) ∙ (t_own.1 ∙ (ap (λ (es : List Entry). es ++ t_own.0) (both.1.1 ∙ ap (λ (es : List Entry). es ++ both.1.0) L.seen_caller)
            ∙ (append_assoc (start ++ (L.met ++ L.since)) both.1.0 t_own.0 ∙ append_assoc start (L.met ++ L.since) more)))) ∙ seen)),
        others_append (Owns d) both.1.0 t_own.0 both.1.2 (others_weaken (Owns t) (Owns d) t_own.0 (λ id o. within id (inr o)) t_own.2),
      )

  -- it holds none
  pub back_alone : (w e : SeatView) → TableSession g start leaf table (map One lane) (Some u) None → ((id : ℕ) → Owns c id → OneOf (Some u) None id → ⊥)
      → Meets u c w e → IsStewards w → IsCallers e → AreBoth (Owns c) (OneOf (Some u) None) (OneOf (Some w) (Some e))
      → TableSession g start leaf table (Burst (lanes ++ lane ∷ []) ∷ []) (Some w) (Some e)
  back_alone w e L apart meets stewards callers ids =
      back_met g start leaf table lanes lane u c c w e None M L apart meets stewards callers ids ([], sym (append-nil (seen_of c)), tt) (λ id o. o)
      (λ all seen. (all, ap (λ (es : List Entry). es ++ all) (L.alone.0 refl), others_none all)) legal_c
