-- A table's session goes on by a deed of its leaf's steward, behind which the seats meet, as far as they are there.
use Rattle.std.proofs.Common.{◌≡◌, ◌⊎◌, ⊎_elim, ℕ, suc, ◌+◌, ◌≤◌, List, [], ◌∷◌, ◌++◌, length, Option, Some, None, refl, sym, ap, subst, ◌∙◌, arith, IsPermutation, IfSome}
use Rattle.std.proofs.lemmas.List.{append-nil, append_assoc, append_cancel_left, length-append, length-map}
use Rattle.std.proofs.lemmas.List.Sorted.{IsPermutation-append_left}
use Rattle.turnstile.specs.Ids.{LongerOf}
use Rattle.turnstile.specs.Seats.{Owns}
use Rattle.turnstile.proofs.Prefixes.{prefix_whole}
use Rattle.leaf_history.specs.History.{Entry, LegalFrom}
use Rattle.leaf_table.specs.Turns.{told, history}
use Rattle.leaf_table.specs.Calls.{SeatView, seen_of}
use Rattle.leaf_words.specs.declared.note.Note.{Note}
use Rattle.printed_lines.specs.declared.line.Ending.{Ending}
use Rattle.script_text.specs.declared.command.Command.{Command}
use Rattle.printed_lines.specs.declared.line.Deed.{Deed}
use Rattle.transcript.specs.Pieces.{Acted, Piece, PlayedItem, all_pieces}
use Rattle.transcript.specs.Histories.{BaseState, Rises, Shown, shown, shown_notes}
use Rattle.leaf_moves.specs.Stage.{Meets, MeetsIf}
use Rattle.transcript_leaf.specs.Session.{IsCallers, IsStewards, OneOf, OwnedBy, TableSession, TellsOf}
use Rattle.transcript_leaf.proofs.Terms.{with_pieces}
use Rattle.transcript_leaf.proofs.Ids.{SameIds, callers_still, meets_same, one_same, owns_same, same_on, same_told, stewards_alone, stewards_still}
use Rattle.transcript_leaf.proofs.Merging.{AreOthers, SameAll, all_back, all_refl, all_swap, all_then, tells_append, tells_nothing, tells_rises, tells_same, tells_wider}
use Rattle.transcript_leaf.proofs.Telling.{order_more, shown_more}
use Rattle.transcript_leaf.proofs.Noting.{NotesAt, acted_here}
use Rattle.transcript_leaf.proofs.Tables.{nothing_since}
use Rattle.transcript_leaf.proofs.Backs.{Learns, learns_by}

-- who has seen no less than the other has seen all that either had
longest : {A : Type 0} (xs ys zs : List A) → length ys ≤ length xs → LongerOf xs ys zs → zs ≡ xs
longest xs ys zs few longer = ⊎_elim
    (λ own. own)
    (λ theirs. let size : length zs ≡ length ys = ap length theirs in sym (prefix_whole xs zs longer.own (omega (arith, size, few))))
    longer.one

-- behind the meeting the steward's seat has seen no more than its entries
steward_seen : (v w c v' c' : SeatView) (es : List Entry) → seen_of v ≡ seen_of c → seen_of w ≡ seen_of v ++ es → Meets w c v' c' → seen_of v' ≡ seen_of w
steward_seen v w c v' c' es same more meets =
    let old : length (seen_of v) ≡ length (seen_of c) = ap (λ (xs : List Entry). length xs) same in
    let new : length (seen_of w) ≡ length (seen_of v) + length es = ap (λ (xs : List Entry). length xs) more ∙ length-append (seen_of v) es in
    let few : length c.seen ≤ length w.seen = omega (arith, old, new, length-map c.seen told, length-map w.seen told) in
    ap history (ap (λ (u : SeatView). u.seen) meets.steward.view ∙ longest w.seen c.seen meets.steward.seen few meets.steward.longer)

one_out : (n k : ℕ) → suc n + k ≡ suc (n + k)
one_out n k = omega arith

module _ (g : BaseState) (start : List Entry) (number place : ℕ) (items : List PlayedItem) (c0 : Command) (ps : List Piece) (deed : Deed) (ends : Ending) (notes : List Note) (v w : SeatView) where
  abbrev act : Piece
  act = Acted number deed notes ends

  abbrev lines_of : List Shown
  lines_of = shown_notes place notes

  -- these entries behind the last meeting, of which the lines tell, and the seats that have seen them
  behind : (c : Option SeatView) (v' : SeatView) (c' : Option SeatView) (es : List Entry) → (t : TableSession g start number place (with_pieces items c0 ps) (Some v) c) → t.since ≡ []
      → IsStewards v' → IfSome c' IsCallers → seen_of v' ≡ start ++ (t.met ++ es) → IfSome c' (λ s. seen_of s ≡ start ++ ((t.met ++ es) ++ []))
      → SameAll (OneOf (Some v) c) (OneOf (Some v') c')
      → TellsOf (OneOf (Some v') c') (suc (length start) + length t.met) lines_of es → LegalFrom g.founded g.base (seen_of v')
      → TableSession g start number place (with_pieces items c0 (ps ++ act ∷ [])) (Some v') c'
  behind c v' c' es t none stewards callers seen_v seen_c ids tells legal = record {
    stewards = stewards;
    callers = callers;
    met = t.met ++ es;
    since = [];
    seen_steward = seen_v;
    seen_caller = seen_c;
    alone = (λ x. refl, λ x. absurd cc);
    told = t.told ++ lines_of;
    later = [];
    lines = subst (λ (ss : List Shown). IsPermutation ss ((t.told ++ lines_of) ++ [])) (sym (shown_more number place items c0 ps act ∙ ap (λ (ss : List Shown). old ++ ss) (acted_here number place deed ends notes)))
        (subst (λ (ss : List Shown). IsPermutation (old ++ lines_of) ss) (sym (append-nil (t.told ++ lines_of)))
        (IsPermutation-append_left lines_of old t.told (subst (λ (ss : List Shown). IsPermutation old ss) (ap (λ (ss : List Shown). t.told ++ ss) no_later ∙ append-nil t.told) t.lines)));
    tells = tells_append (OneOf (Some v') c') (suc (length start)) t.told lines_of t.met es
        (tells_same (OneOf (Some v) c) (OneOf (Some v') c') (suc (length start)) t.told t.met ids t.tells) tells;
    tells_later = refl;
    order = order_more number place (length start) items c0 ps act (length start + length (t.met ++ t.since)) (length start + length ((t.met ++ es) ++ [])) t.order
        (subst (λ (ss : List Shown). Rises (length start + length (t.met ++ t.since)) ss (length start + length ((t.met ++ es) ++ []))) (sym (acted_here number place deed ends notes))
        (subst (λ (k : ℕ). Rises k lines_of (length start + length ((t.met ++ es) ++ []))) low_is (subst (λ (k : ℕ). Rises (length start + length t.met) lines_of k) high_is
        (tells_rises (OneOf (Some v') c') (length start + length t.met) lines_of es (subst (λ (k : ℕ). TellsOf (OneOf (Some v') c') k lines_of es) (one_out (length start) (length t.met)) tells)))));
    legal = subst (λ (xs : List Entry). LegalFrom g.founded g.base (start ++ xs)) (sym (append-nil (t.met ++ es))) (subst (λ (xs : List Entry). LegalFrom g.founded g.base xs) seen_v legal);
  }
    where
      old : List Shown
      old = shown number place (all_pieces (with_pieces items c0 ps))

      no_later : t.later ≡ []
      no_later = tells_nothing (OwnedBy c) (suc (length start) + length t.met) t.later t.since none t.tells_later

      low_is : length start + length t.met ≡ length start + length (t.met ++ t.since)
      low_is = omega (arith, length-append t.met t.since, ap (λ (xs : List Entry). length xs) none)

      high_is : (length start + length t.met) + length es ≡ length start + length ((t.met ++ es) ++ [])
      high_is = omega (arith, length-append t.met es, length-append (t.met ++ es) [])

  module _ (made : NotesAt place notes v w) (legal : LegalFrom g.founded g.base (seen_of w)) where
    -- the callers' seat met the steward's before
    with_callers_seat : (v' c c' : SeatView) → (t : TableSession g start number place (with_pieces items c0 ps) (Some v) (Some c)) → seen_of v ≡ seen_of c → Meets w c v' c'
        → TableSession g start number place (with_pieces items c0 (ps ++ act ∷ [])) (Some v') (Some c')
    with_callers_seat v' c c' t same meets =
        behind (Some c) v' (Some c') es t (nothing_since start t.met t.since (seen_of v) (seen_of c) t.seen_steward t.seen_caller same)
        (stewards_still v v' v_ids t.stewards)
        (callers_still c c' c_ids t.callers)
        seen_v
        (ap history (sym (meets_same w c v' c' meets)) ∙ (seen_v ∙ ap (λ (xs : List Entry). start ++ xs) (sym (append-nil (t.met ++ es)))))
        ids
        (tells_same (λ id. Owns c id ⊎ Owns v id) (OneOf (Some v') (Some c')) (suc (length start) + length t.met) lines_of es
        (all_then (λ id. Owns c id ⊎ Owns v id) (OneOf (Some v) (Some c)) (OneOf (Some v') (Some c')) (all_swap (Owns c) (Owns v)) ids)
        (tells_wider (Owns c) (Owns v) (suc (length start) + length t.met) lines_of es others
        (subst (λ (k : ℕ). TellsOf (Owns v) k lines_of es) from_is made.tells)))
        (subst (λ (xs : List Entry). LegalFrom g.founded g.base xs) (sym seen) legal)
      where
        es : List Entry
        es = made.entries

        seen : seen_of v' ≡ seen_of w
        seen = steward_seen v w c v' c' es same made.seen meets

        seen_v : seen_of v' ≡ start ++ (t.met ++ es)
        seen_v = seen ∙ (made.seen ∙ (ap (λ (xs : List Entry). xs ++ es) t.seen_steward ∙ append_assoc start t.met es))

        from_is : suc (length (seen_of v)) ≡ suc (length start) + length t.met
        from_is = omega (arith, ap (λ (xs : List Entry). length xs) t.seen_steward, length-append start t.met)

        v_ids : SameIds v v'
        v_ids = same_on v w v' made.ids (same_told w c v' meets.steward)

        c_ids : SameIds c c'
        c_ids = same_told c w c' meets.caller

        ids : SameAll (OneOf (Some v) (Some c)) (OneOf (Some v') (Some c'))
        ids = one_same (Some v) (Some v') (Some c) (Some c') (owns_same v v' v_ids) (owns_same c c' c_ids)

        -- what the callers' seat learned at the meeting is none of its own
        own : Learns c c'
        own = learns_by c w c' meets.caller meets.caller_learns

        others : AreOthers (Owns c) es
        others = subst (λ (xs : List Entry). AreOthers (Owns c) xs)
            (append_cancel_left (seen_of c) own.0 es (sym own.1 ∙ (ap history (sym (meets_same w c v' c' meets)) ∙ (seen ∙ (made.seen ∙ ap (λ (xs : List Entry). xs ++ es) same))))) own.2

    -- there is no callers' seat
    by_itself : (v' : SeatView) → (t : TableSession g start number place (with_pieces items c0 ps) (Some v) None) → v' ≡ w
        → TableSession g start number place (with_pieces items c0 (ps ++ act ∷ [])) (Some v') None
    by_itself v' t now = subst (λ (s : SeatView). TableSession g start number place (with_pieces items c0 (ps ++ act ∷ [])) (Some s) None) (sym now)
        (behind None w None es t (t.alone.0 refl) (stewards_still v w made.ids t.stewards) tt
        (made.seen ∙ (ap (λ (xs : List Entry). xs ++ es) t.seen_steward ∙ append_assoc start t.met es)) tt
        ids
        (tells_same (Owns v) (OneOf (Some w) None) (suc (length start) + length t.met) lines_of es
        (all_then (Owns v) (OneOf (Some v) None) (OneOf (Some w) None) (all_back (OneOf (Some v) None) (Owns v) (stewards_alone (Some v))) ids)
        (subst (λ (k : ℕ). TellsOf (Owns v) k lines_of es) (omega (arith, ap (λ (xs : List Entry). length xs) t.seen_steward, length-append start t.met)) made.tells))
        legal)
      where
        es : List Entry
        es = made.entries

        ids : SameAll (OneOf (Some v) None) (OneOf (Some w) None)
        ids = one_same (Some v) (Some w) None None (owns_same v w made.ids) (all_refl (OwnedBy None))

    pub table_acts : (c : Option SeatView) (v' : SeatView) (c' : Option SeatView) → TableSession g start number place (with_pieces items c0 ps) (Some v) c → IfSome c (λ s. seen_of v ≡ seen_of s)
        → MeetsIf w c v' c' → TableSession g start number place (with_pieces items c0 (ps ++ Acted number deed notes ends ∷ [])) (Some v') c'
    table_acts (Some c) v' (Some c') t same meets = with_callers_seat v' c c' t same meets
    table_acts None v' None t same now = by_itself v' t now
    table_acts c v' c' t same meets = absurd meets
