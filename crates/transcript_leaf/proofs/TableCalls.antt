-- A table's session goes on by a caller's call, and past what shows nothing of the table.
use Rattle.std.proofs.Common.{◌≡◌, ◌⊎◌, inl, inr, ⊎_elim, ℕ, suc, ◌+◌, ◌==◌, false, List, [], ◌∷◌, ◌++◌, length, Option, Some, refl, sym, ap, subst, ◌∙◌, le_refl, arith, IsPermutation}
use Rattle.std.proofs.lemmas.Bool.{eq-eqb, ne_eqb}
use Rattle.std.proofs.lemmas.List.{append-nil, append_assoc, length-append}
use Rattle.std.proofs.lemmas.List.Sorted.{IsPermutation-append_left}
use Rattle.leaf_history.specs.History.{HistoryState, Entry, LegalFrom}
use Rattle.leaf_history.specs.Calls.{Call}
use Rattle.leaf_history.specs.Replies as reply
use Rattle.printed_lines.specs.declared.line.Said.{Said}
use Rattle.printed_lines.specs.declared.line.Said.TheVariants as said
use Rattle.script_text.specs.declared.command.Command.{Command}
use Rattle.leaf_table.specs.declared.replies.Reply.{Reply}
use Rattle.leaf_table.specs.declared.replies.Reply.TheVariants as shared
use Rattle.leaf_table.specs.Turns.{Shared, is_founded, start_of, told}
use Rattle.leaf_table.specs.Calls.{SeatView, Made, Replied, base_seen, entry_seen, seen_of, Answered}
use Rattle.leaf_table.specs.Calls as calls
use Rattle.leaf_table.specs.declared.base.TableBase.{TableBase}
use Rattle.transcript.specs.Pieces.{Piece, PlayedItem, Called, Worn, all_pieces}
use Rattle.transcript.specs.Histories.{BaseState, Rises, Shown, ShowsEntry, shown}
use Rattle.leaf_moves.specs.Steps.{IsReplyPiece}
use Rattle.transcript_leaf.specs.Session.{OneOf, OwnedBy, TableSession, TellsOf}
use Rattle.transcript_leaf.proofs.Lists.{length_mapped}
use Rattle.transcript_leaf.proofs.Terms.{with_pieces}
use Rattle.transcript_leaf.proofs.Ids.{SameIds, callers_still, one_same, own_first, owns_same, same_made}
use Rattle.transcript_leaf.proofs.Merging.{all_refl, tells_append, tells_past, tells_same}
use Rattle.transcript_leaf.proofs.Telling.{order_more, retell, shown_more}

-- pieces that show nothing of the table leave what is known of it
pub other_table : (g : BaseState) (start : List Entry) (number place : ℕ) (items : List PlayedItem) (c0 : Command) (ps : List Piece) (p : Piece) (v c : Option SeatView)
    → TableSession g start number place (with_pieces items c0 ps) v c → shown number place (p ∷ []) ≡ [] → TableSession g start number place (with_pieces items c0 (ps ++ p ∷ [])) v c
other_table g start number place items c0 ps p v c s none =
    retell g start number place (with_pieces items c0 ps) (with_pieces items c0 (ps ++ p ∷ [])) v c s
    (shown_more number place items c0 ps p ∙ (ap (λ (ss : List Shown). shown number place (all_pieces (with_pieces items c0 ps)) ++ ss) none
    ∙ append-nil (shown number place (all_pieces (with_pieces items c0 ps)))))
    (λ high h. order_more number place (length start) items c0 ps p high high h (subst (λ (ss : List Shown). Rises high ss high) (sym none) (le_refl high)))

-- ---- a caller's call

-- the one line of a table that such a piece shows
shows_one : (leaf table number : ℕ) (c : Call) (s : Said)
    → shown leaf table (Called leaf table c number s ∷ []) ≡ record { number = number; call = Some c; said = s } ∷ []
shows_one leaf table number c s = rw (eq-eqb leaf leaf refl, eq-eqb table table refl) refl

-- the piece of a reply, and what it shows
piece_of : (leaf table n by : ℕ) (called : Call) (r : reply.EntryReply) (x : Reply) (p : Piece) → calls.IsToldAs n r x → IsReplyPiece leaf table called x p
    → (s : Said) × (p ≡ Called leaf table called n s) × ShowsEntry (Some called) s (entry_seen by 0 called r)
piece_of leaf table n by called (reply.Added kept late) x p tells says = (said.Added kept late, subst (λ y. IsReplyPiece leaf table called y p) tells says, (refl, refl))
piece_of leaf table n by called (reply.Groups gs) x p tells says = (said.Asked, subst (λ y. IsReplyPiece leaf table called y p) tells says, (refl, (gs, refl)))
piece_of leaf table n by called reply.Shut x p tells says = (said.RefusedShut, subst (λ y. IsReplyPiece leaf table called y p) tells says, (refl, refl))
piece_of leaf table n by called reply.Full x p tells says = (said.RefusedFull, subst (λ y. IsReplyPiece leaf table called y p) tells says, (refl, refl))
piece_of leaf table n by called reply.NoMemory x p tells says = (said.RefusedMemory, subst (λ y. IsReplyPiece leaf table called y p) tells says, (refl, refl))
piece_of leaf table n by called (reply.Removed k) x p tells says = (said.Removed k, subst (λ y. IsReplyPiece leaf table called y p) tells says, (refl, refl))
piece_of leaf table n by called r x p tells says = absurd tells

-- an entry was made and its line printed
entry_table : (g : BaseState) (start : List Entry) (number place : ℕ) (items : List PlayedItem) (c0 : Command) (ps : List Piece) (p : Piece) (t : Shared) (v : Option SeatView) (c c' : SeatView) (called : Call)
    (r : reply.EntryReply) (s : Said)
    → TableSession g start number place (with_pieces items c0 ps) v (Some c)
    → is_founded (base_seen t) ≡ g.founded → start_of (base_seen t) ≡ g.base
    → Made (base_seen t) 0 c called r c' → ShowsEntry (Some called) s (entry_seen c.id 0 called r)
    → shown number place (p ∷ []) ≡ record { number = length c'.seen; call = Some called; said = s } ∷ []
    → TableSession g start number place (with_pieces items c0 (ps ++ p ∷ [])) v (Some c')
entry_table g start number place items c0 ps p t v c c' called r s now founded from made shows one = record {
  stewards = now.stewards;
  callers = callers_still c c' same now.callers;
  met = now.met;
  since = now.since ++ new;
  seen_steward = now.seen_steward;
  seen_caller = seen;
  alone = (λ x. absurd cc, now.alone.1);
  told = now.told;
  later = now.later ++ own ∷ [];
  lines = subst (λ (ss : List Shown). IsPermutation ss (now.told ++ (now.later ++ own ∷ []))) (sym (shown_more number place items c0 ps p ∙ ap (λ (ss : List Shown). old ++ ss) one))
      (subst (λ (ss : List Shown). IsPermutation (old ++ own ∷ []) ss) (append_assoc now.told now.later (own ∷ [])) (IsPermutation-append_left (own ∷ []) old (now.told ++ now.later) now.lines));
  tells = tells_same (OneOf v (Some c)) (OneOf v (Some c')) (suc (length start)) now.told now.met (one_same v v (Some c) (Some c') (all_refl (OwnedBy v)) (owns_same c c' same)) now.tells;
  tells_later = tells_same (OwnedBy (Some c)) (OwnedBy (Some c')) (suc (length start) + length now.met) (now.later ++ own ∷ []) (now.since ++ new) (owns_same c c' same)
      (tells_append (OwnedBy (Some c)) (suc (length start) + length now.met) now.later (own ∷ []) now.since new now.tells_later last);
  order = order_more number place (length start) items c0 ps p (length start + length (now.met ++ now.since)) (length start + length (now.met ++ (now.since ++ new))) now.order
      (subst (λ (ss : List Shown). Rises (length start + length (now.met ++ now.since)) ss (length start + length (now.met ++ (now.since ++ new)))) (sym one)
      (omega (arith, numbered, length-append now.met now.since), omega (arith, numbered, length-append now.met (now.since ++ new), length-append now.since new, length-append made.between (e ∷ []))));
  legal = subst (λ (es : List Entry). LegalFrom g.founded g.base es) seen
      (subst (λ b. LegalFrom b g.base (seen_of c')) founded (subst (λ (x : HistoryState). LegalFrom (is_founded (base_seen t)) x (seen_of c')) from made.legal));
}
  where
    e : Entry
    e = entry_seen c.id 0 called r

    own : Shown
    own = record { number = length c'.seen; call = Some called; said = s }

    old : List Shown
    old = shown number place (all_pieces (with_pieces items c0 ps))

    new : List Entry
    new = made.between ++ e ∷ []

    same : SameIds c c'
    same = same_made (base_seen t) 0 c c' called r made

    seen : seen_of c' ≡ start ++ (now.met ++ (now.since ++ new))
    seen = made.seen ∙ (append_assoc (seen_of c) made.between (e ∷ []) ∙ (ap (λ (es : List Entry). es ++ new) now.seen_caller
        ∙ (append_assoc start (now.met ++ now.since) new ∙ ap (λ (es : List Entry). start ++ es) (append_assoc now.met now.since new))))

    numbered : length c'.seen ≡ ((suc (length start) + length now.met) + length now.since) + length made.between
    numbered = omega (
      arith,
      length_mapped told c'.seen,
      ap (λ (es : List Entry). length es) seen,
      length-append start (now.met ++ (now.since ++ new)),
      length-append now.met (now.since ++ new),
      length-append now.since new,
      length-append made.between (e ∷ []),
    )

    last : TellsOf (OwnedBy (Some c)) ((suc (length start) + length now.met) + length now.since) (own ∷ []) new
    last = tells_past (OwnedBy (Some c)) ((suc (length start) + length now.met) + length now.since) (own ∷ []) made.between (e ∷ []) made.others
        (inr (own_first c now.callers.share, own, [], refl, numbered, shows, refl))

-- a worn seat makes no entry
worn_or_made : (base : Option TableBase) (v : SeatView) (c : Call) (x : Reply) (w : SeatView) → Answered base v c x w → ((x ≡ shared.Worn) × (w ≡ v)) ⊎ Replied base v c x w
worn_or_made base v c shared.Worn w a = inl (refl, a.1)
worn_or_made base v c r w a = inr a

-- a caller's call adds the line of its entry, or that its seat is worn
pub call_table : (g : BaseState) (start : List Entry) (number place : ℕ) (items : List PlayedItem) (c0 : Command) (ps : List Piece) (t : Shared) (v : Option SeatView) (c c' : SeatView) (called : Call) (x : Reply) (p : Piece)
    → TableSession g start number place (with_pieces items c0 ps) v (Some c)
    → is_founded (base_seen t) ≡ g.founded → start_of (base_seen t) ≡ g.base
    → Answered (base_seen t) c called x c' → IsReplyPiece number place called x p
    → TableSession g start number place (with_pieces items c0 (ps ++ p ∷ [])) v (Some c')
call_table g start number place items c0 ps t v c c' called x p now founded from answered says =
    ⊎_elim worn made (worn_or_made (base_seen t) c called x c' answered)
  where
    worn : (x ≡ shared.Worn) × (c' ≡ c) → TableSession g start number place (with_pieces items c0 (ps ++ p ∷ [])) v (Some c')
    worn is =
        let printed : p ≡ Worn number place = subst (λ y. IsReplyPiece number place called y p) is.0 says in
        let nothing : shown number place (p ∷ []) ≡ [] = ap (λ (q : Piece). shown number place (q ∷ [])) printed in
        subst (λ (d : SeatView). TableSession g start number place (with_pieces items c0 (ps ++ p ∷ [])) v (Some d)) (sym is.1) (other_table g start number place items c0 ps p v (Some c) now nothing)

    made : Replied (base_seen t) c called x c' → TableSession g start number place (with_pieces items c0 (ps ++ p ∷ [])) v (Some c')
    made is =
        let printed = piece_of number place (length c'.seen) c.id called is.1 x p is.3 says in
        let one : shown number place (p ∷ []) ≡ record { number = length c'.seen; call = Some called; said = printed.0 } ∷ [] =
        ap (λ (q : Piece). shown number place (q ∷ [])) printed.1 ∙ shows_one number place (length c'.seen) called printed.0 in
        entry_table g start number place items c0 ps p t v c c' called is.1 printed.0 now founded from is.2 printed.2 one

-- ---- at another table

called_elsewhere : (leaf table place number : ℕ) (called : Call) (s : Said) (p : Piece) → (table ≡ place → ⊥)
    → p ≡ Called leaf table called number s → shown leaf place (p ∷ []) ≡ []
called_elsewhere leaf table place number called s p apart is =
    let other : (table == place) ≡ false = ne_eqb table place apart in
    let nothing : shown leaf place (Called leaf table called number s ∷ []) ≡ [] = rw (eq-eqb leaf leaf refl, other) refl in
    ap (λ (q : Piece). shown leaf place (q ∷ [])) is ∙ nothing

-- a caller's call of one table shows nothing of another
pub call_elsewhere : (leaf table place : ℕ) (called : Call) (reply : Reply) (p : Piece) → (table ≡ place → ⊥)
    → IsReplyPiece leaf table called reply p → shown leaf place (p ∷ []) ≡ []
call_elsewhere leaf table place called (shared.Added number kept late) p apart says = called_elsewhere leaf table place number called (said.Added kept late) p apart says
call_elsewhere leaf table place called (shared.Removed number rows) p apart says = called_elsewhere leaf table place number called (said.Removed rows) p apart says
call_elsewhere leaf table place called (shared.Groups number gs) p apart says = called_elsewhere leaf table place number called said.Asked p apart says
call_elsewhere leaf table place called (shared.Shut number) p apart says = called_elsewhere leaf table place number called said.RefusedShut p apart says
call_elsewhere leaf table place called (shared.Full number) p apart says = called_elsewhere leaf table place number called said.RefusedFull p apart says
call_elsewhere leaf table place called (shared.NoMemory number) p apart says = called_elsewhere leaf table place number called said.RefusedMemory p apart says
call_elsewhere leaf table place called shared.Worn p apart says = ap (λ (q : Piece). shown leaf place (q ∷ [])) says
