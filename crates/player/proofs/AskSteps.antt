-- All leaves are asked, one call after another.
use Rattle.std.proofs.Common.{◌≡◌, ℕ, zero, suc, ◌+◌, List, [], ◌∷◌, ◌++◌, length, map, Some, refl, sym, ap, ap₂, subst, arith, append_assoc, length-append}
use Rattle.std.specs.Prelude.{slice_get, slice_set, Option, None}
use Rattle.std.specs.List.{AllByRecursion, AllZip, range_with_len}
use Rattle.row_model.specs.declared.rows.Row.{Row}
use Rattle.leaf_model.specs.declared.queries.Query.{Query}
use Rattle.leaf_history.specs.Calls as call
use Rattle.leaf_table.specs.declared.replies.Reply.{Reply}
use Rattle.leaf_table.specs.declared.replies.Reply.TheVariants as told
use Rattle.leaf_table.specs.Turns.{Shared}
use Rattle.leaf_table.specs.Calls.{SeatView}
use Rattle.aggregator.specs.Asks.{Asked, IsAsked}
use Rattle.aggregator.specs.Sorts.{by_leaf}
use Rattle.tailer.specs.Calls.{CallsOn, LeafCall}
use Rattle.printed_lines.specs.declared.line.Line.{Line}
use Rattle.transcript.specs.Pieces.{Piece}
use Rattle.transcript.specs.Shapes.{CallPiece, named, named_in}
use Rattle.transcript.specs.Answers.{AnswerIs}
use Rattle.leaf_moves.specs.Steps.{IsReplyPiece}
use Rattle.player.proofs.AskLines.{number_named, reply_lines}
use Rattle.player.specs.Lines.{reply_line}
use Rattle.player.proofs.CallPieces.{call_prints, reply_piece}
use Rattle.player.proofs.Columns.{get_behind}
use Rattle.player.proofs.TailCalls.{call_pieces}

-- ---- the pieces of the replies

-- an ask of each leaf from that one on, with these replies
abbrev pub ask_calls : ℕ → Query → List Reply → List LeafCall
ask_calls leaf q [] = []
ask_calls leaf q (r ∷ rs) = record { leaf = leaf; call = call.Ask q; reply = r } ∷ ask_calls (suc leaf) q rs

abbrev pub ask_pieces : ℕ → ℕ → Query → List Reply → List Piece
ask_pieces leaf table q rs = call_pieces table (ask_calls leaf q rs)

pub ask_lines : (leaf table : ℕ) (q : Query) (rs : List Reply) → map (λ (c : LeafCall). reply_line c.leaf table c.reply) (ask_calls leaf q rs) ≡ reply_lines leaf table rs
ask_lines leaf table q [] = refl
ask_lines leaf table q (r ∷ rs) = ap (λ (ls : List Line). reply_line leaf table r ∷ ls) (ask_lines (suc leaf) table q rs)

-- one of each leaf, in their order
abbrev pub AreAsked : ℕ → Query → List ℕ → List Piece → Type 0
AreAsked table q leaves pieces = AllZip (λ leaf piece. CallPiece leaf table (call.Ask q) piece) leaves pieces

pub ask_prints : (leaf table : ℕ) (q : Query) (rs : List Reply) → AreAsked table q (range_with_len leaf (length rs)) (ask_pieces leaf table q rs)
ask_prints leaf table q [] = tt
ask_prints leaf table q (r ∷ rs) =
    let p = reply_piece leaf table (call.Ask q) r in
    let next : suc leaf ≡ leaf + 1 = omega arith in (
      call_prints leaf table (call.Ask q) r p.piece p.says,
      subst (λ (first : ℕ). AreAsked table q (range_with_len first (length rs)) (ask_pieces (suc leaf) table q rs)) next (ask_prints (suc leaf) table q rs),
    )

-- ---- the leaves that are named

-- a leaf with the number of its entry, where it answered
abbrev pub paired : ℕ → Option ℕ → List (ℕ × ℕ)
paired leaf None = []
paired leaf (Some number) = (leaf, number) ∷ []

abbrev pub paired_of : ℕ → Reply → List (ℕ × ℕ)
paired_of leaf r = paired leaf (number_named r)

named_reply : (leaf table : ℕ) (c : call.Call) (r : Reply) (p : Piece) → IsReplyPiece leaf table c r p → named_in p ≡ paired_of leaf r
named_reply leaf table c (told.Groups number gs) p says = ap named_in says
named_reply leaf table c (told.Added number kept late) p says = ap named_in says
named_reply leaf table c (told.Removed number rows) p says = ap named_in says
named_reply leaf table c (told.Shut number) p says = ap named_in says
named_reply leaf table c (told.Full number) p says = ap named_in says
named_reply leaf table c (told.NoMemory number) p says = ap named_in says
named_reply leaf table c told.Worn p says = ap named_in says

pub ask_named : (leaf table : ℕ) (q : Query) (rs : List Reply) → named (ask_pieces leaf table q rs) ≡ by_leaf paired_of leaf rs
ask_named leaf table q [] = refl
ask_named leaf table q (r ∷ rs) =
    let p = reply_piece leaf table (call.Ask q) r in
    ap₂ (λ (xs ys : List (ℕ × ℕ)). xs ++ ys) (named_reply leaf table (call.Ask q) r p.piece p.says) (ask_named (suc leaf) table q rs)

-- none of them is an answer
reply_silent : (leaf table : ℕ) (c : call.Call) (q : Query) (rows : List Row) (r : Reply) (p : Piece) → IsReplyPiece leaf table c r p → AnswerIs q rows p
reply_silent leaf table c q rows (told.Groups number gs) p says = subst (AnswerIs q rows) (sym says) tt
reply_silent leaf table c q rows (told.Added number kept late) p says = subst (AnswerIs q rows) (sym says) tt
reply_silent leaf table c q rows (told.Removed number k) p says = subst (AnswerIs q rows) (sym says) tt
reply_silent leaf table c q rows (told.Shut number) p says = subst (AnswerIs q rows) (sym says) tt
reply_silent leaf table c q rows (told.Full number) p says = subst (AnswerIs q rows) (sym says) tt
reply_silent leaf table c q rows (told.NoMemory number) p says = subst (AnswerIs q rows) (sym says) tt
reply_silent leaf table c q rows told.Worn p says = subst (AnswerIs q rows) (sym says) tt

pub ask_silent : (leaf table : ℕ) (q : Query) (rows : List Row) (rs : List Reply) → AllByRecursion (AnswerIs q rows) (ask_pieces leaf table q rs)
ask_silent leaf table q rows [] = tt
ask_silent leaf table q rows (r ∷ rs) =
    let p = reply_piece leaf table (call.Ask q) r in
    (reply_silent leaf table (call.Ask q) q rows r p.piece p.says, ask_silent (suc leaf) table q rows rs)

-- ---- each leaf that was asked

-- what one leaf was asked
pub record AskedAt (q : Query) (fleet : List (List Shared)) (table leaf i : ℕ) (v : SeatView) (rs : List Reply) (ws : List SeatView) : Type 0 where
  pub reply : Reply
  pub after : SeatView
  pub said : slice_get rs i ≡ Some reply
  pub there : slice_get ws i ≡ Some after
  pub asked : IsAsked q fleet table leaf v reply after

module _ (q : Query) (fleet : List (List Shared)) (table : ℕ) where
  pub asked_at : (first i leaf : ℕ) (vs : List SeatView) (rs : List Reply) (ws : List SeatView) (v : SeatView) → leaf ≡ first + i → Asked q fleet table first vs rs ws → slice_get vs i ≡ Some v
      → AskedAt q fleet table leaf i v rs ws
  asked_at first i leaf [] [] [] v is h at = absurd cc
  asked_at first zero leaf (u ∷ vs) (r ∷ rs) (w ∷ ws) v is h at =
      let same : first ≡ leaf = omega (arith, is) in
      let seat : u ≡ v = cc in
      record {
        reply = r;
        after = w;
        said = refl;
        there = refl;
        asked = subst (λ (n : ℕ). IsAsked q fleet table n v r w) same (subst (λ (x : SeatView). IsAsked q fleet table first x r w) seat h.0);
      }
  asked_at first (suc i) leaf (u ∷ vs) (r ∷ rs) (w ∷ ws) v is h at =
      let there = asked_at (suc first) i leaf vs rs ws v (omega (arith, is)) h.1 at in
      record { reply = there.reply; after = there.after; said = there.said; there = there.there; asked = there.asked }
  asked_at first i leaf [] [] (w ∷ ws) v is h at = absurd h
  asked_at first i leaf [] (r ∷ rs) ws v is h at = absurd h
  asked_at first i leaf (u ∷ vs) [] ws v is h at = absurd h
  asked_at first i leaf (u ∷ vs) (r ∷ rs) [] v is h at = absurd h

  -- as many seats, and as many replies
  pub asked_counts : (first : ℕ) (vs : List SeatView) (rs : List Reply) (ws : List SeatView) → Asked q fleet table first vs rs ws → (length rs ≡ length vs) × (length ws ≡ length vs)
  asked_counts first [] [] [] h = (refl, refl)
  asked_counts first (v ∷ vs) (r ∷ rs) (w ∷ ws) h = let others = asked_counts (suc first) vs rs ws h.1 in (ap suc others.0, ap suc others.1)
  asked_counts first [] [] (w ∷ ws) h = absurd h
  asked_counts first [] (r ∷ rs) ws h = absurd h
  asked_counts first (v ∷ vs) [] ws h = absurd h
  asked_counts first (v ∷ vs) (r ∷ rs) [] h = absurd h

  -- ---- the chain of calls

  behind_set : {A : Type 0} (done : List A) (x y : A) (others : List A) (n : ℕ) → n ≡ length done → slice_set (done ++ x ∷ others) n y ≡ (done ++ y ∷ []) ++ others
  behind_set [] x y others zero is = refl
  behind_set [] x y others (suc n) is = absurd (omega (arith, is))
  behind_set (z ∷ done) x y others zero is = absurd (omega (arith, is))
  behind_set (z ∷ done) x y others (suc n) is = ap (λ zs. z ∷ zs) (behind_set done x y others n (omega (arith, is)))

  pub asked_on : (done : List SeatView) (leaf : ℕ) (vs : List SeatView) (rs : List Reply) (ws : List SeatView) → leaf ≡ length done → Asked q fleet table leaf vs rs ws
      → CallsOn fleet table (done ++ vs) (ask_calls leaf q rs) (done ++ ws)
  asked_on done leaf [] [] [] is h = refl
  asked_on done leaf (v ∷ vs) (r ∷ rs) (w ∷ ws) is h =
      let asked = h.0 in
      let next : suc leaf ≡ length (done ++ w ∷ []) = omega (arith, is, length-append done (w ∷ [])) in (
        (done ++ w ∷ []) ++ vs,
        record {
          shared = asked.shared;
          before = v;
          after = w;
          stands = asked.stands;
          was = get_behind done v vs leaf is;
          answered = asked.answered;
          seat = asked.seat;
          same = asked.same;
          now = sym (behind_set done v w vs leaf is);
        },
        subst (λ (us : List SeatView). CallsOn fleet table ((done ++ w ∷ []) ++ vs) (ask_calls (suc leaf) q rs) us) (append_assoc done (w ∷ []) ws) (asked_on (done ++ w ∷ []) (suc leaf) vs rs ws next h.1),
      )
  asked_on done leaf [] [] (w ∷ ws) is h = absurd h
  asked_on done leaf [] (r ∷ rs) ws is h = absurd h
  asked_on done leaf (v ∷ vs) [] ws is h = absurd h
  asked_on done leaf (v ∷ vs) (r ∷ rs) [] is h = absurd h
