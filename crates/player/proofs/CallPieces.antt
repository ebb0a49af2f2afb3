-- The piece of a caller's call, and what it tells.
use Rattle.std.proofs.Common.{◌≡◌, ℕ, ◌<◌, Bool, List, [], ◌∷◌, length, inl, inr, Result, Err, Vec, Global, refl, sym, ap, subst, ◌∙◌}
use Rattle.std.specs.Prelude.{IfOk}
use Rattle.std.specs.List.{AllByRecursion}
use Rattle.std.proofs.lemmas.Result.{IfOk-weaker}
use Rattle.leaf_model.specs.declared.queries.Query.{Query}
use Rattle.leaf_history.specs.Calls as call
use Rattle.leaf_history.specs.Calls.{Call}
use Rattle.leaf_table.specs.declared.replies.Reply.{Reply}
use Rattle.leaf_table.specs.declared.replies.Reply.TheVariants as told
use Rattle.printed_lines.specs.declared.line.Said.{Said}
use Rattle.printed_lines.specs.declared.line.Said.TheVariants as said
use Rattle.printed_lines.specs.declared.line.Ending.{Ending}
use Rattle.printed_lines.specs.declared.line.Line.{Line}
use Rattle.printed_lines.specs.declared.line.Line.TheVariants as line
use Rattle.printed_lines.specs.Lines.{IsOf}
use Rattle.transcript.specs.Pieces as printed
use Rattle.printed_lines.specs.declared.line.Deed.{Deed}
use Rattle.transcript.specs.Pieces.{Piece, lines_in, piece_lines}
use Rattle.transcript.specs.Shapes.{CallPiece}
use Rattle.transcript.specs.Counts.{deeds_in}
use Rattle.leaf_moves.specs.Steps.{CallStep, IsReplyPiece}
use Rattle.player.specs.Rows.{SeatRow, CallsTable}
use Rattle.player.specs.Lines.{CallsWith, reply_line}
use Rattle.player.proofs.CommandLines.{one_piece}

-- ---- the piece of a reply

-- a call that had this reply, with its piece
pub record ReplyPiece (leaf table : ℕ) (c : Call) (r : Reply) : Type 0 where
  pub piece : Piece
  pub says : IsReplyPiece leaf table c r piece
  pub line_is : piece_lines piece ≡ reply_line leaf table r ∷ []
  pub calm : (test : Deed → Ending → Bool) (number : ℕ) (others : List Piece) → deeds_in test number (piece ∷ others) ≡ deeds_in test number others
  pub fits : (names : List (List ℕ)) → table < length names → IsOf names (reply_line leaf table r)

-- one that made an entry
entry_piece : (leaf table : ℕ) (c : Call) (r : Reply) (number : ℕ) (s : Said) → IsReplyPiece leaf table c r (printed.Called leaf table c number s)
    → reply_line leaf table r ≡ line.Entry leaf table number s → ReplyPiece leaf table c r
entry_piece leaf table c r number s says is = record {
  piece = printed.Called leaf table c number s;
  says = says;
  line_is = ap (λ (l : Line). l ∷ []) (sym is);
  calm = λ test number others. refl;
  fits = λ names within. subst (IsOf names) (sym is) within;
}

pub reply_piece : (leaf table : ℕ) (c : Call) (r : Reply) → ReplyPiece leaf table c r
reply_piece leaf table c (told.Added number kept late) = entry_piece leaf table c (told.Added number kept late) number (said.Added kept late) refl refl
reply_piece leaf table c (told.Removed number rows) = entry_piece leaf table c (told.Removed number rows) number (said.Removed rows) refl refl
reply_piece leaf table c (told.Groups number gs) = entry_piece leaf table c (told.Groups number gs) number said.Asked refl refl
reply_piece leaf table c (told.Shut number) = entry_piece leaf table c (told.Shut number) number said.RefusedShut refl refl
reply_piece leaf table c (told.Full number) = entry_piece leaf table c (told.Full number) number said.RefusedFull refl refl
reply_piece leaf table c (told.NoMemory number) = entry_piece leaf table c (told.NoMemory number) number said.RefusedMemory refl refl
reply_piece leaf table c told.Worn = record {
  piece = printed.Worn leaf table;
  says = refl;
  line_is = refl;
  calm = λ test number others. refl;
  fits = λ names within. within;
}

-- ---- one call

pub call_step : (leaf table : ℕ) (c : Call) (x y : SeatRow) (r : Reply) (p : Piece) → CallsTable table c x r y → IsReplyPiece leaf table c r p → CallStep leaf table c x.tables x.seats p y.seats
call_step leaf table c x y r p calls says = record {
  shared = calls.shared;
  before = calls.before;
  after = calls.after;
  reply = r;
  at = calls.at;
  was = calls.was;
  answered = calls.answered;
  now = ap (λ (z : SeatRow). z.seats) calls.now;
  says = says;
}

pub one_call : {E : Type 0} (names : List (List ℕ)) (leaf table : ℕ) (c : Call) (x y : SeatRow) (r : Reply) (result : Result (Vec Line Global) E)
    → CallsTable table c x r y → table < length names → IfOk result (λ lines. lines.items ≡ reply_line leaf table r ∷ [])
    → CallsWith names leaf table c x.tables x.seats result y.seats
one_call names leaf table c x y r result calls within told =
    let p : ReplyPiece leaf table c r = reply_piece leaf table c r in
    let lines_are : lines_in (p.piece ∷ []) ≡ reply_line leaf table r ∷ [] = one_piece p.piece ∙ p.line_is in
    record {
      piece = p.piece;
      step = call_step leaf table c x y r p.piece calls p.says;
      calm = λ test number. p.calm test number [];
      fit = subst (AllByRecursion (IsOf names)) (sym lines_are) (p.fits names within, tt);
      lines_are = IfOk-weaker result (λ lines. lines.items ≡ reply_line leaf table r ∷ []) (λ lines. lines.items ≡ lines_in (p.piece ∷ [])) (λ lines are. are ∙ sym lines_are) told;
    }

-- an ask that had this reply, without the list of its line
pub record OneAsk (names : List (List ℕ)) (leaf table : ℕ) (q : Query) (x : SeatRow) (r : Reply) (y : SeatRow) : Type 0 where
  pub calls : CallsWith {E = Unit {0}} names leaf table (call.Ask q) x.tables x.seats (Err tt) y.seats
  pub line_is : lines_in (calls.piece ∷ []) ≡ reply_line leaf table r ∷ []
  pub fits : IsOf names (reply_line leaf table r)

pub one_ask : (names : List (List ℕ)) (leaf table : ℕ) (q : Query) (x y : SeatRow) (r : Reply) → CallsTable table (call.Ask q) x r y → table < length names → OneAsk names leaf table q x r y
one_ask names leaf table q x y r calls within =
    let p : ReplyPiece leaf table (call.Ask q) r = reply_piece leaf table (call.Ask q) r in
    let lines_are : lines_in (p.piece ∷ []) ≡ reply_line leaf table r ∷ [] = one_piece p.piece ∙ p.line_is in
    record {
      calls = record {
        piece = p.piece;
        step = call_step leaf table (call.Ask q) x y r p.piece calls p.says;
        calm = λ test number. p.calm test number [];
        fit = subst (AllByRecursion (IsOf names)) (sym lines_are) (p.fits names within, tt);
        lines_are = tt;
      };
      line_is = lines_are;
      fits = p.fits names within;
    }

-- ---- the piece as a script prints it

-- a call makes an entry, whose line this is, or its seat is worn
pub call_prints : (leaf table : ℕ) (c : Call) (r : Reply) (p : Piece) → IsReplyPiece leaf table c r p → CallPiece leaf table c p
call_prints leaf table c (told.Added number kept late) p says = inl (number, said.Added kept late, says)
call_prints leaf table c (told.Removed number rows) p says = inl (number, said.Removed rows, says)
call_prints leaf table c (told.Groups number gs) p says = inl (number, said.Asked, says)
call_prints leaf table c (told.Shut number) p says = inl (number, said.RefusedShut, says)
call_prints leaf table c (told.Full number) p says = inl (number, said.RefusedFull, says)
call_prints leaf table c (told.NoMemory number) p says = inl (number, said.RefusedMemory, says)
call_prints leaf table c told.Worn p says = inr says
