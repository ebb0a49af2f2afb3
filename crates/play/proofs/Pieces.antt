-- Lines that are written piece by piece.
use Rattle.std.proofs.Common.{◌≡◌, ℕ, List, [], ◌++◌, Option, length, sym, ap, ◌∙◌, append_assoc, append-nil, subst}
use Rattle.std.specs.List.{AllByRecursion}
use Rattle.std.specs.Io.KnownBytes.{Appends}
use Rattle.std.proofs.lemmas.List.{nil_from_length}
use Rattle.std.proofs.lemmas.List.Concat.{flat_map-append}
use Rattle.berth_face.proofs.Streams.{appends_none, appends_more}
use Rattle.berth_face.specs.Streams.{Written, WritesFront}
use Rattle.printed_lines.specs.declared.line.Line.{Line}
use Rattle.printed_lines.specs.Lines.{IsOf, line_text, lines_text}
use Rattle.transcript_standing.proofs.Lists.{All-both}

-- some of a text, behind all of what was before
pub front_behind : (a b c : Option (List ℕ)) (xs ys rest : List ℕ) → Appends a b xs → Written b c ys rest → Written a c (xs ++ ys) rest
front_behind a b c xs ys rest g w = record {
  front = xs ++ w.front;
  is = ap (λ (l : List ℕ). xs ++ l) w.is ∙ sym (append_assoc xs w.front rest);
  bytes = appends_more a b c xs w.front g w.bytes;
}

-- of these lines all but those that are left were written
pub record AreWritten (names : List (List ℕ)) (lines left : List Line) (before now : Option (List ℕ)) : Type 0 where
  pub front : List Line
  pub is : lines ≡ front ++ left
  pub all : AllByRecursion (IsOf names) left
  pub bytes : Appends before now (lines_text names front)

-- none of them yet
pub pieces_begin : (names : List (List ℕ)) (lines left : List Line) (o : Option (List ℕ)) → AllByRecursion (IsOf names) lines → left ≡ lines → AreWritten names lines left o o
pieces_begin names lines left o all same =
    record { front = []; is = sym same; all = subst (AllByRecursion (IsOf names)) (sym same) all; bytes = appends_none o }

-- what is left is of the fleet, so the next piece is
pub piece_fits : {names : List (List ℕ)} {lines left : List Line} {before now : Option (List ℕ)} (piece rest : List Line) → AreWritten names lines left before now
    → left ≡ piece ++ rest → AllByRecursion (IsOf names) piece
piece_fits {names} {lines} {left} {before} {now} piece rest written is =
    (All-both (IsOf names) piece rest (subst (AllByRecursion (IsOf names)) is written.all)).0

-- a piece more
pub pieces_go_on : {names : List (List ℕ)} {lines left : List Line} {before now : Option (List ℕ)} (later : Option (List ℕ)) (piece rest : List Line)
    → AreWritten names lines left before now → left ≡ piece ++ rest → Appends now later (lines_text names piece) → AreWritten names lines rest before later
pieces_go_on {names} {lines} {left} {before} {now} later piece rest written is more =
    let text = sym (flat_map-append (line_text names) written.front piece) in
    record {
      front = written.front ++ piece;
      is = written.is ∙ ap (λ (ls : List Line). written.front ++ ls) is ∙ sym (append_assoc written.front piece rest);
      all = (All-both (IsOf names) piece rest (subst (AllByRecursion (IsOf names)) is written.all)).1;
      bytes = subst (Appends before later) text (appends_more before now later (lines_text names written.front) (lines_text names piece) written.bytes more);
    }

-- where none is left, all were written
pub pieces_end : {names : List (List ℕ)} {lines left : List Line} {before now : Option (List ℕ)} → AreWritten names lines left before now → length left ≡ 0
    → Appends before now (lines_text names lines)
pieces_end {names} {lines} {left} {before} {now} written none =
    let whole = written.is ∙ ap (λ (ls : List Line). written.front ++ ls) (nil_from_length left none) ∙ append-nil written.front in
    subst (λ ls. Appends before now (lines_text names ls)) (sym whole) written.bytes

-- a front of the next piece: a front of all
pub pieces_cut : {names : List (List ℕ)} {lines left : List Line} {before now : Option (List ℕ)} (later : Option (List ℕ)) (piece rest : List Line)
    → AreWritten names lines left before now → left ≡ piece ++ rest → WritesFront now later (lines_text names piece) → WritesFront before later (lines_text names lines)
pieces_cut {names} {lines} {left} {before} {now} later piece rest written is front =
    let more : List ℕ = lines_text names rest in
    let text : lines_text names lines ≡ lines_text names written.front ++ (lines_text names piece ++ more) =
    ap (λ (ls : List Line). lines_text names ls) (written.is ∙ ap (λ (ls : List Line). written.front ++ ls) is)
    ∙ (flat_map-append (line_text names) written.front (piece ++ rest) ∙ ap (λ (l : List ℕ). lines_text names written.front ++ l) (flat_map-append (line_text names) piece rest)) in
    let some : Written now later (lines_text names piece ++ more) (front.0 ++ more) = record {
      front = front.1.front;
      is = ap (λ (l : List ℕ). l ++ more) front.1.is ∙ append_assoc front.1.front front.0 more;
      bytes = front.1.bytes;
    } in (
      front.0 ++ more,
      subst (λ (t : List ℕ). Written before later t (front.0 ++ more)) (sym text)
          (front_behind before now later (lines_text names written.front) (lines_text names piece ++ more) (front.0 ++ more) written.bytes some),
    )

-- all of a text is a front of it
pub whole_front : (before later : Option (List ℕ)) (text : List ℕ) → Appends before later text → WritesFront before later text
whole_front before later text all = ([], record { front = text; is = sym (append-nil text); bytes = all })
