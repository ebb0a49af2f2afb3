-- The lines of notes, told one after another.
use Rattle.std.proofs.Common.{◌≡◌, ℕ, zero, suc, List, [], ◌∷◌, ◌++◌, take, slice_get, Some, sym, ap, ◌∙◌, append_assoc}
use Rattle.leaf_words.specs.declared.note.Note.{Note}
use Rattle.printed_lines.specs.declared.line.Line.{Line}
use Rattle.transcript.specs.Pieces.{noted_line}
use Rattle.player.specs.Lines.{note_lines}

-- the lines of the first i notes stand behind those that there were
abbrev pub AreFirst : ℕ → List Note → List Line → ℕ → List Line → Type 0
AreFirst number notes old i lines = lines ≡ old ++ note_lines number (take i notes)

take_next : (number : ℕ) (notes : List Note) (i : ℕ) (n : Note) → slice_get notes i ≡ Some n → note_lines number (take (suc i) notes) ≡ note_lines number (take i notes) ++ noted_line number n ∷ []
take_next number [] i n at = absurd cc
take_next number (m ∷ ms) zero n at =
    let same : m ≡ n = cc in
    ap (λ (x : Note). noted_line number x ∷ []) same
take_next number (m ∷ ms) (suc i) n at = ap (λ (ls : List Line). noted_line number m ∷ ls) (take_next number ms i n at)

pub first_next : (number : ℕ) (notes : List Note) (old : List Line) (i : ℕ) (lines lines' : List Line) (n : Note) (l : Line)
    → AreFirst number notes old i lines → slice_get notes i ≡ Some n → l ≡ noted_line number n → lines' ≡ lines ++ l ∷ []
    → AreFirst number notes old (suc i) lines'
first_next number notes old i lines lines' n l so_far at line_is pushed =
    pushed ∙ ap (λ (x : Line). lines ++ x ∷ []) line_is ∙ ap (λ (ls : List Line). ls ++ noted_line number n ∷ []) so_far
    ∙ append_assoc old (note_lines number (take i notes)) (noted_line number n ∷ []) ∙ ap (λ (ls : List Line). old ++ ls) (sym (take_next number notes i n at))
