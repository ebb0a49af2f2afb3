-- What an adoption keeps where a column is taken.
use Rattle.std.proofs.Common.{◌≡◌, ℕ, suc, ◌+◌, ◌≤◌, List, [], ◌∷◌, ◌++◌, length, take, drop, reverse, sym, ap, subst, ◌∙◌, arith}
use Rattle.std.proofs.lemmas.List.{length-append, reverse-append}
use Rattle.std.proofs.Math.Seq.{take-append_seam}
use Rattle.column_bytes.specs.Coding.{joined}
use Rattle.region_layout.specs.declared.directory.Directory.{Directory}
use Rattle.adopt.specs.declared.spans.Span.{Span}
use Rattle.adopt.specs.Taken.{KeepsTrack, span_bytes, spans_of}
use Rattle.adopt.proofs.Columns.{bytes_last}
use Rattle.adopt.proofs.Taking.{count_last, split_of}

front_of_front : (all init : List Span) (s : Span) → init ++ s ∷ [] ≡ take (length (init ++ s ∷ [])) all → init ≡ take (length init) all
front_of_front all init s front = sym (ap (take (length init)) (split_of all init s front) ∙ take-append_seam init (s ∷ drop (length (init ++ s ∷ [])) all))

pub put_first : (taken now : List (List ℕ)) (bytes : List ℕ) → now ≡ taken ++ bytes ∷ [] → reverse now ≡ bytes ∷ reverse taken
put_first taken now bytes is = ap reverse is ∙ reverse-append taken (bytes ∷ [])

pub keeps_track : (names : List (List ℕ)) (d : Directory) (place held : ℕ) (all init : List Span) (s : Span) (taken now : List (List ℕ)) (bytes : List ℕ)
    → KeepsTrack names d place all (reverse taken) held → all ≡ init ++ s ∷ [] → length bytes ≤ s.length → now ≡ taken ++ bytes ∷ []
    → KeepsTrack names d place init (reverse now) (held + length bytes)
keeps_track names d place held all init s taken now bytes kept split short put = record {
  read = kept.read;
  known = kept.known;
  front = front_of_front (spans_of d) init s (subst (λ (l : List Span). l ≡ take (length l) (spans_of d)) split kept.front);
  held_is =
      let is : length (joined (reverse now)) ≡ length (bytes ++ joined (reverse taken)) = ap (λ (h : List (List ℕ)). length (joined h)) (put_first taken now bytes put) in
      let size = length-append bytes (joined (reverse taken)) in
      let was = kept.held_is in
      omega (arith, is, size, was);
  fits =
      let fits = kept.fits in
      let total = ap span_bytes split ∙ bytes_last init s in
      omega (arith, fits, total, short);
}

-- one column less is left
pub one_less : (all init : List Span) (s : Span) → all ≡ init ++ s ∷ [] → suc (length init) ≡ length all
one_less all init s split = sym (ap length split ∙ count_last init s)
