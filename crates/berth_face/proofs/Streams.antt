-- Bytes that are taken and put one part after another.
use Rattle.std.proofs.Common.{◌≡◌, ℕ, List, [], ◌∷◌, ◌++◌, Option, Some, None, refl, ap, sym, ◌∙◌, append_assoc, append-nil, subst, take, drop, length, ◌-◌, ◌+◌, ◌≤◌, arith, length-append}
use Rattle.std.proofs.lemmas.List.{take-append-drop, length-drop}
use Rattle.std.proofs.Math.Seq.{take-length}
use Rattle.berth_face.specs.Streams.{Written, TakesAtMost}
use Rattle.std.specs.Io.KnownBytes.{Keeps, Appends, Consumes}

pub appends_none : (o : Option (List ℕ)) → Appends o o []
appends_none None = tt
appends_none (Some xs) = sym (append-nil xs)

pub appends_more : (a b c : Option (List ℕ)) (xs ys : List ℕ) → Appends a b xs → Appends b c ys → Appends a c (xs ++ ys)
appends_more None b c xs ys first second = tt
appends_more (Some is) None c xs ys first second = absurd first
appends_more (Some is) (Some bs) None xs ys first second = absurd second
appends_more (Some is) (Some bs) (Some cs) xs ys first second = rw (second, first) (append_assoc is xs ys)

pub appends_kept : (a b c : Option (List ℕ)) (xs : List ℕ) → Appends a b xs → Keeps b c → Appends a c xs
appends_kept None b c xs first kept = tt
appends_kept (Some is) None c xs first kept = absurd first
appends_kept (Some is) (Some bs) None xs first kept = absurd kept
appends_kept (Some is) (Some bs) (Some cs) xs first kept = kept ∙ first

pub written_start : (o : Option (List ℕ)) (piece : List ℕ) → Written o o piece piece
written_start o piece = record { front = []; is = refl; bytes = appends_none o }

rest_of : (rest : List ℕ) (n : ℕ) → take n rest ++ take (length rest - n) (drop n rest) ≡ rest
rest_of rest n = rw (← length-drop n rest, take-length (drop n rest)) (take-append-drop n rest)

pub written_more : {a b c : Option (List ℕ)} {piece rest : List ℕ} (n : ℕ) → Written a b piece rest → Appends b c (take n rest) → Written a c piece (take (length rest - n) (drop n rest))
written_more {a} {b} {c} {piece} {rest} n w more = record {
  front = w.front ++ take n rest;
  is = w.is ∙ ap (λ r. w.front ++ r) (sym (rest_of rest n)) ∙ sym (append_assoc w.front (take n rest) (take (length rest - n) (drop n rest)));
  bytes = appends_more a b c w.front (take n rest) w.bytes more;
}

pub written_kept : {a b c : Option (List ℕ)} {piece rest : List ℕ} → Written a b piece rest → Keeps b c → Written a c piece rest
written_kept {a} {b} {c} {piece} {rest} w kept = record { front = w.front; is = w.is; bytes = appends_kept a b c w.front w.bytes kept }

nothing : (rest : List ℕ) → length rest ≡ 0 → rest ≡ []
nothing [] h = refl
nothing (x ∷ xs) h = absurd (omega arith)

pub written_all : {a b : Option (List ℕ)} {piece rest : List ℕ} → Written a b piece rest → length rest ≡ 0 → Appends a b piece
written_all {a} {b} {piece} {rest} w h =
    let all : w.front ≡ piece = sym (w.is ∙ ap (λ r. w.front ++ r) (nothing rest h) ∙ append-nil w.front) in
    let P : List ℕ → Type 0 = λ p. Appends a b p in
    subst P all w.bytes
