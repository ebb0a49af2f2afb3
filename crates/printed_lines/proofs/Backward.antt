-- Bytes that are written in front of others.
use Rattle.std.proofs.Common.{◌≡◌, ◌≤◌, ℕ, List, [], ◌++◌, length, take, drop, ap, sym, ◌∙◌, length-take-le}
use Rattle.std.proofs.Math.Seq.{drop-append_seam, take-append_seam}
use Rattle.std.proofs.Math.ListN.{drop_of_length-le}

pub drop_placed : (start : ℕ) (xs ys : List ℕ) → start ≤ length xs → drop start (take start xs ++ ys) ≡ ys
drop_placed start xs ys within = ap (λ n. drop n (take start xs ++ ys)) (sym (length-take-le start xs within)) ∙ drop-append_seam (take start xs) ys

-- what stood there is in front of what was put behind it
pub still_front : (xs ys all : List ℕ) → all ≡ xs ++ ys → take (length xs) all ≡ xs
still_front xs ys all is = ap (λ (zs : List ℕ). take (length xs) zs) is ∙ take-append_seam xs ys

pub drop_past : (n : ℕ) (xs : List ℕ) → length xs ≤ n → drop n xs ≡ []
drop_past n xs past = drop_of_length-le xs {i = n} past
