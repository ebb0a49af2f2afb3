-- Bytes that are taken one part after another.
use Rattle.std.proofs.Common.{◌≡◌, ◌≤◌, ◌<◌, ◌+◌, ◌-◌, ℕ, List, [], ◌++◌, length, Option, Some, None, refl, ap, sym, ◌∙◌, append_assoc, arith, length-append}
use Rattle.std.specs.Io.KnownBytes.{Consumes}
use Rattle.berth_face.specs.Streams.{TakesAtMost, TakesCount}
use Rattle.run_ends.specs.Source.{Took, TookMore}

pub consumes_none : (o : Option (List ℕ)) → Consumes o o []
consumes_none None = tt
consumes_none (Some xs) = refl

pub consumes_more : (a b c : Option (List ℕ)) (xs ys : List ℕ) → Consumes a b xs → Consumes b c ys → Consumes a c (xs ++ ys)
consumes_more None b c xs ys first second = tt
consumes_more (Some is) None c xs ys first second = absurd first
consumes_more (Some is) (Some bs) None xs ys first second = absurd second
consumes_more (Some is) (Some bs) (Some cs) xs ys first second = first ∙ ap (λ (l : List ℕ). xs ++ l) second ∙ sym (append_assoc xs ys cs)

pub count_none : (o : Option (List ℕ)) (n : ℕ) → n ≡ 0 → TakesCount o o n
count_none o n is = ([], consumes_none o, sym is)

-- as many bytes more as were added to a text
pub count_more : (a b c : Option (List ℕ)) (old new : List ℕ) (n k room all : ℕ) → TakesCount a b n → TookMore b c old new k room → all ≡ n + k → TakesCount a c all
count_more a b c old new n k room all so_far more is =
    (so_far.0 ++ more.bytes, consumes_more a b c so_far.0 more.bytes so_far.1 more.taken, length-append so_far.0 more.bytes ∙ omega (arith, so_far.2, more.count, is))

-- one byte more than may be taken, behind a text of k bytes
pub one_too_much : (before mid now : Option (List ℕ)) (old text new : List ℕ) (passed most k n room : ℕ) → k ≡ length old → Took before mid old text → TookMore mid now text new n room
    → passed + length text ≤ most → room ≤ most + 1 - passed - length text → most < passed + length new → TakesCount before now (most + 1 - passed - k)
one_too_much before mid now old text new passed most k n room len first more within few over =
    let size : length text ≡ length old + length first.bytes = ap length first.added ∙ length-append old first.bytes in
    let sum : length new ≡ length text + length more.bytes = ap length more.added ∙ length-append text more.bytes in
    (first.bytes ++ more.bytes, consumes_more before mid now first.bytes more.bytes first.taken more.taken, length-append first.bytes more.bytes ∙ omega (arith, len, size, sum, within, few, over, more.count, more.within))
