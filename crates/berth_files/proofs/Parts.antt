-- A read that is done in parts.
use Rattle.std.proofs.Common.{◌≡◌, ℕ, List, ◌++◌, length, take, drop, ◌+◌, ◌-◌, ◌<◌, ◌≤◌, Ok, Err, sym, ◌∙◌, ap, subst, arith}
use Rattle.std.specs.Prelude.{Result, IfOk}
use Rattle.std.proofs.lemmas.List.{take-append-le, length-take-le, drop-drop}
use Rattle.std.proofs.Math.Seq.{take-append-add, take-add}
use Rattle.std.specs.Io.{ReadsAtMost}
use Rattle.berth_files.specs.Files.{GivesSome}
use borrow.Rule.Slice.PartMut.{put_mid, post_of}

-- what stands in front of a part that was read, and the beginning of that part
front_of : (done k n : ℕ) (room part : List ℕ) → done ≤ length room → n ≤ length part → take (done + n) (put_mid done k room part) ≡ take done room ++ take n part
front_of done k n room part within fits =
    let len : length (take done room) ≡ done = length-take-le done room within in
    subst (λ (m : ℕ). take (m + n) (put_mid done k room part) ≡ take done room ++ take n part) len
    (take-append-add (take done room) (part ++ post_of done k room) n ∙ ap (λ r. take done room ++ r) (take-append-le n part (post_of done k room) fits))

-- after a part more
goes_on : (content room part : List ℕ) (at done k n : ℕ) → done ≤ length room → n ≤ length part → GivesSome (at + done) content part n
    → take done room ≡ take done (drop at content) → take (done + n) (put_mid done k room part) ≡ take (done + n) (drop at content)
goes_on content room part at done k n within fits gives so_far =
    front_of done k n room part within fits
    ∙ ap (λ r. r ++ take n part) so_far
    ∙ ap (λ r. take done (drop at content) ++ r) (gives.bytes ∙ ap (λ r. take n r) (sym (drop-drop done at content)))
    ∙ sym (take-add done n (drop at content))

pub reads_on : {E : Type 0} (result : Result ℕ E) (content room part : List ℕ) (at done k : ℕ) → done ≤ length room → length part ≡ length room - done
    → ReadsAtMost result part → IfOk result (λ n. GivesSome (at + done) content part n)
    → take done room ≡ take done (drop at content) → done ≤ length content - at
    → IfOk result (λ n. (done + n ≤ length content - at) × (done < length room → done < length content - at → 0 < n) × (take (done + n) (put_mid done k room part) ≡ take (done + n) (drop at content)))
reads_on (Err e) content room part at done k within len fits gives so_far here = tt
reads_on (Ok n) content room part at done k within len fits gives so_far here = (
  omega (arith, gives.within, here),
  λ more rest. gives.some (omega (arith, len)) (omega arith),
  goes_on content room part at done k n within fits.0 gives so_far,
)
