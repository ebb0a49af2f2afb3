-- What the first bytes of a region say of it, and what a closed flag and a cut make of them.
use Rattle.std.proofs.Common.{◌≡◌, ℕ, zero, suc, ◌≤◌, false, ltb, List, [], ◌∷◌, length, take, drop, refl, arith, length-take, le-ltb}
use Rattle.region_head.specs.declared.head.Head.TheVariants.{Closed, Version}
use Rattle.region_head.specs.Head.{head_of}
use Rattle.region_head.proofs.Heads.{closed_head, head_long}
use Rattle.region_head.specs.Closing.{closed_flag}
use Rattle.adopt.specs.Adopting.{IsLeftBehind}

pub closed_size : (region : List ℕ) → 16 ≤ length region → length (closed_flag region) ≡ length region
closed_size [] long = absurd (omega (arith, long))
closed_size (x ∷ xs) long = refl

-- behind the flag nothing changes
pub behind_flag : (n : ℕ) (region : List ℕ) → 1 ≤ n → 16 ≤ length region → drop n (closed_flag region) ≡ drop n region
behind_flag zero region some long = absurd (omega (arith, some))
behind_flag (suc n) [] some long = absurd (omega (arith, long))
behind_flag (suc n) (x ∷ xs) some long = refl

-- ---- a region that is left behind

pub zero_head : (rest : List ℕ) → 15 ≤ length rest → head_of (0 ∷ rest) ≡ Closed 0
zero_head rest long =
    let e : ltb (length (0 ∷ rest)) 16 ≡ false = le-ltb _ _ (omega (arith, long)) in
    rw e refl

front_long : (n : ℕ) (rest : List ℕ) → 15 ≤ n → 15 ≤ length rest → 15 ≤ length (take n rest)
front_long n rest long_n long = let size = length-take n rest in omega (arith, size, long_n, long)

-- an open region whose flag was closed, and that was then cut behind its head
pub left_cut : (n : ℕ) (region : List ℕ) (version : ℕ) → 16 ≤ n → head_of region ≡ Version version → IsLeftBehind region (take n (closed_flag region))
left_cut zero region version some e = absurd (omega (arith, some))
left_cut (suc n) [] version some e = absurd (omega (arith, head_long [] version e))
left_cut (suc n) (x ∷ xs) version some e = record {
  closed = λ closed. absurd (closed_head (x ∷ xs) closed version e);
  opened = λ other is. zero_head (take n xs) (front_long n xs (omega (arith, some)) (omega (arith, head_long (x ∷ xs) version e)));
}

-- an open region whose flag was closed
pub left_closed : (region : List ℕ) (version : ℕ) → head_of region ≡ Version version → IsLeftBehind region (closed_flag region)
left_closed [] version e = absurd (omega (arith, head_long [] version e))
left_closed (x ∷ xs) version e = record {
  closed = λ closed. absurd (closed_head (x ∷ xs) closed version e);
  opened = λ other is. zero_head xs (omega (arith, head_long (x ∷ xs) version e));
}

-- ---- a region after a fault

-- ---- a cut of a closed region
