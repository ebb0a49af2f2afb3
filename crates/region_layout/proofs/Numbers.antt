-- A number below 2^63 that is read is the one that was written, and what was written is read again.
use Rattle.std.proofs.Common.{◌≡◌, ℕ, ◌^◌, ◌<◌, cond, ltb, List, ◌++◌, Some, None, refl, subst, arith}
use Rattle.std.specs.Int.{w64}
use Rattle.std.proofs.lemmas.Bool.{ltb-true, lt-ltb}
use Rattle.leaf_model.specs.Bytes.{u64_bytes, IsBytes}
use Rattle.leaf_model.specs.Reading.{number_at}
use Rattle.leaf_model.proofs.Fields.{bind_some, held, some_is, Takes, wide64, number_takes, number_again}
use Rattle.region_layout.specs.Reading.{below_2_63_at}

pub low_takes : (bytes : List ℕ) (x : ℕ × List ℕ) → IsBytes bytes → below_2_63_at bytes ≡ Some x → Takes bytes (u64_bytes x.0) x.1 × (x.0 < 2 ^ 63)
unfolding below_2_63_at
low_takes bytes x fits e =
    let a = bind_some (number_at w64 bytes) (λ n. cond (ltb n.0 (2 ^ 63)) (Some (n.0, n.1)) None) x e in
    let g = held (ltb a.0.0 (2 ^ 63)) (Some (a.0.0, a.0.1)) x a.2 in
    let first = number_takes w64 (2 ^ 64) wide64 bytes a.0 fits a.1 in
    let low = ltb-true _ _ g.0 in
    subst (λ (y : ℕ × List ℕ). Takes bytes (u64_bytes y.0) y.1 × (y.0 < 2 ^ 63)) (some_is (a.0.0, a.0.1) x g.1) (first.0, low)

pub low_again : (n : ℕ) (rest : List ℕ) → n < 2 ^ 63 → below_2_63_at (u64_bytes n ++ rest) ≡ Some (n, rest)
unfolding below_2_63_at
low_again n rest low = rw (number_again w64 (2 ^ 64) wide64 n rest (omega (arith, low)), lt-ltb n (2 ^ 63) low) refl
