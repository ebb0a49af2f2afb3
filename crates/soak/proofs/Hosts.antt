-- The cells of a row among those of the hosts.
use Rattle.std.proofs.Common.{◌≡◌, ℕ, suc, ◌+◌, ◌*◌, ◌%◌, ◌==◌, ◌<◌, Bool, true, false, pos, List, [], ◌∷◌, ◌++◌, length, take, drop, slice_index_or, if◌then◌else◌, refl, sym, ap, ◌∙◌, codes, decimal, arith}
use Rattle.std.proofs.Math.Seq.{drop-cons}
use Rattle.std.proofs.lemmas.Bool.{eqb-true}
use Rattle.row_model.specs.declared.rows.Cell.{Cell}
use Rattle.row_model.specs.declared.rows.Value.TheVariants.{Text}
use Rattle.soak.specs.Hosts.{AreHosts, coded}
use Rattle.soak.specs.Soak.{code_cells, host_cell}

abbrev none : Cell
none = coded (pos 0)

-- the two cells of a host
two_there : (cells : List Cell) (i : ℕ) → i + 1 < length cells → take 2 (drop i cells) ≡ slice_index_or cells i none ∷ slice_index_or cells (i + 1) none ∷ []
two_there cells i within =
    let next : suc i ≡ i + 1 = omega arith in
    ap (take 2) (drop-cons cells i none (omega (arith, within)))
    ∙ ap (λ (l : List Cell). slice_index_or cells i none ∷ take 1 l) (drop-cons cells (suc i) none (omega (arith, within)))
    ∙ ap (λ (k : ℕ). slice_index_or cells i none ∷ slice_index_or cells k none ∷ []) next

one_there : (cells : List Cell) (i : ℕ) → i < length cells → take 1 (drop i cells) ≡ slice_index_or cells i none ∷ []
one_there cells i within = ap (take 1) (drop-cons cells i none within)

above_zero : (n : ℕ) → 0 < n → (n == 0) ≡ false
above_zero n some = by (n == 0) refl
  where
    by : (b : Bool) → (n == 0) ≡ b → (n == 0) ≡ false
    by false e = e
    by true e = let none_left : n ≡ 0 = eqb-true n 0 e in absurd (omega (arith, some, none_left))

again : (u : ℕ) → host_cell (u % 50) ≡ host_cell u
again u = let twice : u % 50 % 50 ≡ u % 50 = omega arith in ap (λ (n : ℕ). record { name = codes "host"; value = Text (codes "h" ++ decimal n) }) twice

-- the cells of a row
pub row_there : (cells : List Cell) (u v : ℕ) → AreHosts cells → slice_index_or cells (2 * (u % 50)) none ≡ coded (pos (v % 600)) → 0 < v % 4
    → take 2 (drop (2 * (u % 50)) cells) ≡ code_cells v ++ host_cell u ∷ []
row_there cells u v are code some =
    let here : slice_index_or cells (2 * (u % 50) + 1) none ≡ host_cell u = are.host (u % 50) (omega arith) ∙ again u in
    two_there cells (2 * (u % 50)) (omega (arith, are.counted))
    ∙ ap (λ (c : Cell). c ∷ slice_index_or cells (2 * (u % 50) + 1) none ∷ []) code
    ∙ ap (λ (c : Cell). coded (pos (v % 600)) ∷ c ∷ []) here
    ∙ ap (λ (b : Bool). (if b then [] else coded (pos (v % 600)) ∷ []) ++ host_cell u ∷ []) (sym (above_zero (v % 4) some))

pub host_there : (cells : List Cell) (u v : ℕ) → AreHosts cells → v % 4 ≡ 0 → take 1 (drop (2 * (u % 50) + 1) cells) ≡ code_cells v ++ host_cell u ∷ []
host_there cells u v are none_there =
    let here : slice_index_or cells (2 * (u % 50) + 1) none ≡ host_cell u = are.host (u % 50) (omega arith) ∙ again u in
    one_there cells (2 * (u % 50) + 1) (omega (arith, are.counted))
    ∙ ap (λ (c : Cell). c ∷ []) here
    ∙ ap (λ (b : Bool). (if b then [] else coded (pos (v % 600)) ∷ []) ++ host_cell u ∷ []) (sym (ap (λ (n : ℕ). n == 0) none_there))
