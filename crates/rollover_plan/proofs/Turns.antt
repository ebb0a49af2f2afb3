-- The leaf of a turn, and the turn of a leaf.
use Rattle.std.proofs.Common.{◌≡◌, ◌≢◌, ℕ, ◌+◌, ◌*◌, ◌/◌, ◌%◌, ◌<◌, ◌≤◌, zero, suc, List, ◌∷◌, ◌++◌, map, refl, sym, ap, ◌∙◌, subst, arith}
use Rattle.std.proofs.lemmas.Nat.{mul-add-lt, div-mul-add, mod-mul-add, div-add-mod', div_below, mod_below}
use Rattle.std.proofs.Math.Nat.{mul_comm, mul-le-mul_right, lt_of_mul-lt-mul_right, suc-mul, zero-mul}
use Rattle.std.proofs.lemmas.List.{map-append}
use Rattle.std.specs.List.{flat_map, range_with_len}
use Rattle.rollover_plan.specs.Plan.{by_place}

-- the leaf of a turn, where turns go round the machines
abbrev pub leaf_at : ℕ → ℕ → ℕ → ℕ
leaf_at m p turn = turn % m * p + turn / m

module _ (m p turn : ℕ) (some : 0 < m) (below : turn < m * p) where
  -- its place on the machine is one
  pub place_below : turn / m < p
  place_below = div_below turn m p some (subst (λ n. turn < n) (mul_comm m p) below)

  pub machine_of : leaf_at m p turn / p ≡ turn % m
  machine_of = div-mul-add (turn % m) p (turn / m) place_below

  pub place_of : leaf_at m p turn % p ≡ turn / m
  place_of = mod-mul-add (turn % m) p (turn / m) place_below

  pub leaf_below : leaf_at m p turn < m * p
  leaf_below = subst (λ n. leaf_at m p turn < n) (mul_comm p m) (mul-add-lt (turn % m) p (turn / m) m (mod_below turn m some) place_below)

-- when a leaf has its turn
abbrev pub turn_of : ℕ → ℕ → ℕ → ℕ
turn_of m p leaf = leaf % p * m + leaf / p

module _ (m p leaf : ℕ) (below : leaf < m * p) (some : 0 < p) where
  machine_below : leaf / p < m
  machine_below = div_below leaf p m some below

  pub turn_below : turn_of m p leaf < m * p
  turn_below = mul-add-lt (leaf % p) m (leaf / p) p (mod_below leaf p some) machine_below

  pub leaf_of_turn : leaf_at m p (turn_of m p leaf) ≡ leaf
  leaf_of_turn =
      ap (λ n. n * p + turn_of m p leaf / m) (mod-mul-add (leaf % p) m (leaf / p) machine_below)
      ∙ ap (λ n. leaf / p * p + n) (div-mul-add (leaf % p) m (leaf / p) machine_below)
      ∙ div-add-mod' leaf p

-- no other turn has that leaf
pub only_turn : (m p turn leaf : ℕ) → 0 < m → turn < m * p → leaf_at m p turn ≡ leaf → turn ≡ turn_of m p leaf
only_turn m p turn leaf some below is =
    sym (div-add-mod' turn m)
    ∙ ap (λ n. n * m + turn % m) (sym (place_of m p turn some below) ∙ ap (λ n. n % p) is)
    ∙ ap (λ n. leaf % p * m + n) (sym (machine_of m p turn some below) ∙ ap (λ n. n / p) is)

between : (m i j r s a b : ℕ) → i * m + r ≡ a → j * m + s ≡ b → s ≡ r → a < b → b < a + m → ⊥
between m i j r s a b at_a at_b same after near =
    let products : i * m < j * m = omega arith in
    let lower : i < j = lt_of_mul-lt-mul_right m products in
    let more : suc i * m ≤ j * m = mul-le-mul_right m lower in
    let grown : suc i * m ≡ i * m + m = suc-mul i m in
    omega arith

-- turns of one machine are far apart
pub turns_apart : (m a b : ℕ) → a < b → b < a + m → b % m ≢ a % m
turns_apart m a b after near same = between m (a / m) (b / m) (a % m) (b % m) a b (div-add-mod' a m) (div-add-mod' b m) same after near

-- some numbers and those behind them
range_append : (a n k : ℕ) → range_with_len a n ++ range_with_len (a + n) k ≡ range_with_len a (n + k)
range_append a zero k =
    let here : a + 0 ≡ a = omega arith in
    let none : k ≡ 0 + k = omega arith in
    ap (λ i. range_with_len i k) here ∙ ap (range_with_len a) none
range_append a (suc n) k =
    let next : a + suc n ≡ a + 1 + n = omega arith in
    let more : suc (n + k) ≡ suc n + k = omega arith in
    ap (λ i. a ∷ (range_with_len (a + 1) n ++ range_with_len i k)) next ∙ ap (λ ns. a ∷ ns) (range_append (a + 1) n k) ∙ ap (range_with_len a) more

module _ (m p : ℕ) (some : 0 < m) where
  -- the leaf of a turn of one round
  in_round : (place machine : ℕ) → machine < m → machine * p + place ≡ leaf_at m p (place * m + machine)
  in_round place machine below =
      sym (ap (λ n. n * p + (place * m + machine) / m) (mod-mul-add place m machine below) ∙ ap (λ n. machine * p + n) (div-mul-add place m machine below))

  -- one round has a turn of each machine
  one_round : (place i k : ℕ) → i + k ≤ m → map (λ machine. machine * p + place) (range_with_len i k) ≡ map (leaf_at m p) (range_with_len (place * m + i) k)
  one_round place i zero inside = refl
  one_round place i (suc k) inside =
      let next : place * m + (i + 1) ≡ place * m + i + 1 = omega arith in
      ap (λ leaf. leaf ∷ map (λ machine. machine * p + place) (range_with_len (i + 1) k)) (in_round place i (omega arith))
      ∙ ap (λ leaves. leaf_at m p (place * m + i) ∷ leaves) (one_round place (i + 1) k (omega arith) ∙ ap (λ j. map (leaf_at m p) (range_with_len j k)) next)

  rounds : (place k : ℕ) → flat_map (λ place. map (λ machine. machine * p + place) (range_with_len 0 m)) (range_with_len place k) ≡ map (leaf_at m p) (range_with_len (place * m) (k * m))
  rounds place zero = let none : 0 ≡ 0 * m = sym (zero-mul m) in ap (λ n. map (leaf_at m p) (range_with_len (place * m) n)) none
  rounds place (suc k) =
      let start : place * m + 0 ≡ place * m = omega arith in
      let next : (place + 1) * m ≡ place * m + m = ap (λ n. n * m) add_one ∙ suc-mul place m in
      let more : m + k * m ≡ suc k * m = omega (arith, suc-mul k m) in
      ap (λ leaves. leaves ++ flat_map (λ place. map (λ machine. machine * p + place) (range_with_len 0 m)) (range_with_len (place + 1) k)) (one_round place 0 m (omega arith) ∙ ap (λ j. map (leaf_at m p) (range_with_len j m)) start)
      ∙ ap (λ leaves. map (leaf_at m p) (range_with_len (place * m) m) ++ leaves) (rounds (place + 1) k ∙ ap (λ j. map (leaf_at m p) (range_with_len j (k * m))) next)
      ∙ sym (map-append (leaf_at m p) (range_with_len (place * m) m) (range_with_len (place * m + m) (k * m)))
      ∙ ap (map (leaf_at m p)) (range_append (place * m) m (k * m) ∙ ap (range_with_len (place * m)) more)
    where
      add_one : place + 1 ≡ suc place
      add_one = omega arith

  -- the order by place goes round the machines
  pub by_turns : by_place m p ≡ map (leaf_at m p) (range_with_len 0 (m * p))
  by_turns =
      rounds 0 p ∙ ap (λ j. map (leaf_at m p) (range_with_len j (p * m))) (zero-mul m) ∙ ap (λ n. map (leaf_at m p) (range_with_len 0 n)) (mul_comm p m)

-- after the last turn these are all leaves
pub turns_end : (m p turn : ℕ) (leaves : List ℕ) → 0 < m → leaves ≡ map (leaf_at m p) (range_with_len 0 turn) → turn ≤ m * p → m * p ≤ turn → leaves ≡ by_place m p
turns_end m p turn leaves some are short end =
    let all : turn ≡ m * p = omega arith in
    are ∙ ap (λ n. map (leaf_at m p) (range_with_len 0 n)) all ∙ sym (by_turns m p some)
