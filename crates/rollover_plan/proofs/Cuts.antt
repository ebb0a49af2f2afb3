-- What holds of leaves that are cut into waves.
use Rattle.std.proofs.Common.{◌≡◌, ℕ, zero, suc, ◌+◌, ◌-◌, ◌*◌, ◌<◌, ◌≤◌, min, List, [], ◌∷◌, ◌++◌, length, take, drop, refl, sym, ap, ◌∙◌, subst, inl, inr, arith}
use Rattle.std.specs.List.{AllByRecursion, concat}
use Rattle.std.proofs.lemmas.List.{take-append-drop, length-take, length-drop, take_min, drop_min, take_at, drop_at, append-nil, append_assoc, nil_from_length}
use Rattle.std.proofs.lemmas.Bool.{cases_lt}
use Rattle.std.proofs.Math.Nat.{suc-mul, zero-mul}
use Rattle.rollover_plan.specs.Plan.{IsCutInWaves}

-- joined, the waves are the leaves
pub cut_joined : (share : ℕ) (leaves : List ℕ) (waves : List (List ℕ)) → IsCutInWaves share leaves waves → concat waves ≡ leaves
cut_joined share leaves [] cut = sym cut
cut_joined share leaves (wave ∷ waves) cut =
    ap (λ w. w ++ concat waves) cut.1 ∙ ap (λ rest. take share leaves ++ rest) (cut_joined share (drop share leaves) waves cut.2) ∙ take-append-drop share leaves

-- no wave has more than the share
pub cut_few : (share : ℕ) (leaves : List ℕ) (waves : List (List ℕ)) → IsCutInWaves share leaves waves → AllByRecursion (λ wave. length wave ≤ share) waves
cut_few share leaves [] cut = tt
cut_few share leaves (wave ∷ waves) cut =
    (omega (arith, ap length cut.1, length-take share leaves), cut_few share (drop share leaves) waves cut.2)

-- what holds of each leaf holds of the first, and of the rest
all_first : (P : ℕ → Type 0) (n : ℕ) (xs : List ℕ) → AllByRecursion P xs → AllByRecursion P (take n xs)
all_first P zero xs all = tt
all_first P (suc n) [] all = tt
all_first P (suc n) (x ∷ xs) all = (all.0, all_first P n xs all.1)

all_rest : (P : ℕ → Type 0) (n : ℕ) (xs : List ℕ) → AllByRecursion P xs → AllByRecursion P (drop n xs)
all_rest P zero xs all = all
all_rest P (suc n) [] all = tt
all_rest P (suc n) (x ∷ xs) all = all_rest P n xs all.1

pub cut_all : (P : ℕ → Type 0) (share : ℕ) (leaves : List ℕ) (waves : List (List ℕ)) → IsCutInWaves share leaves waves → AllByRecursion P leaves → AllByRecursion (λ wave. AllByRecursion P wave) waves
cut_all P share leaves [] cut all = tt
cut_all P share leaves (wave ∷ waves) cut all =
    (subst (AllByRecursion P) (sym cut.1) (all_first P share leaves all), cut_all P share (drop share leaves) waves cut.2 (all_rest P share leaves all))

-- where no leaf is left, no wave is
none_left : (share : ℕ) (leaves : List ℕ) (waves : List (List ℕ)) → length leaves ≡ 0 → IsCutInWaves share leaves waves → waves ≡ []
none_left share leaves [] none cut = refl
none_left share leaves (wave ∷ waves) none cut = absurd (omega (arith, cut.0))

-- all waves but the last are full
pub cut_full : (share : ℕ) (leaves : List ℕ) (waves : List (List ℕ)) → IsCutInWaves share leaves waves → 0 < share → length waves * share < length leaves + share
cut_full share leaves [] cut some = omega arith
cut_full share leaves (wave ∷ waves) cut some =
    let left : length (drop share leaves) ≡ length leaves - share = length-drop share leaves in
    let more : suc (length waves) * share ≡ length waves * share + share = suc-mul (length waves) share in
    let behind : length waves * share < length (drop share leaves) + share = cut_full share (drop share leaves) waves cut.2 some in
    let here : 0 < length leaves = cut.0 in
    elim (cases_lt (length leaves) share) [
      | inl short ↦
          let last : length waves ≡ 0 = ap length (none_left share (drop share leaves) waves (omega arith) cut.2) in
          let nothing : length waves * share ≡ 0 * share = ap (λ n. n * share) last in
          let none : 0 * share ≡ 0 = zero-mul share in
          omega arith
      | inr long ↦ omega arith
    ]

-- and there are no more waves than leaves
pub cut_count : (share : ℕ) (leaves : List ℕ) (waves : List (List ℕ)) → IsCutInWaves share leaves waves → 0 < share → length waves ≤ length leaves
cut_count share leaves [] cut some = omega arith
cut_count share leaves (wave ∷ waves) cut some =
    let left : length (drop share leaves) ≡ length leaves - share = length-drop share leaves in
    let behind : length waves ≤ length (drop share leaves) = cut_count share (drop share leaves) waves cut.2 some in
    omega (arith, cut.0)

-- a wave more, of what is left
pub cut_more : (share : ℕ) (wave rest left : List ℕ) → left ≡ wave ++ rest → length wave ≡ min share (length left) → (wave ≡ take share left) × (rest ≡ drop share left)
cut_more share wave rest left is many = (
  sym (sym (take_min share left) ∙ ap (take (min share (length left))) is ∙ take_at wave rest (min share (length left)) many),
  sym (sym (drop_min share left) ∙ ap (drop (min share (length left))) is ∙ drop_at wave rest (min share (length left)) many),
)

-- the waves so far, and those that what is left is cut into
pub record IsCutting (share : ℕ) (leaves left : List ℕ) (waves : List (List ℕ)) : Type 0 where
  pub rest : (further : List (List ℕ)) → IsCutInWaves share left further → IsCutInWaves share leaves (waves ++ further)

pub cutting_begins : (share : ℕ) (leaves left : List ℕ) → left ≡ leaves → IsCutting share leaves left []
cutting_begins share leaves left same = record { rest = λ further cut. subst (λ ls. IsCutInWaves share ls further) same cut }

pub cutting_goes_on : (share : ℕ) (leaves left : List ℕ) (waves : List (List ℕ)) (wave rest : List ℕ) → IsCutting share leaves left waves
    → left ≡ wave ++ rest → length wave ≡ min share (length left) → 0 < length left → IsCutting share leaves rest (waves ++ wave ∷ [])
cutting_goes_on share leaves left waves wave rest cutting is many some =
    let next = cut_more share wave rest left is many in
    record {
      rest = λ further cut.
          subst (IsCutInWaves share leaves) (sym (append_assoc waves (wave ∷ []) further))
          (cutting.rest (wave ∷ further) (some, next.0, subst (λ ls. IsCutInWaves share ls further) next.1 cut));
    }

pub cutting_ends : (share : ℕ) (leaves left : List ℕ) (waves : List (List ℕ)) → IsCutting share leaves left waves → length left ≡ 0 → IsCutInWaves share leaves waves
cutting_ends share leaves left waves cutting none =
    subst (IsCutInWaves share leaves) (append-nil waves) (cutting.rest [] (nil_from_length left none))

-- one more behind a list
pub one_pushed : (new old front : List ℕ) (y : ℕ) {x : ℕ} → new ≡ old ++ x ∷ [] → old ≡ front → x ≡ y → new ≡ front ++ y ∷ []
one_pushed new old front y {x = x} pushed is same = pushed ∙ ap (λ xs. xs ++ x ∷ []) is ∙ ap (λ z. front ++ z ∷ []) same

-- the same cut, said of what is the same
pub cut_same : (n m : ℕ) (leaves all : List ℕ) (cut waves : List (List ℕ)) → IsCutInWaves n leaves cut → n ≡ m → leaves ≡ all → waves ≡ cut → IsCutInWaves m all waves
cut_same n m leaves all cut waves is same_share same_leaves same_waves =
    subst (λ k. IsCutInWaves k all waves) same_share (subst (λ ls. IsCutInWaves n ls waves) same_leaves (subst (IsCutInWaves n leaves) (sym same_waves) is))

-- there is one cut
pub one_cut : (share : ℕ) (leaves : List ℕ) (waves others : List (List ℕ)) → IsCutInWaves share leaves waves → IsCutInWaves share leaves others → waves ≡ others
one_cut share leaves [] others cut other = sym (none_left share leaves others (ap length cut) other)
one_cut share leaves (wave ∷ waves) [] cut other = none_left share leaves (wave ∷ waves) (ap length other) cut
one_cut share leaves (wave ∷ waves) (w ∷ ws) cut other =
    ap (λ v. v ∷ waves) (cut.1 ∙ sym other.1) ∙ ap (λ vs. w ∷ vs) (one_cut share (drop share leaves) waves ws cut.2 other.2)
