-- A text cut at a byte.
use Rattle.std.proofs.Common.{◌≡◌, ◌<◌, ◌≤◌, ◌+◌, ◌-◌, ℕ, zero, suc, List, [], ◌∷◌, length, take, drop, get_or, refl, ap, sym, arith, Bool, true, false, eqb, add-one}
use Rattle.std.proofs.Math.Seq.{take-length, drop-length}
use Rattle.std.proofs.lemmas.Bool.{false_from_ne_true}
use Rattle.std.proofs.lemmas.List.{length-drop, drop-drop}
use Rattle.text_lines.specs.Lines.{pieces, before, bytes_after}

-- what stands before the first such byte
before_first : (at : ℕ) (text : List ℕ) (end : ℕ) → end < length text → eqb (get_or text end 0) at ≡ true → ((j : ℕ) → j < end → eqb (get_or text j 0) at ≡ true → ⊥) → before at text ≡ take end text
before_first at [] end within is none = absurd (omega arith)
before_first at (b ∷ bs) zero within is none = rw is
before_first at (b ∷ bs) (suc e) within is none =
    let here : eqb b at ≡ false = false_from_ne_true _ (none 0 (omega arith)) in
    let later = before_first at bs e (omega arith) is (λ j below. none (suc j) (omega arith)) in
    rw (here, later)

behind_first : (at : ℕ) (text : List ℕ) (end : ℕ) → end < length text → eqb (get_or text end 0) at ≡ true → ((j : ℕ) → j < end → eqb (get_or text j 0) at ≡ true → ⊥) → bytes_after at text ≡ drop (suc end) text
behind_first at [] end within is none = absurd (omega arith)
behind_first at (b ∷ bs) zero within is none = rw is
behind_first at (b ∷ bs) (suc e) within is none =
    let here : eqb b at ≡ false = false_from_ne_true _ (none 0 (omega arith)) in
    let later = behind_first at bs e (omega arith) is (λ j below. none (suc j) (omega arith)) in
    rw (here, later)

take_rest : (text : List ℕ) (at : ℕ) → take (length text - at) (drop at text) ≡ drop at text
take_rest text at = rw (← length-drop at text) (take-length (drop at text))

pub before_found : (at : ℕ) (text : List ℕ) (end : ℕ) → end < length text → eqb (get_or text end 0) at ≡ true → ((j : ℕ) → 0 ≤ j → j < end → eqb (get_or text j 0) at ≡ true → ⊥) → take end text ≡ before at text
before_found at text end within is none = sym (before_first at text end within is (λ j below. none j (omega arith) below))

pub behind_found : (at : ℕ) (text : List ℕ) (end : ℕ) → end < length text → eqb (get_or text end 0) at ≡ true → ((j : ℕ) → 0 ≤ j → j < end → eqb (get_or text j 0) at ≡ true → ⊥) → take (length text - (end + 1)) (drop (end + 1) text) ≡ bytes_after at text
behind_found at text end within is none =
    rw (take_rest text (end + 1), add-one) (sym (behind_first at text end within is (λ j below. none j (omega arith) below)))

-- a text that has no such byte
before_all : (at : ℕ) (text : List ℕ) → ((j : ℕ) → j < length text → eqb (get_or text j 0) at ≡ true → ⊥) → before at text ≡ text
before_all at [] none = refl
before_all at (b ∷ bs) none =
    let here : eqb b at ≡ false = false_from_ne_true _ (none 0 (omega arith)) in
    let later = before_all at bs (λ j below. none (suc j) (omega arith)) in
    rw (here, later)

behind_all : (at : ℕ) (text : List ℕ) → ((j : ℕ) → j < length text → eqb (get_or text j 0) at ≡ true → ⊥) → bytes_after at text ≡ []
behind_all at [] none = refl
behind_all at (b ∷ bs) none =
    let here : eqb b at ≡ false = false_from_ne_true _ (none 0 (omega arith)) in
    let later = behind_all at bs (λ j below. none (suc j) (omega arith)) in
    rw (here, later)

pub before_none : (at : ℕ) (text : List ℕ) → ((j : ℕ) → 0 ≤ j → j < length text → eqb (get_or text j 0) at ≡ true → ⊥) → text ≡ before at text
before_none at text none = sym (before_all at text (λ j below. none j (omega arith) below))

pub behind_none : (at : ℕ) (text : List ℕ) → ((j : ℕ) → 0 ≤ j → j < length text → eqb (get_or text j 0) at ≡ true → ⊥) → take (length text - length text) (drop (length text) text) ≡ bytes_after at text
behind_none at text none =
    rw (take_rest text (length text), drop-length text) (sym (behind_all at text (λ j below. none j (omega arith) below)))

-- a text is what stands before the first such byte, and what stands behind it
pieces_by : (at b : ℕ) (bs : List ℕ) (is : Bool) → eqb b at ≡ is → (0 < length bs → pieces at bs ≡ before at bs ∷ pieces at (bytes_after at bs)) → pieces at (b ∷ bs) ≡ before at (b ∷ bs) ∷ pieces at (bytes_after at (b ∷ bs))
pieces_by at b bs true is later = rw is
pieces_by at b [] false is later = rw is
pieces_by at b (x ∷ xs) false is later = rw (is, later (omega arith))

pub pieces_cut : (at : ℕ) (text : List ℕ) → 0 < length text → pieces at text ≡ before at text ∷ pieces at (bytes_after at text)
pieces_cut at [] some = absurd (omega arith)
pieces_cut at (b ∷ bs) some = pieces_by at b bs (eqb b at) refl (pieces_cut at bs)

behind_by : (at b : ℕ) (bs : List ℕ) (is : Bool) → eqb b at ≡ is → length (bytes_after at bs) ≤ length bs → length (bytes_after at (b ∷ bs)) < length (b ∷ bs)
behind_by at b bs true is later = rw is (omega arith)
behind_by at b bs false is later = rw is (omega arith)

behind_no_longer : (at : ℕ) (text : List ℕ) → length (bytes_after at text) ≤ length text
behind_no_longer at [] = omega arith
behind_no_longer at (b ∷ bs) = omega (arith, behind_by at b bs (eqb b at) refl (behind_no_longer at bs))

pub behind_shorter : (at : ℕ) (text : List ℕ) → 0 < length text → length (bytes_after at text) < length text
behind_shorter at [] some = absurd (omega arith)
behind_shorter at (b ∷ bs) some = behind_by at b bs (eqb b at) refl (behind_no_longer at bs)

-- places in a list
pub drop_next : {X : Type 0} (xs : List X) (i : ℕ) (x : X) (rest : List X) → drop i xs ≡ x ∷ rest → (drop (i + 1) xs ≡ rest) × (i + 1 ≤ length xs)
drop_next xs i x rest is =
    let more : length (drop i xs) ≡ length (x ∷ rest) = ap length is in
    (rw (← drop-drop 1 i xs) (ap (drop 1) is), omega (arith, more, length-drop i xs))
