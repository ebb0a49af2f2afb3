-- The lines of a text are counted by their ends.
use Rattle.std.proofs.Common.{◌≡◌, ◌<◌, ◌≤◌, ◌+◌, ◌-◌, ℕ, zero, suc, max, List, [], ◌∷◌, ◌++◌, length, take, drop, get_or, refl, ap, sym, ◌∙◌, arith, Bool, true, false, eqb, add-zero, zero-add, length-append}
use Rattle.std.specs.Prelude.{◌==◌, if◌then◌else◌, slice_index}
use Rattle.std.specs.List.{onto_first}
use Rattle.std.proofs.lemmas.Bool.{eqb-true, false_from_ne_true}
use Rattle.std.proofs.lemmas.List.{take-append-drop, length-map, length-drop, drop-drop, get_or-drop}
use Rattle.std.proofs.lemmas.Grind.{take_at_read}
use Rattle.text_lines.specs.Lines.{lines, lines_of, without_return}
use Rattle.text_lines.specs.Parts.{ends, ends_line}
use Rattle.text_lines.proofs.InParts.{ends_line-push, some_line}

joined_by : (x : ℕ) (a b : List ℕ) (is : Bool) → eqb x 10 ≡ is → ends (a ++ b) ≡ ends a + ends b → ends (x ∷ (a ++ b)) ≡ ends (x ∷ a) + ends b
joined_by x a b true is later = rw is (omega (arith, later))
joined_by x a b false is later = rw is (omega (arith, later))

-- the ends of two texts
pub ends-append : (a b : List ℕ) → ends (a ++ b) ≡ ends a + ends b
ends-append [] b = omega arith
ends-append (x ∷ a) b = joined_by x a b (eqb x 10) refl (ends-append a b)

-- the ends of the first bytes, and of the byte behind them
pub ends_next : (text : List ℕ) (i : ℕ) → i < length text → ends (take (i + 1) text) ≡ ends (take i text) + (if get_or text i 0 == 10 then 1 else 0)
ends_next text i within =
    ap ends (take_at_read text i 0 within).1 ∙ ends-append (take i text) (get_or text i 0 ∷ []) ∙ ap (λ (n : ℕ). ends (take i text) + n) (add-zero (if get_or text i 0 == 10 then 1 else 0))

-- the ends of a text that is cut
pub ends_cut : (text : List ℕ) (k : ℕ) → ends (take k text) + ends (drop k text) ≡ ends text
ends_cut text k = sym (ends-append (take k text) (drop k text)) ∙ ap ends (take-append-drop k text)

-- the last byte
pub ends_line_last : (text : List ℕ) → 0 < length text → ends_line text ≡ (slice_index text (length text - 1) == 10)
ends_line_last [] some = absurd (omega arith)
ends_line_last (b ∷ []) some = refl
ends_line_last (b ∷ c ∷ bs) some =
    let here : suc (suc (length bs)) - 1 ≡ suc (length bs) = omega arith in
    let there : suc (length bs) - 1 ≡ length bs = omega arith in
    rw here (ends_line_last (c ∷ bs) (omega arith) ∙ ap (λ (i : ℕ). slice_index (c ∷ bs) i == 10) there)

one_by : (x : ℕ) (is : Bool) → eqb x 10 ≡ is → length (lines (x ∷ [])) ≡ ends (x ∷ []) + (if ends_line (x ∷ []) then 0 else 1)
one_by x true is = rw is refl
one_by x false is = rw is refl

more_by : (x : ℕ) (ls : List (List ℕ)) (e z : ℕ) (is : Bool) → 0 < length ls → length ls ≡ e + z → length (if is then [] ∷ ls else onto_first x ls) ≡ (if is then 1 else 0) + e + z
more_by x ls e z true some same = omega (arith, same)
more_by x [] e z false some same = absurd (omega arith)
more_by x (l ∷ ls) e z false some same = omega (arith, same)

lines_counted : (text : List ℕ) → length (lines text) ≡ ends text + (if ends_line text then 0 else 1)
lines_counted [] = refl
lines_counted (x ∷ []) = one_by x (eqb x 10) refl
lines_counted (x ∷ y ∷ ys) = more_by x (lines (y ∷ ys)) (ends (y ∷ ys)) (if ends_line (y ∷ ys) then 0 else 1) (eqb x 10) (some_line y ys) (lines_counted (y ∷ ys))

-- as many lines as ends, or one line more, which has no end
pub lines_of_counted : (text : List ℕ) → length (lines_of text) ≡ ends text + (if ends_line text then 0 else 1)
lines_of_counted text = length-map (lines text) without_return ∙ lines_counted text

pub counted_ended : (text : List ℕ) → ends_line text ≡ true → ends text ≡ length (lines_of text)
counted_ended text is = sym (lines_of_counted text ∙ ap (λ (b : Bool). ends text + (if b then 0 else 1)) is ∙ add-zero (ends text))

pub counted_open : (text : List ℕ) → ends_line text ≡ false → ends text + 1 ≡ length (lines_of text)
counted_open text is = sym (lines_of_counted text ∙ ap (λ (b : Bool). ends text + (if b then 0 else 1)) is)

-- more ends are counted, of the first bytes
pub ends_step : (text rest front back : List ℕ) (count more : ℕ) → front ≡ take 192 rest → back ≡ drop 192 rest → more ≡ ends front → more ≤ length front → count + ends rest ≡ ends text → count + length rest ≤ length text
    → (count + more + ends back ≡ ends text) × (count + more + length back ≤ length text)
ends_step text rest front back count more first others is few so_far within =
    let all : ends front + ends back ≡ ends rest = sym (ends-append front back) ∙ ap ends (ap (λ (l : List ℕ). l ++ back) first ∙ ap (λ (l : List ℕ). take 192 rest ++ l) others ∙ take-append-drop 192 rest) in
    let size : length front + length back ≡ length rest = sym (length-append front back) ∙ ap length (ap (λ (l : List ℕ). l ++ back) first ∙ ap (λ (l : List ℕ). take 192 rest ++ l) others ∙ take-append-drop 192 rest) in
    sums (ends front) (ends back) (ends rest) (ends text) count more (length front) (length back) (length rest) (length text) all size is few so_far within
  where
    sums : (f b r t count more lf lb lr lt : ℕ) → f + b ≡ r → lf + lb ≡ lr → more ≡ f → more ≤ lf → count + r ≡ t → count + lr ≤ lt → (count + more + b ≡ t) × (count + more + lb ≤ lt)
    sums f b r t count more lf lb lr lt all size is few so_far within = (omega (arith, all, is, so_far), omega (arith, size, few, within))

-- ---- the last line that has its end

-- no line ends from a place on
ends_none : (text : List ℕ) (i : ℕ) → ((k : ℕ) → i ≤ k → k < length text → eqb (get_or text k 0) 10 ≡ true → ⊥) → ends (drop i text) ≡ 0
ends_none [] zero none = refl
ends_none [] (suc i) none = refl
ends_none (b ∷ bs) zero none =
    let here : eqb b 10 ≡ false = false_from_ne_true _ (none 0 (omega arith) (omega arith)) in
    rw here (zero-add (ends bs) ∙ ends_none bs zero (λ k low high. none (suc k) (omega arith) (omega arith)))
ends_none (b ∷ bs) (suc i) none = ends_none bs i (λ k low high. none (suc k) (omega arith) (omega arith))

module _ (text piece : List ℕ) (looked at : ℕ) (is : piece ≡ drop looked text) (within : at < length piece) where
  inside : looked + at < length text
  inside = omega (arith, within, ap length is, length-drop looked text)

  pub end_found : eqb (get_or piece at 0) 10 ≡ true → ends_line (take (looked + at + 1) text) ≡ true
  end_found found =
      let same : get_or piece at 0 ≡ get_or text (looked + at) 0 = ap (λ (l : List ℕ). get_or l at 0) is ∙ get_or-drop looked text at 0 in
      let last : get_or text (looked + at) 0 ≡ 10 = sym same ∙ eqb-true _ _ found in
      ap ends_line ((take_at_read text (looked + at) 0 inside).1 ∙ ap (λ (b : ℕ). take (looked + at) text ++ b ∷ []) last) ∙ ends_line-push (take (looked + at) text)

  pub end_last : ((k : ℕ) → at + 1 ≤ k → k < length piece → eqb (get_or piece k 0) 10 ≡ true → ⊥) → ends (drop (max (looked + at + 1) looked) text) ≡ 0
  end_last none =
      let most : max (looked + at + 1) looked ≡ looked + (at + 1) = omega arith in
      ap ends (ap (λ (k : ℕ). drop k text) most ∙ sym (drop-drop (at + 1) looked text) ∙ ap (drop (at + 1)) (sym is)) ∙ ends_none piece (at + 1) none

pub no_end : (text piece : List ℕ) (looked : ℕ) → piece ≡ drop looked text → ((k : ℕ) → 0 ≤ k → k < length piece → eqb (get_or piece k 0) 10 ≡ true → ⊥) → ends (drop (max 0 looked) text) ≡ 0
no_end text piece looked is none =
    let most : max 0 looked ≡ looked = omega arith in
    ap ends (ap (λ (k : ℕ). drop k text) most ∙ sym is) ∙ ends_none piece 0 none
