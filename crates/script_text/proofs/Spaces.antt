-- The words of a line.
use Rattle.std.proofs.Common.{◌≡◌, ◌<◌, ◌≤◌, ◌-◌, ℕ, zero, suc, List, [], ◌∷◌, length, take, get_or, refl, ap, sym, ◌∙◌, arith, Bool, true, false, eqb, ltb, subst, ◌&&◌, true≢false}
use Rattle.std.proofs.Math.Seq.{take-length}
use Rattle.std.specs.List.{filter}
use Rattle.std.proofs.lemmas.Bool.Decides.{nat_tests}
use Rattle.text_lines.specs.Lines.{pieces, before, bytes_after, is_blank}
use Rattle.script_text.specs.Words.{words_of, unindented, first_word, behind_word, trimmed}
use Rattle.text_lines.proofs.Cut.{pieces_cut, behind_shorter}

-- a space before the first word
space_word : (b : ℕ) (bs : List ℕ) → eqb b 32 ≡ true → unindented (b ∷ bs) ≡ unindented bs
space_word b bs is = rw is

no_space : (b : ℕ) (bs : List ℕ) → eqb b 32 ≡ false → unindented (b ∷ bs) ≡ b ∷ bs
no_space b bs is = rw is

space_words : (b : ℕ) (bs : List ℕ) → eqb b 32 ≡ true → words_of (b ∷ bs) ≡ words_of bs
space_words b bs is = rw is

-- a word of one byte or more is among the words
longer : (b : ℕ) (bs : List ℕ) → eqb b 32 ≡ false → before 32 (b ∷ bs) ≡ b ∷ before 32 bs
longer b bs is = rw is

some_words : (b : ℕ) (bs word : List ℕ) (rest : List (List ℕ)) → word ≡ b ∷ bs → filter (λ piece. ltb 0 (length piece)) (word ∷ rest) ≡ word ∷ filter (λ piece. ltb 0 (length piece)) rest
some_words b bs word rest is =
    let some : ltb 0 (length word) ≡ true = grind (arith, nat_tests, ap length is) in
    rw some

-- the first word, and the others
words_by : (b : ℕ) (bs : List ℕ) (is : Bool) → eqb b 32 ≡ is → (0 < length (first_word bs) → words_of bs ≡ first_word bs ∷ words_of (behind_word bs)) → 0 < length (first_word (b ∷ bs)) → words_of (b ∷ bs) ≡ first_word (b ∷ bs) ∷ words_of (behind_word (b ∷ bs))
words_by b bs true is later some =
    let same : unindented (b ∷ bs) ≡ unindented bs = space_word b bs is in
    let few : 0 < length (first_word bs) = subst (λ u. 0 < length (before 32 u)) same some in
    let both : words_of (b ∷ bs) ≡ first_word bs ∷ words_of (behind_word bs) = space_words b bs is ∙ later few in
    subst (λ u. words_of (b ∷ bs) ≡ before 32 u ∷ words_of (bytes_after 32 u)) (sym same) both
words_by b bs false is later some =
    let cut = pieces_cut 32 (b ∷ bs) (omega arith) in
    let both : words_of (b ∷ bs) ≡ before 32 (b ∷ bs) ∷ words_of (bytes_after 32 (b ∷ bs)) = ap (filter (λ piece. ltb 0 (length piece))) cut ∙ some_words b (before 32 bs) (before 32 (b ∷ bs)) (pieces 32 (bytes_after 32 (b ∷ bs))) (longer b bs is) in
    subst (λ u. words_of (b ∷ bs) ≡ before 32 u ∷ words_of (bytes_after 32 u)) (sym (no_space b bs is)) both

pub words_cut : (line : List ℕ) → 0 < length (first_word line) → words_of line ≡ first_word line ∷ words_of (behind_word line)
words_cut [] some = absurd (omega arith)
words_cut (b ∷ bs) some = words_by b bs (eqb b 32) refl (words_cut bs) some

none_by : (b : ℕ) (bs : List ℕ) (is : Bool) → eqb b 32 ≡ is → (length (first_word bs) ≡ 0 → words_of bs ≡ []) → length (first_word (b ∷ bs)) ≡ 0 → words_of (b ∷ bs) ≡ []
none_by b bs true is later none =
    space_words b bs is ∙ later (subst (λ u. length (before 32 u) ≡ 0) (space_word b bs is) none)
none_by b bs false is later none =
    let empty : length (b ∷ before 32 bs) ≡ 0 = subst (λ w. length w ≡ 0) (longer b bs is) (subst (λ u. length (before 32 u) ≡ 0) (no_space b bs is) none) in
    absurd (omega arith)

pub words_none : (line : List ℕ) → length (first_word line) ≡ 0 → words_of line ≡ []
words_none [] none = refl
words_none (b ∷ bs) none = none_by b bs (eqb b 32) refl (words_none bs) none

shorter_by : (b : ℕ) (bs : List ℕ) (is : Bool) → eqb b 32 ≡ is → (0 < length (first_word bs) → length (behind_word bs) < length bs) → 0 < length (first_word (b ∷ bs)) → length (behind_word (b ∷ bs)) < length (b ∷ bs)
shorter_by b bs true is later some =
    let same : unindented (b ∷ bs) ≡ unindented bs = space_word b bs is in
    let few : 0 < length (first_word bs) = subst (λ u. 0 < length (before 32 u)) same some in
    let less : length (behind_word bs) < length (b ∷ bs) = omega (arith, later few) in
    subst (λ u. length (bytes_after 32 u) < length (b ∷ bs)) (sym same) less
shorter_by b bs false is later some =
    subst (λ u. length (bytes_after 32 u) < length (b ∷ bs)) (sym (no_space b bs is)) (behind_shorter 32 (b ∷ bs) (omega arith))

pub behind_word-shorter : (line : List ℕ) → 0 < length (first_word line) → length (behind_word line) < length line
behind_word-shorter [] some = absurd (omega arith)
behind_word-shorter (b ∷ bs) some = shorter_by b bs (eqb b 32) refl (behind_word-shorter bs) some

-- spaces at the end
blank_space : (text : List ℕ) (k : ℕ) → k < length text → eqb (get_or text k 0) 32 ≡ true → is_blank (take (suc k) text) ≡ is_blank (take k text)
blank_space [] k within is = absurd (omega arith)
blank_space (b ∷ bs) zero within is = rw is
blank_space (b ∷ bs) (suc k) within is = rw (blank_space bs k (omega arith) is)

trim_space : (text : List ℕ) (k : ℕ) → k < length text → eqb (get_or text k 0) 32 ≡ true → trimmed (take (suc k) text) ≡ trimmed (take k text)
trim_space [] k within is = absurd (omega arith)
trim_space (b ∷ bs) zero within is = rw is
trim_space (b ∷ bs) (suc k) within is = rw (blank_space bs k (omega arith) is, trim_space bs k (omega arith) is)

and_false : (b : Bool) → (b && false) ≡ false
and_false true = refl
and_false false = refl

not_blank : (text : List ℕ) (k : ℕ) → k < length text → eqb (get_or text k 0) 32 ≡ false → is_blank (take (suc k) text) ≡ false
not_blank [] k within other = absurd (omega arith)
not_blank (b ∷ bs) zero within other = rw other
not_blank (b ∷ bs) (suc k) within other = rw (not_blank bs k (omega arith) other) (and_false _)

trim_other : (text : List ℕ) (k : ℕ) → k < length text → eqb (get_or text k 0) 32 ≡ false → trimmed (take (suc k) text) ≡ take (suc k) text
trim_other [] k within other = absurd (omega arith)
trim_other (b ∷ bs) zero within other = rw other
trim_other (b ∷ bs) (suc k) within other =
    let some : is_blank (b ∷ take (suc k) bs) ≡ false = not_blank (b ∷ bs) (suc k) within other in
    rw (some, trim_other bs k (omega arith) other)

-- one space less
less_by : (text : List ℕ) (n : ℕ) → n ≤ length text → eqb (get_or text (n - 1) 0) 32 ≡ true → 0 < n → trimmed (take (n - 1) text) ≡ trimmed (take n text)
less_by text zero within is some = absurd (omega arith)
less_by text (suc k) within is some =
    let e : suc k - 1 ≡ k = omega arith in
    rw e (sym (trim_space text k (omega arith) (subst (λ i. eqb (get_or text i 0) 32 ≡ true) e is)))

some_there : (text : List ℕ) (i : ℕ) → eqb (get_or text i 0) 32 ≡ true → 0 < length text
some_there [] i is = absurd (true≢false (sym is))
some_there (b ∷ bs) i is = omega arith

pub trimmed_less : (text : List ℕ) → eqb (get_or text (length text - 1) 0) 32 ≡ true → trimmed (take (length text - 1) text) ≡ trimmed text
trimmed_less text is = less_by text (length text) (omega arith) is (some_there text (length text - 1) is) ∙ ap trimmed (take-length text)

pub one_less : (text : List ℕ) → eqb (get_or text (length text - 1) 0) 32 ≡ true → length text - 1 < length text
one_less text is = omega (arith, some_there text (length text - 1) is)

-- no space at the end
end_by : (text : List ℕ) (n : ℕ) → n ≤ length text → eqb (get_or text (n - 1) 0) 32 ≡ false → trimmed (take n text) ≡ take n text
end_by text zero within other = refl
end_by text (suc k) within other =
    let e : suc k - 1 ≡ k = omega arith in
    trim_other text k (omega arith) (subst (λ i. eqb (get_or text i 0) 32 ≡ false) e other)

pub trimmed_end : (text : List ℕ) → eqb (get_or text (length text - 1) 0) 32 ≡ false → trimmed text ≡ text
trimmed_end text other = ap trimmed (sym (take-length text)) ∙ end_by text (length text) (omega arith) other ∙ take-length text
