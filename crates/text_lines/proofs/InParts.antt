-- A text that is cut at line ends means what its parts mean.
use Rattle.std.proofs.Common.{◌≡◌, ◌<◌, ◌≤◌, ◌+◌, ◌-◌, ◌⊎◌, inl, inr, ℕ, suc, zero, List, [], ◌∷◌, ◌++◌, length, take, drop, map, refl, ap, sym, subst, ◌∙◌, arith, zero-add, Bool, true, false, eqb, Result, Ok, Err, Bor, add-zero, append_assoc, length-append}
use Rattle.std.specs.Prelude.{IfOk, IfErr}
use Rattle.std.specs.List.{AllByRecursion, AllZip, onto_first}
use Rattle.std.proofs.lemmas.Bool.{eqb-true}
use Rattle.std.proofs.lemmas.List.{append-nil, append_cancel_right, map-append, take-append-drop, take_at, drop_at, take_rest, length-map, length-drop}
use Rattle.text_lines.specs.Lines.{before, bytes_after, lines, lines_of, without_return}
use Rattle.text_lines.specs.Parts.{IsLineCut, IsFront, IsTextCut, ends_line, lines_of_parts}
use Rattle.text_lines.proofs.Cut.{pieces_cut, drop_next}

-- ---- a text cut behind a byte 10

before_behind_by : (at b : ℕ) (bs : List ℕ) (is : Bool) → eqb b at ≡ is → (bs ≡ before at bs ++ at ∷ bytes_after at bs) ⊎ ((bs ≡ before at bs) × (bytes_after at bs ≡ []))
    → (b ∷ bs ≡ before at (b ∷ bs) ++ at ∷ bytes_after at (b ∷ bs)) ⊎ ((b ∷ bs ≡ before at (b ∷ bs)) × (bytes_after at (b ∷ bs) ≡ []))
before_behind_by at b bs true is later = rw is (inl (ap (λ (c : ℕ). c ∷ bs) (eqb-true b at is)))
before_behind_by at b bs false is (inl both) = rw is (inl (ap (λ (l : List ℕ). b ∷ l) both))
before_behind_by at b bs false is (inr last) = rw is (inr (ap (λ (l : List ℕ). b ∷ l) last.0, last.1))

before_behind : (at : ℕ) (text : List ℕ) → (text ≡ before at text ++ at ∷ bytes_after at text) ⊎ ((text ≡ before at text) × (bytes_after at text ≡ []))
before_behind at [] = inr (refl, refl)
before_behind at (b ∷ bs) = before_behind_by at b bs (eqb b at) refl (before_behind at bs)

pub line_cut : (text line rest : List ℕ) → line ≡ before 10 text → rest ≡ bytes_after 10 text → IsLineCut text line rest
line_cut text line rest first others = rw (first, others) (before_behind 10 text)

pub ends_line-push : (xs : List ℕ) → ends_line (xs ++ 10 ∷ []) ≡ true
ends_line-push [] = refl
ends_line-push (b ∷ []) = refl
ends_line-push (b ∷ c ∷ bs) = ends_line-push (c ∷ bs)

pub ends_line-append : (a b : List ℕ) → ends_line a ≡ true → ends_line b ≡ true → ends_line (a ++ b) ≡ true
ends_line-append [] b first last = last
ends_line-append (x ∷ []) [] first last = first
ends_line-append (x ∷ []) (y ∷ ys) first last = last
ends_line-append (x ∷ y ∷ ys) b first last = ends_line-append (y ∷ ys) b first last

onto_first-append : (x : ℕ) (a b : List (List ℕ)) → 0 < length a → onto_first x (a ++ b) ≡ onto_first x a ++ b
onto_first-append x [] b some = absurd (omega arith)
onto_first-append x (piece ∷ a) b some = refl

pub some_line : (x : ℕ) (xs : List ℕ) → 0 < length (lines (x ∷ xs))
some_line x xs = rw (pieces_cut 10 (x ∷ xs) (omega arith)) (omega arith)

joined_by : (x : ℕ) (xs b : List ℕ) (is : Bool) → eqb x 10 ≡ is → 0 < length (lines xs) → lines (xs ++ b) ≡ lines xs ++ lines b → lines (x ∷ (xs ++ b)) ≡ lines (x ∷ xs) ++ lines b
joined_by x xs b true is some later = rw is (ap (λ (ls : List (List ℕ)). [] ∷ ls) later)
joined_by x xs b false is some later = rw is (ap (onto_first x) later ∙ onto_first-append x (lines xs) (lines b) some)

-- the lines of two texts, of which the first is nothing or ends with a line's end
lines_joined : (a b : List ℕ) → ends_line a ≡ true → lines (a ++ b) ≡ lines a ++ lines b
lines_joined [] b ended = refl
lines_joined (x ∷ []) b ended = rw ended refl
lines_joined (x ∷ y ∷ ys) b ended = joined_by x (y ∷ ys) b (eqb x 10) refl (some_line y ys) (lines_joined (y ∷ ys) b ended)

pub lines_of-joined : (a b : List ℕ) → ends_line a ≡ true → lines_of (a ++ b) ≡ lines_of a ++ lines_of b
lines_of-joined a b ended = ap (map without_return) (lines_joined a b ended) ∙ map-append without_return (lines a) (lines b)

split_at : (text front back : List ℕ) (k : ℕ) → front ++ back ≡ text → k ≡ length text - length back → (take k text ≡ front) × (drop k text ≡ back)
split_at text front back k both is =
    let size : length front + length back ≡ length text = sym (length-append front back) ∙ ap length both in
    let here : length front ≡ k = omega arith in
    (subst (λ (t : List ℕ). take k t ≡ front) both (take_at front back k here), subst (λ (t : List ℕ). drop k t ≡ back) both (drop_at front back k here))

cut_there : (text front back : List ℕ) (k : ℕ) → front ++ back ≡ text → lines_of front ++ lines_of back ≡ lines_of text → k ≡ length text - length back → IsTextCut text (take k text) (drop k text)
cut_there text front back k both are is =
    let places = split_at text front back k both is in
    record { joined = take-append-drop k text; lines = rw (places.0, places.1) are }

-- a text, cut behind the line that its byte at this place belongs to
pub cut_behind : (text piece line after : List ℕ) (place k : ℕ) → piece ≡ take (length text - place) (drop place text) → IsLineCut piece line after → k ≡ length text - length after → IsTextCut text (take k text) (drop k text)
cut_behind text piece line after place k is (inl ended) at =
    let front = take place text ++ line in
    let here : take place text ++ (line ++ 10 ∷ after) ≡ text = ap (λ (l : List ℕ). take place text ++ l) (sym ended ∙ is ∙ take_rest text place) ∙ take-append-drop place text in
    let both : (front ++ 10 ∷ []) ++ after ≡ text = append_assoc front (10 ∷ []) after ∙ append_assoc (take place text) line (10 ∷ after) ∙ here in
    cut_there text (front ++ 10 ∷ []) after k both (sym (lines_of-joined (front ++ 10 ∷ []) after (ends_line-push front)) ∙ ap lines_of both) at
cut_behind text piece line after place k is (inr last) at =
    let both : text ++ after ≡ text = ap (λ (l : List ℕ). text ++ l) last.1 ∙ append-nil text in
    let none : lines_of text ++ lines_of after ≡ lines_of text = ap (λ (l : List ℕ). lines_of text ++ lines_of l) last.1 ∙ append-nil (lines_of text) in
    cut_there text text after k both none at

-- the front of such a cut ends with a line's end, or nothing stands behind it
pub behind_ended : (text piece line after : List ℕ) (place k : ℕ) → piece ≡ take (length text - place) (drop place text) → IsLineCut piece line after → k ≡ length text - length after → 0 < length (drop k text) → ends_line (take k text) ≡ true
behind_ended text piece line after place k is (inl ended) at some =
    let front = take place text ++ line in
    let here : take place text ++ (line ++ 10 ∷ after) ≡ text = ap (λ (l : List ℕ). take place text ++ l) (sym ended ∙ is ∙ take_rest text place) ∙ take-append-drop place text in
    let both : (front ++ 10 ∷ []) ++ after ≡ text = append_assoc front (10 ∷ []) after ∙ append_assoc (take place text) line (10 ∷ after) ∙ here in
    ap ends_line (split_at text (front ++ 10 ∷ []) after k both at).0 ∙ ends_line-push front
behind_ended text piece line after place k is (inr last) at some =
    let none : length after ≡ 0 = ap length last.1 in
    absurd (omega (arith, some, length-drop k text, at, none))

-- no more lines than bytes
onto_first_short : (x : ℕ) (a : List (List ℕ)) (n : ℕ) → length a ≤ n → length (onto_first x a) ≤ suc n
onto_first_short x [] n short = omega arith
onto_first_short x (piece ∷ a) n short = omega (arith, short)

pieces_short_by : (x : ℕ) (xs : List ℕ) (is : Bool) → eqb x 10 ≡ is → length (lines xs) ≤ length xs → length (lines (x ∷ xs)) ≤ suc (length xs)
pieces_short_by x xs true is short = rw is (omega (arith, short))
pieces_short_by x xs false is short = rw is (onto_first_short x (lines xs) (length xs) short)

lines_no_more : (text : List ℕ) → length (lines text) ≤ length text
lines_no_more [] = omega arith
lines_no_more (x ∷ xs) = pieces_short_by x xs (eqb x 10) refl (lines_no_more xs)

pub lines_short : (text : List ℕ) → length (lines_of text) ≤ length text
lines_short text = rw (length-map (lines text) without_return) (lines_no_more text)

-- ---- the first lines of a text

-- a line with its end, where it has one
record IsFirst (text line rest : List ℕ) : Type 0 where
  piece : List ℕ
  both : piece ++ rest ≡ text
  lines : lines_of piece ≡ without_return line ∷ []
  ended : 0 < length rest → ends_line piece ≡ true

first_line : (text line rest : List ℕ) → lines text ≡ line ∷ lines rest → IsLineCut text line rest → IsFirst text line rest
first_line text line rest are (inl ended) =
    let piece = line ++ 10 ∷ [] in
    let both : piece ++ rest ≡ text = append_assoc line (10 ∷ []) rest ∙ sym ended in
    let one : lines piece ++ lines rest ≡ (line ∷ []) ++ lines rest = sym (lines_joined piece rest (ends_line-push line)) ∙ ap lines both ∙ are in
    record { piece = piece; both = both; lines = ap (map without_return) (append_cancel_right (lines piece) (line ∷ []) (lines rest) one); ended = λ some. ends_line-push line }
first_line text line rest are (inr last) =
    let none : length rest ≡ 0 = ap length last.1 in
    record {
      piece = line;
      both = ap (λ (l : List ℕ). line ++ l) last.1 ∙ append-nil line ∙ sym last.0;
      lines = ap lines_of (sym last.0) ∙ ap (map without_return) are ∙ ap (λ (l : List ℕ). without_return line ∷ lines_of l) last.1;
      ended = λ some. absurd (omega arith);
    }

length_taken : {X : Type 0} (k : ℕ) (xs : List X) → k ≤ length xs → length (take k xs) ≡ k
length_taken zero xs within = refl
length_taken (suc k) [] within = absurd (omega arith)
length_taken (suc k) (x ∷ xs) within = ap suc (length_taken k xs (omega arith))

pub front_none : (text : List ℕ) → IsFront text text 0
front_none text = record { front = []; both = refl; first = refl; others = refl; within = omega arith; short = omega arith; ended = λ some. refl }

take_next : {X : Type 0} (xs : List X) (i : ℕ) (x : X) (rest : List X) → drop i xs ≡ x ∷ rest → take (i + 1) xs ≡ take i xs ++ x ∷ []
take_next [] zero x rest is = absurd (cc)
take_next [] (suc i) x rest is = absurd (cc)
take_next (y ∷ ys) zero x rest is = cc
take_next (y ∷ ys) (suc i) x rest is =
    let e : suc i + 1 ≡ suc (i + 1) = omega arith in
    rw e (ap (λ l. y ∷ l) (take_next ys i x rest is))

pub front_more : (text rest line after : List ℕ) (count : ℕ) → IsFront text rest count → 0 < length rest → lines rest ≡ line ∷ lines after → IsLineCut rest line after → length after < length rest → IsFront text after (count + 1)
front_more text rest line after count so_far some are cut shorter =
    let first = first_line rest line after are cut in
    let here : drop count (lines_of text) ≡ without_return line ∷ lines_of after = sym so_far.others ∙ ap (map without_return) are in
    let next = drop_next (lines_of text) count (without_return line) (lines_of after) here in
    record {
      front = so_far.front ++ first.piece;
      both = append_assoc so_far.front first.piece after ∙ ap (λ (l : List ℕ). so_far.front ++ l) first.both ∙ so_far.both;
      first = lines_of-joined so_far.front first.piece (so_far.ended some) ∙ ap (λ (ls : List (List ℕ)). ls ++ lines_of first.piece) so_far.first ∙ ap (λ (ls : List (List ℕ)). take count (lines_of text) ++ ls) first.lines
          ∙ sym (take_next (lines_of text) count (without_return line) (lines_of after) here);
      others = sym next.0;
      within = next.1;
      short = omega (arith, so_far.short);
      ended = λ more. ends_line-append so_far.front first.piece (so_far.ended some) (first.ended more);
    }

-- the front of a cut at a line's end
pub front_of_cut : (text front rest : List ℕ) (count : ℕ) → IsTextCut text front rest → (0 < length rest → ends_line front ≡ true) → count ≡ length (lines_of front) → IsFront text rest count
front_of_cut text front rest count cut ended is =
    let size : length (lines_of front) + length (lines_of rest) ≡ length (lines_of text) = sym (length-append (lines_of front) (lines_of rest)) ∙ ap length cut.lines in
    let bytes : length front + length rest ≡ length text = sym (length-append front rest) ∙ ap length cut.joined in
    record {
      front = front;
      both = cut.joined;
      first = sym (take_at (lines_of front) (lines_of rest) count (sym is)) ∙ ap (take count) cut.lines;
      others = sym (drop_at (lines_of front) (lines_of rest) count (sym is)) ∙ ap (drop count) cut.lines;
      within = omega (arith, is, size);
      short = omega (arith, is, bytes, lines_short front);
      ended = ended;
    }

-- lines that are passed behind others
pub front_then : (text rest after : List ℕ) (n k : ℕ) → IsFront text rest n → IsFront rest after k → length after < length rest → IsFront text after (n + k)
front_then text rest after n k a b shorter =
    let ended : ends_line a.front ≡ true = a.ended (omega (arith, shorter)) in
    let all : take n (lines_of text) ++ (take k (lines_of rest) ++ drop k (lines_of rest)) ≡ lines_of text =
    ap (λ (ls : List (List ℕ)). take n (lines_of text) ++ ls) (take-append-drop k (lines_of rest) ∙ a.others) ∙ take-append-drop n (lines_of text) in
    let front = take n (lines_of text) ++ take k (lines_of rest) in
    let both : front ++ drop k (lines_of rest) ≡ lines_of text = append_assoc (take n (lines_of text)) (take k (lines_of rest)) (drop k (lines_of rest)) ∙ all in
    let first_size : length (take n (lines_of text)) ≡ n = length_taken n (lines_of text) a.within in
    let next_size : length (take k (lines_of rest)) ≡ k = length_taken k (lines_of rest) b.within in
    let joined_size : length front ≡ length (take n (lines_of text)) + length (take k (lines_of rest)) = length-append (take n (lines_of text)) (take k (lines_of rest)) in
    let size : length front ≡ n + k = omega (arith, joined_size, first_size, next_size) in
    let whole : length front + length (drop k (lines_of rest)) ≡ length (lines_of text) = sym (length-append front (drop k (lines_of rest))) ∙ ap length both in
    record {
      front = a.front ++ b.front;
      both = append_assoc a.front b.front after ∙ ap (λ (l : List ℕ). a.front ++ l) b.both ∙ a.both;
      first = lines_of-joined a.front b.front ended ∙ ap (λ (ls : List (List ℕ)). ls ++ lines_of b.front) a.first ∙ ap (λ (ls : List (List ℕ)). take n (lines_of text) ++ ls) b.first
          ∙ sym (take_at front (drop k (lines_of rest)) (n + k) size) ∙ ap (take (n + k)) both;
      others = b.others ∙ sym (drop_at front (drop k (lines_of rest)) (n + k) size) ∙ ap (drop (n + k)) both;
      within = omega (arith, whole, size);
      short = omega (arith, a.short, b.short);
      ended = λ more. ends_line-append a.front b.front ended (b.ended more);
    }
