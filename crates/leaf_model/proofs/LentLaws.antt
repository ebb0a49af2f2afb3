-- What stands at the front of bytes, one after another: the first, the others, and what follows them.
use Rattle.std.proofs.Common.{◌≡◌, ℕ, ℤ, zero, suc, ◌+◌, ◌-◌, ◌≤◌, ◌<◌, cond, ltb, is_some, List, [], ◌∷◌, length, take, drop, Option, Some, None, refl, sym, ap, subst, ◌∙◌, arith}
use Rattle.std.specs.Prelude.{IsSome}
use Rattle.std.specs.Str.{IsUtf8, is_utf8}
use Rattle.std.proofs.lemmas.Bool.{ltb-false}
use Rattle.std.proofs.lemmas.Str.{IsUtf8-from_is_utf8}
use Rattle.row_model.specs.declared.rows.Cell.{Cell}
use Rattle.row_model.specs.declared.rows.Row.{Row}
use Rattle.std.specs.Int.{w16}
use Rattle.leaf_model.specs.Reading.{◌>>=◌, many_at, number_at, time_at, text_at, long_text_at, texts_at, row_at, rows_at, cell_at, cells_at, name_at, value_at, may_follow}
use Rattle.leaf_model.specs.Fronts.{front_of, any_cell_at, any_cells_at}
use Rattle.leaf_model.proofs.Fields.{bind_some, passed, held, some_is}

-- something is read
pub some_of : {A : Type 0} (r : Option A) → IsSome r → (x : A) × (r ≡ Some x)
some_of (Some x) some = (x, refl)
some_of None some = absurd cc

pub is_read : {A : Type 0} (r : Option A) (x : A) → r ≡ Some x → IsSome r
is_read r x e = ap is_some e

-- what follows what was read
abbrev pub after_of : {A : Type 0} → Option (List A × List ℕ) → List ℕ
after_of None = []
after_of (Some read) = read.1

-- what is read is its front and what follows
pub whole_of : {A : Type 0} (r : Option (List A × List ℕ)) → IsSome r → r ≡ Some (front_of r, after_of r)
whole_of (Some read) some = refl
whole_of None some = absurd cc

-- one more in front of what was read
abbrev with_first : {A : Type 0} → A → Option (List A × List ℕ) → Option (List A × List ℕ)
with_first x r = r >>= λ others. Some (x ∷ others.0, others.1)

-- a first one, and the others after it
pub record Opens {A : Type 0} (x : A) (others total : Option (List A × List ℕ)) : Type 0 where
  pub some : IsSome others
  pub front : front_of total ≡ x ∷ front_of others
  pub after : after_of total ≡ after_of others

opens : {A : Type 0} (x : A) (r : Option (List A × List ℕ)) → IsSome (with_first x r) → Opens x r (with_first x r)
opens x (Some others) some = record { some = refl; front = refl; after = refl }
opens x None some = absurd cc

-- where so many are read, there is a first one
first_read : {A : Type 0} (one : List ℕ → Option (A × List ℕ)) (n : ℕ) (bytes : List ℕ) → 0 < n → IsSome (many_at one n bytes) → IsSome (one bytes)
first_read one zero bytes some read = absurd (omega (arith, some))
first_read one (suc n) bytes some read = by (one bytes) (λ first. many_at one n first.1 >>= λ others. Some (first.0 ∷ others.0, others.1)) read
  where
    by : {X Y : Type 0} (r : Option X) (f : X → Option Y) → IsSome (r >>= f) → IsSome r
    by (Some x) f read = refl
    by None f read = absurd cc

opened : {A : Type 0} (one : List ℕ → Option (A × List ℕ)) (n : ℕ) (bytes : List ℕ) (x : A) (after : List ℕ) → IsSome (many_at one (suc n) bytes) → one bytes ≡ Some (x, after)
    → Opens x (many_at one n after) (many_at one (suc n) bytes)
opened {A} one n bytes x after read e =
    let here : many_at one (suc n) bytes ≡ with_first x (many_at one n after) = ap (λ (r : Option (A × List ℕ)). r >>= λ first. many_at one n first.1 >>= λ others. Some (first.0 ∷ others.0, others.1)) e in
    subst (λ (r : Option (List A × List ℕ)). Opens x (many_at one n after) r) (sym here) (opens x (many_at one n after) (subst (λ (r : Option (List A × List ℕ)). IsSome r) here read))

one_less : (n : ℕ) → 0 < n → n ≡ suc (n - 1)
one_less n some = omega (arith, some)

-- and the others stand behind it
others_read : {A : Type 0} (one : List ℕ → Option (A × List ℕ)) (n : ℕ) (bytes : List ℕ) (x : A) (after : List ℕ) → 0 < n → IsSome (many_at one n bytes) → one bytes ≡ Some (x, after)
    → Opens x (many_at one (n - 1) after) (many_at one n bytes)
others_read one n bytes x after some read e =
    let more = one_less n some in
    subst (λ (k : ℕ). Opens x (many_at one (n - 1) after) (many_at one k bytes)) (sym more) (opened one (n - 1) bytes x after (subst (λ (k : ℕ). IsSome (many_at one k bytes)) more read) e)

-- so many are read
count_read : {A : Type 0} (one : List ℕ → Option (A × List ℕ)) (n : ℕ) (bytes : List ℕ) → IsSome (many_at one n bytes) → n ≡ length (front_of (many_at one n bytes))
count_read one zero bytes read = refl
count_read one (suc n) bytes read =
    let first = some_of (one bytes) (first_read one (suc n) bytes (omega arith) read) in
    let parts = opened one n bytes first.0.0 first.0.1 read first.1 in
    ap suc (count_read one n first.0.1 parts.some) ∙ sym (ap length parts.front)

-- ---- so many of them, and the others

with_some : {A : Type 0} (x : A) (r : Option (List A × List ℕ)) → IsSome r → IsSome (with_first x r)
with_some x (Some others) some = refl
with_some x None some = absurd cc

-- the first k of n, and the others behind them
pub record Split {A : Type 0} (one : List ℕ → Option (A × List ℕ)) (k n : ℕ) (bytes : List ℕ) : Type 0 where
  pub front_some : IsSome (many_at one k bytes)
  pub front : front_of (many_at one k bytes) ≡ take k (front_of (many_at one n bytes))
  pub back_some : IsSome (many_at one (n - k) (after_of (many_at one k bytes)))
  pub back : front_of (many_at one (n - k) (after_of (many_at one k bytes))) ≡ drop k (front_of (many_at one n bytes))

many_split : {A : Type 0} (one : List ℕ → Option (A × List ℕ)) (k n : ℕ) (bytes : List ℕ) → k ≤ n → IsSome (many_at one n bytes) → Split one k n bytes
many_split one zero n bytes le some =
    let all : n ≡ n - 0 = omega arith in
    record {
      front_some = refl;
      front = refl;
      back_some = subst (λ (m : ℕ). IsSome (many_at one m bytes)) all some;
      back = sym (ap (λ (m : ℕ). front_of (many_at one m bytes)) all);
    }
many_split one (suc k) zero bytes le some = absurd (omega (arith, le))
many_split {A} one (suc k) (suc n) bytes le some =
    let first = some_of (one bytes) (first_read one (suc n) bytes (omega arith) some) in
    let x = first.0.0 in
    let after = first.0.1 in
    let parts = opened one n bytes x after some first.1 in
    let rest = many_split one k n after (omega (arith, le)) parts.some in
    let few : many_at one (suc k) bytes ≡ with_first x (many_at one k after) = ap (λ (r : Option (A × List ℕ)). r >>= λ first. many_at one k first.1 >>= λ others. Some (first.0 ∷ others.0, others.1)) first.1 in
    let few_some = subst (λ (r : Option (List A × List ℕ)). IsSome r) (sym few) (with_some x (many_at one k after) rest.front_some) in
    let few_parts = opened one k bytes x after few_some first.1 in
    let behind : after_of (many_at one (suc k) bytes) ≡ after_of (many_at one k after) = few_parts.after in
    let less : n - k ≡ suc n - suc k = omega arith in
    record {
      front_some = few_some;
      front = few_parts.front ∙ ap (λ (xs : List A). x ∷ xs) rest.front ∙ sym (ap (take (suc k)) parts.front);
      back_some = subst (λ (m : ℕ). IsSome (many_at one m (after_of (many_at one (suc k) bytes)))) less (subst (λ (w : List ℕ). IsSome (many_at one (n - k) w)) (sym behind) rest.back_some);
      back = sym (ap (λ (m : ℕ). front_of (many_at one m (after_of (many_at one (suc k) bytes)))) less) ∙ ap (λ (w : List ℕ). front_of (many_at one (n - k) w)) behind ∙ rest.back ∙ sym (ap (drop (suc k)) parts.front);
    }

-- ---- while they are passed over

-- what is left to pass is there, and what follows it is what follows all
pub record Passes {A : Type 0} (now total : Option (List A × List ℕ)) : Type 0 where
  pub some : IsSome now
  pub after : after_of now ≡ after_of total

pub passed_all : {A : Type 0} (rest : List ℕ) (now total : Option (List A × List ℕ)) → IsSome total → now ≡ Some ([], rest) → Passes now total → total ≡ Some (front_of total, rest)
passed_all {A} rest now total some e p =
    let after : rest ≡ after_of total = sym (ap (λ (r : Option (List A × List ℕ)). after_of r) e) ∙ p.after in
    whole_of total some ∙ ap (λ (w : List ℕ). Some (front_of total, w)) (sym after)

step_left : (count i : ℕ) → i < count → count - i - 1 ≡ count - (i + 1)
step_left count i lt = omega arith

some_left : (count i : ℕ) → i < count → 0 < count - i
some_left count i lt = omega (arith, lt)

none_left : (count i : ℕ) → count ≤ i → count - i ≡ 0
none_left count i le = omega arith

passes_on : {A : Type 0} (one : List ℕ → Option (A × List ℕ)) (count i : ℕ) (rest : List ℕ) (x : A) (after : List ℕ) (total : Option (List A × List ℕ)) → i < count → one rest ≡ Some (x, after)
    → Passes (many_at one (count - i) rest) total → Passes (many_at one (count - (i + 1)) after) total
passes_on {A} one count i rest x after total lt e p =
    let opened = others_read one (count - i) rest x after (some_left count i lt) p.some e in
    let next : Passes (many_at one (count - i - 1) after) total = record { some = opened.some; after = sym opened.after ∙ p.after } in
    subst (λ (k : ℕ). Passes (many_at one k after) total) (step_left count i lt) next

done : {A : Type 0} (one : List ℕ → Option (A × List ℕ)) (count i : ℕ) (rest : List ℕ) → count ≤ i → many_at one (count - i) rest ≡ Some ([], rest)
done one count i rest le = ap (λ (k : ℕ). many_at one k rest) (none_left count i le)

-- ---- texts

pub utf8_front : (n : ℕ) (bytes : List ℕ) → IsSome (text_at n bytes) → (n ≤ length bytes) × IsUtf8 (take n bytes)
unfolding text_at
utf8_front n bytes some =
    let read = some_of (text_at n bytes) some in
    let long = passed (ltb (length bytes) n) (cond (is_utf8 (take n bytes)) (Some (take n bytes, drop n bytes)) None) read.0 read.1 in
    let utf8 = held (is_utf8 (take n bytes)) (Some (take n bytes, drop n bytes)) read.0 long.1 in
    (ltb-false _ _ long.0, IsUtf8-from_is_utf8 (take n bytes) utf8.0)

pub texts_count : (n : ℕ) (bytes : List ℕ) → IsSome (texts_at n bytes) → n ≡ length (front_of (texts_at n bytes))
unfolding texts_at
texts_count n bytes some = count_read long_text_at n bytes some

pub text_first : (n : ℕ) (bytes : List ℕ) → 0 < n → IsSome (texts_at n bytes) → IsSome (long_text_at bytes)
unfolding texts_at
text_first n bytes some read = first_read long_text_at n bytes some read

pub texts_open : (n : ℕ) (bytes text after : List ℕ) → 0 < n → IsSome (texts_at n bytes) → long_text_at bytes ≡ Some (text, after) → Opens text (texts_at (n - 1) after) (texts_at n bytes)
unfolding texts_at
texts_open n bytes text after some read e = others_read long_text_at n bytes text after some read e

pub texts_pass : (count i : ℕ) (rest text after : List ℕ) (total : Option (List (List ℕ) × List ℕ)) → i < count → long_text_at rest ≡ Some (text, after) → Passes (texts_at (count - i) rest) total → Passes (texts_at (count - (i + 1)) after) total
unfolding texts_at
texts_pass count i rest text after total lt e p = passes_on long_text_at count i rest text after total lt e p

pub texts_done : (count i : ℕ) (rest : List ℕ) → count ≤ i → texts_at (count - i) rest ≡ Some ([], rest)
unfolding texts_at
texts_done count i rest le = done long_text_at count i rest le

-- ---- cells

pub cells_count : (n : ℕ) (bytes : List ℕ) → IsSome (any_cells_at n bytes) → n ≡ length (front_of (any_cells_at n bytes))
unfolding any_cells_at
cells_count n bytes some = count_read any_cell_at n bytes some

pub cell_first : (n : ℕ) (bytes : List ℕ) → 0 < n → IsSome (any_cells_at n bytes) → IsSome (any_cell_at bytes)
unfolding any_cells_at
cell_first n bytes some read = first_read any_cell_at n bytes some read

pub cells_open : (n : ℕ) (bytes : List ℕ) (c : Cell) (after : List ℕ) → 0 < n → IsSome (any_cells_at n bytes) → any_cell_at bytes ≡ Some (c, after) → Opens c (any_cells_at (n - 1) after) (any_cells_at n bytes)
unfolding any_cells_at
cells_open n bytes c after some read e = others_read any_cell_at n bytes c after some read e

pub cells_pass : (count i : ℕ) (rest : List ℕ) (c : Cell) (after : List ℕ) (total : Option (List Cell × List ℕ)) → i < count → any_cell_at rest ≡ Some (c, after) → Passes (any_cells_at (count - i) rest) total → Passes (any_cells_at (count - (i + 1)) after) total
unfolding any_cells_at
cells_pass count i rest c after total lt e p = passes_on any_cell_at count i rest c after total lt e p

pub cells_done : (count i : ℕ) (rest : List ℕ) → count ≤ i → any_cells_at (count - i) rest ≡ Some ([], rest)
unfolding any_cells_at
cells_done count i rest le = done any_cell_at count i rest le

-- a cell behind another stands there
any_cell : (last bytes : List ℕ) (x : Cell × List ℕ) → cell_at last bytes ≡ Some x → any_cell_at bytes ≡ Some x
unfolding cell_at any_cell_at
any_cell last bytes x e =
    let a = bind_some (name_at bytes) (λ name. cond (may_follow last name.0) (value_at name.1 >>= λ value. Some (record { name = name.0; value = value.0 }, value.1)) None) x e in
    let g = held (may_follow last a.0.0) (value_at a.0.1 >>= λ value. Some (record { name = a.0.0; value = value.0 }, value.1)) x a.2 in
    rw a.1 g.1

-- cells that stand in order stand there
pub any_cells : (n : ℕ) (last bytes : List ℕ) (x : List Cell × List ℕ) → cells_at n last bytes ≡ Some x → any_cells_at n bytes ≡ Some x
unfolding cells_at any_cells_at
any_cells zero last bytes x e = e
any_cells (suc n) last bytes x e =
    let a = bind_some (cell_at last bytes) (λ first. cells_at n first.0.name first.1 >>= λ others. Some (first.0 ∷ others.0, others.1)) x e in
    let b = bind_some (cells_at n a.0.0.name a.0.1) (λ others. Some (a.0.0 ∷ others.0, others.1)) x a.2 in
    rw (any_cell last bytes a.0 a.1, any_cells n a.0.0.name a.0.1 b.0 b.1) b.2

-- ---- rows

-- a row is its time, and so many cells behind their number
pub record RowParts (bytes : List ℕ) (time : ℤ) (k : ℕ) (rest : List ℕ) : Type 0 where
  pub some : IsSome (any_cells_at k rest)
  pub row : (after : List ℕ) → any_cells_at k rest ≡ Some (front_of (any_cells_at k rest), after) → row_at bytes ≡ Some (record { time = time; cells = front_of (any_cells_at k rest) }, after)

abbrev made : ℤ → List Cell × List ℕ → Row × List ℕ
made time cells = (record { time = time; cells = cells.0 }, cells.1)

pub row_parts : (bytes : List ℕ) (t time : ℤ) (first : List ℕ) (k : ℕ) (rest : List ℕ) → IsSome (row_at bytes) → time_at bytes ≡ Some (t, first) → number_at w16 first ≡ Some (k, rest) → time ≡ t → RowParts bytes time k rest
unfolding row_at
row_parts bytes t time first k rest some at counted same =
    let x = some_of (row_at bytes) some in
    let cells_after : Option (Row × List ℕ) = cond (ltb 1024 k) None (cells_at k [] rest >>= λ cells. Some (made t cells)) in
    let here : row_at bytes ≡ cells_after = rw (at, counted) refl in
    let g = passed (ltb 1024 k) (cells_at k [] rest >>= λ cells. Some (made t cells)) x.0 (sym here ∙ x.1) in
    let c = bind_some (cells_at k [] rest) (λ cells. Some (made t cells)) x.0 g.1 in
    let any = any_cells k [] rest c.0 c.1 in
    record {
      some = is_read (any_cells_at k rest) c.0 any;
      row = λ after whole. x.1 ∙ sym c.2 ∙ ap (λ (cells : List Cell × List ℕ). Some (made t cells)) (some_is c.0 (front_of (any_cells_at k rest), after) (sym any ∙ whole)) ∙ ap (λ (z : ℤ). Some (made z (front_of (any_cells_at k rest), after))) (sym same);
    }

pub rows_count : (n : ℕ) (bytes : List ℕ) → IsSome (rows_at n bytes) → n ≡ length (front_of (rows_at n bytes))
unfolding rows_at
rows_count n bytes some = count_read row_at n bytes some

pub row_first : (n : ℕ) (bytes : List ℕ) → 0 < n → IsSome (rows_at n bytes) → IsSome (row_at bytes)
unfolding rows_at
row_first n bytes some read = first_read row_at n bytes some read

pub rows_open : (n : ℕ) (bytes : List ℕ) (row : Row) (after : List ℕ) → 0 < n → IsSome (rows_at n bytes) → row_at bytes ≡ Some (row, after) → Opens row (rows_at (n - 1) after) (rows_at n bytes)
unfolding rows_at
rows_open n bytes row after some read e = others_read row_at n bytes row after some read e

pub rows_pass : (count i : ℕ) (rest : List ℕ) (row : Row) (after : List ℕ) (total : Option (List Row × List ℕ)) → i < count → row_at rest ≡ Some (row, after) → Passes (rows_at (count - i) rest) total → Passes (rows_at (count - (i + 1)) after) total
unfolding rows_at
rows_pass count i rest row after total lt e p = passes_on row_at count i rest row after total lt e p

pub rows_done : (count i : ℕ) (rest : List ℕ) → count ≤ i → rows_at (count - i) rest ≡ Some ([], rest)
unfolding rows_at
rows_done count i rest le = done row_at count i rest le

-- what follows the first rows of some
pub record RowsSplit (k n : ℕ) (bytes rest : List ℕ) : Type 0 where
  pub some : IsSome (rows_at (n - k) rest)
  pub back : front_of (rows_at (n - k) rest) ≡ drop k (front_of (rows_at n bytes))

pub front_rows : (k n : ℕ) (bytes : List ℕ) → k ≤ n → IsSome (rows_at n bytes) → IsSome (rows_at k bytes) × (front_of (rows_at k bytes) ≡ take k (front_of (rows_at n bytes)))
unfolding rows_at
front_rows k n bytes le some = let s = many_split row_at k n bytes le some in (s.front_some, s.front)

pub back_rows : (k n : ℕ) (bytes rest : List ℕ) → k ≤ n → IsSome (rows_at n bytes) → rows_at k bytes ≡ Some (front_of (rows_at k bytes), rest) → RowsSplit k n bytes rest
unfolding rows_at
back_rows k n bytes rest le some e =
    let s = many_split row_at k n bytes le some in
    let behind : after_of (many_at row_at k bytes) ≡ rest = ap (λ (r : Option (List Row × List ℕ)). after_of r) e in
    record {
      some = subst (λ (w : List ℕ). IsSome (many_at row_at (n - k) w)) behind s.back_some;
      back = subst (λ (w : List ℕ). front_of (many_at row_at (n - k) w) ≡ drop k (front_of (many_at row_at n bytes))) behind s.back;
    }
