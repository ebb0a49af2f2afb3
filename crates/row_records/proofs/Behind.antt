-- What follows that which is read, found without what is read.
use Rattle.std.proofs.Common.{◌≡◌, ℕ, ◌-◌, ◌+◌, ◌≤◌, ◌<◌, List, ◌∷◌, Option, Some, None, refl, ap, ◌∙◌}
use Rattle.std.specs.Prelude.{IsSome}
use Rattle.row_model.specs.declared.rows.Cell.{Cell}
use Rattle.leaf_model.specs.Reading.{◌>>=◌, many_at, long_text_at, texts_at, cell_at, cells_at, row_at, rows_at}
use Rattle.row_records.specs.Reading.{bytes_left_after, name_and_rest}
use Rattle.leaf_model.proofs.Fields.{some_is}
use Rattle.row_records.proofs.Loop.{one_more, no_more}

-- what is made of it has the same behind it
behind_kept : {A B : Type 0} (read : Option (A × List ℕ)) (f : A → B) → bytes_left_after (read >>= λ x. Some (f x.0, x.1)) ≡ bytes_left_after read
behind_kept None f = refl
behind_kept (Some x) f = refl

-- where something follows, something was read
pub was_read : {A : Type 0} (read : Option (A × List ℕ)) (after : List ℕ) → bytes_left_after read ≡ Some after → IsSome read
was_read None after e = absurd cc
was_read (Some x) after e = refl

-- ---- so many of these

pass : {A : Type 0} (first : Option (A × List ℕ)) (others : List ℕ → Option (List A × List ℕ)) (after : List ℕ) → bytes_left_after first ≡ Some after
    → bytes_left_after (first >>= λ x. others x.1 >>= λ y. Some (x.0 ∷ y.0, y.1)) ≡ bytes_left_after (others after)
pass None others after e = absurd cc
pass {A} (Some x) others after e = behind_kept (others x.1) (λ (ys : List A). x.0 ∷ ys) ∙ ap (λ (w : List ℕ). bytes_left_after (others w)) (some_is x.1 after e)

stop : {A B : Type 0} (first : Option (A × List ℕ)) (others : A × List ℕ → Option (B × List ℕ)) → bytes_left_after first ≡ None → bytes_left_after (first >>= others) ≡ None
stop None others e = refl
stop (Some x) others e = absurd cc

many_pass : {A : Type 0} (one : List ℕ → Option (A × List ℕ)) (count i : ℕ) (bytes after : List ℕ) → i < count → bytes_left_after (one bytes) ≡ Some after → bytes_left_after (many_at one (count - i) bytes) ≡ bytes_left_after (many_at one (count - (i + 1)) after)
many_pass one count i bytes after lt e = rw (one_more count i lt) (pass (one bytes) (many_at one (count - (i + 1))) after e)

many_stop : {A : Type 0} (one : List ℕ → Option (A × List ℕ)) (count i : ℕ) (bytes : List ℕ) → i < count → bytes_left_after (one bytes) ≡ None → bytes_left_after (many_at one (count - i) bytes) ≡ None
many_stop one count i bytes lt e = rw (one_more count i lt) (stop (one bytes) (λ x. many_at one (count - (i + 1)) x.1 >>= λ y. Some (x.0 ∷ y.0, y.1)) e)

many_done : {A : Type 0} (one : List ℕ → Option (A × List ℕ)) (count i : ℕ) (bytes : List ℕ) → count ≤ i → bytes_left_after (many_at one (count - i) bytes) ≡ Some bytes
many_done one count i bytes le = rw (no_more count i le) refl

-- ---- texts

pub texts_pass : (count i : ℕ) (bytes text after : List ℕ) → i < count → long_text_at bytes ≡ Some (text, after) → bytes_left_after (texts_at (count - i) bytes) ≡ bytes_left_after (texts_at (count - (i + 1)) after)
unfolding texts_at
texts_pass count i bytes text after lt e = many_pass long_text_at count i bytes after lt (ap (λ (read : Option (List ℕ × List ℕ)). bytes_left_after read) e)

pub texts_stop : (count i : ℕ) (bytes : List ℕ) → i < count → long_text_at bytes ≡ None → bytes_left_after (texts_at (count - i) bytes) ≡ None
unfolding texts_at
texts_stop count i bytes lt e = many_stop long_text_at count i bytes lt (ap (λ (read : Option (List ℕ × List ℕ)). bytes_left_after read) e)

pub texts_done : (count i : ℕ) (bytes : List ℕ) → count ≤ i → bytes_left_after (texts_at (count - i) bytes) ≡ Some bytes
unfolding texts_at
texts_done count i bytes le = many_done long_text_at count i bytes le

-- ---- cells

cells_on : (first : Option (Cell × List ℕ)) (others : List ℕ → List ℕ → Option (List Cell × List ℕ)) (name after : List ℕ) → name_and_rest first ≡ Some (name, after)
    → bytes_left_after (first >>= λ x. others x.0.name x.1 >>= λ y. Some (x.0 ∷ y.0, y.1)) ≡ bytes_left_after (others name after)
cells_on None others name after e = absurd cc
cells_on (Some x) others name after e =
    behind_kept (others x.0.name x.1) (λ (ys : List Cell). x.0 ∷ ys) ∙ ap (λ (y : List ℕ × List ℕ). bytes_left_after (others y.0 y.1)) (some_is (x.0.name, x.1) (name, after) e)

no_cell : (first : Option (Cell × List ℕ)) → name_and_rest first ≡ None → bytes_left_after first ≡ None
no_cell None e = refl
no_cell (Some x) e = absurd cc

pub cells_pass : (count i : ℕ) (last bytes name after : List ℕ) → i < count → name_and_rest (cell_at last bytes) ≡ Some (name, after) → bytes_left_after (cells_at (count - i) last bytes) ≡ bytes_left_after (cells_at (count - (i + 1)) name after)
unfolding cells_at
cells_pass count i last bytes name after lt e = rw (one_more count i lt) (cells_on (cell_at last bytes) (cells_at (count - (i + 1))) name after e)

pub cells_stop : (count i : ℕ) (last bytes : List ℕ) → i < count → name_and_rest (cell_at last bytes) ≡ None → bytes_left_after (cells_at (count - i) last bytes) ≡ None
unfolding cells_at
cells_stop count i last bytes lt e =
    rw (one_more count i lt) (stop (cell_at last bytes) (λ x. cells_at (count - (i + 1)) x.0.name x.1 >>= λ y. Some (x.0 ∷ y.0, y.1)) (no_cell (cell_at last bytes) e))

pub cells_done : (count i : ℕ) (last bytes : List ℕ) → count ≤ i → bytes_left_after (cells_at (count - i) last bytes) ≡ Some bytes
unfolding cells_at
cells_done count i last bytes le = rw (no_more count i le) refl

-- ---- rows

pub rows_pass : (count i : ℕ) (bytes after : List ℕ) → i < count → bytes_left_after (row_at bytes) ≡ Some after → bytes_left_after (rows_at (count - i) bytes) ≡ bytes_left_after (rows_at (count - (i + 1)) after)
unfolding rows_at
rows_pass count i bytes after lt e = many_pass row_at count i bytes after lt e

pub rows_stop : (count i : ℕ) (bytes : List ℕ) → i < count → bytes_left_after (row_at bytes) ≡ None → bytes_left_after (rows_at (count - i) bytes) ≡ None
unfolding rows_at
rows_stop count i bytes lt e = many_stop row_at count i bytes lt e

pub rows_done : (count i : ℕ) (bytes : List ℕ) → count ≤ i → bytes_left_after (rows_at (count - i) bytes) ≡ Some bytes
unfolding rows_at
rows_done count i bytes le = many_done row_at count i bytes le
