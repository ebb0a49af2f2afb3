-- An expiry as a greater horizon, and a keep as a greater cut.
use Rattle.std.proofs.Common.{◌≡◌, ℕ, ◌-◌, List, [], ◌∷◌, ◌++◌, length, take, drop, filter, cond, Bool, true, false, ℤ, int_lt, int_le, refl, sym, ap, ◌∙◌, arith}
use Rattle.std.specs.Int.{int_max}
use Rattle.std.proofs.lemmas.Bool.{true_from_ne_false}
use Rattle.std.proofs.lemmas.Int.{ints}
use Rattle.std.proofs.lemmas.List.{take-append-drop}
use Rattle.std.proofs.lemmas.List.Elements.{filter-append}
use Rattle.std.proofs.Math.Seq.{drop-append_seam}
use Rattle.row_model.specs.declared.rows.Row.{Row}
use Rattle.leaf_model.specs.Content.{rows_from, last_rows}

module _ {X : Type 0} (q : X → Bool) where
  one_more : (x : X) (xs kept : List X) (b c : Bool) → q x ≡ c → (c ≡ true → b ≡ true) → filter q kept ≡ filter q xs → filter q (cond b (x ∷ kept) kept) ≡ cond c (x ∷ filter q xs) (filter q xs)
  one_more x xs kept true c e weaker same = ap (λ (d : Bool). cond d (x ∷ filter q kept) (filter q kept)) e ∙ ap (λ (left : List X). cond c (x ∷ left) left) same
  one_more x xs kept false false e weaker same = same
  one_more x xs kept false true e weaker same = let no = weaker refl in absurd cc

  -- a weaker test takes nothing from what passes a test
  twice : (p : X → Bool) → ((x : X) → q x ≡ true → p x ≡ true) → (xs : List X) → filter q (filter p xs) ≡ filter q xs
  twice p weaker [] = refl
  twice p weaker (x ∷ xs) = one_more x xs (filter p xs) (p x) (q x) refl (weaker x) (twice p weaker xs)

at_least : (b : Bool) (before horizon time : ℤ) → int_lt horizon before ≡ b → int_le (cond b before horizon) time ≡ true → int_le before time ≡ true
at_least true before horizon time e after = after
at_least false before horizon time e after = true_from_ne_false (int_le before time) (λ no. omega (arith, ints, e, after, no))

pub horizons_expire : (rows : List Row) (before horizon : ℤ) → rows_from (int_max before horizon) (rows_from before rows) ≡ rows_from (int_max before horizon) rows
horizons_expire rows before horizon =
    twice (λ (row : Row). int_le (int_max before horizon) row.time) (λ (row : Row). int_le before row.time)
    (λ (row : Row) after. at_least (int_lt horizon before) before horizon row.time refl after) rows

pub cuts_keep : (rows : List Row) (horizon : ℤ) (n cut : ℕ) → length (rows_from horizon (take cut rows)) ≡ length (rows_from horizon rows) - n → rows_from horizon (drop cut rows) ≡ last_rows n (rows_from horizon rows)
cuts_keep rows horizon n cut e =
    let gone = rows_from horizon (take cut rows) in
    let left = rows_from horizon (drop cut rows) in
    let all : rows_from horizon rows ≡ gone ++ left = ap (rows_from horizon) (sym (take-append-drop cut rows)) ∙ filter-append (λ (row : Row). int_le horizon row.time) (take cut rows) (drop cut rows) in
    sym (ap (λ (k : ℕ). drop k (rows_from horizon rows)) (sym e) ∙ ap (drop (length gone)) all ∙ drop-append_seam gone left)
