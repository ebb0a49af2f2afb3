-- The groups of rows that stand in slots are those of each slot, joined.
use Rattle.std.proofs.Common.{◌≡◌, ℕ, zero, suc, Bool, true, false, eqb, ltb, List, [], ◌∷◌, filter, refl, ap, ◌∙◌, arith}
use Rattle.std.specs.Prelude.{not}
use Rattle.std.proofs.lemmas.Bool.{ltb-true, ltb-false, eqb-true, eqb-false}
use Rattle.row_model.specs.declared.rows.Row.{Row}
use Rattle.leaf_model.specs.declared.queries.Query.{Query}
use Rattle.leaf_model.specs.Groups.{groups}
use Rattle.group_table.specs.Joined.{joined}
use Rattle.slot_groups.specs.Slots.{below, classes, in_slot}
use Rattle.slot_groups.proofs.Splits.{split_by}

module _ (slot : Row → ℕ) (n : ℕ) where
  abbrev IsKept : List Row → Type 0
  IsKept rows = filter (λ row. ltb (slot row) n) (below slot (suc n) rows) ≡ below slot n rows

  abbrev IsLeft : List Row → Type 0
  IsLeft rows = filter (λ row. not (ltb (slot row) n)) (below slot (suc n) rows) ≡ in_slot slot n rows

  kept_more : (x : Row) (xs : List Row) (a b : Bool) → ltb (slot x) (suc n) ≡ a → ltb (slot x) n ≡ b → IsKept xs → IsKept (x ∷ xs)
  kept_more x xs true true d e so_far = rw (d, e) (ap (λ l. x ∷ l) so_far)
  kept_more x xs true false d e so_far = rw (d, e) so_far
  kept_more x xs false true d e so_far = absurd (omega (arith, ltb-false (slot x) (suc n) d, ltb-true (slot x) n e))
  kept_more x xs false false d e so_far = rw (d, e) so_far

  left_more : (x : Row) (xs : List Row) (a b c : Bool) → ltb (slot x) (suc n) ≡ a → ltb (slot x) n ≡ b → eqb (slot x) n ≡ c → IsLeft xs → IsLeft (x ∷ xs)
  left_more x xs true true true d e f so_far = absurd (omega (arith, ltb-true (slot x) n e, eqb-true (slot x) n f))
  left_more x xs true true false d e f so_far = rw (d, f) (rw e so_far)
  left_more x xs true false true d e f so_far = rw (d, f) (rw e (ap (λ l. x ∷ l) so_far))
  left_more x xs true false false d e f so_far = absurd (eqb-false (slot x) n f (omega (arith, ltb-true (slot x) (suc n) d, ltb-false (slot x) n e)))
  left_more x xs false b true d e f so_far = absurd (omega (arith, ltb-false (slot x) (suc n) d, eqb-true (slot x) n f))
  left_more x xs false b false d e f so_far = rw (d, f) so_far

  kept : (rows : List Row) → IsKept rows
  kept [] = refl
  kept (x ∷ xs) = kept_more x xs (ltb (slot x) (suc n)) (ltb (slot x) n) refl refl (kept xs)

  left : (rows : List Row) → IsLeft rows
  left [] = refl
  left (x ∷ xs) = left_more x xs (ltb (slot x) (suc n)) (ltb (slot x) n) (eqb (slot x) n) refl refl refl (left xs)

  -- one slot more
  pub one_slot : (q : Query) (rows : List Row) → groups q (below slot (suc n) rows) ≡ joined (groups q (below slot n rows)) (groups q (in_slot slot n rows))
  one_slot q rows =
      split_by q (λ row. ltb (slot row) n) (below slot (suc n) rows)
      ∙ ap (λ l. joined (groups q l) (groups q (filter (λ row. not (ltb (slot row) n)) (below slot (suc n) rows)))) (kept rows)
      ∙ ap (λ l. joined (groups q (below slot n rows)) (groups q l)) (left rows)

none_more : (slot : Row → ℕ) (x : Row) (xs : List Row) (b : Bool) → ltb (slot x) 0 ≡ b → below slot 0 xs ≡ [] → below slot 0 (x ∷ xs) ≡ []
none_more slot x xs true e none = absurd (omega (arith, ltb-true (slot x) 0 e))
none_more slot x xs false e none = rw e none

none_below : (slot : Row → ℕ) (rows : List Row) → below slot 0 rows ≡ []
none_below slot [] = refl
none_below slot (x ∷ xs) = none_more slot x xs (ltb (slot x) 0) refl (none_below slot xs)

pub by_slot : (q : Query) (slot : Row → ℕ) (rows : List Row) (n : ℕ) → groups q (below slot n rows) ≡ classes q slot rows n
by_slot q slot rows zero = ap (groups q) (none_below slot rows)
by_slot q slot rows (suc n) = one_slot slot n q rows ∙ ap (λ gs. joined gs (groups q (in_slot slot n rows))) (by_slot q slot rows n)
