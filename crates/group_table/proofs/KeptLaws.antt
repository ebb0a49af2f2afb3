-- Rows that count, one behind another.
use Rattle.std.proofs.Common.{◌≡◌, ℕ, ◌+◌, ◌<◌, ◌^◌, true, false, List, [], ◌∷◌, ◌++◌, length, take, drop, ℤ, Option, None, refl, sym, ap, subst, ◌∙◌, arith}
use Rattle.std.proofs.lemmas.List.{append_assoc, append-nil, length-append, take_all, take_more, take-append-drop}
use Rattle.std.proofs.lemmas.List.Elements.{filter-append}
use Rattle.row_model.specs.declared.rows.Row.{Row}
use Rattle.leaf_model.specs.declared.queries.Query.{Query}
use Rattle.leaf_model.specs.declared.groups.Group.{Group}
use Rattle.leaf_model.specs.Groups.{groups}
use Rattle.std.specs.List.{AllByRecursion}
use Rattle.group_table.specs.Joined.{joined, IsWithin}
use Rattle.group_table.specs.Split.{IsMade, IsSplit}
use Rattle.group_table.specs.Kept.{MayGrow, is_kept, kept}
use Rattle.group_table.proofs.Laws.{groups-append, joined-nil}
use Rattle.group_table.proofs.Ends.{first_left, three_parts}
use Rattle.group_table.proofs.Split.{none_made}

pub kept_both : (h : Option ℤ) (xs ys : List Row) → kept h (xs ++ ys) ≡ kept h xs ++ kept h ys
kept_both h xs ys = filter-append (is_kept h) xs ys

-- without a horizon all rows count
pub all_kept : (xs : List Row) → kept None xs ≡ xs
all_kept [] = refl
all_kept (x ∷ xs) = ap (λ rest. x ∷ rest) (all_kept xs)

-- one row more
pub kept_next : (h : Option ℤ) (rows : List Row) (i : ℕ) (row : Row) (rest : List Row) → i < length rows → drop i rows ≡ row ∷ rest → kept h (take (i + 1) rows) ≡ kept h (take i rows) ++ kept h (row ∷ [])
kept_next h rows i row rest lt here =
    ap (kept h) (take_more rows i row lt ∙ ap (λ r. take i rows ++ r ∷ []) (first_left rows i row rest here)) ∙ kept_both h (take i rows) (row ∷ [])

pub one_kept : (h : Option ℤ) (row : Row) → is_kept h row ≡ true → kept h (row ∷ []) ≡ row ∷ []
one_kept h row is = rw is refl

pub none_kept : (h : Option ℤ) (row : Row) → is_kept h row ≡ false → kept h (row ∷ []) ≡ []
none_kept h row is = rw is refl

-- how many count of the first of them, and of one more
pub kept_few : (h : Option ℤ) (rows : List Row) (i : ℕ) → length (kept h (take i rows)) + length (kept h (drop i rows)) ≡ length (kept h rows)
kept_few h rows i = sym (length-append (kept h (take i rows)) (kept h (drop i rows))) ∙ sym (ap length (kept_both h (take i rows) (drop i rows))) ∙ ap (λ xs. length (kept h xs)) (take-append-drop i rows)

pub kept_first : (h : Option ℤ) (row : Row) (rest : List Row) → length (kept h (row ∷ rest)) ≡ length (kept h (row ∷ [])) + length (kept h rest)
kept_first h row rest = ap length (kept_both h (row ∷ []) rest) ∙ length-append (kept h (row ∷ [])) (kept h rest)

-- the groups of rows so far, and of one row more
pub groups_next : (q : Query) (h : Option ℤ) (xs rows : List Row) (i : ℕ) (row : Row) (rest : List Row) (gs hs : List Group) → i < length rows → drop i rows ≡ row ∷ rest
    → gs ≡ groups q (xs ++ kept h (take i rows)) → hs ≡ joined gs (groups q (kept h (row ∷ []))) → hs ≡ groups q (xs ++ kept h (take (i + 1) rows))
groups_next q h xs rows i row rest gs hs lt here so_far more =
    let one = kept h (row ∷ []) in
    let before = kept h (take i rows) in
    more ∙ ap (λ ts. joined ts (groups q one)) so_far ∙ sym (groups-append q (xs ++ before) one)
    ∙ ap (groups q) (append_assoc xs before one ∙ ap (λ ys. xs ++ ys) (sym (kept_next h rows i row rest lt here)))

pub whole : (r : ℕ) (rows : List Row) → r ≡ length rows → take r rows ≡ rows
whole r rows all = take_all r rows (omega (arith, all))

-- the rows that count, of a front and of two parts behind it
pub three_kept : (h : Option ℤ) (xs : List Row) (r : ℕ) (rows left front back : List Row) → left ≡ drop r rows → (k : ℕ) → front ≡ take k left → back ≡ drop k left
    → ((xs ++ kept h (take r rows)) ++ kept h front) ++ kept h back ≡ xs ++ kept h rows
three_kept h xs r rows left front back is k f b =
    let parts : (take r rows ++ front) ++ back ≡ rows = rw (f, b, is) (three_parts r k rows) in
    ap (λ l. l ++ kept h back) (append_assoc xs (kept h (take r rows)) (kept h front)) ∙ append_assoc xs (kept h (take r rows) ++ kept h front) (kept h back)
    ∙ ap (λ l. xs ++ l) (ap (λ l. l ++ kept h back) (sym (kept_both h (take r rows) front)) ∙ sym (kept_both h (take r rows ++ front) back) ∙ ap (kept h) parts)

pub three_counts : (h : Option ℤ) (r : ℕ) (rows left front back : List Row) → left ≡ drop r rows → (k : ℕ) → front ≡ take k left → back ≡ drop k left
    → length (kept h (take r rows)) + length (kept h front) + length (kept h back) ≡ length (kept h rows)
three_counts h r rows left front back is k f b =
    sym (length-append (kept h (take r rows) ++ kept h front) (kept h back) ∙ ap (λ n. n + length (kept h back)) (length-append (kept h (take r rows)) (kept h front)))
    ∙ ap length (three_kept h [] r rows left front back is k f b)

-- a table of no rows
pub within_none : (m : ℕ) (gs : List Group) → gs ≡ [] → AllByRecursion (IsWithin m) gs
within_none m gs none = subst (AllByRecursion (IsWithin m)) (sym none) tt

pub no_start : (q : Query) (n : ℕ) (gs : List Group) → gs ≡ [] → n < 2 ^ 64 → MayGrow q n gs
no_start q n gs none few = record { made = record { rows = []; is = none }; most = 0; within = within_none 0 gs none; few = omega (arith, few) }

-- a settled table alone
pub begun_split : (m : ℕ) (q : Query) (gs hs fs : List Group) → gs ≡ fs → hs ≡ [] → IsMade q fs → AllByRecursion (IsWithin m) fs → IsSplit m q gs hs
begun_split m q gs hs fs same none made within =
    subst (λ ts. IsSplit m q ts hs) (sym same) (subst (IsSplit m q fs) (sym none) (record {
      mine = made;
      others = none_made q;
      within_mine = within;
      within_others = tt;
      within = subst (AllByRecursion (IsWithin m)) (sym (joined-nil fs)) within;
    }))

pub begun_value : (q : Query) (h : Option ℤ) (xs rows : List Row) (gs hs fs : List Group) → gs ≡ fs → hs ≡ [] → fs ≡ groups q xs → joined gs hs ≡ groups q (xs ++ kept h (take 0 rows))
begun_value q h xs rows gs hs fs same none is = ap (joined gs) none ∙ joined-nil gs ∙ same ∙ is ∙ ap (groups q) (sym (append-nil xs))
