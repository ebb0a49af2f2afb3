-- The script of a soak is one.
use Rattle.std.proofs.Common.{◌≡◌, ◌<◌, ◌≤◌, ◌^◌, ℕ, zero, suc, ◌+◌, ◌-◌, ◌*◌, ◌%◌, ◌==◌, Bool, true, false, List, [], ◌∷◌, ◌++◌, length, map, refl, sym, ap, subst, arith, rules, codes, decimal, IsUtf8, slice_index, length-append}
use Rattle.std.proofs.lemmas.Fmt.{IsAscii-decimal, length-decimal-le}
use Rattle.std.proofs.lemmas.Str.{IsAscii-append, IsUtf8-from_ascii}
use Rattle.std.specs.List.{AllByRecursion, range_with_len}
use Rattle.std.specs.List.Sorted.{IsStrictlySortedBy}
use Rattle.std.specs.Str.{IsAscii}
use Rattle.leaf_model.specs.declared.queries.Agg.TheVariants.{Count}
use Rattle.row_model.specs.Values.{IsCell, IsCellName, IsRow}
use Rattle.query_text.specs.Grammar.{IsQuery}
use Rattle.script_text.specs.declared.command.Command.TheVariants as command
use Rattle.script_text.specs.declared.item.Item.{Item}
use Rattle.script_text.specs.declared.item.Item.TheVariants.{One}
use Rattle.script_text.specs.Fits.{AreLeaves, AreTables, IsItem, IsScript, TellAbove, TellsDeclared, declared_by, declared_in}
use Rattle.soak.specs.Soak.{soak_add, both_queries, count_query, events, first_row, host_cell, host_query, row_at, row_with, rows_between, soak_script, word}
use Rattle.soak.proofs.Drawn.{rows_count, shares_end, shares_fit}

-- ---- names and texts

code_name : IsUtf8 (codes "code")
code_name = search rules

host_name : IsUtf8 (codes "host")
host_name = search rules

events_name : IsUtf8 events
events_name = search rules

letter : IsAscii (codes "h")
letter = search rules

host_text : (n : ℕ) → n < 50 → IsUtf8 (codes "h" ++ decimal n)
host_text n low = IsUtf8-from_ascii (codes "h" ++ decimal n) (IsAscii-append (codes "h") (decimal n) letter (IsAscii-decimal n (omega (arith, low))))

host_short : (n : ℕ) → n < 50 → length (codes "h" ++ decimal n) ≤ 65535
host_short n low =
    let few : length (decimal n) ≤ 2 = length-decimal-le 2 n (omega arith) (omega (arith, low)) (omega (arith, low)) in
    let whole : length (codes "h" ++ decimal n) ≡ length (codes "h") + length (decimal n) = length-append (codes "h") (decimal n) in
    let one : length (codes "h") ≡ 1 = refl in
    omega (arith, few, whole, one)

-- ---- rows

is_code : IsCellName (codes "code")
is_code = record { text = code_name; some = omega arith; short = omega arith; other = λ e. let bad : 99 ≡ 116 = ap (λ l. slice_index l 0) e in absurd (omega (arith, bad)) }

is_host : IsCellName (codes "host")
is_host = record { text = host_name; some = omega arith; short = omega arith; other = λ e. let bad : 104 ≡ 116 = ap (λ l. slice_index l 0) e in absurd (omega (arith, bad)) }

host_fits : (u : ℕ) → IsCell (host_cell u)
host_fits u = record { name = is_host; value = (host_text (u % 50) (omega arith), host_short (u % 50) (omega arith)) }

row_by : (i u v : ℕ) (b : Bool) → (v % 4 == 0) ≡ b → i < 2 ^ 63 → IsRow (row_with i u v)
unfolding IsStrictlySortedBy
row_by i u v true is low = rw is (record {
  time = search (rules, low);
  few = omega arith;
  cells = (host_fits u, tt);
  ascending = (tt, tt);
})
row_by i u v false is low = rw is (record {
  time = search (rules, low);
  few = omega arith;
  cells = (record { name = is_code; value = search rules }, (host_fits u, tt));
  ascending = ((refl, tt), (tt, tt));
})

pub row_fits : (seed i : ℕ) → i < 2 ^ 63 → IsRow (row_at seed i)
unfolding row_at
row_fits seed i low = row_by i (word seed (2 * i)) (word seed (2 * i + 1)) (word seed (2 * i + 1) % 4 == 0) refl low

rows_fit : (seed a k : ℕ) → a + k < 2 ^ 63 → AllByRecursion IsRow (map (row_at seed) (range_with_len a k))
rows_fit seed a zero low = tt
rows_fit seed a (suc k) low = (row_fits seed a (omega (arith, low)), rows_fit seed (a + 1) k (omega (arith, low)))

-- ---- items

adds_fit : (seed rows : ℕ) → rows ≤ 800000 → (a k : ℕ) → a + k ≤ 8 → AllByRecursion (IsItem 8 (events ∷ [])) (map (soak_add seed rows) (range_with_len a k))
adds_fit seed rows few a zero low = tt
adds_fit seed rows few a (suc k) low =
    let from = first_row rows a in
    let to = first_row rows (a + 1) in
    let end : to ≤ 800000 = shares_end rows (a + 1) few (omega (arith, low)) in
    let fit : to - from ≤ 100000 = shares_fit rows a few in
    let count : length (rows_between seed from to) ≤ 100000 = subst (λ n. n ≤ 100000) (sym (rows_count seed from to)) fit in
    let start : from ≤ 800000 = shares_end rows a few (omega (arith, low)) in
    ((omega (arith, low), omega arith, count, rows_fit seed from (to - from) (omega (arith, end, start))), adds_fit seed rows few (a + 1) k (omega (arith, low)))

count_fits : (z : ℕ) → IsQuery (count_query z)
count_fits z = record { table = refl; aggs = omega arith; order = tt; limit = omega arith }

host_query_fits : (z : ℕ) → IsQuery (host_query z)
host_query_fits z = record { table = refl; aggs = omega arith; order = (Count, (refl, (refl, refl))); limit = omega arith }

queries_fit : (z : ℕ) → AllByRecursion (IsItem 8 (events ∷ [])) (both_queries z)
queries_fit z = (((0, omega arith, refl), count_fits z), (((0, omega arith, refl), host_query_fits z), tt))

all_append : {X : Type 0} (P : X → Type 0) (xs ys : List X) → AllByRecursion P xs → AllByRecursion P ys → AllByRecursion P (xs ++ ys)
all_append P [] ys all more = more
all_append P (x ∷ xs) ys all more = (all.0, all_append P xs ys all.1 more)

-- no standing query is declared, and none is told
abbrev HasNone : Item → Type 0
HasNone x = ((declared : ℕ) → TellsDeclared declared x) × (declared_by x ≡ 0)

tells_none : (xs : List Item) → AllByRecursion HasNone xs → (declared : ℕ) → TellAbove declared xs
tells_none [] all declared = tt
tells_none (x ∷ xs) all declared = (all.0.0 declared, tells_none xs all.1 (declared + declared_by x))

declares_none : (xs : List Item) → AllByRecursion HasNone xs → declared_in xs ≡ 0
declares_none [] all = refl
declares_none (x ∷ xs) all = let one = all.0.1 in let others = declares_none xs all.1 in omega (arith, one, others)

adds_have_none : (seed rows a k : ℕ) → AllByRecursion HasNone (map (soak_add seed rows) (range_with_len a k))
adds_have_none seed rows a zero = tt
adds_have_none seed rows a (suc k) = (((λ declared. tt), refl), adds_have_none seed rows (a + 1) k)

queries_have_none : (z : ℕ) → AllByRecursion HasNone (both_queries z)
queries_have_none z = (((λ declared. tt), refl), (((λ declared. tt), refl), tt))

tables_fit : AreTables (events ∷ [])
tables_fit = record {
  some = omega arith;
  few = omega arith;
  names = (record { spelling = refl; utf8 = events_name; some = omega arith; short = omega arith }, tt);
  distinct = (tt, tt);
}

pub soak_fits : (seed rows : ℕ) → rows ≤ 800000 → IsScript (soak_script seed rows)
unfolding soak_script
soak_fits seed rows few =
    let P = IsItem 8 (events ∷ []) in
    let adds = map (soak_add seed rows) (range_with_len 0 8) in
    let both = both_queries (rows - 1) in
    let asked : AllByRecursion P (adds ++ both) = all_append P adds both (adds_fit seed rows few 0 8 (omega arith)) (queries_fit (rows - 1)) in
    let roll = One (command.Rollover 50) in
    let later : AllByRecursion P (roll ∷ both) = ((omega arith, omega arith), queries_fit (rows - 1)) in
    let two : AreLeaves 2 4 = record { some_machines = omega arith; some_leaves = omega arith; few = omega arith } in
    let quiet : AllByRecursion HasNone (adds ++ both) = all_append HasNone adds both (adds_have_none seed rows 0 8) (queries_have_none (rows - 1)) in
    let behind : AllByRecursion HasNone (roll ∷ both) = (((λ declared. tt), refl), queries_have_none (rows - 1)) in
    let none : AllByRecursion HasNone (adds ++ both ++ roll ∷ both) = all_append HasNone (adds ++ both) (roll ∷ both) quiet behind in
    let count = declares_none (adds ++ both ++ roll ∷ both) none in
    record {
      items = (two, tables_fit, all_append P (adds ++ both) (roll ∷ both) asked later);
      told = (tt, tells_none (adds ++ both ++ roll ∷ both) none 0);
      few = omega (arith, count);
    }
