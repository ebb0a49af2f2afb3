-- Words and rows that are drawn one after another.
use Rattle.std.proofs.Common.{◌≡◌, ℕ, zero, suc, ◌+◌, ◌-◌, ◌*◌, ◌≤◌, List, [], ◌∷◌, ◌++◌, length, map, refl, sym, ap, ◌∙◌, arith, add-one, append_assoc}
use Rattle.std.proofs.Math.Nat.{mul-le-mul_right}
use Rattle.std.proofs.lemmas.List.FromFn.{length-map-range_with_len, map-range_with_len_more}
use Rattle.std.specs.List.{range_with_len}
use Rattle.row_model.specs.declared.rows.Row.{Row}
use Rattle.rand_pcg.specs.Lcg.{Lcg, increment_of, next, next_state, started, state_after}
use Rattle.rand_pcg.specs.Pcg.{multiplier_64, pcg32}
use Rattle.script_text.specs.declared.command.Command.TheVariants as command
use Rattle.script_text.specs.declared.item.Item.{Item}
use Rattle.script_text.specs.declared.item.Item.TheVariants.{One}
use Rattle.soak.specs.Soak.{soak_add, both_queries, first_row, fleet, generator_behind, row_at, row_with, rows_between, soak_script, word}

-- one step behind n steps
one_step : (w m p n s : ℕ) → next_state w m p (state_after w m p n s) ≡ state_after w m p (suc n) s
unfolding state_after
one_step w m p zero s = refl
one_step w m p (suc n) s = one_step w m p n (next_state w m p s)

-- one word more
one_word : (seed k : ℕ) → next 64 multiplier_64 (generator_behind seed k) ≡ generator_behind seed (k + 1)
one_word seed k =
    let g = started 64 multiplier_64 seed (increment_of 64 0) in
    let same : next_state 64 multiplier_64 g.increment (state_after 64 multiplier_64 g.increment k g.state) ≡ state_after 64 multiplier_64 g.increment (k + 1) g.state =
    one_step 64 multiplier_64 g.increment k g.state ∙ ap (λ n. state_after 64 multiplier_64 g.increment n g.state) (sym (add-one k)) in
    ap (λ s. record g { state = s }) same

-- the generator behind no word
pub none_drawn : (seed : ℕ) → started 64 multiplier_64 seed (increment_of 64 0) ≡ generator_behind seed 0
unfolding state_after
none_drawn seed = refl

-- the generator behind the two words of a row
pub two_words : (seed i u v : ℕ) (g first second : Lcg) → g ≡ generator_behind seed (2 * i) → (u, first) ≡ pcg32 g → (v, second) ≡ pcg32 first → second ≡ generator_behind seed (2 * (i + 1))
two_words seed i u v g first second is one two =
    let both : 2 * i + 1 + 1 ≡ 2 * (i + 1) = omega arith in
    let behind_one : first ≡ generator_behind seed (2 * i + 1) = ap (λ (p : ℕ × Lcg). p.1) one ∙ ap (next 64 multiplier_64) is ∙ one_word seed (2 * i) in
    ap (λ (p : ℕ × Lcg). p.1) two ∙ ap (next 64 multiplier_64) behind_one ∙ one_word seed (2 * i + 1) ∙ ap (generator_behind seed) both

-- a row of the next two words
pub next_row : (seed i u v : ℕ) (g first second : Lcg) → g ≡ generator_behind seed (2 * i) → (u, first) ≡ pcg32 g → (v, second) ≡ pcg32 first → row_with i u v ≡ row_at seed i
unfolding row_at
next_row seed i u v g first second is one two =
    let u_is : u ≡ word seed (2 * i) = ap (λ (p : ℕ × Lcg). p.0) one ∙ ap (λ h. (pcg32 h).0) is in
    let behind_one : first ≡ generator_behind seed (2 * i + 1) = ap (λ (p : ℕ × Lcg). p.1) one ∙ ap (next 64 multiplier_64) is ∙ one_word seed (2 * i) in
    let v_is : v ≡ word seed (2 * i + 1) = ap (λ (p : ℕ × Lcg). p.0) two ∙ ap (λ h. (pcg32 h).0) behind_one in
    ap (λ w. row_with i w v) u_is ∙ ap (row_with i (word seed (2 * i))) v_is

-- the rows up to the next one, and that one
pub rows_more : (seed from n : ℕ) (rows more : List Row) (row : Row) → from ≤ n → rows ≡ rows_between seed from n → row ≡ row_at seed n → more ≡ rows ++ row ∷ [] → more ≡ rows_between seed from (n + 1)
rows_more seed from n rows more row low are one pushed =
    let longer : n - from + 1 ≡ n + 1 - from = omega arith in
    let there : from + (n - from) ≡ n = omega arith in
    pushed ∙ ap (λ rs. rs ++ row ∷ []) are ∙ ap (λ r. rows_between seed from n ++ r ∷ []) one ∙ sym (map-range_with_len_more (row_at seed) from (n - from) n there)
    ∙ ap (λ k. map (row_at seed) (range_with_len from k)) longer

-- no rows
pub rows_none : (seed from : ℕ) → rows_between seed from from ≡ []
rows_none seed from = let none : from - from ≡ 0 = omega arith in ap (λ k. map (row_at seed) (range_with_len from k)) none

pub rows_count : (seed from to : ℕ) → length (rows_between seed from to) ≡ to - from
rows_count seed from to = length-map-range_with_len (row_at seed) from (to - from)

pub shares_fit : (rows leaf : ℕ) → rows ≤ 800000 → first_row rows (leaf + 1) - first_row rows leaf ≤ 100000
shares_fit rows leaf few = let more : (leaf + 1) * rows ≡ leaf * rows + rows = omega arith in omega (arith, more, few)

pub shares_end : (rows leaf : ℕ) → rows ≤ 800000 → leaf ≤ 8 → first_row rows leaf ≤ 800000
shares_end rows leaf few low = let most : leaf * rows ≤ 8 * rows = mul-le-mul_right rows low in omega (arith, most, few)

-- one more leaf's add
pub adds_more : (seed rows leaf : ℕ) (items more : List Item) (own : List Row) → items ≡ fleet ∷ map (soak_add seed rows) (range_with_len 0 leaf) → own ≡ rows_between seed (first_row rows leaf) (first_row rows (leaf + 1)) → more ≡ items ++ One (command.Add leaf 0 own) ∷ [] → more ≡ fleet ∷ map (soak_add seed rows) (range_with_len 0 (leaf + 1))
adds_more seed rows leaf items more own are is pushed =
    let there : 0 + leaf ≡ leaf = omega arith in
    pushed ∙ ap (λ is. is ++ One (command.Add leaf 0 own) ∷ []) are ∙ ap (λ rs. fleet ∷ map (soak_add seed rows) (range_with_len 0 leaf) ++ One (command.Add leaf 0 rs) ∷ []) is
    ∙ ap (λ is. fleet ∷ is) (sym (map-range_with_len_more (soak_add seed rows) 0 leaf leaf there))

-- the whole script
pub whole : (seed rows : ℕ) (begun asked rolled all : List Item) → begun ≡ fleet ∷ map (soak_add seed rows) (range_with_len 0 8) → asked ≡ begun ++ both_queries (rows - 1) → rolled ≡ asked ++ One (command.Rollover 50) ∷ [] → all ≡ rolled ++ both_queries (rows - 1)
    → record { fleet_line = 0; items = all; standings = 0 } ≡ soak_script seed rows
unfolding soak_script
whole seed rows begun asked rolled all is is_asked is_rolled is_all =
    let both = both_queries (rows - 1) in
    let roll = One (command.Rollover 50) in
    let items : all ≡ begun ++ both ++ roll ∷ both =
    is_all ∙ ap (λ is. is ++ both) is_rolled ∙ ap (λ is. (is ++ roll ∷ []) ++ both) is_asked ∙ append_assoc (begun ++ both) (roll ∷ []) both in
    ap (λ is. record { fleet_line = 0; items = is; standings = 0 }) (items ∙ ap (λ is. is ++ both ++ roll ∷ both) is)
