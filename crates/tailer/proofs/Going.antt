-- Tries one after another.
use Rattle.std.proofs.Common.{◌≡◌, ◌<◌, ℕ, suc, ◌+◌, ◌-◌, ◌*◌, ◌%◌, ◌==◌, not, is_some, List, [], ◌∷◌, ◌++◌, length, Option, Some, None, refl, sym, ap, ◌∙◌, subst, arith, append_assoc}
use Rattle.std.proofs.lemmas.List.{append-nil, map-append}
use Rattle.std.proofs.lemmas.List.Concat.{flat_map-append}
use Rattle.rand_core.specs.Steps.{first_words}
use Rattle.rand_pcg.specs.Lcg.{Lcg}
use Rattle.rand_pcg.specs.Pcg.{pcg32}
use Rattle.row_model.specs.declared.rows.Row.{Row}
use Rattle.leaf_table.specs.declared.replies.Reply.{Reply}
use Rattle.leaf_table.specs.Turns.{Shared}
use Rattle.leaf_table.specs.Calls.{SeatView}
use Rattle.aggregator.specs.Asks.{AreSeatsAt}
use Rattle.tail_picks.specs.Tails.{TryOf, IsTry, TryGoesOn, Tails, pick_of, sent_by}
use Rattle.tailer.specs.Calls.{CallsOn, words_after, behind_tries, calls_of_tries, calls_of, free_of, is_added, tries_seen, try_seen}
use Rattle.tailer.specs.declared.tries.Try.{Try}
use Rattle.tailer.proofs.Calling.{joined}

-- the two words of a try, and those behind them
two_words : (k : ℕ) (words : Lcg) → first_words pcg32 (suc (suc k)) words ≡ (pcg32 words).0 ∷ (pcg32 (pcg32 words).1).0 ∷ first_words pcg32 k (words_after words)
unfolding first_words
two_words k words = refl

next_words : (turn : ℕ) (words : Lcg) → turn < 16 → first_words pcg32 (32 - 2 * turn) words ≡ (pcg32 words).0 ∷ (pcg32 (pcg32 words).1).0 ∷ first_words pcg32 (32 - 2 * (turn + 1)) (words_after words)
next_words turn words low =
    let two : 32 - 2 * turn ≡ suc (suc (32 - 2 * (turn + 1))) = omega (arith, low) in
    ap (λ k. first_words pcg32 k words) two ∙ two_words (32 - 2 * (turn + 1)) words

no_words : (words : Lcg) → first_words pcg32 0 words ≡ []
unfolding first_words
no_words words = refl

-- a try of the next two words
abbrev pub IsNext : ℕ → Lcg → TryOf Reply → Type 0
IsNext n words t = IsTry free_of is_added n (pcg32 words).0 (pcg32 (pcg32 words).1).0 t

pub is_next : (n m : ℕ) (words : Lcg) (first second : ℕ) (t : TryOf Reply) → m ≡ n → first ≡ (pcg32 words).0 % m → second ≡ (pcg32 (pcg32 words).1).0 % m
    → (t.first ≡ first) × (t.second ≡ second) → is_some t.two ≡ not (first == second) → is_some t.added ≡ is_some (pick_of free_of is_added t) → IsNext n words t
is_next n m words first second t count one other leaves two add = record {
  first = leaves.0 ∙ (one ∙ ap (λ k. (pcg32 words).0 % k) count);
  second = leaves.1 ∙ (other ∙ ap (λ k. (pcg32 (pcg32 words).1).0 % k) count);
  two = two ∙ (ap (λ k. not (k == second)) (sym leaves.0) ∙ ap (λ k. not (t.first == k)) (sym leaves.1));
  add = add;
}

drawn_more : (turn : ℕ) (start words : Lcg) → words ≡ behind_tries turn start → words_after words ≡ behind_tries (turn + 1) start
drawn_more turn start words is = let more : suc turn ≡ turn + 1 = omega arith in ap words_after is ∙ ap (λ (n : ℕ). behind_tries n start) more

-- the tries with one more
pub seen_more : (xs ys : List Try) (t : Try) → ys ≡ xs ++ t ∷ [] → tries_seen ys ≡ tries_seen xs ++ try_seen t ∷ []
seen_more xs ys t is = ap tries_seen is ∙ map-append try_seen xs (t ∷ [])

-- So many tries were made, none of which ended the tail: what goes on behind them is a whole tail with them.
pub record Trying (fleet : List (List Shared)) (table : ℕ) (rows : List Row) (start : Lcg) (vs : List SeatView) (turn : ℕ) (ts : List (TryOf Reply)) (words : Lcg) (ws : List SeatView) : Type 0 where
  pub seats : AreSeatsAt fleet table ws
  pub drawn : words ≡ behind_tries turn start
  pub calls : CallsOn fleet table vs (calls_of_tries rows ts) ws
  pub tails : (more : List (TryOf Reply)) (sent : Option ℕ) → Tails free_of is_added (length fleet) (first_words pcg32 (32 - 2 * turn) words) more sent
      → Tails free_of is_added (length fleet) (first_words pcg32 32 start) (ts ++ more) sent

pub begins : (fleet : List (List Shared)) (table : ℕ) (rows : List Row) (start : Lcg) (vs : List SeatView) → AreSeatsAt fleet table vs → Trying fleet table rows start vs 0 [] start vs
begins fleet table rows start vs are = record { seats = are; drawn = refl; calls = refl; tails = λ more sent h. h }

-- the calls of one try more
pub calls_more : (fleet : List (List Shared)) (table : ℕ) (rows : List Row) (vs ws us : List SeatView) (ts : List (TryOf Reply)) (t : TryOf Reply)
    → CallsOn fleet table vs (calls_of_tries rows ts) ws → CallsOn fleet table ws (calls_of rows t) us → CallsOn fleet table vs (calls_of_tries rows (ts ++ t ∷ [])) us
calls_more fleet table rows vs ws us ts t so_far one =
    let all : calls_of_tries rows (ts ++ t ∷ []) ≡ calls_of_tries rows ts ++ calls_of rows t =
    flat_map-append (calls_of rows) ts (t ∷ []) ∙ ap (λ cs. calls_of_tries rows ts ++ cs) (append-nil (calls_of rows t)) in
    subst (λ cs. CallsOn fleet table vs cs us) (sym all) (joined fleet table vs (calls_of_tries rows ts) ws (calls_of rows t) us so_far one)

module _ (fleet : List (List Shared)) (table : ℕ) (rows : List Row) (start : Lcg) (vs : List SeatView) (turn : ℕ) (ts : List (TryOf Reply)) (words : Lcg) (ws : List SeatView)
    (trying : Trying fleet table rows start vs turn ts words ws) where
  one_more : (t : TryOf Reply) (more : List (TryOf Reply)) (sent : Option ℕ) → turn < 16 → IsNext (length fleet) words t
      → TryGoesOn free_of is_added (sent_by free_of is_added t) more sent (Tails free_of is_added (length fleet) (first_words pcg32 (32 - 2 * (turn + 1)) (words_after words)) more sent)
      → Tails free_of is_added (length fleet) (first_words pcg32 32 start) (ts ++ t ∷ more) sent
  one_more t more sent low next goes =
      trying.tails (t ∷ more) sent (subst (λ us. Tails free_of is_added (length fleet) us (t ∷ more) sent) (sym (next_words turn words low)) (next, goes))

  -- a try that did not end the tail
  pub goes_on : (t : TryOf Reply) (us : List SeatView) → turn < 16 → IsNext (length fleet) words t → sent_by free_of is_added t ≡ None
      → CallsOn fleet table ws (calls_of rows t) us → AreSeatsAt fleet table us → Trying fleet table rows start vs (turn + 1) (ts ++ t ∷ []) (words_after words) us
  goes_on t us low next none calls are = record {
    seats = are;
    drawn = drawn_more turn start words trying.drawn;
    calls = calls_more fleet table rows vs ws us ts t trying.calls calls;
    tails = λ more sent h.
        subst (λ all. Tails free_of is_added (length fleet) (first_words pcg32 32 start) all sent) (sym (append_assoc ts (t ∷ []) more))
        (one_more t more sent low next (subst (λ (o : Option ℕ). TryGoesOn free_of is_added o more sent (Tails free_of is_added (length fleet) (first_words pcg32 (32 - 2 * (turn + 1)) (words_after words)) more sent)) (sym none) h));
  }

  -- a try whose add was taken is the last one
  pub ends : (t : TryOf Reply) (leaf : ℕ) → turn < 16 → IsNext (length fleet) words t → sent_by free_of is_added t ≡ Some leaf
      → Tails free_of is_added (length fleet) (first_words pcg32 32 start) (ts ++ t ∷ []) (Some leaf)
  ends t leaf low next some =
      let X = Tails free_of is_added (length fleet) (first_words pcg32 (32 - 2 * (turn + 1)) (words_after words)) [] (Some leaf) in
      one_more t [] (Some leaf) low next (subst (λ (o : Option ℕ). TryGoesOn free_of is_added o [] (Some leaf) X) (sym some) (refl, refl))

  -- the words of the last one are drawn
  pub drawn_last : (xs : List Try) (us : Lcg) → us ≡ words_after words → length xs ≡ turn + 1 → us ≡ behind_tries (length xs) start
  drawn_last xs us one count = one ∙ (drawn_more turn start words trying.drawn ∙ ap (λ (n : ℕ). behind_tries n start) (sym count))

  -- no try is left
  pub runs_out : turn ≡ 16 → Tails free_of is_added (length fleet) (first_words pcg32 32 start) ts None
  runs_out last =
      let left : first_words pcg32 (32 - 2 * turn) words ≡ [] = ap (λ k. first_words pcg32 (32 - 2 * k) words) last ∙ no_words words in
      subst (λ all. Tails free_of is_added (length fleet) (first_words pcg32 32 start) all None) (append-nil ts)
      (trying.tails [] None (subst (λ us. Tails free_of is_added (length fleet) us [] None) (sym left) refl))
