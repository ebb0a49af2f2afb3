-- What the reply to a query is, and which rows it is over.
use Rattle.std.proofs.Common.{◌≡◌, ℕ, suc, ◌+◌, ◌-◌, List, [], ◌∷◌, ◌++◌, length, take, Option, Some, refl, sym, ap, ◌∙◌, subst, arith, length-append}
use Rattle.std.specs.Prelude.{slice_get, option_and_then}
use Rattle.std.specs.List.{AllByRecursion}
use Rattle.std.proofs.lemmas.List.{append-nil, append_assoc, length-map}
use Rattle.row_model.specs.declared.rows.Row.{Row}
use Rattle.leaf_model.specs.declared.queries.Query.{Query}
use Rattle.leaf_model.specs.Groups.{groups}
use Rattle.leaf_history.specs.Calls.{Call}
use Rattle.leaf_history.specs.Calls as call
use Rattle.leaf_history.specs.Replies as reply
use Rattle.leaf_history.specs.History.{Entry, HistoryState, AskReply, contents_held}
use Rattle.leaf_table.specs.declared.base.TableBase.{TableBase}
use Rattle.leaf_table.specs.declared.replies.Reply.{Reply}
use Rattle.leaf_table.specs.declared.replies.Reply.TheVariants as told
use Rattle.leaf_table.specs.Turns.{Shared, OverFew}
use Rattle.leaf_table.specs.Turns as turns
use Rattle.leaf_table.specs.Calls.{SeatView, Answered, IsToldAs, Made, base_seen, entry_seen, seen_of, state_of, state_before}
use Rattle.aggregator.specs.Asks.{Asked}
use Rattle.aggregator.specs.Sorts.{named_of}
use Rattle.aggregator.specs.Partial.{rows_seen_before, rows_of_all, bases_in, SeatsGoOn}
use Rattle.aggregator.specs.Merges.{IsAnswer, IsOver, AreOver}

-- ---- which replies come

told_answer : (s : HistoryState) (q : Query) (n : ℕ) (r : reply.EntryReply) (x : Reply) → AskReply s q r → OverFew s r → IsToldAs n r x → IsAnswer x
told_answer s q n (reply.Groups gs) x may few is = subst IsAnswer (sym is) few.1
told_answer s q n reply.Shut x may few is = subst IsAnswer (sym is) tt
told_answer s q n reply.NoMemory x may few is = subst IsAnswer (sym is) tt
told_answer s q n (reply.Added kept late) x may few is = absurd may
told_answer s q n (reply.Removed k) x may few is = absurd may
told_answer s q n reply.Full x may few is = absurd may
told_answer s q n (reply.Counted k) x may few is = absurd may
told_answer s q n reply.Noted x may few is = absurd may

pub is_answer : (base : Option TableBase) (q : Query) (v : SeatView) (x : Reply) (w : SeatView) → Answered base v (call.Ask q) x w → IsAnswer x
is_answer base q v told.Worn w a = tt
is_answer base q v (told.Groups number gs) w a = told_answer (state_before base v a.2.between) q (length w.seen) a.1 (told.Groups number gs) a.2.allowed.1 a.2.few a.3
is_answer base q v (told.Shut number) w a = tt
is_answer base q v (told.NoMemory number) w a = tt
is_answer base q v (told.Added number kept late) w a = told_answer (state_before base v a.2.between) q (length w.seen) a.1 (told.Added number kept late) a.2.allowed.1 a.2.few a.3
is_answer base q v (told.Removed number rows) w a = told_answer (state_before base v a.2.between) q (length w.seen) a.1 (told.Removed number rows) a.2.allowed.1 a.2.few a.3
is_answer base q v (told.Full number) w a = told_answer (state_before base v a.2.between) q (length w.seen) a.1 (told.Full number) a.2.allowed.1 a.2.few a.3

-- ---- the rows before an entry

take_all : {A : Type 0} (xs ys : List A) → take (length xs) (xs ++ ys) ≡ xs
take_all [] ys = refl
take_all (x ∷ xs) ys = ap (λ zs. x ∷ zs) (take_all xs ys)

-- the rows before the last entry of a seat's, however its history goes on
before_last : (base : Option TableBase) (v w : SeatView) (c : Call) (r : reply.EntryReply) (m : Made base 0 v c r w) (entries more : List Entry)
    → entries ≡ seen_of w ++ more → rows_seen_before base entries (length w.seen) ≡ (contents_held (state_before base v m.between)).rows
before_last base v w c r m entries more is =
    let front : List Entry = seen_of v ++ m.between in
    let last : List Entry = entry_seen v.id 0 c r ∷ [] in
    let size : length w.seen ≡ length front + 1 = sym (length-map w.seen turns.told) ∙ (ap (λ (es : List Entry). length es) m.seen ∙ length-append front last) in
    let number : length w.seen - 1 ≡ length front = omega (arith, size) in
    let parts : entries ≡ front ++ (last ++ more) = is ∙ (ap (λ (es : List Entry). es ++ more) m.seen ∙ append_assoc front last more) in
    ap (λ (es : List Entry). (contents_held (state_of base es)).rows) (ap (λ n. take n entries) number ∙ (ap (λ (es : List Entry). take (length front) es) parts ∙ take_all front (last ++ more)))

told_over : (s : HistoryState) (q : Query) (rows : ℕ → ℕ → List Row) (leaf n : ℕ) (r : reply.EntryReply) (x : Reply) → AskReply s q r → IsToldAs n r x
    → rows leaf n ≡ (contents_held s).rows → IsOver q (rows_of_all rows (named_of leaf x)) x
told_over s q rows leaf n (reply.Groups gs) x may is there =
    subst (λ (y : Reply). IsOver q (rows_of_all rows (named_of leaf y)) y) (sym is) (may.1 ∙ ap (groups q) (sym (append-nil (rows leaf n) ∙ there)))
told_over s q rows leaf n reply.Shut x may is there = subst (λ (y : Reply). IsOver q (rows_of_all rows (named_of leaf y)) y) (sym is) refl
told_over s q rows leaf n reply.NoMemory x may is there = subst (λ (y : Reply). IsOver q (rows_of_all rows (named_of leaf y)) y) (sym is) refl
told_over s q rows leaf n (reply.Added kept late) x may is there = absurd may
told_over s q rows leaf n (reply.Removed k) x may is there = absurd may
told_over s q rows leaf n reply.Full x may is there = absurd may
told_over s q rows leaf n (reply.Counted k) x may is there = absurd may
told_over s q rows leaf n reply.Noted x may is there = absurd may

-- a reply is over the rows before its entry
over_before : (base : Option TableBase) (q : Query) (leaf : ℕ) (rows : ℕ → ℕ → List Row) (v : SeatView) (x : Reply) (w : SeatView) (entries more : List Entry)
    → entries ≡ seen_of w ++ more → ((n : ℕ) → rows leaf n ≡ rows_seen_before base entries n)
    → Answered base v (call.Ask q) x w → IsOver q (rows_of_all rows (named_of leaf x)) x
over_before base q leaf rows v (told.Groups number gs) w entries more is are a =
    told_over (state_before base v a.2.between) q rows leaf (length w.seen) a.1 (told.Groups number gs) a.2.allowed.1 a.3
    (are (length w.seen) ∙ before_last base v w (call.Ask q) a.1 a.2 entries more is)
over_before base q leaf rows v (told.Shut number) w entries more is are a = refl
over_before base q leaf rows v (told.NoMemory number) w entries more is are a = refl
over_before base q leaf rows v told.Worn w entries more is are a = refl
over_before base q leaf rows v (told.Added number kept late) w entries more is are a = refl
over_before base q leaf rows v (told.Removed number k) w entries more is are a = refl
over_before base q leaf rows v (told.Full number) w entries more is are a = refl

-- ---- of all leaves

next_leaf : (leaf n : ℕ) → leaf + suc n ≡ suc leaf + n
next_leaf leaf n = omega arith

same_leaf : (leaf : ℕ) → leaf + 0 ≡ leaf
same_leaf leaf = omega arith

module _ (q : Query) (fleet : List (List Shared)) (table : ℕ) where
  pub all_answers : (leaf : ℕ) (vs : List SeatView) (rs : List Reply) (ws : List SeatView) → Asked q fleet table leaf vs rs ws → AllByRecursion IsAnswer rs
  all_answers leaf [] [] [] h = tt
  all_answers leaf (v ∷ vs) (r ∷ rs) (w ∷ ws) h = (is_answer (base_seen h.0.shared) q v r w h.0.answered, all_answers (suc leaf) vs rs ws h.1)
  all_answers leaf [] [] (w ∷ ws) h = absurd h
  all_answers leaf [] (r ∷ rs) ws h = absurd h
  all_answers leaf (v ∷ vs) [] ws h = absurd h
  all_answers leaf (v ∷ vs) (r ∷ rs) [] h = absurd h

  go_on_behind : (leaf : ℕ) (w : SeatView) (ws : List SeatView) (histories : ℕ → List Entry)
      → ((i : ℕ) (u : SeatView) → slice_get (w ∷ ws) i ≡ Some u → (more : List Entry) × (histories (leaf + i) ≡ seen_of u ++ more))
      → (i : ℕ) (u : SeatView) → slice_get ws i ≡ Some u → (more : List Entry) × (histories (suc leaf + i) ≡ seen_of u ++ more)
  go_on_behind leaf w ws histories each i u is =
      let here = each (suc i) u is in (here.0, subst (λ (n : ℕ). histories n ≡ seen_of u ++ here.0) (next_leaf leaf i) here.1)

  over_from : (histories : ℕ → List Entry) (leaf : ℕ) (vs : List SeatView) (rs : List Reply) (ws : List SeatView)
      → ((i : ℕ) (w : SeatView) → slice_get ws i ≡ Some w → (more : List Entry) × (histories (leaf + i) ≡ seen_of w ++ more))
      → Asked q fleet table leaf vs rs ws → AreOver q (λ l n. rows_seen_before (bases_in fleet table l) (histories l) n) leaf rs
  over_from histories leaf [] [] [] each h = tt
  over_from histories leaf (v ∷ vs) (r ∷ rs) (w ∷ ws) each h =
      let here = each 0 w refl in
      let seen : histories leaf ≡ seen_of w ++ here.0 = subst (λ (n : ℕ). histories n ≡ seen_of w ++ here.0) (same_leaf leaf) here.1 in
      let base : bases_in fleet table leaf ≡ base_seen h.0.shared = ap (λ (t : Option Shared). option_and_then base_seen t) h.0.stands in (
        over_before (base_seen h.0.shared) q leaf (λ l n. rows_seen_before (bases_in fleet table l) (histories l) n) v r w (histories leaf) here.0 seen
            (λ n. ap (λ (b : Option TableBase). rows_seen_before b (histories leaf) n) base) h.0.answered,
        over_from histories (suc leaf) vs rs ws (go_on_behind leaf w ws histories each) h.1,
      )
  over_from histories leaf [] [] (w ∷ ws) each h = absurd h
  over_from histories leaf [] (r ∷ rs) ws each h = absurd h
  over_from histories leaf (v ∷ vs) [] ws each h = absurd h
  over_from histories leaf (v ∷ vs) (r ∷ rs) [] each h = absurd h

  -- each reply is over the rows of its leaf before its entry
  pub all_over : (histories : ℕ → List Entry) (vs : List SeatView) (rs : List Reply) (ws : List SeatView) → SeatsGoOn ws histories → Asked q fleet table 0 vs rs ws
      → AreOver q (λ l n. rows_seen_before (bases_in fleet table l) (histories l) n) 0 rs
  all_over histories vs rs ws go h =
      over_from histories 0 vs rs ws (λ i w is. let here = go i w is in (here.0, subst (λ (n : ℕ). histories n ≡ seen_of w ++ here.0) (from_zero i) here.1)) h
    where
      from_zero : (i : ℕ) → i ≡ 0 + i
      from_zero i = omega arith
