-- The numbers of a table's entry lines: those of an item are just the ones behind all items before it, without a gap.
use Rattle.std.proofs.Common.{◌≡◌, ℕ, suc, ◌+◌, ◌-◌, ◌<◌, ◌≤◌, ◌==◌, Bool, true, false, cond, List, [], ◌∷◌, ◌++◌, refl, sym, ap, subst, ◌∙◌, arith, eq-eqb, eqb-true}
use Rattle.std.specs.Prelude.{length, slice_get, slice_index_or, sum_by, Some, IsPermutation}
use Rattle.std.specs.List.{AllByRecursion}
use Rattle.std.specs.List.Sorted.{IsNonDecreasingBy}
use Rattle.std.proofs.lemmas.Bool.{eqb-false, false_from_ne_true}
use Rattle.std.proofs.lemmas.Grind.{flat_map-append}
use Rattle.std.proofs.lemmas.List.{append-nil, append_assoc}
use Rattle.std.proofs.lemmas.List.Sorted.{IsPermutation-sym, sum_by-IsPermutation}
use Rattle.std.proofs.lemmas.List.Sums.{sum_by-cons}
use Rattle.leaf_history.specs.History.{Entry}
use Rattle.transcript.specs.Pieces.{Piece, Played, PlayedItem, One, Burst, all_pieces, pieces_in, plays_in, plays_of}
use Rattle.transcript.specs.Histories.{BaseState, InOrder, IsHistoryOf, ItemRises, Rises, Shown, ShowsEntry, Tells, shown, shown_in}
use Rattle.transcript.specs.Telling.{last_number}
use Rattle.transcript_standing.proofs.Lists.{All-both, All-joined, All-reordered, All-therefore}

-- the entry of that number is what the line says
abbrev pub ShowsIn : List Entry → Shown → Type 0
ShowsIn entries s = (0 < s.number) × ((e : Entry) × (slice_get entries (s.number - 1) ≡ Some e) × ShowsEntry s.call s.said e)

-- lines with the numbers from n + 1 on, one after another, up to m
abbrev pub CountUp : ℕ → List Shown → ℕ → Type 0
CountUp n [] m = m ≡ n
CountUp n (s ∷ ss) m = (s.number ≡ n + 1) × CountUp (n + 1) ss m

-- ---- how often a number stands in lines

abbrev one_at : ℕ → Shown → ℕ
one_at k s = cond (k == s.number) 1 0

abbrev times : ℕ → List Shown → ℕ
times k [] = 0
times k (s ∷ ss) = one_at k s + times k ss

times_append : (k : ℕ) (ss ts : List Shown) → times k (ss ++ ts) ≡ times k ss + times k ts
times_append k [] ts = omega arith
times_append k (s ∷ ss) ts = let rest = times_append k ss ts in omega (arith, rest)

times_sum : (k : ℕ) (ss : List Shown) → times k ss ≡ sum_by (one_at k) ss
times_sum k [] = refl
times_sum k (s ∷ ss) = ap (λ (m : ℕ). one_at k s + m) (times_sum k ss) ∙ sym (sum_by-cons (one_at k) s ss)

-- as often in each order
times_same : (k : ℕ) (ss ts : List Shown) → IsPermutation ss ts → times k ts ≡ times k ss
times_same k ss ts same = times_sum k ts ∙ (sum_by-IsPermutation (one_at k) ss ts same ∙ sym (times_sum k ss))

times_first : (s : Shown) (ss : List Shown) → times s.number (s ∷ ss) ≡ suc (times s.number ss)
times_first s ss = ap (λ (b : Bool). cond b 1 0 + times s.number ss) (eq-eqb s.number s.number refl) ∙ omega arith

times_rest : (k : ℕ) (s : Shown) (ss : List Shown) → (k ≡ s.number → ⊥) → times k (s ∷ ss) ≡ times k ss
times_rest k s ss other =
    ap (λ (b : Bool). cond b 1 0 + times k ss) (false_from_ne_true (k == s.number) (λ e. other (eqb-true k s.number e))) ∙ omega arith

-- what has a number that stands there
of_each : (P : Shown → Type 0) (k : ℕ) (ss : List Shown) → AllByRecursion P ss → 0 < times k ss → (s : Shown) × (k ≡ s.number) × P s
of_each P k [] all h = absurd (omega (arith, h))
of_each P k (s ∷ ss) all h = by (k == s.number) refl h (λ l. of_each P k ss all.1 l)
  where
    by : (b : Bool) → (k == s.number) ≡ b → 0 < cond b 1 0 + times k ss → (0 < times k ss → (r : Shown) × (k ≡ r.number) × P r) → (r : Shown) × (k ≡ r.number) × P r
    by true e l rest = (s, eqb-true k s.number e, all.0)
    by false e l rest = rest (omega (arith, l))

stands_nowhere : (P : Shown → Type 0) (k : ℕ) (ss : List Shown) → AllByRecursion P ss → ((s : Shown) → P s → k ≡ s.number → ⊥) → times k ss ≡ 0
stands_nowhere P k ss all never =
    let nowhere : 0 < times k ss → ⊥ = λ l. let there = of_each P k ss all l in never there.0 there.2 there.1 in
    omega (arith, nowhere)

-- ---- where numbers lie

-- above `low` and up to `high`
abbrev Lies : ℕ → ℕ → Shown → Type 0
Lies low high s = (low < s.number) × (s.number ≤ high)

abbrev Between : ℕ → ℕ → List Shown → Type 0
Between low high ss = AllByRecursion (Lies low high) ss

-- each such number stands there once
abbrev Once : ℕ → ℕ → List Shown → Type 0
Once low high ss = (k : ℕ) → low < k → k ≤ high → times k ss ≡ 1

wider : (least low high most : ℕ) (ss : List Shown) → least ≤ low → high ≤ most → Between low high ss → Between least most ss
wider least low high most ss l u all = All-therefore (Lies low high) (Lies least most) (λ s b. (omega (arith, b.0, l), omega (arith, b.1, u))) ss all

-- of lines that are cut in two, each part has its own numbers once
once_parts : (low middle high : ℕ) (ss ts : List Shown) → low ≤ middle → middle ≤ high → Between low middle ss → Between middle high ts → Once low high (ss ++ ts)
    → Once low middle ss × Once middle high ts
once_parts low middle high ss ts l u front back once = (
  λ k a b.
      let none = stands_nowhere (Lies middle high) k ts back (λ s lies is. omega (arith, lies.0, is, b)) in
      omega (arith, once k a (omega (arith, b, u)), times_append k ss ts, none),
  λ k a b.
      let none = stands_nowhere (Lies low middle) k ss front (λ s lies is. omega (arith, lies.1, is, a)) in
      omega (arith, once k (omega (arith, a, l)) b, times_append k ss ts, none),
)

-- ---- the greatest number

last_below : (low high : ℕ) (ss : List Shown) → Between low high ss → last_number ss ≤ high
last_below low high [] all = omega arith
last_below low high (s ∷ ss) all = let rest = last_below low high ss all.1 in omega (arith, all.0.1, rest)

below_last : (ss : List Shown) → AllByRecursion (λ (s : Shown). s.number ≤ last_number ss) ss
below_last [] = tt
below_last (s ∷ ss) =
    (omega arith, All-therefore (λ (t : Shown). t.number ≤ last_number ss) (λ (t : Shown). t.number ≤ last_number (s ∷ ss)) (λ t l. omega (arith, l)) ss (below_last ss))

last_is : (high : ℕ) (ss : List Shown) → Between 0 high ss → Once 0 high ss → last_number ss ≡ high
last_is high ss between once =
    let below = last_below 0 high ss between in
    let not_less : last_number ss < high → ⊥ = λ l.
    let one = once high (omega (arith, l)) (omega arith) in
    let there = of_each (λ (s : Shown). s.number ≤ last_number ss) high ss (below_last ss) (omega (arith, one)) in
    omega (arith, l, there.1, there.2) in
    omega (arith, below, not_less)

-- ---- the lines of items

module _ (leaf table : ℕ) where
  -- of a table's entries
  abbrev pub lines_of : List PlayedItem → List Shown
  lines_of xs = shown leaf table (all_pieces xs)

  shown_plays : (ps qs : List Played) → shown leaf table (pieces_in (ps ++ qs)) ≡ shown leaf table (pieces_in ps) ++ shown leaf table (pieces_in qs)
  shown_plays ps qs =
      ap (λ (xs : List Piece). shown leaf table xs) (flat_map-append (λ (p : Played). p.pieces) ps qs) ∙ flat_map-append (shown_in leaf table) (pieces_in ps) (pieces_in qs)

  lines_append : (xs ys : List PlayedItem) → lines_of (xs ++ ys) ≡ lines_of xs ++ lines_of ys
  lines_append xs ys = ap (λ (ps : List Played). shown leaf table (pieces_in ps)) (flat_map-append plays_of xs ys) ∙ shown_plays (plays_in xs) (plays_in ys)

  -- ---- where their numbers lie

  rises_between : (low high : ℕ) (ss : List Shown) → Rises low ss high → (low ≤ high) × Between low high ss
  rises_between low high [] h = (h, tt)
  rises_between low high (s ∷ ss) h =
      let rest = rises_between s.number high ss h.1 in
      (omega (arith, h.0, rest.0), ((h.0, rest.0), wider low s.number high high ss (omega (arith, h.0)) (omega arith) rest.1))

  lanes_between : (low high : ℕ) (lanes : List (List Played)) → AllByRecursion (λ (lane : List Played). Rises low (shown leaf table (pieces_in lane)) high) lanes
      → Between low high (shown leaf table (pieces_in (plays_of (Burst lanes))))
  lanes_between low high [] all = tt
  lanes_between low high (lane ∷ lanes) all =
      let here = shown leaf table (pieces_in lane) in
      let others = plays_of (Burst lanes) in
      subst (Between low high) (sym (shown_plays lane others))
      (All-joined (Lies low high) here (shown leaf table (pieces_in others)) (rises_between low high here all.0).1 (lanes_between low high lanes all.1))

  item_between : (low high : ℕ) (x : PlayedItem) → ItemRises leaf table low x high → (low ≤ high) × Between low high (shown leaf table (pieces_in (plays_of x)))
  item_between low high (One p) h =
      subst (λ (ps : List Piece). (low ≤ high) × Between low high (shown leaf table ps)) (sym (append-nil p.pieces)) (rises_between low high (shown leaf table p.pieces) h)
  item_between low high (Burst lanes) h = (h.0, lanes_between low high lanes h.1)

  order_between : (low high : ℕ) (xs : List PlayedItem) → InOrder leaf table low xs high → (low ≤ high) × Between low high (lines_of xs)
  order_between low high [] h = (h, tt)
  order_between low high (x ∷ xs) h =
      let first = item_between low h.0 x h.1 in
      let rest = order_between h.0 high xs h.2 in
      let here = shown leaf table (pieces_in (plays_of x)) in (
        omega (arith, first.0, rest.0),
        subst (Between low high) (sym (shown_plays (plays_of x) (plays_in xs)))
            (All-joined (Lies low high) here (lines_of xs) (wider low low h.0 high here (omega arith) rest.0 first.1) (wider low h.0 high high (lines_of xs) first.0 (omega arith) rest.1)),
      )

  order_split : (low high : ℕ) (xs ys : List PlayedItem) → InOrder leaf table low (xs ++ ys) high → (middle : ℕ) × InOrder leaf table low xs middle × InOrder leaf table middle ys high
  order_split low high [] ys h = (low, omega arith, h)
  order_split low high (x ∷ xs) ys h = let rest = order_split h.0 high xs ys h.2 in (rest.0, (h.0, h.1, rest.1), rest.2)

-- ---- what the lines of a history show

-- the same of entries from the one behind the n-th on
abbrev ShowsFrom : ℕ → List Entry → Shown → Type 0
ShowsFrom n es s = (n < s.number) × ((e : Entry) × (slice_get es (s.number - suc n) ≡ Some e) × ShowsEntry s.call s.said e)

one_before : (n : ℕ) (e : Entry) (es : List Entry) (s : Shown) → ShowsFrom (suc n) es s → ShowsFrom n (e ∷ es) s
one_before n e es s h =
    let on : s.number - suc n ≡ suc (s.number - suc (suc n)) = omega (arith, h.0) in
    (omega (arith, h.0), (h.1.0, subst (λ (i : ℕ). slice_get (e ∷ es) i ≡ Some h.1.0) (sym on) h.1.1, h.1.2))

told_each : (n : ℕ) (ss : List Shown) (es : List Entry) → Tells (suc n) ss es → AllByRecursion (ShowsFrom n es) ss
told_each n [] [] t = tt
told_each n [] (e ∷ es) t = absurd t
told_each n (s ∷ ss) [] t = absurd t
told_each n (s ∷ ss) (e ∷ es) t =
    let first : s.number - suc n ≡ 0 = omega (arith, t.0) in (
      (omega (arith, t.0), (e, subst (λ (i : ℕ). slice_get (e ∷ es) i ≡ Some e) (sym first) refl, t.1)),
      All-therefore (ShowsFrom (suc n) es) (ShowsFrom n (e ∷ es)) (one_before n e es) ss (told_each (suc n) ss es t.2),
    )

told_once : (n : ℕ) (ss : List Shown) (es : List Entry) → Tells (suc n) ss es → Once n (n + length es) ss
told_once n [] [] t k l u = absurd (omega (arith, l, u))
told_once n [] (e ∷ es) t k l u = absurd t
told_once n (s ∷ ss) [] t k l u = absurd t
told_once n (s ∷ ss) (e ∷ es) t k l u = by (k == s.number) refl (λ a b. told_once (suc n) ss es t.2 k a b)
  where
    by : (b : Bool) → (k == s.number) ≡ b → (suc n < k → k ≤ suc n + length es → times k ss ≡ 1) → times k (s ∷ ss) ≡ 1
    by true e further =
        let is = eqb-true k s.number e in
        let none = stands_nowhere (ShowsFrom (suc n) es) s.number ss (told_each (suc n) ss es t.2) (λ r shows same. omega (arith, shows.0, same, t.0)) in
        omega (arith, ap (λ (m : ℕ). times m (s ∷ ss)) is, times_first s ss, none)
    by false e further =
        let other = eqb-false k s.number e in
        times_rest k s ss other ∙ further (omega (arith, l, other, t.0)) (omega (arith, u))

-- ---- stretches

-- What is known of lines behind others: they have the numbers above `low` and up to `high`, each once, and each shows
-- its entry.
pub record IsStretch (entries : List Entry) (low high : ℕ) (lines : List Shown) : Type 0 where
  pub rise : low ≤ high
  pub between : Between low high lines
  pub once : Once low high lines
  pub show : AllByRecursion (ShowsIn entries) lines

-- of one item: its lines have the numbers behind those of all items before it
pub stretch_of_item : (leaf table : ℕ) (g : BaseState) (entries : List Entry) (before : List PlayedItem) (x : PlayedItem) (behind : List PlayedItem)
    → IsHistoryOf g (lines_of leaf table (before ++ x ∷ behind)) entries → InOrder leaf table 0 (before ++ x ∷ behind) (length entries)
    → IsStretch entries (last_number (lines_of leaf table before)) (last_number (lines_of leaf table (before ++ x ∷ []))) (shown leaf table (pieces_in (plays_of x)))
stretch_of_item leaf table g entries before x behind history order =
    let front = lines_of leaf table before in
    let here = shown leaf table (pieces_in (plays_of x)) in
    let upto = lines_of leaf table (before ++ x ∷ []) in
    let back = lines_of leaf table behind in
    let all = lines_of leaf table (before ++ x ∷ behind) in
    let again : before ++ x ∷ behind ≡ (before ++ x ∷ []) ++ behind = sym (append_assoc before (x ∷ []) behind) in
    let all_are : all ≡ upto ++ back = ap (lines_of leaf table) again ∙ lines_append leaf table (before ++ x ∷ []) behind in
    let upto_are : upto ≡ front ++ here =
    lines_append leaf table before (x ∷ []) ∙ ap (λ (ps : List Played). front ++ shown leaf table (pieces_in ps)) (append-nil (plays_of x)) in
    let cut = order_split leaf table 0 (length entries) (before ++ x ∷ []) behind (subst (λ (xs : List PlayedItem). InOrder leaf table 0 xs (length entries)) again order) in
    let parts = order_split leaf table 0 cut.0 before (x ∷ []) cut.1 in
    let whole = order_between leaf table 0 cut.0 (before ++ x ∷ []) cut.1 in
    let high = order_between leaf table cut.0 (length entries) behind cut.2 in
    let low = order_between leaf table 0 parts.0 before parts.1 in
    let item = order_between leaf table parts.0 cut.0 (x ∷ []) parts.2 in
    let middle : Between parts.0 cut.0 here = subst (λ (ps : List Played). Between parts.0 cut.0 (shown leaf table (pieces_in ps))) (append-nil (plays_of x)) item.1 in
    let placed_once = told_once 0 history.placed entries history.tells in
    let each : Once 0 (length entries) all = λ k l u. sym (times_same k all history.placed history.same) ∙ placed_once k l (omega (arith, u)) in
    let once = once_parts 0 cut.0 (length entries) upto back whole.0 high.0 whole.1 high.1 (subst (Once 0 (length entries)) all_are each) in
    let both = once_parts 0 parts.0 cut.0 front here low.0 item.0 low.1 middle (subst (Once 0 cut.0) upto_are once.0) in
    let show : AllByRecursion (ShowsIn entries) all =
    All-reordered (ShowsIn entries) history.placed all (IsPermutation-sym all history.placed history.same) (told_each 0 history.placed entries history.tells) in
    let show_upto = (All-both (ShowsIn entries) upto back (subst (AllByRecursion (ShowsIn entries)) all_are show)).0 in
    subst (λ (n : ℕ). IsStretch entries n (last_number upto) here) (sym (last_is parts.0 front low.1 both.0))
    (subst (λ (n : ℕ). IsStretch entries parts.0 n here) (sym (last_is cut.0 upto whole.1 once.0)) (record {
      rise = item.0;
      between = middle;
      once = both.1;
      show = (All-both (ShowsIn entries) front here (subst (AllByRecursion (ShowsIn entries)) upto_are show_upto)).1;
    }))

-- ---- lines in ascending order

first_least : (n : ℕ) (ss : List Shown) → ((j : ℕ) (d : Shown) → j < length ss → n ≤ (slice_index_or ss j d).number) → AllByRecursion (λ (s : Shown). n ≤ s.number) ss
first_least n [] each = tt
first_least n (s ∷ ss) each = (each 0 s (omega arith), first_least n ss (λ j d l. each (suc j) d (omega (arith, l))))

-- a number that is not above any, and stands nowhere, is below each
below_each : (low n high : ℕ) (ss : List Shown) → AllByRecursion (λ (s : Shown). n ≤ s.number) ss → times n ss ≡ 0 → Between low high ss → Between n high ss
below_each low n high [] least none between = tt
below_each low n high (s ∷ ss) least none between =
    let other : n ≡ s.number → ⊥ = λ is. omega (arith, none, ap (λ (k : ℕ). times k (s ∷ ss)) is, times_first s ss) in
    ((omega (arith, other, least.0), between.0.1), below_each low n high ss least.1 (sym (times_rest n s ss other) ∙ none) between.1)

ascending : (low high : ℕ) (ss : List Shown) → low ≤ high → Between low high ss → Once low high ss → IsNonDecreasingBy (λ (s : Shown). s.number) ss → CountUp low ss high
ascending low high [] rise between once up =
    let not_less : low < high → ⊥ = λ l. let one = once high l (omega arith) in omega (arith, one) in
    omega (arith, rise, not_less)
ascending low high (s ∷ ss) rise between once up =
    let least = first_least s.number ss (λ j d l. up 0 (suc j) d (omega arith) (omega (arith, l))) in
    let next = once (low + 1) (omega arith) (omega (arith, between.0)) in
    let there = of_each (λ (t : Shown). s.number ≤ t.number) (low + 1) (s ∷ ss) (omega arith, least) (omega (arith, next)) in
    let is : s.number ≡ low + 1 = omega (arith, there.1, there.2, between.0.0) in
    let none : times s.number ss ≡ 0 = omega (arith, once s.number between.0.0 between.0.1, times_first s ss) in (
      is,
      ascending (low + 1) high ss (omega (arith, is, between.0.1)) (subst (λ (n : ℕ). Between n high ss) is (below_each low s.number high ss least none between.1))
          (λ k l u. sym (times_rest k s ss (λ same. omega (arith, same, is, l))) ∙ once k (omega (arith, l)) u)
          (λ i j d le l. up (suc i) (suc j) d (omega (arith, le)) (omega (arith, l))),
    )

-- the lines of a stretch, in ascending order, count up
pub counts_up : {entries : List Entry} {low high : ℕ} {lines : List Shown} → IsStretch entries low high lines → (zs : List Shown) → IsPermutation lines zs
    → IsNonDecreasingBy (λ (z : Shown). z.number) zs → CountUp low zs high
counts_up {entries} {low} {high} {lines} stretch zs same up =
    ascending low high zs stretch.rise (All-reordered (Lies low high) lines zs same stretch.between) (λ k l u. times_same k lines zs same ∙ stretch.once k l u) up
