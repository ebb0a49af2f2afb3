-- Entries of a table's legal history that a state of a standing query heeds, one after another in the order of their
-- numbers.
use Rattle.std.proofs.Common.{◌≡◌, ℕ, ◌+◌, Bool, false, ◌||◌, refl, sym, ap, subst, ◌∙◌, arith}
use Rattle.std.specs.Prelude.{List, [], ◌∷◌, map, set, get_or, swap, IsPermutation}
use Rattle.std.specs.List.{AllByRecursion, list_any}
use Rattle.std.specs.List.Sorted.{IsNonDecreasingBy, apply_swaps, SwapsInRange}
use Rattle.std.proofs.Math.Bool.{or-false, or_assoc}
use Rattle.std.proofs.Math.ListN.{get_or-map}
use Rattle.std.proofs.lemmas.Bool.{or_parts}
use Rattle.std.proofs.lemmas.List.{length-map, map-set}
use Rattle.std.proofs.lemmas.List.Sorted.{list_any-IsPermutation}
use Rattle.leaf_history.specs.History.{Entry, LegalFrom}
use Rattle.standing_query.specs.States.{StandingState, is_end}
use Rattle.standing_feed.specs.declared.heard.Heard.{Heard}
use Rattle.standing_feed.specs.Following.{Ascend, FeedsTo, Heeds, HeedsAll, HeedsInOrder}
use Rattle.standing_feed.specs.Following as following
use Rattle.transcript.specs.Histories.{BaseState, Shown}
use Rattle.transcript.specs.Telling.{ends_state}
use Rattle.transcript_standing.proofs.HeardPieces.{fed_of, heard_of}
use Rattle.transcript_standing.proofs.Lists.{All-reordered, same_first, same_rest}
use Rattle.transcript_standing.proofs.Numbers.{CountUp, ShowsIn}
use Rattle.transcript_standing.proofs.Feeding.{FedBehind, FedTimes, HaveTimes, Knows, is_end_of, rows_behind, step_at, times_fed}

-- ---- entries one after another

-- the next entry is fed
next_fed : (s : StandingState) (h : Heard) (t : StandingState) → h.number ≡ s.upto + 1 → Heeds s h t → FeedsTo s h t
next_fed s h t at (following.known le same) = absurd (omega (arith, at, le))
next_fed s h t at (following.next is feeds) = feeds
next_fed s h t at (following.missed far lost) = absurd (omega (arith, at, far))

one_on : (g : BaseState) (entries : List Entry) → LegalFrom g.founded g.base entries → (x : Shown) (k : ℕ) (s t : StandingState) → x.number ≡ k + 1 → ShowsIn entries x → FedTimes (fed_of x.call x.said)
    → (s.stale ≡ false → Knows g entries k s) → FeedsTo s (heard_of x) t → t.stale ≡ false → Knows g entries (k + 1) t
one_on g entries legal x k s t number shows adds now feeds fresh =
    let both = or_parts s.stale (is_end (fed_of x.call x.said)) (sym feeds.stale ∙ fresh) in
    let was = now both.0 in
    let step = step_at g entries x k legal shows number both.1 was.2 in (
      feeds.means (rows_behind g entries k) (rows_behind g entries (k + 1)) was.0 step.feeds fresh,
      times_fed (fed_of x.call x.said) (rows_behind g entries k) (rows_behind g entries (k + 1)) adds step.feeds was.1,
      step.none_below,
    )

pub heeds_all_on : (g : BaseState) (entries : List Entry) → LegalFrom g.founded g.base entries → (ss : List Shown) (k m : ℕ) (s t : StandingState)
    → CountUp k ss m → AllByRecursion (ShowsIn entries) ss → HaveTimes (map heard_of ss)
    → s.upto ≡ k → (s.stale ≡ false → Knows g entries k s)
    → HeedsAll s (map heard_of ss) t → FedBehind g entries ss m s t
heeds_all_on g entries legal [] k m s t count shows adds at now (following.none a b c empty same) =
    let stale : t.stale ≡ s.stale = ap (λ (x : StandingState). x.stale) same in
    record {
      upto = ap (λ (x : StandingState). x.upto) same ∙ (at ∙ sym count);
      query = ap (λ (x : StandingState). x.query) same;
      stale = stale ∙ sym (or-false s.stale);
      means = λ fresh.
          subst (λ (x : StandingState). Knows g entries m x) (sym same) (subst (λ (n : ℕ). Knows g entries n s) (sym count) (now (sym stale ∙ fresh)));
    }
heeds_all_on g entries legal [] k m s t count shows adds at now (following.more a b c h others between one rest is) = absurd cc
heeds_all_on g entries legal (x ∷ ss) k m s t count shows adds at now (following.none a b c empty same) = absurd cc
heeds_all_on g entries legal (x ∷ ss) k m s t count shows adds at now (following.more a b c h others between one rest is) =
    let number : x.number ≡ s.upto + 1 = omega (arith, count.0, at) in
    let first : Heeds s (heard_of x) between = subst (λ (y : Heard). Heeds s y between) (sym (same_first (heard_of x) h (map heard_of ss) others is)) one in
    let later : HeedsAll between (map heard_of ss) t = subst (λ (hs : List Heard). HeedsAll between hs t) (sym (same_rest (heard_of x) h (map heard_of ss) others is)) rest in
    let feeds = next_fed s (heard_of x) between number first in
    let ended = list_any (λ (e : Shown). ends_state e.call e.said) ss in
    let stale : between.stale ≡ (s.stale || ends_state x.call x.said) = feeds.stale ∙ ap (λ (b : Bool). s.stale || b) (is_end_of x) in
    let behind = heeds_all_on g entries legal ss (k + 1) m between t count.1 shows.1 adds.1 (feeds.upto ∙ count.0) (one_on g entries legal x k s between count.0 shows.0 adds.0 now feeds) later in
    record {
      upto = behind.upto;
      query = behind.query ∙ feeds.query;
      stale = behind.stale ∙ (ap (λ (b : Bool). b || ended) stale ∙ or_assoc s.stale (ends_state x.call x.said) ended);
      means = behind.means;
    }

-- ---- in the order of their numbers

module _ {X Y : Type 0} (f : X → Y) where
  map-swap : (xs : List X) (i j : ℕ) → map f (swap xs i j) ≡ swap (map f xs) i j
  map-swap [] i j = refl
  map-swap (d ∷ ys) i j =
      map-set f (set (d ∷ ys) i (get_or (d ∷ ys) j d)) j (get_or (d ∷ ys) i d)
      ∙ (λ k. set ((map-set f (d ∷ ys) i (get_or (d ∷ ys) j d) ∙ ap (set (map f (d ∷ ys)) i) (sym (get_or-map f (d ∷ ys) j d))) k) j (sym (get_or-map f (d ∷ ys) i d) k))

  map-swaps : (xs : List X) (ps : List (ℕ × ℕ)) → map f (apply_swaps xs ps) ≡ apply_swaps (map f xs) ps
  map-swaps xs [] = refl
  map-swaps xs (p ∷ ps) = map-swap (apply_swaps xs ps) p.0 p.1 ∙ ap (λ l. swap l p.0 p.1) (map-swaps xs ps)

  -- a permutation of a mapped list is the map of a permutation
  pub mapped_permutation : (xs : List X) (ys : List Y) → IsPermutation (map f xs) ys → (zs : List X) × IsPermutation xs zs × (ys ≡ map f zs)
  mapped_permutation xs ys p = (
    apply_swaps xs p.moves,
    record { moves = p.moves; below = subst (λ n. SwapsInRange n p.moves) (length-map xs f) p.below; is = refl },
    p.is ∙ sym (map-swaps xs p.moves),
  )

ascend_on : (zs : List Shown) → Ascend (map heard_of zs) → IsNonDecreasingBy (λ (z : Shown). z.number) zs
ascend_on zs up i j d le lt =
    let long = length-map zs heard_of in
    let here : (get_or (map heard_of zs) i (heard_of d)).number ≡ (get_or zs i d).number = ap (λ (h : Heard). h.number) (get_or-map heard_of zs i d) in
    let there : (get_or (map heard_of zs) j (heard_of d)).number ≡ (get_or zs j d).number = ap (λ (h : Heard). h.number) (get_or-map heard_of zs j d) in
    let at = up i j (heard_of d) le (omega (arith, long, lt)) in
    omega (arith, here, there, at)

pub heeds_on : (g : BaseState) (entries : List Entry) → LegalFrom g.founded g.base entries → (ss : List Shown) (k m : ℕ) (s t : StandingState)
    → ((zs : List Shown) → IsPermutation ss zs → IsNonDecreasingBy (λ (z : Shown). z.number) zs → CountUp k zs m) → AllByRecursion (ShowsIn entries) ss → HaveTimes (map heard_of ss)
    → s.upto ≡ k → (s.stale ≡ false → Knows g entries k s)
    → HeedsInOrder s (map heard_of ss) t → FedBehind g entries ss m s t
heeds_on g entries legal ss k m s t numbers shows adds at now heeds =
    let placed = mapped_permutation heard_of ss heeds.in_order heeds.same in
    let count = numbers placed.0 placed.1 (ascend_on placed.0 (subst (λ (hs : List Heard). Ascend hs) placed.2 heeds.ascend)) in
    let behind = heeds_all_on g entries legal placed.0 k m s t count
    (All-reordered (ShowsIn entries) ss placed.0 placed.1 shows)
    (subst HaveTimes placed.2 (All-reordered (λ (h : Heard). FedTimes h.fed) (map heard_of ss) heeds.in_order heeds.same adds)) at now
    (subst (λ (hs : List Heard). HeedsAll s hs t) placed.2 heeds.heeds) in
    record {
      upto = behind.upto;
      query = behind.query;
      stale = behind.stale ∙ ap (λ (b : Bool). s.stale || b) (sym (list_any-IsPermutation (λ (e : Shown). ends_state e.call e.said) ss placed.0 placed.1));
      means = behind.means;
    }
