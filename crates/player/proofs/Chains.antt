-- Chains of what callers and stewards of the leaves do.
use Rattle.std.proofs.Common.{◌≡◌, ◌≢◌, ◌⊎◌, inl, inr, ℕ, ◌+◌, ◌-◌, ◌^◌, ◌≤◌, Bool, List, [], ◌∷◌, ◌++◌, length, map, Option, Some, Result, Ok, Err, Vec, Global, refl, sym, ap, ap₂, subst, ◌∙◌, arith, length-set}
use Rattle.std.specs.Prelude.{min, IfOk, None, is_some, slice_get, slice_set}
use Rattle.std.specs.List.{AllByRecursion}
use Rattle.std.proofs.lemmas.Grind.{flat_map-append}
use Rattle.std.proofs.lemmas.Option.{slice_get_within}
use Rattle.berth_face.specs.Berth.{Meaning, Passes}
use Rattle.berth_face.proofs.Moments.{passes_none, passes_on}
use Rattle.leaf_table.specs.Calls.{SeatView}
use Rattle.leaf_history.specs.Calls.{Call}
use Rattle.leaf_steward.proofs.Seating.{same_at, set_either}
use Rattle.printed_lines.specs.declared.line.Ending.{Ending}
use Rattle.printed_lines.specs.declared.line.Line.{Line}
use Rattle.printed_lines.specs.Lines.{IsOf}
use Rattle.printed_lines.specs.declared.line.Deed.{Deed}
use Rattle.transcript.specs.Pieces.{Acted, Called, Piece, Says, Worn, lines_in, piece_lines}
use Rattle.transcript.specs.Counts.{CountRose, CountsRose, deeds_in, is_disk_fault, is_region_fault, reads_disk}
use Rattle.leaf_moves.specs.Holds.{Hold, caller_in, with_callers, with_leaf}
use Rattle.leaf_moves.specs.Plays as going
use Rattle.leaf_moves.specs.Plays.{Goes}
use Rattle.leaf_moves.specs.Stage.{Leaf}
use Rattle.player.specs.declared.answer.DeedOutcome.{DeedOutcome}
use Rattle.player.specs.Crew.{AllPass, CountedIf, PassesIf, StillHas}
use Rattle.player.specs.Lines.{AreJoined, CallsWith}
use Rattle.player.specs.Members.{GoesWith}
use Rattle.player.specs.Commands.{ActsWith}
use Rattle.player.proofs.Columns.{element_at}
use Rattle.player.proofs.CommandLines.{calm_other, none_told}

-- ---- lists

pub all_more : {A : Type 0} (P : A → Type 0) (xs ys : List A) → AllByRecursion P xs → AllByRecursion P ys → AllByRecursion P (xs ++ ys)
all_more P [] ys a b = b
all_more P (x ∷ xs) ys a b = (a.0, all_more P xs ys a.1 b)

pub lines_more : (ps qs : List Piece) → lines_in (ps ++ qs) ≡ lines_in ps ++ lines_in qs
lines_more ps qs = flat_map-append piece_lines ps qs

-- ---- lines that tell no entry

pub lines_said : (ls : List Line) → lines_in (map Says ls) ≡ ls
lines_said [] = refl
lines_said (l ∷ ls) = ap (λ (ks : List Line). l ∷ ks) (lines_said ls)

deeds_said : (test : Deed → Ending → Bool) (leaf : ℕ) (ls : List Line) → deeds_in test leaf (map Says ls) ≡ 0
deeds_said test leaf [] = refl
deeds_said test leaf (l ∷ ls) = deeds_said test leaf ls

-- ---- counts

plus_more : (one n c d : ℕ) → n ≡ c + d → one + n ≡ (one + c) + d
plus_more one n c d is = omega (arith, is)

pub deeds_more : (test : Deed → Ending → Bool) (leaf : ℕ) (ps qs : List Piece) → deeds_in test leaf (ps ++ qs) ≡ deeds_in test leaf ps + deeds_in test leaf qs
deeds_more test leaf [] qs = omega arith
deeds_more test leaf (Acted l deed notes ends ∷ ps) qs = plus_more _ (deeds_in test leaf (ps ++ qs)) (deeds_in test leaf ps) (deeds_in test leaf qs) (deeds_more test leaf ps qs)
deeds_more test leaf (Called l t c number said ∷ ps) qs = deeds_more test leaf ps qs
deeds_more test leaf (Worn l t ∷ ps) qs = deeds_more test leaf ps qs
deeds_more test leaf (Says l ∷ ps) qs = deeds_more test leaf ps qs

bounded : (top b m n c d : ℕ) → min (b + c) top ≤ m → min (m + d) top ≤ n → min (b + (c + d)) top ≤ n
bounded top b m n c d first second = omega (arith, first, second)

counted_on : (b m n c d all : ℕ) → all ≡ c + d → CountRose b m c → CountRose m n d → CountRose b n all
counted_on b m n c d all is first second = subst (CountRose b n) (sym is) (bounded (2 ^ 64 - 1) b m n c d first second)

pub counted_more : (leaf : ℕ) (ps qs : List Piece) (m n o : Meaning) → CountsRose leaf ps m n → CountsRose leaf qs n o → CountsRose leaf (ps ++ qs) m o
counted_more leaf ps qs m n o first second = record {
  region = counted_on m.region_faults n.region_faults o.region_faults _ _ _ (deeds_more (λ deed ends. is_region_fault ends) leaf ps qs) first.region second.region;
  disk = counted_on m.disk_faults n.disk_faults o.disk_faults _ _ _ (deeds_more (λ deed ends. is_disk_fault ends) leaf ps qs) first.disk second.disk;
  reads = λ none.
      let both = deeds_more reads_disk leaf ps qs in
      second.reads (omega (arith, both, none)) ∙ first.reads (omega (arith, both, none));
}

pub counted_none : (leaf : ℕ) (ps : List Piece) (m : Meaning) → ((test : Deed → Ending → Bool) → deeds_in test leaf ps ≡ 0) → CountsRose leaf ps m m
counted_none leaf ps m calm = record {
  region = none_told m.region_faults _ (calm (λ deed ends. is_region_fault ends));
  disk = none_told m.disk_faults _ (calm (λ deed ends. is_disk_fault ends));
  reads = λ none. refl;
}

-- ---- chains

module _ {B : Type 0} (meaning : B → Meaning) where
  pub goes_more : (xs ys zs : List (Hold B)) (ps qs : List Piece) → Goes meaning xs ps ys → Goes meaning ys qs zs → Goes meaning xs (ps ++ qs) zs
  goes_more xs ys zs ps qs (going.none us pieces bs empty same) more =
      subst (λ (ws : List (Hold B)). Goes meaning ws (pieces ++ qs) zs) same (subst (λ (rs : List Piece). Goes meaning bs (rs ++ qs) zs) (sym empty) more)
  goes_more xs ys zs ps qs (going.call us pieces bs leaf table c x callers p others at called goes are) more =
      going.call us (pieces ++ qs) zs leaf table c x callers p (others ++ qs) at called (goes_more (slice_set us leaf (with_callers x callers)) bs zs others qs goes more)
      (ap (λ (rs : List Piece). rs ++ qs) are)
  goes_more xs ys zs ps qs (going.act us pieces bs leaf deed x l l' b b' callers p others at held acted goes are) more =
      going.act us (pieces ++ qs) zs leaf deed x l l' b b' callers p (others ++ qs) at held acted (goes_more (slice_set us leaf (with_leaf x l' b' callers)) bs zs others qs goes more)
      (ap (λ (rs : List Piece). rs ++ qs) are)
  goes_more xs ys zs ps qs (going.say us pieces bs l others goes are) more =
      going.say us (pieces ++ qs) zs l (others ++ qs) (goes_more us bs zs others qs goes more) (ap (λ (rs : List Piece). rs ++ qs) are)

  -- ---- of one leaf

  -- what holds of the one that has become another, and of each that is as it was
  pub each_set : (P : ℕ → Hold B → Hold B → Type 0) (xs : List (Hold B)) (i : ℕ) (x y : Hold B) → slice_get xs i ≡ Some x → P i x y
      → ((j : ℕ) (h : Hold B) → j ≢ i → P j h h) → (j : ℕ) (h h' : Hold B) → slice_get xs j ≡ Some h → slice_get (slice_set xs i y) j ≡ Some h' → P j h h'
  each_set P xs i x y at here others j h h' was now = by (set_either xs i j y h' now)
    where
      by : ((j ≡ i) × (h' ≡ y)) ⊎ ((j ≢ i) × (slice_get xs j ≡ Some h')) → P j h h'
      by (inl same) =
          let is : x ≡ h = same_at xs i x h at (subst (λ (n : ℕ). slice_get xs n ≡ Some h) same.0 was) in
          subst (λ (n : ℕ). P n h h') (sym same.0) (subst (λ (z : Hold B). P i h z) (sym same.1) (subst (λ (z : Hold B). P i z y) is here))
      by (inr apart) = subst (λ (z : Hold B). P j h z) (same_at xs j h h' was apart.1) (others j h apart.0)

  -- ---- where a leaf is held

  pub passes_if_none : (o : Option (Leaf × B)) → PassesIf meaning o o
  passes_if_none None = tt
  passes_if_none (Some l) = passes_none (meaning l.1)

  pub passes_if_on : (o p q : Option (Leaf × B)) → PassesIf meaning o p → PassesIf meaning p q → PassesIf meaning o q
  passes_if_on None None None first second = tt
  passes_if_on (Some l) (Some m) (Some n) first second = passes_on (meaning l.1) (meaning m.1) (meaning n.1) first second
  passes_if_on None (Some m) q first second = absurd first
  passes_if_on (Some l) None q first second = absurd first
  passes_if_on None None (Some n) first second = absurd second
  passes_if_on (Some l) (Some m) None first second = absurd second

  -- pieces that tell no deed of it
  pub counted_calm : (leaf : ℕ) (ps : List Piece) (o : Option (Leaf × B)) → ((test : Deed → Ending → Bool) → deeds_in test leaf ps ≡ 0) → CountedIf meaning leaf ps o o
  counted_calm leaf ps None calm = calm
  counted_calm leaf ps (Some l) calm = counted_none leaf ps (meaning l.1) calm

  pub counted_if_more : (leaf : ℕ) (ps qs : List Piece) (o p q : Option (Leaf × B)) → CountedIf meaning leaf ps o p → CountedIf meaning leaf qs p q → CountedIf meaning leaf (ps ++ qs) o q
  counted_if_more leaf ps qs None None None first second = λ test. both_none _ _ _ (deeds_more test leaf ps qs) (first test) (second test)
    where
      both_none : (n c d : ℕ) → n ≡ c + d → c ≡ 0 → d ≡ 0 → n ≡ 0
      both_none n c d is one other = omega (arith, is, one, other)
  counted_if_more leaf ps qs (Some l) (Some m) (Some n) first second = counted_more leaf ps qs (meaning l.1) (meaning m.1) (meaning n.1) first second
  counted_if_more leaf ps qs None (Some m) q first second = absurd first
  counted_if_more leaf ps qs (Some l) None q first second = absurd first
  counted_if_more leaf ps qs None None (Some n) first second = absurd second
  counted_if_more leaf ps qs (Some l) (Some m) None first second = absurd second

  -- ---- one of them

  pub all_pass_set : (xs : List (Hold B)) (i : ℕ) (x y : Hold B) → slice_get xs i ≡ Some x → PassesIf meaning x.held y.held → AllPass meaning xs (slice_set xs i y)
  all_pass_set xs i x y at time = record {
    count = length-set xs i y;
    each = each_set (λ j h h'. PassesIf meaning h.held h'.held) xs i x y at time (λ j h apart. passes_if_none h.held);
  }

  pub still_set : (xs : List (Hold B)) (i : ℕ) (x y : Hold B) → slice_get xs i ≡ Some x → is_some y.held ≡ is_some x.held
      → ((table : ℕ) → is_some (caller_in y.callers table) ≡ is_some (caller_in x.callers table)) → StillHas xs (slice_set xs i y)
  still_set xs i x y at held callers = record {
    count = length-set xs i y;
    each = each_set (λ j h h'. (is_some h'.held ≡ is_some h.held) × ((table : ℕ) → is_some (caller_in h'.callers table) ≡ is_some (caller_in h.callers table))) xs i x y at (held, callers)
        (λ j h apart. (refl, λ table. refl));
  }

  -- a deed
  pub one_act : {E : Type 0} (names : List (List ℕ)) (xs ys : List (Hold B)) (number : ℕ) (deed : Deed) (x : Hold B) (l l' : Leaf) (b b' : B) (callers : List (Option SeatView))
      (answer : DeedOutcome) (result : Result (Vec Line Global) E) → slice_get xs number ≡ Some x → x.held ≡ Some (l, b) → ys ≡ slice_set xs number (with_leaf x l' b' callers)
      → ((table : ℕ) → is_some (caller_in callers table) ≡ is_some (caller_in x.callers table))
      → (acts : ActsWith meaning names number deed l x.callers b answer result l' callers b') → Passes (meaning b) (meaning b')
      → GoesWith meaning names xs result (acts.piece ∷ []) ys
  one_act names xs ys number deed x l l' b b' callers answer result at held now seats acts time =
      let y : Hold B = with_leaf x l' b' callers in
      subst (λ (zs : List (Hold B)). GoesWith meaning names xs result (acts.piece ∷ []) zs) (sym now) (record {
        goes = going.act xs (acts.piece ∷ []) (slice_set xs number y) number deed x l l' b b' callers acts.piece [] at held acts.step
            (going.none (slice_set xs number y) [] (slice_set xs number y) refl refl) refl;
        counted = record {
          count = length-set xs number y;
          each = each_set (λ j h h'. CountedIf meaning j (acts.piece ∷ []) h.held h'.held) xs number x y at
              (subst (λ (o : Option (Leaf × B)). CountedIf meaning number (acts.piece ∷ []) o (Some (l', b'))) (sym held) acts.counted)
              (λ j h apart. counted_calm j (acts.piece ∷ []) h.held
              (λ test. subst (λ (p : Piece). deeds_in test j (p ∷ []) ≡ 0) (sym acts.step.piece_is) (calm_other number j deed acts.step.notes acts.step.ends test apart)));
        };
        time = all_pass_set xs number x y at (subst (λ (o : Option (Leaf × B)). PassesIf meaning o (Some (l', b'))) (sym held) time);
        still = still_set xs number x y at (ap (λ (o : Option (Leaf × B)). is_some o) (sym held)) seats;
        fit = acts.fit;
        lines_are = acts.lines_are;
      })

  -- a call
  pub one_called : {E : Type 0} (names : List (List ℕ)) (xs ys : List (Hold B)) (leaf table : ℕ) (c : Call) (x : Hold B) (callers : List (Option SeatView)) (result : Result (Vec Line Global) E)
      → slice_get xs leaf ≡ Some x → ys ≡ slice_set xs leaf (with_callers x callers)
      → ((t : ℕ) → is_some (caller_in callers t) ≡ is_some (caller_in x.callers t))
      → (calls : CallsWith names leaf table c x.tables x.callers result callers) → GoesWith meaning names xs result (calls.piece ∷ []) ys
  one_called names xs ys leaf table c x callers result at now seats calls =
      let y : Hold B = with_callers x callers in
      subst (λ (zs : List (Hold B)). GoesWith meaning names xs result (calls.piece ∷ []) zs) (sym now) (record {
        goes = going.call xs (calls.piece ∷ []) (slice_set xs leaf y) leaf table c x callers calls.piece [] at calls.step (going.none (slice_set xs leaf y) [] (slice_set xs leaf y) refl refl) refl;
        counted = record {
          count = length-set xs leaf y;
          each = each_set (λ j h h'. CountedIf meaning j (calls.piece ∷ []) h.held h'.held) xs leaf x y at
              (counted_calm leaf (calls.piece ∷ []) x.held (λ test. calls.calm test leaf))
              (λ j h apart. counted_calm j (calls.piece ∷ []) h.held (λ test. calls.calm test j));
        };
        time = all_pass_set xs leaf x y at (passes_if_none x.held);
        still = still_set xs leaf x y at refl seats;
        fit = calls.fit;
        lines_are = calls.lines_are;
      })

  -- ---- of several

  -- there is one between in each place
  between : (xs ys : List (Hold B)) → length ys ≡ length xs → (leaf : ℕ) (x : Hold B) → slice_get xs leaf ≡ Some x → (y : Hold B) × (slice_get ys leaf ≡ Some y)
  between xs ys count leaf x at = element_at ys leaf (omega (arith, count, slice_get_within xs leaf x at))

  pub still_more : (xs ys zs : List (Hold B)) → StillHas xs ys → StillHas ys zs → StillHas xs zs
  still_more xs ys zs one other = record {
    count = other.count ∙ one.count;
    each = λ leaf x z was now.
        let y = between xs ys one.count leaf x was in
        let first = one.each leaf x y.0 was y.1 in
        let second = other.each leaf y.0 z y.1 now in
        (second.0 ∙ first.0, λ table. second.1 table ∙ first.1 table);
  }

  pub goes_with_more : {E F G : Type 0} (names : List (List ℕ)) (xs ys zs : List (Hold B)) (ps qs : List Piece) (first : Result (Vec Line Global) E) (second : Result (Vec Line Global) F) (both : Result (Vec Line Global) G)
      → GoesWith meaning names xs first ps ys → GoesWith meaning names ys second qs zs → IfOk both (λ lines. lines.items ≡ lines_in (ps ++ qs)) → GoesWith meaning names xs both (ps ++ qs) zs
  goes_with_more names xs ys zs ps qs first second both one other told = record {
    goes = goes_more xs ys zs ps qs one.goes other.goes;
    counted = record {
      count = other.time.count ∙ one.time.count;
      each = λ leaf x z was now.
          let y = between xs ys one.time.count leaf x was in
          counted_if_more leaf ps qs x.held y.0.held z.held (one.counted.each leaf x y.0 was y.1) (other.counted.each leaf y.0 z y.1 now);
    };
    time = record {
      count = other.time.count ∙ one.time.count;
      each = λ leaf x z was now.
          let y = between xs ys one.time.count leaf x was in
          passes_if_on x.held y.0.held z.held (one.time.each leaf x y.0 was y.1) (other.time.each leaf y.0 z y.1 now);
    };
    still = still_more xs ys zs one.still other.still;
    fit = subst (AllByRecursion (IsOf names)) (sym (lines_more ps qs)) (all_more (IsOf names) (lines_in ps) (lines_in qs) one.fit other.fit);
    lines_are = told;
  }

  -- nothing was done
  pub time_none : (xs : List (Hold B)) → AllPass meaning xs xs
  time_none xs = record {
    count = refl;
    each = λ leaf x y was now. subst (λ (z : Hold B). PassesIf meaning x.held z.held) (same_at xs leaf x y was now) (passes_if_none x.held);
  }

  pub still_none : (xs : List (Hold B)) → StillHas xs xs
  still_none xs = record {
    count = refl;
    each = λ leaf x y was now. (ap (λ (z : Hold B). is_some z.held) (sym (same_at xs leaf x y was now)), λ table. ap (λ (z : Hold B). is_some (caller_in z.callers table)) (sym (same_at xs leaf x y was now)));
  }

  -- only lines were said
  goes_said : (xs : List (Hold B)) (ls : List Line) → Goes meaning xs (map Says ls) xs
  goes_said xs [] = going.none xs [] xs refl refl
  goes_said xs (l ∷ ls) = going.say xs (map Says (l ∷ ls)) xs l (map Says ls) (goes_said xs ls) refl

  pub goes_with_said : {E : Type 0} (names : List (List ℕ)) (xs : List (Hold B)) (ls : List Line) (result : Result (Vec Line Global) E) → AllByRecursion (IsOf names) ls → IfOk result (λ lines. lines.items ≡ ls)
      → GoesWith meaning names xs result (map Says ls) xs
  goes_with_said names xs ls result fit told = record {
    goes = goes_said xs ls;
    counted = record {
      count = refl;
      each = λ leaf x y was now.
          subst (λ (z : Hold B). CountedIf meaning leaf (map Says ls) x.held z.held) (same_at xs leaf x y was now) (counted_calm leaf (map Says ls) x.held (λ test. deeds_said test leaf ls));
    };
    time = time_none xs;
    still = still_none xs;
    fit = subst (AllByRecursion (IsOf names)) (sym (lines_said ls)) fit;
    lines_are = subst (λ (ks : List Line). IfOk result (λ lines. lines.items ≡ ks)) (sym (lines_said ls)) told;
  }

-- the lines of two lists of pieces, with some between them
pub joined_lines : {E : Type 0} (first second both : Result (Vec Line Global) E) (between : List Line) (ps qs : List Piece) → IfOk first (λ lines. lines.items ≡ lines_in ps) → IfOk second (λ lines. lines.items ≡ lines_in qs)
    → IfOk both (λ lines. AreJoined first between second lines.items) → IfOk both (λ lines. lines.items ≡ lines_in (ps ++ (map Says between ++ qs)))
joined_lines (Ok first) (Ok second) (Ok both) between ps qs one other are =
    are ∙ ap₂ (λ (ls ks : List Line). ls ++ (between ++ ks)) one other
    ∙ sym (lines_more ps (map Says between ++ qs) ∙ ap (λ (ls : List Line). lines_in ps ++ ls) (lines_more (map Says between) qs ∙ ap (λ (ls : List Line). ls ++ lines_in qs) (lines_said between)))
joined_lines (Ok first) (Err e) (Ok both) between ps qs one other are = absurd are
joined_lines (Err e) second (Ok both) between ps qs one other are = absurd are
joined_lines first second (Err e) between ps qs one other are = tt

-- no lines are asked of what was done
abbrev pub no_lines : Result (Vec Line Global) (Unit {0})
no_lines = Err tt
