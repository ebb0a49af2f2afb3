-- What is held still, the time that passed, and what was counted: one command behind another.
use Rattle.std.proofs.Common.{◌≡◌, ℕ, zero, suc, ◌+◌, ◌<◌, ◌&&◌, ◌==◌, Bool, List, [], ◌∷◌, ◌++◌, length, Option, Some, None, refl, sym, ap, subst, ◌∙◌, arith}
use Rattle.std.specs.Prelude.{slice_get, is_some, if◌then◌else◌}
use Rattle.std.proofs.lemmas.Option.{slice_get_within}
use Rattle.berth_face.specs.Berth.{Meaning}
use Rattle.berth_face.proofs.Moments.{passes_none, passes_on}
use Rattle.printed_lines.specs.declared.line.Ending.{Ending}
use Rattle.printed_lines.specs.declared.line.Deed.{Deed}
use Rattle.transcript.specs.Pieces.{Piece, Called, Worn, Acted, Says}
use Rattle.transcript.specs.Counts.{CountRose, CountsRose, deeds_in, is_disk_fault, is_region_fault, reads_disk}
use Rattle.leaf_moves.specs.Holds.{AllMeet, Hold, caller_in}
use Rattle.leaf_moves.specs.Stage.{Leaf}
use Rattle.player.specs.Crew.{AllCounted, AllPass, CountedIf, HasLeaf, HasSeats, PassesIf, StillHas}

-- ---- lists

pub element_at : {A : Type 0} (xs : List A) (i : ℕ) → i < length xs → (x : A) × (slice_get xs i ≡ Some x)
element_at [] i below = absurd (omega (arith, below))
element_at (x ∷ xs) zero below = (x, refl)
element_at (x ∷ xs) (suc i) below = element_at xs i (omega (arith, below))

-- another list as long has one there too
pub there_too : {A C : Type 0} (xs : List A) (ys : List C) (i : ℕ) (y : C) → length ys ≡ length xs → slice_get ys i ≡ Some y → (x : A) × (slice_get xs i ≡ Some x)
there_too xs ys i y same at = element_at xs i (omega (arith, same, slice_get_within ys i y at))

pub one_there : {A : Type 0} (xs : List A) (i : ℕ) (x y : A) → slice_get xs i ≡ Some x → slice_get xs i ≡ Some y → y ≡ x
one_there xs i x y at also = cc

-- ---- the same is held

module _ {B : Type 0} where
  pub still_same : (xs : List (Hold B)) → StillHas xs xs
  still_same xs = record {
    count = refl;
    each = λ leaf x y at also.
        let same : y ≡ x = one_there xs leaf x y at also in
        (ap (λ (h : Hold B). is_some h.held) same, λ table. ap (λ (h : Hold B). is_some (caller_in h.callers table)) same);
  }

  pub still_on : (xs ys zs : List (Hold B)) → StillHas xs ys → StillHas ys zs → StillHas xs zs
  still_on xs ys zs a b = record {
    count = b.count ∙ a.count;
    each = λ leaf x z at there.
        let y = there_too ys zs leaf z b.count there in
        let one = a.each leaf x y.0 at y.1 in
        let two = b.each leaf y.0 z y.1 there in
        (two.0 ∙ one.0, λ table. two.1 table ∙ one.1 table);
  }

  module _ (xs ys : List (Hold B)) (still : StillHas xs ys) where
    pub still_leaf : (leaf : ℕ) → HasLeaf xs leaf → HasLeaf ys leaf
    still_leaf leaf has = λ y at. let x = there_too xs ys leaf y still.count at in (still.each leaf x.0 y x.1 at).0 ∙ has x.0 x.1

    pub still_seats : (table : ℕ) → HasSeats xs table → HasSeats ys table
    still_seats table has = λ leaf y at. let x = there_too xs ys leaf y still.count at in (still.each leaf x.0 y x.1 at).1 table ∙ has leaf x.0 x.1

-- ---- time

module _ {B : Type 0} (meaning : B → Meaning) where
  passes_if_none : (h : Option (Leaf × B)) → PassesIf meaning h h
  passes_if_none None = tt
  passes_if_none (Some l) = passes_none (meaning l.1)

  passes_if_same : (h h' : Option (Leaf × B)) → h' ≡ h → PassesIf meaning h h'
  passes_if_same h h' same = subst (λ (k : Option (Leaf × B)). PassesIf meaning h k) (sym same) (passes_if_none h)

  pub passes_if_on : (h h' h'' : Option (Leaf × B)) → PassesIf meaning h h' → PassesIf meaning h' h'' → PassesIf meaning h h''
  passes_if_on None None None a b = tt
  passes_if_on None None (Some n) a b = absurd b
  passes_if_on None (Some m) h'' a b = absurd a
  passes_if_on (Some l) None h'' a b = absurd a
  passes_if_on (Some l) (Some m) None a b = absurd b
  passes_if_on (Some l) (Some m) (Some n) a b = passes_on (meaning l.1) (meaning m.1) (meaning n.1) a b

  pub pass_none : (xs : List (Hold B)) → AllPass meaning xs xs
  pass_none xs = record { count = refl; each = λ leaf x y at also. passes_if_same x.held y.held (ap (λ (h : Hold B). h.held) (one_there xs leaf x y at also)) }

  pub pass_on : (xs ys zs : List (Hold B)) → AllPass meaning xs ys → AllPass meaning ys zs → AllPass meaning xs zs
  pass_on xs ys zs a b = record {
    count = b.count ∙ a.count;
    each = λ leaf x z at there.
        let y = there_too ys zs leaf z b.count there in
        passes_if_on x.held y.0.held z.held (a.each leaf x y.0 at y.1) (b.each leaf y.0 z y.1 there);
  }

-- ---- counts

pub deeds_append : (test : Deed → Ending → Bool) (leaf : ℕ) (xs ys : List Piece) → deeds_in test leaf (xs ++ ys) ≡ deeds_in test leaf xs + deeds_in test leaf ys
deeds_append test leaf [] ys = none (deeds_in test leaf ys)
  where
    none : (n : ℕ) → n ≡ 0 + n
    none n = omega arith
deeds_append test leaf (Acted l deed notes ending ∷ xs) ys =
    ap (λ n. (if (l == leaf) && test deed ending then 1 else 0) + n) (deeds_append test leaf xs ys)
    ∙ sum (if (l == leaf) && test deed ending then 1 else 0) (deeds_in test leaf xs) (deeds_in test leaf ys)
  where
    sum : (a b c : ℕ) → a + (b + c) ≡ a + b + c
    sum a b c = omega arith
deeds_append test leaf (Called l t c number said ∷ xs) ys = deeds_append test leaf xs ys
deeds_append test leaf (Worn l t ∷ xs) ys = deeds_append test leaf xs ys
deeds_append test leaf (Says line ∷ xs) ys = deeds_append test leaf xs ys

counted_faults : (a b c m n k : ℕ) → k ≡ m + n → CountRose a b m → CountRose b c n → CountRose a c k
counted_faults a b c m n k e g h = omega (arith, e, g, h)

counted_reads : (a b c m n k : ℕ) → k ≡ m + n → (m ≡ 0 → b ≡ a) → (n ≡ 0 → c ≡ b) → k ≡ 0 → c ≡ a
counted_reads a b c m n k e g h none = h (omega (arith, e, none)) ∙ g (omega (arith, e, none))

counted_on : (leaf : ℕ) (xs ys : List Piece) (a b c : Meaning) → CountsRose leaf xs a b → CountsRose leaf ys b c → CountsRose leaf (xs ++ ys) a c
counted_on leaf xs ys a b c g h = record {
  region = counted_faults a.region_faults b.region_faults c.region_faults (deeds_in (λ deed ending. is_region_fault ending) leaf xs) (deeds_in (λ deed ending. is_region_fault ending) leaf ys) (deeds_in (λ deed ending. is_region_fault ending) leaf (xs ++ ys))
      (deeds_append (λ deed ending. is_region_fault ending) leaf xs ys) g.region h.region;
  disk = counted_faults a.disk_faults b.disk_faults c.disk_faults (deeds_in (λ deed ending. is_disk_fault ending) leaf xs) (deeds_in (λ deed ending. is_disk_fault ending) leaf ys) (deeds_in (λ deed ending. is_disk_fault ending) leaf (xs ++ ys))
      (deeds_append (λ deed ending. is_disk_fault ending) leaf xs ys) g.disk h.disk;
  reads = counted_reads a.disk_reads b.disk_reads c.disk_reads (deeds_in reads_disk leaf xs) (deeds_in reads_disk leaf ys) (deeds_in reads_disk leaf (xs ++ ys))
      (deeds_append reads_disk leaf xs ys) g.reads h.reads;
}

-- pieces that tell no deed of a leaf count nothing
no_deeds : (leaf : ℕ) (xs : List Piece) (m : Meaning) → ((test : Deed → Ending → Bool) → deeds_in test leaf xs ≡ 0) → CountsRose leaf xs m m
no_deeds leaf xs m none = record {
  region = let zero_is : deeds_in (λ deed ending. is_region_fault ending) leaf xs ≡ 0 = none (λ deed ending. is_region_fault ending) in omega (arith, zero_is);
  disk = let zero_is : deeds_in (λ deed ending. is_disk_fault ending) leaf xs ≡ 0 = none (λ deed ending. is_disk_fault ending) in omega (arith, zero_is);
  reads = λ z. refl;
}

both_none : (test : Deed → Ending → Bool) (leaf : ℕ) (xs ys : List Piece) → deeds_in test leaf xs ≡ 0 → deeds_in test leaf ys ≡ 0 → deeds_in test leaf (xs ++ ys) ≡ 0
both_none test leaf xs ys a b = omega (arith, deeds_append test leaf xs ys, a, b)

module _ {B : Type 0} (meaning : B → Meaning) (leaf : ℕ) where
  pub counted_if_on : (xs ys : List Piece) (h h' h'' : Option (Leaf × B)) → CountedIf meaning leaf xs h h' → CountedIf meaning leaf ys h' h'' → CountedIf meaning leaf (xs ++ ys) h h''
  counted_if_on xs ys None None None a b = λ test. both_none test leaf xs ys (a test) (b test)
  counted_if_on xs ys None None (Some n) a b = absurd b
  counted_if_on xs ys None (Some m) h'' a b = absurd a
  counted_if_on xs ys (Some l) None h'' a b = absurd a
  counted_if_on xs ys (Some l) (Some m) None a b = absurd b
  counted_if_on xs ys (Some l) (Some m) (Some n) a b = counted_on leaf xs ys (meaning l.1) (meaning m.1) (meaning n.1) a b

  counted_still : (xs : List Piece) (h : Option (Leaf × B)) → ((test : Deed → Ending → Bool) → deeds_in test leaf xs ≡ 0) → CountedIf meaning leaf xs h h
  counted_still xs None none = none
  counted_still xs (Some l) none = no_deeds leaf xs (meaning l.1) none

  -- of two who hold different leaves, the first that of this number
  pub counted_first : (xs ys : List Piece) (h h' : Option (Leaf × B)) → CountedIf meaning leaf xs h h' → ((test : Deed → Ending → Bool) → deeds_in test leaf ys ≡ 0) → CountedIf meaning leaf (xs ++ ys) h h'
  counted_first xs ys h h' a none = counted_if_on xs ys h h' h' a (counted_still ys h' none)

  -- the second
  pub counted_second : (xs ys : List Piece) (h h' : Option (Leaf × B)) → ((test : Deed → Ending → Bool) → deeds_in test leaf xs ≡ 0) → CountedIf meaning leaf ys h h' → CountedIf meaning leaf (xs ++ ys) h h'
  counted_second xs ys h h' none a = counted_if_on xs ys h h h' (counted_still xs h none) a

  -- the same berth, whatever its leaf did with others
  pub counted_berth : (h : Option (Leaf × B)) (l l' : Leaf) (b : B) → h ≡ Some (l', b) → CountedIf meaning leaf [] (Some (l, b)) h
  counted_berth h l l' b is = subst (λ (k : Option (Leaf × B)). CountedIf meaning leaf [] (Some (l, b)) k) (sym is) (no_deeds leaf [] (meaning b) (λ test. refl))

module _ {B : Type 0} (meaning : B → Meaning) where
  pub counted_none : (xs : List (Hold B)) → AllCounted meaning [] xs xs
  counted_none xs = record {
    count = refl;
    each = λ leaf x y at also.
        subst (λ (k : Option (Leaf × B)). CountedIf meaning leaf [] x.held k) (sym (ap (λ (h : Hold B). h.held) (one_there xs leaf x y at also))) (counted_still meaning leaf [] x.held (λ test. refl));
  }

  pub all_counted_on : (xs ys zs : List (Hold B)) (ps qs : List Piece) → AllCounted meaning ps xs ys → AllCounted meaning qs ys zs → AllCounted meaning (ps ++ qs) xs zs
  all_counted_on xs ys zs ps qs a b = record {
    count = b.count ∙ a.count;
    each = λ leaf x z at there.
        let y = there_too ys zs leaf z b.count there in
        counted_if_on meaning leaf ps qs x.held y.0.held z.held (a.each leaf x y.0 at y.1) (b.each leaf y.0 z y.1 there);
  }

module _ {B : Type 0} (meaning : B → Meaning) where
  -- seats that meet count nothing
  pub counted_met : (xs ys : List (Hold B)) → AllMeet meaning xs ys → AllCounted meaning [] xs ys
  counted_met xs ys met = record {
    count = met.count;
    each = λ leaf x y at there.
        let m = met.each leaf x y at there in
        subst (λ (h : Option (Leaf × B)). CountedIf meaning leaf [] h y.held) (sym m.held)
        (counted_berth meaning leaf y.held m.leaf m.leaf_then m.berth (ap (λ (h : Hold B). h.held) m.now));
  }
