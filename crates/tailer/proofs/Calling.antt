-- A call by the seat of its leaf, among the seats at all leaves.
use Rattle.std.proofs.Common.{◌≡◌, ◌<◌, ◌⊎◌, ℕ, zero, suc, List, [], ◌∷◌, ◌++◌, length, Some, refl, sym, ap, ◌∙◌, subst, inl, inr, arith, length-set}
use Rattle.std.specs.Prelude.{slice_get, slice_set, slice_index_or}
use Rattle.std.proofs.lemmas.Option.{slice_get-get_or, slice_get_read, slice_get_within}
use Rattle.leaf_history.specs.Calls.{Call}
use Rattle.turnstile.specs.Seats.{IsSeatOf}
use Rattle.leaf_table.specs.declared.replies.Reply.{Reply}
use Rattle.leaf_table.specs.Turns.{Shared}
use Rattle.leaf_table.specs.Calls.{SeatView, IsCaller, SameSeat, Answered, base_seen}
use Rattle.leaf_table.specs.Lists.{place, row}
use Rattle.aggregator.specs.Asks.{IsSeatAt, AreSeatsAt}
use Rattle.tailer.specs.Calls.{LeafCall, CallAt, CallsOn}

-- ---- places of a list

pub same_some : {A : Type 0} {x y : A} → Some x ≡ Some y → x ≡ y
same_some e = cc

some_at : {A : Type 0} (xs : List A) (i : ℕ) → i < length xs → (x : A) × (slice_get xs i ≡ Some x)
some_at [] i low = absurd (omega (arith, low))
some_at (x ∷ xs) zero low = (x, refl)
some_at (x ∷ xs) (suc i) low = some_at xs i (omega (arith, low))

-- what stands in a place where an element was written
pub set_here : {A : Type 0} (xs : List A) (i : ℕ) (x y : A) → slice_get xs i ≡ Some x → slice_get (slice_set xs i y) i ≡ Some y
set_here [] i x y is = absurd cc
set_here (z ∷ xs) zero x y is = refl
set_here (z ∷ xs) (suc i) x y is = set_here xs i x y is

-- what stands after a write was written, or stood there
after_set : {A : Type 0} (xs : List A) (i : ℕ) (y : A) (j : ℕ) (x : A) → slice_get (slice_set xs i y) j ≡ Some x → ((j ≡ i) × (y ≡ x)) ⊎ (slice_get xs j ≡ Some x)
after_set [] i y j x is = inr is
after_set (z ∷ xs) zero y zero x is = inl (refl, cc)
after_set (z ∷ xs) zero y (suc j) x is = inr is
after_set (z ∷ xs) (suc i) y zero x is = inr is
after_set (z ∷ xs) (suc i) y (suc j) x is = elim (after_set xs i y j x is) [ inl h ↦ inl (ap suc h.0, h.1) | inr h ↦ inr h ]

-- what stood before a write stands still, or the write was there
pub before_set : {A : Type 0} (xs : List A) (i : ℕ) (y : A) (j : ℕ) (x : A) → slice_get xs j ≡ Some x → (j ≡ i) ⊎ (slice_get (slice_set xs i y) j ≡ Some x)
before_set [] i y j x is = inr is
before_set (z ∷ xs) zero y zero x is = inl refl
before_set (z ∷ xs) zero y (suc j) x is = inr is
before_set (z ∷ xs) (suc i) y zero x is = inr is
before_set (z ∷ xs) (suc i) y (suc j) x is = elim (before_set xs i y j x is) [ inl h ↦ inl (ap suc h) | inr h ↦ inr h ]

-- ---- one call

-- a table of a leaf, and the seat there
pub record IsThere (fleet : List (List Shared)) (table leaf : ℕ) (vs : List SeatView) (shared : Shared) (v : SeatView) : Type 0 where
  pub stands : place fleet leaf table ≡ Some shared
  pub was : slice_get vs leaf ≡ Some v
  pub seat : IsSeatOf v shared.site
  pub caller : IsCaller v

module _ (fleet : List (List Shared)) (table : ℕ) where
  -- each leaf has a table of that number
  pub table_low : (leaf : ℕ) (vs : List SeatView) (tables : List Shared) → AreSeatsAt fleet table vs → leaf < length fleet → tables ≡ row fleet leaf → table < length tables
  table_low leaf vs tables are low is =
      let v = some_at vs leaf (omega (arith, low, are.count)) in
      let at = are.each leaf v.0 v.1 in
      slice_get_within tables table at.shared (ap (λ (ts : List Shared). slice_get ts table) is ∙ at.stands)

  pub there : (leaf : ℕ) (vs : List SeatView) (tables : List Shared) (shared : Shared) (d : SeatView) → AreSeatsAt fleet table vs → leaf < length fleet → tables ≡ row fleet leaf
      → shared ≡ slice_index_or tables table shared → IsThere fleet table leaf vs shared (slice_index_or vs leaf d)
  there leaf vs tables shared d are low is one =
      let was : slice_get vs leaf ≡ Some (slice_index_or vs leaf d) = slice_get-get_or vs leaf d (omega (arith, low, are.count)) in
      let at = are.each leaf (slice_index_or vs leaf d) was in
      let read : slice_get tables table ≡ Some shared = slice_get_read tables (length tables) table shared refl (table_low leaf vs tables are low is) one in
      let stands : place fleet leaf table ≡ Some shared = ap (λ (ts : List Shared). slice_get ts table) (sym is) ∙ read in
      let same : at.shared ≡ shared = same_some (sym at.stands ∙ stands) in
      record { stands = stands; was = was; seat = subst (λ (s : Shared). IsSeatOf (slice_index_or vs leaf d) s.site) same at.seat; caller = at.caller }

  pub called : (leaf : ℕ) (vs : List SeatView) (shared : Shared) (v w : SeatView) (c : Call) (r : Reply) → IsThere fleet table leaf vs shared v
      → Answered (base_seen shared) v c r w → IsSeatOf w shared.site → SameSeat v w → CallAt fleet table vs (record { leaf = leaf; call = c; reply = r }) (slice_set vs leaf w)
  called leaf vs shared v w c r at answered seat same = record {
    shared = shared;
    before = v;
    after = w;
    stands = at.stands;
    was = at.was;
    answered = answered;
    seat = seat;
    same = same;
    now = refl;
  }

  -- the seats are callers' seats still
  pub still_seats : (vs ws : List SeatView) (c : LeafCall) → AreSeatsAt fleet table vs → CallAt fleet table vs c ws → AreSeatsAt fleet table ws
  still_seats vs ws c are h = record {
    count = ap (λ (us : List SeatView). length us) h.now ∙ (length-set vs c.leaf h.after ∙ are.count);
    few = are.few;
    each = λ leaf u is. by leaf u (after_set vs c.leaf h.after leaf u (ap (λ (us : List SeatView). slice_get us leaf) (sym h.now) ∙ is));
  }
    where
      seated : IsSeatAt fleet table c.leaf h.after
      seated = record {
        shared = h.shared;
        stands = h.stands;
        seat = h.seat;
        caller = subst (λ n. 0 < n) (sym h.same.id) (are.each c.leaf h.before h.was).caller;
      }

      by : (leaf : ℕ) (u : SeatView) → ((leaf ≡ c.leaf) × (h.after ≡ u)) ⊎ (slice_get vs leaf ≡ Some u) → IsSeatAt fleet table leaf u
      by leaf u (inl e) = subst (λ (n : ℕ). IsSeatAt fleet table n u) (sym e.0) (subst (λ (x : SeatView). IsSeatAt fleet table c.leaf x) e.1 seated)
      by leaf u (inr is) = are.each leaf u is

  -- calls, and calls behind them
  pub joined : (vs : List SeatView) (cs : List LeafCall) (us : List SeatView) (ds : List LeafCall) (ws : List SeatView) → CallsOn fleet table vs cs us → CallsOn fleet table us ds ws
      → CallsOn fleet table vs (cs ++ ds) ws
  joined vs [] us ds ws g h = subst (λ (x : List SeatView). CallsOn fleet table x ds ws) g h
  joined vs (c ∷ cs) us ds ws g h = (g.0, g.1, joined g.0 cs us ds ws g.2 h)
