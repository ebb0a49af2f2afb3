-- The history up to the last entry that the steward made by a moment: what later entries and later moments leave of it.
use Rattle.std.proofs.Common.{◌≡◌, ℕ, ◌<◌, ◌≤◌, Bool, true, false, List, [], ◌∷◌, ◌++◌, refl, sym, ap, ◌∙◌, arith}
use Rattle.std.specs.Prelude.{nat_le, if◌then◌else◌, ◌==◌, ◌&&◌, ◌||◌}
use Rattle.std.specs.List.{AllByRecursion, list_any}
use Rattle.std.proofs.lemmas.Bool.{false≢true, le-leb, lt-leb, leb-true, eq-eqb, eqb-true, and_from}
use Rattle.leaf_history.specs.History.{Entry}
use Rattle.crash_moments.specs.Watched.{is_made, cut, Between}

-- ---- whether the steward made an entry by a moment

-- one of the entries
abbrev any_made : ℕ → List Entry → Bool
any_made t = list_any (is_made t)

pub made_by : (t : ℕ) (e : Entry) → e.caller ≡ 0 → e.clock ≤ t → is_made t e ≡ true
made_by t e steward by_then = and_from (e.caller == 0) (nat_le e.clock t) (eq-eqb e.caller 0 steward) (le-leb e.clock t by_then)

-- not one of a later moment, nor a caller's
not_yet : (t from to : ℕ) (e : Entry) → t < from → (e.caller ≡ 0 → (from ≤ e.clock) × (e.clock ≤ to)) → is_made t e ≡ false
not_yet t from to e earlier within = by (e.caller == 0) refl
  where
    by : (b : Bool) → (e.caller == 0) ≡ b → (b && nat_le e.clock t) ≡ false
    by false is = refl
    by true is = let first = (within (eqb-true e.caller 0 is)).0 in lt-leb e.clock t (omega (arith, first, earlier))

-- what was made by a moment was made by a later one
made_on : (c d : ℕ) (e : Entry) → c ≤ d → is_made c e ≡ true → is_made d e ≡ true
made_on c d e later made = by (e.caller == 0) made
  where
    by : (b : Bool) → (b && nat_le e.clock c) ≡ true → (b && nat_le e.clock d) ≡ true
    by false never = never
    by true by_then = let before = leb-true e.clock c by_then in le-leb e.clock d (omega (arith, before, later))

-- and the other way round, where all of the steward's entries were made by the earlier moment
made_later : (c t : ℕ) (e : Entry) → c ≤ t → (e.caller ≡ 0 → (0 ≤ e.clock) × (e.clock ≤ c)) → is_made t e ≡ is_made c e
made_later c t e later within = by (e.caller == 0) refl
  where
    by : (b : Bool) → (e.caller == 0) ≡ b → (b && nat_le e.clock t) ≡ (b && nat_le e.clock c)
    by false is = refl
    by true is = let last = (within (eqb-true e.caller 0 is)).1 in le-leb e.clock t (omega (arith, last, later)) ∙ sym (le-leb e.clock c last)

-- ---- what comes later is cut off

pub none_yet : (t from to : ℕ) (more : List Entry) → t < from → Between from to more → any_made t more ≡ false
none_yet t from to [] earlier within = refl
none_yet t from to (e ∷ more) earlier within = rw (not_yet t from to e earlier within.0) (none_yet t from to more earlier within.1)

any_before : (t : ℕ) (xs more : List Entry) → any_made t more ≡ false → any_made t (xs ++ more) ≡ any_made t xs
any_before t [] more none = none
any_before t (x ∷ xs) more none = ap (λ (b : Bool). is_made t x || b) (any_before t xs more none)

nothing_cut : (t : ℕ) (more : List Entry) → any_made t more ≡ false → cut t more ≡ []
nothing_cut t [] none = refl
nothing_cut t (e ∷ more) none = rw none refl

pub cut_before : (t : ℕ) (xs more : List Entry) → any_made t more ≡ false → cut t (xs ++ more) ≡ cut t xs
cut_before t [] more none = nothing_cut t more none
cut_before t (x ∷ xs) more none =
    ap (λ (b : Bool). if b then x ∷ cut t (xs ++ more) else []) (any_before t (x ∷ xs) more none) ∙ ap (λ (l : List Entry). if any_made t (x ∷ xs) then x ∷ l else []) (cut_before t xs more none)

-- ---- once all of the steward's entries were made, a later moment cuts where the earlier one did

any_later : (c t : ℕ) (es : List Entry) → c ≤ t → Between 0 c es → any_made t es ≡ any_made c es
any_later c t [] later within = refl
any_later c t (e ∷ es) later within = rw (made_later c t e later within.0, any_later c t es later within.1) refl

pub cut_later : (c t : ℕ) (es : List Entry) → c ≤ t → Between 0 c es → cut t es ≡ cut c es
cut_later c t [] later within = refl
cut_later c t (e ∷ es) later within = rw (any_later c t (e ∷ es) later within, cut_later c t es later within.1) refl

-- ---- a history is its front up to the steward's last entry, and behind it entries that the steward did not make by
-- then

abbrev pub NotMade : ℕ → Entry → Type 0
NotMade t e = is_made t e ≡ false

none_of : (t : ℕ) (es : List Entry) → any_made t es ≡ false → AllByRecursion (NotMade t) es
none_of t [] none = tt
none_of t (e ∷ es) none = by (is_made t e) refl (none_of t es) none
  where
    by : (b : Bool) → is_made t e ≡ b → (any_made t es ≡ false → AllByRecursion (NotMade t) es) → (b || any_made t es) ≡ false → AllByRecursion (NotMade t) (e ∷ es)
    by true is rest none = absurd (false≢true (sym none))
    by false is rest none = (is, rest none)

pub cut_split : (t : ℕ) (es : List Entry) → (tail : List Entry) × (es ≡ cut t es ++ tail) × AllByRecursion (NotMade t) tail
cut_split t [] = ([], refl, tt)
cut_split t (e ∷ es) = by (any_made t (e ∷ es)) refl (cut_split t es)
  where
    by : (b : Bool) → any_made t (e ∷ es) ≡ b → ((tail : List Entry) × (es ≡ cut t es ++ tail) × AllByRecursion (NotMade t) tail)
        → (tail : List Entry) × (e ∷ es ≡ (if b then e ∷ cut t es else []) ++ tail) × AllByRecursion (NotMade t) tail
    by true any rest = (rest.0, ap (λ (l : List Entry). e ∷ l) rest.1, rest.2)
    by false any rest = (e ∷ es, refl, none_of t (e ∷ es) any)

-- ---- a history that ends in an entry of the steward is not cut

any_last : (t : ℕ) (es : List Entry) (e : Entry) → is_made t e ≡ true → any_made t (es ++ e ∷ []) ≡ true
any_last t [] e made = rw made refl
any_last t (x ∷ es) e made = by (is_made t x) (any_last t es e made)
  where
    by : (b : Bool) → any_made t (es ++ e ∷ []) ≡ true → (b || any_made t (es ++ e ∷ [])) ≡ true
    by true rest = refl
    by false rest = rest

pub cut_whole : (t : ℕ) (es : List Entry) (e : Entry) → is_made t e ≡ true → cut t (es ++ e ∷ []) ≡ es ++ e ∷ []
cut_whole t [] e made = rw (any_last t [] e made) refl
cut_whole t (x ∷ es) e made =
    ap (λ (b : Bool). if b then x ∷ cut t (es ++ e ∷ []) else []) (any_last t (x ∷ es) e made) ∙ ap (λ (l : List Entry). x ∷ l) (cut_whole t es e made)

-- ---- what passes a test among the entries up to then does so later, whatever came since

any_on : (c d : ℕ) (es more : List Entry) → c ≤ d → any_made c es ≡ true → any_made d (es ++ more) ≡ true
any_on c d [] more later any = absurd (false≢true any)
any_on c d (e ∷ es) more later any = by (is_made c e) refl any (any_on c d es more later)
  where
    either : (a b : Bool) → b ≡ true → (a || b) ≡ true
    either true b is = refl
    either false b is = is

    by : (b : Bool) → is_made c e ≡ b → (b || any_made c es) ≡ true → (any_made c es ≡ true → any_made d (es ++ more) ≡ true) → any_made d (e ∷ es ++ more) ≡ true
    by true made any rest = rw (made_on c d e later made) refl
    by false made any rest = either (is_made d e) (any_made d (es ++ more)) (rest any)

pub cut_on : (passes : Entry → Bool) (c d : ℕ) (es more : List Entry) → c ≤ d → list_any passes (cut c es) ≡ true → list_any passes (cut d (es ++ more)) ≡ true
cut_on passes c d [] more later has = absurd (false≢true has)
cut_on passes c d (e ∷ es) more later has = by (any_made c (e ∷ es)) refl has (cut_on passes c d es more later)
  where
    still : (a b b' : Bool) → (a || b) ≡ true → (b ≡ true → b' ≡ true) → (a || b') ≡ true
    still true b b' is rest = refl
    still false b b' is rest = rest is

    by : (b : Bool) → any_made c (e ∷ es) ≡ b → list_any passes (if b then e ∷ cut c es else []) ≡ true
        → (list_any passes (cut c es) ≡ true → list_any passes (cut d (es ++ more)) ≡ true) → list_any passes (cut d (e ∷ es ++ more)) ≡ true
    by true any has rest = rw (any_on c d (e ∷ es) more later any) (still (passes e) (list_any passes (cut c es)) (list_any passes (cut d (es ++ more))) has rest)
    by false any has rest = absurd (false≢true has)
