-- What calls tell, one after the other, and what stays as it was.
use Rattle.std.proofs.Common.{◌≡◌, ℕ, zero, suc, ◌<◌, ◌≤◌, Bool, true, false, List, [], ◌∷◌, ◌++◌, Some, refl, sym, ap, subst, ◌∙◌, arith, inl, inr, append_assoc, append-nil}
use Rattle.region_layout.specs.Region.{reads}
use Rattle.std.specs.Prelude.{◌||◌, slice_get, bytes_eq, if◌then◌else◌}
use Rattle.std.specs.List.{AllByRecursion, AllZip, list_any}
use Rattle.std.proofs.lemmas.Bool.{cases_lt, or_left, or_right}
use Rattle.std.proofs.lemmas.List.Folds.{list_any-append}
use Rattle.berth_face.specs.Berth.{Meaning}
use Rattle.berth_face.proofs.Moments.{passes_on}
use Rattle.leaf_history.specs.History.{HistoryState, Entry, after}
use Rattle.crash_moments.specs.Left.{NamedStates, Left}
use Rattle.crash_moments.specs.Watched.{Watched, Between, cut, state_then, is_opening, was_opened, others_then, by_name, tables_then}
use Rattle.crash_moments.specs.Told.{SeenMore, Told}
use Rattle.crash_moments.proofs.Cuts.{made_by, none_yet, cut_before, cut_later, cut_whole, cut_on}

-- ---- what is cut alike stands alike

-- the same tables, and at the two moments the same of each history
abbrev AreCutAlike : ℕ → ℕ → List Watched → List Watched → Type 0
AreCutAlike t c = AllZip (λ (x y : Watched). (y.name ≡ x.name) × (y.base ≡ x.base) × (cut t y.seen ≡ cut c x.seen))

alike_opened : (t c : ℕ) (xs ys : List Watched) → AreCutAlike t c xs ys → was_opened t ys ≡ was_opened c xs
alike_opened t c [] [] alike = refl
alike_opened t c [] (y ∷ ys) alike = absurd alike
alike_opened t c (x ∷ xs) [] alike = absurd alike
alike_opened t c (x ∷ xs) (y ∷ ys) alike =
    ap (λ (l : List Entry). list_any is_opening l || was_opened t ys) alike.0.2 ∙ ap (λ (b : Bool). list_any is_opening (cut c x.seen) || b) (alike_opened t c xs ys alike.1)

alike_named : (others : NamedStates) (t c : ℕ) (xs ys : List Watched) → AreCutAlike t c xs ys → by_name (state_then t) others ys ≡ by_name (state_then c) others xs
alike_named others t c [] [] alike = refl
alike_named others t c [] (y ∷ ys) alike = absurd alike
alike_named others t c (x ∷ xs) [] alike = absurd alike
alike_named others t c (x ∷ xs) (y ∷ ys) alike = by y.name y.base (cut t y.seen) alike.0.0 alike.0.1 alike.0.2 (alike_named others t c xs ys alike.1)
  where
    by : (name : List ℕ) (base : HistoryState) (seen : List Entry) → name ≡ x.name → base ≡ x.base → seen ≡ cut c x.seen → by_name (state_then t) others ys ≡ by_name (state_then c) others xs
        → (let one : NamedStates = λ (n : List ℕ). if bytes_eq n name then after true base seen else by_name (state_then t) others ys n in one ≡ by_name (state_then c) others (x ∷ xs))
    by name base seen n b s rest = rw (n, b, s, rest) refl

alike_tables : (others : NamedStates) (t c : ℕ) (xs ys : List Watched) → AreCutAlike t c xs ys → tables_then others t ys ≡ tables_then others c xs
alike_tables others t c xs ys alike =
    ap (λ (b : Bool). by_name (state_then t) (others_then b others) ys) (alike_opened t c xs ys alike) ∙ alike_named (others_then (was_opened c xs) others) t c xs ys alike

-- ---- a moment before all that was learned, and one after all that was made

cut_alike : (t from to : ℕ) (xs ys : List Watched) → t < from → SeenMore from to xs ys → AreCutAlike t t xs ys
cut_alike t from to [] [] earlier more = tt
cut_alike t from to [] (y ∷ ys) earlier more = absurd more
cut_alike t from to (x ∷ xs) [] earlier more = absurd more
cut_alike t from to (x ∷ xs) (y ∷ ys) earlier more =
    let added = more.0.2 in
    ((more.0.0, more.0.1, ap (cut t) added.1 ∙ cut_before t x.seen added.0 (none_yet t from to added.0 earlier added.2)), cut_alike t from to xs ys earlier more.1)

-- at a moment before all that was learned, each name stood where it stood
pub same_then : (others : NamedStates) (t from to : ℕ) (xs ys : List Watched) → t < from → SeenMore from to xs ys → tables_then others t ys ≡ tables_then others t xs
same_then others t from to xs ys earlier more = alike_tables others t t xs ys (cut_alike t from to xs ys earlier more)

later_alike : (c t : ℕ) (ws : List Watched) → c ≤ t → AllByRecursion (λ (w : Watched). Between 0 c w.seen) ws → AreCutAlike t c ws ws
later_alike c t [] later none = tt
later_alike c t (w ∷ ws) later none = ((refl, refl, cut_later c t w.seen later none.0), later_alike c t ws later none.1)

-- once all of the steward's entries were made, no later moment adds one
pub then_now : (others : NamedStates) (c t : ℕ) (ws : List Watched) → c ≤ t → AllByRecursion (λ (w : Watched). Between 0 c w.seen) ws → tables_then others t ws ≡ tables_then others c ws
then_now others c t ws later none = alike_tables others t c ws ws (later_alike c t ws later none)

-- ---- what each seat has seen

-- nothing is learned
pub none_more : (a b : ℕ) (ws : List Watched) → SeenMore a b ws ws
none_more a b [] = tt
none_more a b (w ∷ ws) = ((refl, refl, ([], sym (append-nil w.seen), tt)), none_more a b ws)

pub between_wider : (a from to b : ℕ) (es : List Entry) → a ≤ from → to ≤ b → Between from to es → Between a b es
between_wider a from to b [] low high within = tt
between_wider a from to b (e ∷ es) low high within =
    (λ steward. (omega (arith, (within.0 steward).0, low), omega (arith, (within.0 steward).1, high)), between_wider a from to b es low high within.1)

pub between_append : (a b : ℕ) (xs ys : List Entry) → Between a b xs → Between a b ys → Between a b (xs ++ ys)
between_append a b [] ys first second = second
between_append a b (x ∷ xs) ys first second = (first.0, between_append a b xs ys first.1 second)

pub more_on : (a b c : ℕ) (xs ys zs : List Watched) → a ≤ b → b ≤ c → SeenMore a b xs ys → SeenMore b c ys zs → SeenMore a c xs zs
more_on a b c [] [] [] ab bc first second = tt
more_on a b c [] [] (z ∷ zs) ab bc first second = absurd second
more_on a b c [] (y ∷ ys) zs ab bc first second = absurd first
more_on a b c (x ∷ xs) [] zs ab bc first second = absurd first
more_on a b c (x ∷ xs) (y ∷ ys) [] ab bc first second = absurd second
more_on a b c (x ∷ xs) (y ∷ ys) (z ∷ zs) ab bc first second =
    let one = first.0.2 in
    let two = second.0.2 in (
      (
        second.0.0 ∙ first.0.0,
        second.0.1 ∙ first.0.1,
        (
          one.0 ++ two.0,
          two.1 ∙ ap (λ (l : List Entry). l ++ two.0) one.1 ∙ append_assoc x.seen one.0 two.0,
          between_append a c one.0 two.0 (between_wider a a b c one.0 (omega arith) bc one.2) (between_wider a b c c two.0 ab (omega arith) two.2),
        ),
      ),
      more_on a b c xs ys zs ab bc first.1 second.1,
    )

-- ---- what two calls tell is told of both

pub told_join : (others : NamedStates) (xs ys zs : List Watched) (a b c : Meaning) → Told others xs ys a b → Told others ys zs b c → Told others xs zs a c
told_join others xs ys zs a b c first second = record {
  passes = passes_on a b c first.passes second.passes;
  more = more_on a.clock b.clock c.clock xs ys zs first.passes.later second.passes.later first.more second.more;
  left = λ t p from to left. elim (cases_lt t b.clock) [
    | inl before ↦
        subst (λ (tables : NamedStates). Left reads tables p) (sym (same_then others t b.clock c.clock ys zs before second.more))
        (first.left t p from (omega (arith, before)) ((second.passes.past t p (omega (arith, before))).0 left))
    | inr not_before ↦ second.left t p not_before to left
  ];
}

-- ---- what was opened

-- what was opened stays opened
pub opened_more : (a b c d : ℕ) (xs ys : List Watched) → c ≤ d → SeenMore a b xs ys → was_opened c xs ≡ true → was_opened d ys ≡ true
opened_more a b c d [] [] later more opened = opened
opened_more a b c d [] (y ∷ ys) later more opened = absurd more
opened_more a b c d (x ∷ xs) [] later more opened = absurd more
opened_more a b c d (x ∷ xs) (y ∷ ys) later more opened = both (list_any is_opening (cut c x.seen)) (was_opened c xs) opened here (opened_more a b c d xs ys later more.1)
  where
    here : list_any is_opening (cut c x.seen) ≡ true → list_any is_opening (cut d y.seen) ≡ true
    here opens = subst (λ (es : List Entry). list_any is_opening (cut d es) ≡ true) (sym more.0.2.1) (cut_on is_opening c d x.seen more.0.2.0 later opens)

    both : (h t : Bool) → (h || t) ≡ true → (h ≡ true → list_any is_opening (cut d y.seen) ≡ true) → (t ≡ true → was_opened d ys ≡ true)
        → (list_any is_opening (cut d y.seen) || was_opened d ys) ≡ true
    both true t is at_head in_rest = or_left (list_any is_opening (cut d y.seen)) (was_opened d ys) (at_head refl)
    both false t is at_head in_rest = or_right (list_any is_opening (cut d y.seen)) (was_opened d ys) (in_rest is)

some_is : (v w : Watched) → Some v ≡ Some w → v ≡ w
some_is v w at = cc

-- a table whose last entry is its opening, by the steward and by this moment
pub opened_by : (t place : ℕ) (w : Watched) (es : List Entry) (e : Entry) (ws : List Watched)
    → slice_get ws place ≡ Some w → w.seen ≡ es ++ e ∷ [] → e.caller ≡ 0 → e.clock ≤ t → is_opening e ≡ true → was_opened t ws ≡ true
opened_by t place w es e [] at seen steward made opening = cc
opened_by t zero w es e (v ∷ ws) at seen steward made opening =
    let whole : cut t w.seen ≡ es ++ e ∷ [] = ap (cut t) seen ∙ cut_whole t es e (made_by t e steward made) in
    let last : list_any is_opening (es ++ e ∷ []) ≡ true =
    list_any-append is_opening es (e ∷ []) ∙ or_right (list_any is_opening es) (list_any is_opening (e ∷ [])) (or_left (is_opening e) (list_any is_opening []) opening) in
    let opens : list_any is_opening (cut t v.seen) ≡ true = ap (λ (x : Watched). list_any is_opening (cut t x.seen)) (some_is v w at) ∙ ap (list_any is_opening) whole ∙ last in
    or_left (list_any is_opening (cut t v.seen)) (was_opened t ws) opens
opened_by t (suc place) w es e (v ∷ ws) at seen steward made opening =
    or_right (list_any is_opening (cut t v.seen)) (was_opened t ws) (opened_by t place w es e ws at seen steward made opening)
