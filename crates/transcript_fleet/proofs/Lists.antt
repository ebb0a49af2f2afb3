-- Lists: of which each element has a property; places beside one another; and what was played.
use Rattle.std.proofs.Common.{◌≡◌, ℕ, ◌<◌, ◌==◌, Bool, true, false, List, [], ◌∷◌, ◌++◌, length, map, refl, sym, ap, subst, ◌∙◌, Some}
use Rattle.std.specs.Prelude.{slice_get, slice_set}
use Rattle.std.specs.List.{AllByRecursion, flat_map}
use Rattle.std.proofs.lemmas.Bool.{eqb-true, eqb-false}
use Rattle.std.proofs.lemmas.Grind.{flat_map-append}
use Rattle.std.proofs.lemmas.List.{append-nil}
use Rattle.transcript.specs.Pieces.{Played, PlayedItem, One, Burst, pieces_in, plays_in, plays_of}
use Rattle.transcript_leaf.proofs.Backs.{plays_ones}
use Rattle.transcript_leaf.proofs.Lists.{element_at, get_set_other, get_set_same, same_some, within}

-- ---- each element

pub All-append : {X : Type 0} (P : X → Type 0) (xs ys : List X) → AllByRecursion P xs → AllByRecursion P ys → AllByRecursion P (xs ++ ys)
All-append P [] ys g h = h
All-append P (x ∷ xs) ys g h = (g.0, All-append P xs ys g.1 h)

pub All-weaken : {X : Type 0} (P Q : X → Type 0) → ((x : X) → P x → Q x) → (xs : List X) → AllByRecursion P xs → AllByRecursion Q xs
All-weaken P Q f [] h = tt
All-weaken P Q f (x ∷ xs) h = (f x h.0, All-weaken P Q f xs h.1)

-- what holds of all holds of the first and of the others
pub All-parts : {X : Type 0} (P : X → Type 0) (xs ys : List X) → AllByRecursion P (xs ++ ys) → AllByRecursion P xs × AllByRecursion P ys
All-parts P [] ys h = (tt, h)
All-parts P (x ∷ xs) ys h = let others = All-parts P xs ys h.1 in ((h.0, others.0), others.1)

-- ---- places

-- what stands at that place in another list of the same length
pub also_at : {X Y : Type 0} (xs : List X) (ys : List Y) (i : ℕ) (x : X) → length ys ≡ length xs → slice_get xs i ≡ Some x → (y : Y) × (slice_get ys i ≡ Some y)
also_at xs ys i x same at = element_at ys i (subst (λ (n : ℕ). i < n) (sym same) (within xs i x at))

-- two that stand at one place are one
pub one_at : {X : Type 0} (xs : List X) (i : ℕ) (x y : X) → slice_get xs i ≡ Some x → slice_get xs i ≡ Some y → x ≡ y
one_at xs i x y at_x at_y = same_some x y (sym at_x ∙ at_y)

-- a relation that each has to itself, where one of a list is set to another
pub touched_each : {X : Type 0} (P : X → X → Type 0) (xs : List X) (here : ℕ) (x y : X) → slice_get xs here ≡ Some x → P x y → ((z : X) → P z z)
    → (i : ℕ) (a b : X) → slice_get xs i ≡ Some a → slice_get (slice_set xs here y) i ≡ Some b → P a b
touched_each P xs here x y at there itself i a b at_a at_b = by (here == i) refl
  where
    by : (t : Bool) → (here == i) ≡ t → P a b
    by true e =
        let same : here ≡ i = eqb-true here i e in
        let a_is : x ≡ a = one_at xs i x a (subst (λ n. slice_get xs n ≡ Some x) same at) at_a in
        let b_is : y ≡ b = one_at (slice_set xs here y) i y b (subst (λ n. slice_get (slice_set xs here y) n ≡ Some y) same (get_set_same xs here x y at)) at_b in
        subst (λ z. P z b) a_is (subst (λ z. P x z) b_is there)
    by false e =
        let a_is : a ≡ b = one_at xs i a b at_a (sym (get_set_other xs here i y (eqb-false here i e)) ∙ at_b) in
        subst (λ z. P a z) a_is (itself a)

-- ---- commands

-- those of one item more
pub plays-snoc : (items : List PlayedItem) (x : PlayedItem) → plays_in (items ++ x ∷ []) ≡ plays_in items ++ plays_of x
plays-snoc items x = flat_map-append plays_of items (x ∷ []) ∙ ap (λ (ps : List Played). plays_in items ++ ps) (append-nil (plays_of x))

pub plays-append : (items others : List PlayedItem) → plays_in (items ++ others) ≡ plays_in items ++ plays_in others
plays-append items others = flat_map-append plays_of items others

-- a lane more
pub plays_of_lanes : (lanes : List (List Played)) (lane : List Played) → plays_in (Burst (lanes ++ lane ∷ []) ∷ []) ≡ plays_in (Burst lanes ∷ []) ++ lane
plays_of_lanes lanes lane =
    append-nil (flat_map (λ (l : List Played). l) (lanes ++ lane ∷ []))
    ∙ (flat_map-append (λ (l : List Played). l) lanes (lane ∷ [])
    ∙ (ap (λ (ps : List Played). flat_map (λ (l : List Played). l) lanes ++ ps) (append-nil lane)
    ∙ ap (λ (ps : List Played). ps ++ lane) (sym (append-nil (flat_map (λ (l : List Played). l) lanes)))))

-- the same commands, as a burst and one after another
pub plays_in_turn : (items : List PlayedItem) (lanes : List (List Played))
    → plays_in (items ++ map One (flat_map (λ (l : List Played). l) lanes)) ≡ plays_in (items ++ Burst lanes ∷ [])
plays_in_turn items lanes =
    plays-append items (map One (flat_map (λ (l : List Played). l) lanes))
    ∙ (ap (λ (ps : List Played). plays_in items ++ ps) (plays_ones (flat_map (λ (l : List Played). l) lanes))
    ∙ sym (plays-snoc items (Burst lanes)))

pub pieces-append : (ps qs : List Played) → pieces_in (ps ++ qs) ≡ pieces_in ps ++ pieces_in qs
pieces-append ps qs = flat_map-append (λ (p : Played). p.pieces) ps qs
