-- The earliest of some first cells, one row more.
use Rattle.std.proofs.Common.{◌≡◌, ℕ, zero, suc, ◌<◌, true, false, List, [], ◌∷◌, ◌++◌, length, slice_index_or, Option, Some, None, if◌then◌else◌, refl, sym, ap, subst, ◌∙◌, arith}
use Rattle.std.specs.Ordering.{is_gt, ordering_reverse}
use Rattle.std.specs.declared.cmp.Ordering.{Ordering}
use Rattle.std.specs.declared.cmp.Ordering.TheVariants.{Less, Equal, Greater}
use Rattle.std.proofs.lemmas.Cmp.{upto, tied_itself}
use Rattle.std.proofs.lemmas.List.{get_or_append_left, get_or_at, length_push}
use Rattle.row_model.specs.declared.rows.Cell.{Cell}
use Rattle.row_blocks.specs.Headings.{Heading, heading_of, heading_cmp}
use Rattle.row_blocks.specs.Merging.{BeginsWith, IsEarliest, IsNotBefore, earlier, front}
use Rattle.row_blocks.proofs.Order.{heading_total}

-- what holds of each list of some, and of one more
pub each_push : (P : List Cell → Type 0) (rests : List (List Cell)) (rest : List Cell) → ((i : ℕ) → i < length rests → P (slice_index_or rests i [])) → P rest
    → (i : ℕ) → i < length (rests ++ rest ∷ []) → P (slice_index_or (rests ++ rest ∷ []) i [])
each_push P [] rest all p i within = let at : i ≡ 0 = omega arith in subst (λ k. P (slice_index_or (rest ∷ []) k [])) (sym at) p
each_push P (cells ∷ rests) rest all p zero within = all 0 (omega arith)
each_push P (cells ∷ rests) rest all p (suc i) within = each_push P rests rest (λ k inside. all (suc k) (omega arith)) p i (omega arith)

somewhere_before : (c : Cell) (rests : List (List Cell)) (rest : List Cell) → ((i : ℕ) × (i < length rests) × BeginsWith c (slice_index_or rests i []))
    → (i : ℕ) × (i < length (rests ++ rest ∷ [])) × BeginsWith c (slice_index_or (rests ++ rest ∷ []) i [])
somewhere_before c rests rest found =
    (found.0, omega (arith, length_push rests rest, found.1), subst (BeginsWith c) (sym (get_or_append_left rests (rest ∷ []) [] found.0 found.1)) found.2)

somewhere_here : (c : Cell) (rests : List (List Cell)) (rest : List Cell) → BeginsWith c rest
    → (i : ℕ) × (i < length (rests ++ rest ∷ [])) × BeginsWith c (slice_index_or (rests ++ rest ∷ []) i [])
somewhere_here c rests rest begins =
    (length rests, omega (arith, length_push rests rest), subst (BeginsWith c) (sym (get_or_at rests rest [] [] (length rests) refl)) begins)

not_greater : (o : Ordering) → is_gt o ≡ false → o ≡ Greater → ⊥
not_greater o least e = let both : true ≡ false = sym (ap is_gt e) ∙ least in absurd cc

to_false : (o : Ordering) → (o ≡ Greater → ⊥) → is_gt o ≡ false
to_false Less never = refl
to_false Equal never = refl
to_false Greater never = absurd (never refl)

-- an earlier heading comes before no cell that a later one does not come before
pub earlier_still : (g h : Heading) (cells : List Cell) → is_gt (heading_cmp g h) ≡ false → IsNotBefore h cells → IsNotBefore g cells
earlier_still g h [] up not_before = tt
earlier_still g h (c ∷ cells) up not_before =
    not_greater (heading_cmp g (heading_of c)) (upto heading_total g h (heading_of c) up (to_false (heading_cmp h (heading_of c)) not_before))

itself : (c : Cell) (cells : List Cell) → IsNotBefore (heading_of c) (c ∷ cells)
itself c cells e = let both : Equal ≡ Greater = sym (tied_itself heading_total (heading_of c)) ∙ e in absurd cc

back : (g h : Heading) → heading_cmp g h ≡ Greater → is_gt (heading_cmp h g) ≡ false
back g h e = ap is_gt (heading_total.antisymm h g ∙ ap ordering_reverse e)

pub earliest_more : (first : Option Cell) (rests : List (List Cell)) (rest : List Cell) → IsEarliest first rests → IsEarliest (earlier first (front rest)) (rests ++ rest ∷ [])
earliest_more None rests [] is = each_push (λ cells. cells ≡ []) rests [] is refl
earliest_more None rests (c ∷ cells) is = (
  somewhere_here c rests (c ∷ cells) refl,
  each_push (IsNotBefore (heading_of c)) rests (c ∷ cells) (λ i within. subst (IsNotBefore (heading_of c)) (sym (is i within)) tt) (itself c cells),
)
earliest_more (Some a) rests [] is = (somewhere_before a rests [] is.0, each_push (IsNotBefore (heading_of a)) rests [] is.1 tt)
earliest_more (Some a) rests (c ∷ cells) is = by (heading_cmp (heading_of a) (heading_of c)) refl
  where
    stays : (heading_cmp (heading_of a) (heading_of c) ≡ Greater → ⊥) → IsEarliest (Some a) (rests ++ (c ∷ cells) ∷ [])
    stays never = (somewhere_before a rests (c ∷ cells) is.0, each_push (IsNotBefore (heading_of a)) rests (c ∷ cells) is.1 never)

    by : (o : Ordering) → heading_cmp (heading_of a) (heading_of c) ≡ o → IsEarliest (if is_gt o then Some c else Some a) (rests ++ (c ∷ cells) ∷ [])
    by Less e = stays (λ f. let both : Less ≡ Greater = sym e ∙ f in absurd cc)
    by Equal e = stays (λ f. let both : Equal ≡ Greater = sym e ∙ f in absurd cc)
    by Greater e = (
      somewhere_here c rests (c ∷ cells) refl,
      each_push (IsNotBefore (heading_of c)) rests (c ∷ cells)
          (λ i within. earlier_still (heading_of c) (heading_of a) (slice_index_or rests i []) (back (heading_of a) (heading_of c) e) (is.1 i within)) (itself c cells),
    )
