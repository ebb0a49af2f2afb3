-- Leaves that are asked by halves.
use Rattle.std.proofs.Common.{◌≡◌, ℕ, suc, ◌+◌, ◌<◌, List, [], ◌∷◌, ◌++◌, length, take, drop, Some, refl, sym, ap, ◌∙◌, subst, arith, length-append}
use Rattle.std.specs.Prelude.{slice_get, slice_set}
use Rattle.leaf_model.specs.declared.queries.Query.{Query}
use Rattle.leaf_table.specs.declared.replies.Reply.{Reply}
use Rattle.leaf_table.specs.Turns.{Shared}
use Rattle.leaf_table.specs.Calls.{SeatView}
use Rattle.aggregator.specs.Asks.{IsSeatAt, AreSeatsAt, IsAsked, Asked}
use Rattle.aggregator.specs.Halves.{AreSeatsFrom, MayAsk}

next_leaf : (leaf n : ℕ) → leaf + suc n ≡ suc leaf + n
next_leaf leaf n = omega arith

same_leaf : (leaf : ℕ) → leaf + 0 ≡ leaf
same_leaf leaf = omega arith

-- as many elements as a list has, written back over all of them
over_all : {A : Type 0} (xs ys : List A) → length xs ≡ length ys → xs ++ drop (length xs) ys ≡ xs
over_all [] [] same = refl
over_all [] (y ∷ ys) same = absurd (omega (arith, same))
over_all (x ∷ xs) [] same = absurd (omega (arith, same))
over_all (x ∷ xs) (y ∷ ys) same = ap (λ zs. x ∷ zs) (over_all xs ys (omega (arith, same)))

take_whole : {A : Type 0} (xs : List A) → take (length xs) xs ≡ xs
take_whole [] = refl
take_whole (x ∷ xs) = ap (λ zs. x ∷ zs) (take_whole xs)

written_back : {A : Type 0} (xs ys : List A) (n : ℕ) → length xs ≡ length ys → n ≡ length ys → take n (xs ++ drop (length xs) ys) ≡ xs
written_back {A} xs ys n same size = ap (λ (zs : List A). take n zs) (over_all xs ys same) ∙ (ap (λ (k : ℕ). take k xs) (size ∙ sym same) ∙ take_whole xs)

module _ (fleet : List (List Shared)) (table : ℕ) where
  pub front_seats : (leaf : ℕ) (vs us : List SeatView) → AreSeatsFrom fleet table leaf (vs ++ us) → AreSeatsFrom fleet table leaf vs
  front_seats leaf [] us are = tt
  front_seats leaf (v ∷ vs) us are = (are.0, front_seats (suc leaf) vs us are.1)

  pub back_seats : (leaf : ℕ) (vs us : List SeatView) → AreSeatsFrom fleet table leaf (vs ++ us) → AreSeatsFrom fleet table (leaf + length vs) us
  back_seats leaf [] us are = subst (λ (n : ℕ). AreSeatsFrom fleet table n us) (sym (same_leaf leaf)) are
  back_seats leaf (v ∷ vs) us are = subst (λ (n : ℕ). AreSeatsFrom fleet table n us) (sym (next_leaf leaf (length vs))) (back_seats (suc leaf) vs us are.1)

  pub front_may : (leaf : ℕ) (vs us all : List SeatView) (rs replies : List Reply) → all ≡ vs ++ us → length rs ≡ length vs → MayAsk fleet table leaf all replies → MayAsk fleet table leaf vs rs
  front_may leaf vs us all rs replies is room may = record {
    seats_are = front_seats leaf vs us (subst (AreSeatsFrom fleet table leaf) is may.seats_are);
    room = room;
    few = omega (arith, ap (λ (xs : List SeatView). length xs) is, length-append vs us, may.few);
  }

  pub back_may : (leaf : ℕ) (vs us all : List SeatView) (rs replies : List Reply) → all ≡ vs ++ us → length rs ≡ length us → MayAsk fleet table leaf all replies → MayAsk fleet table (leaf + length vs) us rs
  back_may leaf vs us all rs replies is room may = record {
    seats_are = back_seats leaf vs us (subst (AreSeatsFrom fleet table leaf) is may.seats_are);
    room = room;
    few = omega (arith, ap (λ (xs : List SeatView). length xs) is, length-append vs us, may.few);
  }

  -- seats that are known by their places stand one after another
  pub seats_from : (leaf : ℕ) (vs : List SeatView) → ((i : ℕ) (v : SeatView) → slice_get vs i ≡ Some v → IsSeatAt fleet table (leaf + i) v) → AreSeatsFrom fleet table leaf vs
  seats_from leaf [] each = tt
  seats_from leaf (v ∷ vs) each = (
    subst (λ (n : ℕ). IsSeatAt fleet table n v) (same_leaf leaf) (each 0 v refl),
    seats_from (suc leaf) vs (λ i u is. subst (λ (n : ℕ). IsSeatAt fleet table n u) (next_leaf leaf i) (each (suc i) u is)),
  )

  -- two halves, of which the second begins behind the first
  pub both_asked : (q : Query) (leaf : ℕ) (vs us : List SeatView) (rs ps : List Reply) (vs' us' : List SeatView)
      → Asked q fleet table leaf vs rs vs' → Asked q fleet table (leaf + length vs) us ps us' → Asked q fleet table leaf (vs ++ us) (rs ++ ps) (vs' ++ us')
  both_asked q leaf [] us [] ps [] us' g h = subst (λ (n : ℕ). Asked q fleet table n us ps us') (same_leaf leaf) h
  both_asked q leaf (v ∷ vs) us (r ∷ rs) ps (w ∷ ws) us' g h =
      (g.0, both_asked q (suc leaf) vs us rs ps ws us' g.1 (subst (λ (n : ℕ). Asked q fleet table n us ps us') (next_leaf leaf (length vs)) h))
  both_asked q leaf [] us [] ps (w ∷ ws) us' g h = absurd g
  both_asked q leaf [] us (r ∷ rs) ps ws us' g h = absurd g
  both_asked q leaf (v ∷ vs) us [] ps ws us' g h = absurd g
  both_asked q leaf (v ∷ vs) us (r ∷ rs) ps [] us' g h = absurd g

  -- the one leaf there is
  pub one_asked : (q : Query) (leaf : ℕ) (vs : List SeatView) (rs : List Reply) (v w : SeatView) (r : Reply)
      → length vs < 2 → length rs ≡ length vs → slice_get vs 0 ≡ Some v → IsAsked q fleet table leaf v r w
      → Asked q fleet table leaf vs (slice_set rs 0 r) (slice_set vs 0 w)
  one_asked q leaf [] rs v w r few room is h = absurd cc
  one_asked q leaf (u ∷ []) [] v w r few room is h = absurd (omega (arith, room))
  one_asked q leaf (u ∷ []) (p ∷ []) v w r few room is h = let same : v ≡ u = cc in (subst (λ (x : SeatView). IsAsked q fleet table leaf x r w) same h, tt)
  one_asked q leaf (u ∷ []) (p ∷ o ∷ rs) v w r few room is h = absurd (omega (arith, room))
  one_asked q leaf (u ∷ x ∷ vs) rs v w r few room is h = absurd (omega (arith, few))

  -- a seat that stands first is one at the first leaf
  pub first_seat : (leaf : ℕ) (vs : List SeatView) (v : SeatView) → slice_get vs 0 ≡ Some v → AreSeatsFrom fleet table leaf vs → IsSeatAt fleet table leaf v
  first_seat leaf [] v is are = absurd cc
  first_seat leaf (u ∷ vs) v is are = let same : u ≡ v = cc in subst (λ (x : SeatView). IsSeatAt fleet table leaf x) same are.0

  -- seats at all leaves may be asked
  pub all_may : (vs : List SeatView) (replies : List Reply) → AreSeatsAt fleet table vs → length replies ≡ length vs → MayAsk fleet table 0 vs replies
  all_may vs replies are room = record {
    seats_are = seats_from 0 vs (λ i v is. subst (λ (n : ℕ). IsSeatAt fleet table n v) (from_zero i) (are.each i v is));
    room = room;
    few = omega (arith, are.count, are.few);
  }
    where
      from_zero : (i : ℕ) → i ≡ 0 + i
      from_zero i = omega arith

  pub asked_replies : (q : Query) (leaf : ℕ) (vs : List SeatView) (rs : List Reply) (ws : List SeatView) → Asked q fleet table leaf vs rs ws → length rs ≡ length vs
  asked_replies q leaf [] [] [] h = refl
  asked_replies q leaf (v ∷ vs) (r ∷ rs) (w ∷ ws) h = let further = asked_replies q (suc leaf) vs rs ws h.1 in omega (arith, further)
  asked_replies q leaf [] [] (w ∷ ws) h = absurd h
  asked_replies q leaf [] (r ∷ rs) ws h = absurd h
  asked_replies q leaf (v ∷ vs) [] ws h = absurd h
  asked_replies q leaf (v ∷ vs) (r ∷ rs) [] h = absurd h

  -- what the leaves replied stands in all of the room for it
  pub told_back : (q : Query) (vs : List SeatView) (told : List Reply) (ws : List SeatView) (room : List Reply) (n : ℕ)
      → Asked q fleet table 0 vs told ws → length room ≡ length vs → n ≡ length room → take n (told ++ drop (length told) room) ≡ told
  told_back q vs told ws room n asked size count = written_back told room n (asked_replies q 0 vs told ws asked ∙ sym size) count
