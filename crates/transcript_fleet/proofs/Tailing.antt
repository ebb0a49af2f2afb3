-- Tails: which leaves they pick is said by what is known of the leaves that they ask.
use Rattle.std.proofs.Common.{◌≡◌, ℕ, ◌<◌, Bool, List, [], ◌∷◌, refl, sym, ap, ap₂, subst, ◌∙◌, mod-lt, Option, Some, None, IfSome}
use Rattle.std.specs.Prelude.{if◌then◌else◌, option_and_then, option_to_list, is_some}
use Rattle.std.specs.List.{AllByRecursion, flat_map}
use Rattle.row_model.specs.declared.rows.Row.{Row}
use Rattle.leaf_model.specs.Groups.{groups}
use Rattle.leaf_history.specs.Calls.{Call}
use Rattle.leaf_history.specs.Calls as call
use Rattle.leaf_history.specs.History.{Entry}
use Rattle.tail_picks.specs.Room.{every_row, free_rows}
use Rattle.tail_picks.specs.Tails.{TryOf, Tails, TryGoesOn, pick_of, picked, sent_by, words_of}
use Rattle.printed_lines.specs.declared.line.Said.{Said}
use Rattle.printed_lines.specs.declared.line.Said.TheVariants.{Asked}
use Rattle.printed_lines.specs.declared.line.Line.TheVariants as line
use Rattle.transcript.specs.Pieces.{Piece, Called, Says}
use Rattle.transcript.specs.Shapes.{CallPiece}
use Rattle.transcript.specs.Histories.{BaseState, rows_before}
use Rattle.transcript.specs.Tails.{TailPieces, TryPieces, free_then, pieces_of_try, tells_added}
use Rattle.transcript_fleet.proofs.Lists.{All-parts}
use Rattle.transcript_fleet.proofs.Going.{IsWithin, of_call}

-- by another test that says the same, the tries are the same
module _ {R : Type 0} (free other : R → Option ℕ) (is_added : R → Bool) where
  -- of what is told in one try
  abbrev pub AgreeOn : TryOf R → Type 0
  AgreeOn t = (free t.one ≡ other t.one) × (option_and_then free t.two ≡ option_and_then other t.two)

  pub pick_same : (t : TryOf R) → AgreeOn t → pick_of free is_added t ≡ pick_of other is_added t
  pick_same t agree = ap₂ (λ (a b : Option ℕ). picked t.first a t.second b) agree.0 agree.1

  sent_same : (t : TryOf R) → AgreeOn t → sent_by free is_added t ≡ sent_by other is_added t
  sent_same t agree = ap (λ (pick : Option ℕ). option_and_then (λ r. if is_added r then pick else None) t.added) (pick_same t agree)

  pub tails_same : (n : ℕ) (words : List ℕ) (ts : List (TryOf R)) (sent : Option ℕ) → AllByRecursion AgreeOn ts → Tails free is_added n words ts sent → Tails other is_added n words ts sent
  tails_same n [] [] sent agree tails = tails
  tails_same n (u ∷ v ∷ words) (t ∷ ts) sent agree tails = (
    record { first = tails.0.first; second = tails.0.second; two = tails.0.two; add = tails.0.add ∙ ap (λ (o : Option ℕ). is_some o) (pick_same t agree.0) },
    subst (λ (o : Option ℕ). TryGoesOn free is_added o ts sent (Tails other is_added n words ts sent)) (sent_same t agree.0) (goes (λ more. tails_same n words ts sent agree.1 more) (sent_by free is_added t) tails.1),
  )
    where
      goes : (Tails free is_added n words ts sent → Tails other is_added n words ts sent) → (o : Option ℕ)
          → TryGoesOn free is_added o ts sent (Tails free is_added n words ts sent) → TryGoesOn free is_added o ts sent (Tails other is_added n words ts sent)
      goes further (Some leaf) ends = ends
      goes further None more = further more
  tails_same n [] (t ∷ ts) sent agree tails = absurd tails
  tails_same n (u ∷ []) ts sent agree tails = absurd tails
  tails_same n (u ∷ v ∷ words) [] sent agree tails = absurd tails

module _ (leaves table tables : ℕ) (f g : ℕ → BaseState) (histories : ℕ → List Entry) (same : (leaf : ℕ) → leaf < leaves → table < tables → f leaf ≡ g leaf) where
  -- ---- what one leaf told

  said_free : (leaf number : ℕ) (c : Call) (said : Said) → leaf < leaves → table < tables → free_then f histories (Called leaf table c number said) ≡ free_then g histories (Called leaf table c number said)
  said_free leaf number c Asked below within = ap (λ (x : BaseState). Some (free_rows (groups every_row (rows_before x (histories leaf) number)))) (same leaf below within)
  said_free leaf number c _ below within = refl

  free_same : (leaf : ℕ) (c : Call) (p : Piece) → leaf < leaves → CallPiece leaf table c p → IsWithin tables p → free_then f histories p ≡ free_then g histories p
  free_same leaf c p below is =
      of_call (λ (q : Piece). IsWithin tables q → free_then f histories q ≡ free_then g histories q) leaf table c p (λ n said within. said_free leaf n c said below within) (λ within. refl) is

  also_same : (leaf : ℕ) (o : Option Piece) → leaf < leaves → IfSome o (CallPiece leaf table (call.Ask every_row)) → AllByRecursion (IsWithin tables) (option_to_list o)
      → option_and_then (free_then f histories) o ≡ option_and_then (free_then g histories) o
  also_same leaf None below calls within = refl
  also_same leaf (Some p) below calls within = free_same leaf (call.Ask every_row) p below calls within.0

  abbrev Agrees : TryOf Piece → Type 0
  Agrees t = AgreeOn (free_then f histories) (free_then g histories) tells_added t

  try_agrees : (pick : Option ℕ) (rows : List Row) (t : TryOf Piece) → t.first < leaves → t.second < leaves → TryPieces table rows pick t → AllByRecursion (IsWithin tables) (pieces_of_try t) → Agrees t
  try_agrees pick rows t first second calls within = (
    free_same t.first (call.Ask every_row) t.one first calls.one within.0,
    also_same t.second t.two second calls.two (All-parts (IsWithin tables) (option_to_list t.two) (option_to_list t.added) within.1).0,
  )

  -- ---- all of them

  abbrev Picks : (ℕ → BaseState) → List Row → TryOf Piece → Type 0
  Picks h rows t = TryPieces table rows (pick_of (free_then h histories) tells_added t) t

  all_agree : (some : 0 < leaves) (rows : List Row) (words : List ℕ) (ts : List (TryOf Piece)) (sent : Option ℕ) → Tails (free_then f histories) tells_added leaves words ts sent → AllByRecursion (Picks f rows) ts
      → AllByRecursion (IsWithin tables) (flat_map pieces_of_try ts) → AllByRecursion Agrees ts
  all_agree some rows words [] sent tails calls within = tt
  all_agree some rows (u ∷ v ∷ words) (t ∷ ts) sent tails calls within =
      let parts = All-parts (IsWithin tables) (pieces_of_try t) (flat_map pieces_of_try ts) within in
      let first : t.first < leaves = subst (λ (n : ℕ). n < leaves) (sym tails.0.first) (mod-lt u some) in
      let second : t.second < leaves = subst (λ (n : ℕ). n < leaves) (sym tails.0.second) (mod-lt v some) in
      (try_agrees (pick_of (free_then f histories) tells_added t) rows t first second calls.0 parts.0, others (λ more. all_agree some rows words ts sent more calls.1 parts.1) (sent_by (free_then f histories) tells_added t) tails.1)
    where
      others : (Tails (free_then f histories) tells_added leaves words ts sent → AllByRecursion Agrees ts) → (o : Option ℕ)
          → TryGoesOn (free_then f histories) tells_added o ts sent (Tails (free_then f histories) tells_added leaves words ts sent) → AllByRecursion Agrees ts
      others further (Some leaf) ends = subst (AllByRecursion Agrees) (sym ends.0) tt
      others further None more = further more
  all_agree some rows [] (t ∷ ts) sent tails calls within = absurd tails
  all_agree some rows (u ∷ []) (t ∷ ts) sent tails calls within = absurd tails

  calls_same : (rows : List Row) (ts : List (TryOf Piece)) → AllByRecursion Agrees ts → AllByRecursion (Picks f rows) ts → AllByRecursion (Picks g rows) ts
  calls_same rows [] agree calls = tt
  calls_same rows (t ∷ ts) agree calls =
      (subst (λ (pick : Option ℕ). TryPieces table rows pick t) (pick_same (free_then f histories) (free_then g histories) tells_added t agree.0) calls.0, calls_same rows ts agree.1 calls.1)

  pub tail_same : (key : ℕ) (rows : List Row) (pieces : List Piece) → AllByRecursion (IsWithin tables) pieces → TailPieces leaves f histories key table rows pieces → TailPieces leaves g histories key table rows pieces
  tail_same key rows pieces within t =
      let here = subst (AllByRecursion (IsWithin tables)) t.are within in
      let agree = all_agree t.some rows (words_of key) t.tries t.sent t.tails t.calls (All-parts (IsWithin tables) (flat_map pieces_of_try t.tries) (Says (line.Tailed t.sent) ∷ []) here).0 in
      record {
        some = t.some;
        tries = t.tries;
        sent = t.sent;
        tails = tails_same (free_then f histories) (free_then g histories) tells_added leaves (words_of key) t.tries t.sent agree t.tails;
        calls = calls_same rows t.tries agree t.calls;
        are = t.are;
      }
