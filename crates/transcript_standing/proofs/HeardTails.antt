-- What is heard of a table from the pieces of a tail.
use Rattle.std.proofs.Common.{◌≡◌, ℕ, ◌==◌, ◌&&◌, Bool, true, false, List, [], ◌∷◌, ◌++◌, refl, sym, ap, subst, ◌∙◌, append_assoc}
use Rattle.std.specs.Prelude.{Option, Some, None, IfSome, is_some, option_and_then, option_to_list, if◌then◌else◌}
use Rattle.std.specs.List.{AllByRecursion, flat_map}
use Rattle.row_model.specs.declared.rows.Row.{Row}
use Rattle.leaf_model.specs.declared.queries.Query.{Query}
use Rattle.leaf_history.specs.Calls as call
use Rattle.leaf_history.specs.History.{Entry}
use Rattle.tail_picks.specs.Room.{every_row}
use Rattle.tail_picks.specs.Tails.{TryOf, Tails, TryGoesOn, pick_of, words_of}
use Rattle.printed_lines.specs.declared.line.Said.{Said}
use Rattle.printed_lines.specs.declared.line.Said.TheVariants.{Added}
use Rattle.printed_lines.specs.declared.line.Line.TheVariants as line
use Rattle.standing_feed.specs.declared.meant.Meant.{Meant}
use Rattle.standing_feed.specs.declared.meant.Meant.TheVariants as meant
use Rattle.standing_feed.specs.declared.meant.Now.TheVariants as now
use Rattle.standing_feed.specs.Hearing.{CallsLeft, TablePlace, fed_by_call, fed_by_tail, fed_called, heard_from, is_at, left_by_tail, left_called, no_call_yet, rows_left, some_when}
use Rattle.transcript.specs.Pieces.{Piece, Called, Says}
use Rattle.transcript.specs.Shapes.{CallPiece}
use Rattle.transcript.specs.Histories.{BaseState}
use Rattle.transcript.specs.Tails.{TailPieces, TryPieces, free_then, pieces_of_try, tells_added}
use Rattle.transcript_standing.proofs.HeardPieces.{Hears, IsSaidOf, Uses, call_elsewhere, call_here, hears_more, told_by}

-- ---- where a tail stands

-- a tail with these rows prints, and behind it those are left
abbrev tail_calls : Option (List Row) → List Meant → CallsLeft
tail_calls left more = record { current = now.Tail left; rest = more }

-- The calls that are left are those of a tail with these rows, whether it has a line of the table yet or none, and then
-- these.
record InTail (left : Option (List Row)) (more : List Meant) (calls : CallsLeft) : Type 0 where
  feeds : (told : Said) → fed_called calls told ≡ fed_by_tail left told
  moves : (told : Said) → left_called calls told ≡ tail_calls (rows_left left told) more
  ends : left_by_tail calls ≡ no_call_yet more

tail_begins : (left : Option (List Row)) (more : List Meant) → InTail left more (no_call_yet (meant.Tail left ∷ more))
tail_begins left more = record { feeds = λ told. refl; moves = λ told. refl; ends = refl }

tail_goes : (left : Option (List Row)) (more : List Meant) → InTail left more (tail_calls left more)
tail_goes left more = record { feeds = λ told. refl; moves = λ told. refl; ends = refl }

-- ---- what its calls are told

no_add : (q : Query) (rows : List Row) → Some (call.Ask q) ≡ Some (call.Add rows) → ⊥
no_add q rows is = cc

-- an ask leaves the rows of the tail
ask_told : (left : Option (List Row)) (q : Query) (told : Said) → IsSaidOf (Some (call.Ask q)) told → (fed_by_tail left told ≡ fed_by_call meant.Ask told) × (rows_left left told ≡ left)
ask_told left q (Added kept late) is = absurd (no_add q is.0 is.1)
ask_told None q _ is = (refl, refl)
ask_told (Some rows) q _ is = (refl, refl)

add_feeds : (rows : List Row) (told : Said) → fed_by_tail (Some rows) told ≡ fed_by_call (meant.Add rows) told
add_feeds rows (Added kept late) = refl
add_feeds rows _ = refl

-- and so does an add that was refused
add_keeps : (rows : List Row) (piece : Piece) → tells_added piece ≡ false → rows_left (Some rows) (told_by piece) ≡ Some rows
add_keeps rows (Called leaf table c number (Added kept late)) none = absurd cc
add_keeps rows (Called leaf table c number _) none = refl
add_keeps rows _ none = refl

-- ---- pieces of it

-- Of a tail of this table: `left` is what it has for the table that is heard, which is its rows where that is the same.
module _ (p : TablePlace) (table : ℕ) (rows : List Row) (left : Option (List Row)) (here : (leaf : ℕ) → is_at p leaf table ≡ true → left ≡ Some rows) (more : List Meant) where
  -- where a tail prints on with these rows, the pieces end it
  abbrev Ends : Option (List Row) → List Piece → Type 0
  Ends l ps = (calls : CallsLeft) → InTail l more calls → Hears p calls ps (no_call_yet more)

  ask_on : (leaf : ℕ) (piece : Piece) (ps : List Piece) → CallPiece leaf table (call.Ask every_row) piece → Ends left ps → Ends left (piece ∷ ps)
  ask_on leaf piece ps is further calls still = by (is_at p leaf table) refl
    where
      by : (b : Bool) → is_at p leaf table ≡ b → Hears p calls (piece ∷ ps) (no_call_yet more)
      by true e =
          let told = ask_told left every_row (told_by piece) in
          hears_more
          (call_here is e (λ said. (still.feeds (told_by piece) ∙ (told said).0, still.moves (told_by piece) ∙ ap (λ (l : Option (List Row)). tail_calls l more) (told said).1)))
          (further (tail_calls left more) (tail_goes left more))
      by false e = hears_more (call_elsewhere is e) (further calls still)

  second_on : (leaf : ℕ) (o : Option Piece) (ps : List Piece) → IfSome o (CallPiece leaf table (call.Ask every_row)) → Ends left ps → Ends left (option_to_list o ++ ps)
  second_on leaf None ps is further = further
  second_on leaf (Some piece) ps is further = ask_on leaf piece ps is further

  -- behind an add the same rows are left where it tells of none that were added
  add_on : (leaf : ℕ) (piece : Piece) (ps : List Piece) → CallPiece leaf table (call.Add rows) piece → ((l : Option (List Row)) → (tells_added piece ≡ false → l ≡ left) → Ends l ps) → Ends left (piece ∷ ps)
  add_on leaf piece ps is further calls still = by (is_at p leaf table) refl
    where
      by : (b : Bool) → is_at p leaf table ≡ b → Hears p calls (piece ∷ ps) (no_call_yet more)
      by true e =
          let stands = subst (λ (l : Option (List Row)). InTail l more calls) (here leaf e) still in
          let now : Option (List Row) = rows_left (Some rows) (told_by piece) in
          hears_more (call_here is e (λ said. (stands.feeds (told_by piece) ∙ add_feeds rows (told_by piece), stands.moves (told_by piece))))
          (further now (λ none. add_keeps rows piece none ∙ sym (here leaf e)) (tail_calls now more) (tail_goes now more))
      by false e = hears_more (call_elsewhere is e) (further left (λ none. refl) calls still)

  ended : (l : Option (List Row)) (sent : Option ℕ) → Ends l (Says (line.Tailed sent) ∷ [])
  ended l sent calls still = record { hears = λ proper lines. ap (λ (k : CallsLeft). heard_from p k lines) still.ends }

  -- ---- its tries

  abbrev to_end : List (TryOf Piece) → Option ℕ → List Piece
  to_end ts sent = flat_map pieces_of_try ts ++ Says (line.Tailed sent) ∷ []

  -- the picked leaf, and then the other tries, where it did not take the rows
  added_on : (free : Piece → Option ℕ) (added : Option Piece) (pick : Option ℕ) (ts : List (TryOf Piece)) (sent : Option ℕ) (Others : Type 0)
      → is_some added ≡ is_some pick → IfSome added (λ q. IfSome pick (λ leaf. CallPiece leaf table (call.Add rows) q))
      → TryGoesOn free tells_added (option_and_then (λ r. if tells_added r then pick else None) added) ts sent Others
      → (Others → Ends left (to_end ts sent)) → Ends left (option_to_list added ++ to_end ts sent)
  added_on free None pick ts sent Others even is goes further = further goes
  added_on free (Some piece) None ts sent Others even is goes further = absurd cc
  added_on free (Some piece) (Some leaf) ts sent Others even is goes further = add_on leaf piece (to_end ts sent) is (λ l kept. by l kept (tells_added piece) refl goes)
    where
      by : (l : Option (List Row)) → (tells_added piece ≡ false → l ≡ left) → (b : Bool) → tells_added piece ≡ b → TryGoesOn free tells_added (if b then Some leaf else None) ts sent Others → Ends l (to_end ts sent)
      by l kept true e goes = subst (λ (us : List (TryOf Piece)). Ends l (to_end us sent)) (sym goes.0) (ended l sent)
      by l kept false e goes = subst (λ (k : Option (List Row)). Ends k (to_end ts sent)) (sym (kept e)) (further goes)

  tries_end : (free : Piece → Option ℕ) (leaves : ℕ) (words : List ℕ) (ts : List (TryOf Piece)) (sent : Option ℕ) → Tails free tells_added leaves words ts sent
      → AllByRecursion (λ (t : TryOf Piece). TryPieces table rows (pick_of free tells_added t) t) ts → Ends left (to_end ts sent)
  tries_end free leaves words [] sent tails is = ended left sent
  tries_end free leaves (u ∷ v ∷ words) (t ∷ ts) sent tails is =
      let two : List Piece = option_to_list t.two in
      let added : List Piece = option_to_list t.added in
      let others : List Piece = flat_map pieces_of_try ts in
      let end : List Piece = Says (line.Tailed sent) ∷ [] in
      subst (λ (ps : List Piece). Ends left (t.one ∷ ps)) (sym (append_assoc (two ++ added) others end ∙ append_assoc two added (others ++ end)))
      (ask_on t.first t.one (two ++ (added ++ (others ++ end))) is.0.one
      (second_on t.second t.two (added ++ (others ++ end)) is.0.two
      (added_on free t.added (pick_of free tells_added t) ts sent (Tails free tells_added leaves words ts sent) tails.0.add is.0.added tails.1 (λ more_tails. tries_end free leaves words ts sent more_tails is.1))))
  tries_end free leaves [] (t ∷ ts) sent tails is = absurd tails
  tries_end free leaves (u ∷ []) (t ∷ ts) sent tails is = absurd tails

-- ---- a tail

second_true : (a b : Bool) → (a && b) ≡ true → b ≡ true
second_true true b e = e
second_true false b e = absurd cc

pub tail_hears : (p : TablePlace) (leaves : ℕ) (base_states : ℕ → BaseState) (histories : ℕ → List Entry) (key table : ℕ) (rows : List Row) (pieces : List Piece)
    → TailPieces leaves base_states histories key table rows pieces → Uses p (Some (meant.Tail (some_when (table == p.table) rows))) pieces
tail_hears p leaves base_states histories key table rows pieces t rest =
    let left : Option (List Row) = some_when (table == p.table) rows in
    let here : (leaf : ℕ) → is_at p leaf table ≡ true → left ≡ Some rows = λ leaf e. ap (λ (b : Bool). some_when b rows) (second_true (leaf == p.leaf) (table == p.table) e) in
    subst (λ (ps : List Piece). Hears p (no_call_yet (meant.Tail left ∷ rest)) ps (no_call_yet rest)) (sym t.are)
    (tries_end p table rows left here rest (free_then base_states histories) leaves (words_of key) t.tries t.sent t.tails t.calls (no_call_yet (meant.Tail left ∷ rest)) (tail_begins left rest))
