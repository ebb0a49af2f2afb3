-- The tries of a tail, as their pieces tell them.
use Rattle.std.proofs.Common.{◌≡◌, ℕ, ◌<◌, Bool, List, [], ◌∷◌, ◌++◌, map, refl, sym, ap, ap₂, subst, ◌∙◌, mod-lt, Option, Some, None, IfSome}
use Rattle.std.specs.Prelude.{if◌then◌else◌, is_some, option_and_then, option_map, option_to_list}
use Rattle.std.specs.List.{AllByRecursion, flat_map}
use Rattle.std.proofs.lemmas.List.{map-append}
use Rattle.row_model.specs.declared.rows.Row.{Row}
use Rattle.leaf_model.specs.declared.groups.Group.{Group}
use Rattle.leaf_model.specs.Groups.{groups}
use Rattle.leaf_history.specs.Calls as call
use Rattle.leaf_history.specs.History.{Entry}
use Rattle.leaf_table.specs.declared.base.TableBase.{TableBase}
use Rattle.leaf_table.specs.declared.replies.Reply.{Reply}
use Rattle.leaf_table.specs.declared.replies.Reply.TheVariants as told
use Rattle.leaf_table.specs.Turns.{is_founded, start_of}
use Rattle.tail_picks.specs.Room.{every_row, free_rows}
use Rattle.tail_picks.specs.Tails.{TryOf, Tails, TryGoesOn, picked, pick_of, sent_by}
use Rattle.tailer.specs.Calls.{IsOverRows, LeafCall, adding, asking, asking_also, calls_of_tries, calls_of, free_of, is_added}
use Rattle.printed_lines.specs.declared.line.Line.{Line}
use Rattle.transcript.specs.Pieces.{Piece}
use Rattle.transcript.specs.Shapes.{CallPiece}
use Rattle.transcript.specs.Histories.{BaseState, rows_before}
use Rattle.transcript.specs.Tails.{TryPieces, free_then, pieces_of_try, tells_added}
use Rattle.leaf_moves.specs.Steps.{IsReplyPiece}
use Rattle.player.specs.Lines.{reply_line}
use Rattle.player.specs.Commands.{also_line, try_lines}
use Rattle.player.proofs.CallPieces.{call_prints, reply_piece}
use Rattle.player.proofs.TailCalls.{call_piece, call_pieces}

-- ---- a try by its pieces

abbrev pub ask_piece : ℕ → ℕ → Reply → Piece
ask_piece table leaf r = call_piece table (asking leaf r)

abbrev pub add_piece : ℕ → List Row → Option ℕ → Option Reply → Option Piece
add_piece table rows (Some leaf) (Some r) = Some (call_piece table (record { leaf = leaf; call = call.Add rows; reply = r }))
add_piece table rows pick reply = None

abbrev pub try_piece : ℕ → List Row → TryOf Reply → TryOf Piece
try_piece table rows t = record {
  first = t.first;
  second = t.second;
  one = ask_piece table t.first t.one;
  two = option_map (ask_piece table t.second) t.two;
  added = add_piece table rows (pick_of free_of is_added t) t.added;
}

also_pieces : (table leaf : ℕ) (o : Option Reply) → option_to_list (option_map (ask_piece table leaf) o) ≡ call_pieces table (asking_also leaf o)
also_pieces table leaf None = refl
also_pieces table leaf (Some r) = refl

add_pieces : (table : ℕ) (rows : List Row) (pick : Option ℕ) (o : Option Reply) → option_to_list (add_piece table rows pick o) ≡ call_pieces table (adding rows pick o)
add_pieces table rows (Some leaf) (Some r) = refl
add_pieces table rows (Some leaf) None = refl
add_pieces table rows None o = refl

try_is : (table : ℕ) (rows : List Row) (t : TryOf Reply) → pieces_of_try (try_piece table rows t) ≡ call_pieces table (calls_of rows t)
try_is table rows t =
    ap (λ (ps : List Piece). ask_piece table t.first t.one ∷ ps)
    (ap₂ (λ (ps qs : List Piece). ps ++ qs) (also_pieces table t.second t.two) (add_pieces table rows (pick_of free_of is_added t) t.added)
    ∙ sym (map-append (call_piece table) (asking_also t.second t.two) (adding rows (pick_of free_of is_added t) t.added)))

pub tries_are : (table : ℕ) (rows : List Row) (ts : List (TryOf Reply)) → flat_map pieces_of_try (map (try_piece table rows) ts) ≡ call_pieces table (calls_of_tries rows ts)
tries_are table rows [] = refl
tries_are table rows (t ∷ ts) =
    ap₂ (λ (ps qs : List Piece). ps ++ qs) (try_is table rows t) (tries_are table rows ts) ∙ sym (map-append (call_piece table) (calls_of rows t) (calls_of_tries rows ts))

-- ---- and by its lines

abbrev line_of : ℕ → LeafCall → Line
line_of table c = reply_line c.leaf table c.reply

also_is : (table leaf : ℕ) (o : Option Reply) → map (line_of table) (asking_also leaf o) ≡ also_line (Some leaf) table o
also_is table leaf None = refl
also_is table leaf (Some r) = refl

add_is : (table : ℕ) (rows : List Row) (pick : Option ℕ) (o : Option Reply) → map (line_of table) (adding rows pick o) ≡ also_line pick table o
add_is table rows (Some leaf) (Some r) = refl
add_is table rows (Some leaf) None = refl
add_is table rows None o = refl

pub lines_of_tries : (table : ℕ) (rows : List Row) (ts : List (TryOf Reply)) → map (line_of table) (calls_of_tries rows ts) ≡ flat_map (try_lines table) ts
lines_of_tries table rows [] = refl
lines_of_tries table rows (t ∷ ts) =
    map-append (line_of table) (calls_of rows t) (calls_of_tries rows ts)
    ∙ ap₂ (λ (ls ms : List Line). ls ++ ms)
    (ap (λ (ls : List Line). reply_line t.first table t.one ∷ ls)
    (map-append (line_of table) (asking_also t.second t.two) (adding rows (pick_of free_of is_added t) t.added)
    ∙ ap₂ (λ (ls ms : List Line). ls ++ ms) (also_is table t.second t.two) (add_is table rows (pick_of free_of is_added t) t.added)))
    (lines_of_tries table rows ts)

-- ---- what they tell

All-parts : {X : Type 0} (P : X → Type 0) (xs ys : List X) → AllByRecursion P (xs ++ ys) → AllByRecursion P xs × AllByRecursion P ys
All-parts P [] ys h = (tt, h)
All-parts P (x ∷ xs) ys h = let others = All-parts P xs ys h.1 in ((h.0, others.0), others.1)

tells_same : (leaf table : ℕ) (c : call.Call) (r : Reply) (p : Piece) → IsReplyPiece leaf table c r p → tells_added p ≡ is_added r
tells_same leaf table c (told.Added number kept late) p says = ap tells_added says
tells_same leaf table c (told.Removed number k) p says = ap tells_added says
tells_same leaf table c (told.Groups number gs) p says = ap tells_added says
tells_same leaf table c (told.Shut number) p says = ap tells_added says
tells_same leaf table c (told.Full number) p says = ap tells_added says
tells_same leaf table c (told.NoMemory number) p says = ap tells_added says
tells_same leaf table c told.Worn p says = ap tells_added says

module _ (leaves table : ℕ) (rows : List Row) (bases : ℕ → Option TableBase) (base_states : ℕ → BaseState) (histories : ℕ → List Entry)
    (base_state : (leaf : ℕ) → leaf < leaves → base_states leaf ≡ record { founded = is_founded (bases leaf); base = start_of (bases leaf) }) where
  abbrev free : Piece → Option ℕ
  free p = free_then base_states histories p

  piece_free : (leaf : ℕ) (r : Reply) (p : Piece) → leaf < leaves → IsOverRows bases histories (asking leaf r) → IsReplyPiece leaf table (call.Ask every_row) r p → free p ≡ free_of r
  piece_free leaf (told.Groups number gs) p below over says =
      ap free says
      ∙ ap (λ (xs : List Group). Some (free_rows xs)) (ap (λ (g : BaseState). groups every_row (rows_before g (histories leaf) number)) (base_state leaf below) ∙ sym over)
  piece_free leaf (told.Added number kept late) p below over says = ap free says
  piece_free leaf (told.Removed number k) p below over says = ap free says
  piece_free leaf (told.Shut number) p below over says = ap free says
  piece_free leaf (told.Full number) p below over says = ap free says
  piece_free leaf (told.NoMemory number) p below over says = ap free says
  piece_free leaf told.Worn p below over says = ap free says

  free_same : (leaf : ℕ) (r : Reply) → leaf < leaves → IsOverRows bases histories (asking leaf r) → free (ask_piece table leaf r) ≡ free_of r
  free_same leaf r below over = let p = reply_piece leaf table (call.Ask every_row) r in piece_free leaf r p.piece below over p.says

  also_free : (leaf : ℕ) (o : Option Reply) → leaf < leaves → AllByRecursion (IsOverRows bases histories) (asking_also leaf o)
      → option_and_then free (option_map (ask_piece table leaf) o) ≡ option_and_then free_of o
  also_free leaf None below over = refl
  also_free leaf (Some r) below over = free_same leaf r below over.0

  pick_same : (t : TryOf Reply) → t.first < leaves → t.second < leaves → AllByRecursion (IsOverRows bases histories) (calls_of rows t)
      → pick_of free tells_added (try_piece table rows t) ≡ pick_of free_of is_added t
  pick_same t first second over =
      ap₂ (λ (a b : Option ℕ). picked t.first a t.second b) (free_same t.first t.one first over.0)
      (also_free t.second t.two second (All-parts (IsOverRows bases histories) (asking_also t.second t.two) (adding rows (pick_of free_of is_added t) t.added) over.1).0)

  two_same : (leaf : ℕ) (o : Option Reply) → is_some (option_map (ask_piece table leaf) o) ≡ is_some o
  two_same leaf None = refl
  two_same leaf (Some r) = refl

  added_same : (pick : Option ℕ) (o : Option Reply) → is_some o ≡ is_some pick → is_some (add_piece table rows pick o) ≡ is_some pick
  added_same (Some leaf) (Some r) both = refl
  added_same (Some leaf) None both = both
  added_same None o both = refl

  sent_same : (pick : Option ℕ) (o : Option Reply) → is_some o ≡ is_some pick
      → option_and_then (λ p. if tells_added p then pick else None) (add_piece table rows pick o) ≡ option_and_then (λ r. if is_added r then pick else None) o
  sent_same (Some leaf) (Some r) both = let p = reply_piece leaf table (call.Add rows) r in ap (λ (b : Bool). if b then Some leaf else None) (tells_same leaf table (call.Add rows) r p.piece p.says)
  sent_same (Some leaf) None both = refl
  sent_same None None both = refl
  sent_same None (Some r) both = absurd cc

  two_calls : (leaf : ℕ) (o : Option Reply) → IfSome (option_map (ask_piece table leaf) o) (CallPiece leaf table (call.Ask every_row))
  two_calls leaf None = tt
  two_calls leaf (Some r) = let p = reply_piece leaf table (call.Ask every_row) r in call_prints leaf table (call.Ask every_row) r p.piece p.says

  added_calls : (pick : Option ℕ) (o : Option Reply) → IfSome (add_piece table rows pick o) (λ p. IfSome pick (λ leaf. CallPiece leaf table (call.Add rows) p))
  added_calls (Some leaf) (Some r) = let p = reply_piece leaf table (call.Add rows) r in call_prints leaf table (call.Add rows) r p.piece p.says
  added_calls (Some leaf) None = tt
  added_calls None o = tt

  -- the calls of a try
  abbrev pub Picks : TryOf Piece → Type 0
  Picks t = TryPieces table rows (pick_of free tells_added t) t

  picks : (t : TryOf Reply) → pick_of free tells_added (try_piece table rows t) ≡ pick_of free_of is_added t → Picks (try_piece table rows t)
  picks t same =
      subst (λ (pick : Option ℕ). TryPieces table rows pick (try_piece table rows t)) (sym same)
      (let p = reply_piece t.first table (call.Ask every_row) t.one in
      record {
        one = call_prints t.first table (call.Ask every_row) t.one p.piece p.says;
        two = two_calls t.second t.two;
        added = added_calls (pick_of free_of is_added t) t.added;
      })

  abbrev Both : List ℕ → List (TryOf Reply) → Option ℕ → Type 0
  Both words ts sent = Tails free tells_added leaves words (map (try_piece table rows) ts) sent × AllByRecursion Picks (map (try_piece table rows) ts)

  pub tries_told : 0 < leaves → (words : List ℕ) (ts : List (TryOf Reply)) (sent : Option ℕ) → Tails free_of is_added leaves words ts sent → AllByRecursion (IsOverRows bases histories) (calls_of_tries rows ts) → Both words ts sent
  tries_told some [] [] sent tails over = (tails, tt)
  tries_told some (u ∷ v ∷ words) (t ∷ ts) sent tails over =
      let parts = All-parts (IsOverRows bases histories) (calls_of rows t) (calls_of_tries rows ts) over in
      let same = pick_same t (subst (λ (n : ℕ). n < leaves) (sym tails.0.first) (mod-lt u some)) (subst (λ (n : ℕ). n < leaves) (sym tails.0.second) (mod-lt v some)) parts.0 in
      let pick = pick_of free_of is_added t in
      let sent_is : sent_by free tells_added (try_piece table rows t) ≡ sent_by free_of is_added t =
      ap (λ (p : Option ℕ). option_and_then (λ q. if tells_added q then p else None) (add_piece table rows pick t.added)) same ∙ sent_same pick t.added tails.0.add in
      let further = others (λ more. tries_told some words ts sent more parts.1) (sent_by free_of is_added t) tails.1 in (
        (
          record {
            first = tails.0.first;
            second = tails.0.second;
            two = two_same t.second t.two ∙ tails.0.two;
            add = added_same pick t.added tails.0.add ∙ ap (λ (o : Option ℕ). is_some o) (sym same);
          },
          subst (λ (o : Option ℕ). TryGoesOn free tells_added o (map (try_piece table rows) ts) sent (Tails free tells_added leaves words (map (try_piece table rows) ts) sent)) (sym sent_is) further.0,
        ),
        (picks t same, further.1),
      )
    where
      others : (Tails free_of is_added leaves words ts sent → Both words ts sent) → (o : Option ℕ) → TryGoesOn free_of is_added o ts sent (Tails free_of is_added leaves words ts sent)
          → TryGoesOn free tells_added o (map (try_piece table rows) ts) sent (Tails free tells_added leaves words (map (try_piece table rows) ts) sent) × AllByRecursion Picks (map (try_piece table rows) ts)
      others next (Some leaf) ends = ((ap (λ (xs : List (TryOf Reply)). map (try_piece table rows) xs) ends.0, ends.1), subst (λ (xs : List (TryOf Reply)). AllByRecursion Picks (map (try_piece table rows) xs)) (sym ends.0) tt)
      others next None more = next more
  tries_told some [] (t ∷ ts) sent tails over = absurd tails
  tries_told some (u ∷ []) ts sent tails over = absurd tails
  tries_told some (u ∷ v ∷ words) [] sent tails over = absurd tails
