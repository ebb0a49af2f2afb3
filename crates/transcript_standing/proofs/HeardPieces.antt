-- What is heard of a table from the lines of pieces, and which calls are left behind them.
use Rattle.std.proofs.Common.{◌≡◌, inl, inr, ℕ, ◌==◌, ◌&&◌, Bool, true, false, MatchBool, List, [], ◌∷◌, ◌++◌, map, refl, sym, ap, ap₂, subst, ◌∙◌, append_assoc}
use Rattle.std.specs.Prelude.{Option, Some, None, option_to_list, if◌then◌else◌, ⊤}
use Rattle.std.specs.List.{AllByRecursion}
use Rattle.std.proofs.lemmas.Grind.{flat_map-append}
use Rattle.std.proofs.lemmas.List.{append-nil, map-append}
use Rattle.std.proofs.lemmas.Option.{none-some}
use Rattle.row_model.specs.declared.rows.Row.{Row}
use Rattle.leaf_model.specs.declared.queries.Query.{Query}
use Rattle.leaf_words.specs.declared.note.Note.{Note}
use Rattle.leaf_words.specs.declared.note.What.{What}
use Rattle.leaf_words.specs.declared.note.What.TheVariants as what
use Rattle.leaf_history.specs.Calls.{Call}
use Rattle.leaf_history.specs.Calls as call
use Rattle.script_text.specs.declared.command.Command.{Command}
use Rattle.script_text.specs.declared.command.Command.TheVariants as command
use Rattle.printed_lines.specs.declared.line.Said.{Said}
use Rattle.printed_lines.specs.declared.line.Said.TheVariants.{Added, RefusedShut, Opened, Took, Flushed, Closed, Handed}
use Rattle.printed_lines.specs.declared.line.Deed.{Deed}
use Rattle.printed_lines.specs.declared.line.Ending.{Ending}
use Rattle.printed_lines.specs.declared.line.Line.{Line}
use Rattle.printed_lines.specs.declared.line.Line.TheVariants as line
use Rattle.standing_query.specs.declared.fed.Fed.{Fed}
use Rattle.standing_query.specs.declared.fed.Fed.TheVariants as fed
use Rattle.standing_feed.specs.declared.meant.Meant.{Meant}
use Rattle.standing_feed.specs.declared.meant.Meant.TheVariants as meant
use Rattle.standing_feed.specs.declared.heard.Heard.{Heard}
use Rattle.standing_feed.specs.Hearing.{CallsLeft, TablePlace, fed_by, fed_by_call, fed_called, heard_from, is_at, left_by, left_called, no_call_yet, some_when}
use Rattle.transcript.specs.Pieces.{Piece, Called, Worn, Acted, Says, PlayedItem, One, Burst, lines_in, noted_line, piece_lines, said_of_note}
use Rattle.transcript.specs.Shapes.{CallPiece}
use Rattle.transcript.specs.Histories.{Shown, shown, shown_if, shown_in, shown_notes}
use Rattle.transcript_standing.proofs.Lists.{All-both}

-- ---- what an entry's line tells

-- a call as it is meant; a steward's is never looked up
abbrev pub meant_of : Call → Meant
meant_of (call.Add rows) = meant.Add rows
meant_of (call.Expire horizon) = meant.Expire horizon
meant_of (call.Keep n) = meant.Keep
meant_of _ = meant.Ask

abbrev pub fed_of_call : Option Call → Said → Fed
fed_of_call (Some c) told = fed_by_call (meant_of c) told
fed_of_call None told = fed.Other

-- what an entry's line tells, by the call that its piece names
abbrev pub fed_of : Option Call → Said → Fed
fed_of c (Opened writes) = fed.Opened
fed_of c (Closed writes) = fed.Closed
fed_of c (Took writes) = fed.Other
fed_of c (Flushed writes) = fed.Other
fed_of c Handed = fed.Other
fed_of c told = fed_of_call c told

abbrev pub heard_as : ℕ → Fed → Heard
heard_as number f = record { number = number; fed = f }

abbrev pub heard_of : Shown → Heard
heard_of s = heard_as s.number (fed_of s.call s.said)

-- what callers are told stands with a call of callers, and that rows were added with an add; what stewards are told,
-- with none
abbrev pub IsSaidOf : Option Call → Said → Type 0
IsSaidOf c (Added kept late) = (rows : List Row) × (c ≡ Some (call.Add rows))
IsSaidOf c (Opened writes) = c ≡ None
IsSaidOf c (Took writes) = c ≡ None
IsSaidOf c (Flushed writes) = c ≡ None
IsSaidOf c (Closed writes) = c ≡ None
IsSaidOf c Handed = c ≡ None
IsSaidOf c _ = (made : Call) × (c ≡ Some made)

abbrev pub IsProper : Shown → Type 0
IsProper s = IsSaidOf s.call s.said

abbrev pub AreProper : TablePlace → List Piece → Type 0
AreProper p pieces = AllByRecursion IsProper (shown p.leaf p.table pieces)

-- a line that no call prints
abbrev pub IsQuiet : Line → Type 0
IsQuiet (line.Entry leaf table number told) = ⊥
IsQuiet (line.Worn leaf table) = ⊥
IsQuiet (line.Tailed leaf) = ⊥
IsQuiet _ = ⊤

-- ---- pieces one after another

-- Behind the lines of these pieces these calls are left, and what is heard of them is what their entries tell.
pub record Hears (p : TablePlace) (calls : CallsLeft) (pieces : List Piece) (next : CallsLeft) : Type 0 where
  pub hears : AreProper p pieces → (more : List Line) → heard_from p calls (lines_in pieces ++ more) ≡ map heard_of (shown p.leaf p.table pieces) ++ heard_from p next more

-- these pieces use up what is meant, whatever is behind it
abbrev pub Uses : TablePlace → Option Meant → List Piece → Type 0
Uses p m pieces = (rest : List Meant) → Hears p (no_call_yet (option_to_list m ++ rest)) pieces (no_call_yet rest)

-- no command of standing queries means a call
abbrev pub HearsOwn : TablePlace → Command → List Piece → Type 0
HearsOwn p (command.Standing leaf q) pieces = Hears p (no_call_yet []) pieces (no_call_yet [])
HearsOwn p (command.Tell standing) pieces = Hears p (no_call_yet []) pieces (no_call_yet [])
HearsOwn p _ pieces = ⊤

abbrev pub ItemOwn : TablePlace → PlayedItem → Type 0
ItemOwn p (One q) = HearsOwn p q.command q.pieces
ItemOwn p (Burst lanes) = ⊤

-- what a call is told feeds what its line tells, and leaves these calls
abbrev pub TakesOn : CallsLeft → Call → CallsLeft → Said → Type 0
TakesOn calls c next told = IsSaidOf (Some c) told → (fed_called calls told ≡ fed_by_call (meant_of c) told) × (left_called calls told ≡ next)

-- whatever it is told
abbrev pub Takes : CallsLeft → Call → CallsLeft → Type 0
Takes calls c next = (told : Said) → TakesOn calls c next told

-- what the piece of a call tells of it
abbrev pub told_by : Piece → Said
told_by (Called leaf table c number told) = told
told_by _ = RefusedShut

by_caller : (calls next : CallsLeft) (c : Call) (told : Said) → IsSaidOf (Some c) told → TakesOn calls c next told → (fed_by calls told ≡ fed_of (Some c) told) × (left_by calls told ≡ next)
by_caller calls next c (Opened writes) is takes = absurd (none-some c (sym is))
by_caller calls next c (Closed writes) is takes = absurd (none-some c (sym is))
by_caller calls next c (Took writes) is takes = absurd (none-some c (sym is))
by_caller calls next c (Flushed writes) is takes = absurd (none-some c (sym is))
by_caller calls next c Handed is takes = absurd (none-some c (sym is))
by_caller calls next c _ is takes = takes is

-- a steward's entry is of no call
by_steward : (calls : CallsLeft) (w : What) → (fed_by calls (said_of_note w) ≡ fed_of None (said_of_note w)) × (left_by calls (said_of_note w) ≡ calls)
by_steward calls (what.Opened writes) = (refl, refl)
by_steward calls (what.Closed writes) = (refl, refl)
by_steward calls (what.Took writes) = (refl, refl)
by_steward calls (what.Flushed writes) = (refl, refl)
by_steward calls what.Handed = (refl, refl)

abbrev called_shown : ℕ → Call → Said → Shown
called_shown number c told = record { number = number; call = Some c; said = told }

abbrev note_shown : Note → Shown
note_shown n = record { number = n.number; call = None; said = said_of_note n.what }

-- deeds of stewards, and lines that no call prints
abbrev pub IsCalm : Piece → Type 0
IsCalm (Called leaf table c number told) = ⊥
IsCalm (Worn leaf table) = ⊥
IsCalm (Acted leaf deed notes ending) = ⊤
IsCalm (Says l) = IsQuiet l

module _ (p : TablePlace) where
  pub heard_append : (ps qs : List Piece) → map heard_of (shown p.leaf p.table (ps ++ qs)) ≡ map heard_of (shown p.leaf p.table ps) ++ map heard_of (shown p.leaf p.table qs)
  heard_append ps qs =
      ap (λ (ss : List Shown). map heard_of ss) (flat_map-append (shown_in p.leaf p.table) ps qs) ∙ map-append heard_of (shown p.leaf p.table ps) (shown p.leaf p.table qs)

  pub proper_parts : (ps qs : List Piece) → AreProper p (ps ++ qs) → AreProper p ps × AreProper p qs
  proper_parts ps qs proper =
      All-both IsProper (shown p.leaf p.table ps) (shown p.leaf p.table qs) (subst (λ (ss : List Shown). AllByRecursion IsProper ss) (flat_map-append (shown_in p.leaf p.table) ps qs) proper)

  -- ---- the notes of a deed

  notes_here : (leaf : ℕ) → (leaf == p.leaf) ≡ true → (calls : CallsLeft) (notes : List Note) (more : List Line)
      → heard_from p calls (map (noted_line leaf) notes ++ more) ≡ map heard_of (shown_notes p.table notes) ++ heard_from p calls more
  notes_here leaf is calls [] more = refl
  notes_here leaf is calls (n ∷ notes) more =
      subst (λ (b : Bool).
      option_to_list (some_when (b && (n.table == p.table)) (heard_as n.number (fed_by calls (said_of_note n.what))))
      ++ heard_from p (if (b && (n.table == p.table)) then left_by calls (said_of_note n.what) else calls) (map (noted_line leaf) notes ++ more)
      ≡ map heard_of (shown_notes p.table (n ∷ notes)) ++ heard_from p calls more)
      (sym is) (by (n.table == p.table) (notes_here leaf is calls notes more))
    where
      by : (b : Bool) → heard_from p calls (map (noted_line leaf) notes ++ more) ≡ map heard_of (shown_notes p.table notes) ++ heard_from p calls more
          → option_to_list (some_when b (heard_as n.number (fed_by calls (said_of_note n.what)))) ++ heard_from p (if b then left_by calls (said_of_note n.what) else calls) (map (noted_line leaf) notes ++ more)
          ≡ map heard_of (shown_if b (note_shown n) ++ shown_notes p.table notes) ++ heard_from p calls more
      by true further =
          let both = by_steward calls n.what in
          ap₂ (λ (f : Fed) (k : CallsLeft). heard_as n.number f ∷ heard_from p k (map (noted_line leaf) notes ++ more)) both.0 both.1
          ∙ ap (λ (hs : List Heard). heard_as n.number (fed_of None (said_of_note n.what)) ∷ hs) further
      by false further = further

  notes_there : (leaf : ℕ) → (leaf == p.leaf) ≡ false → (calls : CallsLeft) (notes : List Note) (more : List Line)
      → heard_from p calls (map (noted_line leaf) notes ++ more) ≡ heard_from p calls more
  notes_there leaf is calls [] more = refl
  notes_there leaf is calls (n ∷ notes) more =
      subst (λ (b : Bool).
      option_to_list (some_when (b && (n.table == p.table)) (heard_as n.number (fed_by calls (said_of_note n.what))))
      ++ heard_from p (if (b && (n.table == p.table)) then left_by calls (said_of_note n.what) else calls) (map (noted_line leaf) notes ++ more)
      ≡ heard_from p calls more)
      (sym is) (notes_there leaf is calls notes more)

module _ {p : TablePlace} where
  pub hears_none : {calls : CallsLeft} → Hears p calls [] calls
  hears_none = record { hears = λ proper more. refl }

  pub hears_more : {calls between next : CallsLeft} {ps qs : List Piece} → Hears p calls ps between → Hears p between qs next → Hears p calls (ps ++ qs) next
  hears_more {calls} {between} {next} {ps} {qs} first second = record {
    hears = λ proper more.
        let parts = proper_parts p ps qs proper in
        ap (λ (ls : List Line). heard_from p calls (ls ++ more)) (flat_map-append piece_lines ps qs)
        ∙ ap (λ (ls : List Line). heard_from p calls ls) (append_assoc (lines_in ps) (lines_in qs) more)
        ∙ first.hears parts.0 (lines_in qs ++ more)
        ∙ ap (λ (hs : List Heard). map heard_of (shown p.leaf p.table ps) ++ hs) (second.hears parts.1 more)
        ∙ sym (append_assoc (map heard_of (shown p.leaf p.table ps)) (map heard_of (shown p.leaf p.table qs)) (heard_from p next more))
        ∙ ap (λ (hs : List Heard). hs ++ heard_from p next more) (sym (heard_append p ps qs));
  }

  -- ---- a caller's call

  called_hears : (calls next : CallsLeft) (leaf table : ℕ) (c : Call) (number : ℕ) (told : Said) → MatchBool (is_at p leaf table) (TakesOn calls c next told) (calls ≡ next)
      → Hears p calls (Called leaf table c number told ∷ []) next
  called_hears calls next leaf table c number told takes = record { hears = λ proper more. by more (is_at p leaf table) takes proper }
    where
      by : (more : List Line) (b : Bool) → MatchBool b (TakesOn calls c next told) (calls ≡ next) → AllByRecursion IsProper (shown_if b (called_shown number c told) ++ [])
          → option_to_list (some_when b (heard_as number (fed_by calls told))) ++ heard_from p (if b then left_by calls told else calls) more
          ≡ map heard_of (shown_if b (called_shown number c told) ++ []) ++ heard_from p next more
      by more true takes proper =
          let both = by_caller calls next c told proper.0 takes in
          ap₂ (λ (f : Fed) (k : CallsLeft). heard_as number f ∷ heard_from p k more) both.0 both.1
      by more false same proper = ap (λ (k : CallsLeft). heard_from p k more) same

  worn_hears : (calls next : CallsLeft) (leaf table : ℕ) (c : Call) → MatchBool (is_at p leaf table) (TakesOn calls c next RefusedShut) (calls ≡ next) → Hears p calls (Worn leaf table ∷ []) next
  worn_hears calls next leaf table c takes = record { hears = λ proper more. by more (is_at p leaf table) takes }
    where
      by : (more : List Line) (b : Bool) → MatchBool b (TakesOn calls c next RefusedShut) (calls ≡ next) → heard_from p (if b then left_called calls RefusedShut else calls) more ≡ heard_from p next more
      by more true takes = ap (λ (k : CallsLeft). heard_from p k more) (takes (c, refl)).1
      by more false same = ap (λ (k : CallsLeft). heard_from p k more) same

  pub call_hears : {calls next : CallsLeft} {leaf table : ℕ} {c : Call} {piece : Piece} → CallPiece leaf table c piece
      → MatchBool (is_at p leaf table) (TakesOn calls c next (told_by piece)) (calls ≡ next) → Hears p calls (piece ∷ []) next
  call_hears {calls} {next} {leaf} {table} {c} {piece} (inl k) takes =
      subst (λ (q : Piece). MatchBool (is_at p leaf table) (TakesOn calls c next (told_by q)) (calls ≡ next) → Hears p calls (q ∷ []) next) (sym k.2)
      (called_hears calls next leaf table c k.0 k.1) takes
  call_hears {calls} {next} {leaf} {table} {c} {piece} (inr worn) takes =
      subst (λ (q : Piece). MatchBool (is_at p leaf table) (TakesOn calls c next (told_by q)) (calls ≡ next) → Hears p calls (q ∷ []) next) (sym worn)
      (worn_hears calls next leaf table c) takes

  -- of this table
  pub call_here : {calls next : CallsLeft} {leaf table : ℕ} {c : Call} {piece : Piece} → CallPiece leaf table c piece → is_at p leaf table ≡ true → TakesOn calls c next (told_by piece)
      → Hears p calls (piece ∷ []) next
  call_here {calls} {next} {leaf} {table} {c} {piece} is here takes =
      call_hears is (subst (λ (b : Bool). MatchBool b (TakesOn calls c next (told_by piece)) (calls ≡ next)) (sym here) takes)

  -- of another
  pub call_elsewhere : {calls : CallsLeft} {leaf table : ℕ} {c : Call} {piece : Piece} → CallPiece leaf table c piece → is_at p leaf table ≡ false → Hears p calls (piece ∷ []) calls
  call_elsewhere {calls} {leaf} {table} {c} {piece} is apart =
      call_hears is (subst (λ (b : Bool). MatchBool b (TakesOn calls c calls (told_by piece)) (calls ≡ calls)) (sym apart) refl)

  -- of either, where a call is meant just for this one
  pub call_meant : {leaf table : ℕ} {c : Call} {piece : Piece} (m : Meant) → CallPiece leaf table c piece → ((rest : List Meant) → Takes (no_call_yet (m ∷ rest)) c (no_call_yet rest))
      → Uses p (some_when (is_at p leaf table) m) (piece ∷ [])
  call_meant {leaf} {table} {c} {piece} m is takes rest = call_hears is (by (is_at p leaf table))
    where
      by : (b : Bool) → MatchBool b (TakesOn (no_call_yet (option_to_list (some_when b m) ++ rest)) c (no_call_yet rest) (told_by piece)) (no_call_yet (option_to_list (some_when b m) ++ rest) ≡ no_call_yet rest)
      by true = takes rest (told_by piece)
      by false = refl

  -- behind all calls
  pub call_unmeant : {leaf table : ℕ} {q : Query} {piece : Piece} → CallPiece leaf table (call.Ask q) piece → Hears p (no_call_yet []) (piece ∷ []) (no_call_yet [])
  call_unmeant {leaf} {table} {q} {piece} is = call_hears is (by (is_at p leaf table))
    where
      tells_other : (told : Said) → fed.Other ≡ fed_by_call meant.Ask told
      tells_other (Added kept late) = refl
      tells_other _ = refl

      by : (b : Bool) → MatchBool b (TakesOn (no_call_yet []) (call.Ask q) (no_call_yet []) (told_by piece)) (no_call_yet [] ≡ no_call_yet [])
      by true = λ said. (tells_other (told_by piece), refl)
      by false = refl

  -- ---- what tells of no call

  pub says_hears : {calls : CallsLeft} (l : Line) → IsQuiet l → Hears p calls (Says l ∷ []) calls
  says_hears (line.Entry leaf table number told) quiet = absurd quiet
  says_hears (line.Worn leaf table) quiet = absurd quiet
  says_hears (line.Tailed leaf) quiet = absurd quiet
  says_hears _ quiet = record { hears = λ proper more. refl }

  acted_hears : (calls : CallsLeft) (leaf : ℕ) (deed : Deed) (notes : List Note) (ending : Ending) → Hears p calls (Acted leaf deed notes ending ∷ []) calls
  acted_hears calls leaf deed notes ending = record {
    hears = λ proper more.
        ap (λ (ls : List Line). heard_from p calls (ls ++ more)) (append-nil (map (noted_line leaf) notes ++ line.Ended deed leaf ending ∷ []))
        ∙ ap (λ (ls : List Line). heard_from p calls ls) (append_assoc (map (noted_line leaf) notes) (line.Ended deed leaf ending ∷ []) more)
        ∙ by more (leaf == p.leaf) refl;
  }
    where
      by : (more : List Line) (b : Bool) → (leaf == p.leaf) ≡ b
          → heard_from p calls (map (noted_line leaf) notes ++ line.Ended deed leaf ending ∷ more) ≡ map heard_of ((if b then shown_notes p.table notes else []) ++ []) ++ heard_from p calls more
      by more true is =
          notes_here p leaf is calls notes (line.Ended deed leaf ending ∷ more)
          ∙ ap (λ (ss : List Shown). map heard_of ss ++ heard_from p calls more) (sym (append-nil (shown_notes p.table notes)))
      by more false is = notes_there p leaf is calls notes (line.Ended deed leaf ending ∷ more)

  pub calm_hears : {calls : CallsLeft} (ps : List Piece) → AllByRecursion IsCalm ps → Hears p calls ps calls
  calm_hears [] calm = hears_none
  calm_hears (Called leaf table c number told ∷ ps) calm = absurd calm.0
  calm_hears (Worn leaf table ∷ ps) calm = absurd calm.0
  calm_hears {calls} (Acted leaf deed notes ending ∷ ps) calm = hears_more (acted_hears calls leaf deed notes ending) (calm_hears ps calm.1)
  calm_hears (Says l ∷ ps) calm = hears_more (says_hears l calm.0) (calm_hears ps calm.1)
