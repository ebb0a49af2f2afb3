-- What standing queries print. Each is declared, and tells the rows of its table after the last entry that was printed.
-- Only a stale one asks its table first.
use Rattle.std.specs.Prelude.{◌≡◌, ℕ, ◌+◌, max, ◌&&◌, ◌||◌, not, nat_lt, ◌==◌, Bool, true, false, MatchBool, List, [], ◌∷◌, ◌++◌, length, fold, Option, Some, None, slice_get, ⊤}
use Rattle.std.specs.List.{flat_map, list_any}
use Rattle.leaf_model.specs.declared.queries.Query.{Query}
use Rattle.leaf_model.specs.Groups.{groups}
use Rattle.answer_text.specs.Answer.{answer_lines}
use Rattle.standing_query.specs.Spread.{spread}
use Rattle.leaf_history.specs.Calls.{Call}
use Rattle.leaf_history.specs.Calls as call
use Rattle.leaf_history.specs.History.{Entry}
use Rattle.script_text.specs.declared.command.Command.{Command}
use Rattle.script_text.specs.declared.command.Command.TheVariants as command
use Rattle.script_text.specs.declared.fleet.FleetShape.{FleetShape}
use Rattle.printed_lines.specs.declared.line.Said.{Said}
use Rattle.printed_lines.specs.declared.line.Said.TheVariants.{Removed, Asked, RefusedShut, Opened, Closed}
use Rattle.printed_lines.specs.declared.line.WhyUntold.{WhyUntold}
use Rattle.printed_lines.specs.declared.line.WhyUntold.TheVariants as untold
use Rattle.printed_lines.specs.declared.line.Line.{Line}
use Rattle.printed_lines.specs.declared.line.Line.TheVariants as line
use Rattle.transcript.specs.Pieces.{Piece, Called, Worn, Says, Played, PlayedItem, One, Burst, all_pieces, pieces_in, place_among, plays_in, plays_of}
use Rattle.transcript.specs.Shapes.{CallPiece}
use Rattle.transcript.specs.Histories.{BaseState, Shown, rows_before, shown}

-- ---- standing queries, as they were declared

-- a standing query, and the leaf and the table that it is of
pub record StandingQuery : Type 0 where
  pub leaf : ℕ
  pub table : ℕ
  pub query : Query

abbrev pub declared_of : FleetShape → Command → List StandingQuery
declared_of fleet (command.Standing leaf q) = record { leaf = leaf; table = place_among q.table fleet.names; query = q } ∷ []
declared_of fleet _ = []

-- the standing queries that these items declare; the number of each is its index
abbrev pub declared : FleetShape → List PlayedItem → List StandingQuery
declared fleet items = flat_map (λ (p : Played). declared_of fleet p.command) (plays_in items)

-- ---- whether a state is fresh, read from what was printed

-- the line leaves the rows unknown: an opening, a closing, or a keep that removed rows
abbrev pub ends_state : Option Call → Said → Bool
ends_state c (Opened writes) = true
ends_state c (Closed writes) = true
ends_state (Some (call.Keep n)) (Removed rows) = nat_lt 0 rows
ends_state c said = false

abbrev pub is_ended : StandingQuery → List Piece → Bool
is_ended s pieces = list_any (λ (e : Shown). ends_state e.call e.said) (shown s.leaf s.table pieces)

abbrev pub tells_rows : Piece → Bool
tells_rows (Says (line.Told number upto rows)) = true
tells_rows _ = false

-- in this item the standing query told rows
abbrev pub has_told : ℕ → PlayedItem → Bool
has_told standing (Burst lanes) = false
has_told standing (One p) = by p.command
  where
    by : Command → Bool
    by (command.Tell number) = (number == standing) && list_any tells_rows p.pieces
    by _ = false

abbrev pub is_fresh_behind : ℕ → StandingQuery → Bool → PlayedItem → Bool
is_fresh_behind standing s was x = (was || has_told standing x) && not (is_ended s (pieces_in (plays_of x)))

-- It told rows, and no later line left them unknown.
abbrev pub is_fresh : ℕ → StandingQuery → List PlayedItem → Bool
is_fresh standing s items = fold (is_fresh_behind standing s) false items

-- ---- what it tells

-- the greatest number of these lines
abbrev pub last_number : List Shown → ℕ
last_number [] = 0
last_number (s ∷ ss) = max s.number (last_number ss)

-- why it tells no rows after this answer of its table, if it tells none
abbrev pub why_untold : Piece → Option WhyUntold
why_untold (Called leaf table c number Asked) = None
why_untold (Called leaf table c number RefusedShut) = Some untold.Shut
why_untold (Worn leaf table) = Some untold.Worn
why_untold _ = Some untold.Memory

module _ (fleet : FleetShape) (base_states : ℕ → ℕ → BaseState) (histories : ℕ → ℕ → List Entry) where
  -- its answer, over the rows of its table after the last entry of these pieces
  abbrev pub told_line : ℕ → StandingQuery → List Piece → Line
  told_line standing s pieces =
      let number = last_number (shown s.leaf s.table pieces) in
      line.Told standing number (answer_lines s.query (groups s.query (rows_before (base_states s.leaf s.table) (histories s.leaf s.table) (number + 1))))

  abbrev pub line_behind : ℕ → StandingQuery → List Piece → Option WhyUntold → Line
  line_behind standing s pieces None = told_line standing s pieces
  line_behind standing s pieces (Some why) = line.Untold standing why

  -- its table is asked for the spread of the query; then it tells rows, or why it tells none
  pub record AsksFirst (standing : ℕ) (s : StandingQuery) (before pieces : List Piece) : Type 0 where
    pub asked : Piece
    pub ask : CallPiece s.leaf s.table (call.Ask (spread s.query)) asked
    pub are : pieces ≡ asked ∷ Says (line_behind standing s (before ++ asked ∷ []) (why_untold asked)) ∷ []

  -- what the standing query with this number prints: its answer if it is fresh; else it asks first
  pub record TellsStanding (standing : ℕ) (before : List PlayedItem) (pieces : List Piece) : Type 0 where
    pub query : StandingQuery
    pub is : slice_get (declared fleet before) standing ≡ Some query
    pub told : MatchBool (is_fresh standing query before) (pieces ≡ Says (told_line standing query (all_pieces before)) ∷ []) (AsksFirst standing query (all_pieces before) pieces)

  -- what a command of standing queries prints after these items
  abbrev pub IsTold : List PlayedItem → Played → Type 0
  IsTold before p = by p.command
    where
      by : Command → Type 0
      by (command.Standing leaf q) = p.pieces ≡ Says (line.Declared (length (declared fleet before))) ∷ []
      by (command.Tell standing) = TellsStanding standing before p.pieces
      by _ = ⊤

  -- each such command prints this, wherever it stands
  abbrev pub AreTold : List PlayedItem → Type 0
  AreTold played = (before behind : List PlayedItem) (p : Played) → played ≡ before ++ One p ∷ behind → IsTold before p
