-- What a query of all leaves comes to.
use Rattle.std.proofs.Common.{true≢false, ◌≡◌, ◌⊎◌, inl, inr, ⊎_elim, ℕ, ◌+◌, ◌-◌, ◌<◌, List, [], ◌∷◌, ◌++◌, length, map, Some, Result, Ok, Vec, Global, refl, sym, ap, ap₂, subst, ◌∙◌, arith, get_or-set_same}
use Rattle.std.specs.Prelude.{IfOk, IsErr, slice_get, slice_set}
use Rattle.std.specs.List.{AllByRecursion, range_with_len}
use Rattle.std.proofs.lemmas.List.{append-nil, length-map}
use Rattle.std.proofs.lemmas.Option.{slice_get_within}
use Rattle.std.proofs.lemmas.Result.{IfOk-from_err, IfOk-weaker}
use Rattle.row_model.specs.declared.rows.Row.{Row}
use Rattle.leaf_model.specs.declared.queries.Query.{Query}
use Rattle.leaf_model.specs.declared.groups.Group.{Group}
use Rattle.leaf_model.specs.Groups.{groups}
use Rattle.answer_text.specs.Answer.{answer_lines}
use Rattle.berth_face.specs.Berth.{Meaning}
use Rattle.leaf_history.specs.Calls as call
use Rattle.leaf_history.specs.History.{Entry, after}
use Rattle.leaf_table.specs.declared.replies.Reply.{Reply}
use Rattle.leaf_table.specs.Turns as turns
use Rattle.leaf_table.specs.Turns.{Shared}
use Rattle.leaf_table.specs.Calls.{SeatView, base_seen}
use Rattle.leaf_table.specs.Lists.{lists_in, row}
use Rattle.leaf_steward.proofs.Seating.{same_at}
use Rattle.aggregator.specs.declared.lists.Named.{Named}
use Rattle.aggregator.specs.declared.fanned.Fanned.{Fanned}
use Rattle.aggregator.specs.Asks.{Asked}
use Rattle.aggregator.specs.Sorts.{Sorts, by_leaf, named_of}
use Rattle.aggregator.specs.Merges.{IsAnswer}
use Rattle.aggregator.specs.Partial as fan
use Rattle.aggregator.specs.Partial.{bases_in, rows_of_all}
use Rattle.aggregator.proofs.Replies.{all_answers}
use Rattle.printed_lines.specs.declared.line.Line.{Line}
use Rattle.tailer.specs.Calls.{CallsOn, LeafCall}
use Rattle.printed_lines.specs.declared.line.Line.TheVariants as line
use Rattle.script_text.specs.Commands.{leaf_count}
use Rattle.transcript.specs.Pieces.{Piece, Says, place_among}
use Rattle.transcript.specs.Shapes.{named, named_in}
use Rattle.transcript.specs.Histories.{rows_before}
use Rattle.transcript.specs.Answers.{AnswerIs, rows_of_named}
use Rattle.leaf_moves.specs.Holds.{GoOn, Hold, base_states_in, histories_of}
use Rattle.player.specs.declared.members.Members.{Members}
use Rattle.player.specs.Crew.{HasSeats}
use Rattle.player.specs.Rows.{AreRows, IsColumn}
use Rattle.player.specs.Members.{AreMembers, fleet_in, holds_from, holds_in}
use Rattle.player.specs.Lines.{reply_line}
use Rattle.player.specs.Commands.{AsksAll, AsksRow, query_lines}
use Rattle.player.proofs.AskKnown.{named_count, number_is, over_named, rows_stay}
use Rattle.player.proofs.AskLines.{asked_are, number_named}
use Rattle.player.proofs.AskSteps.{AreAsked, AskedAt, ask_calls, ask_lines, ask_named, ask_pieces, ask_prints, ask_silent, asked_at, asked_counts, asked_on, paired_of}
use Rattle.player.proofs.Chains.{all_more}
use Rattle.player.proofs.Columns.{element_at}
use Rattle.player.proofs.MemberSteps.{with_parts, with_rows}
use Rattle.player.proofs.RowCalls.{behind, goes_and_says, members_after, size, went_on}

module _ {B : Type 0} (x : Members B) (table : ℕ) (are : AreMembers x) (within : table < length x.names) (has : HasSeats (holds_in x) table) (q : Query) (seats : List SeatView) (rs : List Reply)
    (now : Vec (Vec SeatView Global) Global) (set : lists_in now.items ≡ slice_set (lists_in x.rows.items) table seats) (asked : Asked q x.tables.now table 0 (row (lists_in x.rows.items) table) rs seats) where
  abbrev the_row : List SeatView
  the_row = row (lists_in x.rows.items) table

  abbrev count : ℕ
  count = leaf_count (fleet_in x)

  abbrev fleet : List (List Shared)
  fleet = x.tables.now

  abbrev ys : List (Hold B)
  ys = holds_in (with_parts x x.leaves now)

  sizes : (length rs ≡ length the_row) × (length seats ≡ length the_row)
  sizes = asked_counts q fleet table 0 the_row rs seats asked

  all_leaves : length rs ≡ count
  all_leaves = sizes.0 ∙ size x table are within has

  answers : AllByRecursion IsAnswer rs
  answers = all_answers q fleet table 0 the_row rs seats asked

  made : CallsOn fleet table the_row (ask_calls 0 q rs) seats
  made = asked_on q fleet table [] 0 the_row rs seats refl asked

  pub members_asked : AreMembers (with_parts x x.leaves now)
  members_asked = members_after x table are within has (ask_calls 0 q rs) seats now set made

  -- ---- the answer

  abbrev seen : ℕ → List Entry
  seen leaf = histories_of ys leaf table

  abbrev rows_of : ℕ → ℕ → List Row
  rows_of leaf number = fan.rows_seen_before (bases_in fleet table leaf) (seen leaf) number

  -- the rows that it is over
  abbrev over : List Row
  over = rows_of_all rows_of (by_leaf named_of 0 rs)

  -- as the seats have seen them
  pub seen_go_on : fan.SeatsGoOn seats seen
  seen_go_on = went_on x table are within has (ask_calls 0 q rs) seats now set made (histories_of ys) (λ leaf t. ([], sym (append-nil (histories_of ys leaf t))))

  -- however the histories go on
  rows_same : (histories : ℕ → ℕ → List Entry) → GoOn ys histories
      → rows_of_named (λ leaf. base_states_in ys leaf table) (λ leaf. histories leaf table) (by_leaf paired_of 0 rs) ≡ over
  rows_same histories go =
      over_named (λ l. rows_before (base_states_in ys l.0 table) (histories l.0 table) l.1) rows_of 0 rs
      (λ i leaf r n is there number.
      let below : leaf < count = omega (arith, is, slice_get_within rs i r there, all_leaves) in
      let same : leaf ≡ i = omega (arith, is) in
      let before = element_at the_row leaf (omega (arith, below, all_leaves, sizes.0)) in
      let one : AskedAt q fleet table leaf leaf before.0 rs seats = asked_at q fleet table 0 leaf leaf the_row rs seats before.0 (omega arith) asked before.1 in
      let b = behind x table are within has (ask_calls 0 q rs) seats now set made leaf below in
      let told_is : one.reply ≡ r = same_at rs leaf one.reply r one.said (subst (λ (k : ℕ). slice_get rs k ≡ Some r) (sym same) there) in
      let w = one.after in
      let last : n ≡ length w.seen = number_is (base_seen one.asked.shared) before.0 (call.Ask q) one.reply w n one.asked.answered (ap number_named told_is ∙ number) in
      let length_is : length (seen leaf) ≡ length w.seen = ap (λ (es : List Entry). length es) (b.sees w one.there) ∙ length-map w.seen turns.told in
      let more = go leaf table in
      rows_stay (base_states_in ys leaf table) (bases_in fleet table leaf) (histories leaf table) (seen leaf) more.0 n b.base_state more.1 (omega (arith, last, length_is)))

  -- ---- all of it

  abbrev answer : Line
  answer = line.Answer (length (named (ask_pieces 0 table q rs))) count (answer_lines q (groups q over))

  abbrev pieces : List Piece
  pieces = ask_pieces 0 table q rs ++ Says answer ∷ []

  named_are : named (ask_pieces 0 table q rs ++ Says answer ∷ []) ≡ by_leaf paired_of 0 rs
  named_are = named_more (ask_pieces 0 table q rs) ∙ ask_named 0 table q rs
    where
      named_more : (ps : List Piece) → named (ps ++ Says answer ∷ []) ≡ named ps
      named_more [] = refl
      named_more (p ∷ ps) = ap (λ (ns : List (ℕ × ℕ)). named_in p ++ ns) (named_more ps)

  -- the lines of what was answered
  told_lines : (f : Fanned) → Sorts rs f → f.groups ≡ groups q over → query_lines count table q f ≡ map (λ (c : LeafCall). reply_line c.leaf table c.reply) (ask_calls 0 q rs) ++ answer ∷ []
  told_lines f sorts answered =
      let named_as : length f.named ≡ length (named (ask_pieces 0 table q rs)) =
      ap (λ (ns : List Named). length ns) sorts.named ∙ (named_count 0 rs ∙ ap (λ (ps : List (ℕ × ℕ)). length ps) (sym (ask_named 0 table q rs))) in
      ap₂ (λ (ls : List Line) (l : Line). ls ++ l ∷ []) (asked_are table rs f sorts answers count (sym all_leaves) ∙ sym (ask_lines 0 table q rs))
      (ap₂ (λ (n : ℕ) (gs : List Group). line.Answer n count (answer_lines q gs)) named_as answered)

  pub asks_all : {E : Type 0} (meaning : B → Meaning) (result : Result (Vec Line Global) E) → table ≡ place_among q.table x.names
      → IfOk result (λ lines. (f : Fanned) × Sorts rs f × (f.groups ≡ groups q over) × (lines.items ≡ query_lines count table q f)) → AsksAll meaning q x result (with_parts x x.leaves now)
  asks_all meaning result is told = record {
    pieces = pieces;
    prints = record {
      asks = ask_pieces 0 table q rs;
      rows = answer_lines q (groups q over);
      each = subst (λ (n : ℕ). AreAsked (place_among q.table x.names) q (range_with_len 0 n) (ask_pieces 0 table q rs)) all_leaves
          (subst (λ (t : ℕ). AreAsked t q (range_with_len 0 (length rs)) (ask_pieces 0 table q rs)) is (ask_prints 0 table q rs));
      are = refl;
    };
    goes = goes_and_says x table are within has (ask_calls 0 q rs) seats now set made meaning result answer tt (IfOk-weaker result _ _ (λ lines h. h.3 ∙ told_lines h.0 h.1 h.2) told);
    answers = λ histories go.
        let R : List Row = rows_of_named (λ leaf. base_states_in ys leaf table) (λ leaf. histories leaf table) (named pieces) in
        let same : R ≡ over = ap (rows_of_named (λ leaf. base_states_in ys leaf table) (λ leaf. histories leaf table)) named_are ∙ rows_same histories go in
        subst (λ (t : ℕ). AllByRecursion (AnswerIs q (rows_of_named (λ leaf. base_states_in ys leaf t) (λ leaf. histories leaf t) (named pieces))) pieces) is
        (all_more (AnswerIs q R) (ask_pieces 0 table q rs) (Says answer ∷ []) (ask_silent 0 table q R rs) (ap (λ (rs : List Row). answer_lines q (groups q rs)) (sym same), tt));
  }

-- ---- one row was asked, or none

-- nothing has become of the rows
pub same_rows : {B : Type 0} (x : Members B) (now : Vec (Vec SeatView Global) Global) → AreMembers x → lists_in now.items ≡ lists_in x.rows.items → AreMembers (with_parts x x.leaves now)
same_rows x now are same =
    with_rows x now are (subst (AreRows (length x.names) (leaf_count (fleet_in x))) (sym same) are.rows) (λ leaf below. subst (IsColumn leaf (row x.tables.now leaf)) (sym same) (are.columns leaf below))

module _ {B F : Type 0} (x : Members B) (table : ℕ) (q : Query) (now : Vec (Vec SeatView Global) Global) (asked : Result Fanned F) (are : AreMembers x) (within : table < length x.names) (has : HasSeats (holds_in x) table)
    (asks : AsksRow q x.tables.now table (lists_in x.rows.items) asked (lists_in now.items)) where
  pub members_row : AreMembers (with_parts x x.leaves now)
  members_row = ⊎_elim (λ h. same_rows x now are h.1) (λ h. members_asked x table are within has q h.0 h.1.replies now h.2 h.1.asked) asks

  module _ {E : Type 0} (meaning : B → Meaning) (result : Result (Vec Line Global) E) (is : table ≡ place_among q.table x.names) where
    -- the asks failed
    pub asks_refused : IsErr result → AsksAll meaning q x result (with_parts x x.leaves now) ⊎ (IsErr result × (holds_in (with_parts x x.leaves now) ≡ holds_in x))
    asks_refused err =
        ⊎_elim (λ h. inr (err, ap (λ (rs : List (List SeatView)). holds_from 0 x.tables.now x.leaves.items rs) h.1))
        (λ h. inl (asks_all x table are within has q h.0 h.1.replies now h.2 h.1.asked meaning result is (IfOk-from_err result _ err))) asks

-- the leaves were asked, and their lines are told
pub asks_told : {B E F : Type 0} (x : Members B) (table : ℕ) (q : Query) (now : Vec (Vec SeatView Global) Global) (asked : Result Fanned F) (are : AreMembers x) (within : table < length x.names) (has : HasSeats (holds_in x) table)
    (asks : AsksRow q x.tables.now table (lists_in x.rows.items) asked (lists_in now.items)) (meaning : B → Meaning) (result : Result (Vec Line Global) E) (is : table ≡ place_among q.table x.names)
    (f : Fanned) → asked ≡ Ok f
    → ((histories : ℕ → List Entry) → fan.SeatsGoOn (row (lists_in now.items) table) histories → IfOk asked (λ g. g.groups ≡ groups q (fan.partial (bases_in x.tables.now table) histories g.named)))
    → IfOk result (λ lines. lines.items ≡ query_lines (leaf_count (fleet_in x)) table q f)
    → AsksAll meaning q x result (with_parts x x.leaves now) ⊎ (IsErr result × (holds_in (with_parts x x.leaves now) ≡ holds_in x))
asks_told {B} {E} {F} x table q now asked are within has asks meaning result is f ok answered told =
    by (subst (λ (r : Result Fanned F). AsksRow q x.tables.now table (lists_in x.rows.items) r (lists_in now.items)) ok asks)
    (λ histories go. subst (λ (r : Result Fanned F). IfOk r (λ g. g.groups ≡ groups q (fan.partial (bases_in x.tables.now table) histories g.named))) ok (answered histories go))
  where
    by : AsksRow {E = F} q x.tables.now table (lists_in x.rows.items) (Ok f) (lists_in now.items)
        → ((histories : ℕ → List Entry) → fan.SeatsGoOn (row (lists_in now.items) table) histories → f.groups ≡ groups q (fan.partial (bases_in x.tables.now table) histories f.named))
        → AsksAll meaning q x result (with_parts x x.leaves now) ⊎ (IsErr result × (holds_in (with_parts x x.leaves now) ≡ holds_in x))
    by (inl h) over = absurd (true≢false (sym h.0))
    by (inr h) over =
        let rs = h.1.replies in
        let sorts : Sorts rs f = h.1.sorts in
        let seen : ℕ → List Entry = λ leaf. histories_of (holds_in (with_parts x x.leaves now)) leaf table in
        let row_now : row (lists_in now.items) table ≡ h.0 =
        ap (λ (ls : List (List SeatView)). row ls table) h.2 ∙ get_or-set_same (lists_in x.rows.items) table h.0 [] (omega (arith, within, are.rows.count)) in
        let go : fan.SeatsGoOn (row (lists_in now.items) table) seen =
        subst (λ (vs : List SeatView). fan.SeatsGoOn vs seen) (sym row_now) (seen_go_on x table are within has q h.0 rs now h.2 h.1.asked) in
        let groups_are = over seen go ∙ ap (λ (ns : List Named). groups q (fan.partial (bases_in x.tables.now table) seen ns)) sorts.named in
        inl (asks_all x table are within has q h.0 rs now h.2 h.1.asked meaning result is
        (IfOk-weaker result _ _ (λ lines lines_are. (f, sorts, groups_are, lines_are)) told))
