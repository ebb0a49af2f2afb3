-- What an ask of one leaf comes to.
use Rattle.std.proofs.Common.{◌≡◌, ℕ, ◌+◌, ◌-◌, ◌<◌, List, [], ◌∷◌, ◌++◌, length, take, Option, Some, Vec, Global, Err, refl, sym, ap, ap₂, subst, ◌∙◌, append_assoc, le_refl, arith}
use Rattle.std.specs.Prelude.{slice_get}
use Rattle.std.proofs.lemmas.List.{length-append, length-map, take-append-le, take_all}
use Rattle.leaf_model.specs.declared.queries.Query.{Query}
use Rattle.leaf_model.specs.declared.groups.Group.{Group}
use Rattle.leaf_model.specs.Groups.{groups}
use Rattle.berth_face.specs.Berth.{Meaning}
use Rattle.leaf_history.specs.Calls as call
use Rattle.leaf_history.specs.Replies as reply
use Rattle.leaf_history.specs.History.{Entry, HistoryState, after, contents_held}
use Rattle.table_state.specs.Tables.{IsHeld}
use Rattle.leaf_table.specs.declared.base.TableBase.{TableBase}
use Rattle.leaf_table.specs.declared.replies.Reply.{Reply}
use Rattle.leaf_table.specs.declared.replies.Reply.TheVariants as told
use Rattle.leaf_table.specs.Turns as turns
use Rattle.leaf_table.specs.Turns.{Shared, is_founded, start_of}
use Rattle.leaf_table.specs.Calls.{SeatView, Answered, IsToldAs, Made, base_seen, seen_of, state_of}
use Rattle.leaf_table.specs.Lists.{lists_in, row}
use Rattle.leaf_steward.proofs.Seating.{set_get}
use Rattle.script_text.specs.Commands.{leaf_count}
use Rattle.printed_lines.specs.declared.line.Line.{Line}
use Rattle.transcript.specs.Histories.{BaseState}
use Rattle.leaf_moves.specs.Holds.{Hold, base_states_in, histories_of}
use Rattle.leaf_deeds.specs.declared.leaf.OneLeaf.{OneLeaf}
use Rattle.player.specs.declared.members.Members.{Members}
use Rattle.player.specs.Crew.{AllPass, StillHas, column}
use Rattle.player.specs.Rows.{SeatRow, CallsTable, OnlyColumn, called_at}
use Rattle.player.specs.Stage.{hold_at}
use Rattle.player.specs.Lines.{reply_line}
use Rattle.player.specs.Members.{AreMembers, GoesWith, fleet_in, holds_in}
use Rattle.player.specs.Asked.{AreGroups, AreGroupsThen, AsksLeaf, IfGroups}
use Rattle.player.proofs.AskKnown.{base_states_at, histories_at}
use Rattle.player.proofs.CallPieces.{OneAsk, call_prints, one_ask}
use Rattle.player.proofs.Columns.{element_at}
use Rattle.player.proofs.HoldLists.{holds_at}
use Rattle.player.proofs.MemberSteps.{goes_called, with_parts}

-- ---- groups that were told

same_number : (n k : ℕ) (gs hs : List Group) → told.Groups n gs ≡ told.Groups k hs → n ≡ k
same_number n k gs hs is = cc

same_groups : (n k : ℕ) (gs hs : List Group) → told.Groups n gs ≡ told.Groups k hs → gs ≡ hs
same_groups n k gs hs is = cc

not_shut : (n k : ℕ) (gs : List Group) → told.Groups n gs ≡ told.Shut k → ⊥
not_shut n k gs is = cc

not_starved : (n k : ℕ) (gs : List Group) → told.Groups n gs ≡ told.NoMemory k → ⊥
not_starved n k gs is = cc

-- the entry that told them, and what the table held before it
record ToldGroups (base : Option TableBase) (q : Query) (number : ℕ) (gs : List Group) (w : SeatView) : Type 0 where
  before : List Entry
  entry : Entry
  seen : seen_of w ≡ before ++ entry ∷ []
  last : number ≡ length w.seen
  stands : IsHeld (contents_held (state_of base before))
  are : gs ≡ groups q (contents_held (state_of base before)).rows

told_groups : (base : Option TableBase) (v w : SeatView) (q : Query) (number : ℕ) (gs : List Group) → Answered base v (call.Ask q) (told.Groups number gs) w → ToldGroups base q number gs w
told_groups base v w q number gs answered = by answered.1 answered.2 answered.3
  where
    by : (r : reply.EntryReply) → Made base 0 v (call.Ask q) r w → IsToldAs (length w.seen) r (told.Groups number gs) → ToldGroups base q number gs w
    by (reply.Groups hs) made is = record {
      before = seen_of v ++ made.between;
      entry = record { caller = v.id; call = call.Ask q; reply = reply.Groups hs; clock = 0 };
      seen = made.seen;
      last = same_number number (length w.seen) gs hs is;
      stands = made.few.0;
      are = same_groups number (length w.seen) gs hs is ∙ made.allowed.1.1;
    }
    by reply.Shut made is = absurd (not_shut number (length w.seen) gs is)
    by reply.NoMemory made is = absurd (not_starved number (length w.seen) gs is)
    by reply.Full made is = absurd made.allowed.1
    by (reply.Added kept late) made is = absurd made.allowed.1
    by (reply.Removed k) made is = absurd made.allowed.1
    by (reply.Counted k) made is = absurd is
    by reply.Noted made is = absurd is

-- ---- before the entry

first_part : (before : List Entry) (e : Entry) (more : List Entry) → take (length before) ((before ++ e ∷ []) ++ more) ≡ before
first_part before e more =
    ap (take (length before)) (append_assoc before (e ∷ []) more)
    ∙ (take-append-le (length before) before (e ∷ more) (le_refl (length before)) ∙ take_all (length before) before (le_refl (length before)))

module _ {base : Option TableBase} {q : Query} {number : ℕ} {gs : List Group} {w : SeatView} (t : ToldGroups base q number gs w) where
  place_is : number ≡ length t.before + 1
  place_is =
      t.last ∙ (sym (length-map w.seen turns.told) ∙ (ap (λ (es : List Entry). length es) t.seen ∙ length-append t.before (t.entry ∷ [])))

  groups_are : AreGroups q number gs
  groups_are = record {
    some = omega (arith, place_is);
    rows = (contents_held (state_of base t.before)).rows;
    few = t.stands.few;
    are = t.are;
  }

  -- however the history goes on
  groups_then : (g : BaseState) (entries more : List Entry) → g ≡ record { founded = is_founded base; base = start_of base } → entries ≡ seen_of w ++ more → AreGroupsThen g entries q number gs
  groups_then g entries more base_state goes =
      let count : number - 1 ≡ length t.before = omega (arith, place_is) in
      let taken : take (number - 1) entries ≡ t.before =
      ap₂ (λ (n : ℕ) (es : List Entry). take n es) count (goes ∙ ap (λ (es : List Entry). es ++ more) t.seen) ∙ first_part t.before t.entry more in
      let same : after g.founded g.base (take (number - 1) entries) ≡ state_of base t.before = ap₂ (λ (h : BaseState) (es : List Entry). after h.founded h.base es) base_state taken in
      record {
        held = subst (λ (s : HistoryState). IsHeld (contents_held s)) (sym same) t.stands;
        are = t.are ∙ ap (λ (s : HistoryState). groups q (contents_held s).rows) (sym same);
      }

-- ---- whatever was told

of_some : (base : Option TableBase) (v w : SeatView) (q : Query) (answer : Reply) → Answered base v (call.Ask q) answer w → IfGroups answer (AreGroups q)
of_some base v w q (told.Groups number gs) answered = groups_are (told_groups base v w q number gs answered)
of_some base v w q (told.Added number kept late) answered = tt
of_some base v w q (told.Removed number rows) answered = tt
of_some base v w q (told.Shut number) answered = tt
of_some base v w q (told.Full number) answered = tt
of_some base v w q (told.NoMemory number) answered = tt
of_some base v w q told.Worn answered = tt

of_then : (base : Option TableBase) (v w : SeatView) (q : Query) (answer : Reply) (g : BaseState) (entries more : List Entry) → Answered base v (call.Ask q) answer w
    → g ≡ record { founded = is_founded base; base = start_of base } → entries ≡ seen_of w ++ more → IfGroups answer (AreGroupsThen g entries q)
of_then base v w q (told.Groups number gs) g entries more answered base_state goes = groups_then (told_groups base v w q number gs answered) g entries more base_state goes
of_then base v w q (told.Added number kept late) g entries more answered base_state goes = tt
of_then base v w q (told.Removed number rows) g entries more answered base_state goes = tt
of_then base v w q (told.Shut number) g entries more answered base_state goes = tt
of_then base v w q (told.Full number) g entries more answered base_state goes = tt
of_then base v w q (told.NoMemory number) g entries more answered base_state goes = tt
of_then base v w q told.Worn g entries more answered base_state goes = tt

-- ---- the leaf of a crew

module _ {B : Type 0} (x : Members B) (number table : ℕ) (q : Query) (answer : Reply) (rows : Vec (Vec SeatView Global) Global) (are : AreMembers x) (within : number < leaf_count (fleet_in x))
    (only : OnlyColumn number (lists_in x.rows.items) (lists_in rows.items)) (below : table < length x.names)
    (tables : List Shared) (own : tables ≡ row x.tables.now number) (made : CallsTable table (call.Ask q) (called_at number tables (lists_in x.rows.items)) answer (called_at number tables (lists_in rows.items)))
    (meaning : B → Meaning) where
  calls : CallsTable table (call.Ask q) (called_at number (row x.tables.now number) (lists_in x.rows.items)) answer (called_at number (row x.tables.now number) (lists_in rows.items))
  calls = subst (λ (ts : List Shared). CallsTable table (call.Ask q) (called_at number ts (lists_in x.rows.items)) answer (called_at number ts (lists_in rows.items))) own made

  abbrev ys : List (Hold B)
  ys = holds_in (with_parts x x.leaves rows)

  there : (one : Option (OneLeaf B)) × (slice_get x.leaves.items number ≡ Some one)
  there = element_at x.leaves.items number (omega (arith, within, are.leaves))

  abbrev then : Hold B
  then = hold_at number x.tables.now (lists_in rows.items) there.0

  stands : slice_get ys number ≡ Some then
  stands = holds_at 0 number number x.tables.now x.leaves.items there.0 (lists_in rows.items) (omega arith) there.1

  seat_then : slice_get (column number (lists_in rows.items)) table ≡ Some (Some calls.after)
  seat_then =
      ap (λ (c : SeatRow). slice_get c.seats table) calls.now ∙ set_get (column number (lists_in x.rows.items)) table (Some calls.before) (Some calls.after) calls.was

  seen_then : histories_of ys number table ≡ seen_of calls.after
  seen_then = histories_at ys number table then calls.after stands seat_then

  base_state_then : base_states_in ys number table ≡ record { founded = is_founded (base_seen calls.shared); base = start_of (base_seen calls.shared) }
  base_state_then = base_states_at ys number table then calls.shared stands calls.at

  asked : OneAsk x.names number table q (called_at number (row x.tables.now number) (lists_in x.rows.items)) answer (called_at number (row x.tables.now number) (lists_in rows.items))
  asked = one_ask x.names number table q (called_at number (row x.tables.now number) (lists_in x.rows.items)) (called_at number (row x.tables.now number) (lists_in rows.items)) answer calls below

  goes_asked : GoesWith {E = Unit {0}} meaning x.names (holds_in x) (Err tt) (asked.calls.piece ∷ []) ys
  goes_asked = goes_called x number rows are within only meaning table (call.Ask q) (Err tt) asked.calls

  pub still_asked : StillHas (holds_in x) ys
  still_asked = goes_asked.still

  pub time_asked : AllPass meaning (holds_in x) ys
  time_asked = goes_asked.time

  asks : AsksLeaf meaning x.names number table q (holds_in x) (reply_line number table answer) answer ys
  asks = record {
    piece = asked.calls.piece;
    prints = call_prints number table (call.Ask q) asked.calls.step.reply asked.calls.piece asked.calls.step.says;
    line_is = asked.line_is;
    tells = refl;
    fits = asked.fits;
    goes = goes_asked.goes;
    counted = goes_asked.counted;
    groups_are = of_some (base_seen calls.shared) calls.before calls.after q answer calls.answered;
    over = λ histories go.
        let more = go number table in
        of_then (base_seen calls.shared) calls.before calls.after q answer (base_states_in ys number table) (histories number table) more.0 calls.answered base_state_then
        (more.1 ∙ ap (λ (es : List Entry). es ++ more.0) seen_then);
  }

  pub asks_leaf : (line : Line) → line ≡ reply_line number table answer → AsksLeaf meaning x.names number table q (holds_in x) line answer ys
  asks_leaf line is = subst (λ (l : Line). AsksLeaf meaning x.names number table q (holds_in x) l answer ys) (sym is) asks
