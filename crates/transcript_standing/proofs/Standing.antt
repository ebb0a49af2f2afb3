-- Where standing queries stand behind the items of a transcript: a fresh one knows the rows behind the last entry that
-- was printed of its table.
use Rattle.std.proofs.Common.{◌≡◌, ◌⊎◌, inl, inr, ℕ, zero, suc, ◌+◌, ◌-◌, ◌<◌, ◌≤◌, ◌||◌, Bool, true, false, true≢false, List, [], ◌∷◌, ◌++◌, length, map, refl, sym, ap, ap₂, subst, ◌∙◌, arith, Option, Some}
use Rattle.std.specs.Prelude.{MatchBool, not, slice_get, ◌&&◌}
use Rattle.std.specs.List.{AllByRecursion, list_any}
use Rattle.std.proofs.lemmas.Grind.{flat_map-append}
use Rattle.std.proofs.lemmas.List.Sums.{fold-append}
use Rattle.std.proofs.lemmas.Option.{same_Some}
use Rattle.leaf_history.specs.History.{Entry, LegalFrom}
use Rattle.region_layout.specs.Names.{AreNames}
use Rattle.script_text.specs.declared.command.Command.{Command}
use Rattle.script_text.specs.declared.fleet.FleetShape.{FleetShape}
use Rattle.script_text.specs.declared.item.Item.{Item}
use Rattle.script_text.specs.Commands.{leaf_count}
use Rattle.printed_lines.specs.declared.line.Line.{Line}
use Rattle.standing_query.specs.States.{StandingState}
use Rattle.standing_feed.specs.declared.follower.Follower.{Follower}
use Rattle.standing_feed.specs.declared.heard.Heard.{Heard}
use Rattle.standing_feed.specs.declared.meant.Meant.{Meant}
use Rattle.standing_feed.specs.Hearing.{TablePlace, heard, meant_in}
use Rattle.standing_feed.specs.Following.{FollowAll, Follows, Heeds, HeedsAll, HeedsInOrder, table_place_of}
use Rattle.transcript.specs.Pieces.{Piece, Played, PlayedItem, One, all_pieces, item_lines, item_of, pieces_in, plays_in, plays_of}
use Rattle.transcript.specs.Shapes.{Prints}
use Rattle.transcript.specs.Histories.{BaseState, InOrder, IsHistoryOf, Shown, shown}
use Rattle.transcript.specs.Answers.{Answers}
use Rattle.transcript.specs.Transcript.{Known, Transcript, base_states_of}
use Rattle.transcript.specs.Telling.{StandingQuery, declared, ends_state, has_told, is_ended, is_fresh, is_fresh_behind, last_number}
use Rattle.transcript_standing.specs.Followed.{DoesItself, IsFollower, IsPlayable}
use Rattle.transcript_standing.proofs.Lists.{All-both, All-reordered}
use Rattle.transcript_standing.proofs.Numbers.{IsStretch, counts_up, stretch_of_item}
use Rattle.transcript_standing.proofs.HeardPieces.{IsProper, ItemOwn, heard_of}
use Rattle.transcript_standing.proofs.Heard.{heard_shown}
use Rattle.transcript_standing.proofs.Feeding.{FedBehind, HaveTimes, Knows}
use Rattle.transcript_standing.proofs.Heeding.{heeds_on}
use Rattle.transcript_standing.proofs.Times.{heard_times, proper_lines}

-- ---- states that hear

heeds_query : (s : StandingState) (h : Heard) (t : StandingState) → Heeds s h t → t.query ≡ s.query
heeds_query s h t (Heeds.known old same) = ap (λ (x : StandingState). x.query) same
heeds_query s h t (Heeds.next new fed) = fed.query
heeds_query s h t (Heeds.missed past lost) = lost.query

all_query : (s : StandingState) (hs : List Heard) (t : StandingState) → HeedsAll s hs t → t.query ≡ s.query
all_query s hs t (HeedsAll.none a b c empty same) = ap (λ (x : StandingState). x.query) same
all_query s hs t (HeedsAll.more a b c h others between first rest is) = all_query between others t rest ∙ heeds_query s h between first

-- Entries that it knows change nothing.
heeds_known : (s : StandingState) (h : Heard) (t : StandingState) → h.number ≤ s.upto → Heeds s h t → t ≡ s
heeds_known s h t number (Heeds.known old same) = same
heeds_known s h t number (Heeds.next new fed) = absurd (omega (arith, number, new))
heeds_known s h t number (Heeds.missed past lost) = absurd (omega (arith, number, past))

abbrev AreKnown : StandingState → List Heard → Type 0
AreKnown s hs = AllByRecursion (λ (h : Heard). h.number ≤ s.upto) hs

all_known : (s : StandingState) (hs : List Heard) (t : StandingState) → AreKnown s hs → HeedsAll s hs t → t ≡ s
all_known s hs t old (HeedsAll.none a b c empty same) = same
all_known s hs t old (HeedsAll.more a b c h others between first rest is) =
    let known : AreKnown s (h ∷ others) = subst (AreKnown s) is old in
    let same : between ≡ s = heeds_known s h between known.0 first in
    all_known between others t (subst (λ (x : StandingState). AreKnown x others) (sym same) known.1) rest ∙ same

pub order_query : (s : StandingState) (hs : List Heard) (t : StandingState) → HeedsInOrder s hs t → t.query ≡ s.query
order_query s hs t o = all_query s o.in_order t o.heeds

pub order_known : (s : StandingState) (hs : List Heard) (t : StandingState) → AreKnown s hs → HeedsInOrder s hs t → t ≡ s
order_known s hs t old o = all_known s o.in_order t (All-reordered (λ (h : Heard). h.number ≤ s.upto) hs o.in_order o.same old) o.heeds

-- ---- followers that hear

-- a follower and its notes, and what it came to
pub record Followed (notes : List (List Meant)) (lines : List Line) (olds : List Follower) (i : ℕ) (new : Follower) : Type 0 where
  pub old : Follower
  pub at : slice_get olds i ≡ Some old
  pub went : ((calls : List Meant) × (slice_get notes i ≡ Some calls) × Follows calls lines old new) ⊎ ((length notes ≤ i) × (new ≡ old))

pub followed_at : (notes : List (List Meant)) (lines : List Line) (olds news : List Follower) (i : ℕ) (new : Follower) → FollowAll notes lines olds news → slice_get news i ≡ Some new → Followed notes lines olds i new
followed_at [] lines olds news i new all at = record { old = new; at = subst (λ (fs : List Follower). slice_get fs i ≡ Some new) all at; went = inr (omega arith, refl) }
followed_at (calls ∷ notes) lines [] news i new all at = absurd all
followed_at (calls ∷ notes) lines (old ∷ olds) [] i new all at = absurd all
followed_at (calls ∷ notes) lines (old ∷ olds) (n ∷ news) zero new all at = record {
  old = old;
  at = refl;
  went = inl (calls, refl, subst (λ (f : Follower). Follows calls lines old f) (same_Some n new at) all.0);
}
followed_at (calls ∷ notes) lines (old ∷ olds) (n ∷ news) (suc i) new all at =
    let more = followed_at notes lines olds news i new all.1 at in
    record { old = more.old; at = more.at; went = later more.old more.went }
  where
    later : (was : Follower) → ((c : List Meant) × (slice_get notes i ≡ Some c) × Follows c lines was new) ⊎ ((length notes ≤ i) × (new ≡ was))
        → ((c : List Meant) × (slice_get (calls ∷ notes) (suc i) ≡ Some c) × Follows c lines was new) ⊎ ((length (calls ∷ notes) ≤ suc i) × (new ≡ was))
    later was (inl w) = inl w
    later was (inr w) = inr (omega (arith, w.0), w.1)

pub as_many : (notes : List (List Meant)) (lines : List Line) (olds news : List Follower) → FollowAll notes lines olds news → length news ≡ length olds
as_many [] lines olds news all = ap length all
as_many (calls ∷ notes) lines [] news all = absurd all
as_many (calls ∷ notes) lines (old ∷ olds) [] all = absurd all
as_many (calls ∷ notes) lines (old ∷ olds) (n ∷ news) all = ap suc (as_many notes lines olds news all.1)

-- ---- as the transcript reads them

abbrev pub standing_of : Follower → StandingQuery
standing_of f = record { leaf = f.leaf; table = f.table; query = f.standing.query }

-- a stale one stays as it is, and a fresh one heeds what is heard
abbrev HearsIf : List Meant → List Line → Follower → Follower → Bool → Type 0
HearsIf calls lines old new stale = MatchBool stale (new ≡ old) (HeedsInOrder old.standing (heard (table_place_of old) calls lines) new.standing)

pub stale_stays : {calls : List Meant} {lines : List Line} {old new : Follower} → Follows calls lines old new → old.standing.stale ≡ true → new ≡ old
stale_stays {calls} {lines} {old} {new} follows stale = subst (HearsIf calls lines old new) stale follows.hears

pub fresh_heeds : {calls : List Meant} {lines : List Line} {old new : Follower} → Follows calls lines old new → old.standing.stale ≡ false
    → HeedsInOrder old.standing (heard (table_place_of old) calls lines) new.standing
fresh_heeds {calls} {lines} {old} {new} follows fresh = subst (HearsIf calls lines old new) fresh follows.hears

-- it is of the same table and asks the same
hears_same : (calls : List Meant) (lines : List Line) (old new : Follower) → Follows calls lines old new → new.standing.query ≡ old.standing.query
hears_same calls lines old new follows = by old.standing.stale refl
  where
    by : (b : Bool) → old.standing.stale ≡ b → new.standing.query ≡ old.standing.query
    by true stale = ap (λ (f : Follower). f.standing.query) (stale_stays follows stale)
    by false fresh = order_query old.standing (heard (table_place_of old) calls lines) new.standing (fresh_heeds follows fresh)

pub standing_same : (calls : List Meant) (lines : List Line) (old new : Follower) → Follows calls lines old new → standing_of new ≡ standing_of old
standing_same calls lines old new follows =
    let leaf : new.leaf ≡ old.leaf = ap (λ (p : TablePlace). p.leaf) follows.place in
    let table : new.table ≡ old.table = ap (λ (p : TablePlace). p.table) follows.place in
    let query = hears_same calls lines old new follows in
    cc

pub standings_same : (notes : List (List Meant)) (lines : List Line) (olds news : List Follower) → FollowAll notes lines olds news → map standing_of news ≡ map standing_of olds
standings_same [] lines olds news all = ap (λ (fs : List Follower). map standing_of fs) all
standings_same (calls ∷ notes) lines [] news all = absurd all
standings_same (calls ∷ notes) lines (old ∷ olds) [] all = absurd all
standings_same (calls ∷ notes) lines (old ∷ olds) (n ∷ news) all = ap₂ (λ (x : StandingQuery) (xs : List StandingQuery). x ∷ xs) (standing_same calls lines old n all.0) (standings_same notes lines olds news all.1)

-- ---- behind the items of a transcript

abbrev pub alone : Command → List Piece → PlayedItem
alone c pieces = One (record { command = c; pieces = pieces })

module _ {fleet : FleetShape} {known : ℕ → Option Known} {items : List Item} {out : List ℕ} (t : Transcript fleet known items out) where
  abbrev pub base_state : Follower → BaseState
  base_state f = base_states_of fleet known f.leaf f.table

  abbrev pub entries : Follower → List Entry
  entries f = t.histories f.leaf f.table

  -- what the queries do at an item
  abbrev pub Does : PlayedItem → List Follower → List Follower → Type 0
  Does x fs mids = DoesItself fleet (base_states_of fleet known) t.histories x fs mids

  -- the number of the last entry of its table that these items printed
  abbrev pub last : Follower → List PlayedItem → ℕ
  last f before = last_number (shown f.leaf f.table (all_pieces before))

  -- it knows the rows behind the last entry that these items printed of this table
  abbrev pub KnowsAt : List PlayedItem → Follower → ℕ → ℕ → Type 0
  KnowsAt before f leaf table =
      let number = last_number (shown leaf table (all_pieces before)) in
      (f.standing.upto ≡ number) × Knows (base_states_of fleet known leaf table) (t.histories leaf table) number f.standing

  -- a standing query stands so that it tells what it should
  pub record StandsAt (before : List PlayedItem) (i : ℕ) (f : Follower) : Type 0 where
    pub is : IsFollower fleet f
    pub named : slice_get fleet.names f.table ≡ Some f.standing.query.table
    pub fresh : is_fresh i (standing_of f) before ≡ not f.standing.stale
    pub knows : f.standing.stale ≡ false → KnowsAt before f f.leaf f.table

  pub record AllStand (before : List PlayedItem) (fs : List Follower) : Type 0 where
    pub are : declared fleet before ≡ map standing_of fs
    pub each : (i : ℕ) (f : Follower) → slice_get fs i ≡ Some f → StandsAt before i f
    pub none : (i : ℕ) (s : StandingQuery) → length fs ≤ i → is_fresh i s before ≡ false

  -- ---- one item of it

  module _ (before : List PlayedItem) (x : PlayedItem) (behind : List PlayedItem) (cut : t.played ≡ before ++ x ∷ behind) where
    plays_cut : plays_in t.played ≡ plays_in before ++ (plays_of x ++ plays_in behind)
    plays_cut = ap (λ (ps : List PlayedItem). plays_in ps) cut ∙ flat_map-append plays_of before (x ∷ behind)

    of_item : (P : Played → Type 0) → AllByRecursion P (plays_in t.played) → AllByRecursion P (plays_of x)
    of_item P all = (All-both P (plays_of x) (plays_in behind) (All-both P (plays_in before) (plays_of x ++ plays_in behind) (subst (AllByRecursion P) plays_cut all)).1).0

    pub prints : AllByRecursion (λ (p : Played). Prints fleet p.command p.pieces) (plays_of x)
    prints = of_item (λ (p : Played). Prints fleet p.command p.pieces) t.prints

    pub answers : AllByRecursion (Answers fleet (base_states_of fleet known) t.histories) (plays_of x)
    answers = of_item (Answers fleet (base_states_of fleet known) t.histories) t.answers

    pub fresh_more : (i : ℕ) (s : StandingQuery) → is_fresh i s (before ++ x ∷ []) ≡ ((is_fresh i s before || has_told i x) && not (is_ended s (pieces_in (plays_of x))))
    fresh_more i s = fold-append (is_fresh_behind i s) false before (x ∷ [])

    -- of a table of the fleet
    module _ (leaf table : ℕ) (below : leaf < leaf_count fleet) (within : table < length fleet.names) where
      history : IsHistoryOf (base_states_of fleet known leaf table) (shown leaf table (all_pieces (before ++ x ∷ behind))) (t.histories leaf table)
      history = subst (λ (ps : List PlayedItem). IsHistoryOf (base_states_of fleet known leaf table) (shown leaf table (all_pieces ps)) (t.histories leaf table)) cut (t.one_history leaf table below within)

      order : InOrder leaf table 0 (before ++ x ∷ behind) (length (t.histories leaf table))
      order = subst (λ (ps : List PlayedItem). InOrder leaf table 0 ps (length (t.histories leaf table))) cut (t.in_order leaf table below within)

      pub legal : LegalFrom (base_states_of fleet known leaf table).founded (base_states_of fleet known leaf table).base (t.histories leaf table)
      legal = history.legal

      pub stretch : IsStretch (t.histories leaf table) (last_number (shown leaf table (all_pieces before))) (last_number (shown leaf table (all_pieces (before ++ x ∷ []))))
          (shown leaf table (pieces_in (plays_of x)))
      stretch = stretch_of_item leaf table (base_states_of fleet known leaf table) (t.histories leaf table) before x behind history order

      pub proper : AllByRecursion IsProper (shown leaf table (pieces_in (plays_of x)))
      proper = proper_lines (base_states_of fleet known leaf table).founded (base_states_of fleet known leaf table).base (t.histories leaf table) (shown leaf table (pieces_in (plays_of x))) legal stretch.show

    -- ---- a follower that hears it

    -- a stale one stays so, unless it told rows
    pub stays_stale : (i : ℕ) (f : Follower) → StandsAt before i f → f.standing.stale ≡ true → has_told i x ≡ false → StandsAt (before ++ x ∷ []) i f
    stays_stale i f stands stale untold = record {
      is = stands.is;
      named = stands.named;
      fresh = fresh_more i (standing_of f)
          ∙ ap₂ (λ (a b : Bool). (a || b) && not (is_ended (standing_of f) (pieces_in (plays_of x)))) (stands.fresh ∙ ap not stale) untold
          ∙ ap not (sym stale);
      knows = λ fresh. absurd (true≢false (sym stale ∙ fresh));
    }

    module _ (names : AreNames fleet.names) (may : IsPlayable x) (own : (p : TablePlace) → ItemOwn p x) where
      -- a fresh one comes to the rows behind it, unless it ended its state
      pub hears_item : (i : ℕ) (f g : Follower) → StandsAt before i f → f.standing.stale ≡ false → Follows (meant_in (table_place_of f) (item_of x)) (item_lines x) f g → StandsAt (before ++ x ∷ []) i g
      hears_item i f g stands fresh follows =
          let pieces : List Piece = pieces_in (plays_of x) in
          let ss : List Shown = shown f.leaf f.table pieces in
          let st = stretch f.leaf f.table stands.is.0 stands.is.1 in
          let same : heard (table_place_of f) (meant_in (table_place_of f) (item_of x)) (item_lines x) ≡ map heard_of ss =
          heard_shown fleet (base_states_of fleet known) t.histories x (table_place_of f) names.distinct stands.is.0 stands.named may prints answers (own (table_place_of f)) (proper f.leaf f.table stands.is.0 stands.is.1) in
          let order = fresh_heeds follows fresh in
          let knows = stands.knows fresh in
          let fed : FedBehind (base_state f) (entries f) ss (last f (before ++ x ∷ [])) f.standing g.standing =
          heeds_on (base_state f) (entries f) (legal f.leaf f.table stands.is.0 stands.is.1) ss (last f before) (last f (before ++ x ∷ [])) f.standing g.standing (counts_up st) st.show
          (subst HaveTimes same (heard_times (table_place_of f) x may)) knows.0 (λ none. knows.1)
          (subst (λ (hs : List Heard). HeedsInOrder f.standing hs g.standing) same order) in
          let stale : g.standing.stale ≡ is_ended (standing_of f) pieces = fed.stale ∙ ap (λ (b : Bool). b || list_any (λ (e : Shown). ends_state e.call e.said) ss) fresh in
          record {
            is = subst (λ (p : TablePlace). (p.leaf < leaf_count fleet) × (p.table < length fleet.names)) (sym follows.place) stands.is;
            named = subst (λ (p : TablePlace). slice_get fleet.names p.table ≡ Some p.name) (sym follows.place) stands.named;
            fresh = ap (λ (s : StandingQuery). is_fresh i s (before ++ x ∷ [])) (standing_same (meant_in (table_place_of f) (item_of x)) (item_lines x) f g follows)
                ∙ (fresh_more i (standing_of f)
                ∙ (ap (λ (b : Bool). (b || has_told i x) && not (is_ended (standing_of f) pieces)) (stands.fresh ∙ ap not fresh) ∙ ap not (sym stale)));
            knows = λ now. subst (λ (p : TablePlace). KnowsAt (before ++ x ∷ []) g p.leaf p.table) (sym follows.place) (fed.upto, fed.means now);
          }
