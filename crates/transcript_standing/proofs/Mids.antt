-- What each standing query is behind a command that declares or tells one, before it follows the lines.
use Rattle.std.proofs.Common.{◌≡◌, inl, inr, ℕ, zero, suc, ◌+◌, ◌≤◌, ◌||◌, Bool, true, false, true≢false, List, [], ◌∷◌, ◌++◌, length, map, refl, sym, ap, ap₂, subst, ◌∙◌, arith, eq-eqb, eqb-true, Option, Some}
use Rattle.std.specs.Prelude.{if◌then◌else◌, nat_lt, option_to_list, not, slice_get, slice_set, ◌&&◌, ◌==◌}
use Rattle.std.specs.List.{AllByRecursion, flat_map, list_any}
use Rattle.std.proofs.Math.Bool.{and-false}
use Rattle.std.proofs.lemmas.Bool.{eqb-false, ltb-false, ltb-true}
use Rattle.std.proofs.lemmas.Grind.{flat_map-append}
use Rattle.std.proofs.lemmas.List.{append-nil}
use Rattle.std.proofs.lemmas.List.Sorted.{IsNonDecreasingBy-short, IsPermutation-refl}
use Rattle.std.proofs.lemmas.Option.{same_Some}
use Rattle.leaf_model.specs.declared.groups.Group.{Group}
use Rattle.leaf_model.specs.declared.queries.Query.{Query}
use Rattle.leaf_model.specs.Content.{Contents}
use Rattle.leaf_model.specs.Groups.{groups}
use Rattle.leaf_history.specs.Calls as call
use Rattle.leaf_history.specs.History.{Entry}
use Rattle.region_layout.specs.Names.{AreNames}
use Rattle.script_text.specs.declared.command.Command.{Command}
use Rattle.script_text.specs.declared.command.Command.TheVariants as command
use Rattle.script_text.specs.declared.fleet.FleetShape.{FleetShape}
use Rattle.script_text.specs.declared.item.Item.{Item}
use Rattle.printed_lines.specs.declared.line.Said.TheVariants.{Asked}
use Rattle.printed_lines.specs.declared.line.Line.{Line}
use Rattle.printed_lines.specs.declared.line.Line.TheVariants as line
use Rattle.standing_query.specs.Spread.{spread}
use Rattle.standing_query.specs.States.{StandingState}
use Rattle.standing_feed.specs.declared.follower.Follower.{Follower}
use Rattle.standing_feed.specs.declared.heard.Heard.{Heard}
use Rattle.standing_query.specs.declared.fed.Fed.TheVariants as fed
use Rattle.standing_feed.specs.Hearing.{TablePlace, heard, heard_from, is_at, no_call_yet, some_when}
use Rattle.standing_feed.specs.Following.{new_follower, table_place_of, settled}
use Rattle.transcript.specs.Pieces.{Piece, Called, Says, Played, PlayedItem, One, Burst, all_pieces, item_lines, lines_in, pieces_in, place_among, plays_in, plays_of}
use Rattle.transcript.specs.Shapes.{CallPiece}
use Rattle.transcript.specs.Histories.{BaseState, Shown, shown, shown_if}
use Rattle.transcript.specs.Transcript.{Known, Transcript, base_states_of}
use Rattle.transcript.specs.Telling.{StandingQuery, declared, declared_of, ends_state, has_told, is_ended, last_number, tells_rows}
use Rattle.transcript_standing.specs.Followed.{AreAsked, AreTimes, DeclaresOne, DoesItself, IsOfLane, IsPlayable, TellsItself, TellsOne}
use Rattle.transcript_standing.proofs.Lists.{get_before, get_behind, get_beside_set, get_of_set, name_there}
use Rattle.transcript_standing.proofs.Numbers.{IsStretch, counts_up}
use Rattle.transcript_standing.proofs.HeardPieces.{Hears, HearsOwn, ItemOwn, call_unmeant, hears_more, says_hears}
use Rattle.transcript_standing.proofs.Feeding.{Knows, NoneBelow, asked_leaves, contents_behind, contents_before}
use Rattle.transcript_standing.proofs.Standing.{AllStand, Does, StandsAt, alone, fresh_more, legal, standing_of, stretch}

-- ---- what is heard of the commands of standing queries

module _ (p : TablePlace) (fleet : FleetShape) (base_states : ℕ → ℕ → BaseState) (histories : ℕ → ℕ → List Entry) where
  abbrev Own : List Piece → Type 0
  Own pieces = Hears p (no_call_yet []) pieces (no_call_yet [])

  tells_own : (standing : ℕ) (f : Follower) (pieces : List Piece) (g : Follower) → TellsItself fleet base_states histories standing f pieces g → Own pieces
  tells_own standing f pieces g (TellsItself.fresh told fresh are tells same) =
      subst Own (sym (are ∙ ap (λ (l : Line). Says l ∷ []) tells.1)) (says_hears (line.Told standing f.standing.upto tells.0) tt)
  tells_own standing f pieces g (TellsItself.made_fresh number gs told stale are asked tells same) =
      let piece : Piece = Called f.leaf f.table (call.Ask (spread f.standing.query)) number Asked in
      let ask : CallPiece f.leaf f.table (call.Ask (spread f.standing.query)) piece = inl (number, Asked, refl) in
      subst Own (sym (are ∙ ap (λ (l : Line). piece ∷ Says l ∷ []) tells.1)) (hears_more (call_unmeant ask) (says_hears (line.Told standing number tells.0) tt))
  tells_own standing f pieces g (TellsItself.stays_stale asked why stale ask untold are same) =
      subst Own (sym are) (hears_more (call_unmeant ask) (says_hears (line.Untold standing why) tt))

  one_own : (c : Command) (pieces : List Piece) (fs mids : List Follower) → DoesItself fleet base_states histories (One (record { command = c; pieces = pieces })) fs mids → HearsOwn p c pieces
  one_own (command.Standing leaf q) pieces fs mids does = subst Own (sym does.pieces_are) (says_hears (line.Declared (length fs)) tt)
  one_own (command.Tell standing) pieces fs mids does = tells_own standing does.old pieces does.new does.tells
  one_own _ pieces fs mids does = tt

  pub item_own : (x : PlayedItem) (fs mids : List Follower) → DoesItself fleet base_states histories x fs mids → ItemOwn p x
  item_own (One q) fs mids does = one_own q.command q.pieces fs mids does
  item_own (Burst lanes) fs mids does = tt

-- ---- small things

abbrev made : ℕ → ℕ → StandingState → Follower
made leaf table standing = record { leaf = leaf; table = table; standing = standing }

pub same_follower : (g f : Follower) → g.leaf ≡ f.leaf → g.table ≡ f.table → g.standing ≡ f.standing → g ≡ f
same_follower g f leaf table standing =
    ap (λ (n : ℕ). made n g.table g.standing) leaf ∙ (ap (λ (n : ℕ). made f.leaf n g.standing) table ∙ ap (λ (s : StandingState). made f.leaf f.table s) standing)

-- no line of an ask tells rows
asked_tells_none : (leaf table : ℕ) (q : Query) (p : Piece) (told : Line) → CallPiece leaf table (call.Ask q) p → list_any tells_rows (p ∷ Says told ∷ []) ≡ list_any tells_rows (Says told ∷ [])
asked_tells_none leaf table q p told (inl k) = ap (λ (x : Piece). list_any tells_rows (x ∷ Says told ∷ [])) k.2
asked_tells_none leaf table q p told (inr is) = ap (λ (x : Piece). list_any tells_rows (x ∷ Says told ∷ [])) is

-- the one line of an ask that was answered
abbrev pub asked_line : ℕ → Query → Shown
asked_line number q = record { number = number; call = Some (call.Ask q); said = Asked }

pub asked_shown : (leaf table number : ℕ) (q : Query) (told : Line) (pieces : List Piece) → pieces ≡ Called leaf table (call.Ask q) number Asked ∷ Says told ∷ []
    → shown leaf table pieces ≡ asked_line number q ∷ []
asked_shown leaf table number q told pieces are =
    ap (λ (ps : List Piece). shown leaf table ps) are ∙ ap₂ (λ (x y : Bool). shown_if (x && y) (asked_line number q) ++ []) (eq-eqb leaf leaf refl) (eq-eqb table table refl)

-- a stretch of one line has the next number
one_number : (es : List Entry) (low high : ℕ) (s : Shown) → IsStretch es low high (s ∷ []) → (s.number ≡ low + 1) × (high ≡ low + 1)
one_number es low high s st = counts_up st (s ∷ []) (IsPermutation-refl (s ∷ [])) (IsNonDecreasingBy-short (λ (z : Shown). z.number) (s ∷ []) (omega arith))

-- what is heard from the lines of such an ask has its number
asked_heard : (p : TablePlace) (leaf table number : ℕ) (told : Line) (rows : List (List ℕ)) (standing upto : ℕ) → told ≡ line.Told standing upto rows
    → AllByRecursion (λ (h : Heard). h.number ≤ number) (heard p [] (line.Entry leaf table number Asked ∷ told ∷ []))
asked_heard p leaf table number told rows standing upto is =
    subst (λ (l : Line). AllByRecursion (λ (h : Heard). h.number ≤ number) (heard p [] (line.Entry leaf table number Asked ∷ l ∷ []))) (sym is) (by (is_at p leaf table))
  where
    by : (b : Bool) → AllByRecursion (λ (h : Heard). h.number ≤ number) (option_to_list (some_when b (record { number = number; fed = fed.Other })) ++ heard_from p (if b then no_call_yet [] else no_call_yet []) (line.Told standing upto rows ∷ []))
    by true = (omega arith, tt)
    by false = tt

-- the standing queries of commands
pub map_set : (fs : List Follower) (i : ℕ) (f g : Follower) → slice_get fs i ≡ Some f → standing_of g ≡ standing_of f → map standing_of (slice_set fs i g) ≡ map standing_of fs
map_set [] i f g at same = refl
map_set (h ∷ fs) zero f g at same = ap (λ (s : StandingQuery). s ∷ map standing_of fs) (same ∙ ap standing_of (sym (same_Some h f at)))
map_set (h ∷ fs) (suc i) f g at same = ap (λ (ss : List StandingQuery). standing_of h ∷ ss) (map_set fs i f g at same)

module _ (fleet : FleetShape) where
  pub declared_more : (before : List PlayedItem) (x : PlayedItem) → declared fleet (before ++ x ∷ []) ≡ declared fleet before ++ declared fleet (x ∷ [])
  declared_more before x =
      ap (λ (ps : List Played). flat_map (λ (p : Played). declared_of fleet p.command) ps) (flat_map-append plays_of before (x ∷ []))
      ∙ flat_map-append (λ (p : Played). declared_of fleet p.command) (plays_in before) (plays_in (x ∷ []))

  lane_declares : (c : Command) → IsOfLane c → declared_of fleet c ≡ []
  lane_declares (command.Standing leaf q) is = absurd is
  lane_declares (command.Tell standing) is = absurd is
  lane_declares _ is = refl

  plays_declare : (ps : List Played) → AllByRecursion (λ (p : Played). IsOfLane p.command) ps → flat_map (λ (p : Played). declared_of fleet p.command) ps ≡ []
  plays_declare [] all = refl
  plays_declare (p ∷ ps) all = ap₂ (λ (a b : List StandingQuery). a ++ b) (lane_declares p.command all.0) (plays_declare ps all.1)

  pub burst_declares : (lanes : List (List Played)) → IsPlayable (Burst lanes) → declared fleet (Burst lanes ∷ []) ≡ []
  burst_declares lanes may = ap (λ (ps : List Played). flat_map (λ (p : Played). declared_of fleet p.command) ps) (append-nil (plays_of (Burst lanes))) ∙ plays_declare (plays_of (Burst lanes)) may

-- ---- one item

module _ {fleet : FleetShape} {known : ℕ → Option Known} {items : List Item} {out : List ℕ} (t : Transcript fleet known items out) (names : AreNames fleet.names) where
  abbrev pub base_states : ℕ → ℕ → BaseState
  base_states = base_states_of fleet known

  -- what one is before it follows the lines of an item: as it was; made fresh at its last entry; or new
  pub data Mid (before : List PlayedItem) (x : PlayedItem) (fs : List Follower) (i : ℕ) (mid : Follower) : Type 0 where
    kept : slice_get fs i ≡ Some mid → (mid.standing.stale ≡ true → has_told i x ≡ false) → Mid before x fs i mid
    now : (old : Follower) → slice_get fs i ≡ Some old → old.standing.stale ≡ true → mid.standing.stale ≡ false → StandsAt t (before ++ x ∷ []) i mid
        → AllByRecursion (λ (h : Heard). h.number ≤ mid.standing.upto) (heard (table_place_of mid) [] (item_lines x)) → Mid before x fs i mid
    new : length fs ≤ i → StandsAt t (before ++ x ∷ []) i mid → Mid before x fs i mid

  module _ (before : List PlayedItem) (c : Command) (pieces : List Piece) (behind : List PlayedItem) where
    abbrev pub x : PlayedItem
    x = One (record { command = c; pieces = pieces })

    module _ (cut : t.played ≡ before ++ x ∷ behind) where
      -- the number of an ask that was answered is that of the last entry behind it, and what the table held before it,
      -- it holds behind it
      pub record IsNow (f : Follower) (number : ℕ) (gs : List Group) : Type 0 where
        pub last_is : number ≡ last_number (shown f.leaf f.table (all_pieces (before ++ x ∷ [])))
        pub knows : Knows (base_states f.leaf f.table) (t.histories f.leaf f.table) number (settled number gs f).standing

      pub is_now : (i : ℕ) (f : Follower) (number : ℕ) (gs : List Group) (told : Line) → StandsAt t before i f → pieces ≡ Called f.leaf f.table (call.Ask (spread f.standing.query)) number Asked ∷ Says told ∷ []
          → AreAsked fleet base_states t.histories f number gs → IsNow f number gs
      is_now i f number gs told stands are asked =
          let q : Query = spread f.standing.query in
          let g : BaseState = base_states f.leaf f.table in
          let es : List Entry = t.histories f.leaf f.table in
          let low : ℕ = last_number (shown f.leaf f.table (all_pieces before)) in
          let high : ℕ = last_number (shown f.leaf f.table (all_pieces (before ++ x ∷ []))) in
          let line : Shown = asked_line number q in
          let st : IsStretch es low high (line ∷ []) =
          subst (λ (ss : List Shown). IsStretch es low high ss) (asked_shown f.leaf f.table number q told (pieces ++ []) (append-nil pieces ∙ are))
          (stretch t before x behind cut f.leaf f.table stands.is.0 stands.is.1) in
          let nums = one_number es low high line st in
          let same : contents_behind g es number ≡ contents_before g es number = asked_leaves g es number q st.show.0 (legal t before x behind cut f.leaf f.table stands.is.0 stands.is.1) in
          record {
            last_is = nums.0 ∙ sym nums.1;
            knows = (
              (refl, asked.are ∙ ap (λ (k : Contents). groups q k.rows) (sym same)),
              subst (λ (k : Contents). AreTimes k.rows) (sym same) asked.times,
              subst NoneBelow (sym same) asked.none_below,
            );
          }

      -- nothing ended its state
      not_ended : (f : Follower) (number : ℕ) (told : Line) → pieces ≡ Called f.leaf f.table (call.Ask (spread f.standing.query)) number Asked ∷ Says told ∷ [] → is_ended (standing_of f) (pieces_in (plays_of x)) ≡ false
      not_ended f number told are =
          ap (λ (ss : List Shown). list_any (λ (e : Shown). ends_state e.call e.said) ss) (asked_shown f.leaf f.table number (spread f.standing.query) told (pieces ++ []) (append-nil pieces ∙ are))

      stands_now : (i : ℕ) (f : Follower) (number : ℕ) (gs : List Group) (told : Line) → StandsAt t before i f → f.standing.stale ≡ true
          → pieces ≡ Called f.leaf f.table (call.Ask (spread f.standing.query)) number Asked ∷ Says told ∷ [] → AreAsked fleet base_states t.histories f number gs → has_told i x ≡ true
          → StandsAt t (before ++ x ∷ []) i (settled number gs f)
      stands_now i f number gs told stands stale are asked tells =
          let n = is_now i f number gs told stands are asked in
          record {
            is = stands.is;
            named = stands.named;
            fresh = fresh_more t before x behind cut i (standing_of f)
                ∙ ap₂ (λ (a b : Bool). a && not b) (ap₂ (λ (a b : Bool). a || b) (stands.fresh ∙ ap not stale) tells) (not_ended f number told are);
            knows = λ fresh. (n.last_is, subst (λ (m : ℕ). Knows (base_states f.leaf f.table) (t.histories f.leaf f.table) m (settled number gs f).standing) n.last_is n.knows);
          }

  -- one that was declared
  standing_mid : (before : List PlayedItem) (leaf : ℕ) (q : Query) (pieces : List Piece) (behind : List PlayedItem) → t.played ≡ before ++ alone (command.Standing leaf q) pieces ∷ behind → (fs mids : List Follower)
      → AllStand t before fs → DeclaresOne fleet base_states t.histories leaf q pieces fs mids → (i : ℕ) (mid : Follower) → slice_get mids i ≡ Some mid → Mid before (alone (command.Standing leaf q) pieces) fs i mid
  standing_mid before leaf q pieces behind cut fs mids all d i mid at = by (nat_lt i (length fs)) refl
    where
      there : slice_get (fs ++ new_follower leaf (place_among q.table fleet.names) q ∷ []) i ≡ Some mid
      there = subst (λ (ms : List Follower). slice_get ms i ≡ Some mid) d.news_are at

      by : (b : Bool) → nat_lt i (length fs) ≡ b → Mid before (alone (command.Standing leaf q) pieces) fs i mid
      by true e = Mid.kept (sym (get_before fs (new_follower leaf (place_among q.table fleet.names) q ∷ []) i (ltb-true i (length fs) e)) ∙ there) (λ stale. refl)
      by false e =
          let past : length fs ≤ i = ltb-false i (length fs) e in
          let found = get_behind fs (new_follower leaf (place_among q.table fleet.names) q) i mid there (λ l. omega (arith, past, l)) in
          Mid.new past (subst (λ (f : Follower). StandsAt t (before ++ alone (command.Standing leaf q) pieces ∷ []) i f) found.1 (record {
            is = (d.leaf_is, d.table_is);
            named = name_there q.table fleet.names d.table_is;
            fresh = fresh_more t before (alone (command.Standing leaf q) pieces) behind cut i (standing_of (new_follower leaf (place_among q.table fleet.names) q))
                ∙ ap (λ (b : Bool). (b || false) && not (is_ended (standing_of (new_follower leaf (place_among q.table fleet.names) q)) (pieces ++ []))) (all.none i (standing_of (new_follower leaf (place_among q.table fleet.names) q)) past);
            knows = λ fresh. absurd cc;
          }))

  -- one that told, or another
  tell_mid : (before : List PlayedItem) (standing : ℕ) (pieces : List Piece) (behind : List PlayedItem) → t.played ≡ before ++ alone (command.Tell standing) pieces ∷ behind → (fs mids : List Follower)
      → AllStand t before fs → TellsOne fleet base_states t.histories standing pieces fs mids → (i : ℕ) (mid : Follower) → slice_get mids i ≡ Some mid → Mid before (alone (command.Tell standing) pieces) fs i mid
  tell_mid before standing pieces behind cut fs mids all d i mid at = by (standing == i) refl
    where
      there : slice_get (slice_set fs standing d.new) i ≡ Some mid
      there = subst (λ (ms : List Follower). slice_get ms i ≡ Some mid) d.news_are at

      -- where it is as it was
      kept_here : standing ≡ i → d.new ≡ mid → d.new ≡ d.old → (mid.standing.stale ≡ true → has_told i (alone (command.Tell standing) pieces) ≡ false) → Mid before (alone (command.Tell standing) pieces) fs i mid
      kept_here here is same untold = Mid.kept (subst (λ (n : ℕ). slice_get fs n ≡ Some mid) here (d.at ∙ ap (λ (f : Follower). Some f) (sym same ∙ is))) untold

      itself : standing ≡ i → d.new ≡ mid → TellsItself fleet base_states t.histories standing d.old pieces d.new → Mid before (alone (command.Tell standing) pieces) fs i mid
      itself here is (TellsItself.fresh told fresh are tells same) =
          kept_here here is same (λ stale. absurd (true≢false (sym (sym fresh ∙ (ap (λ (f : Follower). f.standing.stale) (sym same ∙ is) ∙ stale)))))
      itself here is (TellsItself.stays_stale asked why stale ask untold are same) =
          kept_here here is same (λ stale.
          ap (λ (b : Bool). (standing == i) && b) (ap (λ (ps : List Piece). list_any tells_rows ps) are ∙ asked_tells_none d.old.leaf d.old.table (spread d.old.standing.query) asked (line.Untold standing why) ask) ∙ and-false (standing == i))
      itself here is (TellsItself.made_fresh number gs told stale are asked tells same) =
          let stands : StandsAt t before i d.old = all.each i d.old (subst (λ (n : ℕ). slice_get fs n ≡ Some d.old) here d.at) in
          let rows : list_any tells_rows pieces ≡ true =
          ap (λ (ps : List Piece). list_any tells_rows ps) are ∙ ap (λ (l : Line). list_any tells_rows (Called d.old.leaf d.old.table (call.Ask (spread d.old.standing.query)) number Asked ∷ Says l ∷ [])) tells.1 in
          let is_told : has_told i (alone (command.Tell standing) pieces) ≡ true = ap₂ (λ (a b : Bool). a && b) (eq-eqb standing i here) rows in
          let settled_is : settled number gs d.old ≡ mid = sym same ∙ is in
          Mid.now d.old (subst (λ (n : ℕ). slice_get fs n ≡ Some d.old) here d.at) stale (ap (λ (f : Follower). f.standing.stale) (sym settled_is))
          (subst (λ (f : Follower). StandsAt t (before ++ alone (command.Tell standing) pieces ∷ []) i f) settled_is
          (stands_now before (command.Tell standing) pieces behind cut i d.old number gs told stands stale are asked is_told))
          (subst (λ (f : Follower). AllByRecursion (λ (h : Heard). h.number ≤ f.standing.upto) (heard (table_place_of f) [] (lines_in pieces))) settled_is
          (subst (λ (ps : List Piece). AllByRecursion (λ (h : Heard). h.number ≤ number) (heard (table_place_of d.old) [] (lines_in ps))) (sym are)
          (asked_heard (table_place_of d.old) d.old.leaf d.old.table number told tells.0 standing number tells.1)))

      by : (b : Bool) → (standing == i) ≡ b → Mid before (alone (command.Tell standing) pieces) fs i mid
      by true e =
          let here : standing ≡ i = eqb-true standing i e in
          let is : d.new ≡ mid = same_Some d.new mid (sym (get_of_set fs standing d.old d.new d.at) ∙ (ap (λ (n : ℕ). slice_get (slice_set fs standing d.new) n) here ∙ there)) in
          itself here is d.tells
      by false e =
          Mid.kept (sym (get_beside_set fs standing i d.new (eqb-false standing i e)) ∙ there) (λ stale. ap (λ (b : Bool). b && list_any tells_rows pieces) e)

  pub mids_at : (before : List PlayedItem) (x : PlayedItem) (behind : List PlayedItem) → t.played ≡ before ++ x ∷ behind → (fs mids : List Follower) → AllStand t before fs → Does t x fs mids
      → (i : ℕ) (mid : Follower) → slice_get mids i ≡ Some mid → Mid before x fs i mid
  mids_at before (Burst lanes) behind cut fs mids all does i mid at = Mid.kept (subst (λ (ms : List Follower). slice_get ms i ≡ Some mid) does at) (λ stale. refl)
  mids_at before (One p) behind cut fs mids all does i mid at = by p.command cut does
    where
      by : (c : Command) → t.played ≡ before ++ alone c p.pieces ∷ behind → Does t (alone c p.pieces) fs mids → Mid before (alone c p.pieces) fs i mid
      by (command.Standing leaf q) is d = standing_mid before leaf q p.pieces behind is fs mids all d i mid at
      by (command.Tell standing) is d = tell_mid before standing p.pieces behind is fs mids all d i mid at
      by _ is d = Mid.kept (subst (λ (ms : List Follower). slice_get ms i ≡ Some mid) d at) (λ stale. refl)
