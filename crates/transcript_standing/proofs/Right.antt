-- What standing queries tell over the histories of a transcript is right.
use Rattle.std.proofs.Common.{◌≡◌, ◌⊎◌, inl, inr, ℕ, suc, ◌+◌, ◌<◌, ◌≤◌, ◌||◌, Bool, true, false, List, [], ◌∷◌, ◌++◌, length, map, refl, sym, ap, ap₂, subst, ◌∙◌, arith, eqb-true, Option, Some}
use Rattle.std.specs.Prelude.{if◌then◌else◌, MatchBool, not, slice_get, ◌&&◌, ◌==◌}
use Rattle.std.specs.List.{AllByRecursion, list_any}
use Rattle.std.proofs.lemmas.Grind.{flat_map-append}
use Rattle.std.proofs.lemmas.Bool.{false_from_ne_true}
use Rattle.std.proofs.lemmas.List.{append-nil, append_assoc, length-append, length-map, map-append}
use Rattle.std.proofs.lemmas.Option.{same_Some, slice_get_within}
use Rattle.leaf_model.specs.declared.queries.Query.{Query}
use Rattle.leaf_model.specs.Groups.{groups}
use Rattle.answer_text.specs.Answer.{answer_lines}
use Rattle.leaf_history.specs.Calls as call
use Rattle.region_layout.specs.Names.{AreNames}
use Rattle.script_text.specs.declared.command.Command.{Command}
use Rattle.script_text.specs.declared.command.Command.TheVariants as command
use Rattle.script_text.specs.declared.fleet.FleetShape.{FleetShape}
use Rattle.script_text.specs.declared.item.Item.{Item}
use Rattle.printed_lines.specs.declared.line.Said.TheVariants.{Asked}
use Rattle.printed_lines.specs.declared.line.Line.{Line}
use Rattle.printed_lines.specs.declared.line.Line.TheVariants as line
use Rattle.printed_lines.specs.declared.line.WhyUntold.{WhyUntold}
use Rattle.standing_query.specs.Spread.{spread}
use Rattle.standing_feed.specs.declared.follower.Follower.{Follower}
use Rattle.standing_feed.specs.declared.heard.Heard.{Heard}
use Rattle.standing_feed.specs.declared.meant.Meant.{Meant}
use Rattle.standing_feed.specs.Hearing.{TablePlace, heard, meant_in}
use Rattle.standing_feed.specs.Following.{FollowAll, Follows, HeedsInOrder, new_follower, meant_for, table_place_of}
use Rattle.transcript.specs.Pieces.{Piece, Called, Says, Played, PlayedItem, One, Burst, all_pieces, item_lines, item_of, pieces_in, place_among, plays_in, plays_of}
use Rattle.transcript.specs.Histories.{BaseState, Shown, rows_before, shown, shown_in}
use Rattle.transcript.specs.Transcript.{Known, Transcript, base_states_of}
use Rattle.transcript.specs.Telling.{AsksFirst, IsTold, StandingQuery, TellsStanding, declared, has_told, is_ended, is_fresh, last_number, line_behind, tells_rows, told_line}
use Rattle.transcript_standing.specs.Followed.{FollowedAll, IsPlayable, TellsItself}
use Rattle.transcript_standing.specs.Laws.{TellRight}
use Rattle.transcript_standing.proofs.Lists.{get_mapped, get_unmapped, same_first, same_rest}
use Rattle.transcript_standing.proofs.HeardPieces.{ItemOwn}
use Rattle.transcript_standing.proofs.Mids.{Mid, burst_declares, declared_more, is_now, item_own, map_set, mids_at, same_follower}
use Rattle.transcript_standing.proofs.Standing.{AllStand, Does, StandsAt, alone, as_many, followed_at, fresh_heeds, fresh_more, hears_item, order_known, stale_stays, standing_of, standings_same, stays_stale}

module _ {fleet : FleetShape} {known : ℕ → Option Known} {items : List Item} {out : List ℕ} (t : Transcript fleet known items out) (names : AreNames fleet.names) where
  abbrev base_states : ℕ → ℕ → BaseState
  base_states = base_states_of fleet known

  -- ---- behind it

  module _ (before : List PlayedItem) (x : PlayedItem) (behind : List PlayedItem) (cut : t.played ≡ before ++ x ∷ behind) (fs mids news : List Follower) (all : AllStand t before fs)
      (may : IsPlayable x) (does : Does t x fs mids) (follow : FollowAll (map (meant_for (item_of x)) fs) (item_lines x) mids news) where
    own : (p : TablePlace) → ItemOwn p x
    own p = item_own p fleet base_states t.histories x fs mids does

    -- whether notes were taken of one
    hears_noted : (b : Bool) (f : Follower) (calls : List Meant) → f.standing.stale ≡ b → calls ≡ meant_for (item_of x) f → calls ≡ (if b then [] else meant_in (table_place_of f) (item_of x))
    hears_noted b f calls is same = same ∙ ap (λ (s : Bool). if s then [] else meant_in (table_place_of f) (item_of x)) is

    -- one that was there and did nothing
    kept_stands : (i : ℕ) (f g : Follower) (calls : List Meant) → slice_get fs i ≡ Some f → (f.standing.stale ≡ true → has_told i x ≡ false) → calls ≡ meant_for (item_of x) f → Follows calls (item_lines x) f g
        → StandsAt t (before ++ x ∷ []) i g
    kept_stands i f g calls at untold noted_is follows = by f.standing.stale refl
      where
        by : (b : Bool) → f.standing.stale ≡ b → StandsAt t (before ++ x ∷ []) i g
        by true stale =
            subst (λ (h : Follower). StandsAt t (before ++ x ∷ []) i h) (sym (stale_stays follows stale))
            (stays_stale t before x behind cut i f (all.each i f at) stale (untold stale))
        by false fresh =
            hears_item t before x behind cut names may own i f g (all.each i f at) fresh
            (subst (λ (cs : List Meant). Follows cs (item_lines x) f g) (hears_noted false f calls fresh noted_is) follows)

    -- one that was made fresh knows what it hears
    now_stands : (i : ℕ) (old mid g : Follower) (calls : List Meant) → old.standing.stale ≡ true → mid.standing.stale ≡ false → StandsAt t (before ++ x ∷ []) i mid
        → AllByRecursion (λ (h : Heard). h.number ≤ mid.standing.upto) (heard (table_place_of mid) [] (item_lines x)) → calls ≡ meant_for (item_of x) old → Follows calls (item_lines x) mid g → StandsAt t (before ++ x ∷ []) i g
    now_stands i old mid g calls stale fresh stands knows noted_is follows =
        let none : calls ≡ [] = hears_noted true old calls stale noted_is in
        let hears : HeedsInOrder mid.standing (heard (table_place_of mid) [] (item_lines x)) g.standing =
        subst (λ (cs : List Meant). HeedsInOrder mid.standing (heard (table_place_of mid) cs (item_lines x)) g.standing) none (fresh_heeds follows fresh) in
        let state : g.standing ≡ mid.standing = order_known mid.standing (heard (table_place_of mid) [] (item_lines x)) g.standing knows hears in
        let same : g ≡ mid = same_follower g mid (ap (λ (p : TablePlace). p.leaf) follows.place) (ap (λ (p : TablePlace). p.table) follows.place) state in
        subst (λ (h : Follower). StandsAt t (before ++ x ∷ []) i h) (sym same) stands

    -- each of them
    each_stands : (i : ℕ) (g : Follower) → slice_get news i ≡ Some g → StandsAt t (before ++ x ∷ []) i g
    each_stands i g at =
        let f = followed_at (map (meant_for (item_of x)) fs) (item_lines x) mids news i g follow at in
        by f.old (mids_at t names before x behind cut fs mids all does i f.old f.at) f.went
      where
        noted_at : (calls : List Meant) (f : Follower) → slice_get (map (meant_for (item_of x)) fs) i ≡ Some calls → slice_get fs i ≡ Some f → calls ≡ meant_for (item_of x) f
        noted_at calls f is has = same_Some calls (meant_for (item_of x) f) (sym is ∙ get_mapped (meant_for (item_of x)) fs i f has)

        as_many_notes : length (map (meant_for (item_of x)) fs) ≡ length fs
        as_many_notes = length-map fs (meant_for (item_of x))

        by : (mid : Follower) → Mid t names before x fs i mid → ((calls : List Meant) × (slice_get (map (meant_for (item_of x)) fs) i ≡ Some calls) × Follows calls (item_lines x) mid g) ⊎ ((length (map (meant_for (item_of x)) fs) ≤ i) × (g ≡ mid))
            → StandsAt t (before ++ x ∷ []) i g
        by mid (Mid.kept has untold) (inl w) = kept_stands i mid g w.0 has untold (noted_at w.0 mid w.1 has) w.2
        by mid (Mid.kept has untold) (inr w) = absurd (omega (arith, w.0, as_many_notes, slice_get_within fs i mid has))
        by mid (Mid.now old has stale fresh stands knows) (inl w) = now_stands i old mid g w.0 stale fresh stands knows (noted_at w.0 old w.1 has) w.2
        by mid (Mid.now old has stale fresh stands knows) (inr w) = subst (λ (h : Follower). StandsAt t (before ++ x ∷ []) i h) (sym w.1) stands
        by mid (Mid.new past stands) (inl w) =
            let none = get_unmapped (meant_for (item_of x)) fs i w.0 w.1 in
            absurd (omega (arith, past, slice_get_within fs i none.0 none.1))
        by mid (Mid.new past stands) (inr w) = subst (λ (h : Follower). StandsAt t (before ++ x ∷ []) i h) (sym w.1) stands

    mids_are : (y : PlayedItem) → IsPlayable y → Does t y fs mids → map standing_of fs ++ declared fleet (y ∷ []) ≡ map standing_of mids
    mids_are (Burst lanes) plays d = ap (λ (ss : List StandingQuery). map standing_of fs ++ ss) (burst_declares fleet lanes plays) ∙ (append-nil (map standing_of fs) ∙ ap (λ (ms : List Follower). map standing_of ms) (sym d))
    mids_are (One p) plays d = by p.command d
      where
        told_same : (standing : ℕ) (f g : Follower) → TellsItself fleet base_states t.histories standing f p.pieces g → standing_of g ≡ standing_of f
        told_same standing f g (TellsItself.fresh told fresh are tells same) = ap standing_of same
        told_same standing f g (TellsItself.made_fresh number gs told stale are asked tells same) = ap standing_of same
        told_same standing f g (TellsItself.stays_stale asked why stale ask untold are same) = ap standing_of same

        by : (c : Command) → Does t (alone c p.pieces) fs mids → map standing_of fs ++ declared fleet (alone c p.pieces ∷ []) ≡ map standing_of mids
        by (command.Standing leaf q) e =
            sym (ap (λ (ms : List Follower). map standing_of ms) e.news_are ∙ map-append standing_of fs (new_follower leaf (place_among q.table fleet.names) q ∷ []))
        by (command.Tell standing) e =
            append-nil (map standing_of fs) ∙ sym (ap (λ (ms : List Follower). map standing_of ms) e.news_are ∙ map_set fs standing e.old e.new e.at (told_same standing e.old e.new e.tells))
        by _ e = append-nil (map standing_of fs) ∙ ap (λ (ms : List Follower). map standing_of ms) (sym e)

    none_fewer : length fs ≤ length mids
    none_fewer =
        let same = ap (λ (ss : List StandingQuery). length ss) (mids_are x may does) in
        omega (arith, same, length-append (map standing_of fs) (declared fleet (x ∷ [])), length-map fs standing_of, length-map mids standing_of)

    untold_past : (y : PlayedItem) → Does t y fs mids → (i : ℕ) → length fs ≤ i → has_told i y ≡ false
    untold_past (Burst lanes) d i past = refl
    untold_past (One p) d i past = by p.command d
      where
        by : (c : Command) → Does t (alone c p.pieces) fs mids → has_told i (alone c p.pieces) ≡ false
        by (command.Tell standing) e =
            let within = slice_get_within fs standing e.old e.at in
            ap (λ (b : Bool). b && list_any tells_rows p.pieces) (false_from_ne_true (standing == i) (λ same. omega (arith, within, past, eqb-true standing i same)))
        by _ e = refl

    pub stand_behind : AllStand t (before ++ x ∷ []) news
    stand_behind = record {
      are = declared_more fleet before x
          ∙ (ap (λ (ss : List StandingQuery). ss ++ declared fleet (x ∷ [])) all.are
          ∙ (mids_are x may does ∙ sym (standings_same (map (meant_for (item_of x)) fs) (item_lines x) mids news follow)));
      each = each_stands;
      none = λ i s past.
          let fewer = none_fewer in
          let same = as_many (map (meant_for (item_of x)) fs) (item_lines x) mids news follow in
          let below : length fs ≤ i = omega (arith, fewer, same, past) in
          fresh_more t before x behind cut i s
          ∙ ap₂ (λ (a b : Bool). (a || b) && not (is_ended s (pieces_in (plays_of x)))) (all.none i s below) (untold_past x does i below);
    }

  -- ---- what is told there

  pieces_more : (before : List PlayedItem) (p : Played) → all_pieces (before ++ One p ∷ []) ≡ all_pieces before ++ (p.pieces ++ [])
  pieces_more before p =
      ap (λ (ps : List Played). pieces_in ps) (flat_map-append plays_of before (One p ∷ [])) ∙ flat_map-append (λ (q : Played). q.pieces) (plays_in before) (p ∷ [])

  -- an ask that was answered is the last entry
  same_last : (before : List PlayedItem) (c : Command) (pieces : List Piece) (leaf table number : ℕ) (q : Query) (told : Line) → pieces ≡ Called leaf table (call.Ask q) number Asked ∷ Says told ∷ []
      → last_number (shown leaf table (all_pieces (before ++ alone c pieces ∷ []))) ≡ last_number (shown leaf table (all_pieces before ++ Called leaf table (call.Ask q) number Asked ∷ []))
  same_last before c pieces leaf table number q told are =
      let front : List Piece = all_pieces before in
      let asked : Piece = Called leaf table (call.Ask q) number Asked in
      ap (λ (ps : List Piece). last_number (shown leaf table ps)) (pieces_more before (record { command = c; pieces = pieces }))
      ∙ ap last_number (flat_map-append (shown_in leaf table) front (pieces ++ [])
      ∙ ap (λ (ss : List Shown). shown leaf table front ++ ss) (ap (λ (ps : List Piece). shown leaf table (ps ++ [])) are)
      ∙ sym (flat_map-append (shown_in leaf table) front (asked ∷ [])))

  -- what a query prints, by whether it is fresh
  abbrev ToldIf : ℕ → StandingQuery → List PlayedItem → List Piece → Bool → Type 0
  ToldIf standing q before pieces fresh =
      MatchBool fresh (pieces ≡ Says (told_line fleet base_states t.histories standing q (all_pieces before)) ∷ []) (AsksFirst fleet base_states t.histories standing q (all_pieces before) pieces)

  tells_here : (before : List PlayedItem) (standing : ℕ) (pieces : List Piece) (behind : List PlayedItem) → t.played ≡ before ++ alone (command.Tell standing) pieces ∷ behind → (f g : Follower)
      → StandsAt t before standing f → slice_get (declared fleet before) standing ≡ Some (standing_of f) → TellsItself fleet base_states t.histories standing f pieces g → TellsStanding fleet base_states t.histories standing before pieces
  tells_here before standing pieces behind cut f g stands at tells = record { query = standing_of f; is = at; told = by tells }
    where
      state : (b : Bool) → f.standing.stale ≡ b → is_fresh standing (standing_of f) before ≡ not b
      state b is = stands.fresh ∙ ap not is

      -- a line that tells these rows
      line_of : ℕ → Line
      line_of number = line.Told standing number (answer_lines f.standing.query (groups f.standing.query (rows_before (base_states f.leaf f.table) (t.histories f.leaf f.table) (number + 1))))

      by : TellsItself fleet base_states t.histories standing f pieces g → ToldIf standing (standing_of f) before pieces (is_fresh standing (standing_of f) before)
      by (TellsItself.fresh told fresh are tells same) =
          let knows = stands.knows fresh in
          let number : ℕ = last_number (shown f.leaf f.table (all_pieces before)) in
          subst (ToldIf standing (standing_of f) before pieces) (sym (state false fresh))
          (are ∙ ap (λ (l : Line). Says l ∷ []) (tells.1 ∙ (ap (λ (ls : List (List ℕ)). line.Told standing f.standing.upto ls) (tells.2 (rows_before (base_states f.leaf f.table) (t.histories f.leaf f.table) (number + 1)) knows.1.0 knows.1.1)
          ∙ ap (λ (n : ℕ). line.Told standing n (answer_lines f.standing.query (groups f.standing.query (rows_before (base_states f.leaf f.table) (t.histories f.leaf f.table) (number + 1))))) knows.0)))
      by (TellsItself.made_fresh number gs told stale are asked tells same) =
          let q : Query = spread f.standing.query in
          let n = is_now t names before (command.Tell standing) pieces behind cut standing f number gs told stands are asked in
          let later : number ≡ last_number (shown f.leaf f.table (all_pieces before ++ Called f.leaf f.table (call.Ask q) number Asked ∷ [])) =
          n.last_is ∙ same_last before (command.Tell standing) pieces f.leaf f.table number q told are in
          subst (ToldIf standing (standing_of f) before pieces) (sym (state true stale)) (record {
            asked = Called f.leaf f.table (call.Ask q) number Asked;
            ask = inl (number, Asked, refl);
            are = are ∙ ap (λ (l : Line). Called f.leaf f.table (call.Ask q) number Asked ∷ Says l ∷ [])
                (tells.1 ∙ (ap (λ (ls : List (List ℕ)). line.Told standing number ls) (tells.2 (rows_before (base_states f.leaf f.table) (t.histories f.leaf f.table) (number + 1)) n.knows.0 n.knows.1) ∙ ap line_of later));
          })
      by (TellsItself.stays_stale asked why stale ask untold are same) =
          subst (ToldIf standing (standing_of f) before pieces) (sym (state true stale)) (record {
            asked = asked;
            ask = ask;
            are = are ∙ ap (λ (o : Option WhyUntold). asked ∷ Says (line_behind fleet base_states t.histories standing (standing_of f) (all_pieces before ++ asked ∷ []) o) ∷ []) (sym untold);
          })

  told_here : (before : List PlayedItem) (p : Played) (behind : List PlayedItem) → t.played ≡ before ++ One p ∷ behind → (fs mids : List Follower) → AllStand t before fs → Does t (One p) fs mids
      → IsTold fleet base_states t.histories before p
  told_here before p behind cut fs mids all does = by p.command cut does
    where
      by : (c : Command) → t.played ≡ before ++ alone c p.pieces ∷ behind → Does t (alone c p.pieces) fs mids → IsTold fleet base_states t.histories before (record { command = c; pieces = p.pieces })
      by (command.Standing leaf q) is d =
          d.pieces_are ∙ ap (λ (n : ℕ). Says (line.Declared n) ∷ []) (sym (ap (λ (ss : List StandingQuery). length ss) all.are ∙ length-map fs standing_of))
      by (command.Tell standing) is d =
          tells_here before standing p.pieces behind is d.old d.new (all.each standing d.old d.at) (ap (λ (ss : List StandingQuery). slice_get ss standing) all.are ∙ get_mapped standing_of fs standing d.old d.at) d.tells
      by _ is d = tt

  -- ---- all of them

  walk_last : (before last : List PlayedItem) (fs : List Follower) → t.played ≡ before ++ last → AllStand t before fs → AllByRecursion (λ (x : PlayedItem). (mids : List Follower) × Does t x fs mids) last
      → length last < 2 → (front : List PlayedItem) (p : Played) (behind : List PlayedItem) → last ≡ front ++ One p ∷ behind → IsTold fleet base_states t.histories (before ++ front) p
  walk_last before last fs cut all does few [] p behind is =
      let one : AllByRecursion (λ (x : PlayedItem). (mids : List Follower) × Does t x fs mids) (One p ∷ behind) = subst (AllByRecursion (λ (x : PlayedItem). (mids : List Follower) × Does t x fs mids)) is does in
      subst (λ (b : List PlayedItem). IsTold fleet base_states t.histories b p) (sym (append-nil before))
      (told_here before p behind (cut ∙ ap (λ (l : List PlayedItem). before ++ l) is) fs one.0.0 all one.0.1)
  walk_last before last fs cut all does few (y ∷ front) p behind is =
      let count = ap (λ (l : List PlayedItem). length l) is ∙ ap suc (length-append front (One p ∷ behind)) in
      absurd (omega (arith, few, count))

  walk : (before whole last : List PlayedItem) (fs gs : List Follower) → t.played ≡ before ++ (whole ++ last) → AllStand t before fs → FollowedAll fleet base_states t.histories whole fs gs
      → AllByRecursion (λ (x : PlayedItem). (mids : List Follower) × Does t x gs mids) last → length last < 2
      → (front : List PlayedItem) (p : Played) (behind : List PlayedItem) → whole ++ last ≡ front ++ One p ∷ behind → IsTold fleet base_states t.histories (before ++ front) p
  walk before [] last fs gs cut all followed does few front p behind is =
      walk_last before last gs cut (subst (λ (hs : List Follower). AllStand t before hs) (sym followed) all) does few front p behind is
  walk before (y ∷ whole) last fs gs cut all followed does few [] p behind is =
      let same : y ≡ One p = same_first y (One p) (whole ++ last) behind is in
      subst (λ (b : List PlayedItem). IsTold fleet base_states t.histories b p) (sym (append-nil before))
      (told_here before p behind (cut ∙ ap (λ (l : List PlayedItem). before ++ l) is) fs followed.1.between all (subst (λ (x : PlayedItem). Does t x fs followed.1.between) same followed.1.itself))
  walk before (y ∷ whole) last fs gs cut all followed does few (z ∷ front) p behind is =
      let same : y ≡ z = same_first y z (whole ++ last) (front ++ One p ∷ behind) is in
      let more : whole ++ last ≡ front ++ One p ∷ behind = same_rest y z (whole ++ last) (front ++ One p ∷ behind) is in
      let stands = stand_behind before y (whole ++ last) cut fs followed.1.between followed.0 all followed.1.may followed.1.itself followed.1.follow in
      let joined : (before ++ y ∷ []) ++ front ≡ before ++ z ∷ front = append_assoc before (y ∷ []) front ∙ ap (λ (w : PlayedItem). before ++ w ∷ front) same in
      subst (λ (b : List PlayedItem). IsTold fleet base_states t.histories b p) joined
      (walk (before ++ y ∷ []) whole last followed.0 gs (cut ∙ sym (append_assoc before (y ∷ []) (whole ++ last))) stands followed.2 does few front p behind more)

pub tell_right : TellRight
tell_right fleet known items out t names followed before behind p is =
    walk t names [] followed.whole followed.last [] followed.between followed.items_are
    (record { are = refl; each = λ i f at. absurd cc; none = λ i s past. refl })
    followed.followed followed.behind followed.one before p behind (sym followed.items_are ∙ is)
