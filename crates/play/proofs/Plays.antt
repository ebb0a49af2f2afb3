-- A play goes on by one item, or stops at one.
use Rattle.std.proofs.Common.{◌≡◌, ◌⊎◌, ℕ, ◌+◌, List, [], ◌∷◌, ◌++◌, refl, sym, ap, ap₂, subst, ◌∙◌, arith, Option, None, inl, inr, length-append}
use Rattle.std.specs.Prelude.{IfOk, IsOk, OnErr, OnOk, Result, Ok, Err, Vec, ◌≤◌, length, map}
use Rattle.std.specs.Global.{Global}
use Rattle.std.specs.Io.KnownBytes.{Appends}
use Rattle.std.proofs.lemmas.Grind.{flat_map-append}
use Rattle.std.proofs.lemmas.List.{append-nil, append_assoc, map-append}
use Rattle.berth_face.specs.Berth.{Meaning}
use Rattle.leaf_history.specs.History.{Entry}
use Rattle.crash_moments.specs.Left.{NamedStates}
use Rattle.rollover_watch.specs.Watches.{Held}
use Rattle.script_text.specs.declared.item.Item.{Item}
use Rattle.printed_lines.specs.declared.line.Line.{Line}
use Rattle.printed_lines.specs.Lines.{line_text, lines_text}
use Rattle.script_text.specs.declared.fleet.FleetShape.{FleetShape}
use Rattle.standing_feed.specs.declared.follower.Follower.{Follower}
use Rattle.standing_feed.specs.Following.{FollowAll, meant_for}
use Rattle.transcript.specs.Transcript.{Known, base_states_of}
use Rattle.transcript.specs.Pieces.{Played, PlayedItem, all_lines, all_pieces, item_lines, item_of, pieces_in, plays_in, plays_of}
use Rattle.leaf_moves.specs.Holds.{GoOn, Hold, base_states_in}
use Rattle.transcript.specs.Leaving.{AreKnown}
use Rattle.transcript.specs.Watching.{HearsAll}
use Rattle.player.specs.Crew.{AllPass, AllCounted}
use Rattle.lane_play.specs.Went.{OrNothing, told_lines}
use Rattle.lane_play.proofs.Heard.{watched_join}
use Rattle.lane_play.proofs.Held.{all_counted_on, pass_on}
use Rattle.play.specs.Runs.{Advances, HasPlayed, RunSoFar, berths_in}
use Rattle.play.specs.Standing.{FollowsLines, ItemDid, MayRun}
use Rattle.play.proofs.Pieces.{front_behind}
use Rattle.play.proofs.Playable.{playable}
use Rattle.transcript_fleet.proofs.Sessions.{plays_on, sessions_know}
use Rattle.transcript_standing.specs.Followed.{AreFollowers, DoesItself}
use Rattle.transcript_standing.proofs.Following.{does_same, follow_on, follow_to_end, follow_to_stop}
use Rattle.berth_face.specs.Streams.{Written, WritesFront}
use Rattle.berth_face.proofs.Streams.{appends_more, written_start}
use Rattle.leaf_moves.specs.Lanes.{PlaysItem}
use Rattle.play.specs.Cut.{last_lines}
use Rattle.play.specs.Shortened.{RunShort, StopsAt}

-- ---- one item more

pieces_snoc : (ps : List PlayedItem) (p : PlayedItem) → all_pieces (ps ++ p ∷ []) ≡ all_pieces ps ++ all_pieces (p ∷ [])
pieces_snoc ps p =
    ap (λ (qs : List Played). pieces_in qs) (flat_map-append plays_of ps (p ∷ [])) ∙ flat_map-append (λ (q : Played). q.pieces) (plays_in ps) (plays_in (p ∷ []))

plays_snoc : (ps : List PlayedItem) (p : PlayedItem) → plays_in (ps ++ p ∷ []) ≡ plays_in ps ++ plays_of p
plays_snoc ps p = flat_map-append plays_of ps (p ∷ []) ∙ ap (λ (qs : List Played). plays_in ps ++ qs) (append-nil (plays_of p))

text_snoc : (names : List (List ℕ)) (ps : List PlayedItem) (p : PlayedItem) → lines_text names (all_lines (ps ++ p ∷ [])) ≡ lines_text names (all_lines ps) ++ lines_text names (item_lines p)
text_snoc names ps p =
    let lines : all_lines (ps ++ p ∷ []) ≡ all_lines ps ++ item_lines p = flat_map-append item_lines ps (p ∷ []) ∙ ap (λ (ls : List Line). all_lines ps ++ ls) (append-nil (item_lines p)) in
    ap (λ (ls : List Line). lines_text names ls) lines ∙ flat_map-append (line_text names) (all_lines ps) (item_lines p)

module _ {B : Type 0} {base : ℕ → Option NamedStates} {meaning : B → Meaning} {fleet : FleetShape} {firsts xs ys : List (Hold B)} {watching between : List Held} {ps : List PlayedItem} {p : PlayedItem}
    (has : HasPlayed base meaning fleet firsts watching between ps xs) (plays : PlaysItem meaning fleet xs p ys) where
  has_more : (watched : List Held) → HearsAll fleet (plays_of p) between watched → AllCounted meaning (all_pieces (p ∷ [])) xs ys → AllPass meaning xs ys
      → HasPlayed base meaning fleet firsts watching watched (ps ++ p ∷ []) ys
  has_more watched heard counted time = record {
    heard = subst (λ (qs : List Played). HearsAll fleet qs watching watched) (sym (plays_snoc ps p)) (watched_join fleet (plays_in ps) (plays_of p) watching between watched has.heard heard);
    counted = subst (λ qs. AllCounted meaning qs firsts ys) (sym (pieces_snoc ps p)) (all_counted_on meaning firsts xs ys (all_pieces ps) (all_pieces (p ∷ [])) has.counted counted);
    time = pass_on meaning firsts xs ys has.time time;
    session = λ known is. (plays_on meaning (berths_in firsts) fleet known ps xs ys p (has.session known is) plays).0;
  }

  -- what the standing queries did by themselves, over what is known of the tables
  itself_known : (fs gs : List Follower) → AreFollowers fleet fs → (known : ℕ → Option Known) → AreKnown meaning (berths_in firsts) (berths_in firsts) base known → (histories : ℕ → ℕ → List Entry) → GoOn ys histories
      → DoesItself fleet (base_states_in ys) histories p fs gs → GoOn xs histories × DoesItself fleet (base_states_of fleet known) histories p fs gs
  itself_known fs gs followers known is histories on itself =
      let later = plays_on meaning (berths_in firsts) fleet known ps xs ys p (has.session known is) plays in
      let same = sessions_know meaning (berths_in firsts) fleet known (ps ++ p ∷ []) ys later.0 in
      (later.1 histories on, does_same fleet (base_states_in ys) (base_states_of fleet known) histories same p fs gs followers itself)

pub run_goes_on : {B : Type 0} {base : ℕ → Option NamedStates} {meaning : B → Meaning} {fleet crew : FleetShape} {firsts : List (Hold B)} {was written after : Option (List ℕ)} {watching between watched : List Held} {items : List Item} {x : Item} {fs gs : List Follower} {xs ys : List (Hold B)}
    → RunSoFar base meaning fleet firsts was written watching between items fs xs
    → crew ≡ fleet
    → Advances meaning crew fs gs xs ys written after between watched x
    → AllPass meaning xs ys
    → AreFollowers fleet fs
    → RunSoFar base meaning fleet firsts was after watching watched (items ++ x ∷ []) gs ys
run_goes_on {B} {base} {meaning} {fleet} {crew} {firsts} {was} {written} {after} {watching} {between} {watched} {items} {x} {fs} {gs} {xs} {ys} run same advance time followers =
    let step : Advances meaning fleet fs gs xs ys written after between watched x = subst (λ (f : FleetShape). Advances meaning f fs gs xs ys written after between watched x) same advance in
    let p : PlayedItem = step.played in
    record {
      played = run.played ++ p ∷ [];
      items_are = map-append item_of run.played (p ∷ []) ∙ ap₂ (λ (is js : List Item). is ++ js) run.items_are (ap (λ (i : Item). i ∷ []) step.item_is);
      text = subst (Appends was after) (sym (text_snoc fleet.names run.played p))
          (appends_more was written after (lines_text fleet.names (all_lines run.played)) (lines_text fleet.names (item_lines p)) run.text step.text);
      has = has_more run.has step.plays watched step.heard step.counted time;
      followed = λ known is histories on.
          let one = step.follows histories on in
          let itself = itself_known run.has step.plays fs one.between followers known is histories on one.itself in
          follow_on fleet (base_states_of fleet known) histories run.played p [] fs gs (run.followed known is histories itself.0)
          (record {
            between = one.between;
            may = one.may;
            itself = itself.1;
            follow = one.follow;
          });
    }

-- what an item did, once its lines were written
pub advances : {B E F : Type 0} (meaning : B → Meaning) (fleet : FleetShape) (x : Item) (fs gs : List Follower) (xs ys : List (Hold B)) (was now : Option (List ℕ)) (watching watched : List Held) (lines : Result (Vec Line Global) E) (written : Result (Unit {0}) F)
    → MayRun fleet x
    → OrNothing (ItemDid meaning fleet x (FollowsLines x fs gs) fs xs watching (told_lines lines) ys watched) xs watching (told_lines lines) ys watched
    → OnOk written (IsOk lines)
    → OnOk written (IfOk lines (λ ls. Appends was now (lines_text fleet.names ls.items)))
    → OnOk written (Advances meaning fleet fs gs xs ys was now watching watched x)
advances meaning fleet x fs gs xs ys was now watching watched lines (Err e) may did made text = tt
advances meaning fleet x fs gs xs ys was now watching watched (Err e) (Ok u) may did made text = absurd cc
advances meaning fleet x fs gs xs ys was now watching watched (Ok ls) (Ok u) may (inr none) made text = let wrong = none.refused in absurd cc
advances meaning fleet x fs gs xs ys was now watching watched (Ok ls) (Ok u) may (inl d) made text =
    let went = d.went in
    record {
      played = went.played;
      item_is = went.lines_are.0;
      plays = went.plays;
      text = subst (λ ks. Appends was now (lines_text fleet.names ks)) went.lines_are.1 text;
      heard = went.heard;
      counted = went.counted;
      follows = λ histories on.
          let e = d.did histories on in
          record {
            between = e.0;
            may = playable fleet x went.played may went.lines_are.0;
            itself = e.1;
            follow = subst (λ (ks : List Line). FollowAll (map (meant_for (item_of went.played)) fs) ks e.0 gs) went.lines_are.1
                (subst (λ (i : Item). FollowAll (map (meant_for i) fs) ls.items e.0 gs) (sym went.lines_are.0) e.2);
          };
    }

-- what holds in any case holds of a refusal
pub on_err : {T E P : Type 0} (result : Result T E) → P → OnErr result P
on_err (Ok x) p = tt
on_err (Err e) p = p

-- an item whose lines were not all written, or that had none
pub stops_one : {B E : Type 0} (meaning : B → Meaning) (fleet : FleetShape) (x : Item) (T : List Follower → List Line → Type 0) (fs : List Follower) (xs ys : List (Hold B)) (was now : Option (List ℕ)) (watching watched : List Held) (lines : Result (Vec Line Global) E)
    → OrNothing (ItemDid meaning fleet x T fs xs watching (told_lines lines) ys watched) xs watching (told_lines lines) ys watched
    → IfOk lines (λ ls. WritesFront was now (lines_text fleet.names ls.items)) → (told_lines lines ≡ None → now ≡ was)
    → StopsAt meaning fleet fs xs ys was now watching watched x
stops_one meaning fleet x T fs xs ys was now watching watched lines (inr none) front still = StopsAt.unplayed none.holds (still none.refused) none.watches
stops_one meaning fleet x T fs xs ys was now watching watched (Ok ls) (inl d) front still =
    StopsAt.short d.went.played d.went.begun d.went.plays d.went.counted d.went.heard (inl (d.went.lines_are.0, subst (λ ks. WritesFront was now (lines_text fleet.names ks)) d.went.lines_are.1 front))
    (λ histories on. let e = d.did histories on in (e.0, e.1))
stops_one meaning fleet x T fs xs ys was now watching watched (Err e) (inl d) front still =
    StopsAt.short d.went.played d.went.begun d.went.plays d.went.counted d.went.heard
    (inr (still refl))
    (λ histories on. let k = d.did histories on in (k.0, k.1))

-- ---- a run that stops

last_snoc : (ps : List PlayedItem) (p : PlayedItem) → last_lines (ps ++ p ∷ []) ≡ item_lines p
last_snoc [] p = refl
last_snoc (q ∷ []) p = refl
last_snoc (q ∷ r ∷ ps) p = last_snoc (r ∷ ps) p

rest_within : (piece front rest : List ℕ) → piece ≡ front ++ rest → length rest ≤ length piece
rest_within piece front rest is = omega (arith, ap (λ (l : List ℕ). length l) is, length-append front rest)

-- what was written of an item: a front of the text of one that was played whole, or nothing
front_of : (was now : Option (List ℕ)) (text : List ℕ) {A : Type 0} → (A × WritesFront was now text) ⊎ (now ≡ was) → (w : WritesFront was now text) × (A ⊎ (w.0 ≡ text))
front_of was now text (inl f) = (f.1, inl f.0)
front_of was now text {A} (inr same) = subst (λ (o : Option (List ℕ)). (w : WritesFront was o text) × (A ⊎ (w.0 ≡ text))) (sym same) ((text, written_start was text), inr refl)

pub not_nil : {X : Type 0} (xs : List X) (x : X) → xs ++ x ∷ [] ≡ [] → ⊥
not_nil [] x e = cc
not_nil (y ∷ xs) x e = cc

module _ {B : Type 0} {base : ℕ → Option NamedStates} {meaning : B → Meaning} {fleet : FleetShape} {firsts : List (Hold B)} {was written : Option (List ℕ)} {watching between : List Held} {items : List Item} {fs : List Follower} {xs : List (Hold B)}
    (run : RunSoFar base meaning fleet firsts was written watching between items fs xs) (first : items ≡ [] → xs ≡ firsts) where
  -- before an item of which nothing was done
  run_halts : (more all : List Item) → items ++ more ≡ all → RunShort base meaning fleet firsts was written watching between all xs
  run_halts more all whole =
      let text : List ℕ = lines_text fleet.names (all_lines run.played) in
      let begins : all ≡ map item_of run.played ++ more = sym whole ∙ ap (λ (is : List Item). is ++ more) (sym run.items_are) in
      record {
        played = run.played;
        some = inl (more, begins);
        rest = [];
        text = record { front = text; is = sym (append-nil text); bytes = run.text };
        last = omega arith;
        cut = inl (more, begins);
        has = run.has;
        untouched = λ none. first (sym run.items_are ∙ ap (λ (ps : List PlayedItem). map item_of ps) none);
        followed = λ known is histories on. follow_to_end fleet (base_states_of fleet known) histories run.played [] fs (run.followed known is histories on);
      }

  -- behind an item that was played, or begun, and of which a front was written; or before it
  stops_at : (after : Option (List ℕ)) (watched : List Held) (x : Item) (more all : List Item) (ys : List (Hold B)) → items ++ x ∷ more ≡ all → AllPass meaning xs ys → AreFollowers fleet fs
      → StopsAt meaning fleet fs xs ys written after between watched x → RunShort base meaning fleet firsts was after watching watched all ys
  stops_at after watched x more all ys whole time followers (StopsAt.unplayed holds text watches) = rw (holds, text, watches) (run_halts (x ∷ more) all whole)
  stops_at after watched x more all ys whole time followers (StopsAt.short p begins plays counts heard wrote did) =
      let piece : List ℕ = lines_text fleet.names (item_lines p) in
      let found : (w : WritesFront written after piece) × ((item_of p ≡ x) ⊎ (w.0 ≡ piece)) = front_of written after piece wrote in
      let front : WritesFront written after piece = found.0 in
      let last : lines_text fleet.names (last_lines (run.played ++ p ∷ [])) ≡ piece = ap (λ (ls : List Line). lines_text fleet.names ls) (last_snoc run.played p) in
      let items_so : map item_of (run.played ++ p ∷ []) ≡ items ++ item_of p ∷ [] = map-append item_of run.played (p ∷ []) ∙ ap (λ (is : List Item). is ++ item_of p ∷ []) run.items_are in
      record {
        played = run.played ++ p ∷ [];
        some = inr (items, more, item_of p, x, sym whole, begins, items_so);
        rest = front.0;
        text = subst (λ (t : List ℕ). Written was after t front.0) (sym (text_snoc fleet.names run.played p))
            (front_behind was written after (lines_text fleet.names (all_lines run.played)) piece front.0 run.text front.1);
        last = subst (λ (t : List ℕ). length front.0 ≤ length t) (sym last) (rest_within piece front.1.front front.0 front.1.is);
        cut = elim found.1 [
          | inl same ↦ inl (more, sym whole ∙ (ap (λ (i : Item). items ++ i ∷ more) (sym same) ∙ (sym (append_assoc items (item_of p ∷ []) more) ∙ ap (λ (is : List Item). is ++ more) (sym items_so))))
          | inr is ↦ inr (is ∙ sym last)
        ];
        has = has_more run.has plays watched heard counts time;
        untouched = λ none. absurd (not_nil run.played p none);
        followed = λ known is histories on.
            let one = did histories on in
            let itself = itself_known run.has plays fs one.0 followers known is histories on one.1 in
            follow_to_stop fleet (base_states_of fleet known) histories run.played p [] fs one.0 (run.followed known is histories itself.0) itself.1;
      }

-- where an item stops a run of all of them
pub run_stops : {B : Type 0} {base : ℕ → Option NamedStates} {meaning : B → Meaning} {fleet crew : FleetShape} {firsts : List (Hold B)} {was written after : Option (List ℕ)} {watching between watched : List Held} {done left more all : List Item} {x : Item} {fs : List Follower} {xs ys : List (Hold B)}
    → RunSoFar base meaning fleet firsts was written watching between done fs xs → (done ≡ [] → xs ≡ firsts) → done ++ left ≡ all → left ≡ x ∷ more → AllPass meaning xs ys → crew ≡ fleet → AreFollowers fleet fs
    → StopsAt meaning crew fs xs ys written after between watched x → RunShort base meaning fleet firsts was after watching watched all ys
run_stops {B} {base} {meaning} {fleet} {crew} {firsts} {was} {written} {after} {watching} {between} {watched} {done} {left} {more} {all} {x} {fs} {xs} {ys} run first whole is time same followers stops =
    stops_at run first after watched x more all ys (ap (λ (r : List Item). done ++ r) (sym is) ∙ whole) time followers
    (subst (λ (f : FleetShape). StopsAt meaning f fs xs ys written after between watched x) same stops)

-- the same run, of the same items and standing queries
pub run_as : {B : Type 0} {base : ℕ → Option NamedStates} {meaning : B → Meaning} {fleet : FleetShape} {firsts : List (Hold B)} {was now : Option (List ℕ)} {watching watched : List Held} {items all : List Item} {fs gs : List Follower} {xs : List (Hold B)}
    → all ≡ items → gs ≡ fs → RunSoFar base meaning fleet firsts was now watching watched items fs xs → RunSoFar base meaning fleet firsts was now watching watched all gs xs
run_as is same run = rw (is, same) run
