-- Items that the run itself plays: what they did.
use Rattle.std.proofs.Common.{◌≡◌, inl, inr, ℕ, ◌+◌, true, false, List, [], ◌∷◌, ◌++◌, length, refl, sym, ap, subst, ◌∙◌, arith, Option, Some, None, Result, Ok, Err, Vec, Global}
use Rattle.std.specs.Prelude.{IfOk, IfSome, IsErr, OnOk, slice_get, slice_set, map, ⊤}
use Rattle.std.specs.List.{AllByRecursion}
use Rattle.std.proofs.lemmas.List.{append-nil}
use Rattle.berth_face.specs.Berth.{Meaning}
use Rattle.leaf_model.specs.declared.queries.Query.{Query}
use Rattle.leaf_model.specs.declared.groups.Group.{Group}
use Rattle.leaf_history.specs.Calls as call
use Rattle.leaf_history.specs.History.{Entry}
use Rattle.answer_text.specs.Answer.{answer_lines}
use Rattle.standing_query.specs.Spread.{back, spread}
use Rattle.standing_query.proofs.Enough.{enough}
use Rattle.leaf_steward.proofs.Seating.{same_at}
use Rattle.leaf_table.specs.declared.replies.Reply.{Reply}
use Rattle.leaf_table.specs.declared.replies.Reply.TheVariants as reply
use Rattle.rollover_watch.specs.Watches.{Held}
use Rattle.script_text.specs.declared.command.Command.{Command}
use Rattle.script_text.specs.declared.command.Command.TheVariants as command
use Rattle.script_text.specs.declared.item.Item.{Item}
use Rattle.script_text.specs.declared.item.Item.TheVariants as item
use Rattle.script_text.specs.declared.fleet.FleetShape.{FleetShape}
use Rattle.script_text.specs.Commands.{leaf_count}
use Rattle.script_text.specs.declared.order.Order.{Order}
use Rattle.script_text.specs.declared.order.Part.{Part}
use Rattle.script_text.specs.declared.order.Part.TheVariants as part
use Rattle.script_text.specs.declared.order.RunOrder.{RunOrder}
use Rattle.script_text.specs.declared.order.RunOrder.TheVariants as run_order
use Rattle.script_text.specs.Fits.{declared_by}
use Rattle.script_text.proofs.Ordered.{run_is}
use Rattle.script_text.specs.Orders.{IsOfLeaves, IsOrder, IsPart, part_of, run_command}
use Rattle.printed_lines.specs.declared.line.Said.TheVariants.{Asked}
use Rattle.printed_lines.specs.declared.line.Line.{Line}
use Rattle.printed_lines.specs.declared.line.Line.TheVariants as line
use Rattle.printed_lines.specs.declared.line.WhyUntold.{WhyUntold}
use Rattle.printed_lines.specs.Lines.{IsOf}
use Rattle.standing_feed.specs.declared.follower.Follower.{Follower}
use Rattle.standing_feed.specs.declared.meant.Meant.{Meant}
use Rattle.standing_feed.specs.Following.{FollowAll, new_follower, meant_for, settled}
use Rattle.transcript.specs.Pieces.{Piece, Called, Says, Played, PlayedItem, One, Burst, item_of, lines_in, piece_lines, pieces_in, place_among}
use Rattle.transcript.specs.Histories.{BaseState}
use Rattle.transcript.specs.Telling as telling
use Rattle.transcript.specs.Watching.{Hears}
use Rattle.transcript_standing.specs.Followed.{DoesItself, TellsItself, TellsState}
use Rattle.leaf_moves.specs.Holds.{GoOn, Hold, base_states_in}
use Rattle.leaf_moves.specs.Lanes.{PlaysItem}
use Rattle.leaf_moves.specs.Plays as going
use Rattle.player.specs.Asked.{AsksLeaf}
use Rattle.player.specs.Crew.{AllCounted, CountedIf}
use Rattle.player.specs.Lines.{reply_line}
use Rattle.player.proofs.Chains.{counted_calm, goes_more}
use Rattle.player.proofs.Ordered.{part_may}
use Rattle.lane_play.specs.Shortened.{BeginsItem}
use Rattle.lane_play.specs.Went.{ItemWent, OrNothing, told_lines}
use Rattle.lane_play.proofs.Heard.{watched_one}
use Rattle.lane_play.proofs.Held.{all_counted_on}
use Rattle.bursts.proofs.Needed.{place_below}
use Rattle.play.specs.Standing.{DoesSo, FollowsLines, IsBefore, ItemDid, MayRunAlone, PlaysOwn, TellsBy, TellsLine, TellsSo}
use Rattle.play.proofs.AskedLines.{piece_told, piece_is, held_times, held_above, in_any, none_ok}

-- ---- which commands are the run's own

quiet : (fleet : FleetShape) (r : RunOrder) (pieces : List Piece) (ws : List Held) → Hears fleet (record { command = run_command r; pieces = pieces }) ws ws
quiet fleet (run_order.Declare leaf q) pieces ws = refl
quiet fleet (run_order.Tell number) pieces ws = refl

-- an item whose command tells the run this
pub own_item : {x : Item} {c : Command} {given : Part} {r : RunOrder} → x ≡ item.One c → given ≡ part_of c → given ≡ part.Run r → x ≡ item.One (run_command r)
own_item {x} {c} {given} {r} is split run = is ∙ ap (λ (k : Command). item.One k) (run_is c r (sym split ∙ run))

-- a tell declares none
pub none_told : (x : Item) (standing now was : ℕ) → x ≡ item.One (command.Tell standing) → now ≡ was → now ≡ was + declared_by x
none_told x standing now was is same =
    let none : was ≡ was + 0 = omega arith in
    rw is (same ∙ none)

-- the leaves may play the order of a command that a run may play
pub run_may : (fleet : FleetShape) (c : Command) (o : Order) → part_of c ≡ part.Leaves o → MayRunAlone fleet c → IsOrder (leaf_count fleet) fleet.names o
run_may fleet c o is may = subst (IsPart (leaf_count fleet) fleet.names) is (by c may)
  where
    by : (k : Command) → MayRunAlone fleet k → IsPart (leaf_count fleet) fleet.names (part_of k)
    by (command.Standing leaf q) h = tt
    by (command.Tell number) h = tt
    by k h = part_may fleet k h

-- an item of the leaves
abbrev pub IsOfCrew : Item → Type 0
IsOfCrew (item.One c) = IsOfLeaves (part_of c)
IsOfCrew (item.Burst lanes) = ⊤

-- it declares none
pub none_declared : (x y : Item) (count : ℕ) → x ≡ y → IsOfCrew y → count ≡ count + declared_by x
none_declared x y count is other = rw is (by y other)
  where
    none : count ≡ count + 0
    none = omega arith

    by : (z : Item) → IsOfCrew z → count ≡ count + declared_by z
    by (item.One (command.Standing leaf q)) leaves = absurd leaves
    by (item.One _) leaves = none
    by (item.Burst lanes) leaves = none

-- and at it the standing queries do nothing by themselves
idle_one : (fleet : FleetShape) (base_states : ℕ → ℕ → BaseState) (histories : ℕ → ℕ → List Entry) (c : Command) (pieces : List Piece) (fs : List Follower) → IsOfLeaves (part_of c)
    → DoesItself fleet base_states histories (One (record { command = c; pieces = pieces })) fs fs
idle_one fleet base_states histories (command.Standing leaf q) pieces fs other = absurd other
idle_one fleet base_states histories (command.Tell standing) pieces fs other = absurd other
idle_one fleet base_states histories _ pieces fs other = refl

idle : (fleet : FleetShape) (base_states : ℕ → ℕ → BaseState) (histories : ℕ → ℕ → List Entry) (x : Item) (p : PlayedItem) (fs : List Follower) → IsOfCrew x → BeginsItem (item_of p) x → DoesItself fleet base_states histories p fs fs
idle fleet base_states histories (item.One c) (One p) fs other begun = idle_one fleet base_states histories p.command p.pieces fs (subst (λ (k : Command). IsOfLeaves (part_of k)) (sym begun) other)
idle fleet base_states histories (item.One c) (Burst lanes) fs other begun = absurd begun
idle fleet base_states histories (item.Burst lanes) (One p) fs other begun = absurd begun
idle fleet base_states histories (item.Burst lanes) (Burst others) fs other begun = refl

-- ---- what an item did

module _ {B : Type 0} (meaning : B → Meaning) (fleet : FleetShape) where
  -- of an item, or nothing
  abbrev pub Did : Item → (List Follower → List Line → Type 0) → List Follower → List (Hold B) → List Held → Option (List Line) → List (Hold B) → List Held → Type 0
  Did x T olds xs us lines ys vs = OrNothing (ItemDid meaning fleet x T olds xs us lines ys vs) xs us lines ys vs

  -- what the leaves did at an item that is theirs
  leaves_did : (x : Item) (fs : List Follower) (xs ys : List (Hold B)) (us vs : List Held) (lines : Option (List Line)) → IsOfCrew x
      → OrNothing (ItemWent meaning fleet x xs us lines ys vs) xs us lines ys vs → Did x (IsBefore fs) fs xs us lines ys vs
  leaves_did x fs xs ys us vs lines other (inl went) = inl (record {
    went = went;
    did = λ histories on. (fs, idle fleet (base_states_in ys) histories x went.played fs other went.begun, still lines);
  })
    where
      still : (o : Option (List Line)) → IfSome o (IsBefore fs fs)
      still None = tt
      still (Some ls) = refl
  leaves_did x fs xs ys us vs lines other (inr none) = inr none

  pub leaves_did_as : (x y : Item) (fs : List Follower) (xs ys : List (Hold B)) (us vs : List Held) (lines : Option (List Line)) → x ≡ y → IsOfCrew y
      → OrNothing (ItemWent meaning fleet y xs us lines ys vs) xs us lines ys vs → Did x (IsBefore fs) fs xs us lines ys vs
  leaves_did_as x y fs xs ys us vs lines is other went = rw is (leaves_did y fs xs ys us vs lines other went)

  -- the same where its lines were let go for want of memory
  pub lost_as : {E : Type 0} (x : Item) (T U : List Follower → List Line → Type 0) (olds : List Follower) (xs ys : List (Hold B)) (us vs : List Held) (lines : Option (List Line)) (result : Result (Vec Line Global) E) → IsErr result
      → Did x T olds xs us lines ys vs → Did x U olds xs us (told_lines result) ys vs
  lost_as x T U olds xs ys us vs lines (Ok ls) wrong did = absurd cc
  lost_as x T U olds xs ys us vs lines (Err e) wrong (inl d) = inl (record {
    went = record {
      played = d.went.played;
      begun = d.went.begun;
      plays = d.went.plays;
      counted = d.went.counted;
      fit = d.went.fit;
      heard = d.went.heard;
      lines_are = tt;
    };
    did = λ histories on. let e = d.did histories on in (e.0, e.1, tt);
  })
  lost_as x T U olds xs ys us vs lines (Err e) wrong (inr none) = inr (record { refused = refl; holds = none.holds; watches = none.watches })

  -- and where the standing queries followed them
  pub followed_lines : (x : Item) (olds mids news : List Follower) (xs ys : List (Hold B)) (us vs : List Held) (lines : List Line) (notes : List (List Meant)) → notes ≡ map (meant_for x) olds → FollowAll notes lines mids news
      → Did x (IsBefore mids) olds xs us (Some lines) ys vs → Did x (FollowsLines x olds news) olds xs us (Some lines) ys vs
  followed_lines x olds mids news xs ys us vs lines notes are follow (inl d) = inl (record {
    went = d.went;
    did = λ histories on.
        let e = d.did histories on in (
          e.0,
          e.1,
          subst (λ (fs : List Follower). FollowAll (map (meant_for x) olds) lines fs news) (sym e.2) (subst (λ (ns : List (List Meant)). FollowAll ns lines mids news) are follow),
        );
  })
  followed_lines x olds mids news xs ys us vs lines notes are follow (inr none) = inr none

  -- what the run did by itself
  own_did : {E : Type 0} (r : RunOrder) (olds news : List Follower) (xs ys : List (Hold B)) (us : List Held) (result : Result (Vec Line Global) E)
      → PlaysOwn meaning fleet (run_command r) (DoesSo fleet (run_command r) olds result news) xs result ys → Did (item.One (run_command r)) (IsBefore news) olds xs us (told_lines result) ys us
  own_did {E = E} r olds news xs ys us result (inl p) =
      let q : Played = record { command = run_command r; pieces = p.pieces } in
      let pieces : pieces_in (q ∷ []) ≡ p.pieces = append-nil p.pieces in
      inl (record {
        went = record {
          played = One q;
          begun = refl;
          plays = PlaysItem.one q refl p.plays;
          counted = subst (λ (ps : List Piece). AllCounted meaning ps xs ys) (sym pieces) p.counted;
          fit = p.fit;
          heard = watched_one fleet q us us (quiet fleet r p.pieces us);
          lines_are = by result p.lines_are;
        };
        did = λ histories on. let e = p.did histories on in (e.0, e.1, told result e.0 e.2);
      })
    where
      by : (o : Result (Vec Line Global) E) → IfOk o (λ lines. lines.items ≡ lines_in p.pieces) → IfSome (told_lines o) (λ ls. (item.One (run_command r) ≡ item.One (run_command r)) × (ls ≡ lines_in p.pieces))
      by (Ok ls) are = (refl, are)
      by (Err e) are = tt

      told : (o : Result (Vec Line Global) E) (between : List Follower) → OnOk o (between ≡ news) → IfSome (told_lines o) (IsBefore news between)
      told (Ok ls) between is = is
      told (Err e) between is = tt
  own_did r olds news xs ys us (Ok lines) (inr none) = let wrong = none.0 in absurd cc
  own_did r olds news xs ys us (Err e) (inr none) = inr (record { refused = refl; holds = none.1; watches = refl })

  -- the same of an item that is the command
  pub own_did_as : {E : Type 0} (x : Item) (r : RunOrder) (olds news : List Follower) (xs ys : List (Hold B)) (us : List Held) (result : Result (Vec Line Global) E) → x ≡ item.One (run_command r)
      → PlaysOwn meaning fleet (run_command r) (DoesSo fleet (run_command r) olds result news) xs result ys → Did x (IsBefore news) olds xs us (told_lines result) ys us
  own_did_as x r olds news xs ys us result is plays = rw is (own_did r olds news xs ys us result plays)

  -- a line tells of no deed
  says_counted : (l : Line) (xs : List (Hold B)) → AllCounted meaning (Says l ∷ []) xs xs
  says_counted l xs = record {
    count = refl;
    each = λ leaf x y at now. subst (λ (z : Hold B). CountedIf meaning leaf (Says l ∷ []) x.held z.held) (same_at xs leaf x y at now) (counted_calm meaning leaf (Says l ∷ []) x.held (λ test. refl));
  }

  says_goes : (l : Line) (xs : List (Hold B)) → going.Goes meaning xs (Says l ∷ []) xs
  says_goes l xs = going.say xs (Says l ∷ []) xs l [] (going.none xs [] xs refl refl) refl

  -- a standing query was declared
  pub declares : {E : Type 0} (leaf : ℕ) (q : Query) (olds news : List Follower) (xs : List (Hold B)) (result : Result (Vec Line Global) E) → MayRunAlone fleet (command.Standing leaf q)
      → IfOk result (λ lines. lines.items ≡ line.Declared (length olds) ∷ []) → OnOk result (news ≡ olds ++ new_follower leaf (place_among q.table fleet.names) q ∷ [])
      → PlaysOwn meaning fleet (command.Standing leaf q) (DoesSo fleet (command.Standing leaf q) olds result news) xs result xs
  declares leaf q olds news xs (Err e) may told more = inr (refl, refl)
  declares leaf q olds news xs (Ok ls) may told more = inl (record {
    pieces = Says (line.Declared (length olds)) ∷ [];
    plays = record { goes = says_goes (line.Declared (length olds)) xs; prints = tt; answers = λ histories on. tt };
    counted = says_counted (line.Declared (length olds)) xs;
    fit = (tt, tt);
    lines_are = told;
    did = λ histories on. (
      news,
      record { leaf_is = may.0; table_is = place_below q.table fleet.names may.1; pieces_are = refl; news_are = more },
      refl,
    );
  })

  -- ---- what one tells

  -- the first line, and then what the query said, if there was memory for that
  abbrev pub ArePrinted : {E F : Type 0} → Line → Result Line F → Result (Vec Line Global) E → Type 0
  ArePrinted first (Ok told) result = IfOk result (λ lines. lines.items ≡ first ∷ told ∷ [])
  ArePrinted first (Err e) result = IsErr result

  -- it is a line that fits, whatever the rows are
  told_fits : (standing : ℕ) (f : Follower) (told : Line) → TellsState standing f told → IsOf fleet.names told
  told_fits standing f told tells = subst (IsOf fleet.names) (sym tells.1) tt

  -- what it would tell, had there been memory for its lines
  told_right : (standing : ℕ) (f : Follower) → (told : Line) × TellsState standing f told
  told_right standing f =
      let q : Query = f.standing.query in
      let lines : List (List ℕ) = answer_lines q (back q f.standing.groups) in (
        line.Told standing f.standing.upto lines,
        (lines, refl, (λ rows means times. ap (answer_lines q) (ap (back q) means.1 ∙ enough q rows times))),
      )

  -- one that is fresh tells what it knows
  pub tells_fresh : {E : Type 0} (standing : ℕ) (f g : Follower) (xs : List (Hold B)) (result : Result (Vec Line Global) E) → f.standing.stale ≡ false → g ≡ f → IfOk result (λ lines. TellsLine standing f lines.items)
      → PlaysOwn meaning fleet (command.Tell standing) (TellsSo fleet standing f result g) xs result xs
  tells_fresh standing f g xs (Ok lines) fresh same told = inl (record {
    pieces = Says told.0 ∷ [];
    plays = record { goes = says_goes told.0 xs; prints = tt; answers = λ histories on. tt };
    counted = says_counted told.0 xs;
    fit = (told_fits standing f told.0 told.1, tt);
    lines_are = told.2;
    did = λ histories on. (f, TellsItself.fresh told.0 fresh refl told.1 refl, sym same);
  })
  tells_fresh standing f g xs (Err e) fresh same told = inr (refl, refl)

  -- one that is stale asks its table first
  stale_with : {E : Type 0} (standing leaf table : ℕ) (q : Query) (D : (ℕ → ℕ → BaseState) → (ℕ → ℕ → List Entry) → List Piece → Type 0) (xs ys : List (Hold B)) (first : Line) (reply : Reply) (told : Line) (result : Result (Vec Line Global) E)
      (asked : AsksLeaf meaning fleet.names leaf table q xs first reply ys) → IsOf fleet.names told → IfOk result (λ lines. lines.items ≡ first ∷ told ∷ [])
      → ((histories : ℕ → ℕ → List Entry) → GoOn ys histories → D (base_states_in ys) histories (asked.piece ∷ Says told ∷ []))
      → PlaysOwn meaning fleet (command.Tell standing) D xs result ys
  stale_with {E = E} standing leaf table q D xs ys first reply told result asked fits lines did =
      let alone : piece_lines asked.piece ≡ first ∷ [] = sym (append-nil (piece_lines asked.piece)) ∙ asked.line_is in
      let both : lines_in (asked.piece ∷ Says told ∷ []) ≡ first ∷ told ∷ [] = ap (λ ls. ls ++ told ∷ []) alone in
      inl (record {
        pieces = asked.piece ∷ Says told ∷ [];
        plays = record {
          goes = goes_more meaning xs ys ys (asked.piece ∷ []) (Says told ∷ []) asked.goes (says_goes told ys);
          prints = tt;
          answers = λ histories on. tt;
        };
        counted = all_counted_on meaning xs ys ys (asked.piece ∷ []) (Says told ∷ []) asked.counted (says_counted told ys);
        fit = subst (AllByRecursion (IsOf fleet.names)) (sym both) (asked.fits, (fits, tt));
        lines_are = by result lines both;
        did = did;
      })
    where
      by : (r : Result (Vec Line Global) E) → IfOk r (λ lines. lines.items ≡ first ∷ told ∷ []) → lines_in (asked.piece ∷ Says told ∷ []) ≡ first ∷ told ∷ [] → IfOk r (λ lines. lines.items ≡ lines_in (asked.piece ∷ Says told ∷ []))
      by (Ok ls) are both = are ∙ sym both
      by (Err e) are both = tt

  -- its table's groups make it fresh, and it tells
  groups_tell : {E : Type 0} (standing : ℕ) (f g : Follower) (xs ys : List (Hold B)) (first : Line) (number : ℕ) (gs : List Group) (told : Line) (result : Result (Vec Line Global) E) → f.standing.stale ≡ true
      → AsksLeaf meaning fleet.names f.leaf f.table (spread f.standing.query) xs first (reply.Groups number gs) ys → g ≡ settled number gs f → TellsState standing (settled number gs f) told
      → IfOk result (λ lines. lines.items ≡ first ∷ told ∷ []) → PlaysOwn meaning fleet (command.Tell standing) (TellsSo fleet standing f result g) xs result ys
  groups_tell standing f g xs ys first number gs told result stale asked same tells lines =
      let q : Query = spread f.standing.query in
      let piece : asked.piece ≡ Called f.leaf f.table (call.Ask q) number Asked = piece_is f.leaf f.table q asked.piece first asked.prints asked.line_is ∙ ap (piece_told q) asked.tells in
      stale_with standing f.leaf f.table q (TellsSo fleet standing f result g) xs ys first (reply.Groups number gs) told result asked (told_fits standing (settled number gs f) told tells) lines
      (λ histories on. (
        settled number gs f,
        TellsItself.made_fresh number gs told stale (ap (λ (p : Piece). p ∷ Says told ∷ []) piece)
            (record {
              times = held_times _ _ (asked.over histories on).held.each;
              none_below = held_above _ _ (asked.over histories on).held.each;
              are = (asked.over histories on).are;
            })
            tells refl,
        in_any result (sym same),
      ))

  -- a refusal leaves it stale, and it tells why
  refusal_tells : {E F : Type 0} {standing : ℕ} {f g : Follower} {xs ys : List (Hold B)} {first : Line} {answer : Reply} {why : WhyUntold} {said : Result Line F} {result : Result (Vec Line Global) E} → f.standing.stale ≡ true
      → AsksLeaf meaning fleet.names f.leaf f.table (spread f.standing.query) xs first answer ys → telling.why_untold (piece_told (spread f.standing.query) (reply_line f.leaf f.table answer)) ≡ Some why
      → (g ≡ f) × (said ≡ Ok (line.Untold standing why)) → ArePrinted first said result → PlaysOwn meaning fleet (command.Tell standing) (TellsSo fleet standing f result g) xs result ys
  refusal_tells {E} {F} {standing} {f} {g} {xs} {ys} {first} {answer} {why} {said} {result} stale asked untold tells lines =
      let q : Query = spread f.standing.query in
      let piece : asked.piece ≡ piece_told q (reply_line f.leaf f.table answer) = piece_is f.leaf f.table q asked.piece first asked.prints asked.line_is ∙ ap (piece_told q) asked.tells in
      stale_with standing f.leaf f.table q (TellsSo fleet standing f result g) xs ys first answer (line.Untold standing why) result asked tt (subst (λ (s : Result Line F). ArePrinted first s result) tells.1 lines)
      (λ histories on. (
        f,
        TellsItself.stays_stale asked.piece why stale asked.prints (ap telling.why_untold piece ∙ untold) refl refl,
        in_any result (sym tells.0),
      ))

  -- whatever it was answered, also where there was no memory for what it tells
  pub tells_stale : {E F : Type 0} {standing : ℕ} {f : Follower} {xs ys : List (Hold B)} {first : Line} {answer : Reply} {result : Result (Vec Line Global) E} (g : Follower) (said : Result Line F) → f.standing.stale ≡ true
      → AsksLeaf meaning fleet.names f.leaf f.table (spread f.standing.query) xs first answer ys → TellsBy standing f answer said g → ArePrinted first said result
      → PlaysOwn meaning fleet (command.Tell standing) (TellsSo fleet standing f result g) xs result ys
  tells_stale {standing = standing} {f = f} {xs = xs} {ys = ys} {first = first} {answer = reply.Groups number gs} {result = result} g (Ok told) stale asked tells lines =
      groups_tell standing f g xs ys first number gs told result stale asked tells.0 (subst (λ (h : Follower). TellsState standing h told) tells.0 tells.1) lines
  tells_stale {standing = standing} {f = f} {xs = xs} {ys = ys} {first = first} {answer = reply.Groups number gs} {result = result} g (Err e) stale asked tells lines =
      let told = told_right standing (settled number gs f) in
      groups_tell standing f g xs ys first number gs told.0 result stale asked tells.0 told.1 (none_ok (λ (ls : Vec Line Global). ls.items ≡ first ∷ told.0 ∷ []) result lines)
  tells_stale {answer = reply.Shut number} g said stale asked tells lines = refusal_tells stale asked refl tells lines
  tells_stale {answer = reply.Worn} g said stale asked tells lines = refusal_tells stale asked refl tells lines
  tells_stale {answer = reply.NoMemory number} g said stale asked tells lines = refusal_tells stale asked refl tells lines
  tells_stale {answer = reply.Full number} g said stale asked tells lines = refusal_tells stale asked refl tells lines
  tells_stale {answer = reply.Added number kept late} g said stale asked tells lines = refusal_tells stale asked refl tells lines
  tells_stale {answer = reply.Removed number rows} g said stale asked tells lines = refusal_tells stale asked refl tells lines

  -- what the one of a number told is what they did at that command
  pub one_told : {E : Type 0} (standing : ℕ) (olds news : List Follower) (f g : Follower) (xs ys : List (Hold B)) (result : Result (Vec Line Global) E) → slice_get olds standing ≡ Some f → news ≡ slice_set olds standing g
      → PlaysOwn meaning fleet (command.Tell standing) (TellsSo fleet standing f result g) xs result ys → PlaysOwn meaning fleet (command.Tell standing) (DoesSo fleet (command.Tell standing) olds result news) xs result ys
  one_told {E = E} standing olds news f g xs ys result at are (inl p) = inl (record {
    pieces = p.pieces;
    plays = p.plays;
    counted = p.counted;
    fit = p.fit;
    lines_are = p.lines_are;
    did = λ histories on.
        let e = p.did histories on in (
          slice_set olds standing e.0,
          record { old = f; new = e.0; at = at; tells = e.1; news_are = refl },
          by result e.0 e.2,
        );
  })
    where
      by : (r : Result (Vec Line Global) E) (between : Follower) → OnOk r (between ≡ g) → OnOk r (slice_set olds standing between ≡ news)
      by (Ok ls) between is = ap (λ (h : Follower). slice_set olds standing h) is ∙ sym are
      by (Err e) between is = tt
  one_told standing olds news f g xs ys result at are (inr none) = inr none
