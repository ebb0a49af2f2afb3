-- Behind an item that was played, what is heard of a table is what the lines of its entries tell, each by the call that
-- its piece names.
use Rattle.std.proofs.Common.{◌≡◌, ℕ, suc, ◌<◌, List, [], ◌∷◌, ◌++◌, length, map, refl, sym, ap, subst, ◌∙◌, append_assoc}
use Rattle.std.specs.Prelude.{Some, None, option_to_list, slice_get}
use Rattle.std.specs.List.{AllByRecursion, flat_map, range_with_len}
use Rattle.std.proofs.lemmas.Grind.{flat_map-append}
use Rattle.std.proofs.lemmas.List.{append-nil}
use Rattle.row_model.specs.Names.{AreDistinct}
use Rattle.leaf_history.specs.Calls.{Call}
use Rattle.leaf_history.specs.History.{Entry}
use Rattle.script_text.specs.declared.command.Command.{Command}
use Rattle.script_text.specs.declared.command.Command.TheVariants as command
use Rattle.script_text.specs.declared.order.Order.{Order}
use Rattle.script_text.specs.declared.order.Order.TheVariants as order
use Rattle.script_text.specs.declared.order.Part.{Part}
use Rattle.script_text.specs.declared.order.Part.TheVariants as part
use Rattle.script_text.specs.declared.order.TableRequest.{TableRequest}
use Rattle.script_text.specs.declared.order.TableRequest.TheVariants as request
use Rattle.script_text.specs.Orders.{part_of}
use Rattle.script_text.specs.declared.fleet.FleetShape.{FleetShape}
use Rattle.script_text.specs.Commands.{leaf_count}
use Rattle.printed_lines.specs.declared.line.Deed.{Deed}
use Rattle.printed_lines.specs.declared.line.Deed.TheVariants.{Start, Drain}
use Rattle.printed_lines.specs.declared.line.Line.{Line}
use Rattle.printed_lines.specs.declared.line.Line.TheVariants as line
use Rattle.standing_feed.specs.declared.heard.Heard.{Heard}
use Rattle.standing_feed.specs.declared.meant.Meant.{Meant}
use Rattle.standing_feed.specs.Hearing.{TablePlace, heard, heard_from, is_at, meant_by, meant_in, meant_lane, meant_order, meant_request, no_call_yet, some_when}
use Rattle.transcript.specs.Pieces.{Piece, Says, Played, PlayedItem, One, Burst, commands_in, item_lines, item_of, lane_lines, lines_in, piece_lines, pieces_in, plays_of}
use Rattle.transcript.specs.Shapes.{ActPiece, EachActs, OnePiece, Prints, PrintsOrder, Rolls, WavePieces, WavesPieces, call_of}
use Rattle.transcript.specs.Histories.{BaseState, shown}
use Rattle.transcript.specs.Answers.{Answers, AnswersOrder}
use Rattle.transcript_standing.specs.Followed.{IsOfLane, IsPlayable}
use Rattle.transcript_standing.proofs.Lists.{All-both, All-joined}
use Rattle.transcript_standing.proofs.HeardPieces.{AreProper, Hears, HearsOwn, IsCalm, IsProper, ItemOwn, Takes, Uses, call_meant, calm_hears, heard_append, heard_of, hears_more, hears_none, proper_parts}
use Rattle.transcript_standing.proofs.HeardQueries.{ask_taken, query_hears}
use Rattle.transcript_standing.proofs.HeardTails.{tail_hears}

-- ---- pieces of stewards

abbrev pub AreCalm : List Piece → Type 0
AreCalm pieces = AllByRecursion IsCalm pieces

act_calm : (leaf : ℕ) (deed : Deed) (piece : Piece) → ActPiece leaf deed piece → IsCalm piece
act_calm leaf deed piece is = subst (λ (q : Piece). IsCalm q) (sym is.2) tt

pub one_calm : (leaf : ℕ) (deed : Deed) (pieces : List Piece) → OnePiece (ActPiece leaf deed) pieces → AreCalm pieces
one_calm leaf deed pieces one = subst (λ (ps : List Piece). AreCalm ps) (sym one.2) (act_calm leaf deed one.0 one.1, tt)

pub each_calm : (deed : Deed) (leaves : List ℕ) (pieces : List Piece) → EachActs deed leaves pieces → AreCalm pieces
each_calm deed [] [] each = tt
each_calm deed [] (q ∷ pieces) each = absurd each
each_calm deed (leaf ∷ leaves) [] each = absurd each
each_calm deed (leaf ∷ leaves) (q ∷ pieces) each = (act_calm leaf deed q each.0, each_calm deed leaves pieces each.1)

wave_calm : (number total : ℕ) (leaves : List ℕ) (pieces : List Piece) → WavePieces number total leaves pieces → AreCalm pieces
wave_calm number total leaves pieces w =
    subst (λ (ps : List Piece). AreCalm ps) (sym w.are)
    (tt, All-joined IsCalm w.drains w.starts (each_calm (Drain None) leaves w.drains w.drained) (each_calm Start leaves w.starts w.started))

waves_calm : (number total : ℕ) (waves : List (List ℕ)) (begun : List (List Piece)) → WavesPieces number total waves begun → AreCalm (flat_map (λ (wave : List Piece). wave) begun)
waves_calm number total waves [] each = tt
waves_calm number total [] (q ∷ begun) each = absurd each
waves_calm number total (wave ∷ waves) (q ∷ begun) each =
    All-joined IsCalm q (flat_map (λ (w : List Piece). w) begun) (wave_calm number total wave q each.0) (waves_calm (suc number) total waves begun each.1)

watches_calm : (texts : List (List ℕ)) → AreCalm (map (λ (text : List ℕ). Says (line.Watch text)) texts)
watches_calm [] = tt
watches_calm (text ∷ texts) = (tt, watches_calm texts)

pub roll_calm : (fleet : FleetShape) (percent : ℕ) (pieces : List Piece) → Rolls fleet percent pieces → AreCalm pieces
roll_calm fleet percent pieces r =
    let begun : List Piece = flat_map (λ (wave : List Piece). wave) r.roll.begun in
    let watches : List Piece = map (λ (text : List ℕ). Says (line.Watch text)) r.roll.texts in
    subst (λ (ps : List Piece). AreCalm ps) (sym r.roll.are)
    (All-joined IsCalm begun (Says (line.Rolled r.roll.halted (length r.roll.begun) (length r.plan)) ∷ watches)
    (waves_calm 1 (length r.plan) r.plan r.roll.begun r.roll.each) (tt, watches_calm r.roll.texts))

-- ---- commands

-- the order of the leaves that a part is
abbrev pub order_in : Part → Order
order_in (part.Leaves o) = o
order_in (part.Run o) = order.Start

-- the call of a request uses up what the request means
request_taken : (r : TableRequest) (rest : List Meant) → Takes (no_call_yet (meant_request r ∷ rest)) (call_of r) (no_call_yet rest)
request_taken (request.Add rows) rest = λ told is. (refl, refl)
request_taken (request.Expire horizon) rest = λ told is. (refl, refl)
request_taken (request.Keep n) rest = λ told is. (refl, refl)
request_taken (request.Ask q) rest = ask_taken q rest

module _ (fleet : FleetShape) (base_states : ℕ → ℕ → BaseState) (histories : ℕ → ℕ → List Entry) (p : TablePlace) (distinct : AreDistinct fleet.names) (below : p.leaf < leaf_count fleet)
    (at : slice_get fleet.names p.table ≡ Some p.name) where
  -- an order uses up what it means
  lane_order : (o : Order) (pieces : List Piece) → PrintsOrder fleet o pieces → AnswersOrder fleet base_states histories o pieces → Uses p (meant_order p o) pieces
  lane_order order.Start pieces prints answers rest = calm_hears pieces (each_calm Start (range_with_len 0 (leaf_count fleet)) pieces prints)
  lane_order (order.Call leaf table r) pieces prints answers rest =
      subst (λ (ps : List Piece). Hears p (no_call_yet (option_to_list (some_when (is_at p leaf table) (meant_request r)) ++ rest)) ps (no_call_yet rest)) (sym prints.2)
      (call_meant (meant_request r) prints.1 (request_taken r) rest)
  lane_order (order.Deed leaf d) pieces prints answers rest = calm_hears pieces (one_calm leaf d pieces prints)
  lane_order (order.Query q) pieces prints answers rest = query_hears p fleet q pieces distinct below at prints rest
  lane_order (order.Tail key table rows) pieces prints answers rest =
      tail_hears p (leaf_count fleet) (λ leaf. base_states leaf table) (λ leaf. histories leaf table) key table rows pieces answers rest
  lane_order (order.Rollover percent) pieces prints answers rest = calm_hears pieces (roll_calm fleet percent pieces prints)

  -- so does a command of a lane
  lane_command : (c : Command) (pieces : List Piece) → Prints fleet c pieces → Answers fleet base_states histories (record { command = c; pieces = pieces }) → IsOfLane c → Uses p (meant_by p c) pieces
  lane_command (command.Standing leaf q) pieces prints answers may = absurd may
  lane_command (command.Tell standing) pieces prints answers may = absurd may
  lane_command c pieces prints answers may = lane_order (order_in (part_of c)) pieces prints answers

  -- and so does one alone
  one_command : (c : Command) (pieces : List Piece) → Prints fleet c pieces → Answers fleet base_states histories (record { command = c; pieces = pieces }) → HearsOwn p c pieces
      → Hears p (no_call_yet (option_to_list (meant_by p c))) pieces (no_call_yet [])
  one_command (command.Standing leaf q) pieces prints answers own = own
  one_command (command.Tell standing) pieces prints answers own = own
  one_command c pieces prints answers own =
      subst (λ (calls : List Meant). Hears p (no_call_yet calls) pieces (no_call_yet [])) (append-nil (option_to_list (meant_by p c)))
      (lane_order (order_in (part_of c)) pieces prints answers [])

  -- ---- lanes

  abbrev ArePrinted : List Played → Type 0
  ArePrinted ps = AllByRecursion (λ (q : Played). Prints fleet q.command q.pieces) ps

  abbrev AreAnswered : List Played → Type 0
  AreAnswered ps = AllByRecursion (Answers fleet base_states histories) ps

  abbrev AreOfLane : List Played → Type 0
  AreOfLane ps = AllByRecursion (λ (q : Played). IsOfLane q.command) ps

  lane_hears : (ps : List Played) → ArePrinted ps → AreAnswered ps → AreOfLane ps
      → (rest : List Meant) → Hears p (no_call_yet (meant_lane p (commands_in ps) ++ rest)) (pieces_in ps) (no_call_yet rest)
  lane_hears [] prints answers may rest = hears_none
  lane_hears (q ∷ ps) prints answers may rest =
      let here : List Meant = option_to_list (meant_by p q.command) in
      let others : List Meant = meant_lane p (commands_in ps) in
      subst (λ (calls : List Meant). Hears p (no_call_yet calls) (q.pieces ++ pieces_in ps) (no_call_yet rest)) (sym (append_assoc here others rest))
      (hears_more (lane_command q.command q.pieces prints.0 answers.0 may.0 (others ++ rest)) (lane_hears ps prints.1 answers.1 may.1 rest))

  lanes_heard : (number : ℕ) (lanes : List (List Played)) → ArePrinted (plays_of (Burst lanes)) → AreAnswered (plays_of (Burst lanes)) → AreOfLane (plays_of (Burst lanes))
      → AreProper p (pieces_in (plays_of (Burst lanes)))
      → heard_from p (no_call_yet (flat_map (meant_lane p) (map commands_in lanes))) (lane_lines number lanes) ≡ map heard_of (shown p.leaf p.table (pieces_in (plays_of (Burst lanes))))
  lanes_heard number [] prints answers may proper = refl
  lanes_heard number (lane ∷ lanes) prints answers may proper =
      let others : List Played = plays_of (Burst lanes) in
      let joined : pieces_in (lane ++ others) ≡ pieces_in lane ++ pieces_in others = flat_map-append (λ (q : Played). q.pieces) lane others in
      let printed = All-both (λ (q : Played). Prints fleet q.command q.pieces) lane others prints in
      let answered = All-both (Answers fleet base_states histories) lane others answers in
      let ofs = All-both (λ (q : Played). IsOfLane q.command) lane others may in
      let parts = proper_parts p (pieces_in lane) (pieces_in others) (subst (λ (ps : List Piece). AreProper p ps) joined proper) in
      (lane_hears lane printed.0 answered.0 ofs.0 (flat_map (meant_lane p) (map commands_in lanes))).hears parts.0 (lane_lines (suc number) lanes)
      ∙ ap (λ (hs : List Heard). map heard_of (shown p.leaf p.table (pieces_in lane)) ++ hs) (lanes_heard (suc number) lanes printed.1 answered.1 ofs.1 parts.1)
      ∙ sym (heard_append p (pieces_in lane) (pieces_in others))
      ∙ ap (λ (ps : List Piece). map heard_of (shown p.leaf p.table ps)) (sym joined)

  alone_heard : (q : Played) → Prints fleet q.command q.pieces → Answers fleet base_states histories q → HearsOwn p q.command q.pieces → AreProper p (q.pieces ++ [])
      → heard_from p (no_call_yet (option_to_list (meant_by p q.command))) (lines_in q.pieces) ≡ map heard_of (shown p.leaf p.table (q.pieces ++ []))
  alone_heard q prints answers own proper =
      let calls = no_call_yet (option_to_list (meant_by p q.command)) in
      let hears = hears_more (one_command q.command q.pieces prints answers own) hears_none in
      ap (λ (ls : List Line). heard_from p calls ls) (sym (flat_map-append piece_lines q.pieces [] ∙ append-nil (lines_in q.pieces)))
      ∙ ap (λ (ls : List Line). heard_from p calls ls) (sym (append-nil (lines_in (q.pieces ++ []))))
      ∙ hears.hears proper []
      ∙ append-nil (map heard_of (shown p.leaf p.table (q.pieces ++ [])))

-- Of a table of the fleet, what is heard behind an item is what the lines of its entries tell.
pub heard_shown : (fleet : FleetShape) (base_states : ℕ → ℕ → BaseState) (histories : ℕ → ℕ → List Entry) (x : PlayedItem) (p : TablePlace)
    → AreDistinct fleet.names → p.leaf < leaf_count fleet → slice_get fleet.names p.table ≡ Some p.name
    → IsPlayable x
    → AllByRecursion (λ (q : Played). Prints fleet q.command q.pieces) (plays_of x)
    → AllByRecursion (Answers fleet base_states histories) (plays_of x)
    → ItemOwn p x
    → AllByRecursion IsProper (shown p.leaf p.table (pieces_in (plays_of x)))
    → heard p (meant_in p (item_of x)) (item_lines x) ≡ map heard_of (shown p.leaf p.table (pieces_in (plays_of x)))
heard_shown fleet base_states histories (One q) p distinct below at may prints answers own proper =
    alone_heard fleet base_states histories p distinct below at q prints.0 answers.0 own proper
heard_shown fleet base_states histories (Burst lanes) p distinct below at may prints answers own proper =
    lanes_heard fleet base_states histories p distinct below at 0 lanes prints answers may proper
