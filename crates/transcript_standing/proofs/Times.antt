-- The rows that are heard have times, and the lines of entries are what callers and stewards may be told.
use Rattle.std.proofs.Common.{◌≡◌, ℕ, ◌-◌, ◌==◌, Bool, true, false, List, [], ◌∷◌, ◌++◌, map, refl, subst, ap, ◌∙◌, Option, Some, None}
use Rattle.std.specs.Prelude.{IfSome, bytes_eq, if◌then◌else◌, option_to_list, take, ⊤}
use Rattle.std.specs.List.{AllByRecursion, flat_map}
use Rattle.row_model.specs.declared.rows.Row.{Row}
use Rattle.leaf_history.specs.Calls.{Call}
use Rattle.leaf_history.specs.Calls as call
use Rattle.leaf_history.specs.Replies.{EntryReply}
use Rattle.leaf_history.specs.Replies as reply
use Rattle.leaf_history.specs.History.{Allowed, Entry, HistoryState, LegalFrom, after}
use Rattle.script_text.specs.declared.order.Order.{Order}
use Rattle.script_text.specs.declared.order.Order.TheVariants as order
use Rattle.script_text.specs.declared.order.Part.{Part}
use Rattle.script_text.specs.declared.order.Part.TheVariants as part
use Rattle.script_text.specs.declared.order.TableRequest.{TableRequest}
use Rattle.script_text.specs.declared.order.TableRequest.TheVariants as request
use Rattle.script_text.specs.Orders.{part_of}
use Rattle.printed_lines.specs.declared.line.Said.{Said}
use Rattle.printed_lines.specs.declared.line.Said.TheVariants.{Added, Removed, Asked, RefusedShut, RefusedFull, RefusedMemory, Opened, Took, Flushed, Closed, Handed}
use Rattle.printed_lines.specs.declared.line.Line.{Line}
use Rattle.printed_lines.specs.declared.line.Line.TheVariants as line
use Rattle.standing_feed.specs.declared.heard.Heard.{Heard}
use Rattle.standing_feed.specs.declared.meant.Meant.{Meant}
use Rattle.standing_feed.specs.declared.meant.Meant.TheVariants as meant
use Rattle.standing_feed.specs.declared.meant.Now.{Now}
use Rattle.standing_feed.specs.declared.meant.Now.TheVariants as now
use Rattle.standing_feed.specs.Hearing.{CallsLeft, TablePlace, fed_by, fed_by_call, fed_by_next, fed_by_tail, fed_called, heard, heard_from, is_at, left_by, left_by_next, left_by_tail, left_called, meant_by, meant_in, meant_lane, meant_order, meant_part, meant_request, no_call_yet, rows_left, some_when}
use Rattle.transcript.specs.Pieces.{Played, PlayedItem, One, Burst, commands_in, item_lines, item_of, plays_of}
use Rattle.transcript.specs.Histories.{Shown, ShowsEntry}
use Rattle.transcript_standing.specs.Followed.{AreTimes, IsOfLane, IsPlayable, LanePart, OrderTimes, PartTimes, RequestTimes}
use Rattle.transcript_standing.proofs.Lists.{All-both, All-joined, All-therefore}
use Rattle.transcript_standing.proofs.HeardPieces.{IsProper, IsSaidOf}
use Rattle.transcript_standing.proofs.Feeding.{FedTimes, HaveTimes, added_noted, entry_at}
use Rattle.transcript_standing.proofs.Numbers.{ShowsIn}

-- ---- what is heard of calls whose rows have times

abbrev MeantTimes : Meant → Type 0
MeantTimes (meant.Add rows) = AreTimes rows
MeantTimes (meant.Tail rows) = IfSome rows AreTimes
MeantTimes _ = ⊤

abbrev AllTimes : List Meant → Type 0
AllTimes calls = AllByRecursion MeantTimes calls

abbrev NowTimes : Now → Type 0
NowTimes (now.Tail rows) = IfSome rows AreTimes
NowTimes now.Between = ⊤

abbrev LeftTimes : CallsLeft → Type 0
LeftTimes k = NowTimes k.current × AllTimes k.rest

call_feeds : (m : Meant) (told : Said) → MeantTimes m → FedTimes (fed_by_call m told)
call_feeds (meant.Add rows) (Added kept late) t = t
call_feeds (meant.Add rows) _ t = tt
call_feeds (meant.Expire horizon) (Removed n) t = tt
call_feeds (meant.Expire horizon) _ t = tt
call_feeds meant.Keep (Removed n) t = tt
call_feeds meant.Keep _ t = tt
call_feeds _ _ t = tt

tail_feeds : (rows : Option (List Row)) (told : Said) → IfSome rows AreTimes → FedTimes (fed_by_tail rows told) × IfSome (rows_left rows told) AreTimes
tail_feeds None told t = (tt, tt)
tail_feeds (Some rows) (Added kept late) t = (t, tt)
tail_feeds (Some rows) _ t = (tt, t)

next_feeds : (calls : List Meant) (told : Said) → AllTimes calls → FedTimes (fed_by_next calls told) × LeftTimes (left_by_next calls told)
next_feeds [] told t = (tt, (tt, tt))
next_feeds (meant.Tail rows ∷ more) told t = let both = tail_feeds rows told t.0 in (both.0, (both.1, t.1))
next_feeds (m ∷ more) told t = (call_feeds m told t.0, (tt, t.1))

called_feeds : (current : Now) (rest : List Meant) (told : Said) → NowTimes current → AllTimes rest
    → FedTimes (fed_called (record { current = current; rest = rest }) told) × LeftTimes (left_called (record { current = current; rest = rest }) told)
called_feeds (now.Tail rows) rest told t ts = let both = tail_feeds rows told t in (both.0, (both.1, ts))
called_feeds now.Between rest told t ts = next_feeds rest told ts

entry_feeds : (k : CallsLeft) (told : Said) → LeftTimes k → FedTimes (fed_by k told) × LeftTimes (left_by k told)
entry_feeds k (Opened writes) t = (tt, t)
entry_feeds k (Closed writes) t = (tt, t)
entry_feeds k (Took writes) t = (tt, t)
entry_feeds k (Flushed writes) t = (tt, t)
entry_feeds k Handed t = (tt, t)
entry_feeds k told t = called_feeds k.current k.rest told t.0 t.1

tail_ends : (current : Now) (rest : List Meant) → AllTimes rest → LeftTimes (left_by_tail (record { current = current; rest = rest }))
tail_ends (now.Tail rows) rest ts = (tt, ts)
tail_ends now.Between [] ts = (tt, tt)
tail_ends now.Between (m ∷ rest) ts = (tt, ts.1)

left_if : (b : Bool) (j k : CallsLeft) → LeftTimes j → LeftTimes k → LeftTimes (if b then j else k)
left_if true j k t other = t
left_if false j k t other = other

heard_if : (b : Bool) (h : Heard) (hs : List Heard) → FedTimes h.fed → HaveTimes hs → HaveTimes (option_to_list (some_when b h) ++ hs)
heard_if true h hs t ts = (t, ts)
heard_if false h hs t ts = ts

lines_feed : (p : TablePlace) (k : CallsLeft) (lines : List Line) → LeftTimes k → HaveTimes (heard_from p k lines)
lines_feed p k [] t = tt
lines_feed p k (line.Entry leaf table number told ∷ lines) t =
    let feeds = entry_feeds k told t in
    let next : CallsLeft = if is_at p leaf table then left_by k told else k in
    heard_if (is_at p leaf table) (record { number = number; fed = fed_by k told }) (heard_from p next lines) feeds.0
    (lines_feed p next lines (left_if (is_at p leaf table) (left_by k told) k feeds.1 t))
lines_feed p k (line.Worn leaf table ∷ lines) t =
    lines_feed p (if is_at p leaf table then left_called k RefusedShut else k) lines
    (left_if (is_at p leaf table) (left_called k RefusedShut) k (called_feeds k.current k.rest RefusedShut t.0 t.1).1 t)
lines_feed p k (line.Tailed leaf ∷ lines) t = lines_feed p (left_by_tail k) lines (tail_ends k.current k.rest t.1)
lines_feed p k (_ ∷ lines) t = lines_feed p k lines t

-- ---- the calls that items mean

meant_if : (b : Bool) (m : Meant) → MeantTimes m → AllTimes (option_to_list (some_when b m))
meant_if true m t = (t, tt)
meant_if false m t = tt

rows_if : (b : Bool) (rows : List Row) → AreTimes rows → IfSome (some_when b rows) AreTimes
rows_if true rows t = t
rows_if false rows t = tt

request_times : (r : TableRequest) → RequestTimes r → MeantTimes (meant_request r)
request_times (request.Add rows) t = t
request_times _ t = tt

order_times : (p : TablePlace) (o : Order) → OrderTimes o → AllTimes (option_to_list (meant_order p o))
order_times p (order.Call leaf table r) t = meant_if (is_at p leaf table) (meant_request r) (request_times r t)
order_times p (order.Query q) t = meant_if (bytes_eq q.table p.name) meant.Ask tt
order_times p (order.Tail key table rows) t = (rows_if (table == p.table) rows t, tt)
order_times p _ t = tt

part_times : (p : TablePlace) (x : Part) → PartTimes x → AllTimes (option_to_list (meant_part p x))
part_times p (part.Leaves o) t = order_times p o t
part_times p (part.Run o) t = tt

of_lane : (x : Part) → LanePart x → PartTimes x
of_lane (part.Leaves o) is = is
of_lane (part.Run o) is = absurd is

lane_times : (p : TablePlace) (ps : List Played) → AllByRecursion (λ (q : Played). IsOfLane q.command) ps → AllTimes (meant_lane p (commands_in ps))
lane_times p [] may = tt
lane_times p (q ∷ ps) may =
    All-joined MeantTimes (option_to_list (meant_by p q.command)) (meant_lane p (commands_in ps)) (part_times p (part_of q.command) (of_lane (part_of q.command) may.0)) (lane_times p ps may.1)

lanes_times : (p : TablePlace) (lanes : List (List Played)) → IsPlayable (Burst lanes) → AllTimes (flat_map (meant_lane p) (map commands_in lanes))
lanes_times p [] may = tt
lanes_times p (lane ∷ lanes) may =
    let both = All-both (λ (q : Played). IsOfLane q.command) lane (plays_of (Burst lanes)) may in
    All-joined MeantTimes (meant_lane p (commands_in lane)) (flat_map (meant_lane p) (map commands_in lanes)) (lane_times p lane both.0) (lanes_times p lanes both.1)

item_times : (p : TablePlace) (x : PlayedItem) → IsPlayable x → AllTimes (meant_in p (item_of x))
item_times p (One q) may = part_times p (part_of q.command) may
item_times p (Burst lanes) may = lanes_times p lanes may

-- the rows that are heard behind an item have times
pub heard_times : (p : TablePlace) (x : PlayedItem) → IsPlayable x → HaveTimes (heard p (meant_in p (item_of x)) (item_lines x))
heard_times p x may = lines_feed p (no_call_yet (meant_in p (item_of x))) (item_lines x) (tt, item_times p x may)

-- ---- what lines say

-- rows were added to an add alone
by_add : (founded : Bool) (t : HistoryState) (caller : ℕ) (c : Call) (kept late : ℕ) → Allowed founded t caller c (reply.Added kept late) → (rows : List Row) × (c ≡ call.Add rows)
by_add founded t caller (call.Add rows) kept late allowed = (rows, refl)
by_add founded t caller _ kept late allowed = absurd (search (allowed, added_noted kept late))

said_proper : (founded : Bool) (t : HistoryState) (e : Entry) (c : Option Call) (told : Said) → Allowed founded t e.caller e.call e.reply → ShowsEntry c told e → IsSaidOf c told
said_proper founded t e c (Added kept late) allowed is =
    let add = by_add founded t e.caller e.call kept late (subst (λ (r : EntryReply). Allowed founded t e.caller e.call r) is.1 allowed) in
    (add.0, is.0 ∙ ap (λ (k : Call). Some k) add.1)
said_proper founded t e c (Removed rows) allowed is = (e.call, is.0)
said_proper founded t e c Asked allowed is = (e.call, is.0)
said_proper founded t e c RefusedShut allowed is = (e.call, is.0)
said_proper founded t e c RefusedFull allowed is = (e.call, is.0)
said_proper founded t e c RefusedMemory allowed is = (e.call, is.0)
said_proper founded t e c (Opened n) allowed is = is.0
said_proper founded t e c (Took n) allowed is = is.0
said_proper founded t e c (Flushed n) allowed is = is.0
said_proper founded t e c (Closed n) allowed is = is.0
said_proper founded t e c Handed allowed is = is.0

pub proper_lines : (founded : Bool) (s : HistoryState) (entries : List Entry) (lines : List Shown) → LegalFrom founded s entries → AllByRecursion (ShowsIn entries) lines → AllByRecursion IsProper lines
proper_lines founded s entries lines legal shows = All-therefore (ShowsIn entries) IsProper one lines shows
  where
    one : (l : Shown) → ShowsIn entries l → IsProper l
    one l is =
        let at = entry_at founded s entries (l.number - 1) is.1.0 legal is.1.1 in
        said_proper founded (after founded s (take (l.number - 1) entries)) is.1.0 l.call l.said at.0 is.1.2
