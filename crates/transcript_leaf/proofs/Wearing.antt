-- Which seats are told as worn: only those of tables with long histories.
use Rattle.std.proofs.Common.{◌≡◌, ℕ, ◌≤◌, ◌^◌, List, ◌++◌, length, Option, Some, sym, ap, subst, ◌∙◌, arith}
use Rattle.std.specs.Prelude.{slice_get}
use Rattle.berth_face.specs.Berth.{Meaning}
use Rattle.leaf_history.specs.Calls.{Call}
use Rattle.leaf_history.specs.History.{Entry}
use Rattle.leaf_table.specs.declared.base.TableBase.{TableBase}
use Rattle.leaf_table.specs.declared.replies.Reply.{Reply}
use Rattle.leaf_table.specs.declared.replies.Reply.TheVariants as told
use Rattle.std.proofs.lemmas.List.{length-append, length-map}
use Rattle.leaf_table.specs.Turns.{told as entry_told}
use Rattle.leaf_table.specs.Calls.{SeatView, Answered as CallAnswered, base_seen, seen_of}
use Rattle.leaf_words.specs.declared.note.Note.{Note}
use Rattle.leaf_steward.specs.Seated.{Seated}
use Rattle.leaf_steward.specs.Making.{WornAt}
use Rattle.leaf_machine.specs.declared.faults.StartFault.{StartFault}
use Rattle.leaf_machine.specs.declared.faults.StartFault.TheVariants as fault
use Rattle.leaf_machine.specs.declared.up.FlushReply.{FlushReply}
use Rattle.leaf_machine.specs.States.{Serving}
use Rattle.leaf_machine.specs.Flushes.{Flushes as Flushing}
use Rattle.printed_lines.specs.declared.line.Ending.{Ending}
use Rattle.printed_lines.specs.declared.line.Deed.{Deed}
use Rattle.printed_lines.specs.declared.line.Deed.TheVariants.{Drain, Flush, Kill, Start}
use Rattle.transcript.specs.Pieces.{Acted, Piece}
use Rattle.transcript.specs.Answers.{WornIsLong}
use Rattle.leaf_moves.specs.Holds.{Hold, caller_in, seen_by, seen_in, steward_in, with_callers}
use Rattle.leaf_moves.specs.Stage.{Leaf, IsUp, seated_of}
use Rattle.leaf_moves.proofs.Drains.{by_endings}
use Rattle.leaf_moves.specs.Steps.{CallStep, DrainMoves, FlushMoves, IsReplyPiece, IsTrueOf, KillMoves, Moves, StartMoves, ending_of, ending_of_flush}
use Rattle.transcript_leaf.proofs.Terms.{TellsOn}
use Rattle.transcript_leaf.proofs.Places.{caller_set}

-- a seat has seen as many entries as its history has
pub seen_length : (v : SeatView) → length (seen_of v) ≡ length v.seen
seen_length v = length-map v.seen entry_told

-- what goes on is as long as it was, at least
pub as_long : (n : ℕ) (xs ys more : List Entry) → ys ≡ xs ++ more → n ≤ length xs → n ≤ length ys
as_long n xs ys more e l =
    let same = ap (λ (es : List Entry). length es) e in
    omega (arith, l, same, length-append xs more)

-- ---- callers' seats

worn_said : (number : ℕ) (histories : ℕ → ℕ → List Entry) (table : ℕ) (base : Option TableBase) (v : SeatView) (called : Call) (r : Reply) (w : SeatView) (p : Piece)
    → length (seen_of w) ≤ length (histories number table) → CallAnswered base v called r w → IsReplyPiece number table called r p → WornIsLong histories p
worn_said number histories table base v called told.Worn w p far answered says =
    let stays = ap (λ (s : SeatView). length s.seen) answered.1 in
    let long : 2 ^ 62 ≤ length (histories number table) = omega (arith, answered.0, far, stays, seen_length w) in
    subst (λ (x : Piece). WornIsLong histories x) (sym says) long
worn_said number histories table base v called r w p far answered says = subst (λ (x : Piece). WornIsLong histories x) (sym says) tt

-- where the histories go on from what the caller's seat has seen
pub called_worn : {B : Type 0} (number : ℕ) (x : Hold B) (table : ℕ) (called : Call) (p : Piece) (callers : List (Option SeatView)) (histories : ℕ → ℕ → List Entry)
    → CallStep number table called x.tables x.callers p callers → TellsOn number (with_callers x callers) histories → WornIsLong histories p
called_worn number x table called p callers histories step on =
    let is : caller_in callers table ≡ Some step.after =
    ap (λ (cs : List (Option SeatView)). caller_in cs table) step.now ∙ caller_set x.callers table (Some step.before) (Some step.after) step.was in
    let here = on table in
    let seen : seen_in (with_callers x callers) table ≡ seen_of step.after = ap (λ (c : Option SeatView). seen_by (steward_in x.held table) c) is in
    let far = as_long (length (seen_of step.after)) (seen_in (with_callers x callers) table) (histories number table) here.0 here.1 (omega (arith, ap (λ (es : List Entry). length es) seen)) in
    worn_said number histories table (base_seen step.shared) step.before called step.reply step.after p far step.answered step.says

-- ---- the steward's seats

-- the histories reach as far as the steward's seats have seen
abbrev pub Reach : ℕ → Leaf → (ℕ → ℕ → List Entry) → Type 0
Reach number leaf histories = (place : ℕ) (v : SeatView) → slice_get (seated_of leaf).seats place ≡ Some v → length (seen_of v) ≤ length (histories number place)

-- the history of a worn seat's table is long
reached : (number : ℕ) (histories : ℕ → ℕ → List Entry) (leaf : Leaf) (x : Seated) (place : ℕ) → seated_of leaf ≡ x → Reach number leaf histories → WornAt x place → 2 ^ 62 ≤ length (histories number place)
reached number histories leaf x place is reach worn =
    let far = reach place worn.0 (ap (λ (y : Seated). slice_get y.seats place) is ∙ worn.1) in
    omega (arith, far, worn.2, seen_length worn.0)

-- the table of which a deed tells that its seat is worn has a long history
abbrev DeedIsLong : ℕ → (ℕ → ℕ → List Entry) → Deed → List Note → Ending → Type 0
DeedIsLong number histories deed notes ends = WornIsLong histories (Acted number deed notes ends)

refused_worn : (number : ℕ) (histories : ℕ → ℕ → List Entry) (notes : List Note) (leaf : Leaf) (x : Seated) (f : StartFault) → seated_of leaf ≡ x → IsTrueOf x f → Reach number leaf histories
    → DeedIsLong number histories Start notes (ending_of f)
refused_worn number histories notes leaf x (fault.Worn table) is worn reach = reached number histories leaf x table is reach worn
refused_worn number histories notes leaf x f is worn reach = tt

start_worn : (number : ℕ) (histories : ℕ → ℕ → List Entry) (m m' : Meaning) (leaf : Leaf) (notes : List Note) (ends : Ending) (leaf' : Leaf)
    → StartMoves m m' leaf notes ends leaf' → Reach number leaf' histories → DeedIsLong number histories Start notes ends
start_worn number histories m m' leaf notes ends leaf' (StartMoves.opened x s way was owed each came ends_are now) reach =
    subst (λ (e : Ending). DeedIsLong number histories Start notes e) (sym ends_are) tt
start_worn number histories m m' leaf notes ends leaf' (StartMoves.refused x f was worn damaged heard none ends_are now) reach =
    subst (λ (e : Ending). DeedIsLong number histories Start notes e) (sym ends_are)
    (refused_worn number histories notes leaf' x f (ap seated_of (now ∙ was)) worn reach)
start_worn number histories m m' leaf notes ends leaf' (StartMoves.not_down up none held_is ends_are now) reach =
    subst (λ (e : Ending). DeedIsLong number histories Start notes e) (sym ends_are) tt

-- how a flush ends
flush_ends : (number : ℕ) (table : ℕ) (histories : ℕ → ℕ → List Entry) (s s' : Serving) (notes : List Note) (r : FlushReply) (leaf' : Leaf)
    → leaf' ≡ IsUp s' → Flushing table s s' notes r → Reach number leaf' histories → DeedIsLong number histories (Flush table) notes (ending_of_flush r)
flush_ends number table histories s s' notes r leaf' now (Flushing.done first taking flushing n owed fresh notes_are reply_is none) reach =
    subst (λ (x : FlushReply). DeedIsLong number histories (Flush table) notes (ending_of_flush x)) (sym reply_is) tt
flush_ends number table histories s s' notes r leaf' now (Flushing.half first taking n owed fresh notes_are reply_is some owner count) reach =
    subst (λ (x : FlushReply). DeedIsLong number histories (Flush table) notes (ending_of_flush x)) (sym reply_is) tt
flush_ends number table histories s s' notes r leaf' now (Flushing.worn first owed notes_are reply_is worn none) reach =
    subst (λ (x : FlushReply). DeedIsLong number histories (Flush table) notes (ending_of_flush x)) (sym reply_is) (reached number histories leaf' s'.seated table (ap seated_of now) reach worn)
flush_ends number table histories s s' notes r leaf' now (Flushing.stuck none reply_is some seated owed owner count) reach =
    subst (λ (x : FlushReply). DeedIsLong number histories (Flush table) notes (ending_of_flush x)) (sym reply_is) tt

flush_worn : (number : ℕ) (table : ℕ) (histories : ℕ → ℕ → List Entry) (m m' : Meaning) (leaf : Leaf) (notes : List Note) (ends : Ending) (leaf' : Leaf)
    → FlushMoves table m m' leaf notes ends leaf' → Reach number leaf' histories → DeedIsLong number histories (Flush table) notes ends
flush_worn number table histories m m' leaf notes ends leaf' (FlushMoves.flushed s s' r was flushes region ends_are now) reach =
    subst (λ (e : Ending). DeedIsLong number histories (Flush table) notes e) (sym ends_are) (flush_ends number table histories s s' notes r leaf' now flushes reach)
flush_worn number table histories m m' leaf notes ends leaf' (FlushMoves.not_up down none held_is ends_are now) reach =
    subst (λ (e : Ending). DeedIsLong number histories (Flush table) notes e) (sym ends_are) tt

-- kills and drains tell of no worn seat
kill_worn : (number : ℕ) (histories : ℕ → ℕ → List Entry) (m m' : Meaning) (leaf : Leaf) (notes : List Note) (ends : Ending) (leaf' : Leaf)
    → KillMoves m m' leaf notes ends leaf' → DeedIsLong number histories Kill notes ends
kill_worn number histories m m' leaf notes ends leaf' (KillMoves.up s y was each held_is ends_are now) = rw ends_are tt
kill_worn number histories m m' leaf notes ends leaf' (KillMoves.preparing x y count was all each held_is ends_are now) = rw ends_are tt
kill_worn number histories m m' leaf notes ends leaf' (KillMoves.not_up down none held_is ends_are now) = rw ends_are tt

drain_worn : (number : ℕ) (histories : ℕ → ℕ → List Entry) (stop : Option ℕ) (m m' : Meaning) (leaf : Leaf) (notes : List Note) (ends : Ending) (leaf' : Leaf)
    → DrainMoves m m' leaf stop notes ends leaf' → DeedIsLong number histories (Drain stop) notes ends
drain_worn number histories stop m m' leaf notes ends leaf' moves = by_endings (λ (e : Ending). DeedIsLong number histories (Drain stop) notes e) tt tt tt tt tt tt tt m m' leaf stop notes ends leaf' moves

pub acted_worn : (number : ℕ) (deed : Deed) (histories : ℕ → ℕ → List Entry) (m m' : Meaning) (leaf : Leaf) (notes : List Note) (ends : Ending) (leaf' : Leaf)
    → Moves deed m m' leaf notes ends leaf' → Reach number leaf' histories → WornIsLong histories (Acted number deed notes ends)
acted_worn number Start histories m m' leaf notes ends leaf' moves reach = start_worn number histories m m' leaf notes ends leaf' moves reach
acted_worn number (Flush table) histories m m' leaf notes ends leaf' moves reach = flush_worn number table histories m m' leaf notes ends leaf' moves reach
acted_worn number (Drain stop) histories m m' leaf notes ends leaf' moves reach = drain_worn number histories stop m m' leaf notes ends leaf' moves
acted_worn number Kill histories m m' leaf notes ends leaf' moves reach = kill_worn number histories m m' leaf notes ends leaf' moves
