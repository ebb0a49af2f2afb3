-- What a seat knows of the table while others take their turns, and what its own turn tells it.
use Rattle.std.specs.Prelude.{if◌then◌else◌}
use Rattle.std.proofs.Common.{◌≡◌, ◌⊎◌, inl, inr, ℕ, zero, suc, ◌+◌, ◌<◌, Bool, true, false, List, [], ◌∷◌, ◌++◌, length, refl, sym, ap, ◌∙◌, subst, Option, Some, None, arith}
use Rattle.turnstile.specs.declared.object.TurnEntry as turnstile
use Rattle.turnstile.specs.Seats.{Others, AreIds, Owns, Called}
use Rattle.turnstile.specs.Objects as turned
use Rattle.leaf_history.specs.Calls.{Call}
use Rattle.leaf_history.specs.Calls as call
use Rattle.leaf_history.specs.Replies.{EntryReply}
use Rattle.leaf_history.specs.Replies as reply
use Rattle.leaf_model.specs.Content.{Contents}
use Rattle.leaf_history.specs.History.{opened, changed, is_refusal, Entry, HistoryState, LegalFrom, Allowed, after, after_entry}
use Rattle.leaf_history.specs.Laws.{AreCallers, CallersKeep}
use Rattle.leaf_history.proofs.Histories.{others_keep, LegalFrom-front, LegalFrom-back, after-append}
use Rattle.leaf_table.specs.declared.base.TableBase.{TableBase}
use Rattle.leaf_table.specs.declared.base.Origin.{Origin}
use Rattle.leaf_table.specs.declared.turns.Turn.{Turn}
use Rattle.leaf_table.specs.declared.turns.Turn.TheVariants as turn
use Rattle.leaf_table.specs.declared.turns.TurnAnswer.{TurnAnswer}
use Rattle.leaf_table.specs.declared.turns.TurnAnswer.TheVariants as answer
use Rattle.leaf_table.specs.declared.replies.ClosedTable.{ClosedTable}
use Rattle.leaf_table.specs.Turns.{TurnsTaken, is_founded, start_of, call_of, reply_of, told, history, HandsOut, Hands, HandsFrom, LegalTurns, state_after, MayHandIn, MayNow}
use Rattle.leaf_table.specs.Calls.{SameSeat, SeatView, entry_seen, AreOthers, HaveIds, OwnsTheRest, AreOwnOrStewards, MakersKnown, Made, MadeTurn, seen_of, state_seen, state_before, IsSteward, ClosedBy}
use Rattle.leaf_table.specs.Laws.{StewardKnows}

history_append : (xs ys : TurnsTaken) → history (xs ++ ys) ≡ history xs ++ history ys
history_append [] ys = refl
history_append (x ∷ xs) ys = ap (λ es. told x ∷ es) (history_append xs ys)

keeps_on : (founded : Bool) (s : HistoryState) (xs ys : TurnsTaken) → LegalFrom founded s (history (xs ++ ys)) → AreCallers (history ys) → CallersKeep (after founded s (history xs)) (after founded s (history (xs ++ ys)))
keeps_on founded s [] ys l o = others_keep founded s (history ys) l o
keeps_on founded s (x ∷ xs) ys l o = keeps_on founded (after_entry founded s (told x)) xs ys l.1 o

-- what the steward may do stays allowed while callers take their turns
may_still : (founded : Bool) (s now : HistoryState) (by : ℕ) (t : Turn) → CallersKeep s now → MayNow founded s by t → MayNow founded now by t
may_still founded s now by (turn.Add rows) k may = may
may_still founded s now by (turn.AddCopy rows copy) k may = may
may_still founded s now by (turn.Expire horizon) k may = may
may_still founded s now by (turn.Keep n) k may = may
may_still founded s now by (turn.Ask query copy) k may = may
may_still founded s now by turn.Take k may = (may.0, k.live ∙ may.1)
may_still founded s now by (turn.Flushed n) k may = let same = k.taken in let few = may.1 in (may.0, omega (arith, same, few))
may_still founded s now by turn.Shut k may = (may.0, k.live ∙ may.1)
may_still founded s now by turn.Done k may = (may.0, k.live ∙ may.1)
may_still founded s now by (turn.Open n table) k may = (may.0, k.live ∙ may.1, subst (λ x. MayHandIn founded x n table) (sym (k.shut may.1)) may.2)

last_allowed : (founded : Bool) (s : HistoryState) (h : TurnsTaken) (e : turnstile.TurnEntry Turn TurnAnswer) → LegalFrom founded s (history (h ++ e ∷ [])) → Allowed founded (after founded s (history h)) e.by (call_of e.call) (reply_of e.reply)
last_allowed founded s [] e l = l.0
last_allowed founded s (x ∷ h) e l = last_allowed founded (after_entry founded s (told x)) h e l.1

last_hands : (name : List ℕ) (founded : Bool) (s : HistoryState) (h : TurnsTaken) (e : turnstile.TurnEntry Turn TurnAnswer) → HandsFrom name founded s (h ++ e ∷ []) → Hands name founded (after founded s (history h)) e.call e.reply
last_hands name founded s [] e l = l.0
last_hands name founded s (x ∷ h) e l = last_hands name founded (after_entry founded s (told x)) h e l.1

push_length : (h : TurnsTaken) (e : turnstile.TurnEntry Turn TurnAnswer) → length (h ++ e ∷ []) ≡ length h + 1
push_length [] e = refl
push_length (x ∷ h) e = let further = push_length h e in omega (arith, further)

others_all : (v : SeatView) (es : TurnsTaken) → Others v es → AreOthers v (history es)
others_all v [] o = tt
others_all v (e ∷ es) o = (o.0, others_all v es o.1)

ids_told : (es : TurnsTaken) → AreIds es → HaveIds (history es)
ids_told [] h = tt
ids_told (e ∷ es) h = (h.0, ids_told es h.1)

own_or_stewards : (v : SeatView) (es : List Entry) → OwnsTheRest v → HaveIds es → AreOwnOrStewards v es
own_or_stewards v [] rest h = tt
own_or_stewards v (e ∷ es) rest h = (whose e.caller h.0, own_or_stewards v es rest h.1)
  where
    whose : (x : ℕ) → x < 65537 → Owns v x ⊎ (x ≡ 0)
    whose zero small = inr refl
    whose (suc n) small = inl (rest (suc n) (omega arith) small)

pub makers_known : MakersKnown
makers_known = λ v h. let ids = ids_told v.seen h in record { ids = ids; own = λ rest. own_or_stewards v (seen_of v) rest ids }

-- another's entry is a caller's
pub callers_of : (v : SeatView) (es : List Entry) → v.id ≡ 0 → 0 < v.share → AreOthers v es → AreCallers es
callers_of v [] id share o = tt
callers_of v (e ∷ es) id share o = (positive e.caller (λ none. o.0 (inl (omega (arith, id, none), omega (arith, id, share, none)))), callers_of v es id share o.1)
  where
    positive : (n : ℕ) → (n ≡ 0 → ⊥) → 0 < n
    positive zero not = absurd (not refl)
    positive (suc n) not = omega arith

steward_may : (name : List ℕ) (base : Option TableBase) (v : SeatView) (t : Turn) → v.id ≡ 0 → 0 < v.share → MayNow (is_founded base) (state_after base v.seen) v.id t
    → (between : TurnsTaken) → Others v between → LegalTurns name base (v.seen ++ between) → MayNow (is_founded base) (state_after base (v.seen ++ between)) v.id t
steward_may name base v t id share may between o l = may_still (is_founded base) (state_after base v.seen) (state_after base (v.seen ++ between)) v.id t (keeps_on (is_founded base) (start_of base) v.seen between l.legal (callers_of v (history between) id share (others_all v between o))) may

-- what a seat may do after what it has seen it may do after whatever others do
pub may_call : (name : List ℕ) (base : Option TableBase) (v : SeatView) (t : Turn) → 0 < v.share → MayNow (is_founded base) (state_after base v.seen) v.id t
    → (between : TurnsTaken) → Others v between → LegalTurns name base (v.seen ++ between) → MayNow (is_founded base) (state_after base (v.seen ++ between)) v.id t
may_call name base v (turn.Add rows) share may between o l = may
may_call name base v (turn.AddCopy rows copy) share may between o l = may
may_call name base v (turn.Expire horizon) share may between o l = may
may_call name base v (turn.Keep n) share may between o l = may
may_call name base v (turn.Ask query copy) share may between o l = may
may_call name base v turn.Take share may between o l = steward_may name base v turn.Take may.0 share may between o l
may_call name base v (turn.Flushed n) share may between o l = steward_may name base v (turn.Flushed n) may.0 share may between o l
may_call name base v turn.Shut share may between o l = steward_may name base v turn.Shut may.0 share may between o l
may_call name base v turn.Done share may between o l = steward_may name base v turn.Done may.0 share may between o l
may_call name base v (turn.Open n table) share may between o l = steward_may name base v (turn.Open n table) may.0 share may between o l

pub made_turn : (legal : Origin → TurnsTaken → Type 0) (b : Origin) (name : List ℕ) (base : Option TableBase) (clock : ℕ) (v : SeatView) (t : Turn) (a : TurnAnswer) (w : SeatView) → Called legal b clock v t a w → LegalTurns name base w.seen → MadeTurn name base clock v t a w
made_turn legal b name base clock v t a w c l =
    let f = is_founded base in
    let s = start_of base in
    let h = v.seen ++ c.between in
    let e = turned.entry_of v.id clock t a in
    let split : history h ≡ history v.seen ++ history c.between = history_append v.seen c.between in
    let seen : w.seen ≡ h ++ e ∷ [] = ap (λ (u : SeatView). u.seen) c.view in
    let all : LegalTurns name base (h ++ e ∷ []) = subst (LegalTurns name base) seen l in
    let size : length w.seen ≡ length h + 1 = ap (λ (x : TurnsTaken). length x) seen ∙ push_length h e in
    let room : w.room ≡ c.room = ap (λ (u : SeatView). u.room) c.view in
    let falls = c.room_falls in
    let hands : Hands name f (after f s (history v.seen ++ history c.between)) t a = subst (λ x. Hands name f (after f s x) t a) split (last_hands name f s h e all.hands) in (
      record {
        between = history c.between;
        seen = ap history seen ∙ (history_append h (e ∷ []) ∙ ap (λ x. x ++ told e ∷ []) split);
        others = others_all v c.between c.others;
        legal = l.legal;
        allowed = subst (λ x. Allowed f (after f s x) v.id (call_of t) (reply_of a)) split (last_allowed f s h e all.legal);
        few = hands.1;
        place = c.view ∙ sym (ap (λ (u : SeatView). record v { seen = u.seen; room = u.room }) c.view);
        room = (omega (arith, room, falls.0), omega (arith, room, falls.1), λ few. room ∙ falls.2 (omega (arith, size, few)));
      },
      hands.0,
    )

pub closed_by : (name : List ℕ) (base : Option TableBase) (clock : ℕ) (v : SeatView) (x : ClosedTable) (w : SeatView) → MadeTurn name base clock v turn.Shut (answer.Closed x.table) w → x.number ≡ length w.seen → x.writes ≡ x.table.writes → ClosedBy name base clock v x w
closed_by name base clock v x w m number writes =
    let fits : (n : ℕ) → x.table.writes ≡ n → (y : Made base clock v call.Shut (reply.Counted n) w) × HandsOut name (is_founded base) (state_before base v y.between) turn.Shut (answer.Closed x.table) = λ n is. subst (λ k. (y : Made base clock v call.Shut (reply.Counted k) w) × HandsOut name (is_founded base) (state_before base v y.between) turn.Shut (answer.Closed x.table)) is m in
    let now = fits x.writes (sym writes) in record {
      number = number;
      made = now.0;
      writes = sym writes;
      contents = now.1.0;
      pending = now.1.1;
      columns = now.1.2;
    }

pub others_kept : (base : Option TableBase) (clock : ℕ) (v w : SeatView) (c : Call) (r : EntryReply) → (m : Made base clock v c r w) → IsSteward v → 0 < v.share → CallersKeep (state_seen base v) (state_before base v m.between)
others_kept base clock v w c r m steward share =
    let f = is_founded base in
    let s = start_of base in
    let h = seen_of v in
    let front : LegalFrom f s (h ++ m.between) = LegalFrom-front f s (h ++ m.between) (entry_seen v.id clock c r ∷ []) (subst (LegalFrom f s) m.seen m.legal) in
    subst (CallersKeep (after f s h)) (sym (after-append f s h m.between)) (others_keep f (after f s h) m.between (LegalFrom-back f s h m.between front) (callers_of v m.between steward.0 share m.others))

pub known_after : (base : Option TableBase) (clock : ℕ) (v w : SeatView) (c : Call) (r : EntryReply) → (m : Made base clock v c r w) → state_seen base w ≡ after_entry (is_founded base) (state_before base v m.between) (entry_seen v.id clock c r)
known_after base clock v w c r m = ap (after (is_founded base) (start_of base)) m.seen ∙ after-append (is_founded base) (start_of base) (seen_of v ++ m.between) (entry_seen v.id clock c r ∷ [])

pub steward_knows : StewardKnows
steward_knows = λ base clock v w c r m. record { others = others_kept base clock v w c r m; now = known_after base clock v w c r m }

pub same_seat : (base : Option TableBase) (clock : ℕ) (v w : SeatView) (c : Call) (r : EntryReply) → Made base clock v c r w → SameSeat v w
same_seat base clock v w c r m = let room = m.room.1 in record { id = ap (λ (u : SeatView). u.id) m.place; share = ap (λ (u : SeatView). u.share) m.place; room = omega (arith, room) }

opened_live : (founded : Bool) (s : HistoryState) (n : ℕ) (contents : Contents) → (opened founded s n contents).live ≡ true
opened_live true s n contents = refl
opened_live false s n contents = refl

either_live : (refused : Bool) (s t : HistoryState) → t.live ≡ s.live → (if refused then s else t).live ≡ s.live
either_live true s t is = refl
either_live false s t is = is

pub open_after_take : (base : Option TableBase) (clock n : ℕ) (v w : SeatView) → Made base clock v call.Take (reply.Counted n) w → IsSteward v → 0 < v.share → (state_seen base v).live ≡ true → (state_seen base w).live ≡ true
open_after_take base clock n v w m steward share is = ap (λ (s : HistoryState). s.live) (known_after base clock v w call.Take (reply.Counted n) m) ∙ ((others_kept base clock v w call.Take (reply.Counted n) m steward share).live ∙ is)

pub taken_after_take : (base : Option TableBase) (clock n : ℕ) (v w : SeatView) → Made base clock v call.Take (reply.Counted n) w → (state_seen base w).taken ≡ n
taken_after_take base clock n v w m = ap (λ (s : HistoryState). s.taken) (known_after base clock v w call.Take (reply.Counted n) m) ∙ sym m.allowed.2

pub live_after_flushed : (base : Option TableBase) (clock n : ℕ) (v w : SeatView) (r : EntryReply) → Made base clock v (call.Flushed n) r w → IsSteward v → 0 < v.share → (state_seen base w).live ≡ (state_seen base v).live
live_after_flushed base clock n v w r m steward share = let s = state_before base v m.between in
    ap (λ (x : HistoryState). x.live) (known_after base clock v w (call.Flushed n) r m) ∙ (either_live (is_refusal r) s (changed (is_founded base) s (call.Flushed n)) refl ∙ (others_kept base clock v w (call.Flushed n) r m steward share).live)

pub shut_after_shut : (base : Option TableBase) (clock n : ℕ) (v w : SeatView) → Made base clock v call.Shut (reply.Counted n) w → (state_seen base w).live ≡ false
shut_after_shut base clock n v w m = ap (λ (s : HistoryState). s.live) (known_after base clock v w call.Shut (reply.Counted n) m)

pub shut_after_done : (base : Option TableBase) (clock : ℕ) (v w : SeatView) (r : EntryReply) → Made base clock v call.Done r w → (state_seen base w).live ≡ false
shut_after_done base clock v w r m = let s = state_before base v m.between in
    ap (λ (x : HistoryState). x.live) (known_after base clock v w call.Done r m) ∙ (either_live (is_refusal r) s (changed (is_founded base) s call.Done) refl ∙ m.allowed.1)

pub open_after_open : (base : Option TableBase) (clock n : ℕ) (contents : Contents) (v w : SeatView) (r : EntryReply) → Made base clock v (call.Open n contents) r w → (state_seen base w).live ≡ true
open_after_open base clock n contents v w r m = let f = is_founded base in let s = state_before base v m.between in
    ap (λ (x : HistoryState). x.live) (known_after base clock v w (call.Open n contents) r m) ∙ (ap (λ (x : EntryReply). (if is_refusal x then s else opened f s n contents).live) m.allowed.3 ∙ opened_live f s n contents)
