-- Laws of histories.
use Rattle.std.proofs.Common.{◌≡◌, ℕ, ◌+◌, ◌-◌, ◌≤◌, Bool, true, false, List, [], ◌∷◌, ◌++◌, refl, sym, ap, ◌∙◌, subst, rules, arith, length, take}
use Rattle.std.specs.Prelude.{if◌then◌else◌, ◌<◌}
use Rattle.leaf_history.specs.Calls.{Call}
use Rattle.leaf_history.specs.Calls as call
use Rattle.leaf_history.specs.Replies.{EntryReply}
use Rattle.leaf_model.specs.Content.{Contents}
use Rattle.leaf_history.specs.Replies as reply
use Rattle.row_model.specs.declared.rows.Row.{Row}
use Rattle.leaf_model.specs.declared.writes.Write.{Write}
use Rattle.leaf_model.specs.declared.writes.Write.TheVariants as write
use Rattle.leaf_history.specs.History.{HistoryState, Entry, changed, is_refusal, written, opened, AddReply, RemoveReply, OpenAllowed, LegalFrom, Allowed, after, after_entry}
use Rattle.leaf_history.specs.Laws.{AreCallers, CallersKeep, HasSoundCounts}

-- what goes before a legal history's end is legal
pub LegalFrom-front : (founded : Bool) (s : HistoryState) (xs ys : List Entry) → LegalFrom founded s (xs ++ ys) → LegalFrom founded s xs
LegalFrom-front founded s [] ys h = tt
LegalFrom-front founded s (x ∷ xs) ys h = (h.0, LegalFrom-front founded (after_entry founded s x) xs ys h.1)

-- and what follows is legal from there
pub LegalFrom-back : (founded : Bool) (s : HistoryState) (xs ys : List Entry) → LegalFrom founded s (xs ++ ys) → LegalFrom founded (after founded s xs) ys
LegalFrom-back founded s [] ys h = h
LegalFrom-back founded s (x ∷ xs) ys h = LegalFrom-back founded (after_entry founded s x) xs ys h.1

-- a history goes on
pub LegalFrom-append : (founded : Bool) (s : HistoryState) (xs ys : List Entry) → LegalFrom founded s xs → LegalFrom founded (after founded s xs) ys → LegalFrom founded s (xs ++ ys)
LegalFrom-append founded s [] ys g h = h
LegalFrom-append founded s (x ∷ xs) ys g h = (g.0, LegalFrom-append founded (after_entry founded s x) xs ys g.1 h)

pub after-append : (founded : Bool) (s : HistoryState) (xs ys : List Entry) → after founded s (xs ++ ys) ≡ after founded (after founded s xs) ys
after-append founded s [] ys = refl
after-append founded s (x ∷ xs) ys = after-append founded (after_entry founded s x) xs ys

clash : (b : Bool) → b ≡ false → b ≡ true → ⊥
clash true f t = cc
clash false f t = cc

-- what an accepted call leaves does not matter where the table is shut
shut_add : (s x : HistoryState) (rows : List Row) (r : EntryReply) → s.live ≡ false → AddReply s rows r → (if is_refusal r then s else x) ≡ s
shut_add s x rows reply.Shut shut a = refl
shut_add s x rows reply.Full shut a = refl
shut_add s x rows reply.NoMemory shut a = refl
shut_add s x rows (reply.Added kept late) shut a = absurd (clash s.live shut a.0)
shut_add s x rows (reply.Removed n) shut a = absurd a
shut_add s x rows (reply.Groups gs) shut a = absurd a
shut_add s x rows (reply.Counted n) shut a = absurd a
shut_add s x rows reply.Noted shut a = absurd a

shut_remove : (s x : HistoryState) (w : Write) (r : EntryReply) → s.live ≡ false → RemoveReply s w r → (if is_refusal r then s else x) ≡ s
shut_remove s x w reply.Shut shut a = refl
shut_remove s x w reply.NoMemory shut a = refl
shut_remove s x w reply.Full shut a = absurd a
shut_remove s x w (reply.Added kept late) shut a = absurd a
shut_remove s x w (reply.Removed n) shut a = absurd (clash s.live shut a.0)
shut_remove s x w (reply.Groups gs) shut a = absurd a
shut_remove s x w (reply.Counted n) shut a = absurd a
shut_remove s x w reply.Noted shut a = absurd a

-- an ask changes nothing at all
shut_ask : (s : HistoryState) (r : EntryReply) → (if is_refusal r then s else s) ≡ s
shut_ask s reply.Shut = refl
shut_ask s _ = refl

no_steward : (caller : ℕ) → 0 < caller → caller ≡ 0 → ⊥
no_steward caller h e = omega (arith, h, e)

-- on a shut table a caller's entry changes nothing
pub shut_call : (founded : Bool) (s : HistoryState) (caller : ℕ) (c : Call) (r : EntryReply) → s.live ≡ false → 0 < caller → Allowed founded s caller c r
    → (if is_refusal r then s else changed founded s c) ≡ s
shut_call founded s caller (call.Add rows) r shut h a = shut_add s _ rows r shut a.1
shut_call founded s caller (call.Expire horizon) r shut h a = shut_remove s _ (write.Expire horizon) r shut a.1
shut_call founded s caller (call.Keep n) r shut h a = shut_remove s _ (write.Keep n) r shut a.1
shut_call founded s caller (call.Ask q) r shut h a = shut_ask s r
shut_call founded s caller call.Take r shut h a = absurd (no_steward caller h a.0)
shut_call founded s caller (call.Flushed n) r shut h a = absurd (no_steward caller h a.0)
shut_call founded s caller call.Shut r shut h a = absurd (no_steward caller h a.0)
shut_call founded s caller call.Done r shut h a = absurd (no_steward caller h a.0)
shut_call founded s caller (call.Open n contents) r shut h a = absurd (no_steward caller h a.0)

is_open_add : (s : HistoryState) (rows : List Row) (r : EntryReply) → AddReply s rows r → is_refusal r ≡ false → s.live ≡ true
is_open_add s rows (reply.Added kept late) a by_reply = a.0
is_open_add s rows reply.Shut a by_reply = absurd (clash true by_reply refl)
is_open_add s rows reply.Full a by_reply = absurd (clash true by_reply refl)
is_open_add s rows reply.NoMemory a by_reply = absurd (clash true by_reply refl)
is_open_add s rows (reply.Removed n) a by_reply = absurd a
is_open_add s rows (reply.Groups gs) a by_reply = absurd a
is_open_add s rows (reply.Counted n) a by_reply = absurd a
is_open_add s rows reply.Noted a by_reply = absurd a

is_open_remove : (s : HistoryState) (w : Write) (r : EntryReply) → RemoveReply s w r → is_refusal r ≡ false → s.live ≡ true
is_open_remove s w (reply.Removed n) a by_reply = a.0
is_open_remove s w reply.Shut a by_reply = absurd (clash true by_reply refl)
is_open_remove s w reply.NoMemory a by_reply = absurd (clash true by_reply refl)
is_open_remove s w reply.Full a by_reply = absurd a
is_open_remove s w (reply.Added kept late) a by_reply = absurd a
is_open_remove s w (reply.Groups gs) a by_reply = absurd a
is_open_remove s w (reply.Counted n) a by_reply = absurd a
is_open_remove s w reply.Noted a by_reply = absurd a

nil_end : (ws : List Write) → ws ≡ ws ++ []
nil_end [] = refl
nil_end (w ∷ ws) = ap (λ xs. w ∷ xs) (nil_end ws)

append_on : (xs ys zs : List Write) → (xs ++ ys) ++ zs ≡ xs ++ (ys ++ zs)
append_on [] ys zs = refl
append_on (x ∷ xs) ys zs = ap (λ ws. x ∷ ws) (append_on xs ys zs)

pub keeps_all : (s : HistoryState) → CallersKeep s s
keeps_all s = record { live = refl; taken = refl; flushed = refl; handed = refl; before = refl; handed_in = refl; appends = ([], nil_end s.writes); shut = λ closed. refl }

keeps_written : (s : HistoryState) (w : Write) (refused : Bool) → (refused ≡ false → s.live ≡ true) → CallersKeep s (if refused then s else written s w)
keeps_written s w true is = keeps_all s
keeps_written s w false is = record { live = refl; taken = refl; flushed = refl; handed = refl; before = refl; handed_in = refl; appends = (w ∷ [], refl); shut = λ closed. absurd (clash s.live closed (is refl)) }

keeps_both : (s t u : HistoryState) → CallersKeep s t → CallersKeep t u → CallersKeep s u
keeps_both s t u a b = record {
  live = b.live ∙ a.live;
  taken = b.taken ∙ a.taken;
  flushed = b.flushed ∙ a.flushed;
  handed = b.handed ∙ a.handed;
  before = b.before ∙ a.before;
  handed_in = b.handed_in ∙ a.handed_in;
  appends = (a.appends.0 ++ b.appends.0, b.appends.1 ∙ (ap (λ ws. ws ++ b.appends.0) a.appends.1 ∙ append_on s.writes a.appends.0 b.appends.0));
  shut = λ closed. b.shut (a.live ∙ closed) ∙ a.shut closed;
}

-- what one caller's entry leaves
pub caller_keeps : (founded : Bool) (s : HistoryState) (by : ℕ) (c : Call) (r : EntryReply) → 0 < by → Allowed founded s by c r → CallersKeep s (if is_refusal r then s else changed founded s c)
caller_keeps founded s by (call.Add rows) r h a = keeps_written s (write.Add rows) (is_refusal r) (is_open_add s rows r a.1)
caller_keeps founded s by (call.Expire horizon) r h a = keeps_written s (write.Expire horizon) (is_refusal r) (is_open_remove s (write.Expire horizon) r a.1)
caller_keeps founded s by (call.Keep n) r h a = keeps_written s (write.Keep n) (is_refusal r) (is_open_remove s (write.Keep n) r a.1)
caller_keeps founded s by (call.Ask q) r h a = subst (λ t. CallersKeep s t) (sym (shut_ask s r)) (keeps_all s)
caller_keeps founded s by call.Take r h a = absurd (no_steward by h a.0)
caller_keeps founded s by (call.Flushed n) r h a = absurd (no_steward by h a.0)
caller_keeps founded s by call.Shut r h a = absurd (no_steward by h a.0)
caller_keeps founded s by call.Done r h a = absurd (no_steward by h a.0)
caller_keeps founded s by (call.Open n contents) r h a = absurd (no_steward by h a.0)

-- what callers leave
pub others_keep : (founded : Bool) (s : HistoryState) (es : List Entry) → LegalFrom founded s es → AreCallers es → CallersKeep s (after founded s es)
others_keep founded s [] l o = keeps_all s
others_keep founded s (e ∷ es) l o = keeps_both s (after_entry founded s e) (after founded s (e ∷ es)) (caller_keeps founded s e.caller e.call e.reply o.0 l.0) (others_keep founded (after_entry founded s e) es l.1 o.1)

-- no entry changes how many spare columns a table has
opened_spare : (founded : Bool) (s : HistoryState) (n : ℕ) (contents : Contents) → (opened founded s n contents).spare ≡ s.spare
opened_spare true s n contents = refl
opened_spare false s n contents = refl

changed_spare : (founded : Bool) (s : HistoryState) (c : Call) → (changed founded s c).spare ≡ s.spare
changed_spare founded s (call.Add rows) = refl
changed_spare founded s (call.Expire horizon) = refl
changed_spare founded s (call.Keep n) = refl
changed_spare founded s (call.Ask q) = refl
changed_spare founded s call.Take = refl
changed_spare founded s (call.Flushed n) = refl
changed_spare founded s call.Shut = refl
changed_spare founded s call.Done = refl
changed_spare founded s (call.Open n contents) = opened_spare founded s n contents

entry_spare : (s t : HistoryState) (refused : Bool) → t.spare ≡ s.spare → (if refused then s else t).spare ≡ s.spare
entry_spare s t true same = refl
entry_spare s t false same = same

pub after_spare : (founded : Bool) (s : HistoryState) (es : List Entry) → (after founded s es).spare ≡ s.spare
after_spare founded s [] = refl
after_spare founded s (e ∷ es) = after_spare founded (after_entry founded s e) es ∙ entry_spare s (changed founded s e.call) (is_refusal e.reply) (changed_spare founded s e.call)

longer : (ws : List Write) (w : Write) → length (ws ++ w ∷ []) ≡ length ws + 1
longer [] w = refl
longer (x ∷ ws) w = let further = longer ws w in omega (arith, further)

counted_written : (s : HistoryState) (w : Write) → HasSoundCounts s → HasSoundCounts (written s w)
counted_written s w c = record { taken = let l = longer s.writes w in omega (arith, l, c.taken); handed_in = c.handed_in }

pub length_take : (n : ℕ) (ws : List Write) → n ≤ length ws → length (take n ws) ≡ n
length_take n ws h = search rules

counted_opened : (founded : Bool) (s : HistoryState) (n : ℕ) (contents : Contents) → HasSoundCounts s → OpenAllowed founded s n contents → HasSoundCounts (opened founded s n contents)
counted_opened true s n contents c a = record { taken = let l = length_take (n - s.handed_in) s.writes (omega (arith, a.accepted, c.handed_in)) in omega (arith, l, a.flushed, a.accepted, c.handed_in); handed_in = omega (arith, a.flushed, c.handed_in) }
counted_opened false s n contents c a = record { taken = omega arith; handed_in = omega arith }

counted_changed : (founded : Bool) (s : HistoryState) (by : ℕ) (c : Call) (r : EntryReply) → HasSoundCounts s → Allowed founded s by c r → HasSoundCounts (changed founded s c)
counted_changed founded s by (call.Add rows) r is a = counted_written s (write.Add rows) is
counted_changed founded s by (call.Expire horizon) r is a = counted_written s (write.Expire horizon) is
counted_changed founded s by (call.Keep n) r is a = counted_written s (write.Keep n) is
counted_changed founded s by (call.Ask q) r is a = is
counted_changed founded s by call.Take r is a = record { taken = omega arith; handed_in = is.handed_in }
counted_changed founded s by (call.Flushed n) r is a = record { taken = is.taken; handed_in = omega (arith, is.handed_in) }
counted_changed founded s by call.Shut r is a = record { taken = omega arith; handed_in = is.handed_in }
counted_changed founded s by call.Done r is a = record { taken = is.taken; handed_in = is.handed_in }
counted_changed founded s by (call.Open n contents) r is a = counted_opened founded s n contents is a.2

if_counted : (s t : HistoryState) (refused : Bool) → HasSoundCounts s → HasSoundCounts t → HasSoundCounts (if refused then s else t)
if_counted s t true a b = a
if_counted s t false a b = b

pub counts_stay : (founded : Bool) (s : HistoryState) (es : List Entry) → LegalFrom founded s es → HasSoundCounts s → HasSoundCounts (after founded s es)
counts_stay founded s [] l is = is
counts_stay founded s (e ∷ es) l is = counts_stay founded (after_entry founded s e) es l.1 (if_counted s (changed founded s e.call) (is_refusal e.reply) is (counted_changed founded s e.caller e.call e.reply is l.0))
