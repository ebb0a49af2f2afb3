-- A caller's turn.
use Rattle.std.proofs.Common.{◌≡◌, ℕ, ◌<◌, true, List, refl, sym, subst, arith, inl, inr}
use Rattle.std.specs.Prelude.{◌⊎◌, if◌then◌else◌}
use Rattle.row_model.specs.declared.rows.Row.{Row}
use Rattle.leaf_model.specs.declared.writes.Write.{Write}
use Rattle.leaf_history.specs.Calls.{Call}
use Rattle.leaf_history.specs.Replies.{EntryReply}
use Rattle.leaf_history.specs.History.{HistoryState, AddReply, RemoveReply, is_refusal, Allowed, changed, written}
use Rattle.crash_events.specs.Machine.{Tracked, Mode, RegionIs}
use Rattle.crash_events.specs.Kept.{KeptTable}
use Rattle.leaf_model.specs.declared.writes.Write.TheVariants as write
use Rattle.leaf_history.specs.Calls as call
use Rattle.leaf_history.specs.Replies as reply
use Rattle.crash_events.proofs.Changes.{writes_one}

-- a caller's entry changes nothing, or adds a write to an open table
abbrev Turned : HistoryState → HistoryState → Type 0
Turned s s' = (s' ≡ s) ⊎ ((w : Write) × (s.live ≡ true) × (s' ≡ written s w))

turn_add : (s : HistoryState) (rows : List Row) (r : EntryReply) → AddReply s rows r → Turned s (if is_refusal r then s else written s (write.Add rows))
turn_add s rows (reply.Added kept late) a = inr (write.Add rows, a.0, refl)
turn_add s rows reply.Shut a = inl refl
turn_add s rows reply.Full a = inl refl
turn_add s rows reply.NoMemory a = inl refl
turn_add s rows (reply.Removed n) a = absurd a
turn_add s rows (reply.Groups gs) a = absurd a
turn_add s rows (reply.Counted n) a = absurd a
turn_add s rows reply.Noted a = absurd a

turn_remove : (s : HistoryState) (w : Write) (r : EntryReply) → RemoveReply s w r → Turned s (if is_refusal r then s else written s w)
turn_remove s w (reply.Removed n) a = inr (w, a.0, refl)
turn_remove s w reply.Shut a = inl refl
turn_remove s w reply.NoMemory a = inl refl
turn_remove s w reply.Full a = absurd a
turn_remove s w (reply.Added kept late) a = absurd a
turn_remove s w (reply.Groups gs) a = absurd a
turn_remove s w (reply.Counted n) a = absurd a
turn_remove s w reply.Noted a = absurd a

turn_ask : (s : HistoryState) (r : EntryReply) → Turned s (if is_refusal r then s else s)
turn_ask s reply.Shut = inl refl
turn_ask s _ = inl refl

not_steward : {A : Type 0} (caller : ℕ) → 0 < caller → caller ≡ 0 → A
not_steward caller h e = absurd (wrong caller h e)
  where
    wrong : (n : ℕ) → 0 < n → n ≡ 0 → ⊥
    wrong n h e = omega (arith, h, e)

pub turns : (s : HistoryState) (caller : ℕ) (c : Call) (r : EntryReply) → 0 < caller → Allowed true s caller c r → Turned s (if is_refusal r then s else changed true s c)
turns s caller (call.Add rows) r h a = turn_add s rows r a.1
turns s caller (call.Expire horizon) r h a = turn_remove s (write.Expire horizon) r a.1
turns s caller (call.Keep n) r h a = turn_remove s (write.Keep n) r a.1
turns s caller (call.Ask q) r h a = turn_ask s r
turns s caller call.Take r h a = not_steward caller h a.0
turns s caller (call.Flushed n) r h a = not_steward caller h a.0
turns s caller call.Shut r h a = not_steward caller h a.0
turns s caller call.Done r h a = not_steward caller h a.0
turns s caller (call.Open n contents) r h a = not_steward caller h a.0

pub turned : (mode : Mode) (region : RegionIs) (n : ℕ) (x : Tracked) (s' : HistoryState) → x.own ≡ true → Turned x.state s'
    → KeptTable mode region n x → KeptTable mode region n (record x { state = s' })
turned mode region n x s' own (inl same) h = subst (λ s. KeptTable mode region n (record x { state = s })) (sym same) h
turned mode region n x s' own (inr w) h = subst (λ s. KeptTable mode region n (record x { state = s })) (sym w.2) (writes_one mode region n x w.0 own w.1 h)
