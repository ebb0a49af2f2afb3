-- No event gives a table writes that were handed in.
use Rattle.std.proofs.Common.{◌≡◌, ℕ, zero, suc, ◌+◌, Bool, true, false, List, [], ◌∷◌, map, refl, sym, ap, subst, ◌∙◌, Some, slice_get, slice_set}
use Rattle.std.specs.Prelude.{if◌then◌else◌}
use Rattle.leaf_history.specs.Calls.{Call}
use Rattle.leaf_history.specs.Calls as call
use Rattle.leaf_history.specs.History.{HistoryState, changed, after_entry, is_refusal}
use Rattle.crash_events.specs.Laws.{IsPlain}
use Rattle.crash_events.specs.Machine.{Machine, Tracked}
use Rattle.crash_events.specs.Events.{Step, turn, take_writes, close_taking, close, lay, gate, gate_sync, flushed, prepare, plan, copy, open_flag, flag_open, done, kill, fail, find, close_flag, flag_closed, way, adopt, first_gate, barrier, open_table, stop, crash, Resettled, emptied, forgotten, open_call}
use Rattle.crash_events.proofs.Places.{some_is}

plain_get : (ts : List Tracked) (t : ℕ) (x : Tracked) → slice_get ts t ≡ Some x → IsPlain ts → x.state.handed_in ≡ 0
plain_get [] t x at p = cc
plain_get (y ∷ ts) zero x at p = ap (λ (z : Tracked). z.state.handed_in) (sym (some_is y x at)) ∙ p.0
plain_get (y ∷ ts) (suc t) x at p = plain_get ts t x at p.1

plain_put : (ts : List Tracked) (t : ℕ) (x : Tracked) → x.state.handed_in ≡ 0 → IsPlain ts → IsPlain (slice_set ts t x)
plain_put [] t x e p = p
plain_put (y ∷ ts) zero x e p = (e, p.1)
plain_put (y ∷ ts) (suc t) x e p = (p.0, plain_put ts t x e p.1)

-- a call of a founded table changes nothing of it
stays_in : (s : HistoryState) (c : Call) → (changed true s c).handed_in ≡ s.handed_in
stays_in s (call.Add rows) = refl
stays_in s (call.Expire horizon) = refl
stays_in s (call.Keep n) = refl
stays_in s (call.Ask q) = refl
stays_in s call.Take = refl
stays_in s (call.Flushed n) = refl
stays_in s call.Shut = refl
stays_in s call.Done = refl
stays_in s (call.Open n contents) = refl

by_entry : (s : HistoryState) (c : Call) (refused : Bool) → (if refused then s else changed true s c).handed_in ≡ s.handed_in
by_entry s c true = refl
by_entry s c false = stays_in s c

resettled : (m : Machine) (t : ℕ) (xs ys : List Tracked) → Resettled m t xs ys → IsPlain xs → IsPlain ys
resettled m t [] [] r p = tt
resettled m t [] (y ∷ ys) r p = absurd r
resettled m t (x ∷ xs) [] r p = absurd r
resettled m t (x ∷ xs) (y ∷ ys) r p = (ap (λ (z : Tracked). z.state.handed_in) r.0.2 ∙ p.0, resettled m (t + 1) xs ys r.1 p.1)

forgetting : (x : Tracked) (own : Bool) → (if own then x else emptied x).state.handed_in ≡ x.state.handed_in
forgetting x true = refl
forgetting x false = refl

all_forgotten : (xs : List Tracked) → IsPlain xs → IsPlain (map forgotten xs)
all_forgotten [] p = tt
all_forgotten (x ∷ xs) p = (forgetting x x.own ∙ p.0, all_forgotten xs p.1)

one : (m : Machine) (t : ℕ) (x : Tracked) (s : HistoryState) → slice_get m.tables t ≡ Some x → s.handed_in ≡ x.state.handed_in → IsPlain m.tables → IsPlain (slice_set m.tables t (record x { state = s }))
one m t x s at same p = plain_put m.tables t (record x { state = s }) (same ∙ plain_get m.tables t x at p) p

to : (m m' n : Machine) → m' ≡ n → IsPlain n.tables → IsPlain m'.tables
to m m' n e p = subst (λ (k : Machine). IsPlain k.tables) (sym e) p

pub plain_always : (m m' : Machine) → IsPlain m.tables → Step m m' → IsPlain m'.tables
plain_always m m' p (turn t x e at own callers allowed same) = to m m' _ same (one m t x (after_entry true x.state e) at (by_entry x.state e.call (is_refusal e.reply)) p)
plain_always m m' p (take_writes t x at own up none same) = to m m' _ same (one m t x (changed true x.state call.Take) at refl p)
plain_always m m' p (close_taking t x at own live prep none same) = to m m' _ same (one m t x (changed true x.state call.Shut) at refl p)
plain_always m m' p (close t x at own live down same) = to m m' _ same (one m t x (changed true x.state call.Shut) at refl p)
plain_always m m' p (lay h hand laid may same) = to m m' _ same p
plain_always m m' p (gate h hand laid same) = to m m' _ same p
plain_always m m' p (gate_sync h x hand begun at same) = to m m' _ same (plain_put m.tables h.table (record x { sure = x.sure + h.writes }) (plain_get m.tables h.table x at p) p)
plain_always m m' p (flushed t n x at own le taken same) = to m m' _ same (one m t x (changed true x.state (call.Flushed n)) at refl p)
plain_always m m' p (prepare up same) = to m m' _ same p
plain_always m m' p (plan prep shut none settled same) = to m m' _ same p
plain_always m m' p (copy mode region same) = to m m' _ same p
plain_always m m' p (open_flag mode region same) = to m m' _ same p
plain_always m m' p (flag_open mode region same) = to m m' _ same p
plain_always m m' p (done t x at own mode region same) = to m m' _ same (one m t x (changed true x.state call.Done) at refl p)
plain_always m m' p (kill may same) = to m m' _ same p
plain_always m m' p (fail mode same) = to m m' _ same p
plain_always m m' p (find r down shut reads same) = to m m' _ same p
plain_always m m' p (close_flag found mode region same) = to m m' _ same p
plain_always m m' p (flag_closed found mode not_closed same) = to m m' _ same p
plain_always m m' p (way found mode region same) = to m m' _ same p
plain_always m m' p (adopt mode same) = to m m' _ same p
plain_always m m' p (first_gate made mode same) = to m m' _ same p
plain_always m m' p (barrier made ts mode rs same) = to m m' _ same (resettled m 0 m.tables ts rs p)
plain_always m m' p (open_table t x at own may shut zero_sure same) =
    let c : Call = open_call x in
    to m m' _ same (all_forgotten (slice_set m.tables t (record x { state = changed true x.state c })) (one m t x (changed true x.state c) at (stays_in x.state c) p))
plain_always m m' p (stop may same) = to m m' _ same p
plain_always m m' p (crash r ts shows rs same) = to m m' _ same (resettled m 0 m.tables ts rs p)
