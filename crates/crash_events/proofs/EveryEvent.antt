-- Every event keeps what is kept.
use Rattle.std.proofs.Common.{◌≡◌, true, false, List, refl, sym, subst, None, slice_set}
use Rattle.std.specs.Prelude.{if◌then◌else◌}
use Rattle.leaf_history.specs.History.{after_entry, changed}
use Rattle.crash_events.specs.Machine.{Machine, Tracked, Mode, Down, Finding, Scanning, Adopting, Up, Preparing, Copying, RegionIs, Closed, Whole, Either}
use Rattle.crash_events.specs.Events.{hand_of, all_own_handed, Step, turn, take_writes, close_taking, close, lay, gate, gate_sync, flushed, prepare, plan, copy, open_flag, flag_open, done, kill, fail, find, close_flag, flag_closed, way, adopt, first_gate, barrier, open_table, stop, crash}
use Rattle.crash_events.specs.Kept.{in_hand, is_shut, KeptTable, KeptIn, Kept}
use Rattle.leaf_history.specs.Calls as call
use Rattle.crash_events.proofs.Places.{Places-get, no}
use Rattle.crash_events.proofs.Modes.{prepares, opens_flag, flag_opens, closes_flag, flag_closes, goes_its_way, is_killed, is_stopped}
use Rattle.crash_events.proofs.Changes.{one_goes, all_taken, takes, shuts, is_flushed, settles}
use Rattle.crash_events.proofs.Leaving.{crashes, barriers}
use Rattle.crash_events.proofs.AtOnce.{plans, finds_any, hands, hand_goes}
use Rattle.crash_events.proofs.Turning.{turns, turned}
use Rattle.crash_events.proofs.Opening.{opens_table}

-- what is kept, with the mode, the region or the hand named
in_mode : (m : Machine) (mode : Mode) → m.mode ≡ mode → Kept m → KeptIn mode m.region m.hand m.tables
in_mode m mode e k = subst (λ d. KeptIn d m.region m.hand m.tables) e k

in_region : (m : Machine) (mode : Mode) (region : RegionIs) → m.mode ≡ mode → m.region ≡ region → Kept m → KeptIn mode region m.hand m.tables
in_region m mode region e r k = subst (λ d. KeptIn mode d m.hand m.tables) r (in_mode m mode e k)

-- the region is closed in this mode
in_shut : (m : Machine) (mode : Mode) → m.mode ≡ mode → is_shut mode ≡ true → Kept m → KeptIn mode Closed m.hand m.tables
in_shut m mode e s k = let k' : KeptIn mode m.region m.hand m.tables = in_mode m mode e k in subst (λ d. KeptIn mode d m.hand m.tables) (k'.0.shut s) k'

pub kept_always : (m m' : Machine) → Kept m → Step m m' → Kept m'
kept_always m m' k (turn t x e at own callers allowed same) =
    subst Kept (sym same) (one_goes m.mode m.region m.hand m.tables t x (record x { state = after_entry true x.state e }) at
    (turned m.mode m.region (in_hand m.hand t) x (after_entry true x.state e) own (turns x.state e.caller e.call e.reply callers allowed)) k)
kept_always m m' k (take_writes t x at own up none same) =
    let k' : KeptIn Up Closed None m.tables = subst (λ h. KeptIn Up Closed h m.tables) none (in_shut m Up up refl k) in
    let live : x.state.live ≡ true = (Places-get (λ i z. KeptTable Up Closed 0 z) 0 t m.tables x at k'.1).up own refl in
    let closed : m.region ≡ Closed = k.0.shut (rw up refl) in
    subst Kept (sym same) (subst (λ d. KeptIn d m.region (hand_of t x) (slice_set m.tables t (all_taken x.state.live x))) (sym up)
    (subst (λ r. KeptIn Up r (hand_of t x) (slice_set m.tables t (all_taken x.state.live x))) (sym closed)
    (takes Up x.state.live m.tables t x refl refl refl refl (λ e. live) at own live refl k')))
kept_always m m' k (close_taking t x at own live prep none same) =
    let k' : KeptIn Preparing Closed None m.tables = subst (λ h. KeptIn Preparing Closed h m.tables) none (in_shut m Preparing prep refl k) in
    let closed : m.region ≡ Closed = k.0.shut (rw prep refl) in
    subst Kept (sym same) (subst (λ d. KeptIn d m.region (hand_of t x) (slice_set m.tables t (all_taken false x))) (sym prep)
    (subst (λ r. KeptIn Preparing r (hand_of t x) (slice_set m.tables t (all_taken false x))) (sym closed)
    (takes Preparing false m.tables t x refl refl refl refl (λ e. no e) at own live refl k')))
kept_always m m' k (close t x at own live down same) =
    subst Kept (sym same) (subst (λ d. KeptIn d m.region m.hand (slice_set m.tables t (all_taken false x))) (sym down)
    (one_goes Down m.region m.hand m.tables t x (all_taken false x) at (shuts m.region (in_hand m.hand t) x own live) (in_mode m Down down k)))
kept_always m m' k (lay h hand laid may same) =
    subst Kept (sym same) (hand_goes m.mode m.region h true h.gate m.tables (subst (λ d. KeptIn m.mode m.region d m.tables) hand k))
kept_always m m' k (gate h hand laid same) =
    subst Kept (sym same) (hand_goes m.mode m.region h h.laid true m.tables (subst (λ d. KeptIn m.mode m.region d m.tables) hand k))
kept_always m m' k (gate_sync h x hand begun at same) =
    subst Kept (sym same) (settles m.mode m.region h m.tables x at (subst (λ d. KeptIn m.mode m.region d m.tables) hand k))
kept_always m m' k (flushed t n x at own le taken same) =
    subst Kept (sym same) (one_goes m.mode m.region m.hand m.tables t x (record x { state = changed true x.state (call.Flushed n) }) at (is_flushed m.mode m.region (in_hand m.hand t) n x own le) k)
kept_always m m' k (prepare up same) =
    let closed : m.region ≡ Closed = k.0.shut (rw up refl) in
    subst Kept (sym same) (subst (λ r. KeptIn Preparing r m.hand m.tables) (sym closed) (prepares m.hand m.tables (in_shut m Up up refl k)))
kept_always m m' k (plan prep shut none settled same) =
    let closed : m.region ≡ Closed = k.0.shut (rw prep refl) in
    subst Kept (sym same) (subst (λ r. KeptIn Copying r m.hand m.tables) (sym closed) (plans m.hand m.tables shut none settled (in_shut m Preparing prep refl k)))
kept_always m m' k (copy mode region same) = subst Kept (sym same) k
kept_always m m' k (open_flag mode region same) =
    subst Kept (sym same) (subst (λ d. KeptIn d Either m.hand m.tables) (sym mode) (opens_flag m.hand m.tables (in_region m Copying Closed mode region k)))
kept_always m m' k (flag_open mode region same) =
    subst Kept (sym same) (subst (λ d. KeptIn d Whole m.hand m.tables) (sym mode) (flag_opens m.hand m.tables (in_region m Copying Either mode region k)))
kept_always m m' k (done t x at own mode region same) =
    let ts : List Tracked = slice_set m.tables t (record x { state = changed true x.state call.Done }) in
    subst Kept (sym same) (subst (λ r. KeptIn (if all_own_handed ts then Down else Copying) r m.hand ts) (sym region)
    (hands m.tables m.hand t x (all_own_handed ts) at own (in_region m Copying Whole mode region k)))
kept_always m m' k (kill may same) = subst Kept (sym same) (is_killed m.mode m.region m.hand m.tables may k)
kept_always m m' k (fail mode same) = subst Kept (sym same) (is_killed Copying m.region m.hand m.tables tt (in_mode m Copying mode k))
kept_always m m' k (find r down shut reads same) = subst Kept (sym same) (finds_any m.region r m.hand m.tables reads shut (in_mode m Down down k))
kept_always m m' k (close_flag found mode region same) =
    subst Kept (sym same) (subst (λ d. KeptIn d Either m.hand m.tables) (sym mode) (closes_flag found m.hand m.tables (in_region m (Finding found) Whole mode region k)))
kept_always m m' k (flag_closed found mode not_closed same) =
    subst Kept (sym same) (subst (λ d. KeptIn d Closed m.hand m.tables) (sym mode) (flag_closes found m.region m.hand m.tables (in_mode m (Finding found) mode k)))
kept_always m m' k (way found mode region same) =
    subst Kept (sym same) (subst (λ r. KeptIn (if found then Adopting else Scanning false) r m.hand m.tables) (sym region) (goes_its_way found m.hand m.tables (in_region m (Finding found) Closed mode region k)))
kept_always m m' k (adopt mode same) = subst Kept (sym same) k
kept_always m m' k (first_gate made mode same) = subst Kept (sym same) k
kept_always m m' k (barrier made ts mode rs same) = subst Kept (sym same) (barriers m made ts mode rs k)
kept_always m m' k (open_table t x at own may shut zero_sure same) =
    subst Kept (sym same) (opens_table m t x may at own zero_sure k)
kept_always m m' k (stop may same) = subst Kept (sym same) (is_stopped m.mode m.region m.hand m.tables may k)
kept_always m m' k (crash r ts shows rs same) = subst Kept (sym same) (crashes m r ts shows rs k)
