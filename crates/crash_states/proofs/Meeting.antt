-- At a meeting the steward learns callers' entries alone, and what stands goes on standing.
use Rattle.std.proofs.Common.{◌≡◌, ℕ, zero, suc, ◌+◌, ◌≤◌, Bool, false, List, [], ◌∷◌, ◌++◌, length, take, Option, Some, None, cond, refl, sym, ap, ap₂, subst, ◌∙◌, arith, true, append-nil, length-append}
use Rattle.std.specs.Prelude.{slice_get, slice_set, bytes_eq, IfSome, ◌||◌}
use Rattle.std.specs.List.{list_any}
use Rattle.std.proofs.lemmas.List.{take-append-le}
use Rattle.std.proofs.lemmas.Option.{same_Some}
use Rattle.leaf_model.specs.declared.writes.Write.{Write}
use Rattle.row_records.specs.Records.{LogRecord}
use Rattle.berth_face.specs.Berth.{Meaning}
use Rattle.disk_backup.specs.State.{LogState}
use Rattle.disk_backup.specs.Settling.{with_writes}
use Rattle.leaf_history.specs.History.{Entry, HistoryState, LegalFrom, after}
use Rattle.leaf_history.specs.Laws.{AreCallers, CallersKeep}
use Rattle.leaf_history.proofs.Histories.{LegalFrom-back, after-append, others_keep}
use Rattle.crash_moments.specs.Left.{NamedStates}
use Rattle.crash_moments.specs.Watched.{Watched, AreApart, AreWatched, Between, IsFoundation, IsWatched, by_name, cut, is_opening, is_watched, now_of, others_then, was_opened}
use Rattle.crash_moments.specs.Told.{SeenMore}
use Rattle.crash_moments.proofs.Cuts.{cut_before, none_yet}
use Rattle.crash_moments.proofs.Telling.{none_more, between_append}
use Rattle.crash_states.specs.Standing.{IsLogged, IsOwned, Runs, IsKept, RegionRests, Rests, states_of_tables}
use Rattle.crash_states.specs.Entries.{Learns}
use Rattle.crash_states.proofs.Names.{each_at, all_at, named_at, others_at}

-- ---- callers' entries

-- of callers' entries none was made by the steward, at whatever moment
pub callers_between : (from to : ℕ) (es : List Entry) → AreCallers es → Between from to es
callers_between from to [] callers = tt
callers_between from to (e ∷ es) callers = (λ steward. absurd (omega (arith, callers.0, steward)), callers_between from to es callers.1)

-- they cut a history where it was cut
pub callers_cut : (t : ℕ) (xs es : List Entry) → AreCallers es → cut t (xs ++ es) ≡ cut t xs
callers_cut t xs es callers = cut_before t xs es (none_yet t (t + 1) (t + 1) es (omega arith) (callers_between (t + 1) (t + 1) es callers))

-- ---- one table

module _ (w w' : Watched) (learns : Learns w w') where
  pub learned_keeps : CallersKeep (now_of w) (now_of w')
  learned_keeps =
      let seen : now_of w' ≡ after true w.base (w.seen ++ learns.more) = ap₂ (λ (base : HistoryState) (es : List Entry). after true base es) learns.base learns.seen in
      let whole : LegalFrom true w.base (w.seen ++ learns.more) = subst (λ (es : List Entry). LegalFrom true w.base es) learns.seen (subst (λ (base : HistoryState). LegalFrom true base w'.seen) learns.base learns.legal) in
      subst (CallersKeep (now_of w)) (sym (seen ∙ after-append true w.base w.seen learns.more)) (others_keep true (now_of w) learns.more (LegalFrom-back true w.base w.seen learns.more whole) learns.others)

  pub learned_shut : (now_of w).live ≡ false → now_of w' ≡ now_of w
  learned_shut shut = learned_keeps.shut shut

  pub learned_watched : (clock : ℕ) → IsWatched clock w → IsWatched clock w'
  learned_watched clock watched = record {
    base = subst IsFoundation (sym learns.base) watched.base;
    legal = learns.legal;
    made = subst (Between 0 clock) (sym learns.seen) (between_append 0 clock w.seen learns.more watched.made (callers_between 0 clock learns.more learns.others));
  }

  pub learned_cut : (t : ℕ) → cut t w'.seen ≡ cut t w.seen
  learned_cut t = ap (cut t) learns.seen ∙ callers_cut t w.seen learns.more learns.others

  -- no caller's write is taken at a meeting
  pub learned_logged : (logged taken : List Write) → IsLogged logged taken (now_of w) → IsLogged logged taken (now_of w')
  learned_logged logged taken is =
      let keeps : CallersKeep (now_of w) (now_of w') = learned_keeps in
      record {
        front = ap₂ (λ (n : ℕ) (l : List Write). take n l) keeps.taken keeps.appends.1 ∙ take-append-le (now_of w).taken (now_of w).writes keeps.appends.0 is.enough ∙ is.front;
        enough = subst (λ (l : List Write). (now_of w').taken ≤ length l) (sym keeps.appends.1) (omega (arith, keeps.taken, is.enough, length-append (now_of w).writes keeps.appends.0));
        flushed = subst (λ (n : ℕ). n ≤ length logged) (sym keeps.flushed) is.flushed;
        handed = keeps.handed ∙ is.handed;
      }

-- ---- the tables, of which one has learned

pub met_more : (from to place : ℕ) (w w' : Watched) (ws : List Watched) → slice_get ws place ≡ Some w → Learns w w' → SeenMore from to ws (slice_set ws place w')
met_more from to place w w' [] at learns = absurd cc
met_more from to zero w w' (v ∷ ws) at learns =
    let same : w ≡ v = sym (same_Some v w at) in
    subst (λ (u : Watched). SeenMore from to (u ∷ ws) (w' ∷ ws)) same
    ((learns.name, learns.base, (learns.more, learns.seen, callers_between from to learns.more learns.others)), none_more from to ws)
met_more from to (suc place) w w' (v ∷ ws) at learns = ((refl, refl, ([], sym (append-nil v.seen), tt)), met_more from to place w w' ws at learns)

-- what holds of each table that stood there and of the one that has learned
pub met_each : (P : Watched → Type 0) (place : ℕ) (w' : Watched) (ws : List Watched) → P w' → ((at : ℕ) (v : Watched) → slice_get ws at ≡ Some v → P v)
    → (at : ℕ) (v : Watched) → slice_get (slice_set ws place w') at ≡ Some v → P v
met_each P place w' [] new each at v found = absurd cc
met_each P zero w' (u ∷ ws) new each zero v found = subst P (same_Some w' v found) new
met_each P zero w' (u ∷ ws) new each (suc at) v found = each (suc at) v found
met_each P (suc place) w' (u ∷ ws) new each zero v found = each zero v found
met_each P (suc place) w' (u ∷ ws) new each (suc at) v found = met_each P place w' ws new (λ i x there. each (suc i) x there) at v found

-- the names stay where they are
pub met_at : (place : ℕ) (w w' : Watched) (ws : List Watched) → slice_get ws place ≡ Some w → w'.name ≡ w.name → (at : ℕ) (v : Watched) → slice_get ws at ≡ Some v
    → (v' : Watched) × (slice_get (slice_set ws place w') at ≡ Some v') × (v'.name ≡ v.name)
met_at place w w' [] there name at v found = absurd cc
met_at zero w w' (u ∷ ws) there name zero v found = (w', refl, name ∙ ap (λ (x : Watched). x.name) (sym (same_Some u w there) ∙ same_Some u v found))
met_at zero w w' (u ∷ ws) there name (suc at) v found = (v, found, refl)
met_at (suc place) w w' (u ∷ ws) there name zero v found = (v, found, refl)
met_at (suc place) w w' (u ∷ ws) there name (suc at) v found = met_at place w w' ws there name at v found

pub met_names : (place : ℕ) (w w' : Watched) (ws : List Watched) → slice_get ws place ≡ Some w → w'.name ≡ w.name → (name : List ℕ) → is_watched (slice_set ws place w') name ≡ is_watched ws name
met_names place w w' [] there same name = refl
met_names zero w w' (u ∷ ws) there same name = ap (λ (n : List ℕ). bytes_eq name n || is_watched ws name) (same ∙ ap (λ (x : Watched). x.name) (sym (same_Some u w there)))
met_names (suc place) w w' (u ∷ ws) there same name = ap (λ (b : Bool). bytes_eq name u.name || b) (met_names place w w' ws there same name)

pub met_apart : (place : ℕ) (w w' : Watched) (ws : List Watched) → slice_get ws place ≡ Some w → w'.name ≡ w.name → AreApart ws → AreApart (slice_set ws place w')
met_apart place w w' [] there same apart = tt
met_apart zero w w' (u ∷ ws) there same apart =
    (subst (λ (n : List ℕ). is_watched ws n ≡ false) (ap (λ (x : Watched). x.name) (same_Some u w there) ∙ sym same) apart.0, apart.1)
met_apart (suc place) w w' (u ∷ ws) there same apart = (met_names place w w' ws there same u.name ∙ apart.0, met_apart place w w' ws there same apart.1)

pub met_opened : (place : ℕ) (w w' : Watched) (ws : List Watched) → slice_get ws place ≡ Some w → Learns w w' → (t : ℕ) → was_opened t (slice_set ws place w') ≡ was_opened t ws
met_opened place w w' [] there learns t = refl
met_opened zero w w' (u ∷ ws) there learns t =
    ap (λ (es : List Entry). list_any is_opening es || was_opened t ws) (learned_cut w w' learns t ∙ ap (λ (x : Watched). cut t x.seen) (sym (same_Some u w there)))
met_opened (suc place) w w' (u ∷ ws) there learns t = ap (λ (b : Bool). list_any is_opening (cut t u.seen) || b) (met_opened place w w' ws there learns t)

-- where it learned nothing that changes it, each name stands where it stood
pub met_named : (state : Watched → HistoryState) (others : NamedStates) (place : ℕ) (w w' : Watched) (ws : List Watched) → slice_get ws place ≡ Some w → w'.name ≡ w.name → state w' ≡ state w
    → by_name state others (slice_set ws place w') ≡ by_name state others ws
met_named state others place w w' [] there same stays = refl
met_named state others zero w w' (u ∷ ws) there same stays =
    let old : u ≡ w = same_Some u w there in
    ap₂ {C = NamedStates} (λ (n : List ℕ) (s : HistoryState). λ (name : List ℕ). cond (bytes_eq name n) s (by_name state others ws name)) (same ∙ ap (λ (x : Watched). x.name) (sym old)) (stays ∙ ap state (sym old))
met_named state others (suc place) w w' (u ∷ ws) there same stays =
    ap {B = NamedStates} (λ (tables : NamedStates). λ (name : List ℕ). cond (bytes_eq name u.name) (state u) (tables name)) (met_named state others place w w' ws there same stays)

-- ---- what stands goes on standing

module _ (place : ℕ) (w w' : Watched) (ws : List Watched) (at : slice_get ws place ≡ Some w) (learns : Learns w w') where
  abbrev ws' : List Watched
  ws' = slice_set ws place w'

  pub met_watched : (clock : ℕ) → AreWatched clock ws → AreWatched clock ws'
  met_watched clock watched = record {
    each = all_at (IsWatched clock) ws' (met_each (IsWatched clock) place w' ws (learned_watched w w' learns clock (each_at (IsWatched clock) ws watched.each place w at)) (each_at (IsWatched clock) ws watched.each));
    apart = met_apart place w w' ws at learns.name watched.apart;
  }

  unwatched : (name : List ℕ) → is_watched ws' name ≡ false → is_watched ws name ≡ false
  unwatched name none = sym (met_names place w w' ws at learns.name name) ∙ none

  owned : (owner : ℕ) (owed : Option LogRecord) → IfSome owed (IsOwned ws owner) → IfSome owed (IsOwned ws' owner)
  owned owner None is = tt
  owned owner (Some r) is =
      let there = met_at place w w' ws at learns.name owner is.0 is.1 in
      (there.0, there.1, there.2 ∙ is.2)

  pub still_runs : (owner : ℕ) (log : LogState) (writes : List ℕ → List Write) (m : Meaning) → Runs ws owner log writes m → Runs ws' owner log writes m
  still_runs owner log writes m runs = record {
    watched = met_watched m.clock runs.watched;
    opened = met_opened place w w' ws at learns m.clock ∙ runs.opened;
    stands = runs.stands;
    logs = runs.logs;
    closed = runs.closed;
    each =
        let taken : List ℕ → List Write = with_writes log.owed writes in
        let P = λ (v : Watched). IsLogged (writes v.name) (taken v.name) (now_of v) in
        met_each P place w' ws
        (subst (λ (n : List ℕ). IsLogged (writes n) (taken n) (now_of w')) (sym learns.name) (learned_logged w w' learns (writes w.name) (taken w.name) (runs.each place w at)))
        runs.each;
    owned = owned owner log.owed runs.owned;
    others = λ name none. runs.others name (unwatched name none);
  }

  pub still_rests : (others : NamedStates) (least : List ℕ → List Write) (next : Option LogRecord) (m : Meaning) → Rests ws others least next m → Rests ws' others least next m
  still_rests others least next m rests =
      let stands : states_of_tables others ws m w.name ≡ now_of w = named_at now_of (others_at others m.clock ws) ws place w rests.watched.apart at in
      let shut : (now_of w).live ≡ false = ap (λ (s : HistoryState). s.live) (sym stands) ∙ (rests.each w.name).shut in
      let same : states_of_tables others ws' m ≡ states_of_tables others ws m =
      ap (λ (b : Bool). by_name now_of (others_then b others) ws') (met_opened place w w' ws at learns m.clock)
      ∙ met_named now_of (others_at others m.clock ws) place w w' ws at learns.name (learned_shut w w' learns shut) in
      record {
        watched = met_watched m.clock rests.watched;
        stands = rests.stands;
        logs = rests.logs;
        each = subst (λ (tables : NamedStates). (name : List ℕ) → IsKept (least name) (with_writes next least name) (tables name)) (sym same) rests.each;
        sound = rests.sound;
        empty = rests.empty;
        region = subst (λ (tables : NamedStates). RegionRests tables m) (sym same) rests.region;
      }

pub met_runs : (place : ℕ) (w w' : Watched) (ws : List Watched) (owner : ℕ) (log : LogState) (writes : List ℕ → List Write) (m : Meaning)
    → slice_get ws place ≡ Some w → Learns w w' → Runs ws owner log writes m → Runs (slice_set ws place w') owner log writes m
met_runs place w w' ws owner log writes m at learns runs = still_runs place w w' ws at learns owner log writes m runs

pub met_rests : (place : ℕ) (w w' : Watched) (ws : List Watched) (others : NamedStates) (least : List ℕ → List Write) (next : Option LogRecord) (m : Meaning)
    → slice_get ws place ≡ Some w → Learns w w' → Rests ws others least next m → Rests (slice_set ws place w') others least next m
met_rests place w w' ws others least next m at learns rests = still_rests place w w' ws at learns others least next m rests
