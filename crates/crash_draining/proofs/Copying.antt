-- What happens to a leaf that copies its tables into its region.
use Rattle.std.proofs.Common.{◌≡◌, ◌≢◌, ◌⊎◌, inl, inr, ◌∙◌, ℕ, List, None, map, refl, sym, subst, arith}
use Rattle.leaf_model.specs.declared.writes.Write.{Write}
use Rattle.berth_face.specs.Berth.{Meaning, IsClosed}
use Rattle.table_state.specs.Tables.{Table}
use Rattle.region_layout.specs.Region.{IsAdoptable}
use Rattle.region_layout.specs.Images.{images_by_name}
use Rattle.disk_backup.specs.State.{LogState}
use Rattle.drain_copy.specs.declared.step.Next.TheVariants as next
use Rattle.drain_copy.specs.Draining.{DrainState, Draining}
use Rattle.crash_moments.specs.Left.{NamedStates}
use Rattle.crash_moments.specs.Watched.{Watched, now_of}
use Rattle.crash_moments.specs.Told.{SeenMore, Told}
use Rattle.crash_moments.proofs.Alike.{images_alike}
use Rattle.crash_moments.proofs.Telling.{none_more, opened_more}
use Rattle.crash_states.specs.Standing.{Runs, Copies, Holds, spare_in}
use Rattle.crash_states.specs.Entries.{HandsAll}
use Rattle.crash_draining.specs.Laws.{AreTaken, IsPlanned, DrainStepped, LeftAt, HandsOver}
use Rattle.crash_draining.proofs.Planning.{planned_others, planned_same, planned_logs, planned_draining, planned_each}
use Rattle.crash_draining.proofs.Stepping.{step_left, step_watched, step_opened, step_logs, step_closed}
use Rattle.crash_draining.proofs.Resting.{treated_has, closed_or_image, ends_rest}
use Rattle.crash_draining.proofs.Handing.{hands_more, hands_named, hands_spare, hands_watched, hands_has}

-- all tables are treated, and the copy of them is planned
pub planned : (ws : List Watched) (owner : ℕ) (tables : List Table) (log : LogState) (drain : DrainState) (writes : List ℕ → List Write) (m : Meaning)
    → Runs ws owner log writes m → log.owed ≡ None → AreTaken ws tables → IsPlanned ws tables log drain → Copies ws drain writes m
planned ws owner tables log drain writes m runs none taken plan = record {
  watched = runs.watched;
  opened = runs.opened;
  stands = runs.stands;
  images = images_by_name (map (λ (w : Watched). w.name) ws) tables;
  log_end = log.end;
  image = plan.image;
  same = planned_same ws owner tables log drain writes m runs none taken plan;
  logs = planned_logs ws owner tables log drain writes m runs none taken plan;
  draining = planned_draining ws owner tables log drain writes m runs none taken plan;
  closed = runs.closed;
  each = planned_each ws owner tables log drain writes m runs none taken plan;
  others = planned_others ws owner tables log drain writes m runs none taken plan;
}

-- at each moment of a step
pub step_told : (ws : List Watched) (others : NamedStates) (drain : DrainState) (writes : List ℕ → List Write) (a b : Meaning)
    → Copies ws drain writes a → DrainStepped drain a b → Told others ws ws a b
step_told ws others drain writes a b copies stepped = record {
  passes = stepped.passes;
  more = none_more a.clock b.clock ws;
  left = λ t p from to left. step_left ws drain writes a b copies stepped others t p from (stepped.moments.each t p from to left);
}

-- a step that is not the last
pub step_more : (ws : List Watched) (drain drain' : DrainState) (writes : List ℕ → List Write) (a b : Meaning)
    → Copies ws drain writes a → DrainStepped drain a b → drain.next ≢ next.Flag → drain'.image ≡ drain.image → Draining drain' b.held.region → Copies ws drain' writes b
step_more ws drain drain' writes a b copies stepped before same draining = record {
  watched = step_watched ws drain writes a b copies stepped;
  opened = step_opened ws drain writes a b copies stepped;
  stands = stepped.stands;
  images = copies.images;
  log_end = copies.log_end;
  image = subst (λ (image : List ℕ). IsAdoptable image copies.images copies.log_end) (sym same) copies.image;
  same = copies.same;
  logs = step_logs ws drain writes a b copies stepped;
  draining = draining;
  closed = step_closed ws drain writes a b copies stepped before;
  each = copies.each;
  others = copies.others;
}

-- the last
pub step_last : (ws : List Watched) (drain : DrainState) (writes : List ℕ → List Write) (a b : Meaning)
    → Copies ws drain writes a → DrainStepped drain a b → b.held.region ≡ drain.image → Holds ws drain.image writes b
step_last ws drain writes a b copies stepped whole = record {
  watched = step_watched ws drain writes a b copies stepped;
  opened = step_opened ws drain writes a b copies stepped;
  stands = stepped.stands;
  images = copies.images;
  log_end = copies.log_end;
  is = copies.image;
  same = copies.same;
  logs = step_logs ws drain writes a b copies stepped;
  region = whole;
  each = copies.each;
  others = copies.others;
}

-- one that failed
pub step_failed : (ws : List Watched) (drain : DrainState) (writes : List ℕ → List Write) (a b : Meaning)
    → Copies ws drain writes a → DrainStepped drain a b → IsClosed b.held.region ⊎ (b.held.region ≡ drain.image) → LeftAt ws writes b
step_failed ws drain writes a b copies stepped left = ends_rest ws writes b (record {
  watched = step_watched ws drain writes a b copies stepped;
  opened = step_opened ws drain writes a b copies stepped;
  stands = stepped.stands;
  images = copies.images;
  log_end = copies.log_end;
  same = copies.same;
  logs = step_logs ws drain writes a b copies stepped;
  each = λ place w at. treated_has (writes w.name) (now_of w) (copies.each place w at);
  others = copies.others;
  region = closed_or_image drain.image b.held.region copies.images copies.log_end copies.image left;
})

-- the copy is given up
pub given_up : (ws : List Watched) (drain : DrainState) (writes : List ℕ → List Write) (m : Meaning) → Copies ws drain writes m → LeftAt ws writes m
given_up ws drain writes m copies = ends_rest ws writes m (record {
  watched = copies.watched;
  opened = copies.opened;
  stands = copies.stands;
  images = copies.images;
  log_end = copies.log_end;
  same = copies.same;
  logs = copies.logs;
  each = λ place w at. treated_has (writes w.name) (now_of w) (copies.each place w at);
  others = copies.others;
  region = inl (copies.closed m.held copies.stands.reads);
})

-- each table is handed over
pub handed : (ws ws' : List Watched) (image : List ℕ) (writes : List ℕ → List Write) (m : Meaning) → Holds ws image writes m → HandsAll m.clock ws ws' → HandsOver ws ws' writes m
handed ws ws' image writes m holds all =
    let more : SeenMore m.clock m.clock ws ws' = hands_more m.clock ws ws' all in
    record {
      rests = ends_rest ws' writes m (record {
        watched = hands_watched m.clock ws ws' all holds.watched;
        opened = opened_more m.clock m.clock m.clock m.clock ws ws' (omega arith) more holds.opened;
        stands = holds.stands;
        images = holds.images;
        log_end = holds.log_end;
        same = images_alike (spare_in ws) (spare_in ws') writes writes holds.images (λ name. sym (hands_spare m.clock name ws ws' all)) (λ name. refl) holds.same;
        logs = holds.logs;
        each = hands_has m.clock writes ws ws' all holds.each;
        others = λ name unwatched. holds.others name (sym (hands_named m.clock name ws ws' all) ∙ unwatched);
        region = closed_or_image image m.held.region holds.images holds.log_end holds.is (inr holds.region);
      });
      more = more;
    }
