-- What a step of the drain leaves of the tables, the log and each pair.
use Rattle.std.proofs.Common.{◌≡◌, ◌≢◌, ◌⊎◌, inl, inr, ℕ, ◌≤◌, true, List, [], ◌∷◌, refl, sym, subst, arith}
use Rattle.std.specs.List.{AllByRecursion}
use Rattle.leaf_model.specs.declared.writes.Write.{Write}
use Rattle.berth_face.specs.Berth.{Pair, Meaning, IsClosed}
use Rattle.berth_face.specs.Moments.{EachNow}
use Rattle.region_layout.specs.Region.{reads}
use Rattle.disk_backup.specs.Settling.{HasLog}
use Rattle.drain_copy.specs.declared.step.Next.TheVariants as next
use Rattle.drain_copy.specs.Draining.{DrainState, DrainsFrom, AllClosed}
use Rattle.crash_moments.specs.Left.{NamedStates, Left}
use Rattle.crash_moments.specs.Watched.{Watched, IsWatched, AreWatched, Between, tables_then, was_opened}
use Rattle.crash_moments.proofs.Telling.{between_wider, none_more, opened_more, then_now}
use Rattle.crash_states.specs.Standing.{StandsNow, Copies, Holds}
use Rattle.crash_states.proofs.Lefts.{copies_left, holds_left}
use Rattle.crash_draining.specs.Laws.{DrainStepped}

-- ---- time goes on

each_later : (from to : ℕ) (ws : List Watched) → from ≤ to → AllByRecursion (IsWatched from) ws → AllByRecursion (IsWatched to) ws
each_later from to [] later each = tt
each_later from to (w ∷ ws) later each = (
  record { base = each.0.base; legal = each.0.legal; made = between_wider 0 0 from to w.seen (omega arith) later each.0.made },
  each_later from to ws later each.1,
)

pub watched_later : (from to : ℕ) (ws : List Watched) → from ≤ to → AreWatched from ws → AreWatched to ws
watched_later from to ws later watched = record { each = each_later from to ws later watched.each; apart = watched.apart }

all_made : (clock : ℕ) (ws : List Watched) → AllByRecursion (IsWatched clock) ws → AllByRecursion (λ (w : Watched). Between 0 clock w.seen) ws
all_made clock [] each = tt
all_made clock (w ∷ ws) each = (each.0.made, all_made clock ws each.1)

-- ---- one pair alone

-- a berth that holds this pair, of which a crash leaves just this
abbrev just : ℕ → Pair → Meaning
just clock p = record { tells = true; held = p; clock = clock; leaves = λ t q. q ≡ p; regions = λ t region. region ≡ p.region; region_faults = 0; disk_faults = 0; disk_reads = 0 }

just_each : (P : Pair → Type 0) (clock : ℕ) (p : Pair) → P p → EachNow P (just clock p)
just_each P clock p has q same = subst P (sym same) has

just_stands : (clock : ℕ) (p : Pair) → StandsNow (just clock p)
just_stands clock p = record { reads = refl; regions = just_each (λ q. (q.region ≡ p.region) ⊎ IsClosed q.region) clock p (inl refl) }

module _ (ws : List Watched) (others : NamedStates) (drain : DrainState) (writes : List ℕ → List Write) (a : Meaning) (copies : Copies ws drain writes a) (p : Pair) (log : HasLog writes copies.log_end p.disk) where
  -- a pair with the log and a closed region is of a copy that was not begun
  closed_left : IsClosed p.region → Left reads (tables_then others a.clock ws) p
  closed_left closed =
      let begun : DrainState = record { image = drain.image; next = next.Begin; heap = drain.heap } in
      let still : Copies ws begun writes (just a.clock p) = record {
        watched = copies.watched;
        opened = copies.opened;
        stands = just_stands a.clock p;
        images = copies.images;
        log_end = copies.log_end;
        image = copies.image;
        same = copies.same;
        logs = just_each (λ q. HasLog writes copies.log_end q.disk) a.clock p log;
        draining = tt;
        closed = just_each (λ q. IsClosed q.region) a.clock p closed;
        each = copies.each;
        others = copies.others;
      } in
      copies_left ws others begun writes (just a.clock p) still p refl

  -- and one with the whole image is of a copy that was made
  whole_left : p.region ≡ drain.image → Left reads (tables_then others a.clock ws) p
  whole_left whole =
      let made : Holds ws drain.image writes (just a.clock p) = record {
        watched = copies.watched;
        opened = copies.opened;
        stands = just_stands a.clock p;
        images = copies.images;
        log_end = copies.log_end;
        is = copies.image;
        same = copies.same;
        logs = just_each (λ q. HasLog writes copies.log_end q.disk) a.clock p log;
        region = whole;
        each = copies.each;
        others = copies.others;
      } in
      holds_left ws others drain.image writes (just a.clock p) made p refl

-- ---- a step

module _ (ws : List Watched) (drain : DrainState) (writes : List ℕ → List Write) (a b : Meaning) (copies : Copies ws drain writes a) (stepped : DrainStepped drain a b) where
  same_log : (p : Pair) → DrainsFrom drain a p → HasLog writes copies.log_end p.disk
  same_log p came = subst (λ (disk : List ℕ). HasLog writes copies.log_end disk) (sym came.disk) (copies.logs came.from came.was)

  -- a pair of any moment belongs to the tables as they stood then
  pub step_left : (others : NamedStates) (t : ℕ) (p : Pair) → a.clock ≤ t → DrainsFrom drain a p → Left reads (tables_then others t ws) p
  step_left others t p from came =
      subst (λ (tables : NamedStates). Left reads tables p) (sym (then_now others a.clock t ws from (all_made a.clock ws copies.watched.each))) (by came.region)
    where
      by : IsClosed p.region ⊎ ((drain.next ≡ next.Flag) × (p.region ≡ drain.image)) → Left reads (tables_then others a.clock ws) p
      by (inl closed) = closed_left ws others drain writes a copies p (same_log p came) closed
      by (inr whole) = whole_left ws others drain writes a copies p (same_log p came) whole.1

  at_end : (p : Pair) → b.leaves b.clock p → DrainsFrom drain a p
  at_end p left = stepped.moments.each b.clock p stepped.passes.later (omega arith) left

  pub step_watched : AreWatched b.clock ws
  step_watched = watched_later a.clock b.clock ws stepped.passes.later copies.watched

  pub step_opened : was_opened b.clock ws ≡ true
  step_opened = opened_more a.clock b.clock a.clock b.clock ws ws stepped.passes.later (none_more a.clock b.clock ws) copies.opened

  pub step_logs : EachNow (λ p. HasLog writes copies.log_end p.disk) b
  step_logs p left = same_log p (at_end p left)

  -- before the last step no region is the image
  pub step_closed : drain.next ≢ next.Flag → AllClosed b
  step_closed before p left = by (at_end p left).region
    where
      by : IsClosed p.region ⊎ ((drain.next ≡ next.Flag) × (p.region ≡ drain.image)) → IsClosed p.region
      by (inl closed) = closed
      by (inr whole) = absurd (before whole.0)
