-- What is left of a leaf whose tables are all in its log and in the image that it copied.
use Rattle.std.proofs.Common.{◌≡◌, ◌⊎◌, inl, inr, ◌∙◌, ℕ, ◌≤◌, true, false, List, [], ◌∷◌, length, take, Some, None, refl, sym, ap, subst, arith, length-append}
use Rattle.std.specs.Prelude.{slice_get}
use Rattle.std.proofs.lemmas.List.{take_all}
use Rattle.leaf_model.specs.declared.writes.Write.{Write}
use Rattle.leaf_history.specs.History.{HistoryState, no_base}
use Rattle.berth_face.specs.Berth.{Meaning, IsClosed}
use Rattle.berth_face.specs.Moments.{EachNow}
use Rattle.region_layout.specs.Images.{TableImage}
use Rattle.region_layout.specs.Region.{IsAdoptable}
use Rattle.disk_backup.specs.Logs.{open_records}
use Rattle.disk_backup.specs.Settling.{HasLog}
use Rattle.region_layout.specs.ImageWrites.{AreImagesOf}
use Rattle.disk_backup.specs.SoundLogs.{HasFewRows}
use Rattle.disk_backup.proofs.SoundLogs.{none_short}
use Rattle.crash_moments.specs.Left.{NamedStates, closed}
use Rattle.crash_moments.specs.Watched.{Watched, IsFoundation, IsWatched, AreWatched, is_watched, now_of, others_then, was_opened}
use Rattle.crash_states.specs.Standing.{StandsNow, IsKept, IsTreated, Rests, RegionRests, spare_in, states_of_tables}
use Rattle.crash_states.proofs.Names.{IsOwn, IsForeign, find_name, no_others, each_at}
use Rattle.crash_states.proofs.States.{now_sound}
use Rattle.crash_states.proofs.Disks.{sound_log}
use Rattle.crash_states.proofs.Pairs.{image_left}

-- ---- one table

-- all of a shut table is in the log
pub record HasAll (writes : List Write) (s : HistoryState) : Type 0 where
  pub shut : s.live ≡ false
  pub whole : s.writes ≡ writes
  pub flushed : s.flushed ≤ length writes

pub treated_has : (writes : List Write) (s : HistoryState) → IsTreated writes s → HasAll writes s
treated_has writes s is = record { shut = is.shut; whole = is.whole; flushed = is.flushed }

-- a name with no writes has none in the log
none_has : (writes : List Write) → writes ≡ [] → HasAll writes no_base
none_has writes none = record { shut = refl; whole = sym none; flushed = omega arith }

-- then the shortest of its logs is the longest
has_kept : (writes : List Write) (s : HistoryState) → HasAll writes s → IsKept writes writes s
has_kept writes s has =
    let all : writes ≡ take (length writes) s.writes = sym (ap (λ (l : List Write). take (length writes) l) has.whole ∙ take_all (length writes) writes (omega arith)) in
    record { shut = has.shut; flushed = has.flushed; shortest = all; longest = all; handed = λ over. (sym has.whole, sym has.whole) }

-- ---- the region

pub closed_or_image : (image region : List ℕ) (images : List TableImage) (log_end : ℕ) → IsAdoptable image images log_end → IsClosed region ⊎ (region ≡ image) → IsClosed region ⊎ IsAdoptable region images log_end
closed_or_image image region images log_end is (inl shut) = inl shut
closed_or_image image region images log_end is (inr whole) = inr (subst (λ (bytes : List ℕ). IsAdoptable bytes images log_end) (sym whole) is)

-- ---- the leaf

-- All of each table is in each log, which ends where the image of the tables says, and the region as it reads is closed
-- or that image.
pub record Ends (ws : List Watched) (writes : List ℕ → List Write) (m : Meaning) : Type 0 where
  pub watched : AreWatched m.clock ws
  pub opened : was_opened m.clock ws ≡ true
  pub stands : StandsNow m
  pub images : List TableImage
  pub log_end : ℕ
  pub same : AreImagesOf (spare_in ws) writes images
  pub logs : EachNow (λ p. HasLog writes log_end p.disk) m
  pub each : (place : ℕ) (w : Watched) → slice_get ws place ≡ Some w → HasAll (writes w.name) (now_of w)
  pub others : (name : List ℕ) → is_watched ws name ≡ false → writes name ≡ []
  pub region : IsClosed m.held.region ⊎ IsAdoptable m.held.region images log_end

module _ (ws : List Watched) (writes : List ℕ → List Write) (m : Meaning) (ends : Ends ws writes m) where
  short : (name : List ℕ) → HasFewRows (writes name)
  short name = by (find_name ws name)
    where
      by : IsOwn ws name ⊎ IsForeign ws name → HasFewRows (writes name)
      by (inl own) =
          let watched : IsWatched m.clock own.table = each_at (IsWatched m.clock) ws ends.watched.each own.place own.table own.at in
          subst HasFewRows ((ends.each own.place own.table own.at).whole ∙ ap writes own.named) (now_sound m.clock own.table watched).short
      by (inr foreign) = subst HasFewRows (sym (ends.others name foreign.unwatched)) none_short

  -- a disk with a log has a gate
  not_empty : (disk : List ℕ) → HasLog writes ends.log_end disk → disk ≡ [] → ⊥
  not_empty disk had none =
      let gate : List ℕ = had.1.gate ∷ had.1.rest in
      omega (arith, ap (λ (l : List ℕ). length l) (sym none ∙ had.1.is), length-append (open_records had.0) gate)

  module _ (others : NamedStates) where
    abbrev outside : NamedStates
    outside = others_then (was_opened m.clock ws) others

    abbrev tables : NamedStates
    tables = states_of_tables others ws m

    -- where each name stands, all of it is in the log
    has_all : (name : List ℕ) → HasAll (writes name) (tables name)
    has_all name = by (find_name ws name)
      where
        by : IsOwn ws name ⊎ IsForeign ws name → HasAll (writes name) (tables name)
        by (inl own) =
            let has : HasAll (writes name) (now_of own.table) = subst (λ (n : List ℕ). HasAll (writes n) (now_of own.table)) own.named (ends.each own.place own.table own.at) in
            subst (HasAll (writes name)) (sym (own.stands now_of outside)) has
        by (inr foreign) =
            subst (HasAll (writes name)) (sym (foreign.stands now_of outside ∙ no_others (was_opened m.clock ws) others name ends.opened)) (none_has (writes name) (ends.others name foreign.unwatched))

    spare_is : (name : List ℕ) → (tables name).spare ≡ spare_in ws name
    spare_is name = by (find_name ws name)
      where
        by : IsOwn ws name ⊎ IsForeign ws name → (tables name).spare ≡ spare_in ws name
        by (inl own) = ap (λ (s : HistoryState). s.spare) (own.stands now_of outside ∙ sym (own.stands now_of (λ n. no_base)))
        by (inr foreign) = ap (λ (s : HistoryState). s.spare) (foreign.stands now_of outside ∙ no_others (was_opened m.clock ws) others name ends.opened ∙ sym (foreign.stands now_of (λ n. no_base)))

    region : IsClosed m.held.region ⊎ IsAdoptable m.held.region ends.images ends.log_end → RegionRests tables m
    region (inl shut) p left = closed shut
    region (inr is) p left =
        image_left tables (spare_in ws) writes (record { region = m.held.region; disk = p.disk }) ends.images ends.log_end spare_is (λ name. (has_all name).whole) is ends.same (ends.logs p left)

    pub ends_rest : ((name : List ℕ) → IsFoundation (others name)) → Rests ws others writes None m
    ends_rest sound = record {
      watched = ends.watched;
      stands = ends.stands;
      logs = λ p left. inl (sound_log writes ends.log_end p.disk (ends.logs p left) short);
      each = λ name. has_kept (writes name) (tables name) (has_all name);
      sound = sound;
      empty = λ none. absurd (not_empty m.held.disk (ends.logs m.held ends.stands.reads) none);
      region = region ends.region;
    }
