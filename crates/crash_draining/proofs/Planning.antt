-- The image that is planned has just the writes of each table.
use Rattle.std.proofs.Common.{◌≡◌, ◌∙◌, ℕ, zero, suc, Bool, true, false, List, [], ◌∷◌, length, map, Option, Some, None, refl, sym, ap, subst, arith}
use Rattle.std.specs.Prelude.{◌||◌, slice_get, unwrap_or, bytes_eq}
use Rattle.std.specs.List.{find}
use Rattle.std.proofs.lemmas.Bool.{cond-true, cond-false, false_from_ne_true, false≢true}
use Rattle.std.proofs.lemmas.List.{take_all}
use Rattle.std.proofs.lemmas.Slice.Eq.{bytes_eq-Decides}
use Rattle.leaf_model.specs.declared.writes.Write.{Write}
use Rattle.leaf_model.specs.Content.{content}
use Rattle.row_records.specs.Records.{LogRecord}
use Rattle.leaf_history.specs.History.{HistoryState, no_base}
use Rattle.berth_face.specs.Berth.{Meaning}
use Rattle.berth_face.specs.Moments.{EachNow}
use Rattle.table_state.specs.Tables.{Table, added_count}
use Rattle.region_layout.specs.Images.{TableImage}
use Rattle.region_layout.specs.Images.{images_by_name, image_of, table_named, empty_image, is_named}
use Rattle.disk_backup.specs.State.{LogState}
use Rattle.disk_backup.specs.Settling.{HasLog, HoldsOwing, with_writes}
use Rattle.drain_copy.specs.declared.step.Next.{Next}
use Rattle.drain_copy.specs.Draining.{DrainState, Draining, RegionStandsAt}
use Rattle.region_layout.specs.ImageWrites.{AreImagesOf, IsImageOf}
use Rattle.crash_moments.specs.Watched.{Watched, is_watched, now_of}
use Rattle.crash_states.specs.Standing.{Runs, IsLogged, IsTreated, IsContentOf, spare_in}
use Rattle.crash_states.proofs.Names.{named_at}
use Rattle.crash_draining.specs.Laws.{AreTaken, IsPlanned}

-- ---- the table of a name in the images of the tables

abbrev names_of : List Watched → List (List ℕ)
names_of ws = map (λ (w : Watched). w.name) ws

-- in the place of each table its image has these writes, and a name that has no table has none
image_named : (spare : ℕ) (writes : List Write) (name : List ℕ) (ws : List Watched) (tables : List Table) → length tables ≡ length ws
    → ((place : ℕ) (w : Watched) (t : Table) → slice_get ws place ≡ Some w → slice_get tables place ≡ Some t → w.name ≡ name → IsImageOf spare writes (image_of w.name t))
    → (is_watched ws name ≡ false → writes ≡ []) → IsImageOf spare writes (table_named (images_by_name (names_of ws) tables) name)
image_named spare writes name [] tables count each others = record { contents = ap content (sym (others refl)); count = ap (λ (l : List Write). length l) (sym (others refl)); few = omega arith }
image_named spare writes name (w ∷ ws) [] count each others = absurd (omega (arith, count))
image_named spare writes name (w ∷ ws) (t ∷ tables) count each others =
    by (bytes_eq w.name name) refl (image_named spare writes name ws tables (omega (arith, count)) (λ place v u at there named. each (suc place) v u at there named))
  where
    first : TableImage
    first = image_of w.name t

    rest : List TableImage
    rest = images_by_name (names_of ws) tables

    by : (b : Bool) → bytes_eq w.name name ≡ b → ((is_watched ws name ≡ false → writes ≡ []) → IsImageOf spare writes (table_named rest name)) → IsImageOf spare writes (table_named (first ∷ rest) name)
    by true same next =
        let found : table_named (first ∷ rest) name ≡ first =
        ap (λ (o : Option TableImage). unwrap_or o (empty_image name)) (cond-true (bytes_eq w.name name) (Some first) (find (is_named name) rest) same) in
        subst (λ (image : TableImage). IsImageOf spare writes image) (sym found) (each zero w t refl refl ((bytes_eq-Decides w.name name).0 same))
    by false other next =
        let found : table_named (first ∷ rest) name ≡ table_named rest name =
        ap (λ (o : Option TableImage). unwrap_or o (empty_image name)) (cond-false (bytes_eq w.name name) (Some first) (find (is_named name) rest) other) in
        let apart : bytes_eq name w.name ≡ false =
        false_from_ne_true (bytes_eq name w.name) (λ same. false≢true (sym other ∙ (bytes_eq-Decides w.name name).1 (sym ((bytes_eq-Decides name w.name).0 same)))) in
        subst (λ (image : TableImage). IsImageOf spare writes image) (sym found) (next (λ unwatched. others (ap (λ (b : Bool). b || is_watched ws name) apart ∙ unwatched)))

-- ---- the copy that is planned

-- all of a table was taken, so that all of it is in the log
all_logged : (logged taken : List Write) (s : HistoryState) → IsLogged logged taken s → s.taken ≡ length s.writes → s.writes ≡ taken
all_logged logged taken s is all = sym (take_all s.taken s.writes (omega (arith, all))) ∙ is.front

module _ (ws : List Watched) (owner : ℕ) (tables : List Table) (log : LogState) (drain : DrainState) (writes : List ℕ → List Write) (m : Meaning)
    (runs : Runs ws owner log writes m) (none : log.owed ≡ None) (taken : AreTaken ws tables) (plan : IsPlanned ws tables log drain) where
  logged : (place : ℕ) (w : Watched) → slice_get ws place ≡ Some w → IsLogged (writes w.name) (writes w.name) (now_of w)
  logged place w at = subst (λ (owed : Option LogRecord). IsLogged (writes w.name) (with_writes owed writes w.name) (now_of w)) none (runs.each place w at)

  whole : (place : ℕ) (w : Watched) → slice_get ws place ≡ Some w → (now_of w).writes ≡ writes w.name
  whole place w at = all_logged (writes w.name) (writes w.name) (now_of w) (logged place w at) (taken.shut place w at).1

  pub planned_others : (name : List ℕ) → is_watched ws name ≡ false → writes name ≡ []
  planned_others name unwatched = subst (λ (owed : Option LogRecord). with_writes owed writes name ≡ []) none (runs.others name unwatched)

  spare_at : (name : List ℕ) (place : ℕ) (w : Watched) → slice_get ws place ≡ Some w → w.name ≡ name → spare_in ws name ≡ (now_of w).spare
  spare_at name place w at named = sym (ap (spare_in ws) named) ∙ ap (λ (s : HistoryState). s.spare) (named_at now_of (λ n. no_base) ws place w runs.watched.apart at)

  pub planned_same : AreImagesOf (spare_in ws) writes (images_by_name (names_of ws) tables)
  planned_same name = image_named (spare_in ws name) (writes name) name ws tables taken.count each (planned_others name)
    where
      each : (place : ℕ) (w : Watched) (t : Table) → slice_get ws place ≡ Some w → slice_get tables place ≡ Some t → w.name ≡ name → IsImageOf (spare_in ws name) (writes name) (image_of w.name t)
      each place w t at there named =
          let content_is : IsContentOf (now_of w) t = taken.contents place w t at there in
          let all : (now_of w).writes ≡ writes name = whole place w at ∙ ap writes named in
          record {
            contents = content_is.contents ∙ ap content all;
            count = content_is.writes ∙ ap (λ (l : List Write). length l) all;
            few = let spare : spare_in ws name ≡ (now_of w).spare = spare_at name place w at named in omega (arith, content_is.few, ap added_count all, spare);
          }

  pub planned_logs : EachNow (λ p. HasLog writes log.end p.disk) m
  planned_logs p left =
      let had = runs.logs p left in
      (had.0, subst (λ (owed : Option LogRecord). HoldsOwing owed log.laid log.end had.0 p.disk) none had.1, had.2)

  -- nothing of it is in the region yet
  pub planned_draining : Draining drain m.held.region
  planned_draining = subst (λ (n : Next). RegionStandsAt n drain.image drain.heap m.held.region) (sym plan.begins) tt

  pub planned_each : (place : ℕ) (w : Watched) → slice_get ws place ≡ Some w → IsTreated (writes w.name) (now_of w)
  planned_each place w at =
      let is : IsLogged (writes w.name) (writes w.name) (now_of w) = logged place w at in
      record { shut = (taken.shut place w at).0; whole = whole place w at; flushed = is.flushed; handed = is.handed }
