-- A leaf at rest whose steward has made no entry yet.
use Rattle.std.proofs.Common.{◌≡◌, ℕ, false, Bool, List, [], ◌∷◌, map, Option, refl, sym, ap, subst, ◌∙◌}
use Rattle.std.specs.Prelude.{◌≢◌, ◌||◌, bytes_eq}
use Rattle.std.specs.List.{AllByRecursion}
use Rattle.std.proofs.lemmas.Bool.{false_from_ne_true}
use Rattle.std.proofs.lemmas.Slice.Eq.{bytes_eq-Decides}
use Rattle.leaf_model.specs.declared.writes.Write.{Write}
use Rattle.row_records.specs.Records.{LogRecord}
use Rattle.berth_face.specs.Berth.{Meaning}
use Rattle.row_model.specs.Names.{AreDistinct}
use Rattle.crash_moments.specs.Left.{NamedStates}
use Rattle.leaf_table.specs.Turns.{Shared, start_of}
use Rattle.leaf_table.specs.Calls.{SeatView, base_seen, name_of, seen_of}
use Rattle.crash_moments.specs.Watched.{Watched, AreApart, is_watched}
use Rattle.crash_states.specs.Standing.{Rests}
use Rattle.leaf_steward.specs.Seated.{Seated, AtEach, AreSeated, IsUnused, watched_by}
use Rattle.leaf_steward.proofs.Watching.{watch_at, watch_names}
use Rattle.crash_states.specs.Beginning.{MayBegin}
use Rattle.leaf_machine.proofs.DownBegins.{begun_rests}

-- ---- distinct names are apart

either_false : (a b : Bool) → a ≡ false → b ≡ false → (a || b) ≡ false
either_false a b first second = ap (λ (c : Bool). c || b) first ∙ second

unlike : (name other : List ℕ) → other ≢ name → bytes_eq name other ≡ false
unlike name other apart = false_from_ne_true (bytes_eq name other) (λ same. apart (sym ((bytes_eq-Decides name other).0 same)))

unwatched : (name : List ℕ) (ws : List Watched) → AllByRecursion (λ (other : List ℕ). other ≢ name) (map (λ (w : Watched). w.name) ws) → is_watched ws name ≡ false
unwatched name [] apart = refl
unwatched name (w ∷ ws) apart = either_false (bytes_eq name w.name) (is_watched ws name) (unlike name w.name apart.0) (unwatched name ws apart.1)

all_apart : (ws : List Watched) → AreDistinct (map (λ (w : Watched). w.name) ws) → AreApart ws
all_apart [] distinct = tt
all_apart (w ∷ ws) distinct = (unwatched w.name ws distinct.0, all_apart ws distinct.1)

-- ---- the leaf

-- nothing was seen yet
unused_new : (t : Shared) (v : SeatView) → IsUnused t v → seen_of v ≡ []
unused_new t v unused = ap (λ (s : SeatView). seen_of s) unused.unused

pub new_rests : (x : Seated) (base : NamedStates) (m : Meaning) → AreSeated x → AtEach (λ place t v. IsUnused t v) x → MayBegin base m
    → AtEach (λ place t v. start_of (base_seen t) ≡ base (name_of t)) x → (least : List ℕ → List Write) × (next : Option LogRecord) × Rests (watched_by x) base least next m
new_rests x base m seated unused may bases =
    let rests = may.1 in (
      rests.0,
      rests.1,
      begun_rests base (watched_by x) rests.0 rests.1 m rests.2 (record {
        apart = all_apart (watched_by x) (subst AreDistinct (sym (watch_names x seated)) seated.named.distinct);
        each = λ place w at.
            let found = watch_at x place w at in
            subst (λ (u : Watched). (u.base ≡ base u.name) × (u.seen ≡ [])) (sym found.4)
            (bases place found.0 found.1 found.2 found.3, unused_new found.0 found.1 (unused place found.0 found.1 found.2 found.3));
      }),
    )
