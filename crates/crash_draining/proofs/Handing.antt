-- What handing the tables over adds to their histories.
use Rattle.std.proofs.Common.{◌≡◌, ◌∙◌, ℕ, zero, suc, Bool, true, false, List, [], ◌∷◌, ◌++◌, Some, refl, sym, ap, subst, arith}
use Rattle.std.specs.Prelude.{◌||◌, slice_get, bytes_eq, if◌then◌else◌}
use Rattle.std.specs.List.{AllByRecursion}
use Rattle.std.proofs.lemmas.Option.{same_Some}
use Rattle.leaf_model.specs.declared.writes.Write.{Write}
use Rattle.leaf_history.specs.Calls as call
use Rattle.leaf_history.specs.Replies as reply
use Rattle.leaf_history.specs.History.{Entry, HistoryState, LegalFrom, after, no_base}
use Rattle.leaf_history.specs.Laws.{AreCallers, CallersKeep}
use Rattle.leaf_history.proofs.Histories.{LegalFrom-front, LegalFrom-back, after-append, after_spare, others_keep}
use Rattle.crash_moments.specs.Watched.{Watched, IsFoundation, IsWatched, AreWatched, AreApart, Between, by_name, is_watched, now_of}
use Rattle.crash_moments.specs.Told.{SeenMore}
use Rattle.crash_moments.proofs.Telling.{between_wider, between_append}
use Rattle.crash_states.specs.Standing.{IsTreated, spare_in}
use Rattle.crash_states.specs.Entries.{Enters, HandsAll, stewards}
use Rattle.crash_draining.proofs.Resting.{HasAll}

-- ---- one table

abbrev HandsOne : ℕ → Watched → Watched → Type 0
HandsOne clock w w' = Enters clock call.Done reply.Noted w w'

abbrev done : ℕ → Entry
done clock = stewards clock call.Done reply.Noted

-- what callers made, and then the steward's entry
abbrev added : (clock : ℕ) (w w' : Watched) → HandsOne clock w w' → List Entry
added clock w w' hands = hands.between ++ done clock ∷ []

callers_between : (from to : ℕ) (es : List Entry) → AreCallers es → Between from to es
callers_between from to [] callers = tt
callers_between from to (e ∷ es) callers = (λ steward. absurd (omega (arith, steward, callers.0)), callers_between from to es callers.1)

added_between : (clock : ℕ) (w w' : Watched) (hands : HandsOne clock w w') → Between clock clock (added clock w w' hands)
added_between clock w w' hands = between_append clock clock hands.between (done clock ∷ []) (callers_between clock clock hands.between hands.others) ((λ steward. (omega arith, omega arith)), tt)

handed_watched : (clock : ℕ) (w w' : Watched) → HandsOne clock w w' → IsWatched clock w → IsWatched clock w'
handed_watched clock w w' hands watched =
    let more : List Entry = added clock w w' hands in
    let made : Between 0 clock more = between_wider 0 clock clock clock more (omega arith) (omega arith) (added_between clock w w' hands) in
    record {
      base = subst IsFoundation (sym hands.base) watched.base;
      legal = hands.legal;
      made = subst (Between 0 clock) (sym hands.seen) (between_append 0 clock w.seen more watched.made made);
    }

-- on a shut table callers changed nothing, so that it was only handed over
handed_state : (clock : ℕ) (w w' : Watched) → HandsOne clock w w' → (now_of w).live ≡ false → now_of w' ≡ record (now_of w) { handed = true }
handed_state clock w w' hands shut =
    let s : HistoryState = now_of w in
    let more : List Entry = added clock w w' hands in
    let legal : LegalFrom true w.base (w.seen ++ more) =
    subst (λ (es : List Entry). LegalFrom true w.base es) hands.seen (subst (λ (base : HistoryState). LegalFrom true base w'.seen) hands.base hands.legal) in
    let callers : LegalFrom true s hands.between = LegalFrom-front true s hands.between (done clock ∷ []) (LegalFrom-back true w.base w.seen more legal) in
    let keeps : CallersKeep s (after true s hands.between) = others_keep true s hands.between callers hands.others in
    ap (λ (base : HistoryState). after true base w'.seen) hands.base
    ∙ ap (λ (es : List Entry). after true w.base es) hands.seen
    ∙ after-append true w.base w.seen more
    ∙ after-append true s hands.between (done clock ∷ [])
    ∙ ap (λ (t : HistoryState). after true t (done clock ∷ [])) (keeps.shut shut)

handed_has : (clock : ℕ) (writes : List Write) (w w' : Watched) → HandsOne clock w w' → IsTreated writes (now_of w) → HasAll writes (now_of w')
handed_has clock writes w w' hands is = subst (HasAll writes) (sym (handed_state clock w w' hands is.shut)) (record { shut = is.shut; whole = is.whole; flushed = is.flushed })

-- ---- all of them

module _ (clock : ℕ) where
  pub hands_more : (ws ws' : List Watched) → HandsAll clock ws ws' → SeenMore clock clock ws ws'
  hands_more [] [] all = tt
  hands_more [] (w' ∷ ws') all = absurd all
  hands_more (w ∷ ws) [] all = absurd all
  hands_more (w ∷ ws) (w' ∷ ws') all = ((all.0.name, all.0.base, (added clock w w' all.0, all.0.seen, added_between clock w w' all.0)), hands_more ws ws' all.1)

  -- the names are the same
  pub hands_named : (name : List ℕ) (ws ws' : List Watched) → HandsAll clock ws ws' → is_watched ws' name ≡ is_watched ws name
  hands_named name [] [] all = refl
  hands_named name [] (w' ∷ ws') all = absurd all
  hands_named name (w ∷ ws) [] all = absurd all
  hands_named name (w ∷ ws) (w' ∷ ws') all =
      ap (λ (n : List ℕ). bytes_eq name n || is_watched ws' name) all.0.name ∙ ap (λ (b : Bool). bytes_eq name w.name || b) (hands_named name ws ws' all.1)

  -- each name has as many spare columns
  pub hands_spare : (name : List ℕ) (ws ws' : List Watched) → HandsAll clock ws ws' → spare_in ws' name ≡ spare_in ws name
  hands_spare name [] [] all = refl
  hands_spare name [] (w' ∷ ws') all = absurd all
  hands_spare name (w ∷ ws) [] all = absurd all
  hands_spare name (w ∷ ws) (w' ∷ ws') all =
      ap (λ (n : List ℕ). (if bytes_eq name n then now_of w' else by_name now_of (λ other. no_base) ws' name).spare) all.0.name
      ∙ by (bytes_eq name w.name) (after_spare true w'.base w'.seen ∙ ap (λ (s : HistoryState). s.spare) all.0.base ∙ sym (after_spare true w.base w.seen)) (hands_spare name ws ws' all.1)
    where
      by : (b : Bool) → (now_of w').spare ≡ (now_of w).spare → spare_in ws' name ≡ spare_in ws name
          → (if b then now_of w' else by_name now_of (λ other. no_base) ws' name).spare ≡ (if b then now_of w else by_name now_of (λ other. no_base) ws name).spare
      by true here rest = here
      by false here rest = rest

  hands_apart : (ws ws' : List Watched) → HandsAll clock ws ws' → AreApart ws → AreApart ws'
  hands_apart [] [] all apart = tt
  hands_apart [] (w' ∷ ws') all apart = absurd all
  hands_apart (w ∷ ws) [] all apart = absurd all
  hands_apart (w ∷ ws) (w' ∷ ws') all apart = (ap (is_watched ws') all.0.name ∙ hands_named w.name ws ws' all.1 ∙ apart.0, hands_apart ws ws' all.1 apart.1)

  hands_each : (ws ws' : List Watched) → HandsAll clock ws ws' → AllByRecursion (IsWatched clock) ws → AllByRecursion (IsWatched clock) ws'
  hands_each [] [] all each = tt
  hands_each [] (w' ∷ ws') all each = absurd all
  hands_each (w ∷ ws) [] all each = absurd all
  hands_each (w ∷ ws) (w' ∷ ws') all each = (handed_watched clock w w' all.0 each.0, hands_each ws ws' all.1 each.1)

  pub hands_watched : (ws ws' : List Watched) → HandsAll clock ws ws' → AreWatched clock ws → AreWatched clock ws'
  hands_watched ws ws' all watched = record { each = hands_each ws ws' all watched.each; apart = hands_apart ws ws' all watched.apart }

  -- which table was handed over in a place
  hands_at : (ws ws' : List Watched) → HandsAll clock ws ws' → (place : ℕ) (w' : Watched) → slice_get ws' place ≡ Some w' → (w : Watched) × (slice_get ws place ≡ Some w) × HandsOne clock w w'
  hands_at [] [] all place w' at = absurd cc
  hands_at [] (v' ∷ ws') all place w' at = absurd all
  hands_at (v ∷ ws) [] all place w' at = absurd all
  hands_at (v ∷ ws) (v' ∷ ws') all zero w' at = (v, refl, subst (HandsOne clock v) (same_Some v' w' at) all.0)
  hands_at (v ∷ ws) (v' ∷ ws') all (suc place) w' at = hands_at ws ws' all.1 place w' at

  pub hands_has : (writes : List ℕ → List Write) (ws ws' : List Watched) → HandsAll clock ws ws' → ((place : ℕ) (w : Watched) → slice_get ws place ≡ Some w → IsTreated (writes w.name) (now_of w))
      → (place : ℕ) (w' : Watched) → slice_get ws' place ≡ Some w' → HasAll (writes w'.name) (now_of w')
  hands_has writes ws ws' all each place w' at =
      let was = hands_at ws ws' all place w' at in
      let has : HasAll (writes was.0.name) (now_of w') = handed_has clock (writes was.0.name) was.0 w' was.2 (each place was.0 was.1) in
      subst (λ (name : List ℕ). HasAll (writes name) (now_of w')) (sym was.2.name) has
