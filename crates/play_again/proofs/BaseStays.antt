-- Where nothing is done to a berth, or it is only looked at, a leaf may begin over it again, and over what a crash left
-- of it.
use Rattle.std.proofs.Common.{◌≡◌, ◌∙◌, ◌⊎◌, inl, inr, ℕ, zero, suc, ◌≤◌, List, [], ◌∷◌, Option, Some, None, sym, subst, arith}
use Rattle.std.specs.Prelude.{IfSome, IsTrue, slice_get, slice_set}
use Rattle.leaf_model.specs.declared.writes.Write.{Write}
use Rattle.row_records.specs.Records.{LogRecord}
use Rattle.berth_face.specs.Berth.{IsClosed, Meaning, Pair, Stays}
use Rattle.berth_face.specs.Moments.{EachNow}
use Rattle.region_layout.specs.Region.{reads}
use Rattle.region_reading.specs.Reading.{Untouched}
use Rattle.crash_moments.specs.Left.{NamedStates, RegionLeft}
use Rattle.crash_moments.specs.Watched.{tables_then}
use Rattle.crash_states.specs.Beginning.{IsLeastSpare}
use Rattle.crash_states.specs.Standing.{Rests, states_of_tables}
use Rattle.crash_states.proofs.Lefts.{rests_left}
use Rattle.transcript_leaf.proofs.Lists.{same_some}
use Rattle.play.specs.Inspected.{IsLookedAt}
use Rattle.play.specs.Played.{AreBases, IsBase}
use Rattle.play_again.specs.Over.{BelongsToTables, HasBase, HasBaseSince, NamedHaveBases}

-- what a crash now may leave of a berth with a base
pairs_left : (base : NamedStates) (m : Meaning) → IsBase base m → EachNow BelongsToTables m
pairs_left base m is p left =
    let least : List ℕ → List Write = is.begins.1.0 in
    let next : Option LogRecord = is.begins.1.1 in
    let rests : Rests [] base least next m = is.begins.1.2 in
    (tables_then base m.clock [], rests_left [] base least next m rests p left)

-- where nothing was done
base_stays : (m : Meaning) → HasBase m → HasBaseSince m.clock m
base_stays m has = record {
  base = has;
  crashed = λ t p from to left.
      let here : t ≡ m.clock = omega (arith, from, to) in
      pairs_left has.0 m has.1 p (subst (λ (u : ℕ). m.leaves u p) here left);
}

pub same_stays : {B : Type 0} (meaning : B → Meaning) (old new : B) → old ≡ new → HasBase (meaning old) → HasBaseSince (meaning old).clock (meaning new)
same_stays {B} meaning old new same has = subst (λ (b : B). HasBaseSince (meaning old).clock (meaning b)) same (base_stays (meaning old) has)

-- ---- where the berth was looked at

module _ (base : NamedStates) (old new : Meaning) (is : IsBase base old) (looked : Untouched old new) where
  stays : Stays old new
  stays = looked.stays is.begins.0

  -- what may be left since, might be left before
  left_before : (t : ℕ) (p : Pair) → old.clock ≤ t → t ≤ new.clock → new.leaves t p → old.leaves old.clock p
  left_before t p from to left = (stays.leaves t p from to).0 left

  left_now : (p : Pair) → new.leaves new.clock p → old.leaves old.clock p
  left_now p left = left_before new.clock p looked.time.later (omega arith) left

  abbrev least : List ℕ → List Write
  least = is.begins.1.0

  abbrev next : Option LogRecord
  next = is.begins.1.1

  rests_old : Rests [] base least next old
  rests_old = is.begins.1.2

  rests_new : Rests [] base least next new
  rests_new = record {
    watched = record { each = tt; apart = tt };
    stands = record {
      reads = (stays.leaves new.clock new.held looked.time.later (omega arith)).1 (subst (λ (h : Pair). old.leaves old.clock h) (sym stays.held) rests_old.stands.reads);
      regions = λ p left. subst (λ (h : Pair). (p.region ≡ h.region) ⊎ IsClosed p.region) (sym stays.held) (rests_old.stands.regions p (left_now p left));
    };
    logs = λ p left. rests_old.logs p (left_now p left);
    each = rests_old.each;
    sound = rests_old.sound;
    empty = λ none p left. rests_old.empty (subst (λ (h : Pair). h.disk ≡ []) stays.held none) p (left_now p left);
    region = λ p left.
        subst (λ (h : Pair). RegionLeft reads (states_of_tables base [] old) (record { region = h.region; disk = p.disk })) (sym stays.held) (rests_old.region p (left_now p left));
  }

  base_looked_at : HasBaseSince old.clock new
  base_looked_at = record {
    base = (
      base,
      record {
        begins = (subst IsTrue (sym looked.time.tells) is.begins.0, (least, next, rests_new));
        is = is.is;
        least = λ name. subst (λ (h : Pair). IsLeastSpare h.region name (base name)) (sym stays.held) (is.least name);
      },
    );
    crashed = λ t p from to left. pairs_left base old is p (left_before t p from to left);
  }

-- an element after another was put at some place
set_at : {B : Type 0} (xs : List B) (i k : ℕ) (y old new : B) → slice_get xs k ≡ Some old → slice_get (slice_set xs i y) k ≡ Some new → (old ≡ new) ⊎ ((slice_get xs i ≡ Some old) × (y ≡ new))
set_at [] i k y old new at now = absurd cc
set_at (x ∷ xs) zero zero y old new at now = inr (at, same_some y new now)
set_at (x ∷ xs) zero (suc k) y old new at now = inl (same_some old new (sym at ∙ now))
set_at (x ∷ xs) (suc i) zero y old new at now = inl (same_some old new (sym at ∙ now))
set_at (x ∷ xs) (suc i) (suc k) y old new at now = set_at xs i k y old new at now

module _ {B : Type 0} (base : ℕ → Option NamedStates) (meaning : B → Meaning) (looked : ℕ) (olds news : List B) (are : AreBases base meaning olds) (is : IsLookedAt meaning looked olds news) where
  -- the berth is another, or the one that was looked at
  one_has : (o : Option NamedStates) (old new : B) → (old ≡ new) ⊎ ((slice_get olds looked ≡ Some old) × (is.berth_now ≡ new)) → IfSome o (λ states. IsBase states (meaning old)) → IfSome o (λ states. HasBaseSince (meaning old).clock (meaning new))
  one_has None old new place has = tt
  one_has (Some states) old new (inl same) has = same_stays meaning old new same (states, has)
  one_has (Some states) old new (inr here) has =
      let itself : is.berth ≡ old = same_some is.berth old (sym is.at ∙ here.0) in
      subst (λ (b : B). HasBaseSince (meaning old).clock (meaning b)) here.1
      (base_looked_at states (meaning old) (meaning is.berth_now) has (subst (λ (b : B). Untouched (meaning b) (meaning is.berth_now)) itself is.untouched))

  pub looked_have : NamedHaveBases base meaning olds news
  looked_have leaf old new at now =
      one_has (base leaf) old new (set_at olds looked leaf is.berth_now old new at (subst (λ (bs : List B). slice_get bs leaf ≡ Some new) is.back now)) (are leaf old at)
