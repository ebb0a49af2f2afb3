-- How pairs come from pairs, through a write and a sync.
use Rattle.std.proofs.Common.{◌≡◌, ◌⊎◌, inl, inr, ℕ, ◌∙◌, List, length, Bool, true, false, refl, sym, ap, subst}
use Rattle.std.specs.Prelude.{Result}
use Rattle.berth_face.specs.Berth.{Pair, Meaning, IsClosed, Passes, Torn, DiskStep, DiskWritten, DiskSynced}
use Rattle.berth_face.specs.Moments.{EachNow, Throughout}
use Rattle.berth_face.proofs.Moments.{started, goes_on, throughout_join, throughout_map}
use Rattle.disk_backup.specs.Gates.{OwingAfter, EitherWay}
use Rattle.disk_backup.specs.Came.{Came}

-- a pair comes from itself
pub came_here : (end : ℕ) (before : List ℕ → List ℕ → Type 0) (a : Meaning) → EachNow (Came end before before a) a
came_here end before a = λ p left. record { from = p; was = left; region = inl refl; disk = λ front at had. had }

-- from a pair that came from one before
pub came_on : (end : ℕ) (A B C : List ℕ → List ℕ → Type 0) (a b : Meaning) (p : Pair) → EachNow (Came end A B a) b → Came end B C b p → Came end A C a p
came_on end A B C a b p first second =
    let came = first second.from second.was in
    record {
      from = came.from;
      was = came.was;
      region = elim second.region [
        | inr shut ↦ inr shut
        | inl same ↦ elim came.region [
          | inl e ↦ inl (same ∙ e)
          | inr shut ↦ inr (subst IsClosed (sym same) shut)
        ]
      ];
      disk = λ front at had. second.disk front at (came.disk front at had);
    }

-- two runs of calls
pub came_join : (end : ℕ) (A B C : List ℕ → List ℕ → Type 0) (a b c : Meaning) → Throughout (Came end A C a) a b → EachNow (Came end A B a) b → Throughout (Came end B C b) b c → Throughout (Came end A C a) a c
came_join end A B C a b c first now second = throughout_join a b c (Came end A C a) first (throughout_map b c (Came end B C b) (Came end A C a) (λ p came. came_on end A B C a b p now came) second)

module _ (end at n : ℕ) (P : List ℕ → List ℕ → Type 0) (keeps : (front old new : List ℕ) → end ≡ length front → P front old → Torn at n old new → P front new) where
  step : (a : Meaning) (q p : Pair) → Came end P P a q → DiskStep (Torn at n) q p → Came end P P a p
  step a q p came made = record {
    from = came.from;
    was = came.was;
    region = subst (λ (r : List ℕ). (r ≡ came.from.region) ⊎ IsClosed r) (sym made.0) came.region;
    disk = λ front is had. keeps front q.disk p.disk is (came.disk front is had) made.1;
  }

  pub writes_come : {T E : Type 0} (bytes : List ℕ) (result : Result T E) (a b : Meaning) → n ≡ length bytes → Passes a b → DiskWritten at bytes result a b → Throughout (Came end P P a) a b
  writes_come bytes result a b size time wrote =
      goes_on a a b (Came end P P a) (started a (Came end P P a) (came_here end P a)) time
      (λ t p from to left. let came = wrote.inside t p from to left in step a came.0 p (came_here end P a came.0 came.1) (subst (λ (k : ℕ). DiskStep (Torn at k) came.0 p) (sym size) came.2))
      (λ p left. let came = wrote.ended p left in step a came.0 p (came_here end P a came.0 came.1) (subst (λ (k : ℕ). DiskStep (Torn at k) came.0 p) (sym size) came.2))

-- once a sync has succeeded, each pair comes from what was read before the write
pub synced_come : {T E U F : Type 0} (end : ℕ) (A B : List ℕ → List ℕ → Type 0) (at : ℕ) (bytes : List ℕ) (first : Result T E) (second : Result U F) (a b c : Meaning)
    → a.leaves a.clock a.held → ((p : Pair) → c.leaves c.clock p → (p.region ≡ c.held.region) ⊎ IsClosed p.region) → DiskWritten at bytes first a b → DiskSynced second b c
    → ((p : Pair) → c.leaves c.clock p → p.disk ≡ b.held.disk) → ((front : List ℕ) → end ≡ length front → A front a.held.disk → B front b.held.disk) → EachNow (Came end A B a) c
synced_come end A B at bytes first second a b c stands keeps wrote synced durable makes = λ p left. record {
  from = a.held;
  was = stands;
  region = elim (keeps p left) [
    | inl same ↦ inl (same ∙ ap (λ (i : Pair). i.region) synced.held ∙ wrote.region)
    | inr shut ↦ inr shut
  ];
  disk = λ front is had. subst (B front) (sym (durable p left)) (makes front is had);
}

pub came_map : (end : ℕ) (A B C : List ℕ → List ℕ → Type 0) (a : Meaning) → ((front disk : List ℕ) → B front disk → C front disk) → (p : Pair) → Came end A B a p → Came end A C a p
came_map end A B C a f p came = record { from = came.from; was = came.was; region = came.region; disk = λ front at had. f front p.disk (came.disk front at had) }

pub owing_either : (laid : Bool) (owed front disk : List ℕ) → OwingAfter laid owed front disk → EitherWay owed front disk
owing_either true owed front disk had = inr had
owing_either false owed front disk had = inl had
