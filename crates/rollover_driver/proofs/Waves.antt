-- The waves that were begun, and what those behind them come to.
use Rattle.std.proofs.Common.{◌≡◌, ℕ, ◌+◌, ◌<◌, ◌≤◌, Bool, true, false, List, [], ◌∷◌, ◌++◌, length, get_or, drop, refl, sym, ap, ◌∙◌, subst, append_assoc, append-nil}
use Rattle.std.specs.List.{AllByRecursion}
use Rattle.std.proofs.lemmas.List.{drop_all, drop_more}
use Rattle.rollover_watch.specs.declared.event.RollEvent.TheVariants as event
use Rattle.rollover_watch.specs.Watches.{Held, AreTold}
use Rattle.rollover_driver.specs.declared.driving.Rolled.{Rolled}
use Rattle.rollover_driver.specs.Calls.{FleetCall, AreOfWave}
use Rattle.rollover_driver.specs.Drives.{WavesGo, Drives}
use Rattle.rollover_driver.specs.Done.{HasDone, HasRolled, wave_begins}
use Rattle.rollover_driver.proofs.Told.{all_at, all_still}

-- so many waves were begun; whatever those behind them come to completes the rollover
pub record IsRolling {F : Type 0} (has : F → ℕ → Type 0) (stands : F → List FleetCall → F → Type 0) (waves : List (List ℕ)) (f : F) (old : List Held) (begun : ℕ) (asked : Bool)
    (g : F) (now : List Held) : Type 0 where
  pub same : (leaf : ℕ) → has f leaf → has g leaf
  pub calls : List FleetCall
  pub goes : (first : F) (before : List FleetCall) → stands first before f → stands first (before ++ calls) g
  pub further : (rest : List FleetCall) (rolled : Rolled) (new : List Held) → WavesGo (length waves) begun (drop begun waves) asked now rest rolled new
      → WavesGo (length waves) 0 waves false old (calls ++ rest) rolled new

abbrev made : ℕ → Bool → Rolled
made begun halted = record { waves = begun; halted = halted }

-- what was rolled, said by the number of the wave that is next
pub rolled_at : {begun i : ℕ} (halted : Bool) → begun ≡ i → made begun halted ≡ made i halted
rolled_at halted same = ap (λ (n : ℕ). made n halted) same

module _ {F : Type 0} (has : F → ℕ → Type 0) (stands : F → List FleetCall → F → Type 0) (waves : List (List ℕ)) (f : F) (old : List Held) where
  pub rolling_none : IsRolling has stands waves f old 0 false f old
  rolling_none = record {
    same = λ leaf had. had;
    calls = [];
    goes = λ first before stood. subst (λ (cs : List FleetCall). stands first cs f) (sym (append-nil before)) stood;
    further = λ rest rolled new goes. goes;
  }

  -- the wave at a place, and those behind it
  next_at : (i : ℕ) (wave : List ℕ) → i < length waves → wave ≡ get_or waves i wave → drop i waves ≡ wave ∷ drop (i + 1) waves
  next_at i wave inside is = drop_more waves i wave inside ∙ ap (λ (w : List ℕ). w ∷ drop (i + 1) waves) (sym is)

  -- a wave more
  pub rolling_more : (i : ℕ) (wave : List ℕ) (asked later : Bool) (g h : F) (mid now : List Held) → IsRolling has stands waves f old i asked g mid → asked ≡ false → i < length waves
      → wave ≡ get_or waves i wave → HasDone has stands (AreOfWave wave) (event.Wave (i + 1) (length waves) ∷ []) g mid later h now → IsRolling has stands waves f old (i + 1) later h now
  rolling_more i wave asked later g h mid now so_far none inside is done = record {
    same = λ leaf had. done.same leaf (so_far.same leaf had);
    calls = so_far.calls ++ done.calls;
    goes = λ first before stood. subst (λ (cs : List FleetCall). stands first cs h) (append_assoc before so_far.calls done.calls) (done.goes first (before ++ so_far.calls) (so_far.goes first before stood));
    further = λ rest rolled new goes.
        subst (λ (cs : List FleetCall). WavesGo (length waves) 0 waves false old cs rolled new) (sym (append_assoc so_far.calls done.calls rest))
        (so_far.further (done.calls ++ rest) rolled new
        (subst (λ (ws : List (List ℕ)). WavesGo (length waves) i ws asked mid (done.calls ++ rest) rolled new) (sym (next_at i wave inside is))
        (subst (λ (b : Bool). WavesGo (length waves) i (wave ∷ drop (i + 1) waves) b mid (done.calls ++ rest) rolled new) (sym none)
        (done.calls, rest, later, now, done.are, refl, done.told, goes))));
  }

  -- all waves were begun
  pub rolling_ends : (i : ℕ) (asked : Bool) (g : F) (now : List Held) (rolled : Rolled) → IsRolling has stands waves f old i asked g now → length waves ≤ i
      → rolled ≡ record { waves = i; halted = false } → HasRolled has stands waves f old rolled g now
  rolling_ends i asked g now rolled so_far end is = record {
    same = so_far.same;
    calls = so_far.calls;
    goes = so_far.goes;
    rolls = subst (λ (cs : List FleetCall). WavesGo (length waves) 0 waves false old cs rolled now) (append-nil so_far.calls)
        (so_far.further [] rolled now
        (subst (λ (ws : List (List ℕ)). WavesGo (length waves) i ws asked now [] rolled now) (sym (drop_all i waves end)) (refl, is, refl)));
  }

  -- a wave is left out
  pub rolling_halts : (i : ℕ) (d : List ℕ) (asked : Bool) (g : F) (now : List Held) (rolled : Rolled) → IsRolling has stands waves f old i asked g now → asked ≡ true → i < length waves
      → rolled ≡ record { waves = i; halted = true } → HasRolled has stands waves f old rolled g now
  rolling_halts i d asked g now rolled so_far halt inside is = record {
    same = so_far.same;
    calls = so_far.calls;
    goes = so_far.goes;
    rolls = subst (λ (cs : List FleetCall). WavesGo (length waves) 0 waves false old cs rolled now) (append-nil so_far.calls)
        (so_far.further [] rolled now
        (subst (λ (ws : List (List ℕ)). WavesGo (length waves) i ws asked now [] rolled now) (sym (drop_more waves i d inside))
        (subst (λ (b : Bool). WavesGo (length waves) i (get_or waves i d ∷ drop (i + 1) waves) b now [] rolled now) (sym halt) (refl, is, refl))));
  }

  -- a wave that was told by the count of those begun
  pub same_number : {begun i total : ℕ} (wave : List ℕ) {g h : F} {mid now : List Held} {asked : Bool} → begun ≡ i → total ≡ length waves
      → HasDone has stands (AreOfWave wave) (wave_begins (begun + 1) total) g mid asked h now → HasDone has stands (AreOfWave wave) (event.Wave (i + 1) (length waves) ∷ []) g mid asked h now
  same_number {begun = begun} wave {g = g} {h = h} {mid = mid} {now = now} {asked = asked} same all done =
      subst (λ (k : ℕ). HasDone has stands (AreOfWave wave) (event.Wave (k + 1) (length waves) ∷ []) g mid asked h now) same
      (subst (λ (k : ℕ). HasDone has stands (AreOfWave wave) (event.Wave (begun + 1) k ∷ []) g mid asked h now) all done)

  -- the leaves of a wave are had
  pub are_had : (i : ℕ) (wave : List ℕ) (g : F) → AllByRecursion (λ w. AllByRecursion (λ leaf. has f leaf) w) waves → ((leaf : ℕ) → has f leaf → has g leaf)
      → i < length waves → wave ≡ get_or waves i wave → AllByRecursion (λ leaf. has g leaf) wave
  are_had i wave g all same inside is =
      all_still has f g wave same (subst (λ (w : List ℕ). AllByRecursion (λ leaf. has f leaf) w) (sym is) (all_at (λ w. AllByRecursion (λ leaf. has f leaf) w) waves i wave all inside))

  -- and at last it is told that it ended
  pub drive_ends : (same_waves : List (List ℕ)) (g : F) (between new : List Held) (rolled : Rolled) → HasRolled has stands waves f old rolled g between → waves ≡ same_waves
      → ((fleet : F) → stands fleet [] fleet) → AreTold (event.Ended rolled.waves rolled.halted) between new
      → (calls : List FleetCall) × stands f calls g × Drives same_waves old calls rolled new
  drive_ends same_waves g between new rolled done is stays told = (
    done.calls,
    done.goes f [] (stays f),
    record {
      between = between;
      goes = subst (λ (ws : List (List ℕ)). WavesGo (length ws) 0 ws false old done.calls rolled between) is done.rolls;
      ended = told;
    },
  )
