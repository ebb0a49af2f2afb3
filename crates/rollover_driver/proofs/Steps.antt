-- Calls to a fleet whose events were told, one behind another.
use Rattle.std.proofs.Common.{◌≡◌, ℕ, ◌+◌, ◌<◌, Bool, false, ◌||◌, List, [], ◌∷◌, ◌++◌, length, get_or, take, map, refl, sym, ap, ◌∙◌, subst, append_assoc, append-nil}
use Rattle.std.proofs.lemmas.List.{take_more, map-append}
use Rattle.rollover_watch.specs.declared.event.Drained.{Drained}
use Rattle.rollover_watch.specs.declared.event.Started.{Started}
use Rattle.rollover_watch.specs.declared.event.RollEvent.{RollEvent}
use Rattle.rollover_watch.specs.declared.event.RollEvent.TheVariants as event
use Rattle.rollover_watch.specs.Watches.{Held, AreTold, is_halt_asked}
use Rattle.rollover_driver.specs.Calls.{FleetCall, Drains, Starts, event_of, AreOfEach, AreOfWave}
use Rattle.rollover_driver.specs.Drives.{AreAllTold}
use Rattle.rollover_driver.specs.Done.{HasDone, wave_begins}
use Rattle.rollover_driver.proofs.Told.{or_false, told_both, each_both}

-- one event that was told
told_one : (first : RollEvent) (old new : List Held) (asked : Bool) → AreTold first old new → asked ≡ is_halt_asked first old → AreAllTold (first ∷ []) old asked new
told_one first old new asked told halt = (new, false, told, (refl, refl), halt ∙ sym (or_false (is_halt_asked first old)))

module _ {F : Type 0} (has : F → ℕ → Type 0) (stands : F → List FleetCall → F → Type 0) where
  -- one step, and then another
  pub done_then : (P Q R : List FleetCall → Type 0) (first : List RollEvent) (f g h : F) (old mid new : List Held) (x y : Bool)
      → HasDone has stands P first f old x g mid → HasDone has stands Q [] g mid y h new → ((cs ds : List FleetCall) → P cs → Q ds → R (cs ++ ds))
      → HasDone has stands R first f old (x || y) h new
  done_then P Q R first f g h old mid new x y a b joins = record {
    same = λ leaf had. b.same leaf (a.same leaf had);
    calls = a.calls ++ b.calls;
    are = joins a.calls b.calls a.are b.are;
    goes = λ begun before stood. subst (λ (cs : List FleetCall). stands begun cs h) (append_assoc before a.calls b.calls) (b.goes begun (before ++ a.calls) (a.goes begun before stood));
    told = subst (λ (es : List RollEvent). AreAllTold es old (x || y) new)
        (append_assoc first (map event_of a.calls) (map event_of b.calls) ∙ ap (λ (es : List RollEvent). first ++ es) (sym (map-append event_of a.calls b.calls)))
        (told_both (first ++ map event_of a.calls) (map event_of b.calls) old mid new x y a.told b.told);
  }

  pub one_drained : (f g : F) (leaf : ℕ) (got : Drained) (old new : List Held) (asked : Bool) → ((other : ℕ) → has f other → has g other)
      → ((begun : F) (before : List FleetCall) → stands begun before f → stands begun (before ++ Drains leaf got ∷ []) g)
      → AreTold (event.Drain leaf got) old new → asked ≡ is_halt_asked (event.Drain leaf got) old → HasDone has stands (AreOfEach Drains (leaf ∷ [])) [] f old asked g new
  one_drained f g leaf got old new asked same goes told halt =
      record { same = same; calls = Drains leaf got ∷ []; are = ((got, refl), tt); goes = goes; told = told_one (event.Drain leaf got) old new asked told halt }

  pub one_started : (f g : F) (leaf : ℕ) (got : Started) (old new : List Held) (asked : Bool) → ((other : ℕ) → has f other → has g other)
      → ((begun : F) (before : List FleetCall) → stands begun before f → stands begun (before ++ Starts leaf got ∷ []) g)
      → AreTold (event.Start leaf got) old new → asked ≡ is_halt_asked (event.Start leaf got) old → HasDone has stands (AreOfEach Starts (leaf ∷ [])) [] f old asked g new
  one_started f g leaf got old new asked same goes told halt =
      record { same = same; calls = Starts leaf got ∷ []; are = ((got, refl), tt); goes = goes; told = told_one (event.Start leaf got) old new asked told halt }

  -- a leaf more of a list
  pub each_more : {A : Type 0} (kind : ℕ → A → FleetCall) (leaves : List ℕ) (i leaf d : ℕ) (f g h : F) (old mid new : List Held) (x y : Bool)
      → HasDone has stands (AreOfEach kind (take i leaves)) [] f old x g mid → HasDone has stands (AreOfEach kind (leaf ∷ [])) [] g mid y h new → i < length leaves → leaf ≡ get_or leaves i d
      → HasDone has stands (AreOfEach kind (take (i + 1) leaves)) [] f old (x || y) h new
  each_more kind leaves i leaf d f g h old mid new x y a b inside is =
      done_then (AreOfEach kind (take i leaves)) (AreOfEach kind (leaf ∷ [])) (AreOfEach kind (take (i + 1) leaves)) [] f g h old mid new x y a b
      (λ cs ds front back. subst (λ (ls : List ℕ). AreOfEach kind ls (cs ++ ds)) (ap (λ (l : ℕ). take i leaves ++ l ∷ []) is ∙ sym (take_more leaves i d inside))
      (each_both kind (take i leaves) (leaf ∷ []) cs ds front back))

  -- a wave was told, its leaves were drained, and then started
  pub wave_done : {number total : ℕ} {wave leaves : List ℕ} {f g h : F} {old first mid new : List Held} {x y z : Bool} → HasDone has stands (AreOfEach Starts leaves) [] g mid z h new
      → HasDone has stands (AreOfEach Drains leaves) [] f first y g mid → AreTold (event.Wave number total) old first → x ≡ is_halt_asked (event.Wave number total) old → leaves ≡ wave
      → HasDone has stands (AreOfWave wave) (wave_begins number total) f old ((x || y) || z) h new
  wave_done {number = number} {total = total} {wave = wave} {leaves = leaves} {f = f} {g = g} {h = h} {old = old} {first = first} {mid = mid} {new = new} {x = x} {y = y} {z = z} started drained told halt is =
      done_then (AreOfEach Drains leaves) (AreOfEach Starts leaves) (AreOfWave wave) (event.Wave number total ∷ []) f g h old mid new (x || y) z
      (done_then (λ cs. cs ≡ []) (AreOfEach Drains leaves) (AreOfEach Drains leaves) (event.Wave number total ∷ []) f f g old first mid x y
      (record {
        same = λ leaf had. had;
        calls = [];
        are = refl;
        goes = λ begun before stood. subst (λ (cs : List FleetCall). stands begun cs f) (sym (append-nil before)) stood;
        told = told_one (event.Wave number total) old first x told halt;
      })
      drained
      (λ cs ds empty are. subst (λ (es : List FleetCall). AreOfEach Drains leaves (es ++ ds)) (sym empty) are))
      started
      (λ cs ds front back. (cs, ds, subst (λ (ls : List ℕ). AreOfEach Drains ls cs) is front, subst (λ (ls : List ℕ). AreOfEach Starts ls ds) is back, refl))
