-- What a call knows between its steps.
use Rattle.std.proofs.Common.{◌≡◌, ◌≢◌, inl, inr, ℕ, ◌+◌, ◌<◌, ◌≤◌, ◌^◌, List, [], ◌∷◌, ◌++◌, length, refl, sym, ap, ◌∙◌, subst, ⊎_elim, Option, Some, None, arith, max}
use mathlib.Core.List.{append-nil}
use Rattle.std.specs.Option.{IsSome}
use Rattle.atomic_table.specs.Table.{Me, rest}
use Rattle.atomic_table.specs.Seated.{TableId}
use Rattle.turnstile.specs.Ids.{run_of, LongerOf}
use Rattle.turnstile.specs.declared.object.TurnEntry.{TurnEntry}
use Rattle.turnstile.specs.declared.view.View.{View}
use Rattle.turnstile.specs.declared.view.Stage.TheVariants.{Rests, Waits}
use Rattle.turnstile.specs.Views.{staged, view_joined}
use Rattle.turnstile.specs.Plays.{Comes, Met}
use Rattle.turnstile.specs.Objects.{Ready}
use Rattle.turnstile.specs.Seats.{SeatStanding, MayCall, HasRoom, AreIds, given, Joined, LearnsOthers, SeesAlso}
use Rattle.turnstile.specs.Places.{standing, Rested, Entered}
use Rattle.turnstile.proofs.Prefixes.{prefix_trans, prefix_whole, prefix_length}

abbrev first_value : {O : Type 0} → List (ℕ × Option O) → Option O
first_value [] = None
first_value (p ∷ ps) = p.1

pub found_some : {O : Type 0} (x : Option O) (y : O) (cs ds : List (ℕ × Option O)) → cs ≡ (0, Some y) ∷ [] → cs ≡ (0, x) ∷ ds → x ≡ Some y
found_some x y cs ds e f = sym (ap first_value f) ∙ ap first_value e

pub is_some : {O : Type 0} (x : Option O) (y : O) → x ≡ Some y → IsSome x
is_some x y e = subst IsSome (sym e) refl

-- the longer of xs and of the longer of both is that too
pub longer_again : {A : Type 0} (xs ys zs ws : List A) → LongerOf ys xs zs → LongerOf xs zs ws → (LongerOf xs ys ws) × (ws ≡ zs)
longer_again xs ys zs ws l m =
    let same : ws ≡ zs = ⊎_elim (λ (e : ws ≡ xs). let n : length ws ≡ length xs = ap length e in let a = prefix_length xs zs l.theirs in sym (prefix_whole zs ws m.theirs (omega arith))) (λ (e : ws ≡ zs). e) m.one in (
      record {
        own = m.own;
        theirs = prefix_trans ys zs ws l.own m.theirs;
        one = ⊎_elim (λ (e : zs ≡ ys). inr (same ∙ e)) (λ (e : zs ≡ xs). inl (same ∙ e)) l.one;
      },
      same,
    )

module _ {B C R : Type 0} where
  -- a seat that was given no id leaves only what it had seen
  pub told_of : (s u note s' : SeatStanding B C R) → note ≡ given 0 u → Joined s note s' → SeesAlso s u s'
  told_of s u note s' is j = let a : s.room + note.room ≡ s.room = (let z : note.room ≡ 0 = ap (λ x. x.room) is in omega arith) in
      let b : s.taken ++ (run_of note.id note.share ++ note.taken) ≡ s.taken = ap (λ x. s.taken ++ (run_of x.id x.share ++ x.taken)) is ∙ append-nil s.taken in record {
        seen = j.seen;
        view = j.view ∙ (λ i. record s { seen = j.seen; taken = b i; room = a i });
        longer = subst (λ l. LongerOf s.seen l j.seen) (ap (λ x. x.seen) is) j.longer;
      }

  -- two seats of which each was told what the other had seen
  pub met_both : (a b a' b' : SeatStanding B C R) → SeesAlso b a b' → SeesAlso a b' a' → SeesAlso a b a' × (a'.seen ≡ b'.seen)
  met_both a b a' b' t u =
      let is : b'.seen ≡ t.seen = ap (λ x. x.seen) t.view in
      let is' : a'.seen ≡ u.seen = ap (λ x. x.seen) u.view in
      let both = longer_again a.seen b.seen t.seen u.seen t.longer (subst (λ l. LongerOf a.seen l u.seen) is u.longer) in (
        record {
          seen = u.seen;
          view = u.view;
          longer = both.0;
        },
        is' ∙ (both.1 ∙ sym is),
      )

module _ {B C R O : Type 0} (legal : B → List (TurnEntry C R) → Type 0) (stands : B → List (TurnEntry C R) → O → Type 0) where
  abbrev M : Type 0
  M = Me (Option O) (View B C R)

  pub room_of_caller : (at : TableId) (v : View B C R) → HasRoom (standing at v) → (v.id ≢ 0 → length v.seen < 2 ^ 62 → v.share ≤ v.room) → v.share ≤ v.room
  room_of_caller at v h f = ⊎_elim (λ le. le) (λ t. f t.0 t.1) h

  pub entered : (b : B) (m m₁ m₂ m₃ : M) (t : ℕ) (x : Option O) (y : O) → m₁ ≡ (staged m.0 (Waits t), m.1) → Comes legal stands b m₁ t m₂ → m₂.1 ≡ (0, x) ∷ rest m₂.1 → m₃ ≡ (m₂.0, (0, None) ∷ rest m₂.1) → x ≡ Some y
      → m.0.share ≤ m.0.room → Entered legal stands b m.0 t y m₃
  entered b m m₁ m₂ m₃ t x y drew come held now is room =
      let come' : Comes legal stands b (staged m.0 (Waits t), m.1) t m₂ = subst (λ (z : M). Comes legal stands b z t m₂) drew come in
      let same : come'.value ≡ y = cc (found_some x come'.value m₂.1 (rest m₂.1) come'.slot held, is) in record {
        between = come'.between;
        view = ap (λ (z : M). z.0) now ∙ come'.seen;
        slot = ap (λ (z : M). z.1) now ∙ ap (λ cs. (0, None) ∷ rest cs) come'.slot;
        others = come'.others;
        count = come'.count;
        is_legal = come'.is_legal;
        stands_for = subst (stands b (m.0.seen ++ come'.between)) same come'.stands_for;
        room = room;
      }

  pub ready : (may : B → List (TurnEntry C R) → ℕ → C → Type 0) (b : B) (at : TableId) (v : View B C R) (t : ℕ) (o : O) (m : M) (call : C) → MayCall legal may b (standing at v) call → (e : Entered legal stands b v t o m) → t < 2 ^ 63 → Ready legal stands may b (v.seen ++ e.between) v.id o call (t + 1)
  ready may b at v t o m call may_call e small = record {
    is_legal = e.is_legal;
    value = e.stands_for;
    allowed = may_call e.between e.others e.is_legal;
    count = ap (λ n. n + 1) e.count;
    small = omega (arith, small);
  }

  pub joined_of : (now was theirs : TableId) (v u : View B C R) (m m' : M) → now ≡ was → m.0 ≡ view_joined v u → Met m m' → Joined (standing was v) (standing theirs u) (standing now m'.0)
  joined_of now was theirs v u m m' same is met =
      let met' : Met {O = O} (view_joined v u, m.1) m' = subst (λ (z : View B C R). Met {O = O} (z, m.1) m') is met in record {
        seen = met'.seen;
        view = λ i. standing (same i) (met'.view i);
        longer = met'.longer;
      }

  pub learned_of : (at : TableId) (v u : View B C R) (m m' : M) → m.0 ≡ view_joined v u → Met m m' → LearnsOthers (standing at v) (standing at m'.0)
  learned_of at v u m m' is met =
      let met' : Met {O = O} (view_joined v u, m.1) m' = subst (λ (z : View B C R). Met {O = O} (z, m.1) m') is met in
      λ more whole. met'.others more (sym (ap (λ (x : View B C R). x.seen) met'.view) ∙ whole)

  pub ids_after : (m m' : M) → Met m m' → AreIds m'.0.seen
  ids_after m m' met = subst (λ (v : View B C R). AreIds v.seen) (sym met.view) met.ids

  pub rested_after : (v u : View B C R) (m m' : M) → v.stage ≡ Rests → m ≡ (view_joined v u, []) → Met m m' → Rested m'
  rested_after v u m m' rests is met = record {
    stage = ap (λ x. x.stage) met.view ∙ (ap (λ (x : M). x.0.stage) is ∙ rests);
    other = ap (λ x. x.other) met.view;
    slots = met.slots ∙ ap (λ (x : M). x.1) is;
  }
