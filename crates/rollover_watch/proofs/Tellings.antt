-- An event that is told to the watches of a list one by one.
use Rattle.std.proofs.Common.{◌≡◌, ℕ, ◌+◌, ◌≤◌, ◌<◌, suc, Bool, true, false, ◌||◌, cond, List, [], ◌∷◌, ◌++◌, length, get_or, take, drop, map, filter, refl, sym, ap, ◌∙◌, subst, arith}
use Rattle.std.specs.List.{AllZip, list_any, remove}
use Rattle.std.proofs.Math.ListN.{set}
use Rattle.std.proofs.lemmas.List.{append-nil, append_assoc, length-set, length-map, length-append, length-take-le, length-drop, take_more_set, take_all, take_at, drop_all, drop_at, drop_more, drop-set-lt, take-set, map-set, take-map, drop-map}
use Rattle.rollover_watch.specs.declared.event.RollEvent.{RollEvent}
use Rattle.rollover_watch.specs.declared.event.Wish.TheVariants.{Stay, Leave, Halt}
use Rattle.rollover_watch.specs.Watches.{Held, HasHeard, AreTold, is_staying, is_halting}

-- the watches before a place were told; what those behind it come to completes the list
pub record IsTelling (event : RollEvent) (all now : List Held) (place : ℕ) (halted : Bool) : Type 0 where
  pub within : place ≤ length now
  pub left : (further : List Held) → AreTold event (drop place now) further → AreTold event all (take place now ++ further)
  pub halts : list_any (λ (watch : Held). is_halting (watch.wish [] event)) all ≡ (halted || list_any (λ (watch : Held). is_halting (watch.wish [] event)) (drop place now))

pub telling_begins : (event : RollEvent) (all : List Held) → IsTelling event all all 0 false
telling_begins event all = record { within = omega arith; left = λ further h. h; halts = refl }

pub telling_ends : (event : RollEvent) (all now : List Held) (place : ℕ) (halted : Bool) → IsTelling event all now place halted → length now ≤ place
    → AreTold event all now × (halted ≡ list_any (λ (watch : Held). is_halting (watch.wish [] event)) all)
telling_ends event all now place halted t end =
    let none : drop place now ≡ [] = drop_all place now end in
    let last : AreTold event (drop place now) [] = subst (λ ws. AreTold event ws []) (sym none) tt in
    let whole : take place now ++ [] ≡ now = append-nil (take place now) ∙ take_all place now end in
    (subst (λ ws. AreTold event all ws) whole (t.left [] last), sym (t.halts ∙ ap (λ ws. halted || list_any (λ (watch : Held). is_halting (watch.wish [] event)) ws) none ∙ or_false halted))
  where
    or_false : (b : Bool) → (b || false) ≡ b
    or_false true = refl
    or_false false = refl

-- the first watch of a list stays, or leaves
kept : (event : RollEvent) (w : Held) (ws vs : List Held) (v : Held) → is_staying (w.wish [] event) ≡ true → HasHeard event w v → AreTold event ws vs → AreTold event (w ∷ ws) (v ∷ vs)
kept event w ws vs v stay heard rest = subst (λ b. AllZip (HasHeard event) (cond b (w ∷ filter (λ (watch : Held). is_staying (watch.wish [] event)) ws) (filter (λ (watch : Held). is_staying (watch.wish [] event)) ws)) (v ∷ vs)) (sym stay) (heard, rest)

gone : (event : RollEvent) (w : Held) (ws vs : List Held) → is_staying (w.wish [] event) ≡ false → AreTold event ws vs → AreTold event (w ∷ ws) vs
gone event w ws vs leave rest = subst (λ b. AllZip (HasHeard event) (cond b (w ∷ filter (λ (watch : Held). is_staying (watch.wish [] event)) ws) (filter (λ (watch : Held). is_staying (watch.wish [] event)) ws)) vs) (sym leave) rest

-- whether one asked for a halt, among those told and the rest
asked : (halted b : Bool) (rest : Bool) → (halted || (b || rest)) ≡ ((halted || b) || rest)
asked true b rest = refl
asked false b rest = refl

module _ (event : RollEvent) (all now : List Held) (place : ℕ) (halted : Bool) (w v : Held) (t : IsTelling event all now place halted) (inside : place < length now)
    (first : drop place now ≡ w ∷ drop (place + 1) now) where
  ahead : list_any (λ (watch : Held). is_halting (watch.wish [] event)) all ≡ ((halted || is_halting (w.wish [] event)) || list_any (λ (watch : Held). is_halting (watch.wish [] event)) (drop (place + 1) now))
  ahead = t.halts ∙ ap (λ ws. halted || list_any (λ (watch : Held). is_halting (watch.wish [] event)) ws) first ∙ asked halted (is_halting (w.wish [] event)) _

  -- a watch that was told and stays in its place
  told : is_staying (w.wish [] event) ≡ true → HasHeard event w v → IsTelling event all (set now place v) (place + 1) (halted || is_halting (w.wish [] event))
  told stay heard = record {
    within = omega (arith, length-set now place v);
    left = λ further rest.
        let same : drop (place + 1) (set now place v) ≡ drop (place + 1) now = drop-set-lt (place + 1) now place v (omega arith) in
        let behind : AreTold event (drop (place + 1) now) further = subst (λ ws. AreTold event ws further) same rest in
        let here : AreTold event (drop place now) (v ∷ further) =
        subst (λ ws. AreTold event ws (v ∷ further)) (sym first) (kept event w (drop (place + 1) now) further v stay heard behind) in
        let joined : take place now ++ (v ∷ further) ≡ take (place + 1) (set now place v) ++ further =
        sym (ap (λ ws. ws ++ further) (take_more_set now place v inside) ∙ append_assoc (take place now) (v ∷ []) further) in
        subst (λ ws. AreTold event all ws) joined (t.left (v ∷ further) here);
    halts = ahead ∙ ap (λ ws. (halted || is_halting (w.wish [] event)) || list_any (λ (watch : Held). is_halting (watch.wish [] event)) ws) (sym (drop-set-lt (place + 1) now place v (omega arith)));
  }

  pub telling_stays : w.wish [] event ≡ Stay → HasHeard event w v → IsTelling event all (set now place v) (place + 1) halted
  telling_stays wish heard = subst (λ b. IsTelling event all (set now place v) (place + 1) b) (ap (λ x. halted || is_halting x) wish ∙ or_false halted) (told (ap is_staying wish) heard)
    where
      or_false : (b : Bool) → (b || false) ≡ b
      or_false true = refl
      or_false false = refl

  pub telling_halts : w.wish [] event ≡ Halt → HasHeard event w v → IsTelling event all (set now place v) (place + 1) true
  telling_halts wish heard = subst (λ b. IsTelling event all (set now place v) (place + 1) b) (ap (λ x. halted || is_halting x) wish ∙ or_true halted) (told (ap is_staying wish) heard)
    where
      or_true : (b : Bool) → (b || true) ≡ true
      or_true true = refl
      or_true false = refl

  -- a watch that was told and is taken out
  pub telling_leaves : w.wish [] event ≡ Leave → (rest : List Held) → length rest + 1 ≡ length now → take place rest ≡ take place now → drop place rest ≡ drop (place + 1) now
      → IsTelling event all rest place halted
  telling_leaves wish rest fewer before behind = record {
    within = omega arith;
    left = λ further h.
        let here : AreTold event (drop place now) further =
        subst (λ ws. AreTold event ws further) (sym first)
        (gone event w (drop (place + 1) now) further (ap is_staying wish) (subst (λ ws. AreTold event ws further) behind h)) in
        subst (λ ws. AreTold event all (ws ++ further)) (sym before) (t.left further here);
    halts = ahead ∙ ap (λ b. b || list_any (λ (watch : Held). is_halting (watch.wish [] event)) (drop (place + 1) now)) (ap (λ x. halted || is_halting x) wish ∙ or_false halted)
        ∙ ap (λ ws. halted || list_any (λ (watch : Held). is_halting (watch.wish [] event)) ws) (sym behind);
  }
    where
      or_false : (b : Bool) → (b || false) ≡ b
      or_false true = refl
      or_false false = refl

-- the same of any list whose elements mean watches
module _ {X : Type 0} (means : X → Held) (event : RollEvent) (all : List Held) (xs : List X) (place : ℕ) (halted : Bool) (x y : X)
    (t : IsTelling event all (map means xs) place halted) (inside : place < length xs) (read : x ≡ get_or xs place x) where
  within : place < length (map means xs)
  within = omega (arith, length-map xs means)

  first : drop place (map means xs) ≡ means x ∷ drop (place + 1) (map means xs)
  first = drop-map means place xs ∙ ap (map means) (drop_more xs place x inside ∙ ap (λ z. z ∷ drop (place + 1) xs) (sym read)) ∙ ap (λ ws. means x ∷ ws) (sym (drop-map means (place + 1) xs))

  pub stays_here : Stay ≡ (means x).wish [] event → HasHeard event (means x) (means y) → IsTelling event all (map means (set xs place y)) (place + 1) halted
  stays_here wish heard = subst (λ ws. IsTelling event all ws (place + 1) halted) (sym (map-set means xs place y))
      (telling_stays event all (map means xs) place halted (means x) (means y) t within first (sym wish) heard)

  pub halts_here : Halt ≡ (means x).wish [] event → HasHeard event (means x) (means y) → IsTelling event all (map means (set xs place y)) (place + 1) true
  halts_here wish heard = subst (λ ws. IsTelling event all ws (place + 1) true) (sym (map-set means xs place y))
      (telling_halts event all (map means xs) place halted (means x) (means y) t within first (sym wish) heard)

  pub leaves_here : Leave ≡ (means x).wish [] event → (ys : List X) → ys ≡ remove (set xs place y) place → IsTelling event all (map means ys) place halted
  leaves_here wish ys taken =
      let set_is : remove (set xs place y) place ≡ take place xs ++ drop (suc place) xs = ap (λ zs. zs ++ drop (suc place) (set xs place y)) (take-set xs place y) ∙ ap (λ zs. take place xs ++ zs) (drop-set-lt (suc place) xs place y (omega arith)) in
      let ys_is : ys ≡ take place xs ++ drop (suc place) xs = taken ∙ set_is in
      let front : length (take place xs) ≡ place = length-take-le place xs (omega arith) in
      let one_more : suc place ≡ place + 1 = omega arith in
      let next : drop (suc place) xs ≡ drop (place + 1) xs = ap (λ n. drop n xs) one_more in
      let count : length ys + 1 ≡ length xs = omega (arith, ap length ys_is, length-append (take place xs) (drop (suc place) xs), length-drop (suc place) xs) in
      telling_leaves event all (map means xs) place halted (means x) (means y) t within first (sym wish) (map means ys)
      (omega (arith, length-map ys means, length-map xs means))
      (take-map means place ys ∙ ap (map means) (ap (take place) ys_is ∙ take_at (take place xs) (drop (suc place) xs) place front) ∙ sym (take-map means place xs))
      (drop-map means place ys ∙ ap (map means) (ap (drop place) ys_is ∙ drop_at (take place xs) (drop (suc place) xs) place front ∙ next) ∙ sym (drop-map means (place + 1) xs))
