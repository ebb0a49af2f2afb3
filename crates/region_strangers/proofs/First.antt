-- Where the first stranger stands.
use Rattle.std.proofs.Common.{◌≡◌, ℕ, ◌<◌, Bool, true, false, cond, ltb, List, [], ◌∷◌, length, map, find, position, slice_get, Option, Some, None, unwrap_or, option_map, refl, sym, ap, ◌∙◌, arith, ltb-true, ltb-false}
use Rattle.std.specs.List.{position_or_len}
use Rattle.std.proofs.lemmas.List.Folds.{find_at}
use Rattle.std.proofs.lemmas.Option.{slice_get_past}
use Rattle.region_layout.specs.declared.directory.TablePlaces.{TablePlaces}
use Rattle.region_strangers.specs.Strangers.{is_stranger, stranger_of}

abbrev pub names_of : List TablePlaces → List (List ℕ)
names_of tables = map (λ (t : TablePlaces). t.name) tables

named_by : (t : TablePlaces) (found : Option TablePlaces) (b : Bool) → cond b (Some t.name) (option_map (λ (u : TablePlaces). u.name) found) ≡ option_map (λ (u : TablePlaces). u.name) (cond b (Some t) found)
named_by t found true = refl
named_by t found false = refl

stranger_is : (names : List (List ℕ)) (tables : List TablePlaces) → stranger_of names (names_of tables) ≡ option_map (λ (t : TablePlaces). t.name) (find (is_stranger names) tables)
stranger_is names [] = refl
stranger_is names (t ∷ tables) =
    ap (λ (o : Option (List ℕ)). cond (is_stranger names t) (Some t.name) o) (stranger_is names tables) ∙ named_by t (find (is_stranger names) tables) (is_stranger names t)

pub place_by : (short : Bool) (n i : ℕ) → cond short (Some n) None ≡ Some i → (short ≡ true) × (i ≡ n)
place_by true n i e = (refl, ap (λ (o : Option ℕ). unwrap_or o 0) (sym e))
place_by false n i e = absurd cc

pub no_place_by : (short : Bool) (n : ℕ) → cond short (Some n) None ≡ None → short ≡ false
no_place_by true n e = absurd cc
no_place_by false n e = refl

-- it stands in that place
pub stranger_at : (names : List (List ℕ)) (tables : List TablePlaces) (i : ℕ) → position (is_stranger names) tables ≡ Some i
    → (i < length tables) × (stranger_of names (names_of tables) ≡ option_map (λ (t : TablePlaces). t.name) (slice_get tables i))
stranger_at names tables i e =
    let p = is_stranger names in
    let at = place_by (ltb (position_or_len p tables) (length tables)) (position_or_len p tables) i e in
    let within = ltb-true (position_or_len p tables) (length tables) at.0 in
    (omega (arith, within, at.1), stranger_is names tables ∙ ap (option_map (λ (t : TablePlaces). t.name)) (find_at p tables ∙ ap (slice_get tables) (sym at.1)))

-- it stands nowhere
pub no_stranger : (names : List (List ℕ)) (tables : List TablePlaces) → position (is_stranger names) tables ≡ None → stranger_of names (names_of tables) ≡ None
no_stranger names tables e =
    let p = is_stranger names in
    let past = ltb-false (position_or_len p tables) (length tables) (no_place_by (ltb (position_or_len p tables) (length tables)) (position_or_len p tables) e) in
    stranger_is names tables ∙ ap (option_map (λ (t : TablePlaces). t.name)) (find_at p tables ∙ slice_get_past tables (position_or_len p tables) past)
