-- Which tables of a directory the leaf has.
use Rattle.std.proofs.Common.{◌≡◌, ℕ, suc, Bool, true, false, ◌||◌, cond, not, List, [], ◌∷◌, Option, Some, None, refl, sym, subst, arith}
use Rattle.std.specs.Prelude.{Contains}
use Rattle.std.specs.List.{AllByRecursion, list_any}
use Rattle.std.specs.Str.{bytes_eq}
use Rattle.std.proofs.lemmas.Slice.Eq.{bytes_eq-Decides}
use Rattle.region_layout.specs.declared.directory.TablePlaces.{TablePlaces}
use Rattle.region_layout.specs.Names.{IsName}
use Rattle.region_layout.specs.Directory.{IsTablePlaces}
use Rattle.region_strangers.specs.Strangers.{is_stranger, stranger_of}
use Rattle.region_strangers.proofs.First.{names_of}

-- the first stranger's name is one
pub stranger_named : (names : List (List ℕ)) (tables : List TablePlaces) (name : List ℕ) → AllByRecursion IsTablePlaces tables → stranger_of names (names_of tables) ≡ Some name → IsName name
stranger_named names [] name each e = absurd cc
stranger_named names (t ∷ tables) name each e = by (is_stranger names t) e (stranger_named names tables name each.1)
  where
    by : (b : Bool) → cond b (Some t.name) (stranger_of names (names_of tables)) ≡ Some name → (stranger_of names (names_of tables) ≡ Some name → IsName name) → IsName name
    by true own later = let same : t.name ≡ name = cc in subst IsName same each.0.name
    by false own later = later own

-- ---- where there is none

among_by : (names : List (List ℕ)) (name other : List ℕ) (b : Bool) → bytes_eq name other ≡ b → (b || list_any (bytes_eq name) names) ≡ true → (list_any (bytes_eq name) names ≡ true → Contains names name) → Contains (other ∷ names) name
among_by names name other true same e others = (0, omega arith, sym ((bytes_eq-Decides name other).0 same))
among_by names name other false same e others = let rest = others e in (suc rest.0, omega (arith, rest.1), rest.2)

among : (names : List (List ℕ)) (name : List ℕ) → list_any (bytes_eq name) names ≡ true → Contains names name
among [] name e = absurd cc
among (other ∷ names) name e = among_by names name other (bytes_eq name other) refl e (among names name)

none_by : {X : Type 0} (b : Bool) (x : X) (found : Option X) → cond (not b) (Some x) found ≡ None → (b ≡ true) × (found ≡ None)
none_by true x found e = (refl, e)
none_by false x found e = absurd cc

-- each table has one of the names
pub all_among : (names : List (List ℕ)) (tables : List TablePlaces) → stranger_of names (names_of tables) ≡ None → AllByRecursion (λ (t : TablePlaces). Contains names t.name) tables
all_among names [] e = tt
all_among names (t ∷ tables) e =
    let here = none_by (list_any (bytes_eq t.name) names) t.name (stranger_of names (names_of tables)) e in
    (among names t.name here.0, all_among names tables here.1)
