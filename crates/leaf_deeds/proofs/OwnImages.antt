-- An image of a leaf's tables names no stranger.
use Rattle.std.proofs.Common.{◌≡◌, ◌⊎◌, inl, inr, ◌∙◌, ℕ, Bool, true, false, not, List, [], ◌∷◌, ◌++◌, map, Option, Some, None, refl, sym, ap, subst, cond, append_assoc}
use Rattle.std.specs.Prelude.{bytes_eq}
use Rattle.std.specs.List.{list_any}
use Rattle.std.proofs.lemmas.Bool.{or_left, or_right}
use Rattle.std.proofs.lemmas.Slice.Eq.{bytes_eq-Decides}
use Rattle.region_layout.specs.declared.drained.DrainTable.{DrainTable}
use Rattle.region_layout.specs.Drained.{images_of}
use Rattle.region_layout.specs.Images.{TableImage, image_names}
use Rattle.berth_face.specs.Berth.{IsClosed}
use Rattle.region_head.proofs.Heads.{closed_head}
use Rattle.region_layout.specs.declared.directory.TablePlaces.{TablePlaces}
use Rattle.region_layout.specs.Region.{IsAdoptable, image_of_parts, parts_in}
use Rattle.region_layout.proofs.Images.{same_directory}
use Rattle.adopt.specs.Adopting.{HasNoStranger}
use Rattle.region_strangers.specs.Strangers.{stranger_of}

-- ---- images of tables with these names

among : (before : List (List ℕ)) (name : List ℕ) (after : List (List ℕ)) → list_any (bytes_eq name) (before ++ name ∷ after) ≡ true
among [] name after = or_left (bytes_eq name name) (list_any (bytes_eq name) after) ((bytes_eq-Decides name name).1 refl)
among (n ∷ ns) name after = or_right (bytes_eq name n) (list_any (bytes_eq name) (ns ++ name ∷ after)) (among ns name after)

is_among : (names before : List (List ℕ)) (name : List ℕ) (after : List (List ℕ)) → names ≡ before ++ name ∷ after → list_any (bytes_eq name) names ≡ true
is_among names before name after is = subst (λ (ns : List (List ℕ)). list_any (bytes_eq name) ns ≡ true) (sym is) (among before name after)

known : (b : Bool) (name : List ℕ) (others : Option (List ℕ)) → b ≡ true → cond (not b) (Some name) others ≡ others
known true name others e = refl
known false name others e = absurd cc

-- of a list's last names none is a stranger to the list
none_strange : (names before : List (List ℕ)) (tables : List DrainTable) → names ≡ before ++ map (λ (t : DrainTable). t.name) tables → stranger_of names (image_names (images_of tables)) ≡ None
none_strange names before [] is = refl
none_strange names before (t ∷ ts) is =
    known (list_any (bytes_eq t.name) names) t.name (stranger_of names (image_names (images_of ts))) (is_among names before t.name (map (λ (t : DrainTable). t.name) ts) is)
    ∙ none_strange names (before ++ t.name ∷ []) ts (is ∙ sym (append_assoc before (t.name ∷ []) (map (λ (t : DrainTable). t.name) ts)))

-- ---- an adoptable region has just the names of its directory

names_are : (region : List ℕ) (tables : List TablePlaces) → image_names (map (λ (t : TablePlaces). image_of_parts t.name (parts_in region t)) tables) ≡ map (λ (t : TablePlaces). t.name) tables
names_are region [] = refl
names_are region (t ∷ ts) = ap (λ (ns : List (List ℕ)). t.name ∷ ns) (names_are region ts)

none_some : {X : Type 0} (o : Option X) (x : X) → o ≡ None → o ≡ Some x → ⊥
none_some o x a b = cc

image_own : (names : List (List ℕ)) (region : List ℕ) (images : List TableImage) (log_end : ℕ) → IsAdoptable region images log_end → stranger_of names (image_names images) ≡ None → HasNoStranger names region
image_own names region images log_end is none name s =
    let same = same_directory region s.0 is.version s.1 is.is.directory s.3 is.is.has in
    let told : image_names images ≡ map (λ (t : TablePlaces). t.name) s.1.tables =
    ap image_names is.is.tables_are ∙ (names_are region is.is.directory.tables ∙ ap (λ d. map (λ (t : TablePlaces). t.name) d.tables) (sym same)) in
    none_some (stranger_of names (map (λ (t : TablePlaces). t.name) s.1.tables)) name (subst (λ (ns : List (List ℕ)). stranger_of names ns ≡ None) told none) s.4

-- what a copy of a leaf's tables leaves: a closed region, or their image
pub copied_own : (names : List (List ℕ)) (tables : List DrainTable) (image region : List ℕ) (log_end : ℕ) → map (λ (t : DrainTable). t.name) tables ≡ names → IsAdoptable image (images_of tables) log_end
    → IsClosed region ⊎ (region ≡ image) → HasNoStranger names region
copied_own names tables image region log_end named is (inl closed) = λ name s. closed_head region closed s.0 s.3.head
copied_own names tables image region log_end named is (inr whole) =
    subst (λ (r : List ℕ). HasNoStranger names r) (sym whole) (image_own names image (images_of tables) log_end is (none_strange names [] tables (sym named)))
