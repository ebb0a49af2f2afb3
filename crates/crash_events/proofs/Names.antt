-- Beside the leaf's own names stand all others that have writes.
use Rattle.std.proofs.Common.{◌≡◌, ℕ, Bool, true, false, List, [], ◌∷◌, ◌++◌, length, take, map, refl, sym, ap, subst, ◌∙◌, arith}
use Rattle.std.specs.Prelude.{◌≢◌, ◌||◌, if◌then◌else◌, bytes_eq}
use Rattle.std.specs.List.{AllByRecursion}
use Rattle.std.proofs.lemmas.List.{length-take, nil_from_length}
use Rattle.std.proofs.lemmas.Slice.Eq.{bytes_eq-Decides}
use Rattle.berth_face.specs.Berth.{Pair, Meaning}
use Rattle.leaf_model.specs.declared.writes.Write.{Write}
use Rattle.row_model.specs.Names.{AreDistinct}
use Rattle.row_records.specs.Records.{LogRecord}
use Rattle.disk_backup.specs.Logs.{writes_of}
use Rattle.crash_moments.specs.Left.{NamedStates, Left}
use Rattle.crash_moments.specs.Base.{IsReady}
use Rattle.crash_events.specs.Machine.{Tracked}
use Rattle.crash_events.specs.Fits.{IsElsewhere}
use Rattle.crash_events.specs.Begins.{begun_tables, LeavesItself, HasNoOther, MachineBegins}
use Rattle.crash_events.proofs.Places.{no}
use Rattle.crash_moments.proofs.Bases.{both}
use Rattle.crash_events.proofs.Beginning.{ButOne, name_of, names_are, but_one}
use Rattle.crash_events.proofs.Ready.{ready_begins}

-- the name stands in the list
abbrev has : List (List ℕ) → List ℕ → Bool
has [] name = false
has (n ∷ ns) name = bytes_eq name n || has ns name

-- those of the second list that do not stand in the first, each once
abbrev further : List (List ℕ) → List (List ℕ) → List (List ℕ)
further seen [] = []
further seen (n ∷ ns) = if has seen n then further seen ns else n ∷ further (seen ++ n ∷ []) ns

-- the name is none of these
abbrev IsNone : List ℕ → List (List ℕ) → Type 0
IsNone name ns = AllByRecursion (λ n. bytes_eq name n ≡ false) ns

or_no : (a b : Bool) → (a || b) ≡ false → (a ≡ false) × (b ≡ false)
or_no true b e = no (sym e)
or_no false b e = (refl, e)

alone : (seen : List (List ℕ)) (n : List ℕ) → AreDistinct seen → has seen n ≡ false → AreDistinct (seen ++ n ∷ [])
alone [] n d e = (tt, tt)
alone (s ∷ seen) n d e =
    let none : (bytes_eq n s ≡ false) × (has seen n ≡ false) = or_no (bytes_eq n s) (has seen n) e in
    (last seen d.0 (λ same. both (bytes_eq n s) none.0 ((bytes_eq-Decides n s).1 same)), alone seen n d.1 none.1)
  where
    last : (ns : List (List ℕ)) → AllByRecursion (λ other. other ≢ s) ns → n ≢ s → AllByRecursion (λ other. other ≢ s) (ns ++ n ∷ [])
    last [] all new = (new, tt)
    last (m ∷ ns) all new = (all.0, last ns all.1 new)

join : (xs : List (List ℕ)) (n : List ℕ) (ys : List (List ℕ)) → (xs ++ n ∷ []) ++ ys ≡ xs ++ n ∷ ys
join [] n ys = refl
join (x ∷ xs) n ys = ap (λ ns. x ∷ ns) (join xs n ys)

end_nil : (xs : List (List ℕ)) → xs ≡ xs ++ []
end_nil [] = refl
end_nil (x ∷ xs) = ap (λ ns. x ∷ ns) (end_nil xs)

further_distinct : (seen ns : List (List ℕ)) → AreDistinct seen → AreDistinct (seen ++ further seen ns)
further_distinct seen [] d = subst AreDistinct (end_nil seen) d
further_distinct seen (n ∷ ns) d = by (has seen n) refl (further_distinct seen ns d) (further_distinct (seen ++ n ∷ []) ns)
  where
    by : (c : Bool) → has seen n ≡ c → AreDistinct (seen ++ further seen ns) → (AreDistinct (seen ++ n ∷ []) → AreDistinct ((seen ++ n ∷ []) ++ further (seen ++ n ∷ []) ns))
        → AreDistinct (seen ++ (if c then further seen ns else n ∷ further (seen ++ n ∷ []) ns))
    by true e there new = there
    by false e there new = subst AreDistinct (join seen n (further (seen ++ n ∷ []) ns)) (new (alone seen n d e))

-- a name that stands in no list is not one of a list that it has
not_had : (name n : List ℕ) (seen : List (List ℕ)) → IsNone name seen → has seen n ≡ true → bytes_eq name n ≡ false
not_had name n [] none e = no e
not_had name n (s ∷ seen) none e = by (bytes_eq n s) refl e (not_had name n seen none.1)
  where
    by : (c : Bool) → bytes_eq n s ≡ c → (c || has seen n) ≡ true → (has seen n ≡ true → bytes_eq name n ≡ false) → bytes_eq name n ≡ false
    by true e had rest = subst (λ m. bytes_eq name m ≡ false) (sym ((bytes_eq-Decides n s).0 e)) none.0
    by false e had rest = rest had

front_none : (name : List ℕ) (xs ys : List (List ℕ)) → IsNone name (xs ++ ys) → IsNone name xs
front_none name [] ys none = tt
front_none name (x ∷ xs) ys none = (none.0, front_none name xs ys none.1)

at_none : (name n : List ℕ) (xs ys : List (List ℕ)) → IsNone name (xs ++ n ∷ ys) → bytes_eq name n ≡ false
at_none name n [] ys none = none.0
at_none name n (x ∷ xs) ys none = at_none name n xs ys none.1

further_none : (name : List ℕ) (seen ns : List (List ℕ)) → IsNone name (seen ++ further seen ns) → IsNone name ns
further_none name seen [] none = tt
further_none name seen (n ∷ ns) none = by (has seen n) refl none (further_none name seen ns) (further_none name (seen ++ n ∷ []) ns)
  where
    by : (c : Bool) → has seen n ≡ c → IsNone name (seen ++ (if c then further seen ns else n ∷ further (seen ++ n ∷ []) ns))
        → (IsNone name (seen ++ further seen ns) → IsNone name ns) → (IsNone name ((seen ++ n ∷ []) ++ further (seen ++ n ∷ []) ns) → IsNone name ns) → IsNone name (n ∷ ns)
    by true e all there new = (not_had name n seen (front_none name seen (further seen ns) all) e, there all)
    by false e all there new =
        (at_none name n seen (further (seen ++ n ∷ []) ns) all, new (subst (IsNone name) (sym (join seen n (further (seen ++ n ∷ []) ns))) all))

-- the names of records
abbrev record_names : List LogRecord → List (List ℕ)
record_names records = map (λ (r : LogRecord). r.name) records

none_written : (name : List ℕ) (records : List LogRecord) → IsNone name (record_names records) → writes_of name records ≡ []
none_written name [] none = refl
none_written name (r ∷ records) none = rw none.0 (none_written name records none.1)

elsewhere : (name : List ℕ) (xs : List Tracked) → IsElsewhere name xs → IsNone name (map name_of xs)
elsewhere name [] far = tt
elsewhere name (x ∷ xs) far = (far.0, elsewhere name xs far.1)

-- such names there are
pub others_found : (reads : ℕ → Bool) (berth : Meaning) (base : NamedStates) (own : List (List ℕ)) → IsReady reads berth base → LeavesItself berth → AreDistinct own
    → (others : List (List ℕ)) × AreDistinct (own ++ others) × HasNoOther base (begun_tables base own others)
others_found reads berth base own ready itself distinct =
    let may : Pair → Type 0 = λ q. berth.leaves berth.clock q in
    let l : Left reads base berth.held = ready.begins.left berth.held itself.stands in
    let but : (but : List ℕ) × ButOne base but = but_one reads may berth.held base ready.begins in
    let names : List (List ℕ) = but.0 ∷ record_names l.sound.0 in
    let others : List (List ℕ) = further own names in (
      others,
      further_distinct own names distinct,
      λ name far.
          let none : IsNone name names = further_none name own names (subst (IsNone name) (names_are base own others) (elsewhere name (begun_tables base own others) far)) in
          let all : (base name).flushed ≡ length (base name).writes = but.1 name (λ same. both (bytes_eq name but.0) none.0 ((bytes_eq-Decides name but.0).1 same)) in
          let front = l.front name in
          let empty : take front.0 (base name).writes ≡ [] = sym front.3 ∙ none_written name l.sound.0 none.1 in
          let short : length (take front.0 (base name).writes) ≡ 0 = ap (λ (ws : List Write). length ws) empty in
          let taken = length-take front.0 (base name).writes in
          nil_from_length (base name).writes (omega (arith, all, short, taken, front.1, front.2)),
    )

-- over a ready berth a leaf with these tables begins
pub leaf_begins : (reads : ℕ → Bool) (berth : Meaning) (base : NamedStates) (own : List (List ℕ)) → IsReady reads berth base → LeavesItself berth → AreDistinct own
    → (others : List (List ℕ)) × AreDistinct (own ++ others) × MachineBegins reads berth base own others
leaf_begins reads berth base own ready itself distinct =
    let found = others_found reads berth base own ready itself distinct in
    (found.0, found.1, ready_begins reads berth base own found.0 ready itself found.1 found.2)
