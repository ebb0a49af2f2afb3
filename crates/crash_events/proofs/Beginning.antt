-- Over a ready berth a leaf begins: its machine is kept, and each pair that a crash may leave fits it.
use Rattle.std.proofs.Common.{◌≡◌, ℕ, ◌≤◌, Bool, true, false, List, [], ◌∷◌, ◌++◌, length, map, refl, sym, ap, subst, ◌∙◌, arith, inl, inr}
use Rattle.std.specs.Prelude.{◌≢◌, bytes_eq}
use Rattle.std.specs.List.{AllByRecursion}
use Rattle.std.proofs.lemmas.Slice.Eq.{bytes_eq-Decides}
use Rattle.berth_face.specs.Berth.{Pair}
use Rattle.leaf_history.specs.History.{HistoryState, base_of}
use Rattle.row_model.specs.Names.{AreDistinct}
use Rattle.crash_moments.specs.Left.{NamedStates}
use Rattle.crash_moments.proofs.Bases.{both, flushed_le}
use Rattle.crash_moments.specs.Base.{IsBaseOf, IsFixed, PairsMayBegin}
use Rattle.crash_events.specs.Machine.{Tracked}
use Rattle.crash_events.specs.Laws.{IsPlain}
use Rattle.crash_events.specs.Begins.{begun_table, begun_tables}
use Rattle.crash_events.proofs.Fresh.{Fresh, IsAll, AtMostOne}

-- a table that is as its base says
abbrev pub IsBegun : NamedStates → Tracked → Type 0
IsBegun base x = (x.state ≡ base x.name) × (x.sure ≡ (base x.name).flushed)

others_begun : (base : NamedStates) (names : List (List ℕ)) → AllByRecursion (IsBegun base) (map (begun_table base false) names)
others_begun base [] = tt
others_begun base (n ∷ names) = ((refl, refl), others_begun base names)

pub are_begun : (base : NamedStates) (own others : List (List ℕ)) → AllByRecursion (IsBegun base) (begun_tables base own others)
are_begun base [] others = others_begun base others
are_begun base (n ∷ own) others = ((refl, refl), are_begun base own others)

-- their names
abbrev pub name_of : Tracked → List ℕ
name_of x = x.name

other_names : (base : NamedStates) (names : List (List ℕ)) → map name_of (map (begun_table base false) names) ≡ names
other_names base [] = refl
other_names base (n ∷ names) = ap (λ ns. n ∷ ns) (other_names base names)

pub names_are : (base : NamedStates) (own others : List (List ℕ)) → map name_of (begun_tables base own others) ≡ own ++ others
names_are base [] others = other_names base others
names_are base (n ∷ own) others = ap (λ ns. n ∷ ns) (names_are base own others)

fresh_one : (may : Pair → Type 0) (base : NamedStates) (x : Tracked) → IsBaseOf may x.name (base x.name) → IsBegun base x → Fresh x
fresh_one may base x is (same, sure) =
    let le : (base x.name).flushed ≤ length (base x.name).writes = flushed_le may x.name (base x.name) is in
    let it : x.state ≡ base_of (base x.name).writes (base x.name).flushed (base x.name).spare = same ∙ is.is in
    record {
      live = ap (λ (s : HistoryState). s.live) it;
      handed = ap (λ (s : HistoryState). s.handed) it;
      handed_in = ap (λ (s : HistoryState). s.handed_in) it;
      taken = ap (λ (s : HistoryState). s.taken) it ∙ sym (ap (λ (s : HistoryState). length s.writes) it);
      flushed = ap (λ (s : HistoryState). s.flushed) same ∙ sym sure;
      le = let all : length x.state.writes ≡ length (base x.name).writes = ap (λ (s : HistoryState). length s.writes) same in omega (arith, le, all, sure);
    }

pub are_fresh : (may : Pair → Type 0) (base : NamedStates) (xs : List Tracked) → ((name : List ℕ) → IsBaseOf may name (base name)) → AllByRecursion (IsBegun base) xs → AllByRecursion Fresh xs
are_fresh may base [] is b = tt
are_fresh may base (x ∷ xs) is b = (fresh_one may base x (is x.name) b.0, are_fresh may base xs is b.1)

pub are_plain : (xs : List Tracked) → AllByRecursion Fresh xs → IsPlain xs
are_plain [] f = tt
are_plain (x ∷ xs) f = (f.0.handed_in, are_plain xs f.1)

-- a name whose logs have one length has all of its writes flushed
fixed_all : (may : Pair → Type 0) (name : List ℕ) (s : HistoryState) → IsBaseOf may name s → IsFixed may name → s.flushed ≡ length s.writes
fixed_all may name s is fixed = is.least.4 ∙ fixed is.least.0 is.longest.0 is.least.1 s.writes is.least.2 is.longest.1 is.least.3 is.longest.2

-- all names but one are so
abbrev pub ButOne : NamedStates → List ℕ → Type 0
ButOne base but = (name : List ℕ) → name ≢ but → (base name).flushed ≡ length (base name).writes

pub but_one : (reads : ℕ → Bool) (may : Pair → Type 0) (now : Pair) (base : NamedStates) → PairsMayBegin reads may now base → (but : List ℕ) × ButOne base but
but_one reads may now base r = elim r.one_open [
  | inl all ↦ ([], λ name n. fixed_all may name (base name) (r.base_is name) (all name))
  | inr one ↦ (one.0, λ name n. fixed_all may name (base name) (r.base_is name) (one.2 name n))
]

pub all_one : (base : NamedStates) (x : Tracked) → IsBegun base x → (base x.name).flushed ≡ length (base x.name).writes → IsAll x
all_one base x b all = b.1 ∙ all ∙ sym (ap (λ (s : HistoryState). length s.writes) b.0)

all_but : (base : NamedStates) (but : List ℕ) (xs : List Tracked) → ButOne base but → AllByRecursion (λ n. n ≢ but) (map name_of xs) → AllByRecursion (IsBegun base) xs → AllByRecursion IsAll xs
all_but base but [] fixed d b = tt
all_but base but (x ∷ xs) fixed d b = (all_one base x b.0 (fixed x.name d.0), all_but base but xs fixed d.1 b.1)

pub at_most_one : (base : NamedStates) (but : List ℕ) (xs : List Tracked) → ButOne base but → AreDistinct (map name_of xs) → AllByRecursion (IsBegun base) xs → AtMostOne xs
at_most_one base but [] fixed d b = tt
at_most_one base but (x ∷ xs) fixed d b = (λ loose. by (bytes_eq x.name but) refl loose, at_most_one base but xs fixed d.1 b.1)
  where
    by : (c : Bool) → bytes_eq x.name but ≡ c → x.sure ≢ length x.state.writes → AllByRecursion IsAll xs
    by true e loose = let same : x.name ≡ but = (bytes_eq-Decides x.name but).0 e in
        all_but base but xs fixed (subst (λ n. AllByRecursion (λ other. other ≢ n) (map name_of xs)) same d.0) b.1
    by false e loose = absurd (loose (all_one base x b.0 (fixed x.name (λ same. both (bytes_eq x.name but) e ((bytes_eq-Decides x.name but).1 same)))))
