-- The tables of a fleet, and the seats at them, leaf by leaf.
use Rattle.std.proofs.Common.{◌≡◌, ℕ, zero, suc, ◌<◌, List, [], ◌∷◌, length, map, Option, Some, refl, sym, ap, ap₂, subst, ◌∙◌, arith}
use Rattle.std.specs.Prelude.{slice_get}
use Rattle.std.specs.List.{AllByRecursion}
use Rattle.region_layout.specs.Names.{IsName}
use Rattle.crash_moments.specs.Left.{NamedStates}
use Rattle.turnstile.specs.Seats.{unused_seat}
use Rattle.leaf_table.specs.Turns.{Shared}
use Rattle.leaf_table.specs.Calls.{SeatView, base_seen, name_of}
use Rattle.leaf_table.specs.Lists.{place, row}
use Rattle.leaf_table.specs.Fleet.{IsAt, IsNewFleet, IsShortName}
use Rattle.printed_lines.specs.Lines.{name_at}
use Rattle.player.specs.Crew.{column}
use Rattle.play.specs.Runs.{table_base, table_bases}
use Rattle.transcript_fleet.proofs.Lists.{All-weaken}
use Rattle.transcript_leaf.proofs.Lists.{length_mapped, name_is, same_some, within}

-- New tables of these names, with the steward's seat and the callers' at each, none of which was used. Each is founded
-- with what the base says of its name, where one is named, and else it is not founded.
pub record AreNewTables (base : Option NamedStates) (names : List (List ℕ)) (tables : List Shared) (stewards : List SeatView) (callers : List (Option SeatView)) : Type 0 where
  pub named : map name_of tables ≡ names
  pub stewards_are : length stewards ≡ length tables
  pub callers_are : length callers ≡ length tables
  pub unused : (place : ℕ) (t : Shared) → slice_get tables place ≡ Some t
      → (slice_get stewards place ≡ Some (unused_seat t.site 0 1 1024)) × (slice_get callers place ≡ Some (Some (unused_seat t.site 1 65536 65536)))
  pub based : (place : ℕ) (t : Shared) → slice_get tables place ≡ Some t → base_seen t ≡ table_base base (name_of t)

-- names of a leaf are short enough for tables
pub names_short : (names : List (List ℕ)) → AllByRecursion IsName names → AllByRecursion IsShortName names
names_short names are = All-weaken IsName IsShortName (λ name n. n.1) names are

named_as : (tables : List Shared) (names : List (List ℕ)) → length tables ≡ length names
    → ((place : ℕ) (t : Shared) (name : List ℕ) → slice_get tables place ≡ Some t → slice_get names place ≡ Some name → name_of t ≡ name)
    → map name_of tables ≡ names
named_as [] [] count each = refl
named_as [] (n ∷ ns) count each = absurd (omega (arith, count))
named_as (t ∷ ts) [] count each = absurd (omega (arith, count))
named_as (t ∷ ts) (n ∷ ns) count each =
    ap₂ (λ (x : List ℕ) (xs : List (List ℕ)). x ∷ xs) (each zero t n refl refl) (named_as ts ns (omega (arith, count)) (λ place u m at is. each (suc place) u m at is))

-- ---- a leaf's column of the callers' seats

column_at : {A : Type 0} (leaf : ℕ) (rows : List (List A)) (t : ℕ) (x : A) → t < length rows → place rows t leaf ≡ Some x → slice_get (column leaf rows) t ≡ Some (Some x)
column_at leaf [] t x below at = absurd (omega (arith, below))
column_at {A} leaf (r ∷ rows) zero x below at = ap (λ (o : Option A). Some o) at
column_at leaf (r ∷ rows) (suc t) x below at = column_at leaf rows t x (omega (arith, below)) at

-- ---- the tables of one leaf

module _ (base : ℕ → Option NamedStates) (names : List (List ℕ)) (leaves : ℕ) (rows : List (List Shared)) (stewards callers : List (List SeatView))
    (f : IsNewFleet (table_bases base names) leaves names 65536 rows stewards callers) (leaf : ℕ) (below : leaf < leaves) where
  abbrev tables : List Shared
  tables = row rows leaf

  abbrev seats : List SeatView
  seats = row stewards leaf

  as_many : length tables ≡ length names
  as_many = (f.in_leaf leaf below).0

  abbrev NewAt : ℕ → Type 0
  NewAt t = IsAt (table_bases base names) names 65536 tables seats callers leaf t

  -- a new table stands in each place
  new_at : (t : ℕ) (table : Shared) → slice_get tables t ≡ Some table → (a : NewAt t) × (a.table ≡ table)
  new_at t table at =
      let a = f.places leaf t below (omega (arith, within tables t table at, as_many)) in
      (a, same_some a.table table (sym a.stands ∙ at))

  unused_at : (t : ℕ) (table : Shared) → slice_get tables t ≡ Some table
      → (slice_get seats t ≡ Some (unused_seat table.site 0 1 1024)) × (slice_get (column leaf callers) t ≡ Some (Some (unused_seat table.site 1 65536 65536)))
  unused_at t table at =
      let n = new_at t table at in
      let site = ap (λ (u : Shared). u.site) n.1 in
      let inside : t < length callers = omega (arith, within tables t table at, as_many, f.counts.2) in (
        n.0.stewards_seat ∙ ap (λ (v : SeatView). Some v) (n.0.new.unused ∙ ap (λ s. unused_seat s 0 1 1024) site),
        column_at leaf callers t n.0.caller inside n.0.callers_seat ∙ ap (λ (c : SeatView). Some (Some c)) (n.0.new.unused_caller ∙ ap (λ s. unused_seat s 1 65536 65536) site),
      )

  -- each is founded with what was picked for its name
  picked_at : (t : ℕ) (table : Shared) → slice_get tables t ≡ Some table → base_seen table ≡ table_base (base leaf) (name_of table)
  picked_at t table at =
      let n = new_at t table at in
      let named : name_at names t ≡ name_of n.0.table = sym (name_is names t n.0.name n.0.named) ∙ sym n.0.new.named in
      subst (λ (u : Shared). base_seen u ≡ table_base (base leaf) (name_of u)) n.1 (n.0.new.founded ∙ ap (table_base (base leaf)) named)

  pub new_tables : AreNewTables (base leaf) names tables seats (column leaf callers)
  new_tables = record {
    named = named_as tables names as_many (λ t table name at named.
        let n = new_at t table at in
        ap name_of (sym n.1) ∙ (n.0.new.named ∙ same_some n.0.name name (sym n.0.named ∙ named)));
    stewards_are = (f.in_leaf leaf below).1 ∙ sym as_many;
    callers_are = length_mapped (λ (r : List SeatView). slice_get r leaf) callers ∙ (f.counts.2 ∙ sym as_many);
    unused = unused_at;
    based = picked_at;
  }
