-- The tests of a directory are its rules.
use Rattle.std.proofs.Common.{◌≡◌, ℕ, ◌<◌, ◌^◌, Bool, true, false, not, ◌&&◌, eq-eqb, List, [], ◌∷◌, length, Option, Some, None, refl, sym, ap, ◌∙◌, arith}
use Rattle.std.specs.Prelude.{◌≢◌, nat_le, nat_lt}
use Rattle.std.specs.List.{list_all, AllByRecursion}
use Rattle.std.specs.Str.{bytes_eq}
use Rattle.std.proofs.lemmas.Bool.{and_parts, eqb-true, ltb-true, lt-ltb}
use Rattle.std.proofs.lemmas.Slice.Eq.{bytes_eq-Decides}
use Rattle.row_model.specs.Values.{IsCellName, time_name}
use Rattle.row_model.specs.Names.{are_distinct}
use Rattle.leaf_model.proofs.Distinct.{distinct_names, are_distinct-from}
use Rattle.region_layout.specs.declared.directory.Place.{Place}
use Rattle.region_layout.specs.declared.directory.BlockPlaces.{BlockPlaces}
use Rattle.region_layout.specs.declared.directory.TablePlaces.{TablePlaces}
use Rattle.region_layout.specs.declared.directory.Directory.{Directory}
use Rattle.region_layout.specs.Directory.{AreColumns, IsBlockPlaces, IsSkipOf, IsTablePlaces, IsDirectory, columns_of}
use Rattle.region_layout.specs.Written.{PlaceFits, BlockFits, TableFits, MayBeWritten}
use Rattle.region_layout.specs.Tests.{has_cell_name, do_not_fall, are_columns, has_columns, table_names, is_skip_of, is_table_places, end_by, end_of_table, ends_at, is_directory}
use Rattle.region_layout.proofs.Following.{order_from, order_again}
use Rattle.region_layout.proofs.Ending.{tables_end, joined_from, joined_again}

-- ---- each of a list

each_from : {A : Type 0} (test : A → Bool) (Fits Rule : A → Type 0) → ((x : A) → Fits x → test x ≡ true → Rule x) → (xs : List A) → AllByRecursion Fits xs → list_all test xs ≡ true → AllByRecursion Rule xs
each_from test Fits Rule one [] fits e = tt
each_from test Fits Rule one (x ∷ xs) fits e =
    let both = and_parts (test x) (list_all test xs) e in
    (one x fits.0 both.0, each_from test Fits Rule one xs fits.1 both.1)

each_again : {A : Type 0} (test : A → Bool) (Rule : A → Type 0) → ((x : A) → Rule x → test x ≡ true) → (xs : List A) → AllByRecursion Rule xs → list_all test xs ≡ true
each_again test Rule one [] each = refl
each_again test Rule one (x ∷ xs) each = ap (λ (b : Bool). b && list_all test xs) (one x each.0) ∙ each_again test Rule one xs each.1

both_again : (a b : Bool) → a ≡ true → b ≡ true → (a && b) ≡ true
both_again a b ea eb = ap (λ (c : Bool). c && b) ea ∙ eb

-- ---- names

same_name : (a b : List ℕ) → bytes_eq a b ≡ true → a ≡ b
same_name a b e = (bytes_eq-Decides a b).0 e

name_again : (a b : List ℕ) → a ≡ b → bytes_eq a b ≡ true
name_again a b e = (bytes_eq-Decides a b).1 e

not_same : (a b : List ℕ) → not (bytes_eq a b) ≡ true → a ≢ b
not_same a b e = λ same. by (bytes_eq a b) (name_again a b same) e
  where
    by : (c : Bool) → c ≡ true → not c ≡ true → ⊥
    by true e f = cc
    by false e f = cc

not_again : (a b : List ℕ) → a ≢ b → not (bytes_eq a b) ≡ true
not_again a b other = by (bytes_eq a b) refl
  where
    by : (c : Bool) → bytes_eq a b ≡ c → not c ≡ true
    by true e = absurd (other (same_name a b e))
    by false e = refl

cell_name : (p : Place) → PlaceFits p → has_cell_name p ≡ true → IsCellName p.name
cell_name p fits e =
    let first = and_parts (nat_lt 0 (length p.name)) (nat_le (length p.name) 255 && not (bytes_eq p.name time_name)) e in
    let second = and_parts (nat_le (length p.name) 255) (not (bytes_eq p.name time_name)) first.1 in
    record { text = fits.name.0; some = ltb-true _ _ first.0; short = fits.name.1; other = not_same p.name time_name second.1 }

cell_again : (p : Place) → IsCellName p.name → has_cell_name p ≡ true
cell_again p is =
    both_again (nat_lt 0 (length p.name)) (nat_le (length p.name) 255 && not (bytes_eq p.name time_name)) (lt-ltb _ _ is.some)
    (both_again (nat_le (length p.name) 255) (not (bytes_eq p.name time_name)) (grind (arith, is.short)) (not_again p.name time_name is.other))

-- ---- columns

block_from : (b : BlockPlaces) → BlockFits b → has_columns b ≡ true → IsBlockPlaces b
block_from b fits e = record { some = fits.some; few = fits.few; count = fits.count; columns = by b.columns fits.each e }
  where
    by : (columns : List Place) → AllByRecursion PlaceFits columns → are_columns columns ≡ true → AreColumns columns
    by [] each f = absurd cc
    by (times ∷ others) each f =
        let first = and_parts (bytes_eq times.name time_name) (list_all has_cell_name others && do_not_fall [] others) f in
        let second = and_parts (list_all has_cell_name others) (do_not_fall [] others) first.1 in
        (same_name times.name time_name first.0, each_from has_cell_name PlaceFits (λ (p : Place). IsCellName p.name) cell_name others each.1 second.0, order_from others second.1)

block_again : (b : BlockPlaces) → IsBlockPlaces b → has_columns b ≡ true
block_again b is = by b.columns is.columns
  where
    by : (columns : List Place) → AreColumns columns → are_columns columns ≡ true
    by [] h = absurd h
    by (times ∷ others) h =
        both_again (bytes_eq times.name time_name) (list_all has_cell_name others && do_not_fall [] others) (name_again times.name time_name h.0)
        (both_again (list_all has_cell_name others) (do_not_fall [] others) (each_again has_cell_name (λ (p : Place). IsCellName p.name) cell_again others h.1) (order_again others h.2))

-- ---- tables

skip_from : (skip : ℕ) (blocks : List BlockPlaces) → is_skip_of skip blocks ≡ true → IsSkipOf skip blocks
skip_from skip [] e = eqb-true skip 0 e
skip_from skip (b ∷ blocks) e = ltb-true skip b.rows e

skip_again : (skip : ℕ) (blocks : List BlockPlaces) → IsSkipOf skip blocks → is_skip_of skip blocks ≡ true
skip_again skip [] is = eq-eqb skip 0 is
skip_again skip (b ∷ blocks) is = lt-ltb skip b.rows is

table_from : (t : TablePlaces) → TableFits t → is_table_places t ≡ true → IsTablePlaces t
table_from t fits e =
    let both = and_parts (is_skip_of t.skip t.blocks) (list_all has_columns t.blocks) e in
    record {
      name = fits.name;
      horizon = fits.horizon;
      writes = fits.writes;
      skip = skip_from t.skip t.blocks both.0;
      count = fits.count;
      blocks = each_from has_columns BlockFits IsBlockPlaces block_from t.blocks fits.each both.1;
    }

table_again : (t : TablePlaces) → IsTablePlaces t → is_table_places t ≡ true
table_again t is =
    both_again (is_skip_of t.skip t.blocks) (list_all has_columns t.blocks) (skip_again t.skip t.blocks is.skip) (each_again has_columns IsBlockPlaces block_again t.blocks is.blocks)

-- ---- a directory

ends_from : (place : ℕ) (end_place : Option ℕ) → ends_at place end_place ≡ true → end_place ≡ Some place
ends_from place None e = absurd cc
ends_from place (Some n) e = ap (λ (k : ℕ). Some k) (eqb-true n place e)

ends_again : (place : ℕ) (end_place : Option ℕ) → end_place ≡ Some place → ends_at place end_place ≡ true
ends_again place end_place e = ap (ends_at place) e ∙ eq-eqb place place refl

pub rules_from : (place : ℕ) (d : Directory) → place < 2 ^ 64 → MayBeWritten d → is_directory place d ≡ true → IsDirectory place d
rules_from place d low fits e =
    let first = and_parts (are_distinct (table_names d.tables)) (list_all is_table_places d.tables && ends_at place (end_by end_of_table 16 d.tables)) e in
    let second = and_parts (list_all is_table_places d.tables) (ends_at place (end_by end_of_table 16 d.tables)) first.1 in
    record {
      low = low;
      log_end = fits.log_end;
      few = fits.few;
      distinct = distinct_names (table_names d.tables) first.0;
      each = each_from is_table_places TableFits IsTablePlaces table_from d.tables fits.each second.0;
      joined = joined_from 16 place (columns_of d) (sym (tables_end 16 d.tables) ∙ ends_from place (end_by end_of_table 16 d.tables) second.1);
    }

pub rules_again : (place : ℕ) (d : Directory) → IsDirectory place d → is_directory place d ≡ true
rules_again place d is =
    both_again (are_distinct (table_names d.tables)) (list_all is_table_places d.tables && ends_at place (end_by end_of_table 16 d.tables)) (are_distinct-from (table_names d.tables) is.distinct)
    (both_again (list_all is_table_places d.tables) (ends_at place (end_by end_of_table 16 d.tables)) (each_again is_table_places IsTablePlaces table_again d.tables is.each)
    (ends_again place (end_by end_of_table 16 d.tables) (tables_end 16 d.tables ∙ joined_again 16 place (columns_of d) is.joined is.low)))
