-- A table's blocks, one after another.
use Rattle.std.proofs.Common.{◌≡◌, ℕ, ◌+◌, ◌<◌, ◌≤◌, Bool, true, false, ◌&&◌, List, [], ◌∷◌, ◌++◌, length, ℤ, refl, sym, ap, subst, ◌∙◌, arith}
use Rattle.std.specs.List.{AllByRecursion, AllZip, list_all}
use Rattle.std.proofs.lemmas.List.{append-nil, append_assoc}
use Rattle.table_state.specs.Tables.{most_rows}
use Rattle.column_bytes.specs.Column.{kind_in}
use Rattle.row_blocks.specs.declared.column.BlockColumn.{BlockColumn}
use Rattle.row_blocks.specs.Blocks.{IsBlock}
use Rattle.row_blocks.specs.Held.{live_rows}
use Rattle.region_layout.specs.declared.directory.BlockPlaces.{BlockPlaces}
use Rattle.region_layout.specs.Region.{allows, block_in}
use Rattle.adopt.specs.Finishing.{live_count}
use Rattle.adopt.proofs.Counting.{count_end, count_next}
use Rattle.region_inspect.specs.declared.seen.BlockLine.{BlockLine}
use Rattle.region_inspect.specs.Shows.{ShowsBlock}
use Rattle.region_inspect.specs.Inspecting.{AllBlocksTold, CutsInside, HasKinds, ToldSoFar, blocks_in}

zip_push : {A B : Type 0} (R : A → B → Type 0) (xs : List A) (ys : List B) (x : A) (y : B) → AllZip R xs ys → R x y → AllZip R (xs ++ x ∷ []) (ys ++ y ∷ [])
zip_push R [] [] x y h r = (r, tt)
zip_push R [] (b ∷ ys) x y h r = absurd h
zip_push R (a ∷ xs) [] x y h r = absurd h
zip_push R (a ∷ xs) (b ∷ ys) x y h r = (h.0, zip_push R xs ys x y h.1 r)

-- ---- the kinds of a block's columns

both_of : (a b : Bool) → (a && b) ≡ true → (a ≡ true) × (b ≡ true)
both_of true true e = (refl, refl)
both_of true false e = absurd cc
both_of false b e = absurd cc

one_fails : (a b : Bool) → (a && b) ≡ false → a ≡ true → b ≡ false
one_fails true b e is = e
one_fails false b e is = absurd cc

abbrev allowed : ℕ → BlockColumn → Bool
allowed version c = allows version (kind_in c.bytes)

pub are_of_kinds : (version : ℕ) (cs : List BlockColumn) → list_all (allowed version) cs ≡ true → AllByRecursion (λ (c : BlockColumn). allowed version c ≡ true) cs
are_of_kinds version [] is = tt
are_of_kinds version (c ∷ cs) is =
    let both = both_of (allowed version c) (list_all (allowed version) cs) is in
    (both.0, are_of_kinds version cs both.1)

pub one_of_other : (version : ℕ) (cs : List BlockColumn) → list_all (allowed version) cs ≡ false → AllByRecursion (λ (c : BlockColumn). allowed version c ≡ true) cs → ⊥
one_of_other version [] fails each = absurd cc
one_of_other version (c ∷ cs) fails each = one_of_other version cs (one_fails (allowed version c) (list_all (allowed version) cs) fails each.0) each.1

-- ---- blocks one after another

module _ (region : List ℕ) where
  block_here : (done : List BlockPlaces) (place : BlockPlaces) (rest : List BlockPlaces) → AllByRecursion IsBlock (blocks_in region (done ++ place ∷ rest)) → IsBlock (block_in region place)
  block_here [] place rest each = each.0
  block_here (d ∷ done) place rest each = block_here done place rest each.1

  blocks_more : (done : List BlockPlaces) (place : BlockPlaces) → AllByRecursion IsBlock (blocks_in region done) → IsBlock (block_in region place) → AllByRecursion IsBlock (blocks_in region (done ++ place ∷ []))
  blocks_more [] place each one = (one, tt)
  blocks_more (d ∷ done) place each one = (each.0, blocks_more done place each.1 one)

  kinds_here : (version : ℕ) (done : List BlockPlaces) (place : BlockPlaces) (rest : List BlockPlaces) → AllByRecursion (HasKinds version) (blocks_in region (done ++ place ∷ rest)) → HasKinds version (block_in region place)
  kinds_here version [] place rest each = each.0
  kinds_here version (d ∷ done) place rest each = kinds_here version done place rest each.1

  kinds_more : (version : ℕ) (done : List BlockPlaces) (place : BlockPlaces) → AllByRecursion (HasKinds version) (blocks_in region done) → HasKinds version (block_in region place) → AllByRecursion (HasKinds version) (blocks_in region (done ++ place ∷ []))
  kinds_more version [] place each one = (one, tt)
  kinds_more version (d ∷ done) place each one = (each.0, kinds_more version done place each.1 one)

  module _ (version : ℕ) (all : List BlockPlaces) (skip : ℕ) (h : ℤ) where
    pub none_so_far : (cut : ℕ) (rest : List BlockPlaces) → rest ≡ all → cut ≡ skip → ToldSoFar version region all skip h [] 0 cut rest
    none_so_far cut rest is same = record {
      done = [];
      split = is;
      blocks = tt;
      kinds = tt;
      lines_are = tt;
      counted = let whole = ap (λ (bs : List BlockPlaces). live_count (blocks_in region bs) cut h) is ∙ ap (λ (n : ℕ). live_count (blocks_in region all) n h) same in omega (arith, whole);
    }

    pub all_counted : (lines : List BlockLine) (live cut : ℕ) (rest : List BlockPlaces) → ToldSoFar version region all skip h lines live cut rest → rest ≡ [] → AllBlocksTold version region all skip h live lines
    all_counted lines live cut rest so_far none =
        let whole : so_far.done ≡ all = sym (append-nil so_far.done) ∙ ap (λ (bs : List BlockPlaces). so_far.done ++ bs) (sym none) ∙ so_far.split in
        record {
          blocks = subst (λ (bs : List BlockPlaces). AllByRecursion IsBlock (blocks_in region bs)) whole so_far.blocks;
          kinds = subst (λ (bs : List BlockPlaces). AllByRecursion (HasKinds version) (blocks_in region bs)) whole so_far.kinds;
          rows_are = count_end [] 0 cut h live (live_count (blocks_in region all) skip h) (omega arith) (ap (λ (bs : List BlockPlaces). live + live_count (blocks_in region bs) cut h) (sym none) ∙ so_far.counted);
          lines_are = subst (λ (bs : List BlockPlaces). AllZip (ShowsBlock region) bs lines) whole so_far.lines_are;
        }

    module _ (lines : List BlockLine) (live cut : ℕ) (rest rest' : List BlockPlaces) (place : BlockPlaces) (so_far : ToldSoFar version region all skip h lines live cut rest) (is : rest ≡ place ∷ rest') where
      all_is : so_far.done ++ place ∷ rest' ≡ all
      all_is = ap (λ (bs : List BlockPlaces). so_far.done ++ bs) (sym is) ∙ so_far.split

      pub not_all : (IsBlock (block_in region place) → ⊥) → AllByRecursion IsBlock (blocks_in region all) → ⊥
      not_all broken each = broken (block_here so_far.done place rest' (subst (λ (bs : List BlockPlaces). AllByRecursion IsBlock (blocks_in region bs)) (sym all_is) each))

      pub not_allowed : (HasKinds version (block_in region place) → ⊥) → AllByRecursion (HasKinds version) (blocks_in region all) → ⊥
      not_allowed broken each = broken (kinds_here version so_far.done place rest' (subst (λ (bs : List BlockPlaces). AllByRecursion (HasKinds version) (blocks_in region bs)) (sym all_is) each))

      module _ (one : ℕ) (inside : cut ≤ place.rows) (count : one ≡ length (live_rows cut h (block_in region place))) where
        counted_next : live + one + live_count (blocks_in region rest') 0 h ≡ live_count (blocks_in region all) skip h
        counted_next =
            count_next (blocks_in region (place ∷ rest')) 0 (block_in region place) cut h (omega arith) refl inside live one (live_count (blocks_in region all) skip h)
            (ap (λ (bs : List BlockPlaces). live + live_count (blocks_in region bs) cut h) (sym is) ∙ so_far.counted) count

        pub too_many : most_rows < live + one → live_count (blocks_in region all) skip h ≤ most_rows → ⊥
        too_many many few = let next = counted_next in absurd (omega (arith, next, many, few))

        pub one_more : (line : BlockLine) → IsBlock (block_in region place) → HasKinds version (block_in region place) → ShowsBlock region place line → ToldSoFar version region all skip h (lines ++ line ∷ []) (live + one) 0 rest'
        one_more line block kinds shows = record {
          done = so_far.done ++ place ∷ [];
          split = append_assoc so_far.done (place ∷ []) rest' ∙ all_is;
          blocks = blocks_more so_far.done place so_far.blocks block;
          kinds = kinds_more version so_far.done place so_far.kinds kinds;
          lines_are = zip_push (ShowsBlock region) so_far.done lines place line so_far.lines_are shows;
          counted = counted_next;
        }

pub uncut : (bs : List BlockPlaces) → CutsInside 0 bs
uncut [] = tt
uncut (b ∷ bs) = omega arith
