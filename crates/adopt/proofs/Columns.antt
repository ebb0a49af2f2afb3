-- The columns of a directory one after another, and where the list of them is cut.
use Rattle.std.proofs.Common.{◌≡◌, ℕ, zero, suc, ◌+◌, ◌-◌, ◌≤◌, List, [], ◌∷◌, ◌++◌, length, map, drop, get_or, refl, sym, ap, ap₂, subst, ◌∙◌, arith, length-take}
use Rattle.std.specs.List.{AllByRecursion, flat_map}
use Rattle.std.specs.Prelude.{slice_range}
use Rattle.std.proofs.lemmas.List.{length-append}
use Rattle.column_bytes.specs.Coding.{joined}
use Rattle.region_layout.specs.declared.directory.Place.{Place}
use Rattle.region_layout.specs.declared.directory.BlockPlaces.{BlockPlaces}
use Rattle.region_layout.specs.declared.directory.TablePlaces.{TablePlaces}
use Rattle.region_layout.specs.declared.directory.Directory.{Directory}
use Rattle.region_layout.specs.Directory.{Joined, columns_of}
use Rattle.region_layout.proofs.Ending.{table_columns}
use Rattle.region_layout.specs.Region.{column_in}
use Rattle.adopt.specs.declared.spans.Span.{Span}
use Rattle.adopt.specs.Taken.{block_spans, span_bytes, span_of, spans_of, table_spans}

-- ---- they are the columns

abbrev pub Same : List Span → List Place → Type 0
Same [] [] = Unit {0}
Same [] (p ∷ ps) = ⊥
Same (s ∷ ss) [] = ⊥
Same (s ∷ ss) (p ∷ ps) = (s.place ≡ p.place) × (s.length ≡ p.length) × Same ss ps

same_append : (ss ts : List Span) (ps qs : List Place) → Same ss ps → Same ts qs → Same (ss ++ ts) (ps ++ qs)
same_append [] ts [] qs first second = second
same_append [] ts (p ∷ ps) qs first second = absurd first
same_append (s ∷ ss) ts [] qs first second = absurd first
same_append (s ∷ ss) ts (p ∷ ps) qs first second = (first.0, first.1, same_append ss ts ps qs first.2 second)

same_columns : (rows : ℕ) (ps : List Place) → Same (map (span_of rows) ps) ps
same_columns rows [] = tt
same_columns rows (p ∷ ps) = (refl, refl, same_columns rows ps)

same_blocks : (bs : List BlockPlaces) → Same (flat_map block_spans bs) (flat_map (λ (b : BlockPlaces). b.columns) bs)
same_blocks [] = tt
same_blocks (b ∷ bs) = same_append (block_spans b) (flat_map block_spans bs) b.columns (flat_map (λ (c : BlockPlaces). c.columns) bs) (same_columns b.rows b.columns) (same_blocks bs)

same_tables : (ts : List TablePlaces) → Same (flat_map table_spans ts) (flat_map table_columns ts)
same_tables [] = tt
same_tables (t ∷ ts) = same_append (table_spans t) (flat_map table_spans ts) (table_columns t) (flat_map table_columns ts) (same_blocks t.blocks) (same_tables ts)

pub same_all : (d : Directory) → Same (spans_of d) (columns_of d)
same_all d = same_tables d.tables

abbrev pub places : List Span → List ℕ
places spans = map (λ (s : Span). s.place) spans

-- the bytes of a column as an image has them
abbrev pub span_in : List ℕ → Span → List ℕ
span_in region s = slice_range region s.place (s.place + s.length)

pub same_places : (ss : List Span) (ps : List Place) → Same ss ps → map (λ (p : Place). p.place) ps ≡ places ss
same_places [] [] same = refl
same_places [] (p ∷ ps) same = absurd same
same_places (s ∷ ss) [] same = absurd same
same_places (s ∷ ss) (p ∷ ps) same = ap₂ (λ (n : ℕ) (l : List ℕ). n ∷ l) (sym same.0) (same_places ss ps same.2)

pub same_count : (ss : List Span) (ps : List Place) → Same ss ps → length ss ≡ length ps
same_count [] [] same = refl
same_count [] (p ∷ ps) same = absurd same
same_count (s ∷ ss) [] same = absurd same
same_count (s ∷ ss) (p ∷ ps) same = ap suc (same_count ss ps same.2)

pub same_bytes : (region : List ℕ) (ss : List Span) (ps : List Place) → Same ss ps → map (λ (p : Place). (column_in region p).bytes) ps ≡ map (span_in region) ss
same_bytes region [] [] same = refl
same_bytes region [] (p ∷ ps) same = absurd same
same_bytes region (s ∷ ss) [] same = absurd same
same_bytes region (s ∷ ss) (p ∷ ps) same =
    ap₂ (λ (x : List ℕ) (l : List (List ℕ)). x ∷ l) (ap₂ (λ (from size : ℕ). slice_range region from (from + size)) (sym same.0) (sym same.1)) (same_bytes region ss ps same.2)

-- ---- each stands where the one before ends

abbrev pub JoinedSpans : ℕ → List Span → ℕ → Type 0
JoinedSpans from [] to = from ≡ to
JoinedSpans from (s ∷ rest) to = (s.place ≡ from) × JoinedSpans (from + s.length) rest to

pub same_joined : (from to : ℕ) (ss : List Span) (ps : List Place) → Same ss ps → Joined from ps to → JoinedSpans from ss to
same_joined from to [] [] same at = at
same_joined from to [] (p ∷ ps) same at = absurd same
same_joined from to (s ∷ ss) [] same at = absurd same
same_joined from to (s ∷ ss) (p ∷ ps) same at =
    (same.0 ∙ at.0, same_joined (from + s.length) to ss ps same.2 (subst (λ (n : ℕ). Joined (from + n) ps to) (sym same.1) at.1))

pub joined_total : (from to : ℕ) (ss : List Span) → JoinedSpans from ss to → from + span_bytes ss ≡ to
joined_total from to [] at = omega (arith, at)
joined_total from to (s ∷ ss) at = let rest = joined_total (from + s.length) to ss at.1 in omega (arith, rest)

-- where the first of these columns stands, or else the directory
abbrev pub start_of : List Span → ℕ → ℕ
start_of ss to = get_or (places ss) 0 to

joined_start : (from to : ℕ) (ss : List Span) → JoinedSpans from ss to → start_of ss to ≡ from
joined_start from to [] at = sym at
joined_start from to (s ∷ ss) at = at.0

-- a column among the others: those behind it begin where it ends
pub record Stands (s : Span) (rest : List Span) (from to : ℕ) : Type 0 where
  pub begins : from ≤ s.place
  pub ends : s.place + s.length ≡ start_of rest to
  pub total : s.place + (s.length + span_bytes rest) ≡ to

pub stands : (from to : ℕ) (init : List Span) (s : Span) (rest : List Span) → JoinedSpans from (init ++ s ∷ rest) to → Stands s rest from to
stands from to [] s rest at =
    let start = joined_start (from + s.length) to rest at.1 in
    let total = joined_total (from + s.length) to rest at.1 in
    record { begins = omega (arith, at.0); ends = omega (arith, at.0, start); total = omega (arith, at.0, total) }
stands from to (x ∷ init) s rest at =
    let more = stands (from + x.length) to init s rest at.1 in
    record { begins = let begins = more.begins in omega (arith, begins); ends = more.ends; total = more.total }

-- ---- a list that is cut at a column or behind it

module _ {X : Type 0} (f : Span → X) (d : X) where
  pub at_split : (init : List Span) (s : Span) (rest : List Span) → get_or (map f (init ++ s ∷ rest)) (length init) d ≡ f s
  at_split [] s rest = refl
  at_split (x ∷ init) s rest = at_split init s rest

  pub past_split : (init : List Span) (s : Span) (rest : List Span) → get_or (map f (init ++ s ∷ rest)) (suc (length init)) d ≡ get_or (map f rest) 0 d
  past_split [] s rest = refl
  past_split (x ∷ init) s rest = past_split init s rest

module _ {X : Type 0} (f : Span → X) where
  pub from_split : (init : List Span) (s : Span) (rest : List Span) → drop (length init) (map f (init ++ s ∷ rest)) ≡ f s ∷ map f rest
  from_split [] s rest = refl
  from_split (x ∷ init) s rest = from_split init s rest

  pub behind_split : (init : List Span) (s : Span) (rest : List Span) → drop (suc (length init)) (map f (init ++ s ∷ rest)) ≡ map f rest
  behind_split [] s rest = refl
  behind_split (x ∷ init) s rest = behind_split init s rest

pub all_at : (P : Span → Type 0) (init : List Span) (s : Span) (rest : List Span) → AllByRecursion P (init ++ s ∷ rest) → P s
all_at P [] s rest each = each.0
all_at P (x ∷ init) s rest each = all_at P init s rest each.1

pub bytes_last : (init : List Span) (s : Span) → span_bytes (init ++ s ∷ []) ≡ span_bytes init + s.length
bytes_last [] s = omega arith
bytes_last (x ∷ init) s = let rest = bytes_last init s in omega (arith, rest)

-- the bytes of columns are no longer than the directory says
pub joined_short : (region : List ℕ) (ss : List Span) → length (joined (map (span_in region) ss)) ≤ span_bytes ss
joined_short region [] = omega arith
joined_short region (s ∷ ss) =
    let rest = joined_short region ss in
    let size = length-take (s.place + s.length - s.place) (drop s.place region) in
    let sum = length-append (span_in region s) (joined (map (span_in region) ss)) in
    omega (arith, rest, size, sum)

-- the columns from the nth on, and where the nth stands
pub held_behind : (region : List ℕ) (n from to : ℕ) (ss : List Span) → JoinedSpans from ss to → length (joined (drop n (map (span_in region) ss))) + get_or (places ss) n to ≤ to
held_behind region zero from to ss at =
    let short = joined_short region ss in
    let start = joined_start from to ss at in
    let total = joined_total from to ss at in
    omega (arith, short, start, total)
held_behind region (suc n) from to [] at = omega arith
held_behind region (suc n) from to (s ∷ ss) at = held_behind region n (from + s.length) to ss at.1
