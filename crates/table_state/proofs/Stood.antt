-- What a table's fields keep while rows are added, expire and are cut away.
use Rattle.std.proofs.Common.{◌≡◌, ℕ, zero, suc, ◌+◌, ◌-◌, ◌<◌, ◌≤◌, List, [], ◌∷◌, ◌++◌, length, take, drop, ℤ, pos, int_le, Option, None, refl, sym, ap, ap₂, subst, ◌∙◌, arith}
use Rattle.std.specs.Int.{int_max}
use Rattle.std.specs.List.{AllByRecursion}
use Rattle.std.proofs.lemmas.List.{append-nil, append_assoc, drop-append-le, length-append, length-drop, length-take-le, take-append-drop}
use Rattle.std.proofs.lemmas.List.Concat.{flat_map-append}
use Rattle.std.proofs.lemmas.List.Elements.{filter-append}
use Rattle.row_model.specs.declared.rows.Row.{Row}
use Rattle.row_model.specs.Values.{IsRow, IsTime}
use Rattle.leaf_model.specs.declared.writes.Write.TheVariants.{Expire}
use Rattle.leaf_model.specs.Content.{content_after, last_rows, rows_from}
use Rattle.row_records.specs.Records.{LogRecord}
use Rattle.row_blocks.specs.Blocks.{Block, IsBlock, rows_in}
use Rattle.row_blocks.specs.Held.{IsSkip, block_rows, blocks_held, rows_held}
use Rattle.expiry.specs.Laws.{HorizonsExpire}
use Rattle.table_state.specs.declared.parts.Parts.{Parts}
use Rattle.table_state.specs.Stored.{AreSealed, StoreStands, in_runs, sealed_rows}
use Rattle.table_state.specs.Tables.{IsHeldRow, IsParts, IsPartsOf, IsStored, Table, empty_table, most_rows, no_store}
use Rattle.table_state.proofs.Fronts.{counted, drop_none, sealed_none}
use Rattle.table_state.proofs.Keeping.{all_from, are_rows, each-append, each-drop, each-take, each_from, few_from}
use Rattle.table_state.proofs.Runs.{rest_short, runs_fit}

-- ---- the rows that stand

blocks_each : (blocks : List Block) → AllByRecursion IsBlock blocks → AllByRecursion IsRow (block_rows blocks)
blocks_each [] all = tt
blocks_each (b ∷ blocks) all = each-append IsRow (rows_in b) (block_rows blocks) all.0.rows_are (blocks_each blocks all.1)

sealed_each : (blocks : List Block) (skip : ℕ) (h : ℤ) → AllByRecursion IsBlock blocks → AllByRecursion (IsHeldRow h) (sealed_rows blocks skip h)
unfolding sealed_rows
sealed_each blocks skip h all = each_from h (drop skip (block_rows blocks)) (each-drop IsRow skip (block_rows blocks) (blocks_each blocks all))

pub all_rows : (blocks : List Block) (tail : List Row) (skip : ℕ) (h : ℤ) → AllByRecursion (IsHeldRow h) tail → rows_held blocks tail skip h ≡ sealed_rows blocks skip h ++ tail
unfolding sealed_rows
all_rows blocks tail skip h each =
    filter-append (λ (row : Row). int_le h row.time) (drop skip (block_rows blocks)) tail ∙ ap (λ (l : List Row). blocks_held blocks skip h ++ l) (all_from h tail each)

-- what the fields of a table mean
abbrev pub standing : List Block → ℕ → List Row → ℤ → ℕ → Option LogRecord → Table
standing blocks skip tail h writes pending =
    record { contents = record { rows = sealed_rows blocks skip h ++ tail; horizon = h }; writes = writes; pending = pending; store = record { blocks = blocks; skip = skip; tail = tail } }

module _ (blocks : List Block) (skip : ℕ) (tail : List Row) (h : ℤ) (live : ℕ) (s : StoreStands blocks skip tail h live) where
  pub held_count : length (sealed_rows blocks skip h ++ tail) ≡ live + length tail
  held_count = omega (arith, length-append (sealed_rows blocks skip h) tail, s.counted)

  pub stored : (writes : ℕ) (pending : Option LogRecord) → IsStored (standing blocks skip tail h writes pending)
  stored writes pending = record {
    held = record {
      horizon = s.time;
      few = omega (arith, held_count, s.few);
      each = each-append (IsHeldRow h) (sealed_rows blocks skip h) tail (sealed_each blocks skip h s.sealed) s.each;
    };
    skip = s.cut;
    blocks = s.sealed;
    tail = are_rows h tail s.each;
    short = s.short;
    rows = all_rows blocks tail skip h s.each;
  }

  -- rows that are sealed behind the blocks
  cut_fits : skip ≤ length (block_rows blocks)
  cut_fits = by blocks s.cut
    where
      by : (l : List Block) → IsSkip skip l → skip ≤ length (block_rows l)
      by [] is = omega (arith, is)
      by (b ∷ l) is = omega (arith, is, counted b, length-append (rows_in b) (block_rows l))

  sealed_more : (more : List Block) → sealed_rows (blocks ++ more) skip h ≡ sealed_rows blocks skip h ++ rows_from h (block_rows more)
  unfolding sealed_rows
  sealed_more more =
      ap (λ (l : List Row). rows_from h (drop skip l)) (flat_map-append rows_in blocks more)
      ∙ ap (rows_from h) (drop-append-le skip (block_rows blocks) (block_rows more) cut_fits)
      ∙ filter-append (λ (row : Row). int_le h row.time) (drop skip (block_rows blocks)) (block_rows more)

  module _ (rows : List Row) (now : List Block) (is : AreSealed blocks rows now) (each : AllByRecursion (IsHeldRow h) rows) where
    pub sealed_rows_are : sealed_rows now skip h ≡ sealed_rows blocks skip h ++ rows
    sealed_rows_are =
        ap (λ (l : List Block). sealed_rows l skip h) is.is ∙ sealed_more is.more
        ∙ ap (λ (l : List Row). sealed_rows blocks skip h ++ rows_from h l) is.same ∙ ap (λ (l : List Row). sealed_rows blocks skip h ++ l) (all_from h rows each)

    pub sealed_cut : IsSkip skip now
    sealed_cut = subst (IsSkip skip) (sym is.is) (by blocks is.more s.cut is.each)
      where
        by : (l more : List Block) → IsSkip skip l → AllByRecursion IsBlock more → IsSkip skip (l ++ more)
        by [] [] cut all = cut
        by [] (b ∷ more) cut all = let some = all.0.some in omega (arith, cut, some)
        by (b ∷ l) more inside all = inside

    pub sealed_blocks : AllByRecursion IsBlock now
    sealed_blocks = subst (AllByRecursion IsBlock) (sym is.is) (by blocks s.sealed)
      where
        by : (l : List Block) → AllByRecursion IsBlock l → AllByRecursion IsBlock (l ++ is.more)
        by [] all = is.each
        by (b ∷ l) all = (all.0, by l all.1)

-- ---- an add

module _ (blocks : List Block) (skip : ℕ) (tail : List Row) (h : ℤ) (live : ℕ) (s : StoreStands blocks skip tail h live) (more : List Row) (are : AllByRecursion IsRow more) where
  abbrev all : List Row
  all = tail ++ rows_from h more

  abbrev gone : ℕ
  gone = in_runs (length all)

  each : AllByRecursion (IsHeldRow h) all
  each = each-append (IsHeldRow h) tail (rows_from h more) s.each (each_from h more are)

  module _ (now : List Block) (is : AreSealed blocks (take gone all) now) where
    taken : AllByRecursion (IsHeldRow h) (take gone all)
    taken = each-take (IsHeldRow h) gone all each

    pub added_stands : live + length tail + length (rows_from h more) ≤ most_rows → StoreStands now skip (drop gone all) h (live + gone)
    added_stands few =
        let sealed = ap (λ (l : List Row). length l) (sealed_rows_are blocks skip tail h live s (take gone all) now is taken) in
        let first = length-take-le gone all (runs_fit (length all)) in
        let rest = length-drop gone all in
        record {
          time = s.time;
          cut = sealed_cut blocks skip tail h live s (take gone all) now is taken;
          sealed = sealed_blocks blocks skip tail h live s (take gone all) now is taken;
          each = each-drop (IsHeldRow h) gone all each;
          short = subst (λ (n : ℕ). n ≤ 65535) (sym rest) (rest_short (length all));
          counted = omega (arith, sealed, length-append (sealed_rows blocks skip h) (take gone all), first, s.counted);
          few = let fits = runs_fit (length all) in omega (arith, rest, fits, length-append tail (rows_from h more), few);
        }

    pub added_rows : sealed_rows now skip h ++ drop gone all ≡ (sealed_rows blocks skip h ++ tail) ++ rows_from h more
    added_rows =
        let old = sealed_rows blocks skip h in
        ap (λ (l : List Row). l ++ drop gone all) (sealed_rows_are blocks skip tail h live s (take gone all) now is taken)
        ∙ append_assoc old (take gone all) (drop gone all) ∙ ap (λ (l : List Row). old ++ l) (take-append-drop gone all) ∙ sym (append_assoc old tail (rows_from h more))

-- the same, by what is known of the calls
module _ (blocks : List Block) (skip : ℕ) (tail : List Row) (h : ℤ) (live : ℕ) (s : StoreStands blocks skip tail h live) (more : List Row) (are : AllByRecursion IsRow more) (full : List Row)
    (put : full ≡ tail ++ rows_from h more) (now : List Block) (is : AreSealed blocks (take (in_runs (length full)) full) now) (rest : List Row) (left : rest ≡ drop (in_runs (length full)) full) where
  behind : AreSealed blocks (take (in_runs (length (tail ++ rows_from h more))) (tail ++ rows_from h more)) now
  behind = subst (λ (l : List Row). AreSealed blocks (take (in_runs (length l)) l) now) put is

  others : rest ≡ drop (in_runs (length (tail ++ rows_from h more))) (tail ++ rows_from h more)
  others = left ∙ ap (λ (l : List Row). drop (in_runs (length l)) l) put

  pub add_stands : (count : ℕ) → count ≡ in_runs (length full) → live + length tail + length (rows_from h more) ≤ most_rows → StoreStands now skip rest h (live + count)
  add_stands count e few =
      subst (λ (l : List Row). StoreStands now skip l h (live + count)) (sym others)
      (subst (λ (n : ℕ). StoreStands now skip (drop (in_runs (length (tail ++ rows_from h more))) (tail ++ rows_from h more)) h (live + n)) (sym (e ∙ ap (λ (l : List Row). in_runs (length l)) put))
      (added_stands blocks skip tail h live s more are now behind few))

  pub add_rows : sealed_rows now skip h ++ rest ≡ (sealed_rows blocks skip h ++ tail) ++ rows_from h more
  add_rows = ap (λ (l : List Row). sealed_rows now skip h ++ l) others ∙ added_rows blocks skip tail h live s more are now behind

-- ---- an expiry

module _ (blocks : List Block) (skip : ℕ) (tail : List Row) (h g now : ℤ) (later : now ≡ int_max h g) (live : ℕ) (s : StoreStands blocks skip tail h live) (law : HorizonsExpire)
    (left : List Block) (cut : ℕ) (same : sealed_rows left cut now ≡ sealed_rows blocks skip now) where
  from_max : sealed_rows blocks skip (int_max h g) ≡ rows_from (int_max h g) (sealed_rows blocks skip h)
  unfolding sealed_rows
  from_max = sym (law (drop skip (block_rows blocks)) h g)

  from_old : sealed_rows blocks skip now ≡ rows_from now (sealed_rows blocks skip h)
  from_old = subst (λ (t : ℤ). sealed_rows blocks skip t ≡ rows_from t (sealed_rows blocks skip h)) (sym later) from_max

  pub raised_rows : sealed_rows left cut now ++ rows_from now tail ≡ rows_from now (sealed_rows blocks skip h ++ tail)
  raised_rows =
      ap (λ (l : List Row). l ++ rows_from now tail) (same ∙ from_old)
      ∙ sym (filter-append (λ (row : Row). int_le now row.time) (sealed_rows blocks skip h) tail)

  pub raised_fewer : length (sealed_rows left cut now) ≤ live
  raised_fewer =
      let count = ap (λ (l : List Row). length l) (same ∙ from_old) in
      omega (arith, count, few_from now (sealed_rows blocks skip h), s.counted)

  pub raised_few : length (sealed_rows left cut now) ≤ most_rows
  raised_few = omega (arith, raised_fewer, s.few)

  pub raised_stands : (rest : List Row) (counted : ℕ) → rest ≡ rows_from now tail → IsTime now → IsSkip cut left → AllByRecursion IsBlock left → counted ≡ length (sealed_rows left cut now)
      → StoreStands left cut rest now counted
  raised_stands rest counted e time inside sealed is =
      let fewer = few_from now tail in
      subst (λ (l : List Row). StoreStands left cut l now counted) (sym e) (record {
        time = time;
        cut = inside;
        sealed = sealed;
        each = each_from now tail (are_rows h tail s.each);
        short = omega (arith, fewer, s.short);
        counted = is;
        few = omega (arith, fewer, is, raised_fewer, s.few);
      })

  pub raised_contents : (rest : List Row) → rest ≡ rows_from now tail
      → (record { rows = sealed_rows left cut now ++ rest; horizon = now }) ≡ content_after (record { rows = sealed_rows blocks skip h ++ tail; horizon = h }) (Expire g)
  raised_contents rest e =
      ap (λ (rows : List Row). record { rows = rows; horizon = now }) (ap (λ (l : List Row). sealed_rows left cut now ++ l) e ∙ raised_rows)
      ∙ ap (λ (t : ℤ). record { rows = rows_from t (sealed_rows blocks skip h ++ tail); horizon = t }) later

  pub raised_length : (rest : List Row) → rest ≡ rows_from now tail → length (sealed_rows left cut now ++ rest) ≤ live + length tail
  raised_length rest e =
      let count = ap (λ (l : List Row). length l) e in
      omega (arith, length-append (sealed_rows left cut now) rest, count, few_from now tail, raised_fewer)

-- ---- a keep

drop_two : (xs ys : List Row) (k f : ℕ) → f ≤ k → f ≤ length xs → (f < length xs → f ≡ k) → drop f xs ++ drop (k - f) ys ≡ drop k (xs ++ ys)
drop_two [] ys k f low high full =
    let none : f ≡ 0 = omega (arith, high) in
    let same : k - f ≡ k = omega (arith, none) in
    ap₂ (λ (l : List Row) (m : ℕ). l ++ drop m ys) (drop_none f) same
drop_two (x ∷ xs) ys zero f low high full =
    let none : f ≡ 0 = omega (arith, low) in ap (λ (m : ℕ). drop m (x ∷ xs) ++ drop (0 - m) ys) none
drop_two (x ∷ xs) ys (suc k) zero low high full = absurd (omega (arith, full (omega arith)))
drop_two (x ∷ xs) ys (suc k) (suc f) low high full =
    let same : suc k - suc f ≡ k - f = omega arith in
    ap (λ (m : ℕ). drop f xs ++ drop m ys) same
    ∙ drop_two xs ys k f (omega (arith, low)) (omega (arith, high)) (λ less. omega (arith, full (omega (arith, less))))

module _ (blocks : List Block) (skip : ℕ) (tail : List Row) (h : ℤ) (live : ℕ) (s : StoreStands blocks skip tail h live) (n gone first : ℕ) (is : gone ≡ live + length tail - n)
    (low : first ≤ gone) (high : first ≤ live) (full : first < live → first ≡ gone) (left : List Block) (cut : ℕ) (same : sealed_rows left cut h ≡ drop first (sealed_rows blocks skip h)) where
  pub kept_rows : sealed_rows left cut h ++ drop (gone - first) tail ≡ last_rows n (sealed_rows blocks skip h ++ tail)
  kept_rows =
      let old = sealed_rows blocks skip h in
      let all : gone ≡ length (old ++ tail) - n = omega (arith, is, held_count blocks skip tail h live s) in
      ap (λ (l : List Row). l ++ drop (gone - first) tail) same
      ∙ drop_two old tail gone first low (omega (arith, high, s.counted)) (λ less. full (omega (arith, less, s.counted)))
      ∙ ap (λ (m : ℕ). drop m (old ++ tail)) all

  pub kept_stands : IsSkip cut left → AllByRecursion IsBlock left → StoreStands left cut (drop (gone - first) tail) h (live - first)
  kept_stands inside sealed =
      let count = ap (λ (l : List Row). length l) same in
      let rest = length-drop (gone - first) tail in
      record {
        time = s.time;
        cut = inside;
        sealed = sealed;
        each = each-drop (IsHeldRow h) (gone - first) tail s.each;
        short = omega (arith, rest, s.short);
        counted = omega (arith, count, length-drop first (sealed_rows blocks skip h), s.counted);
        few = omega (arith, rest, s.few);
      }

-- ---- a tail that is sealed

module _ (blocks : List Block) (skip : ℕ) (tail : List Row) (h : ℤ) (live : ℕ) (s : StoreStands blocks skip tail h live) (now : List Block) (is : AreSealed blocks tail now) where
  pub tail_rows : sealed_rows now skip h ++ [] ≡ sealed_rows blocks skip h ++ tail
  tail_rows = append-nil (sealed_rows now skip h) ∙ sealed_rows_are blocks skip tail h live s tail now is s.each

  pub tail_stands : StoreStands now skip [] h (live + length tail)
  tail_stands = record {
    time = s.time;
    cut = sealed_cut blocks skip tail h live s tail now is s.each;
    sealed = sealed_blocks blocks skip tail h live s tail now is s.each;
    each = tt;
    short = omega arith;
    counted = let count = ap (λ (l : List Row). length l) (sealed_rows_are blocks skip tail h live s tail now is s.each) in omega (arith, count, length-append (sealed_rows blocks skip h) tail, s.counted);
    few = omega (arith, s.few);
  }

-- ---- parts

pub parts_of : (blocks : List Block) (skip : ℕ) (tail : List Row) (h : ℤ) (live : ℕ) → StoreStands blocks skip tail h live → (writes : ℕ) (pending : Option LogRecord) → tail ≡ []
    → IsPartsOf (record { horizon = h; writes = writes; skip = skip; blocks = blocks }) (standing blocks skip tail h writes pending)
parts_of blocks skip tail h live s writes pending none = record {
  contents = ap (λ (rows : List Row). record { rows = rows; horizon = h }) (all_rows blocks [] skip h tt ∙ ap (λ (l : List Row). sealed_rows blocks skip h ++ l) (sym none));
  writes = refl;
  skip = refl;
  blocks = refl;
  tail = none;
}

pub are_parts : (blocks : List Block) (skip : ℕ) (tail : List Row) (h : ℤ) (live : ℕ) → StoreStands blocks skip tail h live → (writes : ℕ) → tail ≡ []
    → IsParts (record { horizon = h; writes = writes; skip = skip; blocks = blocks })
are_parts blocks skip tail h live s writes none = record {
  horizon = s.time;
  skip = s.cut;
  blocks = s.sealed;
  few = let count = ap (λ (l : List Row). length l) (all_rows blocks [] skip h tt ∙ append-nil (sealed_rows blocks skip h)) in omega (arith, count, s.counted, s.few);
}

pub parts_few : (p : Parts) → IsParts p → length (sealed_rows p.blocks p.skip p.horizon) ≤ most_rows
parts_few p is =
    let count = ap (λ (l : List Row). length l) (all_rows p.blocks [] p.skip p.horizon tt ∙ append-nil (sealed_rows p.blocks p.skip p.horizon)) in omega (arith, count, is.few)

pub parts_stand : (p : Parts) (blocks : List Block) (tail : List Row) (live : ℕ) → IsParts p → blocks ≡ p.blocks → tail ≡ [] → live ≡ length (sealed_rows p.blocks p.skip p.horizon)
    → StoreStands blocks p.skip tail p.horizon live
parts_stand p blocks tail live is same none counted =
    subst (λ (l : List Block). StoreStands l p.skip tail p.horizon live) (sym same) (subst (λ (l : List Row). StoreStands p.blocks p.skip l p.horizon live) (sym none) (record {
      time = is.horizon;
      cut = is.skip;
      sealed = is.blocks;
      each = tt;
      short = omega arith;
      counted = counted;
      few = omega (arith, counted, parts_few p is);
    }))

pub parts_told : (p : Parts) (blocks : List Block) (tail : List Row) (pending : Option LogRecord) → blocks ≡ p.blocks → tail ≡ [] → IsPartsOf p (standing blocks p.skip tail p.horizon p.writes pending)
parts_told p blocks tail pending same none =
    subst (λ (l : List Block). IsPartsOf p (standing l p.skip tail p.horizon p.writes pending)) (sym same) (record {
      contents = ap (λ (rows : List Row). record { rows = rows; horizon = p.horizon }) (all_rows p.blocks [] p.skip p.horizon tt ∙ ap (λ (l : List Row). sealed_rows p.blocks p.skip p.horizon ++ l) (sym none));
      writes = refl;
      skip = refl;
      blocks = refl;
      tail = none;
    })

-- ---- no rows

pub none_stand : (blocks : List Block) (tail : List Row) (h : ℤ) → blocks ≡ [] → tail ≡ [] → IsTime h → StoreStands blocks 0 tail h 0
none_stand blocks tail h no_blocks none time =
    subst (λ (l : List Block). StoreStands l 0 tail h 0) (sym no_blocks) (subst (λ (l : List Row). StoreStands [] 0 l h 0) (sym none) (record {
      time = time;
      cut = refl;
      sealed = tt;
      each = tt;
      short = omega arith;
      counted = sym (ap (λ (l : List Row). length l) (sealed_none 0 h));
      few = omega arith;
    }))

pub none_held : (blocks : List Block) (tail : List Row) (h : ℤ) → blocks ≡ [] → tail ≡ [] → sealed_rows blocks 0 h ++ tail ≡ []
none_held blocks tail h no_blocks none = ap₂ (λ (b : List Block) (l : List Row). sealed_rows b 0 h ++ l) no_blocks none ∙ append-nil (sealed_rows [] 0 h) ∙ sealed_none 0 h

pub none_told : (blocks : List Block) (tail : List Row) (pending : Option LogRecord) → blocks ≡ [] → tail ≡ [] → pending ≡ None → standing blocks 0 tail (pos 0) 0 pending ≡ empty_table
none_told blocks tail pending no_blocks none nothing =
    ap₂ (λ (b : List Block) (l : List Row). standing b 0 l (pos 0) 0 pending) no_blocks none
    ∙ ap₂ (λ (l : List Row) (p : Option LogRecord). record { contents = record { rows = l; horizon = pos 0 }; writes = 0; pending = p; store = no_store }) (none_held [] [] (pos 0) refl refl) nothing
