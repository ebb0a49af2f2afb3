-- Taking the tables of an image by their names.
use Rattle.std.proofs.Common.{◌≡◌, ℕ, zero, suc, ◌+◌, ◌<◌, ◌≤◌, ◌^◌, Bool, true, false, ◌||◌, cond, not, ltb, List, [], ◌∷◌, length, find, position, slice_get, slice_index_or, ◌++◌, map, drop, Option, Some, None, unwrap_or, refl, sym, ap, ap₂, ◌∙◌, arith, ltb-true, ltb-false, subst}
use Rattle.std.specs.Prelude.{◌≢◌, Contains}
use Rattle.std.specs.List.{AllByRecursion, list_any, position_or_len, remove}
use Rattle.std.specs.Str.{bytes_eq}
use Rattle.std.proofs.lemmas.Slice.Eq.{bytes_eq-Decides}
use Rattle.std.proofs.lemmas.List.Folds.{find_at}
use Rattle.std.proofs.lemmas.List.{append_assoc, map-append}
use Rattle.std.proofs.lemmas.Option.{slice_get_past}
use Rattle.row_model.specs.declared.rows.Row.{Row}
use Rattle.leaf_model.specs.Content.{Contents}
use Rattle.row_records.specs.Records.{LogRecord}
use Rattle.row_blocks.specs.Blocks.{Block}
use Rattle.row_blocks.specs.Held.{columns_count, rows_and_cells}
use Rattle.table_state.specs.declared.parts.Parts.{Parts}
use Rattle.table_state.specs.Tables.{IsPartsOf, Table, bare, columns_most, no_store}
use Rattle.region_layout.specs.Images.{TableImage, empty_image, image_names, is_named, table_named, table_of, tables_of}
use Rattle.region_layout.specs.declared.drained.DrainTable.{DrainTable}
use Rattle.region_layout.specs.Region.{image_of_parts}
use Rattle.region_layout.specs.Drained.{images_of}
use Rattle.region_strangers.specs.Strangers.{stranger_of}
use Rattle.adopt.specs.Tables.{has_name, without}
use Rattle.region_strangers.proofs.First.{no_place_by, place_by}

-- ---- the table that parts make

abbrev table_with : Contents → ℕ → Option LogRecord → Table
table_with contents writes pending = record { contents = contents; writes = writes; pending = pending; store = no_store }

made_by : (a b : Contents) (m n : ℕ) (pending : Option LogRecord) → a ≡ b → m ≡ n → pending ≡ None → table_with b n pending ≡ table_with a m None
made_by a b m n pending same count none = ap₂ (λ (c : Contents) (k : ℕ). table_with c k pending) (sym same) (sym count) ∙ ap (table_with a m) none

pub made_of : (name : List ℕ) (parts : Parts) (t : Table) → IsPartsOf parts t → t.pending ≡ None → bare t ≡ table_of (image_of_parts name parts)
made_of name parts t of none = made_by (table_of (image_of_parts name parts)).contents t.contents parts.writes t.writes t.pending of.contents of.writes none

-- its tail is empty
columns_by : (here blocks : List Block) (tail : List Row) → blocks ≡ here → tail ≡ [] → columns_count here + rows_and_cells tail ≡ columns_count blocks
columns_by here blocks tail same none = ap₂ (λ (l : List Block) (rows : List Row). columns_count l + rows_and_cells rows) (sym same) none ∙ omega arith

pub made_columns : (parts : Parts) (t : Table) → IsPartsOf parts t → columns_most t.store ≡ columns_count parts.blocks
made_columns parts t of = columns_by t.store.blocks parts.blocks t.store.tail of.blocks of.tail

-- ---- what one table's taking leaves for another name

abbrev image : DrainTable → TableImage
image t = image_of_parts t.name t.parts

differ : (a b : List ℕ) (same : Bool) → bytes_eq a b ≡ same → a ≢ b → same ≡ false
differ a b true e other = absurd (other ((bytes_eq-Decides a b).0 e))
differ a b false e other = refl

other_name : (t : DrainTable) (name other : List ℕ) → has_name name t ≡ true → other ≢ name → has_name other t ≡ false
other_name t name other e differs = differ t.name other (has_name other t) refl (λ same. differs (sym same ∙ (bytes_eq-Decides t.name name).0 e))

find_past : (p : TableImage → Bool) (t : TableImage) (ts : List TableImage) → p t ≡ false → find p (t ∷ ts) ≡ find p ts
find_past p t ts e = rw e refl

elsewhere_by : (name other : List ℕ) (t : DrainTable) (ts left : List DrainTable) (b : Bool) → has_name name t ≡ b → other ≢ name
    → find (is_named other) (images_of left) ≡ find (is_named other) (images_of ts) → find (is_named other) (images_of (cond b ts (t ∷ left))) ≡ find (is_named other) (images_of (t ∷ ts))
elsewhere_by name other t ts left true e differs same = sym (find_past (is_named other) (image t) (images_of ts) (other_name t name other e differs))
elsewhere_by name other t ts left false e differs same = ap (λ (o : Option TableImage). cond (has_name other t) (Some (image t)) o) same

found_elsewhere : (name other : List ℕ) (tables : List DrainTable) → other ≢ name → find (is_named other) (images_of (without name tables)) ≡ find (is_named other) (images_of tables)
found_elsewhere name other [] differs = refl
found_elsewhere name other (t ∷ ts) differs = elsewhere_by name other t ts (without name ts) (has_name name t) refl differs (found_elsewhere name other ts differs)

-- for each name what is told of its table
abbrev pub each_told : {A : Type 0} → (TableImage → A) → List (List ℕ) → List DrainTable → List A
each_told told names tables = map (λ name. told (table_named (images_of tables) name)) names

-- the other names have the tables that they had
others_told : {A : Type 0} (told : TableImage → A) (name : List ℕ) (names : List (List ℕ)) (tables : List DrainTable) → AllByRecursion (λ other. other ≢ name) names → each_told told names (without name tables) ≡ each_told told names tables
others_told told name [] tables others = refl
others_told told name (other ∷ names) tables others =
    ap₂ (λ t ts. t ∷ ts) (ap (λ (o : Option TableImage). told (unwrap_or o (empty_image other))) (found_elsewhere name other tables others.0)) (others_told told name names tables others.1)

each_by : (P : DrainTable → Type 0) (t : DrainTable) (ts left : List DrainTable) (b : Bool) → P t → AllByRecursion P ts → AllByRecursion P left → AllByRecursion P (cond b ts (t ∷ left))
each_by P t ts left true here rest more = rest
each_by P t ts left false here rest more = (here, more)

pub each_without : (P : DrainTable → Type 0) (name : List ℕ) (tables : List DrainTable) → AllByRecursion P tables → AllByRecursion P (without name tables)
each_without P name [] each = tt
each_without P name (t ∷ ts) each = each_by P t ts (without name ts) (has_name name t) each.0 each.1 (each_without P name ts each.1)

-- ---- where the table of a name stands

without_by : (t : DrainTable) (ts left : List DrainTable) (k : ℕ) (b : Bool) → left ≡ remove ts k → cond b ts (t ∷ left) ≡ remove (t ∷ ts) (cond (not b) (1 + k) 0)
without_by t ts left k true e = refl
without_by t ts left k false e =
    let one : suc k ≡ 1 + k = omega arith in
    ap (λ (l : List DrainTable). t ∷ l) e ∙ ap (λ (n : ℕ). remove (t ∷ ts) n) one

without_is : (name : List ℕ) (tables : List DrainTable) → without name tables ≡ remove tables (position_or_len (has_name name) tables)
without_is name [] = refl
without_is name (t ∷ ts) = without_by t ts (without name ts) (position_or_len (has_name name) ts) (has_name name t) (without_is name ts)

remove_past : (tables : List DrainTable) (k : ℕ) → length tables ≤ k → remove tables k ≡ tables
remove_past [] zero past = refl
remove_past [] (suc k) past = refl
remove_past (x ∷ xs) zero past = absurd (omega (arith, past))
remove_past (x ∷ xs) (suc k) past = ap (λ (l : List DrainTable). x ∷ l) (remove_past xs k (omega (arith, past)))

abbrev option_image : Option DrainTable → Option TableImage
option_image (Some t) = Some (image t)
option_image None = None

map_found : (t : DrainTable) (found : Option DrainTable) (b : Bool) → cond b (Some (image t)) (option_image found) ≡ option_image (cond b (Some t) found)
map_found t found true = refl
map_found t found false = refl

-- the first image of a name is that of the first table of the name
found_image : (name : List ℕ) (tables : List DrainTable) → find (is_named name) (images_of tables) ≡ option_image (find (has_name name) tables)
found_image name [] = refl
found_image name (t ∷ ts) = ap (λ (o : Option TableImage). cond (has_name name t) (Some (image t)) o) (found_image name ts) ∙ map_found t (find (has_name name) ts) (has_name name t)

-- it stands in that place
pub named_at : (name : List ℕ) (tables : List DrainTable) (i : ℕ) → position (has_name name) tables ≡ Some i → (i < length tables) × (find (has_name name) tables ≡ slice_get tables i)
named_at name tables i e =
    let p = has_name name in
    let at = place_by (ltb (position_or_len p tables) (length tables)) (position_or_len p tables) i e in
    let within = ltb-true (position_or_len p tables) (length tables) at.0 in
    (omega (arith, within, at.1), find_at p tables ∙ ap (slice_get tables) (sym at.1))

pub taken_at : (name : List ℕ) (tables : List DrainTable) (t : DrainTable) → find (has_name name) tables ≡ Some t → table_named (images_of tables) name ≡ image_of_parts t.name t.parts
taken_at name tables t e = ap (λ (o : Option TableImage). unwrap_or o (empty_image name)) (found_image name tables ∙ ap option_image e)

pub removed_at : (name : List ℕ) (tables : List DrainTable) (i : ℕ) → position (has_name name) tables ≡ Some i → remove tables i ≡ without name tables
removed_at name tables i e =
    let p = has_name name in
    let at = place_by (ltb (position_or_len p tables) (length tables)) (position_or_len p tables) i e in
    ap (λ (k : ℕ). remove tables k) at.1 ∙ sym (without_is name tables)

-- it stands nowhere
pub taken_nowhere : (name : List ℕ) (tables : List DrainTable) → position (has_name name) tables ≡ None → table_named (images_of tables) name ≡ empty_image name
taken_nowhere name tables e =
    let p = has_name name in
    let past = ltb-false (position_or_len p tables) (length tables) (no_place_by (ltb (position_or_len p tables) (length tables)) (position_or_len p tables) e) in
    ap (λ (o : Option TableImage). unwrap_or o (empty_image name)) (found_image name tables ∙ ap option_image (find_at p tables ∙ slice_get_past tables (position_or_len p tables) past))

pub removed_nowhere : (name : List ℕ) (tables : List DrainTable) → position (has_name name) tables ≡ None → tables ≡ without name tables
removed_nowhere name tables e =
    let p = has_name name in
    let past = ltb-false (position_or_len p tables) (length tables) (no_place_by (ltb (position_or_len p tables) (length tables)) (position_or_len p tables) e) in
    sym (remove_past tables (position_or_len p tables) past) ∙ sym (without_is name tables)

pub each_at : (P : DrainTable → Type 0) (tables : List DrainTable) (i : ℕ) (t : DrainTable) → AllByRecursion P tables → slice_get tables i ≡ Some t → P t
each_at P [] i t each at = absurd cc
each_at P (x ∷ xs) zero t each at = subst P (ap (λ (o : Option DrainTable). unwrap_or o x) at) each.0
each_at P (x ∷ xs) (suc i) t each at = each_at P xs i t each.1 at

-- ---- one name after another

-- what is told of the table of the next name stands behind what is told of those that were taken
pub one_more : {A : Type 0} (told : TableImage → A) (name : List ℕ) (names : List (List ℕ)) (tables : List DrainTable) (taken whole : List A) (t : A) → AllByRecursion (λ other. other ≢ name) names
    → taken ++ each_told told (name ∷ names) tables ≡ whole → t ≡ told (table_named (images_of tables) name) → (taken ++ t ∷ []) ++ each_told told names (without name tables) ≡ whole
one_more told name names tables taken whole t others so_far is =
    append_assoc taken (t ∷ []) (each_told told names (without name tables))
    ∙ ap₂ (λ x xs. taken ++ x ∷ xs) is (others_told told name names tables others)
    ∙ so_far

-- and so it does where what is told of a table that was made is what is told of it in the image
pub told_more : {A : Type 0} (told : TableImage → A) (of : Table → A) (name : List ℕ) (names : List (List ℕ)) (i : ℕ) (tables all : List DrainTable) (had : List Table) (taken : Table) (now : List Table) (left : List DrainTable)
    → drop i names ≡ name ∷ drop (i + 1) names → AllByRecursion (λ other. other ≢ name) (drop (i + 1) names) → now ≡ had ++ taken ∷ [] → left ≡ without name tables
    → map of had ++ each_told told (drop i names) tables ≡ each_told told names all → of taken ≡ told (table_named (images_of tables) name)
    → map of now ++ each_told told (drop (i + 1) names) left ≡ each_told told names all
told_more told of name names i tables all had taken now left item others pushed rest so_far is =
    ap₂ (λ (l : List Table) (ts : List DrainTable). map of l ++ each_told told (drop (i + 1) names) ts) pushed rest
    ∙ ap (λ l. l ++ each_told told (drop (i + 1) names) (without name tables)) (map-append of had (taken ∷ []))
    ∙ one_more told name (drop (i + 1) names) tables (map of had) (each_told told names all) (of taken) others
    (subst (λ (l : List (List ℕ)). map of had ++ each_told told l tables ≡ each_told told names all) item so_far) is

-- ---- what all tables have

pub tables_size : (names : List (List ℕ)) (images : List TableImage) → length (tables_of names images) ≡ length names
tables_size [] images = refl
tables_size (name ∷ names) images = ap suc (tables_size names images)

few_by : (t : TableImage) (found : Option TableImage) (name : List ℕ) (b : Bool) → t.writes < 2 ^ 63 → (unwrap_or found (empty_image name)).writes < 2 ^ 63 → (unwrap_or (cond b (Some t) found) (empty_image name)).writes < 2 ^ 63
few_by t found name true here rest = here
few_by t found name false here rest = rest

few_writes : (name : List ℕ) (tables : List DrainTable) → AllByRecursion (λ (t : DrainTable). t.parts.writes < 2 ^ 63) tables → (table_named (images_of tables) name).writes < 2 ^ 63
few_writes name [] each = omega arith
few_writes name (t ∷ ts) each = few_by (image t) (find (is_named name) (images_of ts)) name (has_name name t) each.0 (few_writes name ts each.1)

pub each_adopted : (names : List (List ℕ)) (tables : List DrainTable) → AllByRecursion (λ (t : DrainTable). t.parts.writes < 2 ^ 63) tables → AllByRecursion (λ (t : Table). (t.pending ≡ None) × (t.writes < 2 ^ 63)) (tables_of names (images_of tables))
each_adopted [] tables each = tt
each_adopted (name ∷ names) tables each = ((refl, few_writes name tables each), each_adopted names tables each)

-- ---- no table is a stranger

never : (b : Bool) → false ≡ true → b ≡ true
never b e = absurd cc

among_by : (names : List (List ℕ)) (name other : List ℕ) (b : Bool) → bytes_eq name other ≡ b → (other ≡ name → b ≡ true) → (k : ℕ) → k < length (other ∷ names) → slice_index_or (other ∷ names) k name ≡ name
    → ((i : ℕ) → i < length names → slice_index_or names i name ≡ name → list_any (bytes_eq name) names ≡ true) → (b || list_any (bytes_eq name) names) ≡ true
among_by names name other true same yields k within is others = refl
among_by names name other false same yields zero within is others = never (list_any (bytes_eq name) names) (yields is)
among_by names name other false same yields (suc k) within is others = others k (omega (arith, within)) is

among : (names : List (List ℕ)) (name : List ℕ) (k : ℕ) → k < length names → slice_index_or names k name ≡ name → list_any (bytes_eq name) names ≡ true
among [] name k within is = absurd (omega (arith, within))
among (other ∷ names) name k within is = among_by names name other (bytes_eq name other) refl (λ same. (bytes_eq-Decides name other).1 (sym same)) k within is (among names name)

known_by : (b : Bool) (name : List ℕ) (found : Option (List ℕ)) → b ≡ true → found ≡ None → cond (not b) (Some name) found ≡ None
known_by true name found e none = none
known_by false name found e none = absurd cc

pub all_known : (names : List (List ℕ)) (tables : List DrainTable) → AllByRecursion (λ (t : DrainTable). Contains names t.name) tables → stranger_of names (image_names (images_of tables)) ≡ None
all_known names [] each = refl
all_known names (t ∷ ts) each = known_by (list_any (bytes_eq t.name) names) t.name (stranger_of names (image_names (images_of ts))) (among names t.name each.0.0 each.0.1 each.0.2) (all_known names ts each.1)
