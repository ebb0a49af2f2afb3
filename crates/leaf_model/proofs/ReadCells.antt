-- The two laws of a cell: what is read is spelled so, and what is spelled so is read.
use Rattle.std.proofs.Common.{◌≡◌, ℕ, zero, suc, ◌^◌, ◌<◌, ◌≤◌, Bool, true, false, cond, not, List, [], ◌∷◌, ◌++◌, length, map, Some, None, Less, nat_cmp, refl, sym, ap, subst, ◌∙◌, append_assoc, arith}
use Rattle.std.specs.Prelude.{◌≢◌}
use Rattle.std.specs.Ordering.{is_lt}
use Rattle.std.specs.Cmp.Lexicographic.{slice_cmp}
use Rattle.std.specs.List.{flat_map, AllByRecursion}
use Rattle.std.specs.List.Sorted.{IsStrictlySortedBy}
use Rattle.std.specs.Str.{IsUtf8, bytes_eq}
use Rattle.std.specs.Int.{w16, w64, to_le_bytes, cast_signed, cast_unsigned}
use Rattle.std.proofs.lemmas.List.Concat.{flat_map-cons}
use Rattle.std.proofs.lemmas.Int.{of_z-to_z, to_z-of_z}
use Rattle.std.proofs.lemmas.Slice.Eq.{bytes_eq-Decides}
use Rattle.row_model.specs.declared.rows.Value.{Value}
use Rattle.row_model.specs.declared.rows.Value.TheVariants.{Int, Text, Set}
use Rattle.row_model.specs.declared.rows.Cell.{Cell}
use Rattle.row_model.specs.Values.{time_name, IsSet, IsValue, IsCell}
use Rattle.row_model.specs.Sets.{is_set}
use Rattle.leaf_model.specs.Bytes.{name_bytes, text_bytes, value_bytes, cell_bytes, i64_bytes, u16_bytes, IsBytes}
use Rattle.leaf_model.specs.Reading.{◌>>=◌, number_at, text_at, name_at, long_text_at, texts_at, set_at, value_at, may_follow, cell_at, cells_at}
use Rattle.leaf_model.proofs.Fields.{IsBytes-rest, bind_some, held, some_is, Takes, Takes-then, wide16, wide64, number_takes, number_again, text_takes, text_again, name_takes, name_again, cast_fits, unsigned_below}
use Rattle.leaf_model.proofs.TextSets.{above, both_true, each_short, is_less, set_of_test, test_of_set}

-- ---- texts of sets

pub long_text_takes : (bytes : List ℕ) (x : List ℕ × List ℕ) → IsBytes bytes → long_text_at bytes ≡ Some x → Takes bytes (text_bytes x.0) x.1 × IsUtf8 x.0 × (length x.0 ≤ 65535)
unfolding long_text_at
long_text_takes bytes x fits e =
    let a = bind_some (number_at w16 bytes) (λ n. text_at n.0 n.1) x e in
    let first = number_takes w16 (2 ^ 16) wide16 bytes a.0 fits a.1 in
    let second = text_takes a.0.0 a.0.1 x first.0.rest_fits a.2 in
    let both = Takes-then bytes (to_le_bytes w16 a.0.0) a.0.1 x.0 x.1 first.0 second.0 in
    (subst (λ (k : ℕ). Takes bytes (to_le_bytes w16 k ++ x.0) x.1) (sym second.1) both, second.2, omega (arith, first.1, second.1))

pub long_text_again : (text rest : List ℕ) → IsUtf8 text → length text ≤ 65535 → long_text_at (text_bytes text ++ rest) ≡ Some (text, rest)
unfolding long_text_at
long_text_again text rest utf8 short =
    let regrouped : text_bytes text ++ rest ≡ to_le_bytes w16 (length text) ++ (text ++ rest) = append_assoc (to_le_bytes w16 (length text)) text rest in
    ap long_text_at regrouped ∙ rw (number_again w16 (2 ^ 16) wide16 (length text) (text ++ rest) (omega (arith, short)), text_again text rest utf8) refl

pub texts_take : (n : ℕ) (bytes : List ℕ) (x : List (List ℕ) × List ℕ) → IsBytes bytes → texts_at n bytes ≡ Some x → Takes bytes (flat_map text_bytes x.0) x.1 × (length x.0 ≡ n) × AllByRecursion IsUtf8 x.0
unfolding texts_at
texts_take zero bytes x fits e =
    subst (λ (y : List (List ℕ) × List ℕ). Takes bytes (flat_map text_bytes y.0) y.1 × (length y.0 ≡ 0) × AllByRecursion IsUtf8 y.0) (some_is ([], bytes) x e) (record { parts = refl; rest_fits = fits }, refl, tt)
texts_take (suc n) bytes x fits e =
    let a = bind_some (long_text_at bytes) (λ first. texts_at n first.1 >>= λ others. Some (first.0 ∷ others.0, others.1)) x e in
    let b = bind_some (texts_at n a.0.1) (λ others. Some (a.0.0 ∷ others.0, others.1)) x a.2 in
    let first = long_text_takes bytes a.0 fits a.1 in
    let second = texts_take n a.0.1 b.0 first.0.rest_fits b.1 in
    let both = Takes-then bytes (text_bytes a.0.0) a.0.1 (flat_map text_bytes b.0.0) b.0.1 first.0 second.0 in
    let made : List (List ℕ) × List ℕ = (a.0.0 ∷ b.0.0, b.0.1) in
    subst (λ (y : List (List ℕ) × List ℕ). Takes bytes (flat_map text_bytes y.0) y.1 × (length y.0 ≡ suc n) × AllByRecursion IsUtf8 y.0) (some_is made x b.2)
    (rw flat_map-cons both, ap suc second.1, (first.1, second.2))

texts_again : (texts : List (List ℕ)) (rest : List ℕ) → AllByRecursion IsUtf8 texts → AllByRecursion (λ text. length text ≤ 65535) texts → texts_at (length texts) (flat_map text_bytes texts ++ rest) ≡ Some (texts, rest)
unfolding texts_at
texts_again [] rest utf8 short = refl
texts_again (text ∷ texts) rest utf8 short =
    let regrouped : flat_map text_bytes (text ∷ texts) ++ rest ≡ text_bytes text ++ (flat_map text_bytes texts ++ rest) = ap (λ (w : List ℕ). w ++ rest) (flat_map-cons text_bytes text texts) ∙ append_assoc (text_bytes text) (flat_map text_bytes texts) rest in
    ap (texts_at (suc (length texts))) regrouped ∙ rw (long_text_again text (flat_map text_bytes texts ++ rest) utf8.0 short.0, texts_again texts rest utf8.1 short.1) refl

-- a set as bytes
abbrev set_bytes : List (List ℕ) → List ℕ
set_bytes members = u16_bytes (length members) ++ flat_map text_bytes members

set_takes : (bytes : List ℕ) (x : List (List ℕ) × List ℕ) → IsBytes bytes → set_at bytes ≡ Some x → Takes bytes (set_bytes x.0) x.1 × IsSet x.0
unfolding set_at
set_takes bytes x fits e =
    let a = bind_some (number_at w16 bytes) (λ count. texts_at count.0 count.1 >>= λ texts. cond (is_set texts.0) (Some texts) None) x e in
    let b = bind_some (texts_at a.0.0 a.0.1) (λ texts. cond (is_set texts.0) (Some texts) None) x a.2 in
    let g = held (is_set b.0.0) (Some b.0) x b.2 in
    let first = number_takes w16 (2 ^ 16) wide16 bytes a.0 fits a.1 in
    let second = texts_take a.0.0 a.0.1 b.0 first.0.rest_fits b.1 in
    let counted : Takes bytes (to_le_bytes w16 (length b.0.0)) a.0.1 = subst (λ (k : ℕ). Takes bytes (to_le_bytes w16 k) a.0.1) (sym second.1) first.0 in
    let both = Takes-then bytes (to_le_bytes w16 (length b.0.0)) a.0.1 (flat_map text_bytes b.0.0) b.0.1 counted second.0 in
    subst (λ (y : List (List ℕ) × List ℕ). Takes bytes (set_bytes y.0) y.1 × IsSet y.0) (some_is b.0 x g.1) (both, set_of_test b.0.0 second.2 g.0)

set_again : (members : List (List ℕ)) (rest : List ℕ) → IsSet members → set_at (set_bytes members ++ rest) ≡ Some (members, rest)
unfolding set_at
set_again members rest is =
    let texts = flat_map text_bytes members in
    let regrouped : set_bytes members ++ rest ≡ to_le_bytes w16 (length members) ++ (texts ++ rest) = append_assoc (to_le_bytes w16 (length members)) texts rest in
    ap set_at regrouped ∙ rw (number_again w16 (2 ^ 16) wide16 (length members) (texts ++ rest) (omega (arith, is.few)), texts_again members rest is.utf8 (each_short members is), test_of_set members is) refl

-- ---- values

pub value_takes : (bytes : List ℕ) (x : Value × List ℕ) → IsBytes bytes → value_at bytes ≡ Some x → Takes bytes (value_bytes x.0) x.1 × IsValue x.0
unfolding value_at
value_takes [] x fits e = absurd cc
value_takes (zero ∷ bytes) x fits e = absurd cc
value_takes (suc zero ∷ bytes) x fits e =
    let a = bind_some (number_at w64 bytes) (λ n. Some (Int (cast_signed w64 n.0), n.1)) x e in
    let first = number_takes w64 (2 ^ 64) wide64 bytes a.0 (IsBytes-rest 1 bytes fits) a.1 in
    let kept : i64_bytes (cast_signed w64 a.0.0) ≡ to_le_bytes w64 a.0.0 = ap (to_le_bytes w64) (of_z-to_z w64 a.0.0 first.1) in
    subst (λ (y : Value × List ℕ). Takes (1 ∷ bytes) (value_bytes y.0) y.1 × IsValue y.0) (some_is (Int (cast_signed w64 a.0.0), a.0.1) x a.2)
    (record { parts = ap (λ (w : List ℕ). 1 ∷ w) (first.0.parts ∙ ap (λ (w : List ℕ). w ++ a.0.1) (sym kept)); rest_fits = first.0.rest_fits }, cast_fits a.0.0 first.1)
value_takes (suc (suc zero) ∷ bytes) x fits e =
    let a = bind_some (long_text_at bytes) (λ text. Some (Text text.0, text.1)) x e in
    let first = long_text_takes bytes a.0 (IsBytes-rest 2 bytes fits) a.1 in
    subst (λ (y : Value × List ℕ). Takes (2 ∷ bytes) (value_bytes y.0) y.1 × IsValue y.0) (some_is (Text a.0.0, a.0.1) x a.2)
    (record { parts = ap (λ (w : List ℕ). 2 ∷ w) first.0.parts; rest_fits = first.0.rest_fits }, (first.1, first.2))
value_takes (suc (suc (suc zero)) ∷ bytes) x fits e =
    let a = bind_some (set_at bytes) (λ members. Some (Set members.0, members.1)) x e in
    let first = set_takes bytes a.0 (IsBytes-rest 3 bytes fits) a.1 in
    subst (λ (y : Value × List ℕ). Takes (3 ∷ bytes) (value_bytes y.0) y.1 × IsValue y.0) (some_is (Set a.0.0, a.0.1) x a.2)
    (record { parts = ap (λ (w : List ℕ). 3 ∷ w) first.0.parts; rest_fits = first.0.rest_fits }, first.1)
value_takes (suc (suc (suc (suc b))) ∷ bytes) x fits e = absurd cc

pub value_again : (value : Value) (rest : List ℕ) → IsValue value → value_at (value_bytes value ++ rest) ≡ Some (value, rest)
unfolding value_at
value_again (Int z) rest fits = rw (number_again w64 (2 ^ 64) wide64 (cast_unsigned w64 z) rest (unsigned_below z fits), to_z-of_z w64 z fits) refl
value_again (Text text) rest fits = rw (long_text_again text rest fits.0 fits.1) refl
value_again (Set members) rest fits = rw (set_again members rest fits) refl

-- ---- names of cells

not_true : (b : Bool) → not b ≡ true → b ≡ false
not_true true e = absurd cc
not_true false e = refl

below_some : (last name : List ℕ) → slice_cmp nat_cmp last name ≡ Less → 0 < length name
below_some [] [] e = absurd cc
below_some (a ∷ last) [] e = absurd cc
below_some last (b ∷ name) e = omega arith

other_name : (name : List ℕ) → bytes_eq name time_name ≡ false → name ≢ time_name
other_name name e same = no_both (bytes_eq name time_name) e ((bytes_eq-Decides name time_name).1 same)
  where
    no_both : (b : Bool) → b ≡ false → b ≡ true → ⊥
    no_both true f t = absurd cc
    no_both false f t = absurd cc

is_other : (name : List ℕ) (b : Bool) → bytes_eq name time_name ≡ b → name ≢ time_name → not b ≡ true
is_other name true e other = absurd (other ((bytes_eq-Decides name time_name).0 e))
is_other name false e other = refl

pub follows : (last name : List ℕ) → may_follow last name ≡ true → (slice_cmp nat_cmp last name ≡ Less) × (0 < length name) × (name ≢ time_name)
unfolding may_follow
follows last name e =
    let b = both_true (is_lt (slice_cmp nat_cmp last name)) (not (bytes_eq name time_name)) e in
    let less = is_less (slice_cmp nat_cmp last name) b.0 in
    (less, below_some last name less, other_name name (not_true (bytes_eq name time_name) b.1))

pub following : (last name : List ℕ) → slice_cmp nat_cmp last name ≡ Less → name ≢ time_name → may_follow last name ≡ true
unfolding may_follow
following last name less other = rw (less, is_other name (bytes_eq name time_name) refl other) refl

-- ---- cells

pub cell_takes : (last bytes : List ℕ) (x : Cell × List ℕ) → IsBytes bytes → cell_at last bytes ≡ Some x → Takes bytes (cell_bytes x.0) x.1 × IsCell x.0 × (slice_cmp nat_cmp last x.0.name ≡ Less)
unfolding cell_at
cell_takes last bytes x fits e =
    let a = bind_some (name_at bytes) (λ name. cond (may_follow last name.0) (value_at name.1 >>= λ value. Some (record { name = name.0; value = value.0 }, value.1)) None) x e in
    let g = held (may_follow last a.0.0) (value_at a.0.1 >>= λ value. Some (record { name = a.0.0; value = value.0 }, value.1)) x a.2 in
    let b = bind_some (value_at a.0.1) (λ value. Some (record { name = a.0.0; value = value.0 }, value.1)) x g.1 in
    let first = name_takes bytes a.0 fits a.1 in
    let second = value_takes a.0.1 b.0 first.0.rest_fits b.1 in
    let after = follows last a.0.0 g.0 in
    let both = Takes-then bytes (name_bytes a.0.0) a.0.1 (value_bytes b.0.0) b.0.1 first.0 second.0 in
    let made : Cell × List ℕ = (record { name = a.0.0; value = b.0.0 }, b.0.1) in
    subst (λ (y : Cell × List ℕ). Takes bytes (cell_bytes y.0) y.1 × IsCell y.0 × (slice_cmp nat_cmp last y.0.name ≡ Less)) (some_is made x b.2)
    (both, record { name = record { text = first.2; some = after.1; short = first.1; other = after.2 }; value = second.1 }, after.0)

pub cell_again : (last : List ℕ) (c : Cell) (rest : List ℕ) → IsCell c → slice_cmp nat_cmp last c.name ≡ Less → cell_at last (cell_bytes c ++ rest) ≡ Some (c, rest)
unfolding cell_at
cell_again last c rest fits less =
    let regrouped : cell_bytes c ++ rest ≡ name_bytes c.name ++ (value_bytes c.value ++ rest) = append_assoc (name_bytes c.name) (value_bytes c.value) rest in
    ap (cell_at last) regrouped ∙ rw (name_again c.name (value_bytes c.value ++ rest) fits.name.text, following last c.name less fits.name.other, value_again c.value rest fits.value) refl

abbrev pub names : List Cell → List (List ℕ)
names cells = map (λ (c : Cell). c.name) cells

pub cells_take : (n : ℕ) (last bytes : List ℕ) (x : List Cell × List ℕ) → IsBytes bytes → cells_at n last bytes ≡ Some x
    → Takes bytes (flat_map cell_bytes x.0) x.1 × (length x.0 ≡ n) × AllByRecursion IsCell x.0 × IsStrictlySortedBy (slice_cmp nat_cmp) (last ∷ names x.0)
unfolding cells_at IsStrictlySortedBy
cells_take zero last bytes x fits e =
    subst (λ (y : List Cell × List ℕ). Takes bytes (flat_map cell_bytes y.0) y.1 × (length y.0 ≡ 0) × AllByRecursion IsCell y.0 × IsStrictlySortedBy (slice_cmp nat_cmp) (last ∷ names y.0)) (some_is ([], bytes) x e)
    (record { parts = refl; rest_fits = fits }, refl, tt, (tt, tt))
cells_take (suc n) last bytes x fits e =
    let a = bind_some (cell_at last bytes) (λ first. cells_at n first.0.name first.1 >>= λ others. Some (first.0 ∷ others.0, others.1)) x e in
    let b = bind_some (cells_at n a.0.0.name a.0.1) (λ others. Some (a.0.0 ∷ others.0, others.1)) x a.2 in
    let first = cell_takes last bytes a.0 fits a.1 in
    let second = cells_take n a.0.0.name a.0.1 b.0 first.0.rest_fits b.1 in
    let both = Takes-then bytes (cell_bytes a.0.0) a.0.1 (flat_map cell_bytes b.0.0) b.0.1 first.0 second.0 in
    let made : List Cell × List ℕ = (a.0.0 ∷ b.0.0, b.0.1) in
    subst (λ (y : List Cell × List ℕ). Takes bytes (flat_map cell_bytes y.0) y.1 × (length y.0 ≡ suc n) × AllByRecursion IsCell y.0 × IsStrictlySortedBy (slice_cmp nat_cmp) (last ∷ names y.0)) (some_is made x b.2)
    (rw flat_map-cons both, ap suc second.1, (first.1, second.2), ((first.2, above last a.0.0.name (names b.0.0) first.2 second.3.0), second.3))

pub cells_again : (last : List ℕ) (cells : List Cell) (rest : List ℕ) → AllByRecursion IsCell cells → IsStrictlySortedBy (slice_cmp nat_cmp) (last ∷ names cells) → cells_at (length cells) last (flat_map cell_bytes cells ++ rest) ≡ Some (cells, rest)
unfolding cells_at IsStrictlySortedBy
cells_again last [] rest fits sorted = refl
cells_again last (c ∷ cells) rest fits sorted =
    let regrouped : flat_map cell_bytes (c ∷ cells) ++ rest ≡ cell_bytes c ++ (flat_map cell_bytes cells ++ rest) = ap (λ (w : List ℕ). w ++ rest) (flat_map-cons cell_bytes c cells) ∙ append_assoc (cell_bytes c) (flat_map cell_bytes cells) rest in
    ap (cells_at (suc (length cells)) last) regrouped ∙ rw (cell_again last c (flat_map cell_bytes cells ++ rest) fits.0 sorted.0.0, cells_again c.name cells rest fits.1 sorted.1) refl

-- a name is not empty, so each is above the empty one
pub above_nothing : (cells : List Cell) → AllByRecursion IsCell cells → AllByRecursion (λ (y : List ℕ). slice_cmp nat_cmp [] y ≡ Less) (names cells)
above_nothing [] all = tt
above_nothing (c ∷ cells) all = (some_above c.name all.0.name.some, above_nothing cells all.1)
  where
    some_above : (name : List ℕ) → 0 < length name → slice_cmp nat_cmp [] name ≡ Less
    some_above [] some = absurd (omega (arith, some))
    some_above (b ∷ name) some = refl
