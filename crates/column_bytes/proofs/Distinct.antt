-- Texts that are put behind one another, each once.
use Rattle.std.proofs.Common.{◌≡◌, ℕ, zero, suc, ◌+◌, ◌<◌, Bool, true, false, ◌||◌, List, [], ◌∷◌, ◌++◌, length, take, slice_get, slice_index, slice_index_or, Option, Some, None, Bor, if◌then◌else◌, bytes_eq, below_more, refl, sym, ap, ap₂, subst, ◌∙◌, inl, inr, arith}
use Rattle.std.specs.List.{list_any}
use Rattle.std.proofs.lemmas.Bool.{cases_lt}
use Rattle.std.proofs.lemmas.List.{get_or_append_left, length_push}
use Rattle.std.proofs.lemmas.List.Folds.{list_any_at}
use Rattle.std.proofs.lemmas.Option.{get_or_from_slice_get, slice_get_within}
use Rattle.std.proofs.lemmas.Slice.Eq.{bytes_eq-Decides}
use Rattle.std.proofs.Math.Seq.{get_or-append_seam}
use Rattle.indexmap.specs.IndexSet.{insert_key}
use Rattle.row_model.specs.declared.rows.Value.{Value}
use Rattle.row_model.specs.declared.rows.Value.TheVariants as values
use Rattle.dictionaries.specs.Dictionary.{IsText, AreTexts, AreKept, lent, with_text, texts_by}

pub lent_at : (texts : List (Bor (List ℕ))) (k : ℕ) (d : Bor (List ℕ)) → k < length texts → slice_index_or (lent texts) k [] ≡ (slice_index_or texts k d).now
lent_at [] k d h = absurd (omega arith)
lent_at (text ∷ texts) zero d h = refl
lent_at (text ∷ texts) (suc k) d h = lent_at texts k d (omega arith)

pub lent_push : (texts : List (Bor (List ℕ))) (text : Bor (List ℕ)) → lent (texts ++ text ∷ []) ≡ lent texts ++ text.now ∷ []
lent_push [] text = refl
lent_push (first ∷ texts) text = ap (λ xs. first.now ∷ xs) (lent_push texts text)

any_lent : (text : List ℕ) (texts : List (Bor (List ℕ))) → list_any (λ (other : Bor (List ℕ)). bytes_eq text other.now) texts ≡ list_any (bytes_eq text) (lent texts)
any_lent text [] = refl
any_lent text (first ∷ texts) = ap (λ b. bytes_eq text first.now || b) (any_lent text texts)

lent_if : (b : Bool) (texts : List (Bor (List ℕ))) (text : Bor (List ℕ))
    → lent (if b then texts else texts ++ text ∷ []) ≡ (if b then lent texts else lent texts ++ text.now ∷ [])
lent_if true texts text = refl
lent_if false texts text = lent_push texts text

-- a set's texts after one was put in
pub lent_insert : (texts : List (Bor (List ℕ))) (text : Bor (List ℕ))
    → lent (insert_key (λ (x y : Bor (List ℕ)). bytes_eq x.now y.now) texts text) ≡ with_text (lent texts) text.now
lent_insert texts text =
    lent_if (list_any (λ (other : Bor (List ℕ)). bytes_eq text.now other.now) texts) texts text
    ∙ ap (λ b. if b then lent texts else lent texts ++ text.now ∷ []) (any_lent text.now texts)

pub length-lent : (texts : List (Bor (List ℕ))) → length (lent texts) ≡ length texts
length-lent [] = refl
length-lent (text ∷ texts) = ap suc (length-lent texts)

pub lent_found : (texts : List (Bor (List ℕ))) (i : ℕ) (text : Bor (List ℕ)) → slice_get texts i ≡ Some text → slice_index_or (lent texts) i [] ≡ text.now
lent_found texts i text e =
    lent_at texts i text (slice_get_within texts i text e) ∙ ap (λ (found : Bor (List ℕ)). found.now) (get_or_from_slice_get texts i text text e)

pub lent_take : (texts : List (Bor (List ℕ))) (i : ℕ) → lent (take i texts) ≡ take i (lent texts)
lent_take texts zero = refl
lent_take [] (suc i) = refl
lent_take (text ∷ texts) (suc i) = ap (λ xs. text.now ∷ xs) (lent_take texts i)

-- ---- one text more

-- a text that is there is put nowhere
pub with_known : (seen : List (List ℕ)) (text : List ℕ) (k : ℕ) → k < length seen → slice_index_or seen k [] ≡ text → seen ≡ with_text seen text
with_known seen text k within here =
    sym (ap (λ b. if b then seen else seen ++ text ∷ []) (list_any_at (bytes_eq text) seen k [] within ((bytes_eq-Decides text (slice_index_or seen k [])).1 (sym here))))

texts_if : (b : Bool) (seen : List (List ℕ)) (text : List ℕ) → AreTexts seen → IsText text → AreTexts (if b then seen else seen ++ text ∷ [])
texts_if true seen text are is = are
texts_if false seen text are is = λ k h. elim (cases_lt k (length seen)) [
  | inl below ↦ subst IsText (sym (get_or_append_left seen (text ∷ []) [] k below)) (are k below)
  | inr past ↦
      let last : length seen ≡ k = omega (arith, length_push seen text) in
      subst (λ i. IsText (slice_index_or (seen ++ text ∷ []) i [])) last (subst IsText (sym (get_or-append_seam seen text [] [])) is)
]

pub texts_with : (seen : List (List ℕ)) (text : List ℕ) → AreTexts seen → IsText text → AreTexts (with_text seen text)
texts_with seen text = texts_if (list_any (bytes_eq text) seen) seen text

pub texts_by_each : (texts : List (List ℕ)) (codes : List ℕ) (values : List (List ℕ)) → length codes ≡ length values
    → ((k : ℕ) → k < length values → slice_index_or texts (slice_index codes k) [] ≡ slice_index_or values k []) → texts_by texts codes ≡ values
texts_by_each texts [] [] len each = refl
texts_by_each texts [] (value ∷ values) len each = absurd (omega (arith, len))
texts_by_each texts (code ∷ codes) [] len each = absurd (omega (arith, len))
texts_by_each texts (code ∷ codes) (value ∷ values) len each =
    ap₂ (λ x xs. x ∷ xs) (each 0 (omega arith)) (texts_by_each texts codes values (omega (arith, len)) (λ k h. each (suc k) (omega arith)))

-- one cell more that was coded
pub coded_more : (cells : List (Option Value)) (codes more : List ℕ) (old new : List (List ℕ)) (i code : ℕ)
    → length codes ≡ i → more ≡ codes ++ code ∷ [] → AreKept old new
    → ((value : Value) → slice_index_or cells i None ≡ Some value → (code < length new) × (value ≡ values.Text (slice_index_or new code [])))
    → ((k : ℕ) → k < i → (value : Value) → slice_index_or cells k None ≡ Some value
    → (slice_index codes k < length old) × (value ≡ values.Text (slice_index_or old (slice_index codes k) [])))
    → (k : ℕ) → k < i + 1 → (value : Value) → slice_index_or cells k None ≡ Some value
    → (slice_index more k < length new) × (value ≡ values.Text (slice_index_or new (slice_index more k) []))
coded_more cells codes more old new i code len made kept here before =
    below_more (λ k. (value : Value) → slice_index_or cells k None ≡ Some value → (slice_index more k < length new) × (value ≡ values.Text (slice_index_or new (slice_index more k) []))) i
    (λ k h value e.
    let was = before k h value e in
    let stays = kept (slice_index codes k) was.0 in
    let same : slice_index more k ≡ slice_index codes k = ap (λ xs. slice_index xs k) made ∙ get_or_append_left codes (code ∷ []) 0 k (omega arith) in
    (subst (λ n. n < length new) (sym same) stays.0, was.1 ∙ ap values.Text (sym stays.1 ∙ ap (λ n. slice_index_or new n []) (sym same))))
    (λ value e.
    let is = here value e in
    let same : slice_index more i ≡ code = ap (λ xs. slice_index xs i) made ∙ ap (slice_index (codes ++ code ∷ [])) (sym len) ∙ get_or-append_seam codes code [] 0 in
    (subst (λ n. n < length new) (sym same) is.0, is.1 ∙ ap values.Text (ap (λ n. slice_index_or new n []) (sym same))))

-- one value more of a list of texts that was coded
pub value_more : (values : List (List ℕ)) (codes more : List ℕ) (old new : List (List ℕ)) (i code : ℕ)
    → length codes ≡ i → more ≡ codes ++ code ∷ [] → AreKept old new → code < length new → slice_index_or new code [] ≡ slice_index_or values i []
    → ((k : ℕ) → k < i → (slice_index codes k < length old) × (slice_index_or old (slice_index codes k) [] ≡ slice_index_or values k []))
    → (k : ℕ) → k < i + 1 → (slice_index more k < length new) × (slice_index_or new (slice_index more k) [] ≡ slice_index_or values k [])
value_more values codes more old new i code len made kept below here before =
    below_more (λ k. (slice_index more k < length new) × (slice_index_or new (slice_index more k) [] ≡ slice_index_or values k [])) i
    (λ k h.
    let was = before k h in
    let stays = kept (slice_index codes k) was.0 in
    let same : slice_index more k ≡ slice_index codes k = ap (λ xs. slice_index xs k) made ∙ get_or_append_left codes (code ∷ []) 0 k (omega arith) in
    (subst (λ n. n < length new) (sym same) stays.0, ap (λ n. slice_index_or new n []) same ∙ stays.1 ∙ was.1))
    (let same : slice_index more i ≡ code = ap (λ xs. slice_index xs i) made ∙ ap (slice_index (codes ++ code ∷ [])) (sym len) ∙ get_or-append_seam codes code [] 0 in
    (subst (λ n. n < length new) (sym same) below, ap (λ n. slice_index_or new n []) same ∙ here))
