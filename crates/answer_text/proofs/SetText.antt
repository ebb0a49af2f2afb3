-- Texts as items of a JSON array.
use Rattle.std.proofs.Common.{◌≡◌, ℕ, suc, ◌+◌, ◌<◌, ◌||◌, Bool, false, List, [], ◌∷◌, ◌++◌, length, take, slice_index_or, Result, Ok, Err, IfOk, String, Vec, Global, string_bytes, refl, sym, ap, ◌∙◌, arith, rules}
use Rattle.std.proofs.lemmas.List.{take_more}
use Rattle.serde_json.specs.Data.{Data, array, Items, no_items, item, string}
use Rattle.serde_json.specs.View.{view, items_view}
use Rattle.serde_json.specs.Written.{compact_text, has_float, items_have_float}
use Rattle.serde_json.specs.declared.value.Value.{Value, the_lemmas}
use Rattle.serde_json.specs.declared.value.Value as Json
use Rattle.answer_text.specs.Answer.{strings}

-- one item behind others
abbrev behind : Items → Data → Items
behind no_items d = item d no_items
behind (item e rest) d = item e (behind rest d)

view_behind : (vs : List Value) (v : Value) → items_view (vs ++ v ∷ []) ≡ behind (items_view vs) (view v)
view_behind [] v = refl
view_behind (w ∷ vs) v = ap (λ rest. item (view w) rest) (view_behind vs v)

strings_behind : (ts : List (List ℕ)) (t : List ℕ) → strings (ts ++ t ∷ []) ≡ behind (strings ts) (string t)
strings_behind [] t = refl
strings_behind (u ∷ ts) t = ap (λ rest. item (string u) rest) (strings_behind ts t)

pub one_more : (vs : List Value) (text : String Global) (ts : List (List ℕ)) (i : ℕ) → i < length ts → string_bytes text ≡ slice_index_or ts i [] → items_view vs ≡ strings (take i ts)
    → items_view (vs ++ Json.String text ∷ []) ≡ strings (take (i + 1) ts)
one_more vs text ts i within same before =
    let seen : view (Json.String text) ≡ string (string_bytes text) = search (rules, the_lemmas) in
    view_behind vs (Json.String text)
    ∙ ap (behind (items_view vs)) (seen ∙ ap string same)
    ∙ ap (λ its. behind its (string (slice_index_or ts i []))) before
    ∙ sym (strings_behind (take i ts) (slice_index_or ts i []))
    ∙ ap strings (sym (take_more ts i [] within))

pub no_float : (ts : List (List ℕ)) → items_have_float (strings ts) ≡ false
no_float [] = refl
no_float (t ∷ ts) = no_float ts

-- the array of such items
pub array_seen : (v : Vec Value Global) (ts : List (List ℕ)) → items_view v.items ≡ strings ts → view (Json.Array v) ≡ array (strings ts)
array_seen v ts is =
    let seen : view (Json.Array v) ≡ array (items_view v.items) = search (rules, the_lemmas) in
    seen ∙ ap array is

-- what is written for one value is written for what it is
pub text_given : {E : Type 0} (r : Result (String Global) E) (d e : Data) → d ≡ e → has_float e ≡ false → IfOk r (λ s. has_float d ≡ false → string_bytes s ≡ compact_text d)
    → IfOk r (λ s. string_bytes s ≡ compact_text e)
text_given (Ok s) d e same none told = told (ap has_float same ∙ none) ∙ ap compact_text same
text_given (Err f) d e same none told = tt
