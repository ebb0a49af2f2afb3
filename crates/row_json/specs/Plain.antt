-- Rows in plain form, byte by byte.
use Rattle.std.specs.Prelude.{◌≡◌, ◌≢◌, ◌⊎◌, ℕ, ◌<◌, ◌≤◌, ◌^◌, ◌∷◌, ◌||◌, ◌==◌, List, length, take, slice_index, Bool, true, Some}
use Rattle.std.specs.Str.Parse.{AllDigits, digits_value}
use Rattle.json.specs.Token.{Token}
use Rattle.json.specs.Token as json
use Rattle.json.specs.Lex.{Place, fresh, after_value, may_begin, punctuate, between, lex}
use Rattle.serde_json.specs.Data.{Data}
use Rattle.row_json.specs.Quick.{data_of}

-- the tokens of a text, given its place among commas and colons
abbrev pub json_tokens_from : Place → List ℕ → List Token
json_tokens_from p text = punctuate p (lex between text)

-- the text begins with a comma or a closing brace
abbrev pub is_ended : List ℕ → Bool
is_ended text = (slice_index text 0 == 44) || (slice_index text 0 == 125)

-- the first `len` bytes are digits, and write the number n
pub record HasDigits (text : List ℕ) (n len : ℕ) : Type 0 where
  pub inside : len ≤ length text
  pub digits : AllDigits 10 (take len text)
  pub is : digits_value 10 (take len text) ≡ n
  pub small : n < 2 ^ 63

-- the text writes the number n as JSON does
pub record IsNatural (text : List ℕ) (n : ℕ) : Type 0 where
  pub digits : AllDigits 10 text
  pub some : 0 < length text
  pub first : (length text ≡ 1) ⊎ (slice_index text 0 ≢ 48)
  pub is : digits_value 10 text ≡ n
  pub small : n < 2 ^ 63

-- the text begins with the one token of this value, and `rest` follows
pub record Reads (text rest : List ℕ) (d : Data) : Type 0 where
  pub token : Token
  pub first : json_tokens_from fresh text ≡ token ∷ json_tokens_from after_value rest
  pub is : data_of token ≡ Some d

-- if a key may stand here, the text begins with this name and its colon, and `rest` follows
abbrev pub ReadsKey : List ℕ → List ℕ → List ℕ → Type 0
ReadsKey text name rest = (p : Place) → may_begin p ≡ true → json_tokens_from p text ≡ json.key name ∷ json_tokens_from fresh rest
