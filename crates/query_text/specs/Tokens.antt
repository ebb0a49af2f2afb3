-- The tokens of a text, each with the offset of its first byte.
use Rattle.std.specs.Prelude.{ℕ, ◌^◌, suc, zero, ◌+◌, ◌*◌, ◌-◌, Bool, true, false, ◌&&◌, ◌||◌, List, [], ◌∷◌, ◌++◌, length, ℤ, pos, neg_ℤ, Option, Some, None, option_map, if◌then◌else◌, nat_lt, nat_le, take_while, codes, bytes_eq}
use Rattle.std.specs.Bool.{◌==◌}
use Rattle.std.specs.Str.{is_utf8}
use Rattle.std.specs.Char.{is_ascii_digit, is_ascii_alphabetic}
use Rattle.leaf_model.specs.declared.queries.Op.TheVariants as op
use Rattle.query_text.specs.declared.tokens.Token.{Token}
use Rattle.query_text.specs.declared.tokens.Token.TheVariants.{Word, Name, Text, Int, Comma, Open, Close, Star, Compare, Stray}
use Rattle.query_text.specs.declared.tokens.FoundToken.{FoundToken}
use Rattle.query_text.specs.declared.quotes.Quoted.{Quoted}

-- a space or a tab
abbrev pub is_blank_byte : ℕ → Bool
is_blank_byte b = b == 32 || b == 9

-- a letter or `_`
abbrev pub begins_word : ℕ → Bool
begins_word b = is_ascii_alphabetic b || b == 95

-- a letter, a digit or `_`
abbrev pub goes_on_word : ℕ → Bool
goes_on_word b = begins_word b || is_ascii_digit b

-- ---- quotes

-- the inside of a quote without the doubling, and the number of bytes that it takes up to and with its end
pub record Quote : Type 0 where
  pub inside : List ℕ
  pub long : ℕ

-- a quote that was read, as a value
abbrev pub quote_view : Option Quoted → Option Quote
quote_view None = None
quote_view (Some q) = Some (record { inside = q.inside.items; long = q.long })

-- a quote whose inside begins with bytes that were read before
abbrev pub quote_after : List ℕ → ℕ → Option Quote → Option Quote
quote_after bs n None = None
quote_after bs n (Some q) = Some (record { inside = bs ++ q.inside; long = n + q.long })

-- one byte of the inside in front
abbrev pub with_byte : ℕ → Quote → Quote
with_byte b q = record { inside = b ∷ q.inside; long = q.long + 1 }

-- what follows an opening mark; `marked` says that a mark was just read: another mark doubles it, and anything else
-- ends the quote
abbrev pub quote_from : ℕ → Bool → List ℕ → Option Quote
quote_from mark false [] = None
quote_from mark true [] = Some (record { inside = []; long = 0 })
quote_from mark false (b ∷ rest) = if b == mark then option_map (λ (q : Quote). record q { long = q.long + 1 }) (quote_from mark true rest) else option_map (with_byte b) (quote_from mark false rest)
quote_from mark true (b ∷ rest) = if b == mark then option_map (with_byte mark) (quote_from mark false rest) else Some (record { inside = []; long = 0 })

-- ---- one token: what it is, and the number of its bytes after its first

-- the word HAS compares; every other word is one
abbrev pub word_token : List ℕ → Token
word_token w = if bytes_eq w (codes "HAS") then Compare op.Has else Word w

-- a token of one byte; Stray if the byte begins no token
abbrev pub one_byte : Token → FoundToken
one_byte t = record { token = t; more = 0 }

-- the token of a quote whose inside is UTF-8, of `least` to `most` bytes; else a stray byte
abbrev pub quoted_token : (List ℕ → Token) → ℕ → ℕ → Option Quote → FoundToken
quoted_token make least most None = one_byte Stray
quoted_token make least most (Some q) =
    if nat_le least (length q.inside) && (nat_le (length q.inside) most && is_utf8 q.inside)
    then record { token = make q.inside; more = q.long }
    else one_byte Stray

-- the value of digits that follow digits of the value n
abbrev pub value_from : ℕ → List ℕ → ℕ
value_from n [] = n
value_from n (d ∷ ds) = value_from (n * 10 + (d - 48)) ds

-- the integer of a magnitude, negative after a `-`; None if it is out of the range of i64
abbrev pub signed_value : Bool → ℕ → Option ℤ
signed_value false n = if nat_lt n (2 ^ 63) then Some (pos n) else None
signed_value true n = if nat_le n (2 ^ 63) then Some (neg_ℤ (pos n)) else None

-- the token of a number: its first digit, and the digits that follow
abbrev pub number_token : List ℕ → List ℕ → FoundToken
number_token digits more = record { token = Int (signed_value false (value_from 0 digits)); more = length more }

-- a `-` alone begins no token
abbrev pub minus_token : List ℕ → FoundToken
minus_token [] = one_byte Stray
minus_token (d ∷ digits) = record { token = Int (signed_value true (value_from 0 (d ∷ digits))); more = length (d ∷ digits) }

-- one mark, or two if the second is `=`
abbrev pub pair_token : Token → Token → List ℕ → FoundToken
pair_token alone both [] = one_byte alone
pair_token alone both (b ∷ rest) = if b == 61 then record { token = both; more = 1 } else one_byte alone

-- `,` `(` `)` `*` `=` `!=` `<` `<=` `>` `>=`
abbrev pub mark_token : ℕ → List ℕ → FoundToken
mark_token b rest =
    if b == 44 then one_byte Comma
    else (if b == 40 then one_byte Open
    else (if b == 41 then one_byte Close
    else (if b == 42 then one_byte Star
    else (if b == 61 then one_byte (Compare op.Eq)
    else (if b == 33 then pair_token Stray (Compare op.Ne) rest
    else (if b == 60 then pair_token (Compare op.Lt) (Compare op.Le) rest
    else (if b == 62 then pair_token (Compare op.Gt) (Compare op.Ge) rest
    else one_byte Stray)))))))

-- the longest token that begins with b: a name in quotes has 1 to 255 bytes, and a text at most 65,535
abbrev pub token_with : ℕ → List ℕ → FoundToken
token_with b rest =
    if begins_word b then record { token = word_token (b ∷ take_while goes_on_word rest); more = length (take_while goes_on_word rest) }
    else (if is_ascii_digit b then number_token (b ∷ take_while is_ascii_digit rest) (take_while is_ascii_digit rest)
    else (if b == 45 then minus_token (take_while is_ascii_digit rest)
    else (if b == 34 then quoted_token Name 1 255 (quote_from 34 false rest)
    else (if b == 39 then quoted_token Text 0 65535 (quote_from 39 false rest)
    else mark_token b rest))))

-- ---- the tokens of a text

-- a token, and the offset of its first byte
pub record Placed : Type 0 where
  pub at : ℕ
  pub token : Token

-- the tokens from an offset on, once the `passed` bytes that are left of the last token are passed
abbrev pub tokens_from : ℕ → ℕ → List ℕ → List Placed
tokens_from passed at [] = []
tokens_from (suc passed) at (b ∷ rest) = tokens_from passed (at + 1) rest
tokens_from zero at (b ∷ rest) =
    if is_blank_byte b then tokens_from 0 (at + 1) rest
    else (let found = token_with b rest in record { at = at; token = found.token } ∷ tokens_from found.more (at + 1) rest)

-- the tokens of a text
abbrev pub tokens_of : List ℕ → List Placed
tokens_of text = tokens_from 0 0 text
