-- What a text's tokens hold can be written again.
use Rattle.std.proofs.Common.{◌≡◌, ℕ, suc, zero, ◌<◌, ◌≤◌, ◌^◌, Bool, true, false, ◌&&◌, List, [], ◌∷◌, length, take_while, Option, Some, None, Ok, if◌then◌else◌, refl, sym, pos, ℤ, arith, nat_lt, nat_le, subst}
use Rattle.std.specs.Prelude.{codes, neg_ℤ, bytes_eq}
use Rattle.std.specs.Bool.{◌==◌}
use Rattle.std.specs.Str.{is_utf8}
use Rattle.std.specs.Char.{is_ascii_digit}
use Rattle.std.specs.List.{AllByRecursion}
use Rattle.std.proofs.lemmas.Bool.{ltb-true, leb-true, ltb-false, and_parts}
use Rattle.std.proofs.lemmas.Str.{is_utf8-from_IsUtf8}
use Rattle.row_model.specs.declared.rows.Value.{Value}
use Rattle.row_model.specs.declared.rows.Value.TheVariants as value
use Rattle.leaf_model.specs.declared.queries.Op.TheVariants.{Ne, Lt, Le, Gt, Ge, Has}
use Rattle.leaf_model.specs.declared.queries.Cond.{Cond}
use Rattle.leaf_model.specs.declared.queries.Agg.{Agg}
use Rattle.leaf_model.specs.declared.queries.Agg.TheVariants as agg
use Rattle.leaf_model.specs.declared.queries.Query.{Query}
use Rattle.query_text.specs.declared.tokens.Token.{Token}
use Rattle.query_text.specs.declared.tokens.Token.TheVariants as token
use Rattle.query_text.specs.declared.tokens.FoundToken.{FoundToken}
use Rattle.query_text.specs.Tokens.{Quote, tokens_of, token_with, begins_word, goes_on_word, is_blank_byte, quote_from, quoted_token, value_from, signed_value, number_token, minus_token, pair_token, mark_token, one_byte, word_token}
use Rattle.query_text.specs.Roles.{name_of_token, is_has}
use Rattle.query_text.specs.Reading.{query_of}
use Rattle.query_text.specs.Printing.{printed, ordering_agg}
use Rattle.query_text.specs.Grammar.{Sign, Says, Spells, TheName, Exactly, keyword, int, IsSpelled, plain_tokens, agg_signs, names_signs, more_aggs_signs, aggs_signs, range_signs, conds_signs, group_signs, order_signs, limit_signs, const_sign, text_sign}
use Rattle.query_text.proofs.Lexing.{word_utf8}
use Rattle.query_text.proofs.Found.{some_same, None≢Some, one, four, name_word}
use Rattle.query_text.proofs.Meaning.{read_spelled}
use Rattle.query_text.proofs.Lexed.{lexed, same_tokens, IsI64, IsText, IsName}
use Rattle.query_text.proofs.Written.{IsAsked, IsConst, IsCond, HasName, IsWritable, written_back}

-- ---- tokens of a text

abbrev IsNumber : Option ℤ → Type 0
IsNumber None = Unit {0}
IsNumber (Some n) = IsI64 n

abbrev IsToken : Token → Type 0
IsToken (token.Word w) = (0 < length w) × (is_utf8 w ≡ true)
IsToken (token.Name n) = IsName n
IsToken (token.Text t) = IsText t
IsToken (token.Int n) = IsNumber n
IsToken token.Comma = Unit {0}
IsToken token.Open = Unit {0}
IsToken token.Close = Unit {0}
IsToken token.Star = Unit {0}
IsToken (token.Compare o) = Unit {0}
IsToken token.Stray = Unit {0}

if_holds : {A : Type 0} (P : A → Type 0) (c : Bool) (x y : A) → (c ≡ true → P x) → (c ≡ false → P y) → P (if c then x else y)
if_holds P true x y h k = h refl
if_holds P false x y h k = k refl

negated : (n : ℕ) → n ≤ 2 ^ 63 → IsI64 (neg_ℤ (pos n))
negated zero h = omega arith
negated (suc n) h = omega (arith, h)

signed_valid : (is_minus : Bool) (n : ℕ) → IsNumber (signed_value is_minus n)
signed_valid false n = if_holds IsNumber (nat_lt n (2 ^ 63)) (Some (pos n)) None (λ e. ltb-true n (2 ^ 63) e) (λ e. tt)
signed_valid true n = if_holds IsNumber (nat_le n (2 ^ 63)) (Some (neg_ℤ (pos n))) None (λ e. negated n (leb-true n (2 ^ 63) e)) (λ e. tt)

minus_valid : (digits : List ℕ) → IsToken (minus_token digits).token
minus_valid [] = tt
minus_valid (d ∷ digits) = signed_valid true (value_from 0 (d ∷ digits))

quoted_valid : (make : List ℕ → Token) (least most : ℕ) → ((bs : List ℕ) → least ≤ length bs → length bs ≤ most → is_utf8 bs ≡ true → IsToken (make bs))
    → (q : Option Quote) → IsToken (quoted_token make least most q).token
quoted_valid make least most holds None = tt
quoted_valid make least most holds (Some q) =
    if_holds (λ (f : FoundToken). IsToken f.token) (nat_le least (length q.inside) && (nat_le (length q.inside) most && is_utf8 q.inside)) (record { token = make q.inside; more = q.long }) (one_byte token.Stray)
    (λ e. (let first = and_parts (nat_le least (length q.inside)) (nat_le (length q.inside) most && is_utf8 q.inside) e in
    let rest = and_parts (nat_le (length q.inside) most) (is_utf8 q.inside) first.1 in
    holds q.inside (leb-true least (length q.inside) first.0) (leb-true (length q.inside) most rest.0) rest.1))
    (λ e. tt)

name_valid : (q : Option Quote) → IsToken (quoted_token token.Name 1 255 q).token
name_valid q = quoted_valid token.Name 1 255 (λ bs some short utf8. record { some = omega (arith, some); short = short; utf8 = utf8 }) q

text_valid : (q : Option Quote) → IsToken (quoted_token token.Text 0 65535 q).token
text_valid q = quoted_valid token.Text 0 65535 (λ bs some short utf8. record { short = short; utf8 = utf8 }) q

pair_valid : (alone both : Token) (rest : List ℕ) → IsToken alone → IsToken both → IsToken (pair_token alone both rest).token
pair_valid alone both [] h k = h
pair_valid alone both (b ∷ rest) h k = if_holds (λ (f : FoundToken). IsToken f.token) (b == 61) (record { token = both; more = 1 }) (record { token = alone; more = 0 }) (λ e. k) (λ e. h)

abbrev IsGood : FoundToken → Type 0
IsGood f = IsToken f.token

mark_valid : (b : ℕ) (rest : List ℕ) → IsGood (mark_token b rest)
mark_valid b rest =
    if_holds IsGood (b == 44) _ _ (λ e. tt) (λ e.
    if_holds IsGood (b == 40) _ _ (λ e. tt) (λ e.
    if_holds IsGood (b == 41) _ _ (λ e. tt) (λ e.
    if_holds IsGood (b == 42) _ _ (λ e. tt) (λ e.
    if_holds IsGood (b == 61) _ _ (λ e. tt) (λ e.
    if_holds IsGood (b == 33) _ _ (λ e. pair_valid token.Stray (token.Compare Ne) rest tt tt) (λ e.
    if_holds IsGood (b == 60) _ _ (λ e. pair_valid (token.Compare Lt) (token.Compare Le) rest tt tt) (λ e.
    if_holds IsGood (b == 62) _ _ (λ e. pair_valid (token.Compare Gt) (token.Compare Ge) rest tt tt) (λ e. tt))))))))

word_valid : (b : ℕ) (rest : List ℕ) → begins_word b ≡ true → IsToken (word_token (b ∷ take_while goes_on_word rest))
word_valid b rest e =
    let w = b ∷ take_while goes_on_word rest in
    if_holds IsToken (bytes_eq w (codes "HAS")) (token.Compare Has) (token.Word w) (λ has. tt) (λ other. (omega arith, is_utf8-from_IsUtf8 w (word_utf8 b rest e)))

found_valid : (b : ℕ) (rest : List ℕ) → IsGood (token_with b rest)
found_valid b rest =
    if_holds IsGood (begins_word b) (record { token = word_token (b ∷ take_while goes_on_word rest); more = length (take_while goes_on_word rest) }) _ (λ e. word_valid b rest e) (λ e.
    if_holds IsGood (is_ascii_digit b) (number_token (b ∷ take_while is_ascii_digit rest) (take_while is_ascii_digit rest)) _ (λ e. signed_valid false (value_from 0 (b ∷ take_while is_ascii_digit rest))) (λ e.
    if_holds IsGood (b == 45) (minus_token (take_while is_ascii_digit rest)) _ (λ e. minus_valid (take_while is_ascii_digit rest)) (λ e.
    if_holds IsGood (b == 34) (quoted_token token.Name 1 255 (quote_from 34 false rest)) _ (λ e. name_valid (quote_from 34 false rest)) (λ e.
    if_holds IsGood (b == 39) (quoted_token token.Text 0 65535 (quote_from 39 false rest)) (mark_token b rest) (λ e. text_valid (quote_from 39 false rest)) (λ e. mark_valid b rest)))))

all_valid : (passed : ℕ) (text : List ℕ) → AllByRecursion IsToken (lexed passed text)
all_valid passed [] = tt
all_valid (suc passed) (b ∷ rest) = all_valid passed rest
all_valid zero (b ∷ rest) =
    if_holds (λ ts. AllByRecursion IsToken ts) (is_blank_byte b) (lexed 0 rest) ((token_with b rest).token ∷ lexed (token_with b rest).more rest)
    (λ e. all_valid 0 rest) (λ e. (found_valid b rest, all_valid (token_with b rest).more rest))

-- ---- what they spell

name_said : (t : Token) (n : List ℕ) → name_of_token t ≡ Some n → IsToken t → IsName n
name_said (token.Word w) n h good =
    let said = name_word w n h in
    subst IsName said.1 (record { some = good.0; short = ltb-false 255 (length w) said.0.1; utf8 = good.1 })
name_said (token.Name m) n h good = subst IsName (some_same h) good
name_said (token.Text m) n h good = absurd (None≢Some h)
name_said (token.Int m) n h good = absurd (None≢Some h)
name_said token.Comma n h good = absurd (None≢Some h)
name_said token.Open n h good = absurd (None≢Some h)
name_said token.Close n h good = absurd (None≢Some h)
name_said token.Star n h good = absurd (None≢Some h)
name_said (token.Compare o) n h good = absurd (None≢Some h)
name_said token.Stray n h good = absurd (None≢Some h)

int_said : (t : Token) (n : ℤ) → t ≡ token.Int (Some n) → IsToken t → IsI64 n
int_said t n h good = subst IsToken h good

const_said : (t : Token) (v : Value) → Says (const_sign v) t → IsToken t → IsConst v
const_said t (value.Int n) h good = subst IsToken h good
const_said t (value.Text x) h good = subst IsToken h good
const_said t (value.Set members) h good = absurd h

text_said : (t : Token) (v : Value) → Says (text_sign v) t → IsToken t → IsAsked true v
text_said t (value.Int n) h good = absurd h
text_said t (value.Text x) h good = subst IsToken h good
text_said t (value.Set members) h good = absurd h

asked_said : (b : Bool) (t : Token) (v : Value) → Says (if b then text_sign v else const_sign v) t → IsToken t → IsAsked b v
asked_said true t v h good = text_said t v h good
asked_said false t v h good = const_said t v h good

-- a part whose tokens are good, and the tokens behind it
pub record Behind (P : Type 0) (S : List Sign) : Type 0 where
  pub us : List Token
  pub spelled : Spells S us
  pub good : AllByRecursion IsToken us
  pub holds : P

names_said : (names : List (List ℕ)) (S : List Sign) (ts : List Token) → Spells (names_signs names S) ts → AllByRecursion IsToken ts → Behind (AllByRecursion IsName names) S
names_said [] S ts h good = record { us = ts; spelled = h; good = good; holds = tt }
names_said (n ∷ names) S [] h good = absurd h
names_said (n ∷ names) S (t ∷ []) h good = absurd h.1
names_said (n ∷ names) S (t ∷ u ∷ ts) h good =
    let r = names_said names S ts h.1.1 good.1.1 in
    record { us = r.us; spelled = r.spelled; good = r.good; holds = (name_said t n h.0 good.0, r.holds) }

call_said : (w n : List ℕ) (S : List Sign) (ts : List Token) → Spells (keyword w ∷ Exactly token.Open ∷ TheName n ∷ Exactly token.Close ∷ S) ts → AllByRecursion IsToken ts → Behind (IsName n) S
call_said w n S [] h good = absurd h
call_said w n S (t ∷ []) h good = absurd h.1
call_said w n S (t ∷ u ∷ []) h good = absurd h.1.1
call_said w n S (t ∷ u ∷ v ∷ []) h good = absurd h.1.1.1
call_said w n S (t ∷ u ∷ v ∷ x ∷ ts) h good = record { us = ts; spelled = h.1.1.1.1; good = good.1.1.1.1; holds = name_said v n h.1.1.0 good.1.1.0 }

agg_said : (a : Agg) (S : List Sign) (ts : List Token) → Spells (agg_signs a S) ts → AllByRecursion IsToken ts → Behind (HasName a) S
agg_said agg.Count S [] h good = absurd h
agg_said agg.Count S (t ∷ []) h good = absurd h.1
agg_said agg.Count S (t ∷ u ∷ []) h good = absurd h.1.1
agg_said agg.Count S (t ∷ u ∷ v ∷ []) h good = absurd h.1.1.1
agg_said agg.Count S (t ∷ u ∷ v ∷ x ∷ ts) h good = record { us = ts; spelled = h.1.1.1.1; good = good.1.1.1.1; holds = tt }
agg_said (agg.Sum n) S ts h good = call_said (codes "SUM") n S ts h good
agg_said (agg.Min n) S ts h good = call_said (codes "MIN") n S ts h good
agg_said (agg.Max n) S ts h good = call_said (codes "MAX") n S ts h good
agg_said (agg.Avg n) S ts h good = call_said (codes "AVG") n S ts h good

more_aggs_said : (aggs : List Agg) (S : List Sign) (ts : List Token) → Spells (more_aggs_signs aggs S) ts → AllByRecursion IsToken ts → Behind (AllByRecursion HasName aggs) S
more_aggs_said [] S ts h good = record { us = ts; spelled = h; good = good; holds = tt }
more_aggs_said (a ∷ aggs) S [] h good = absurd h
more_aggs_said (a ∷ aggs) S (t ∷ ts) h good =
    let f = agg_said a (more_aggs_signs aggs S) ts h.1 good.1 in
    let r = more_aggs_said aggs S f.us f.spelled f.good in
    record { us = r.us; spelled = r.spelled; good = r.good; holds = (f.holds, r.holds) }

aggs_said : (aggs : List Agg) (S : List Sign) (ts : List Token) → Spells (aggs_signs aggs S) ts → AllByRecursion IsToken ts → Behind (AllByRecursion HasName aggs) S
aggs_said [] S ts h good = record { us = ts; spelled = h; good = good; holds = tt }
aggs_said (a ∷ aggs) S ts h good =
    let f = agg_said a (more_aggs_signs aggs S) ts h good in
    let r = more_aggs_said aggs S f.us f.spelled f.good in
    record { us = r.us; spelled = r.spelled; good = r.good; holds = (f.holds, r.holds) }

conds_said : (conds : List Cond) (S : List Sign) (ts : List Token) → Spells (conds_signs conds S) ts → AllByRecursion IsToken ts → AllByRecursion IsCond conds
conds_said [] S ts h good = tt
conds_said (c ∷ conds) S [] h good = absurd h
conds_said (c ∷ conds) S (t ∷ []) h good = absurd h.1
conds_said (c ∷ conds) S (t ∷ u ∷ []) h good = absurd h.1.1
conds_said (c ∷ conds) S (t ∷ u ∷ v ∷ []) h good = absurd h.1.1.1
conds_said (c ∷ conds) S (t ∷ u ∷ v ∷ x ∷ ts) h good =
    ((name_said u c.name h.1.0 good.1.0, asked_said (is_has c.op) x c.value h.1.1.1.0 good.1.1.1.0), conds_said conds S ts h.1.1.1.1 good.1.1.1.1)

first_good : (t : Token) (ts us : List Token) → ts ≡ t ∷ us → AllByRecursion IsToken ts → AllByRecursion IsToken (t ∷ us)
first_good t ts us is good = subst (λ xs. AllByRecursion IsToken xs) is good

range_said : (table : List ℕ) (from to : ℤ) (S : List Sign) (ts : List Token) → Spells (range_signs table from to S) ts → AllByRecursion IsToken ts → Behind (IsI64 from × IsI64 to) S
range_said table from to S ts h good =
    let last = keyword (codes "time") ∷ Exactly (token.Compare Le) ∷ int to ∷ S in
    let f = four (keyword (codes "FROM")) (keyword table) (keyword (codes "WHERE")) (keyword (codes "time")) (Exactly (token.Compare Ge) ∷ int from ∷ keyword (codes "AND") ∷ last) ts h in
    let gf = subst (λ xs. AllByRecursion IsToken xs) f.is good in
    let g = four (Exactly (token.Compare Ge)) (int from) (keyword (codes "AND")) (keyword (codes "time")) (Exactly (token.Compare Le) ∷ int to ∷ S) f.us f.rest in
    let gg = subst (λ xs. AllByRecursion IsToken xs) g.is gf.1.1.1.1 in
    let i = one (Exactly (token.Compare Le)) (int to ∷ S) g.us g.rest in
    let gi = subst (λ xs. AllByRecursion IsToken xs) i.is gg.1.1.1.1 in
    let j = one (int to) S i.us i.rest in
    let gj = subst (λ xs. AllByRecursion IsToken xs) j.is gi.1 in
    record { us = j.us; spelled = j.rest; good = gj.1; holds = (int_said g.u from g.says_b gg.1.0, int_said j.t to j.says gj.0) }

spelled_writable : (q : Query) (ts : List Token) → IsSpelled q ts → AllByRecursion IsToken ts → IsWritable q
spelled_writable q ts sp good =
    let group = group_signs q.keys (order_signs (ordering_agg q.order q.aggs) (limit_signs sp.is_limited q.limit)) in
    let range = range_signs q.table q.from q.to (conds_signs q.conds group) in
    let f = one (keyword (codes "SELECT")) (names_signs q.keys (aggs_signs q.aggs range)) ts sp.spelled in
    let gf = first_good f.t ts f.us f.is good in
    let n = names_said q.keys (aggs_signs q.aggs range) f.us f.rest gf.1 in
    let a = aggs_said q.aggs range n.us n.spelled n.good in
    let r = range_said q.table q.from q.to (conds_signs q.conds group) a.us a.spelled a.good in
    record { keys = n.holds; aggs = a.holds; from = r.holds.0; to = r.holds.1; conds = conds_said q.conds group r.us r.spelled r.good }

pub read_back : (text : List ℕ) (q : Query) → query_of text ≡ Ok q → query_of (printed q) ≡ Ok q
read_back text q h =
    let sp = read_spelled text q h in
    let good = subst (λ ts. AllByRecursion IsToken ts) (sym (same_tokens 0 0 text)) (all_valid 0 text) in
    written_back q sp.query (spelled_writable q (plain_tokens (tokens_of text)) sp good)
