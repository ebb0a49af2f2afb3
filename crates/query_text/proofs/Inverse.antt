-- What a token is that the reading went on with.
use Rattle.std.proofs.Common.{◌≡◌, ℕ, ◌≤◌, Bool, true, false, List, [], ◌∷◌, Option, Some, None, if◌then◌else◌, refl, sym, ap, ◌∙◌, pos, negsuc, ℤ, nat_le, subst}
use Rattle.std.specs.Prelude.{codes, bytes_eq, option_map}
use Rattle.std.proofs.lemmas.Bool.{leb-true, true≢false, false≢true}
use Rattle.std.proofs.lemmas.Slice.Eq.{bytes_eq-Decides}
use Rattle.row_model.specs.declared.rows.Value.{Value}
use Rattle.row_model.specs.declared.rows.Value.TheVariants as value
use Rattle.leaf_model.specs.declared.queries.Op.{Op}
use Rattle.leaf_model.specs.declared.queries.Op.TheVariants.{Le, Ge}
use Rattle.leaf_model.specs.declared.queries.Agg.{Agg}
use Rattle.leaf_model.specs.declared.queries.Agg.TheVariants as agg
use Rattle.leaf_model.specs.declared.queries.Query.{Query}
use Rattle.query_text.specs.declared.tokens.Token.{Token}
use Rattle.query_text.specs.declared.tokens.Token.TheVariants as token
use Rattle.query_text.specs.declared.places.AggWord.{AggWord}
use Rattle.query_text.specs.declared.places.AggWord.TheVariants as kind
use Rattle.query_text.specs.declared.places.Place.{Place}
use Rattle.query_text.specs.declared.places.Move.TheVariants.{On, Stuck}
use Rattle.row_model.specs.Names.{is_table_name}
use Rattle.query_text.specs.Roles.{name_of_token, const_of, const_for, text_of_token, is_has, agg_word_of, op_of, int_of, limit_from, table_of_token, is_word, is_mark, same_agg, agg_inside}
use Rattle.query_text.specs.Reading.{goes_on, may_end, on_if, goes_with, sign_fits}
use Rattle.query_text.specs.Grammar.{Sign, Says, Spells, agg_signs, const_sign, text_sign, asked_sign}
use Rattle.query_text.proofs.Plain.{reads, moved}
use Rattle.query_text.proofs.Found.{some_same, None≢Some}

-- ---- one step back

pub on_if_in : (b : Bool) (s : Query) (place : Place) (f : Query → Place → Option Query) (r : Query) → moved (on_if b s place) f ≡ Some r → (b ≡ true) × (f s place ≡ Some r)
on_if_in true s place f r h = (refl, h)
on_if_in false s place f r h = absurd (None≢Some h)

-- the tokens begin with a given one, and the others are read from the next place
pub record Next (u : Token) (s : Query) (place : Place) (r : Query) (ts : List Token) : Type 0 where
  pub us : List Token
  pub is : ts ≡ u ∷ us
  pub read : reads s place us ≡ Some r

pub step : (test : Token → Bool) (u : Token) → ((t : Token) → test t ≡ true → t ≡ u)
    → (s s' r : Query) (place place' : Place) (ts : List Token) → may_end s place ≡ false → ((t : Token) → goes_on s place t ≡ on_if (test t) s' place')
    → reads s place ts ≡ Some r → Next u s' place' r ts
step test u inv s s' r place place' [] ends goes h = absurd (None≢Some (rw ends at h))
step test u inv s s' r place place' (t ∷ ts) ends goes h =
    let both = on_if_in (test t) s' place' (λ q n. reads q n ts) r (rw (goes t) at h) in
    record { us = ts; is = ap (λ x. x ∷ ts) (inv t both.0); read = both.1 }

-- the same where the token gives a value
pub record Given {X : Type 0} (f : Token → Option X) (next : X → Query) (place : X → Place) (r : Query) (ts : List Token) : Type 0 where
  pub t : Token
  pub us : List Token
  pub x : X
  pub is : ts ≡ t ∷ us
  pub gives : f t ≡ Some x
  pub read : reads (next x) (place x) us ≡ Some r

give_by : {X : Type 0} (f : Token → Option X) (next : X → Query) (place' : X → Place) (r : Query) (t : Token) (ts : List Token) (o : Option X) → f t ≡ o
    → moved (goes_with o (λ x. On (next x) (place' x)) Stuck) (λ q n. reads q n ts) ≡ Some r → Given f next place' r (t ∷ ts)
give_by f next place' r t ts None e h = absurd (None≢Some h)
give_by f next place' r t ts (Some x) e h = record { t = t; us = ts; x = x; is = refl; gives = e; read = h }

pub give : {X : Type 0} (f : Token → Option X) (next : X → Query) (place' : X → Place) (s r : Query) (place : Place) (ts : List Token)
    → may_end s place ≡ false → ((t : Token) → goes_on s place t ≡ goes_with (f t) (λ x. On (next x) (place' x)) Stuck)
    → reads s place ts ≡ Some r → Given f next place' r ts
give f next place' s r place [] ends goes h = absurd (None≢Some (rw ends at h))
give f next place' s r place (t ∷ ts) ends goes h = give_by f next place' r t ts (f t) refl (rw (goes t) at h)

-- ---- which token passes a test

pub the_word : (w : List ℕ) (t : Token) → is_word w t ≡ true → t ≡ token.Word w
the_word w (token.Word v) h = ap token.Word ((bytes_eq-Decides v w).0 h)
the_word w (token.Name n) h = absurd (false≢true h)
the_word w (token.Text n) h = absurd (false≢true h)
the_word w (token.Int n) h = absurd (false≢true h)
the_word w token.Comma h = absurd (false≢true h)
the_word w token.Open h = absurd (false≢true h)
the_word w token.Close h = absurd (false≢true h)
the_word w token.Star h = absurd (false≢true h)
the_word w (token.Compare o) h = absurd (false≢true h)
the_word w token.Stray h = absurd (false≢true h)

pub the_open : (t : Token) → is_mark token.Open t ≡ true → t ≡ token.Open
the_open token.Open h = refl
the_open t h = absurd (false≢true h)

pub the_close : (t : Token) → is_mark token.Close t ≡ true → t ≡ token.Close
the_close token.Close h = refl
the_close t h = absurd (false≢true h)

pub the_star : (t : Token) → is_mark token.Star t ≡ true → t ≡ token.Star
the_star token.Star h = refl
the_star t h = absurd (false≢true h)

pub the_comma : (t : Token) → is_mark token.Comma t ≡ true → t ≡ token.Comma
the_comma token.Comma h = refl
the_comma t h = absurd (false≢true h)

pub the_int : (t : Token) (n : ℤ) → int_of t ≡ Some n → t ≡ token.Int (Some n)
the_int (token.Int o) n h = ap token.Int h
the_int t n h = absurd (None≢Some h)

pub the_op : (t : Token) (o : Op) → op_of t ≡ Some o → t ≡ token.Compare o
the_op (token.Compare p) o h = ap token.Compare (some_same h)
the_op t o h = absurd (None≢Some h)

low_op : (o : Option Op) → sign_fits true o ≡ true → o ≡ Some Ge
low_op (Some Ge) h = refl
low_op o h = absurd (false≢true h)

high_op : (o : Option Op) → sign_fits false o ≡ true → o ≡ Some Le
high_op (Some Le) h = refl
high_op o h = absurd (false≢true h)

pub the_low : (t : Token) → sign_fits true (op_of t) ≡ true → t ≡ token.Compare Ge
the_low t h = the_op t Ge (low_op (op_of t) h)

pub the_high : (t : Token) → sign_fits false (op_of t) ≡ true → t ≡ token.Compare Le
the_high t h = the_op t Le (high_op (op_of t) h)

table_by : (b : Bool) (w name : List ℕ) → is_table_name w ≡ b → (if b then Some w else None) ≡ Some name → (w ≡ name) × (is_table_name name ≡ true)
table_by true w name e h = (some_same h, rw (sym (some_same h)) e)
table_by false w name e h = absurd (None≢Some h)

pub the_table : (t : Token) (name : List ℕ) → table_of_token t ≡ Some name → (t ≡ token.Word name) × (is_table_name name ≡ true)
the_table (token.Word w) name h = let both = table_by (is_table_name w) w name refl h in (ap token.Word both.0, both.1)
the_table t name h = absurd (None≢Some h)

limit_by : (b : Bool) (m n : ℕ) → nat_le m 100000 ≡ b → (if b then Some m else None) ≡ Some n → (m ≡ n) × (n ≤ 100000)
limit_by true m n e h = let same = some_same h in (same, rw (sym same) (leb-true m 100000 e))
limit_by false m n e h = absurd (None≢Some h)

limit_in : (o : Option ℤ) (n : ℕ) → limit_from o ≡ Some n → (o ≡ Some (pos n)) × (n ≤ 100000)
limit_in (Some (pos m)) n h = let both = limit_by (nat_le m 100000) m n refl h in (ap (λ k. Some (pos k)) both.0, both.1)
limit_in (Some (negsuc m)) n h = absurd (None≢Some h)
limit_in None n h = absurd (None≢Some h)

pub the_limit : (t : Token) (n : ℕ) → limit_from (int_of t) ≡ Some n → (t ≡ token.Int (Some (pos n))) × (n ≤ 100000)
the_limit t n h = let both = limit_in (int_of t) n h in (the_int t (pos n) both.0, both.1)

pub the_const : (t : Token) (v : Value) → const_of t ≡ Some v → Says (const_sign v) t
the_const (token.Int (Some n)) (value.Int m) h = ap token.Int (ap int_in h)
  where
    int_in : Option Value → Option ℤ
    int_in (Some (value.Int k)) = Some k
    int_in o = None
the_const (token.Int (Some n)) (value.Text m) h = absurd (false≢true (ap is_text_in h))
  where
    is_text_in : Option Value → Bool
    is_text_in (Some (value.Text k)) = true
    is_text_in o = false
the_const (token.Text n) (value.Text m) h = ap token.Text (ap text_in h)
  where
    text_in : Option Value → List ℕ
    text_in (Some (value.Text k)) = k
    text_in o = n
the_const (token.Text n) (value.Int m) h = absurd (true≢false (ap is_text_in h))
  where
    is_text_in : Option Value → Bool
    is_text_in (Some (value.Text k)) = true
    is_text_in o = false
the_const (token.Int (Some n)) (value.Set m) h = absurd (false≢true (ap is_set_in h))
  where
    is_set_in : Option Value → Bool
    is_set_in (Some (value.Set k)) = true
    is_set_in o = false
the_const (token.Text n) (value.Set m) h = absurd (false≢true (ap is_set_in h))
  where
    is_set_in : Option Value → Bool
    is_set_in (Some (value.Set k)) = true
    is_set_in o = false
the_const (token.Int None) v h = absurd (None≢Some h)
the_const (token.Word n) v h = absurd (None≢Some h)
the_const (token.Name n) v h = absurd (None≢Some h)
the_const token.Comma v h = absurd (None≢Some h)
the_const token.Open v h = absurd (None≢Some h)
the_const token.Close v h = absurd (None≢Some h)
the_const token.Star v h = absurd (None≢Some h)
the_const (token.Compare o) v h = absurd (None≢Some h)
the_const token.Stray v h = absurd (None≢Some h)

pub the_text : (t : Token) (v : Value) → text_of_token t ≡ Some v → Says (text_sign v) t
the_text (token.Text n) (value.Text m) h = ap token.Text (ap text_in h)
  where
    text_in : Option Value → List ℕ
    text_in (Some (value.Text k)) = k
    text_in o = n
the_text (token.Text n) (value.Int m) h = absurd (true≢false (ap is_text_in h))
  where
    is_text_in : Option Value → Bool
    is_text_in (Some (value.Text k)) = true
    is_text_in o = false
the_text (token.Text n) (value.Set m) h = absurd (true≢false (ap is_text_in h))
  where
    is_text_in : Option Value → Bool
    is_text_in (Some (value.Text k)) = true
    is_text_in o = false
the_text (token.Int n) v h = absurd (None≢Some h)
the_text (token.Word n) v h = absurd (None≢Some h)
the_text (token.Name n) v h = absurd (None≢Some h)
the_text token.Comma v h = absurd (None≢Some h)
the_text token.Open v h = absurd (None≢Some h)
the_text token.Close v h = absurd (None≢Some h)
the_text token.Star v h = absurd (None≢Some h)
the_text (token.Compare o) v h = absurd (None≢Some h)
the_text token.Stray v h = absurd (None≢Some h)

the_asked_by : (b : Bool) (t : Token) (v : Value) → (if b then text_of_token t else const_of t) ≡ Some v → Says (if b then text_sign v else const_sign v) t
the_asked_by true t v h = the_text t v h
the_asked_by false t v h = the_const t v h

pub the_asked : (op : Op) (t : Token) (v : Value) → const_for op t ≡ Some v → Says (asked_sign op v) t
the_asked op t v h = the_asked_by (is_has op) t v h

-- ---- aggregates

abbrev pub kind_word : AggWord → List ℕ
kind_word kind.Count = codes "COUNT"
kind_word kind.Sum = codes "SUM"
kind_word kind.Min = codes "MIN"
kind_word kind.Max = codes "MAX"
kind_word kind.Avg = codes "AVG"

kind_by : (c u m x v : Bool) (w : List ℕ) (k : AggWord) → bytes_eq w (codes "COUNT") ≡ c → bytes_eq w (codes "SUM") ≡ u → bytes_eq w (codes "MIN") ≡ m → bytes_eq w (codes "MAX") ≡ x → bytes_eq w (codes "AVG") ≡ v
    → (if c then Some kind.Count else (if u then Some kind.Sum else (if m then Some kind.Min else (if x then Some kind.Max else (if v then Some kind.Avg else None))))) ≡ Some k → w ≡ kind_word k
kind_by true u m x v w k ec eu em ex ev h = (bytes_eq-Decides w (codes "COUNT")).0 ec ∙ ap kind_word (some_same h)
kind_by false true m x v w k ec eu em ex ev h = (bytes_eq-Decides w (codes "SUM")).0 eu ∙ ap kind_word (some_same h)
kind_by false false true x v w k ec eu em ex ev h = (bytes_eq-Decides w (codes "MIN")).0 em ∙ ap kind_word (some_same h)
kind_by false false false true v w k ec eu em ex ev h = (bytes_eq-Decides w (codes "MAX")).0 ex ∙ ap kind_word (some_same h)
kind_by false false false false true w k ec eu em ex ev h = (bytes_eq-Decides w (codes "AVG")).0 ev ∙ ap kind_word (some_same h)
kind_by false false false false false w k ec eu em ex ev h = absurd (None≢Some h)

pub the_kind : (t : Token) (k : AggWord) → agg_word_of t ≡ Some k → t ≡ token.Word (kind_word k)
the_kind (token.Word w) k h = ap token.Word (kind_by _ _ _ _ _ w k refl refl refl refl refl h)
the_kind (token.Name n) k h = absurd (None≢Some h)
the_kind (token.Text n) k h = absurd (None≢Some h)
the_kind (token.Int n) k h = absurd (None≢Some h)
the_kind token.Comma k h = absurd (None≢Some h)
the_kind token.Open k h = absurd (None≢Some h)
the_kind token.Close k h = absurd (None≢Some h)
the_kind token.Star k h = absurd (None≢Some h)
the_kind (token.Compare o) k h = absurd (None≢Some h)
the_kind token.Stray k h = absurd (None≢Some h)

star_by : (b : Bool) (t : Token) (a : Agg) (S : List Sign) (us : List Token) → is_mark token.Star t ≡ b → (if b then Some agg.Count else None) ≡ Some a → Spells S us
    → Spells (agg_signs a S) (token.Word (codes "COUNT") ∷ token.Open ∷ t ∷ token.Close ∷ us)
star_by true t a S us e h k = subst (λ b. Spells (agg_signs b S) (token.Word (codes "COUNT") ∷ token.Open ∷ t ∷ token.Close ∷ us)) (some_same h) (refl, (refl, (the_star t e, (refl, k))))
star_by false t a S us e h k = absurd (None≢Some h)

named_by : (o : Option (List ℕ)) (make : List ℕ → Agg) (kind : AggWord) (t : Token) (a : Agg) (S : List Sign) (us : List Token) → name_of_token t ≡ o
    → ((name : List ℕ) → name_of_token t ≡ Some name → Spells S us → Spells (agg_signs (make name) S) (token.Word (kind_word kind) ∷ token.Open ∷ t ∷ token.Close ∷ us))
    → option_map make o ≡ Some a → Spells S us → Spells (agg_signs a S) (token.Word (kind_word kind) ∷ token.Open ∷ t ∷ token.Close ∷ us)
named_by None make kind t a S us e spell h k = absurd (None≢Some h)
named_by (Some name) make kind t a S us e spell h k =
    subst (λ b. Spells (agg_signs b S) (token.Word (kind_word kind) ∷ token.Open ∷ t ∷ token.Close ∷ us)) (some_same h) (spell name e k)

-- what stands between the parentheses gives the aggregate
pub inside_spells : (k : AggWord) (t : Token) (a : Agg) (S : List Sign) (us : List Token) → agg_inside k t ≡ Some a → Spells S us
    → Spells (agg_signs a S) (token.Word (kind_word k) ∷ token.Open ∷ t ∷ token.Close ∷ us)
inside_spells kind.Count t a S us h k = star_by (is_mark token.Star t) t a S us refl h k
inside_spells kind.Sum t a S us h k = named_by (name_of_token t) agg.Sum kind.Sum t a S us refl (λ n e g. (refl, (refl, (e, (refl, g))))) h k
inside_spells kind.Min t a S us h k = named_by (name_of_token t) agg.Min kind.Min t a S us refl (λ n e g. (refl, (refl, (e, (refl, g))))) h k
inside_spells kind.Max t a S us h k = named_by (name_of_token t) agg.Max kind.Max t a S us refl (λ n e g. (refl, (refl, (e, (refl, g))))) h k
inside_spells kind.Avg t a S us h k = named_by (name_of_token t) agg.Avg kind.Avg t a S us refl (λ n e g. (refl, (refl, (e, (refl, g))))) h k

pub same_aggs : (a b : Agg) → same_agg a b ≡ true → a ≡ b
same_aggs agg.Count agg.Count h = refl
same_aggs (agg.Sum a) (agg.Sum b) h = ap agg.Sum ((bytes_eq-Decides a b).0 h)
same_aggs (agg.Min a) (agg.Min b) h = ap agg.Min ((bytes_eq-Decides a b).0 h)
same_aggs (agg.Max a) (agg.Max b) h = ap agg.Max ((bytes_eq-Decides a b).0 h)
same_aggs (agg.Avg a) (agg.Avg b) h = ap agg.Avg ((bytes_eq-Decides a b).0 h)
same_aggs a b h = absurd (false≢true h)
