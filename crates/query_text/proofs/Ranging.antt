-- How many tokens stand behind FROM at each place.
use Rattle.std.proofs.Common.{◌≡◌, ℕ, suc, ◌+◌, ◌≤◌, Bool, true, false, ◌&&◌, ◌||◌, List, [], ◌∷◌, length, Option, Some, None, if◌then◌else◌, refl, ap, ◌∙◌, nat_lt, arith}
use Rattle.std.specs.Prelude.{codes, slice_get, bytes_eq, option_map, option_and_then}
use Rattle.std.specs.List.{list_any, position_from}
use Rattle.std.proofs.lemmas.Bool.{le-ltb, lt-ltb}
use Rattle.leaf_model.specs.declared.queries.Agg.{Agg}
use Rattle.leaf_model.specs.declared.queries.Agg.TheVariants as agg
use Rattle.leaf_model.specs.declared.queries.Query.{Query}
use Rattle.query_text.specs.declared.tokens.Token.{Token}
use Rattle.query_text.specs.declared.tokens.Token.TheVariants as token
use Rattle.query_text.specs.declared.places.AggWord.{AggWord}
use Rattle.query_text.specs.declared.places.AggWord.TheVariants as kind
use Rattle.query_text.specs.declared.places.Place.{Place}
use Rattle.query_text.specs.declared.places.Place.TheVariants.{Select, Item, NameEnd, Opening, Inside, Closing, AggEnd, NextAgg, Table, Where, LowTime, LowSign, LowBound, And, HighTime, HighSign, HighBound, CondEnd, CondName, CondOp, CondValue, By, GroupName, GroupEnd, OrderBy, OrderAgg, OrderOpening, OrderInside, OrderClosing, Ordered, LimitNumber, Last}
use Rattle.query_text.specs.declared.places.Move.{Move}
use Rattle.query_text.specs.declared.places.Move.TheVariants.{On, Stuck}
use Rattle.query_text.specs.Roles.{name_of_token, const_for, agg_word_of, op_of, int_of, limit_from, table_of_token, is_word, is_mark, has_kind, is_orderable, agg_inside, same_agg}
use Rattle.query_text.specs.Reading.{is_in_range, goes_on, on_if, order_or_limit, has_keys, goes_with, sign_fits, is_key, with_agg}
use Rattle.query_text.specs.Grammar.{behind_from, is_ranging}
use Rattle.query_text.proofs.Found.{None≢Some, name_word, or_false}
use Rattle.query_text.proofs.Inverse.{the_word, the_open, the_close, the_star, the_comma, the_kind, kind_word}

-- the number once a token more is read
abbrev pub next_behind : Option ℕ → Token → Option ℕ
next_behind None t = if is_word (codes "FROM") t then Some 0 else None
next_behind (Some n) t = Some (n + 1)

abbrev pub behind_after : Option ℕ → List Token → Option ℕ
behind_after d [] = d
behind_after d (t ∷ ts) = behind_after (next_behind d t) ts

count_on : (n : ℕ) (ts : List Token) → behind_after (Some n) ts ≡ Some (n + length ts)
count_on n [] = let none : n ≡ n + 0 = omega arith in ap Some none
count_on n (t ∷ ts) = let one_more : (n + 1) + length ts ≡ n + suc (length ts) = omega arith in count_on (n + 1) ts ∙ ap Some one_more

from_by : (b : Bool) (ts : List Token) → behind_after None ts ≡ behind_from ts → behind_after (if b then Some 0 else None) ts ≡ (if b then Some (length ts) else behind_from ts)
from_by true ts h = let none : 0 + length ts ≡ length ts = omega arith in count_on 0 ts ∙ ap Some none
from_by false ts h = h

pub counted : (ts : List Token) → behind_after None ts ≡ behind_from ts
counted [] = refl
counted (t ∷ ts) = from_by (is_word (codes "FROM") t) ts (counted ts)

-- ---- the number at each place

abbrev pub IsLate : Option ℕ → Type 0
IsLate d = (n : ℕ) × ((d ≡ Some n) × (9 ≤ n))

abbrev pub IsAt : Place → Option ℕ → Type 0
IsAt Select d = d ≡ None
IsAt Item d = d ≡ None
IsAt NameEnd d = d ≡ None
IsAt (Opening k) d = d ≡ None
IsAt (Inside k) d = d ≡ None
IsAt (Closing a) d = d ≡ None
IsAt AggEnd d = d ≡ None
IsAt NextAgg d = d ≡ None
IsAt Table d = d ≡ Some 0
IsAt Where d = d ≡ Some 1
IsAt LowTime d = d ≡ Some 2
IsAt LowSign d = d ≡ Some 3
IsAt LowBound d = d ≡ Some 4
IsAt And d = d ≡ Some 5
IsAt HighTime d = d ≡ Some 6
IsAt HighSign d = d ≡ Some 7
IsAt HighBound d = d ≡ Some 8
IsAt place d = IsLate d

late_range : (n : ℕ) → 9 ≤ n → (nat_lt 0 n && nat_lt n 9) ≡ false
late_range n h = rw (lt-ltb 0 n (omega (arith, h)), le-ltb n 9 h) refl

late_out : (d : Option ℕ) → IsLate d → is_ranging d ≡ false
late_out d l = rw l.1.0 (late_range l.0 l.1.1)

pub in_range : (place : Place) (d : Option ℕ) → IsAt place d → is_ranging d ≡ is_in_range place
in_range Select d h = rw h refl
in_range Item d h = rw h refl
in_range NameEnd d h = rw h refl
in_range (Opening k) d h = rw h refl
in_range (Inside k) d h = rw h refl
in_range (Closing a) d h = rw h refl
in_range AggEnd d h = rw h refl
in_range NextAgg d h = rw h refl
in_range Table d h = rw h refl
in_range Where d h = rw h refl
in_range LowTime d h = rw h refl
in_range LowSign d h = rw h refl
in_range LowBound d h = rw h refl
in_range And d h = rw h refl
in_range HighTime d h = rw h refl
in_range HighSign d h = rw h refl
in_range HighBound d h = rw h refl
in_range place d h = late_out d h

-- ---- one token more

abbrev pub IsAtMove : Move → Option ℕ → Type 0
IsAtMove (On q place) d = IsAt place d
IsAtMove Stuck d = Unit {0}

late_next : (d : Option ℕ) (t : Token) → IsLate d → IsLate (next_behind d t)
late_next d t l = let more = l.1.1 in (l.0 + 1, (rw l.1.0 refl, omega (arith, more)))

none_next : (d : Option ℕ) (t : Token) → d ≡ None → is_word (codes "FROM") t ≡ false → next_behind d t ≡ None
none_next d t e h = rw (e, h) refl

some_next : (n : ℕ) (d : Option ℕ) (t : Token) → d ≡ Some n → next_behind d t ≡ Some (n + 1)
some_next n d t e = rw e refl

on_at : (b : Bool) (q : Query) (place : Place) (d : Option ℕ) → (b ≡ true → IsAt place d) → IsAtMove (on_if b q place) d
on_at true q place d h = h refl
on_at false q place d h = tt

if_at : (c : Bool) (x y : Move) (d : Option ℕ) → (c ≡ true → IsAtMove x d) → (c ≡ false → IsAtMove y d) → IsAtMove (if c then x else y) d
if_at true x y d h k = h refl
if_at false x y d h k = k refl

-- tokens that are no FROM
other_word : (w : List ℕ) (t : Token) → is_word w t ≡ true → bytes_eq w (codes "FROM") ≡ false → is_word (codes "FROM") t ≡ false
other_word w t h e = rw (the_word w t h) e

kind_other : (k : AggWord) → is_word (codes "FROM") (token.Word (kind_word k)) ≡ false
kind_other kind.Count = refl
kind_other kind.Sum = refl
kind_other kind.Min = refl
kind_other kind.Max = refl
kind_other kind.Avg = refl

no_kind_word : (t : Token) (k : AggWord) → agg_word_of t ≡ Some k → is_word (codes "FROM") t ≡ false
no_kind_word t k h = rw (the_kind t k h) (kind_other k)

keyword_other : (s f others : Bool) → (s || (f || others)) ≡ false → f ≡ false
keyword_other s f others h = (or_false f others ((or_false s (f || others) h).1)).0

name_other : (t : Token) (n : List ℕ) → name_of_token t ≡ Some n → is_word (codes "FROM") t ≡ false
name_other (token.Word w) n h = keyword_other (bytes_eq w (codes "SELECT")) (bytes_eq w (codes "FROM")) _ (or_false (bytes_eq w (codes "HAS")) _ (name_word w n h).0.0).1
name_other (token.Name m) n h = refl
name_other (token.Text m) n h = refl
name_other (token.Int m) n h = refl
name_other token.Comma n h = refl
name_other token.Open n h = refl
name_other token.Close n h = refl
name_other token.Star n h = refl
name_other (token.Compare o) n h = refl
name_other token.Stray n h = refl

named_other : (make : List ℕ → Agg) (t : Token) (a : Agg) (o : Option (List ℕ)) → name_of_token t ≡ o → option_map make o ≡ Some a → is_word (codes "FROM") t ≡ false
named_other make t a None e h = absurd (None≢Some h)
named_other make t a (Some n) e h = name_other t n e

star_by : (b : Bool) (t : Token) (x a : Agg) → is_mark token.Star t ≡ b → (if b then Some x else None) ≡ Some a → is_word (codes "FROM") t ≡ false
star_by true t x a e h = rw (the_star t e) refl
star_by false t x a e h = absurd (None≢Some h)

inside_other : (k : AggWord) (t : Token) (a : Agg) → agg_inside k t ≡ Some a → is_word (codes "FROM") t ≡ false
inside_other kind.Count t a h = star_by (is_mark token.Star t) t _ a refl h
inside_other kind.Sum t a h = named_other agg.Sum t a (name_of_token t) refl h
inside_other kind.Min t a h = named_other agg.Min t a (name_of_token t) refl h
inside_other kind.Max t a h = named_other agg.Max t a (name_of_token t) refl h
inside_other kind.Avg t a h = named_other agg.Avg t a (name_of_token t) refl h

with_at : {A : Type 0} (o : Option A) (f : A → Move) (other : Move) (d : Option ℕ) → ((x : A) → o ≡ Some x → IsAtMove (f x) d) → IsAtMove other d → IsAtMove (goes_with o f other) d
with_at None f other d h k = k
with_at (Some x) f other d h k = h x refl

order_at : (q : Query) (t : Token) (d : Option ℕ) → IsLate d → IsAtMove (order_or_limit q t) d
order_at q t d h =
    if_at (is_word (codes "ORDER") t && list_any is_orderable q.aggs) (On q OrderBy) (on_if (is_word (codes "LIMIT") t) q LimitNumber) d
    (λ e. h) (λ e. on_at (is_word (codes "LIMIT") t) q LimitNumber d (λ k. h))

from_next : (d : Option ℕ) (t : Token) → d ≡ None → is_word (codes "FROM") t ≡ true → next_behind d t ≡ Some 0
from_next d t e h = rw (e, h) refl

pub at_next : (q : Query) (place : Place) (t : Token) (d : Option ℕ) → IsAt place d → IsAtMove (goes_on q place t) (next_behind d t)
at_next q Select t d h = on_at (is_word (codes "SELECT") t) q Item (next_behind d t) (λ e. none_next d t h (other_word (codes "SELECT") t e refl))
at_next q Item t d h =
    with_at (agg_word_of t) _ _ (next_behind d t) (λ k e. none_next d t h (no_kind_word t k e))
    (with_at (name_of_token t) _ _ (next_behind d t) (λ n e. none_next d t h (name_other t n e)) tt)
at_next q NameEnd t d h = on_at (is_mark token.Comma t) q Item (next_behind d t) (λ e. none_next d t h (rw (the_comma t e) refl))
at_next q (Opening k) t d h = on_at (is_mark token.Open t) q (Inside k) (next_behind d t) (λ e. none_next d t h (rw (the_open t e) refl))
at_next q (Inside k) t d h = with_at (agg_inside k t) _ _ (next_behind d t) (λ a e. none_next d t h (inside_other k t a e)) tt
at_next q (Closing a) t d h = on_at (is_mark token.Close t) (with_agg q a) AggEnd (next_behind d t) (λ e. none_next d t h (rw (the_close t e) refl))
at_next q AggEnd t d h =
    if_at (is_mark token.Comma t) (On q NextAgg) (on_if (is_word (codes "FROM") t) q Table) (next_behind d t) (λ e. none_next d t h (rw (the_comma t e) refl))
    (λ e. on_at (is_word (codes "FROM") t) q Table (next_behind d t) (λ k. from_next d t h k))
at_next q NextAgg t d h = with_at (agg_word_of t) _ _ (next_behind d t) (λ k e. none_next d t h (no_kind_word t k e)) tt
at_next q Table t d h = with_at (table_of_token t) _ _ (next_behind d t) (λ n e. some_next 0 d t h) tt
at_next q Where t d h = on_at (is_word (codes "WHERE") t) q LowTime (next_behind d t) (λ e. some_next 1 d t h)
at_next q LowTime t d h = on_at (is_word (codes "time") t) q LowSign (next_behind d t) (λ e. some_next 2 d t h)
at_next q LowSign t d h = on_at (sign_fits true (op_of t)) q LowBound (next_behind d t) (λ e. some_next 3 d t h)
at_next q LowBound t d h = with_at (int_of t) _ _ (next_behind d t) (λ n e. some_next 4 d t h) tt
at_next q And t d h = on_at (is_word (codes "AND") t) q HighTime (next_behind d t) (λ e. some_next 5 d t h)
at_next q HighTime t d h = on_at (is_word (codes "time") t) q HighSign (next_behind d t) (λ e. some_next 6 d t h)
at_next q HighSign t d h = on_at (sign_fits false (op_of t)) q HighBound (next_behind d t) (λ e. some_next 7 d t h)
at_next q HighBound t d h = with_at (int_of t) _ _ (next_behind d t) (λ n e. (9, (some_next 8 d t h, omega arith))) tt
at_next q CondEnd t d h =
    if_at (is_word (codes "AND") t) (On q CondName) (if has_keys q then on_if (is_word (codes "GROUP") t) q By else order_or_limit q t) (next_behind d t) (λ e. late_next d t h)
    (λ e. if_at (has_keys q) (on_if (is_word (codes "GROUP") t) q By) (order_or_limit q t) (next_behind d t)
    (λ some. on_at (is_word (codes "GROUP") t) q By (next_behind d t) (λ k. late_next d t h)) (λ none. order_at q t (next_behind d t) (late_next d t h)))
at_next q CondName t d h = with_at (name_of_token t) _ _ (next_behind d t) (λ n e. late_next d t h) tt
at_next q (CondOp name) t d h = with_at (op_of t) _ _ (next_behind d t) (λ o e. late_next d t h) tt
at_next q (CondValue name op) t d h = with_at (const_for op t) _ _ (next_behind d t) (λ v e. late_next d t h) tt
at_next q By t d h = on_at (is_word (codes "BY") t) q (GroupName 0) (next_behind d t) (λ e. late_next d t h)
at_next q (GroupName i) t d h = on_at (is_key (slice_get q.keys i) (name_of_token t)) q (GroupEnd (i + 1)) (next_behind d t) (λ e. late_next d t h)
at_next q (GroupEnd i) t d h =
    if_at (nat_lt i (length q.keys)) (on_if (is_mark token.Comma t) q (GroupName i)) (order_or_limit q t) (next_behind d t)
    (λ e. on_at (is_mark token.Comma t) q (GroupName i) (next_behind d t) (λ k. late_next d t h)) (λ e. order_at q t (next_behind d t) (late_next d t h))
at_next q OrderBy t d h = on_at (is_word (codes "BY") t) q OrderAgg (next_behind d t) (λ e. late_next d t h)
at_next q OrderAgg t d h = with_at (agg_word_of t) _ _ (next_behind d t) (λ k e. on_at (list_any (has_kind k) q.aggs) q (OrderOpening k) (next_behind d t) (λ some. late_next d t h)) tt
at_next q (OrderOpening k) t d h = on_at (is_mark token.Open t) q (OrderInside k) (next_behind d t) (λ e. late_next d t h)
at_next q (OrderInside k) t d h = with_at (option_and_then (λ a. position_from (same_agg a) 0 q.aggs) (agg_inside k t)) _ _ (next_behind d t) (λ i e. late_next d t h) tt
at_next q (OrderClosing i) t d h = on_at (is_mark token.Close t) (record q { order = Some i }) Ordered (next_behind d t) (λ e. late_next d t h)
at_next q Ordered t d h = on_at (is_word (codes "LIMIT") t) q LimitNumber (next_behind d t) (λ e. late_next d t h)
at_next q LimitNumber t d h = with_at (limit_from (int_of t)) _ _ (next_behind d t) (λ n e. late_next d t h) tt
at_next q Last t d h = tt
