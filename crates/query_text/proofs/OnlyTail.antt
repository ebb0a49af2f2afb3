-- What is read behind the range of times is spelled so.
use Rattle.std.proofs.Common.{◌≡◌, ℕ, suc, zero, ◌+◌, ◌<◌, ◌≤◌, Bool, true, false, ◌&&◌, List, [], ◌∷◌, ◌++◌, length, Option, Some, None, if◌then◌else◌, refl, sym, ap, ◌∙◌, ℤ, arith, nat_lt}
use Rattle.std.specs.Prelude.{codes, slice_get, option_map, option_and_then}
use Rattle.std.specs.List.{list_any, position_from}
use Rattle.std.proofs.lemmas.Bool.{lt-ltb, le-ltb, true≢false, false≢true, and_parts}
use Rattle.std.proofs.lemmas.Slice.Eq.{bytes_eq-Decides}
use Rattle.std.proofs.lemmas.List.{append_assoc, append-nil}
use Rattle.leaf_model.specs.declared.queries.Cond.{Cond}
use Rattle.leaf_model.specs.declared.queries.Agg.{Agg}
use Rattle.leaf_model.specs.declared.queries.Agg.TheVariants as agg
use Rattle.leaf_model.specs.declared.queries.Query.{Query}
use Rattle.query_text.specs.declared.tokens.Token.{Token}
use Rattle.query_text.specs.declared.tokens.Token.TheVariants as token
use Rattle.query_text.specs.declared.places.AggWord.{AggWord}
use Rattle.query_text.specs.declared.places.AggWord.TheVariants as kind
use Rattle.query_text.specs.declared.places.Place.{Place}
use Rattle.query_text.specs.declared.places.Place.TheVariants.{CondEnd, CondName, CondOp, CondValue, By, GroupName, GroupEnd, OrderBy, OrderAgg, OrderOpening, OrderInside, OrderClosing, Ordered, LimitNumber, Last}
use Rattle.query_text.specs.declared.places.Move.TheVariants.{On, Stuck}
use Rattle.query_text.specs.Roles.{name_of_token, const_for, agg_word_of, op_of, int_of, limit_from, is_word, is_mark, has_kind, is_orderable, agg_inside, same_agg}
use Rattle.query_text.specs.Reading.{on_if, goes_with, is_key, with_cond}
use Rattle.query_text.specs.Printing.{ordering_agg}
use Rattle.query_text.specs.Grammar.{Sign, Says, Spells, TheName, Exactly, keyword, IsOrder, agg_signs, conds_signs, more_names_signs, group_signs, order_signs, limit_signs, asked_sign}
use Rattle.query_text.proofs.Plain.{reads, moved, made}
use Rattle.query_text.proofs.Found.{some_same, None≢Some, seam, longer, next_length}
use Rattle.query_text.proofs.Inverse.{on_if_in, step, give, the_word, the_open, the_close, the_comma, the_op, the_limit, the_asked, kind_word, the_kind, inside_spells, same_aggs}

pub one_less : {x : Token} {ts us : List Token} → ts ≡ x ∷ us → length ts ≡ suc (length us)
one_less is = ap length is

-- ---- LIMIT and the end

pub record Limited (table : List ℕ) (from to : ℤ) (conds : List Cond) (keys : List (List ℕ)) (aggs : List Agg) (o : Option ℕ) (r : Query) (ts : List Token) : Type 0 where
  pub is_limited : Bool
  pub n : ℕ
  pub small : n ≤ 100000
  pub default : is_limited ≡ false → n ≡ 100000
  pub is : r ≡ made table from to conds keys aggs o n
  pub spelled : Spells (limit_signs is_limited n) ts

nothing_after : (s r : Query) (ts : List Token) → reads s Last ts ≡ Some r → (ts ≡ []) × (r ≡ s)
nothing_after s r [] h = (refl, sym (some_same h))
nothing_after s r (t ∷ ts) h = absurd (None≢Some h)

not_limited : (table : List ℕ) (from to : ℤ) (conds : List Cond) (keys : List (List ℕ)) (aggs : List Agg) (o : Option ℕ) (r : Query)
    → Some (made table from to conds keys aggs o 100000) ≡ Some r → Limited table from to conds keys aggs o r []
not_limited table from to conds keys aggs o r h = record { is_limited = false; n = 100000; small = omega arith; default = λ e. refl; is = sym (some_same h); spelled = tt }

limited : (table : List ℕ) (from to : ℤ) (conds : List Cond) (keys : List (List ℕ)) (aggs : List Agg) (o : Option ℕ) (r : Query) (t : Token) (ts : List Token)
    → is_word (codes "LIMIT") t ≡ true → reads (made table from to conds keys aggs o 100000) LimitNumber ts ≡ Some r → Limited table from to conds keys aggs o r (t ∷ ts)
limited table from to conds keys aggs o r t ts w h =
    let s = made table from to conds keys aggs o 100000 in
    let g = give (λ t. limit_from (int_of t)) (λ n. record s { limit = n }) (λ n. Last) s r LimitNumber ts refl (λ t. refl) h in
    let number = the_limit g.t g.x g.gives in
    let last = nothing_after (record s { limit = g.x }) r g.us g.read in
    record {
      is_limited = true;
      n = g.x;
      small = number.1;
      default = λ e. absurd (true≢false e);
      is = last.1;
      spelled = rw (g.is, last.0) (the_word (codes "LIMIT") t w, (number.0, tt));
    }

only_limit : (table : List ℕ) (from to : ℤ) (conds : List Cond) (keys : List (List ℕ)) (aggs : List Agg) (o : Option ℕ) (r : Query) (ts : List Token)
    → reads (made table from to conds keys aggs o 100000) Ordered ts ≡ Some r → Limited table from to conds keys aggs o r ts
only_limit table from to conds keys aggs o r [] h = not_limited table from to conds keys aggs o r h
only_limit table from to conds keys aggs o r (t ∷ ts) h =
    let s = made table from to conds keys aggs o 100000 in
    let both = on_if_in (is_word (codes "LIMIT") t) s LimitNumber (λ q n. reads q n ts) r h in
    limited table from to conds keys aggs o r t ts both.0 both.1

-- ---- ORDER BY

pub record Tailed (part : List Sign → List Sign) (table : List ℕ) (from to : ℤ) (conds : List Cond) (keys : List (List ℕ)) (aggs : List Agg) (r : Query) (ts : List Token) : Type 0 where
  pub o : Option ℕ
  pub order : IsOrder o aggs
  pub is_limited : Bool
  pub n : ℕ
  pub small : n ≤ 100000
  pub default : is_limited ≡ false → n ≡ 100000
  pub is : r ≡ made table from to conds keys aggs o n
  pub spelled : Spells (part (order_signs (ordering_agg o aggs) (limit_signs is_limited n))) ts

unordered : (table : List ℕ) (from to : ℤ) (conds : List Cond) (keys : List (List ℕ)) (aggs : List Agg) (r : Query) (ts : List Token)
    → Limited table from to conds keys aggs None r ts → Tailed (λ S. S) table from to conds keys aggs r ts
unordered table from to conds keys aggs r ts l = record { o = None; order = tt; is_limited = l.is_limited; n = l.n; small = l.small; default = l.default; is = l.is; spelled = l.spelled }

first_by : (t : Bool) (i k : ℕ) (a b : Agg) (aggs : List Agg) → same_agg a b ≡ t
    → (position_from (same_agg a) (i + 1) aggs ≡ Some k → (j : ℕ) × ((k ≡ (i + 1) + j) × (slice_get aggs j ≡ Some a)))
    → (if t then Some i else position_from (same_agg a) (i + 1) aggs) ≡ Some k → (j : ℕ) × ((k ≡ i + j) × (slice_get (b ∷ aggs) j ≡ Some a))
first_by true i k a b aggs e rec g = let same = some_same g in (0, (omega (arith, same), ap Some (sym (same_aggs a b e))))
first_by false i k a b aggs e rec g = let more = rec g in (suc more.0, ((let same = more.1.0 in omega (arith, same)), more.1.1))

-- the aggregate at the place of the first equal one
first_is : (i k : ℕ) (a : Agg) (aggs : List Agg) → position_from (same_agg a) i aggs ≡ Some k → (j : ℕ) × ((k ≡ i + j) × (slice_get aggs j ≡ Some a))
first_is i k a [] h = absurd (None≢Some h)
first_is i k a (b ∷ aggs) h = first_by (same_agg a b) i k a b aggs refl (λ g. first_is (i + 1) k a aggs g) h

there_is : (aggs : List Agg) (k j : ℕ) (a : Agg) → k ≡ 0 + j → slice_get aggs j ≡ Some a → slice_get aggs k ≡ Some a
there_is aggs k j a e h = let same : k ≡ j = omega (arith, e) in rw same h

place_inside : (aggs : List Agg) (o : Option Agg) (i : ℕ) → option_and_then (λ a. position_from (same_agg a) 0 aggs) o ≡ Some i → (a : Agg) × ((o ≡ Some a) × (position_from (same_agg a) 0 aggs ≡ Some i))
place_inside aggs None i h = absurd (None≢Some h)
place_inside aggs (Some a) i h = (a, (refl, h))

no_average : (aggs : List Agg) → list_any (has_kind kind.Avg) aggs ≡ false
no_average [] = refl
no_average (agg.Count ∷ aggs) = no_average aggs
no_average (agg.Sum n ∷ aggs) = no_average aggs
no_average (agg.Min n ∷ aggs) = no_average aggs
no_average (agg.Max n ∷ aggs) = no_average aggs
no_average (agg.Avg n ∷ aggs) = no_average aggs

named_orderable : (make : List ℕ → Agg) (o : Option (List ℕ)) (a : Agg) → ((name : List ℕ) → is_orderable (make name) ≡ true) → option_map make o ≡ Some a → is_orderable a ≡ true
named_orderable make None a all h = absurd (None≢Some h)
named_orderable make (Some name) a all h = ap is_orderable (sym (some_same h)) ∙ all name

star_orderable : (b : Bool) (a : Agg) → (if b then Some agg.Count else None) ≡ Some a → is_orderable a ≡ true
star_orderable true a h = ap is_orderable (sym (some_same h))
star_orderable false a h = absurd (None≢Some h)

orderable : (k : AggWord) (t : Token) (aggs : List Agg) (a : Agg) → list_any (has_kind k) aggs ≡ true → agg_inside k t ≡ Some a → is_orderable a ≡ true
orderable kind.Count t aggs a any h = star_orderable (is_mark token.Star t) a h
orderable kind.Sum t aggs a any h = named_orderable agg.Sum (name_of_token t) a (λ name. refl) h
orderable kind.Min t aggs a any h = named_orderable agg.Min (name_of_token t) a (λ name. refl) h
orderable kind.Max t aggs a any h = named_orderable agg.Max (name_of_token t) a (λ name. refl) h
orderable kind.Avg t aggs a any h = absurd (false≢true (sym (no_average aggs) ∙ any))

pub called_spells : (k : AggWord) (a : Agg) (S : List Sign) (t x : Token) (ts fs gs cs : List Token) → t ≡ token.Word (kind_word k) → ts ≡ token.Open ∷ fs → fs ≡ x ∷ gs → gs ≡ token.Close ∷ cs
    → Spells (agg_signs a S) (token.Word (kind_word k) ∷ token.Open ∷ x ∷ token.Close ∷ cs) → Spells (agg_signs a S) (t ∷ ts)
called_spells k a S t x ts fs gs cs et es ef eg h = rw (et, es, ef, eg) h

ordered_spells : (o : Option Agg) (a : Agg) (S : List Sign) (ts : List Token) → o ≡ Some a → Spells (agg_signs a S) ts → Spells (order_signs o S) (token.Word (codes "ORDER") ∷ token.Word (codes "BY") ∷ ts)
ordered_spells o a S ts e h = rw e (refl, (refl, h))

-- behind ORDER BY
only_order : (table : List ℕ) (from to : ℤ) (conds : List Cond) (keys : List (List ℕ)) (aggs : List Agg) (r : Query) (k : AggWord) (t : Token) (ts : List Token)
    → agg_word_of t ≡ Some k → list_any (has_kind k) aggs ≡ true → reads (made table from to conds keys aggs None 100000) (OrderOpening k) ts ≡ Some r
    → Tailed (λ S. S) table from to conds keys aggs r (token.Word (codes "ORDER") ∷ token.Word (codes "BY") ∷ t ∷ ts)
only_order table from to conds keys aggs r k t ts is any h =
    let s = made table from to conds keys aggs None 100000 in
    let f = step (is_mark token.Open) token.Open the_open s s r (OrderOpening k) (OrderInside k) ts refl (λ t. refl) h in
    let g = give (λ t. option_and_then (λ a. position_from (same_agg a) 0 aggs) (agg_inside k t)) (λ i. s) (λ i. OrderClosing i) s r (OrderInside k) f.us refl (λ t. refl) f.read in
    let c = step (is_mark token.Close) token.Close the_close s (record s { order = Some g.x }) r (OrderClosing g.x) Ordered g.us refl (λ t. refl) g.read in
    let l = only_limit table from to conds keys aggs (Some g.x) r c.us c.read in
    let inside = place_inside aggs (agg_inside k g.t) g.x g.gives in
    let first = first_is 0 g.x inside.0 aggs inside.1.1 in
    let there = there_is aggs g.x first.0 inside.0 first.1.0 first.1.1 in
    let spelled = inside_spells k g.t inside.0 (limit_signs l.is_limited l.n) c.us inside.1.0 l.spelled in
    record {
      o = Some g.x;
      order = (inside.0, (there, (orderable k g.t aggs inside.0 any inside.1.0, inside.1.1)));
      is_limited = l.is_limited;
      n = l.n;
      small = l.small;
      default = l.default;
      is = l.is;
      spelled = ordered_spells (slice_get aggs g.x) inside.0 (limit_signs l.is_limited l.n) (t ∷ ts) there (called_spells k inside.0 (limit_signs l.is_limited l.n) t g.t ts f.us g.us c.us (the_kind t k is) f.is g.is c.is spelled);
    }

kind_if : (s r : Query) (o : Option AggWord) (f : Query → Place → Option Query) → moved (goes_with o (λ kind. on_if (list_any (has_kind kind) s.aggs) s (OrderOpening kind)) Stuck) f ≡ Some r
    → (k : AggWord) × ((o ≡ Some k) × ((list_any (has_kind k) s.aggs ≡ true) × (f s (OrderOpening k) ≡ Some r)))
kind_if s r None f h = absurd (None≢Some h)
kind_if s r (Some k) f h = let both = on_if_in (list_any (has_kind k) s.aggs) s (OrderOpening k) f r h in (k, (refl, (both.0, both.1)))

only_order_agg : (table : List ℕ) (from to : ℤ) (conds : List Cond) (keys : List (List ℕ)) (aggs : List Agg) (r : Query) (ts : List Token)
    → reads (made table from to conds keys aggs None 100000) OrderAgg ts ≡ Some r
    → Tailed (λ S. S) table from to conds keys aggs r (token.Word (codes "ORDER") ∷ token.Word (codes "BY") ∷ ts)
only_order_agg table from to conds keys aggs r [] h = absurd (None≢Some h)
only_order_agg table from to conds keys aggs r (t ∷ ts) h =
    let q = kind_if (made table from to conds keys aggs None 100000) r (agg_word_of t) (λ q n. reads q n ts) h in
    only_order table from to conds keys aggs r q.0 t ts q.1.0 q.1.1.0 q.1.1.1

order_by : (b : Bool) (table : List ℕ) (from to : ℤ) (conds : List Cond) (keys : List (List ℕ)) (aggs : List Agg) (r : Query) (t : Token) (ts : List Token)
    → (is_word (codes "ORDER") t && list_any is_orderable aggs) ≡ b
    → moved (if b then On (made table from to conds keys aggs None 100000) OrderBy else on_if (is_word (codes "LIMIT") t) (made table from to conds keys aggs None 100000) LimitNumber) (λ q n. reads q n ts) ≡ Some r
    → Tailed (λ S. S) table from to conds keys aggs r (t ∷ ts)
order_by true table from to conds keys aggs r t ts e h =
    let s = made table from to conds keys aggs None 100000 in
    let f = step (is_word (codes "BY")) (token.Word (codes "BY")) (the_word (codes "BY")) s s r OrderBy OrderAgg ts refl (λ t. refl) h in
    let both = and_parts (is_word (codes "ORDER") t) (list_any is_orderable aggs) e in
    rw (the_word (codes "ORDER") t both.0, f.is) (only_order_agg table from to conds keys aggs r f.us f.read)
order_by false table from to conds keys aggs r t ts e h =
    let s = made table from to conds keys aggs None 100000 in
    let both = on_if_in (is_word (codes "LIMIT") t) s LimitNumber (λ q n. reads q n ts) r h in
    unordered table from to conds keys aggs r (t ∷ ts) (limited table from to conds keys aggs None r t ts both.0 both.1)

pub extend : (part other : List Sign → List Sign) (table : List ℕ) (from to : ℤ) (conds : List Cond) (keys : List (List ℕ)) (aggs : List Agg) (r : Query) (us ts : List Token)
    → ((S : List Sign) → Spells (part S) us → Spells (other S) ts) → Tailed part table from to conds keys aggs r us → Tailed other table from to conds keys aggs r ts
extend part other table from to conds keys aggs r us ts f l =
    record { o = l.o; order = l.order; is_limited = l.is_limited; n = l.n; small = l.small; default = l.default; is = l.is; spelled = f _ l.spelled }

-- ---- GROUP BY

key_in : (m : List ℕ) (o : Option (List ℕ)) → is_key (Some m) o ≡ true → o ≡ Some m
key_in m None h = absurd (false≢true h)
key_in m (Some n) h = ap Some (sym ((bytes_eq-Decides m n).0 h))

-- a name of GROUP BY
pub record Named (s r : Query) (i : ℕ) (name : List ℕ) (ts : List Token) : Type 0 where
  pub t : Token
  pub us : List Token
  pub is : ts ≡ t ∷ us
  pub names : name_of_token t ≡ Some name
  pub read : reads s (GroupEnd (i + 1)) us ≡ Some r

group_name_in : (s r : Query) (i : ℕ) (name : List ℕ) (ts : List Token) → slice_get s.keys i ≡ Some name → reads s (GroupName i) ts ≡ Some r → Named s r i name ts
group_name_in s r i name [] there h = absurd (None≢Some h)
group_name_in s r i name (t ∷ ts) there h =
    let both = on_if_in (is_key (slice_get s.keys i) (name_of_token t)) s (GroupEnd (i + 1)) (λ q n. reads q n ts) r h in
    record { t = t; us = ts; is = refl; names = key_in name (name_of_token t) (rw there at both.0); read = both.1 }

by_spells : (S : List Sign) (ts us : List Token) → ts ≡ token.Word (codes "BY") ∷ us → Spells S us → Spells (keyword (codes "BY") ∷ S) ts
by_spells S ts us is h = rw is (refl, h)

name_spells : (name : List ℕ) (S : List Sign) (t : Token) (ts us : List Token) → ts ≡ t ∷ us → name_of_token t ≡ Some name → Spells S us → Spells (TheName name ∷ S) ts
name_spells name S t ts us is e h = rw is (e, h)

only_more_names : (table : List ℕ) (from to : ℤ) (conds : List Cond) (names before keys : List (List ℕ)) (aggs : List Agg) (r : Query) (ts : List Token) → keys ≡ before ++ names
    → reads (made table from to conds keys aggs None 100000) (GroupEnd (length before)) ts ≡ Some r
    → Tailed (more_names_signs names) table from to conds keys aggs r ts
only_more_names table from to conds [] before keys aggs r [] is h =
    let same : length keys ≡ length before = rw (is, append-nil before) refl in
    let full : nat_lt (length before) (length keys) ≡ false = le-ltb (length before) (length keys) (omega (arith, same)) in
    unordered table from to conds keys aggs r [] (not_limited table from to conds keys aggs None r (rw full at h))
only_more_names table from to conds [] before keys aggs r (t ∷ ts) is h =
    let same : length keys ≡ length before = rw (is, append-nil before) refl in
    let full : nat_lt (length before) (length keys) ≡ false = le-ltb (length before) (length keys) (omega (arith, same)) in
    order_by (is_word (codes "ORDER") t && list_any is_orderable aggs) table from to conds keys aggs r t ts refl (rw full at h)
only_more_names table from to conds (name ∷ names) before keys aggs r [] is h =
    let room : nat_lt (length before) (length keys) ≡ true = rw is (lt-ltb (length before) (length (before ++ (name ∷ names))) (longer before name names)) in
    absurd (None≢Some (rw room at h))
only_more_names table from to conds (name ∷ names) before keys aggs r (t ∷ ts) is h =
    let s = made table from to conds keys aggs None 100000 in
    let room : nat_lt (length before) (length keys) ≡ true = rw is (lt-ltb (length before) (length (before ++ (name ∷ names))) (longer before name names)) in
    let there : slice_get keys (length before) ≡ Some name = rw is (seam before name names) in
    let both = on_if_in (is_mark token.Comma t) s (GroupName (length before)) (λ q n. reads q n ts) r (rw room at h) in
    let g = group_name_in s r (length before) name ts there both.1 in
    let further = only_more_names table from to conds names (before ++ (name ∷ [])) keys aggs r g.us (is ∙ sym (append_assoc before (name ∷ []) names)) (rw (next_length before name) at g.read) in
    extend (more_names_signs names) (more_names_signs (name ∷ names)) table from to conds keys aggs r g.us (t ∷ ts)
    (λ S k. (the_comma t both.0, name_spells name (more_names_signs names S) g.t ts g.us g.is g.names k)) further

-- behind the conditions
only_group : (table : List ℕ) (from to : ℤ) (conds : List Cond) (keys : List (List ℕ)) (aggs : List Agg) (r : Query) (t : Token) (ts : List Token) → is_word (codes "AND") t ≡ false
    → reads (made table from to conds keys aggs None 100000) CondEnd (t ∷ ts) ≡ Some r → Tailed (group_signs keys) table from to conds keys aggs r (t ∷ ts)
only_group table from to conds [] aggs r t ts other h =
    order_by (is_word (codes "ORDER") t && list_any is_orderable aggs) table from to conds [] aggs r t ts refl (rw other at h)
only_group table from to conds (name ∷ names) aggs r t ts other h =
    let s = made table from to conds (name ∷ names) aggs None 100000 in
    let some : nat_lt 0 (length (name ∷ names)) ≡ true = lt-ltb 0 (length (name ∷ names)) (omega arith) in
    let both = on_if_in (is_word (codes "GROUP") t) s By (λ q n. reads q n ts) r (rw (other, some) at h) in
    let f = step (is_word (codes "BY")) (token.Word (codes "BY")) (the_word (codes "BY")) s s r By (GroupName 0) ts refl (λ t. refl) both.1 in
    let g = group_name_in s r 0 name f.us refl f.read in
    let further = only_more_names table from to conds names (name ∷ []) (name ∷ names) aggs r g.us refl g.read in
    extend (more_names_signs names) (group_signs (name ∷ names)) table from to conds (name ∷ names) aggs r g.us (t ∷ ts)
    (λ S k. (the_word (codes "GROUP") t both.0, by_spells (TheName name ∷ more_names_signs names S) ts f.us f.is (name_spells name (more_names_signs names S) g.t f.us g.us g.is g.names k))) further

only_end : (table : List ℕ) (from to : ℤ) (conds : List Cond) (keys : List (List ℕ)) (aggs : List Agg) (r : Query)
    → reads (made table from to conds keys aggs None 100000) CondEnd [] ≡ Some r → Tailed (group_signs keys) table from to conds keys aggs r []
only_end table from to conds [] aggs r h = unordered table from to conds [] aggs r [] (not_limited table from to conds [] aggs None r h)
only_end table from to conds (name ∷ names) aggs r h =
    let some : nat_lt 0 (length (name ∷ names)) ≡ true = lt-ltb 0 (length (name ∷ names)) (omega arith) in
    absurd (None≢Some (rw some at h))

-- ---- conditions

pub record Conditioned (table : List ℕ) (from to : ℤ) (before : List Cond) (keys : List (List ℕ)) (aggs : List Agg) (r : Query) (ts : List Token) : Type 0 where
  pub conds : List Cond
  pub tail : Tailed (λ S. conds_signs conds (group_signs keys S)) table from to (before ++ conds) keys aggs r ts

unconditioned : (table : List ℕ) (from to : ℤ) (before : List Cond) (keys : List (List ℕ)) (aggs : List Agg) (r : Query) (ts : List Token)
    → Tailed (group_signs keys) table from to before keys aggs r ts → Conditioned table from to before keys aggs r ts
unconditioned table from to before keys aggs r ts l = record { conds = []; tail = rw (append-nil before) l }

cond_spells : (c : Cond) (S : List Sign) (t n o v : Token) (ts ns os vs : List Token) → t ≡ token.Word (codes "AND") → ts ≡ n ∷ ns → name_of_token n ≡ Some c.name
    → ns ≡ o ∷ os → o ≡ token.Compare c.op → os ≡ v ∷ vs → Says (asked_sign c.op c.value) v → Spells S vs
    → Spells (keyword (codes "AND") ∷ TheName c.name ∷ Exactly (token.Compare c.op) ∷ asked_sign c.op c.value ∷ S) (t ∷ ts)
cond_spells c S t n o v ts ns os vs et ets en ens eo eos ev h = rw (ets, ens, eos) (et, (en, (eo, (ev, h))))

cond_more : (table : List ℕ) (from to : ℤ) (before : List Cond) (c : Cond) (keys : List (List ℕ)) (aggs : List Agg) (r : Query) (ts us : List Token)
    → ((S : List Sign) → Spells S us → Spells (keyword (codes "AND") ∷ TheName c.name ∷ Exactly (token.Compare c.op) ∷ asked_sign c.op c.value ∷ S) ts)
    → Conditioned table from to (before ++ (c ∷ [])) keys aggs r us → Conditioned table from to before keys aggs r ts
cond_more table from to before c keys aggs r ts us f l = record {
  conds = c ∷ l.conds;
  tail = extend (λ S. conds_signs l.conds (group_signs keys S)) (λ S. conds_signs (c ∷ l.conds) (group_signs keys S)) table from to (before ++ (c ∷ l.conds)) keys aggs r us ts
      (λ S k. f (conds_signs l.conds (group_signs keys S)) k) (rw (append_assoc before (c ∷ []) l.conds) at l.tail);
}

cond_by : (b : Bool) (table : List ℕ) (from to : ℤ) (before : List Cond) (keys : List (List ℕ)) (aggs : List Agg) (r : Query) (t : Token) (ts : List Token) → is_word (codes "AND") t ≡ b
    → ((more : List Cond) (us : List Token) → length us < length ts → reads (made table from to more keys aggs None 100000) CondEnd us ≡ Some r → Conditioned table from to more keys aggs r us)
    → reads (made table from to before keys aggs None 100000) CondEnd (t ∷ ts) ≡ Some r → Conditioned table from to before keys aggs r (t ∷ ts)
cond_by false table from to before keys aggs r t ts e rec h = unconditioned table from to before keys aggs r (t ∷ ts) (only_group table from to before keys aggs r t ts e h)
cond_by true table from to before keys aggs r t ts e rec h =
    let s = made table from to before keys aggs None 100000 in
    let n = give name_of_token (λ name. s) (λ name. CondOp name) s r CondName ts refl (λ t. refl) (rw e at h) in
    let o = give op_of (λ op. s) (λ op. CondValue n.x op) s r (CondOp n.x) n.us refl (λ t. refl) n.read in
    let v = give (const_for o.x) (λ v. with_cond s n.x o.x v) (λ v. CondEnd) s r (CondValue n.x o.x) o.us refl (λ t. refl) o.read in
    let ln = one_less n.is in
    let lo = one_less o.is in
    let lv = one_less v.is in
    let c : Cond = record { name = n.x; op = o.x; value = v.x } in
    cond_more table from to before c keys aggs r (t ∷ ts) v.us
    (λ S k. cond_spells c S t n.t o.t v.t ts n.us o.us v.us (the_word (codes "AND") t e) n.is n.gives o.is (the_op o.t o.x o.gives) v.is (the_asked o.x v.t v.x v.gives) k)
    (rec (before ++ (c ∷ [])) v.us (omega (arith, ln, lo, lv)) v.read)

pub only_conds : (fuel : ℕ) (table : List ℕ) (from to : ℤ) (before : List Cond) (keys : List (List ℕ)) (aggs : List Agg) (r : Query) (ts : List Token) → length ts ≤ fuel
    → reads (made table from to before keys aggs None 100000) CondEnd ts ≡ Some r → Conditioned table from to before keys aggs r ts
only_conds fuel table from to before keys aggs r [] short h = unconditioned table from to before keys aggs r [] (only_end table from to before keys aggs r h)
only_conds zero table from to before keys aggs r (t ∷ ts) short h = absurd (omega (arith, short))
only_conds (suc fuel) table from to before keys aggs r (t ∷ ts) short h =
    cond_by (is_word (codes "AND") t) table from to before keys aggs r t ts refl
    (λ more us less k. only_conds fuel table from to more keys aggs r us (omega (arith, short, less)) k) h
