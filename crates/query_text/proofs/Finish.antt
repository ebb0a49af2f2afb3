-- What was read can be finished.
use Rattle.std.proofs.Common.{◌≡◌, ℕ, suc, zero, ◌+◌, ◌<◌, ◌≤◌, Bool, true, false, ◌||◌, List, [], ◌∷◌, length, Some, refl, ◌∙◌, pos, arith, nat_lt, if◌then◌else◌}
use Rattle.std.specs.Prelude.{codes, slice_get}
use Rattle.std.specs.List.{list_any, position_from}
use Rattle.std.proofs.lemmas.Bool.{le-ltb, ltb-true, false≢true}
use Rattle.row_model.specs.declared.rows.Value.TheVariants as value
use Rattle.leaf_model.specs.declared.queries.Op.{Op}
use Rattle.leaf_model.specs.declared.queries.Op.TheVariants.{Eq, Le, Ge}
use Rattle.leaf_model.specs.declared.queries.Agg.{Agg}
use Rattle.leaf_model.specs.declared.queries.Agg.TheVariants as agg
use Rattle.leaf_model.specs.declared.queries.Query.{Query}
use Rattle.query_text.specs.declared.tokens.Token.{Token}
use Rattle.query_text.specs.declared.tokens.Token.TheVariants as token
use Rattle.query_text.specs.declared.places.AggWord.{AggWord}
use Rattle.query_text.specs.declared.places.AggWord.TheVariants as kind
use Rattle.query_text.specs.declared.places.Place.{Place}
use Rattle.query_text.specs.declared.places.Place.TheVariants.{Select, Item, NameEnd, Opening, Inside, Closing, AggEnd, NextAgg, Table, Where, LowTime, LowSign, LowBound, And, HighTime, HighSign, HighBound, CondEnd, CondName, CondOp, CondValue, By, GroupName, GroupEnd, OrderBy, OrderAgg, OrderOpening, OrderInside, OrderClosing, Ordered, LimitNumber, Last}
use Rattle.query_text.specs.Roles.{agg_word_of, has_kind, is_orderable, same_agg, agg_inside, const_of, const_for, text_of_token, is_has}
use Rattle.query_text.specs.Reading.{may_end, has_keys, with_agg, with_cond}
use Rattle.query_text.proofs.Plain.{reads}
use Rattle.query_text.proofs.Found.{same_bytes}
use Rattle.query_text.proofs.Inverse.{kind_word}

-- tokens with which a query is read to its end
pub record Finish (q : Query) (place : Place) : Type 0 where
  pub more : List Token
  pub r : Query
  pub read : reads q place more ≡ Some r

-- one token more, with which the reading goes on
finish_with : (t : Token) (q s : Query) (place next : Place) → ((ts : List Token) → reads q place (t ∷ ts) ≡ reads s next ts) → Finish s next → Finish q place
finish_with t q s place next goes f = record { more = t ∷ f.more; r = f.r; read = goes f.more ∙ f.read }

end_here : (q : Query) (place : Place) → may_end q place ≡ true → Finish q place
end_here q place h = record { more = []; r = q; read = rw h refl }

-- ---- from the end backwards

finish_limit : (q : Query) → Finish q LimitNumber
finish_limit q = finish_with (token.Int (Some (pos 0))) q (record q { limit = 0 }) LimitNumber Last (λ ts. refl) (end_here (record q { limit = 0 }) Last refl)

finish_order_closing : (q : Query) (i : ℕ) → Finish q (OrderClosing i)
finish_order_closing q i = finish_with token.Close q (record q { order = Some i }) (OrderClosing i) Ordered (λ ts. refl) (end_here (record q { order = Some i }) Ordered refl)

same_agg_itself : (a : Agg) → same_agg a a ≡ true
same_agg_itself agg.Count = refl
same_agg_itself (agg.Sum n) = same_bytes n
same_agg_itself (agg.Min n) = same_bytes n
same_agg_itself (agg.Max n) = same_bytes n
same_agg_itself (agg.Avg n) = same_bytes n

-- an aggregate of those that pass a test, and the place of the first equal one
pub record Picked (p : Agg → Bool) (i : ℕ) (aggs : List Agg) : Type 0 where
  pub a : Agg
  pub passes : p a ≡ true
  pub at : ℕ
  pub first : position_from (same_agg a) i aggs ≡ Some at

pick_more : (p : Agg → Bool) (i : ℕ) (b : Agg) (aggs : List Agg) (t : Bool) (l : Picked p (i + 1) aggs) → same_agg l.a b ≡ t → Picked p i (b ∷ aggs)
pick_more p i b aggs true l e = record { a = l.a; passes = l.passes; at = i; first = rw e refl }
pick_more p i b aggs false l e = record { a = l.a; passes = l.passes; at = l.at; first = rw e l.first }

pick_by : (p : Agg → Bool) (i : ℕ) (b : Agg) (aggs : List Agg) (t : Bool) → p b ≡ t → (list_any p aggs ≡ true → Picked p (i + 1) aggs) → (t || list_any p aggs) ≡ true → Picked p i (b ∷ aggs)
pick_by p i b aggs true e rec h = record { a = b; passes = e; at = i; first = rw (same_agg_itself b) refl }
pick_by p i b aggs false e rec h = let l = rec h in pick_more p i b aggs (same_agg l.a b) l refl

pick : (p : Agg → Bool) (i : ℕ) (aggs : List Agg) → list_any p aggs ≡ true → Picked p i aggs
pick p i [] h = absurd (false≢true h)
pick p i (b ∷ aggs) h = pick_by p i b aggs (p b) refl (λ k. pick p (i + 1) aggs k) h

-- what stands between the parentheses of an aggregate of that kind
abbrev inside_token : Agg → Token
inside_token agg.Count = token.Star
inside_token (agg.Sum n) = token.Name n
inside_token (agg.Min n) = token.Name n
inside_token (agg.Max n) = token.Name n
inside_token (agg.Avg n) = token.Name n

inside_gives : (k : AggWord) (a : Agg) → has_kind k a ≡ true → agg_inside k (inside_token a) ≡ Some a
inside_gives kind.Count agg.Count h = refl
inside_gives kind.Count (agg.Sum n) h = absurd (false≢true h)
inside_gives kind.Count (agg.Min n) h = absurd (false≢true h)
inside_gives kind.Count (agg.Max n) h = absurd (false≢true h)
inside_gives kind.Count (agg.Avg n) h = absurd (false≢true h)
inside_gives kind.Sum agg.Count h = absurd (false≢true h)
inside_gives kind.Sum (agg.Sum n) h = refl
inside_gives kind.Sum (agg.Min n) h = absurd (false≢true h)
inside_gives kind.Sum (agg.Max n) h = absurd (false≢true h)
inside_gives kind.Sum (agg.Avg n) h = absurd (false≢true h)
inside_gives kind.Min agg.Count h = absurd (false≢true h)
inside_gives kind.Min (agg.Sum n) h = absurd (false≢true h)
inside_gives kind.Min (agg.Min n) h = refl
inside_gives kind.Min (agg.Max n) h = absurd (false≢true h)
inside_gives kind.Min (agg.Avg n) h = absurd (false≢true h)
inside_gives kind.Max agg.Count h = absurd (false≢true h)
inside_gives kind.Max (agg.Sum n) h = absurd (false≢true h)
inside_gives kind.Max (agg.Min n) h = absurd (false≢true h)
inside_gives kind.Max (agg.Max n) h = refl
inside_gives kind.Max (agg.Avg n) h = absurd (false≢true h)
inside_gives kind.Avg a h = absurd (false≢true h)

finish_order_inside : (q : Query) (k : AggWord) → list_any (has_kind k) q.aggs ≡ true → Finish q (OrderInside k)
finish_order_inside q k h =
    let p = pick (has_kind k) 0 q.aggs h in
    finish_with (inside_token p.a) q q (OrderInside k) (OrderClosing p.at) (λ ts. rw (inside_gives k p.a p.passes, p.first) refl) (finish_order_closing q p.at)

finish_order_opening : (q : Query) (k : AggWord) → list_any (has_kind k) q.aggs ≡ true → Finish q (OrderOpening k)
finish_order_opening q k h = finish_with token.Open q q (OrderOpening k) (OrderInside k) (λ ts. refl) (finish_order_inside q k h)

kind_at : (q : Query) (k : AggWord) → list_any (has_kind k) q.aggs ≡ true → agg_word_of (token.Word (kind_word k)) ≡ Some k → Finish q OrderAgg
kind_at q k h e = finish_with (token.Word (kind_word k)) q q OrderAgg (OrderOpening k) (λ ts. rw (e, h) refl) (finish_order_opening q k h)

or_right : (x y : Bool) → y ≡ true → (x || y) ≡ true
or_right true y h = refl
or_right false y h = h

-- the kind of an aggregate that ORDER BY takes
abbrev kind_of_agg : Agg → AggWord
kind_of_agg agg.Count = kind.Count
kind_of_agg (agg.Sum n) = kind.Sum
kind_of_agg (agg.Min n) = kind.Min
kind_of_agg (agg.Max n) = kind.Max
kind_of_agg (agg.Avg n) = kind.Avg

own_kind : (a : Agg) → is_orderable a ≡ true → has_kind (kind_of_agg a) a ≡ true
own_kind agg.Count h = refl
own_kind (agg.Sum n) h = refl
own_kind (agg.Min n) h = refl
own_kind (agg.Max n) h = refl
own_kind (agg.Avg n) h = absurd (false≢true h)

word_kind : (k : AggWord) → agg_word_of (token.Word (kind_word k)) ≡ Some k
word_kind kind.Count = refl
word_kind kind.Sum = refl
word_kind kind.Min = refl
word_kind kind.Max = refl
word_kind kind.Avg = refl

some_kind_by : (b : Agg) (aggs : List Agg) (t : Bool) → is_orderable b ≡ t → (list_any is_orderable aggs ≡ true → (k : AggWord) × (list_any (has_kind k) aggs ≡ true)) → (t || list_any is_orderable aggs) ≡ true
    → (k : AggWord) × (list_any (has_kind k) (b ∷ aggs) ≡ true)
some_kind_by b aggs true e rec h = (kind_of_agg b, rw (own_kind b e) refl)
some_kind_by b aggs false e rec h = let k = rec h in (k.0, or_right (has_kind k.0 b) (list_any (has_kind k.0) aggs) k.1)

some_kind : (aggs : List Agg) → list_any is_orderable aggs ≡ true → (k : AggWord) × (list_any (has_kind k) aggs ≡ true)
some_kind [] h = absurd (false≢true h)
some_kind (b ∷ aggs) h = some_kind_by b aggs (is_orderable b) refl (λ k. some_kind aggs k) h

finish_order_agg : (q : Query) → list_any is_orderable q.aggs ≡ true → Finish q OrderAgg
finish_order_agg q h = let k = some_kind q.aggs h in kind_at q k.0 k.1 (word_kind k.0)

finish_order_by : (q : Query) → list_any is_orderable q.aggs ≡ true → Finish q OrderBy
finish_order_by q h = finish_with (token.Word (codes "BY")) q q OrderBy OrderAgg (λ ts. refl) (finish_order_agg q h)

-- ---- GROUP BY

get_within : (keys : List (List ℕ)) (i : ℕ) → i < length keys → (n : List ℕ) × (slice_get keys i ≡ Some n)
get_within [] i h = absurd (omega arith)
get_within (n ∷ keys) zero h = (n, refl)
get_within (n ∷ keys) (suc i) h = get_within keys i (omega (arith, h))

finish_name : (q : Query) (i : ℕ) → nat_lt i (length q.keys) ≡ true → Finish q (GroupEnd (i + 1)) → Finish q (GroupName i)
finish_name q i h f =
    let n = get_within q.keys i (ltb-true i (length q.keys) h) in
    finish_with (token.Name n.0) q q (GroupName i) (GroupEnd (i + 1)) (λ ts. rw (n.1, same_bytes n.0) refl) f

group_end_by : (t : Bool) (q : Query) (i : ℕ) → nat_lt i (length q.keys) ≡ t → (t ≡ true → Finish q (GroupEnd (i + 1))) → Finish q (GroupEnd i)
group_end_by true q i e rec = finish_with token.Comma q q (GroupEnd i) (GroupName i) (λ ts. rw e refl) (finish_name q i e (rec refl))
group_end_by false q i e rec = end_here q (GroupEnd i) (rw e refl)

finish_group_end : (fuel : ℕ) (q : Query) (i : ℕ) → length q.keys ≤ i + fuel → Finish q (GroupEnd i)
finish_group_end zero q i h = end_here q (GroupEnd i) (rw (le-ltb i (length q.keys) (omega (arith, h))) refl)
finish_group_end (suc fuel) q i h = group_end_by (nat_lt i (length q.keys)) q i refl (λ e. finish_group_end fuel q (i + 1) (omega (arith, h)))

all_names : (q : Query) (i : ℕ) → Finish q (GroupEnd i)
all_names q i = finish_group_end (length q.keys) q i (omega arith)

finish_by : (q : Query) → nat_lt 0 (length q.keys) ≡ true → Finish q By
finish_by q h = finish_with (token.Word (codes "BY")) q q By (GroupName 0) (λ ts. refl) (finish_name q 0 h (all_names q (0 + 1)))

cond_end_by : (t : Bool) (q : Query) → has_keys q ≡ t → Finish q CondEnd
cond_end_by true q e = finish_with (token.Word (codes "GROUP")) q q CondEnd By (λ ts. rw e refl) (finish_by q e)
cond_end_by false q e = end_here q CondEnd (rw e refl)

-- ---- the other places

finish_conds : (q : Query) → Finish q CondEnd
finish_conds q = cond_end_by (has_keys q) q refl

-- every operator takes a text
text_by : (b : Bool) → (if b then text_of_token (token.Text []) else const_of (token.Text [])) ≡ Some (value.Text [])
text_by true = refl
text_by false = refl

text_for : (op : Op) → const_for op (token.Text []) ≡ Some (value.Text [])
text_for op = text_by (is_has op)

finish_value : (q : Query) (name : List ℕ) (op : Op) → Finish q (CondValue name op)
finish_value q name op = finish_with (token.Text []) q (with_cond q name op (value.Text [])) (CondValue name op) CondEnd (λ ts. rw (text_for op) refl) (finish_conds (with_cond q name op (value.Text [])))

finish_op : (q : Query) (name : List ℕ) → Finish q (CondOp name)
finish_op q name = finish_with (token.Compare Eq) q q (CondOp name) (CondValue name Eq) (λ ts. refl) (finish_value q name Eq)

finish_high : (q : Query) → Finish q HighBound
finish_high q = finish_with (token.Int (Some (pos 0))) q (record q { to = pos 0 }) HighBound CondEnd (λ ts. refl) (finish_conds (record q { to = pos 0 }))

finish_high_sign : (q : Query) → Finish q HighSign
finish_high_sign q = finish_with (token.Compare Le) q q HighSign HighBound (λ ts. refl) (finish_high q)

finish_high_time : (q : Query) → Finish q HighTime
finish_high_time q = finish_with (token.Word (codes "time")) q q HighTime HighSign (λ ts. refl) (finish_high_sign q)

finish_and : (q : Query) → Finish q And
finish_and q = finish_with (token.Word (codes "AND")) q q And HighTime (λ ts. refl) (finish_high_time q)

finish_low : (q : Query) → Finish q LowBound
finish_low q = finish_with (token.Int (Some (pos 0))) q (record q { from = pos 0 }) LowBound And (λ ts. refl) (finish_and (record q { from = pos 0 }))

finish_low_sign : (q : Query) → Finish q LowSign
finish_low_sign q = finish_with (token.Compare Ge) q q LowSign LowBound (λ ts. refl) (finish_low q)

finish_low_time : (q : Query) → Finish q LowTime
finish_low_time q = finish_with (token.Word (codes "time")) q q LowTime LowSign (λ ts. refl) (finish_low_sign q)

finish_where : (q : Query) → Finish q Where
finish_where q = finish_with (token.Word (codes "WHERE")) q q Where LowTime (λ ts. refl) (finish_low_time q)

finish_table : (q : Query) → Finish q Table
finish_table q = finish_with (token.Word (codes "t")) q (record q { table = codes "t" }) Table Where (λ ts. refl) (finish_where (record q { table = codes "t" }))

finish_agg_end : (q : Query) → Finish q AggEnd
finish_agg_end q = finish_with (token.Word (codes "FROM")) q q AggEnd Table (λ ts. refl) (finish_table q)

finish_closing : (q : Query) (a : Agg) → Finish q (Closing a)
finish_closing q a = finish_with token.Close q (with_agg q a) (Closing a) AggEnd (λ ts. refl) (finish_agg_end (with_agg q a))

finish_inside : (q : Query) (k : AggWord) → Finish q (Inside k)
finish_inside q kind.Count = finish_with token.Star q q (Inside kind.Count) (Closing agg.Count) (λ ts. refl) (finish_closing q agg.Count)
finish_inside q kind.Sum = finish_with (token.Name (codes "v")) q q (Inside kind.Sum) (Closing (agg.Sum (codes "v"))) (λ ts. refl) (finish_closing q (agg.Sum (codes "v")))
finish_inside q kind.Min = finish_with (token.Name (codes "v")) q q (Inside kind.Min) (Closing (agg.Min (codes "v"))) (λ ts. refl) (finish_closing q (agg.Min (codes "v")))
finish_inside q kind.Max = finish_with (token.Name (codes "v")) q q (Inside kind.Max) (Closing (agg.Max (codes "v"))) (λ ts. refl) (finish_closing q (agg.Max (codes "v")))
finish_inside q kind.Avg = finish_with (token.Name (codes "v")) q q (Inside kind.Avg) (Closing (agg.Avg (codes "v"))) (λ ts. refl) (finish_closing q (agg.Avg (codes "v")))

finish_opening : (q : Query) (k : AggWord) → Finish q (Opening k)
finish_opening q k = finish_with token.Open q q (Opening k) (Inside k) (λ ts. refl) (finish_inside q k)

finish_item : (q : Query) → Finish q Item
finish_item q = finish_with (token.Word (codes "COUNT")) q q Item (Opening kind.Count) (λ ts. refl) (finish_opening q kind.Count)

-- ---- what holds at a place

abbrev pub IsSound : Query → Place → Type 0
IsSound q By = nat_lt 0 (length q.keys) ≡ true
IsSound q (GroupName i) = nat_lt i (length q.keys) ≡ true
IsSound q OrderBy = list_any is_orderable q.aggs ≡ true
IsSound q OrderAgg = list_any is_orderable q.aggs ≡ true
IsSound q (OrderOpening k) = list_any (has_kind k) q.aggs ≡ true
IsSound q (OrderInside k) = list_any (has_kind k) q.aggs ≡ true
IsSound q place = Unit {0}

pub finish : (q : Query) (place : Place) → IsSound q place → Finish q place
finish q Select h = finish_with (token.Word (codes "SELECT")) q q Select Item (λ ts. refl) (finish_item q)
finish q Item h = finish_item q
finish q NameEnd h = finish_with token.Comma q q NameEnd Item (λ ts. refl) (finish_item q)
finish q (Opening k) h = finish_opening q k
finish q (Inside k) h = finish_inside q k
finish q (Closing a) h = finish_closing q a
finish q AggEnd h = finish_agg_end q
finish q NextAgg h = finish_with (token.Word (codes "COUNT")) q q NextAgg (Opening kind.Count) (λ ts. refl) (finish_opening q kind.Count)
finish q Table h = finish_table q
finish q Where h = finish_where q
finish q LowTime h = finish_low_time q
finish q LowSign h = finish_low_sign q
finish q LowBound h = finish_low q
finish q And h = finish_and q
finish q HighTime h = finish_high_time q
finish q HighSign h = finish_high_sign q
finish q HighBound h = finish_high q
finish q CondEnd h = finish_conds q
finish q CondName h = finish_with (token.Name (codes "v")) q q CondName (CondOp (codes "v")) (λ ts. refl) (finish_op q (codes "v"))
finish q (CondOp name) h = finish_op q name
finish q (CondValue name op) h = finish_value q name op
finish q By h = finish_by q h
finish q (GroupName i) h = finish_name q i h (all_names q (i + 1))
finish q (GroupEnd i) h = all_names q i
finish q OrderBy h = finish_order_by q h
finish q OrderAgg h = finish_order_agg q h
finish q (OrderOpening k) h = finish_order_opening q k h
finish q (OrderInside k) h = finish_order_inside q k h
finish q (OrderClosing i) h = finish_order_closing q i
finish q Ordered h = end_here q Ordered refl
finish q LimitNumber h = finish_limit q
finish q Last h = end_here q Last refl
