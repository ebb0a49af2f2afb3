-- What is read is spelled so.
use Rattle.std.proofs.Common.{◌≡◌, ℕ, suc, zero, ◌<◌, ◌≤◌, Bool, true, false, List, [], ◌∷◌, ◌++◌, length, Option, Some, None, if◌then◌else◌, refl, ℤ, arith}
use Rattle.std.specs.Prelude.{codes}
use Rattle.std.proofs.lemmas.List.{append_assoc, append-nil}
use Rattle.leaf_model.specs.declared.queries.Op.TheVariants.{Le, Ge}
use Rattle.leaf_model.specs.declared.queries.Cond.{Cond}
use Rattle.leaf_model.specs.declared.queries.Agg.{Agg}
use Rattle.leaf_model.specs.declared.queries.Query.{Query}
use Rattle.query_text.specs.declared.tokens.Token.{Token}
use Rattle.query_text.specs.declared.tokens.Token.TheVariants as token
use Rattle.query_text.specs.declared.places.AggWord.{AggWord}
use Rattle.query_text.specs.declared.places.Place.{Place}
use Rattle.query_text.specs.declared.places.Place.TheVariants.{Select, Item, NameEnd, Opening, Inside, Closing, AggEnd, NextAgg, Table, Where, LowTime, LowSign, LowBound, And, HighTime, HighSign, HighBound, CondEnd}
use Rattle.query_text.specs.declared.places.Move.TheVariants.{On, Stuck}
use Rattle.row_model.specs.Names.{is_table_name}
use Rattle.query_text.specs.Roles.{name_of_token, agg_word_of, op_of, int_of, table_of_token, is_word, is_mark, agg_inside}
use Rattle.query_text.specs.Reading.{on_if, goes_with, sign_fits, nothing_read, with_key, with_agg}
use Rattle.query_text.specs.Grammar.{Sign, Spells, TheName, Exactly, IsQuery, IsSpelled, agg_signs, names_signs, more_aggs_signs, aggs_signs, range_signs, conds_signs, group_signs, query_signs}
use Rattle.query_text.proofs.Plain.{reads, moved, made, selected}
use Rattle.query_text.proofs.Found.{None≢Some}
use Rattle.query_text.proofs.Inverse.{on_if_in, step, give, the_word, the_open, the_close, the_comma, the_int, the_low, the_high, the_table, the_kind, inside_spells}
use Rattle.query_text.proofs.OnlyTail.{one_less, called_spells, Tailed, extend, only_conds}

-- ---- the table and the range

range_spells : (table : List ℕ) (from to : ℤ) (S : List Sign) (a b c d e f g i j : List Token) (t u v : Token) → a ≡ t ∷ b → t ≡ token.Word table → b ≡ token.Word (codes "WHERE") ∷ c → c ≡ token.Word (codes "time") ∷ d
    → d ≡ token.Compare Ge ∷ e → e ≡ u ∷ f → u ≡ token.Int (Some from) → f ≡ token.Word (codes "AND") ∷ g → g ≡ token.Word (codes "time") ∷ i → i ≡ token.Compare Le ∷ j
    → (us : List Token) → j ≡ v ∷ us → v ≡ token.Int (Some to) → Spells S us → Spells (range_signs table from to S) (token.Word (codes "FROM") ∷ a)
range_spells table from to S a b c d e f g i j t u v ea et eb ec ed ee eu ef eg ei us ej ev h =
    rw (ea, et, eb, ec, ed, ee, eu, ef, eg, ei, ej, ev) (refl, (refl, (refl, (refl, (refl, (refl, (refl, (refl, (refl, (refl, h))))))))))

-- what is read behind FROM
pub record Ranged (keys : List (List ℕ)) (aggs : List Agg) (r : Query) (ts : List Token) : Type 0 where
  pub table : List ℕ
  pub from : ℤ
  pub to : ℤ
  pub conds : List Cond
  pub fits : is_table_name table ≡ true
  pub tail : Tailed (λ S. range_signs table from to (conds_signs conds (group_signs keys S))) table from to conds keys aggs r (token.Word (codes "FROM") ∷ ts)

only_range : (keys : List (List ℕ)) (aggs : List Agg) (r : Query) (ts : List Token) → reads (selected keys aggs) Table ts ≡ Some r → Ranged keys aggs r ts
only_range keys aggs r ts h =
    let s0 = selected keys aggs in
    let a = give table_of_token (λ name. record s0 { table = name }) (λ name. Where) s0 r Table ts refl (λ t. refl) h in
    let s1 = record s0 { table = a.x } in
    let b = step (is_word (codes "WHERE")) (token.Word (codes "WHERE")) (the_word (codes "WHERE")) s1 s1 r Where LowTime a.us refl (λ t. refl) a.read in
    let c = step (is_word (codes "time")) (token.Word (codes "time")) (the_word (codes "time")) s1 s1 r LowTime LowSign b.us refl (λ t. refl) b.read in
    let d = step (λ t. sign_fits true (op_of t)) (token.Compare Ge) the_low s1 s1 r LowSign LowBound c.us refl (λ t. refl) c.read in
    let e = give int_of (λ n. record s1 { from = n }) (λ n. And) s1 r LowBound d.us refl (λ t. refl) d.read in
    let s2 = record s1 { from = e.x } in
    let f = step (is_word (codes "AND")) (token.Word (codes "AND")) (the_word (codes "AND")) s2 s2 r And HighTime e.us refl (λ t. refl) e.read in
    let g = step (is_word (codes "time")) (token.Word (codes "time")) (the_word (codes "time")) s2 s2 r HighTime HighSign f.us refl (λ t. refl) f.read in
    let i = step (λ t. sign_fits false (op_of t)) (token.Compare Le) the_high s2 s2 r HighSign HighBound g.us refl (λ t. refl) g.read in
    let j = give int_of (λ n. record s2 { to = n }) (λ n. CondEnd) s2 r HighBound i.us refl (λ t. refl) i.read in
    let the = the_table a.t a.x a.gives in
    let l = only_conds (length j.us) a.x e.x j.x [] keys aggs r j.us (omega arith) j.read in
    record {
      table = a.x;
      from = e.x;
      to = j.x;
      conds = l.conds;
      fits = the.1;
      tail = extend (λ S. conds_signs l.conds (group_signs keys S)) (λ S. range_signs a.x e.x j.x (conds_signs l.conds (group_signs keys S))) a.x e.x j.x l.conds keys aggs r j.us (token.Word (codes "FROM") ∷ ts)
          (λ S k. range_spells a.x e.x j.x (conds_signs l.conds (group_signs keys S)) ts a.us b.us c.us d.us e.us f.us g.us i.us a.t e.t j.t
          a.is the.0 b.is c.is d.is e.is (the_int e.t e.x e.gives) f.is g.is i.is j.us j.is (the_int j.t j.x j.gives) k) l.tail;
    }

-- ---- aggregates and names

-- an aggregate behind its word
pub record Called (s r : Query) (t : Token) (ts : List Token) : Type 0 where
  pub a : Agg
  pub us : List Token
  pub shorter : length us < length ts
  pub read : reads (with_agg s a) AggEnd us ≡ Some r
  pub spells : (S : List Sign) → Spells S us → Spells (agg_signs a S) (t ∷ ts)

only_call : (s r : Query) (k : AggWord) (t : Token) (ts : List Token) → agg_word_of t ≡ Some k → reads s (Opening k) ts ≡ Some r → Called s r t ts
only_call s r k t ts is h =
    let f = step (is_mark token.Open) token.Open the_open s s r (Opening k) (Inside k) ts refl (λ t. refl) h in
    let g = give (λ t. agg_inside k t) (λ a. s) (λ a. Closing a) s r (Inside k) f.us refl (λ t. refl) f.read in
    let c = step (is_mark token.Close) token.Close the_close s (with_agg s g.x) r (Closing g.x) AggEnd g.us refl (λ t. refl) g.read in
    let lf = one_less f.is in
    let lg = one_less g.is in
    let lc = one_less c.is in
    record {
      a = g.x;
      us = c.us;
      shorter = omega (arith, lf, lg, lc);
      read = c.read;
      spells = λ S k'. called_spells k g.x S t g.t ts f.us g.us c.us (the_kind t k is) f.is g.is c.is (inside_spells k g.t g.x S c.us g.gives k');
    }

-- what follows an aggregate
pub record Listed (keys : List (List ℕ)) (before : List Agg) (r : Query) (ts : List Token) : Type 0 where
  pub aggs : List Agg
  pub us : List Token
  pub read : reads (selected keys (before ++ aggs)) Table us ≡ Some r
  pub spells : (S : List Sign) → Spells S (token.Word (codes "FROM") ∷ us) → Spells (more_aggs_signs aggs S) ts

kind_in : (s r : Query) (o : Option AggWord) (f : Query → Place → Option Query) → moved (goes_with o (λ kind. On s (Opening kind)) Stuck) f ≡ Some r → (k : AggWord) × ((o ≡ Some k) × (f s (Opening k) ≡ Some r))
kind_in s r None f h = absurd (None≢Some h)
kind_in s r (Some k) f h = (k, (refl, h))

next_agg_in : (s r : Query) (ts : List Token) → reads s NextAgg ts ≡ Some r → (t : Token) × ((us : List Token) × ((ts ≡ t ∷ us) × Called s r t us))
next_agg_in s r [] h = absurd (None≢Some h)
next_agg_in s r (t ∷ ts) h =
    let q = kind_in s r (agg_word_of t) (λ q n. reads q n ts) h in
    (t, (ts, (refl, only_call s r q.0 t ts q.1.0 q.1.1)))

listed_more : (keys : List (List ℕ)) (before : List Agg) (a : Agg) (r : Query) (us ts : List Token) → ((S : List Sign) → Spells S us → Spells (Exactly token.Comma ∷ agg_signs a S) ts)
    → Listed keys (before ++ (a ∷ [])) r us → Listed keys before r ts
listed_more keys before a r us ts f l = record {
  aggs = a ∷ l.aggs;
  us = l.us;
  read = rw (append_assoc before (a ∷ []) l.aggs) at l.read;
  spells = λ S k. f (more_aggs_signs l.aggs S) (l.spells S k);
}

comma_spells : (a : Agg) (S : List Sign) (t u : Token) (ts us vs : List Token) → t ≡ token.Comma → ts ≡ u ∷ us → Spells (agg_signs a S) (u ∷ us) → Spells (Exactly token.Comma ∷ agg_signs a S) (t ∷ ts)
comma_spells a S t u ts us vs et es h = rw es (et, h)

agg_end_by : (b : Bool) (keys : List (List ℕ)) (before : List Agg) (r : Query) (t : Token) (ts : List Token) → is_mark token.Comma t ≡ b
    → ((more : List Agg) (us : List Token) → length us < length ts → reads (selected keys more) AggEnd us ≡ Some r → Listed keys more r us)
    → moved (if b then On (selected keys before) NextAgg else on_if (is_word (codes "FROM") t) (selected keys before) Table) (λ q n. reads q n ts) ≡ Some r → Listed keys before r (t ∷ ts)
agg_end_by true keys before r t ts e rec h =
    let n = next_agg_in (selected keys before) r ts h in
    let c = n.1.1.1 in
    let less = c.shorter in
    let cut = one_less n.1.1.0 in
    listed_more keys before c.a r c.us (t ∷ ts) (λ S k. comma_spells c.a S t n.0 ts n.1.0 c.us (the_comma t e) n.1.1.0 (c.spells S k))
    (rec (before ++ (c.a ∷ [])) c.us (omega (arith, less, cut)) c.read)
agg_end_by false keys before r t ts e rec h =
    let both = on_if_in (is_word (codes "FROM") t) (selected keys before) Table (λ q n. reads q n ts) r h in
    record { aggs = []; us = ts; read = rw (append-nil before) both.1; spells = λ S k. rw (the_word (codes "FROM") t both.0) k }

only_aggs : (fuel : ℕ) (keys : List (List ℕ)) (before : List Agg) (r : Query) (ts : List Token) → length ts ≤ fuel → reads (selected keys before) AggEnd ts ≡ Some r → Listed keys before r ts
only_aggs fuel keys before r [] short h = absurd (None≢Some h)
only_aggs zero keys before r (t ∷ ts) short h = absurd (omega (arith, short))
only_aggs (suc fuel) keys before r (t ∷ ts) short h =
    agg_end_by (is_mark token.Comma t) keys before r t ts refl (λ more us less k. only_aggs fuel keys more r us (omega (arith, short, less)) k) h

-- the select list and what follows it
pub record Selection (before : List (List ℕ)) (r : Query) (ts : List Token) : Type 0 where
  pub names : List (List ℕ)
  pub aggs : List Agg
  pub some : 0 < length aggs
  pub us : List Token
  pub read : reads (selected (before ++ names) aggs) Table us ≡ Some r
  pub spells : (S : List Sign) → Spells S (token.Word (codes "FROM") ∷ us) → Spells (names_signs names (aggs_signs aggs S)) ts

item_of_kind : (before : List (List ℕ)) (r : Query) (k : AggWord) (t : Token) (ts : List Token) → agg_word_of t ≡ Some k → reads (selected before []) (Opening k) ts ≡ Some r → Selection before r (t ∷ ts)
item_of_kind before r k t ts e h =
    let c = only_call (selected before []) r k t ts e h in
    let l = only_aggs (length c.us) before (c.a ∷ []) r c.us (omega arith) c.read in
    record {
      names = [];
      aggs = c.a ∷ l.aggs;
      some = omega arith;
      us = l.us;
      read = rw (append-nil before) l.read;
      spells = λ S k. c.spells (more_aggs_signs l.aggs S) (l.spells S k);
    }

select_more : (before : List (List ℕ)) (name : List ℕ) (r : Query) (ts us : List Token) → ((S : List Sign) → Spells S us → Spells (TheName name ∷ Exactly token.Comma ∷ S) ts)
    → Selection (before ++ (name ∷ [])) r us → Selection before r ts
select_more before name r ts us f l = record {
  names = name ∷ l.names;
  aggs = l.aggs;
  some = l.some;
  us = l.us;
  read = rw (append_assoc before (name ∷ []) l.names) at l.read;
  spells = λ S k. f (names_signs l.names (aggs_signs l.aggs S)) (l.spells S k);
}

item_spells : (name : List ℕ) (S : List Sign) (t : Token) (ts us : List Token) → name_of_token t ≡ Some name → ts ≡ token.Comma ∷ us → Spells S us → Spells (TheName name ∷ Exactly token.Comma ∷ S) (t ∷ ts)
item_spells name S t ts us e is h = rw is (e, (refl, h))

item_of_name : (o : Option (List ℕ)) (before : List (List ℕ)) (r : Query) (t : Token) (ts : List Token) → name_of_token t ≡ o
    → ((more : List (List ℕ)) (us : List Token) → length us < length ts → reads (selected more []) Item us ≡ Some r → Selection more r us)
    → moved (goes_with o (λ name. On (with_key (selected before []) name) NameEnd) Stuck) (λ q n. reads q n ts) ≡ Some r → Selection before r (t ∷ ts)
item_of_name None before r t ts e rec h = absurd (None≢Some h)
item_of_name (Some name) before r t ts e rec h =
    let s = selected (before ++ (name ∷ [])) [] in
    let f = step (is_mark token.Comma) token.Comma the_comma s s r NameEnd Item ts refl (λ t. refl) h in
    let less = one_less f.is in
    select_more before name r (t ∷ ts) f.us (λ S k. item_spells name S t ts f.us e f.is k) (rec (before ++ (name ∷ [])) f.us (omega (arith, less)) f.read)

item_by : (o : Option AggWord) (before : List (List ℕ)) (r : Query) (t : Token) (ts : List Token) → agg_word_of t ≡ o
    → ((more : List (List ℕ)) (us : List Token) → length us < length ts → reads (selected more []) Item us ≡ Some r → Selection more r us)
    → moved (goes_with o (λ kind. On (selected before []) (Opening kind)) (goes_with (name_of_token t) (λ name. On (with_key (selected before []) name) NameEnd) Stuck)) (λ q n. reads q n ts) ≡ Some r → Selection before r (t ∷ ts)
item_by None before r t ts e rec h = item_of_name (name_of_token t) before r t ts refl rec h
item_by (Some k) before r t ts e rec h = item_of_kind before r k t ts e h

only_items : (fuel : ℕ) (before : List (List ℕ)) (r : Query) (ts : List Token) → length ts ≤ fuel → reads (selected before []) Item ts ≡ Some r → Selection before r ts
only_items fuel before r [] short h = absurd (None≢Some h)
only_items zero before r (t ∷ ts) short h = absurd (omega (arith, short))
only_items (suc fuel) before r (t ∷ ts) short h =
    item_by (agg_word_of t) before r t ts refl (λ more us less k. only_items fuel more r us (omega (arith, short, less)) k) h

spelled_query : (r q : Query) (is_limited : Bool) (ts us : List Token) → r ≡ q → ts ≡ token.Word (codes "SELECT") ∷ us → IsQuery q → (is_limited ≡ false → q.limit ≡ 100000)
    → Spells (query_signs is_limited q) (token.Word (codes "SELECT") ∷ us) → IsSpelled r ts
spelled_query r q is_limited ts us same is good default h = rw (same, is) (record { query = good; is_limited = is_limited; default = default; spelled = h })

pub only : (r : Query) (ts : List Token) → reads nothing_read Select ts ≡ Some r → IsSpelled r ts
only r ts h =
    let f = step (is_word (codes "SELECT")) (token.Word (codes "SELECT")) (the_word (codes "SELECT")) nothing_read nothing_read r Select Item ts refl (λ t. refl) h in
    let l = only_items (length f.us) [] r f.us (omega arith) f.read in
    let g = only_range l.names l.aggs r l.us l.read in
    let t = g.tail in
    spelled_query r (made g.table g.from g.to g.conds l.names l.aggs t.o t.n) t.is_limited ts f.us t.is f.is
    (record { table = g.fits; aggs = l.some; order = t.order; limit = t.small }) t.default
    (refl, l.spells _ t.spelled)
