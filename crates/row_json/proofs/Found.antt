-- What is found among members in the order of their names, and that the members that are read are in order.
use Rattle.std.proofs.Common.{◌≡◌, ◌⊎◌, inl, inr, ℕ, List, [], ◌∷◌, Option, Some, None, option_map, option_and_then, unwrap_or, is_some, Ordering, Less, Equal, Greater, is_eq, nat_cmp, true≢false, refl, ap, sym, subst, ◌∙◌}
use Rattle.std.proofs.lemmas.Cmp.{nat_list_cmp_total, tied_itself}
use Rattle.std.proofs.lemmas.Map.Text.{is_eq-slice_cmp}
use Rattle.std.proofs.lemmas.Slice.Eq.{bytes_eq-Decides}
use Rattle.std.specs.Cmp.Lexicographic.{slice_cmp}
use Rattle.std.specs.List.{AllByRecursion}
use Rattle.std.specs.List.Sorted.{IsStrictlySortedBy}
use Rattle.std.specs.Option.{IfSome}
use Rattle.std.specs.Ordering.{match_ordering, ordering_reverse}
use Rattle.json.specs.Json as json
use Rattle.json.specs.Lex.{tokens}
use Rattle.serde_json.specs.Data.{Data, null, boolean, number, string, array, object, Members, no_members, member, put}
use Rattle.serde_json.specs.Find.{get_member}
use Rattle.serde_json.specs.Read.{read, of_json, of_items, of_members, number_of, max_depth}
use Rattle.row_json.specs.QuickRow.{Ascending, Below, names_of}

pub same_name : (k l : List ℕ) → slice_cmp nat_cmp k l ≡ Equal → k ≡ l
same_name k l is = (bytes_eq-Decides k l).0 (sym (is_eq-slice_cmp k l) ∙ ap is_eq is)

pub not_below_itself : (k : List ℕ) → Below k k → ⊥
not_below_itself k h = true≢false (ap is_eq (sym (tied_itself nat_list_cmp_total k) ∙ h))

pub not_both_below : (k l : List ℕ) → Below k l → Below l k → ⊥
not_both_below k l h later = not_below_itself k (nat_list_cmp_total.trans k l k h later)

pub found_here : (k : List ℕ) (e : Data) (ms : Members) → get_member k (member k e ms) ≡ Some e
found_here k e ms = ap (λ o. match_ordering o (get_member k ms) (Some e) (get_member k ms)) (tied_itself nat_list_cmp_total k)

-- a name above the first is looked for among the others
pub found_later : (k l : List ℕ) (e : Data) (ms : Members) → Below l k → get_member k (member l e ms) ≡ get_member k ms
found_later k l e ms h =
    let above : slice_cmp nat_cmp k l ≡ Greater = nat_list_cmp_total.antisymm k l ∙ ap ordering_reverse h in
    ap (λ o. match_ordering o (get_member k ms) (Some e) (get_member k ms)) above

cases_at : (o : Ordering) (k l : List ℕ) (e d : Data) (ms : Members) → slice_cmp nat_cmp k l ≡ o → match_ordering o (get_member k ms) (Some e) (get_member k ms) ≡ Some d → ((k ≡ l) × (e ≡ d)) ⊎ (get_member k ms ≡ Some d)
cases_at Less k l e d ms is h = inr h
cases_at Equal k l e d ms is h = inl (same_name k l is, ap (λ o. unwrap_or o e) h)
cases_at Greater k l e d ms is h = inr h

-- what is found is the first member, or is found among the others
pub found_cases : (k l : List ℕ) (e d : Data) (ms : Members) → get_member k (member l e ms) ≡ Some d → ((k ≡ l) × (e ≡ d)) ⊎ (get_member k ms ≡ Some d)
found_cases k l e d ms h = cases_at (slice_cmp nat_cmp k l) k l e d ms refl h

pub found_none : {A : Type 0} (d : A) → None ≡ Some d → ⊥
found_none d h = true≢false (sym (ap is_some h))

-- what holds of each name holds of one that is found
pub found_all : (P : List ℕ → Type 0) (k : List ℕ) (d : Data) (ms : Members) → AllByRecursion P (names_of ms) → get_member k ms ≡ Some d → P k
found_all P k d no_members all h = absurd (found_none d h)
found_all P k d (member l e ms) all h = elim (found_cases k l e d ms h) [
  | inl here ↦ subst P (sym here.0) all.0
  | inr there ↦ found_all P k d ms all.1 there
]

pub below_all : (k l : List ℕ) (names : List (List ℕ)) → Below k l → AllByRecursion (Below l) names → AllByRecursion (Below k) names
below_all k l [] h all = tt
below_all k l (n ∷ ns) h all = (nat_list_cmp_total.trans k l n h all.0, below_all k l ns h all.1)

above_at : (o : Ordering) (k l m : List ℕ) (d e : Data) (ms : Members) → AllByRecursion (Below k) (m ∷ names_of ms) → Below k l → AllByRecursion (Below k) (names_of (put l d ms))
    → AllByRecursion (Below k) (names_of (match_ordering o (member l d (member m e ms)) (member m d ms) (member m e (put l d ms))))
above_at Less k l m d e ms all h more = (h, all)
above_at Equal k l m d e ms all h more = all
above_at Greater k l m d e ms all h more = (all.0, more)

put_above : (k l : List ℕ) (d : Data) (ms : Members) → AllByRecursion (Below k) (names_of ms) → Below k l → AllByRecursion (Below k) (names_of (put l d ms))
put_above k l d no_members all h = (h, tt)
put_above k l d (member m e ms) all h = above_at (slice_cmp nat_cmp l m) k l m d e ms all h (put_above k l d ms all.1 h)

ascending_at : (o : Ordering) (k m : List ℕ) (d e : Data) (ms : Members) → slice_cmp nat_cmp k m ≡ o → Ascending (member m e ms) → Ascending (put k d ms)
    → Ascending (match_ordering o (member k d (member m e ms)) (member m d ms) (member m e (put k d ms)))
unfolding IsStrictlySortedBy
ascending_at Less k m d e ms is all more = ((is, below_all k m (names_of ms) is all.0), all)
ascending_at Equal k m d e ms is all more = all
ascending_at Greater k m d e ms is all more = (put_above m k d ms all.0 (nat_list_cmp_total.antisymm m k ∙ ap ordering_reverse is), more)

pub put_ascending : (k : List ℕ) (d : Data) (ms : Members) → Ascending ms → Ascending (put k d ms)
unfolding IsStrictlySortedBy
put_ascending k d no_members all = (tt, tt)
put_ascending k d (member m e ms) all = ascending_at (slice_cmp nat_cmp k m) k m d e ms refl all (put_ascending k d ms all.1)

next_ascending : (o : Option Data) (f : Data → Option Members) → ((d : Data) → IfSome (f d) Ascending) → IfSome (option_and_then f o) Ascending
next_ascending None f h = tt
next_ascending (Some d) f h = h d

members_ascend : (js : json.Members) (ms : Members) → Ascending ms → IfSome (of_members js ms) Ascending
members_ascend json.no_members ms all = all
members_ascend (json.member k j js) ms all = next_ascending (of_json j) (λ d. of_members js (put k d ms)) (λ d. members_ascend js (put k d ms) (put_ascending k d ms all))

-- an object's members are in order
abbrev InOrder : Data → Type 0
InOrder null = Unit {0}
InOrder (boolean b) = Unit {0}
InOrder (number n) = Unit {0}
InOrder (string s) = Unit {0}
InOrder (array items) = Unit {0}
InOrder (object ms) = Ascending ms

mapped : {A : Type 0} (P : A → Type 0) (f : A → Data) (o : Option A) → IfSome o P → ((a : A) → P a → InOrder (f a)) → IfSome (option_map f o) InOrder
mapped P f None h more = tt
mapped P f (Some a) h more = more a h

always : {A : Type 0} (o : Option A) → IfSome o (λ a. Unit {0})
always None = tt
always (Some a) = tt

pub none_ascend : Ascending no_members
unfolding IsStrictlySortedBy
none_ascend = tt

json_in_order : (j : json.Json) → IfSome (of_json j) InOrder
json_in_order json.null = tt
json_in_order (json.boolean b) = tt
json_in_order (json.number s) = mapped (λ n. Unit {0}) number (number_of s) (always (number_of s)) (λ n h. tt)
json_in_order (json.string s) = tt
json_in_order (json.array js) = mapped (λ n. Unit {0}) array (of_items js) (always (of_items js)) (λ n h. tt)
json_in_order (json.object ms) = mapped Ascending object (of_members ms no_members) (members_ascend ms no_members none_ascend) (λ all h. h)

chain_in_order : (o : Option json.Json) → IfSome (option_and_then of_json o) InOrder
chain_in_order None = tt
chain_in_order (Some j) = json_in_order j

pub read_ascends : (text : List ℕ) (all : Members) → read text ≡ Some (object all) → Ascending all
read_ascends text all is = subst (λ (o : Option Data). IfSome o InOrder) is (chain_in_order (option_and_then (λ p. json.if_last p.0 p.1) (json.value max_depth (tokens text))))
