-- The cells of members, with one member more.
use Rattle.std.proofs.Common.{◌≡◌, ◌≢◌, ℕ, List, [], ◌∷◌, ◌++◌, take, drop, Option, Some, None, option_map, Result, Ok, Err, Bool, true, false, Ordering, Less, Equal, Greater, nat_cmp, refl, ap, sym, subst, ◌∙◌}
use Rattle.std.specs.Prelude.{option_to_list}
use Rattle.std.proofs.lemmas.Cmp.{nat_list_cmp_total}
use Rattle.std.proofs.lemmas.List.{take-append-drop}
use Rattle.std.proofs.lemmas.Slice.Eq.{bytes_eq-Decides}
use Rattle.std.specs.Cmp.Lexicographic.{slice_cmp}
use Rattle.std.specs.List.{AllByRecursion}
use Rattle.std.specs.List.Sorted.{IsStrictlySortedBy}
use Rattle.std.specs.Option.{IfSome}
use Rattle.std.specs.Result.{IfOk}
use Rattle.std.specs.Ordering.{match_ordering, ordering_reverse}
use Rattle.serde_json.specs.Data.{Data, Members, no_members, member, put}
use Rattle.row_model.specs.Values.{IsCellName, time_name}
use Rattle.row_model.specs.declared.rows.Value.{Value}
use Rattle.row_model.specs.declared.rows.Cell.{Cell}
use Rattle.row_model.specs.declared.row_fault.RowFault.{RowFault}
use Rattle.row_json.specs.Row.{is_time, named_cell, cell_of, cells_of}
use Rattle.row_json.specs.QuickRow.{Ascending, Below, IsPlace, MeansValue, Puts, cell_names, names_of}
use Rattle.row_json.proofs.Rows.{before_none, with_cell}
use Rattle.row_json.proofs.Order.{IsCellOf, at_ok, cell_is, cells_above}
use Rattle.row_json.proofs.Found.{below_all, not_below_itself, not_both_below, same_name}
use Rattle.row_json.proofs.Cells.{err≢ok, skipped, taken}
use Rattle.row_json.proofs.Seen.{good_name}
use Rattle.row_json.proofs.Placed.{by_names}

-- ---- a member of another name among the cells

-- the names of these cells come before the name, or behind it
abbrev Before : List ℕ → List Cell → Type 0
Before k cs = AllByRecursion (λ (c : Cell). Below c.name k) cs

abbrev Behind : List ℕ → List Cell → Type 0
Behind k cs = AllByRecursion (λ (c : Cell). Below k c.name) cs

none_before : (k : List ℕ) (lower upper : List Cell) → Behind k (lower ++ upper) → Before k lower → lower ≡ []
none_before k [] upper all less = refl
none_before k (c ∷ lower) upper all less = absurd (not_both_below k c.name all.0 less.0)

moved : (lower one upper : List Cell) → lower ≡ [] → one ++ (lower ++ upper) ≡ lower ++ (one ++ upper)
moved lower one upper none = subst (λ (cs : List Cell). one ++ (cs ++ upper) ≡ cs ++ (one ++ upper)) (sym none) refl

-- where all cells come behind the name, what is put in comes first
first : (k : List ℕ) (one : Option Cell) (ms : Members) (lower upper : List Cell) → AllByRecursion (Below k) (names_of ms) → cells_of ms ≡ Ok (lower ++ upper) → Before k lower
    → with_cell (Ok one) (cells_of ms) ≡ Ok (lower ++ (option_to_list one ++ upper))
first k one ms lower upper names made less =
    let all : AllByRecursion (Below k) (cell_names (lower ++ upper)) = at_ok (lower ++ upper) (cells_of ms) (λ cs. AllByRecursion (Below k) (cell_names cs)) (sym made) (cells_above k ms names) in
    let none : lower ≡ [] = none_before k lower upper (by_names (Below k) (lower ++ upper) all) less in
    ap (with_cell (Ok one)) made ∙ ap Ok (moved lower (option_to_list one) upper none)

head_of : List Cell → Cell → Cell
head_of [] other = other
head_of (c ∷ cs) other = c

tail_of : List Cell → List Cell
tail_of [] = []
tail_of (c ∷ cs) = cs

same_head : (c d : Cell) (cs ds : List Cell) → c ∷ cs ≡ d ∷ ds → c ≡ d
unfolding head_of
same_head c d cs ds h = ap (λ xs. head_of xs c) h

same_tail : (c d : Cell) (cs ds : List Cell) → c ∷ cs ≡ d ∷ ds → cs ≡ ds
unfolding tail_of
same_tail c d cs ds h = ap tail_of h

-- none of the cells has the name
not_there : (k : List ℕ) (c : Cell) (lower upper ds : List Cell) → lower ++ upper ≡ c ∷ ds → c.name ≡ k → Before k lower → Behind k upper → ⊥
not_there k c [] upper ds h same less more = not_below_itself k (subst (Below k) same (subst (Behind k) h more).0)
not_there k c (b ∷ lower) upper ds h same less more =
    let at : b.name ≡ k = ap (λ (x : Cell). x.name) (same_head b c (lower ++ upper) ds h) ∙ same in
    not_below_itself k (subst (λ n. Below n k) at less.0)

equal_at : (k l : List ℕ) (d e : Data) (ms : Members) (one : Option Cell) (lower upper : List Cell) (r : Result (Option Cell) RowFault) → IfOk r (λ o. IfSome o (IsCellOf l e)) → k ≡ l → cell_of k d ≡ Ok one
    → AllByRecursion (Below l) (names_of ms) → with_cell r (cells_of ms) ≡ Ok (lower ++ upper) → Before k lower → Behind k upper → cells_of (member l d ms) ≡ Ok (lower ++ (option_to_list one ++ upper))
equal_at k l d e ms one lower upper (Err f) named same made names h less more = absurd (err≢ok f (lower ++ upper) h)
equal_at k l d e ms one lower upper (Ok None) named same made names h less more =
    let rest : cells_of ms ≡ Ok (lower ++ upper) = sym (before_none (cells_of ms)) ∙ h in
    let here : cell_of l d ≡ Ok one = subst (λ n. cell_of n d ≡ Ok one) same made in
    ap (λ r. with_cell r (cells_of ms)) here ∙ first l one ms lower upper names rest (subst (λ n. Before n lower) same less)
equal_at k l d e ms one lower upper (Ok (Some c)) named same made names h less more =
    let both = taken (Ok (Some c)) (cells_of ms) c (lower ++ upper) refl h in
    absurd (not_there k c lower upper both.0 both.2 (named.is ∙ sym same) less more)

abbrev Goes : List ℕ → Data → Members → Option Cell → Type 0
Goes k d ms one = (lower upper : List Cell) → cells_of ms ≡ Ok (lower ++ upper) → Before k lower → Behind k upper → cells_of (put k d ms) ≡ Ok (lower ++ (option_to_list one ++ upper))

behind_cell : (k : List ℕ) (d : Data) (ms : Members) (one : Option Cell) (c : Cell) (lower upper ds : List Cell) → Below c.name k → cells_of ms ≡ Ok ds → lower ++ upper ≡ c ∷ ds → Before k lower → Behind k upper → Goes k d ms one
    → with_cell (Ok (Some c)) (cells_of (put k d ms)) ≡ Ok (lower ++ (option_to_list one ++ upper))
behind_cell k d ms one c [] upper ds below made h less more goes = absurd (not_both_below c.name k below (subst (Behind k) h more).0)
behind_cell k d ms one c (b ∷ lower) upper ds below made h less more goes =
    let rest : cells_of ms ≡ Ok (lower ++ upper) = made ∙ ap Ok (sym (same_tail b c (lower ++ upper) ds h)) in
    ap (with_cell (Ok (Some c))) (goes lower upper rest less.1 more)
    ∙ ap (λ (x : Cell). Ok (x ∷ (lower ++ (option_to_list one ++ upper)))) (sym (same_head b c (lower ++ upper) ds h))

greater_at : (k l : List ℕ) (d e : Data) (ms : Members) (one : Option Cell) (lower upper : List Cell) (r : Result (Option Cell) RowFault) → IfOk r (λ o. IfSome o (IsCellOf l e)) → Below l k
    → with_cell r (cells_of ms) ≡ Ok (lower ++ upper) → Before k lower → Behind k upper → Goes k d ms one → with_cell r (cells_of (put k d ms)) ≡ Ok (lower ++ (option_to_list one ++ upper))
greater_at k l d e ms one lower upper (Err f) named below h less more goes = absurd (err≢ok f (lower ++ upper) h)
greater_at k l d e ms one lower upper (Ok None) named below h less more goes = before_none (cells_of (put k d ms)) ∙ goes lower upper (sym (before_none (cells_of ms)) ∙ h) less more
greater_at k l d e ms one lower upper (Ok (Some c)) named below h less more goes =
    let both = taken (Ok (Some c)) (cells_of ms) c (lower ++ upper) refl h in
    behind_cell k d ms one c lower upper both.0 (subst (λ n. Below n k) (sym named.is) below) both.1 both.2 less more goes

put_at : (o : Ordering) (k l : List ℕ) (d e : Data) (ms : Members) (one : Option Cell) → slice_cmp nat_cmp k l ≡ o → cell_of k d ≡ Ok one → Ascending (member l e ms) → Goes k d ms one
    → (lower upper : List Cell) → cells_of (member l e ms) ≡ Ok (lower ++ upper) → Before k lower → Behind k upper
    → cells_of (match_ordering o (member k d (member l e ms)) (member l d ms) (member l e (put k d ms))) ≡ Ok (lower ++ (option_to_list one ++ upper))
unfolding IsStrictlySortedBy
put_at Less k l d e ms one is made all goes lower upper h less more =
    ap (λ r. with_cell r (cells_of (member l e ms))) made ∙ first k one (member l e ms) lower upper (is, below_all k l (names_of ms) is all.0) h less
put_at Equal k l d e ms one is made all goes lower upper h less more = equal_at k l d e ms one lower upper (cell_of l e) (cell_is l e) (same_name k l is) made all.0 h less more
put_at Greater k l d e ms one is made all goes lower upper h less more =
    greater_at k l d e ms one lower upper (cell_of l e) (cell_is l e) (nat_list_cmp_total.antisymm l k ∙ ap ordering_reverse is) h less more goes

-- the cells of members with one more are theirs, with its cell at its place
put_goes : (k : List ℕ) (d : Data) (ms : Members) (one : Option Cell) → cell_of k d ≡ Ok one → Ascending ms → Goes k d ms one
unfolding IsStrictlySortedBy
put_goes k d no_members one made all lower upper h less more =
    ap (λ r. with_cell r (Ok [])) made ∙ first k one no_members lower upper tt h less
put_goes k d (member l e ms) one made all lower upper h less more = put_at (slice_cmp nat_cmp k l) k l d e ms one refl made all (put_goes k d ms one made all.1) lower upper h less more

pub puts_at : (k : List ℕ) (d : Data) (one : Option Cell) (cells after : List Cell) (place : ℕ) → cell_of k d ≡ Ok one → IsPlace cells k place → after ≡ take place cells ++ (option_to_list one ++ drop place cells) → Puts k d cells after
puts_at k d one cells after place made is same old all h =
    put_goes k d old one made all (take place cells) (drop place cells) (h ∙ ap Ok (sym (take-append-drop place cells))) is.lesser is.greater ∙ ap Ok (sym same)

-- ---- the time among the cells

time_skipped : (k : List ℕ) (d : Data) (rest : Result (List Cell) RowFault) → is_time k ≡ true → with_cell (cell_of k d) rest ≡ rest
time_skipped k d rest t = skipped (cell_of k d) rest (rw t refl)

time_at : (o : Ordering) (k l : List ℕ) (d e : Data) (ms : Members) → slice_cmp nat_cmp k l ≡ o → is_time k ≡ true → cells_of (put k d ms) ≡ cells_of ms
    → cells_of (match_ordering o (member k d (member l e ms)) (member l d ms) (member l e (put k d ms))) ≡ cells_of (member l e ms)
time_at Less k l d e ms is t rest = time_skipped k d (cells_of (member l e ms)) t
time_at Equal k l d e ms is t rest =
    let here : is_time l ≡ true = subst (λ n. is_time n ≡ true) (same_name k l is) t in
    time_skipped l d (cells_of ms) here ∙ sym (time_skipped l e (cells_of ms) here)
time_at Greater k l d e ms is t rest = ap (with_cell (cell_of l e)) rest

time_put : (k : List ℕ) (d : Data) (ms : Members) → is_time k ≡ true → cells_of (put k d ms) ≡ cells_of ms
time_put k d no_members t = time_skipped k d (Ok []) t
time_put k d (member l e ms) t = time_at (slice_cmp nat_cmp k l) k l d e ms refl t (time_put k d ms t)

pub puts_time : (k : List ℕ) (d : Data) (cells : List Cell) → is_time k ≡ true → Puts k d cells cells
puts_time k d cells t old all h = time_put k d old t ∙ h

-- ---- the cell of a name and a value

pub no_time : (name : List ℕ) (b : Bool) → is_time name ≡ b → name ≢ time_name → is_time name ≡ false
no_time name true is other = absurd (other ((bytes_eq-Decides name time_name).0 is))
no_time name false is other = is

pub cell_means : (name : List ℕ) (d : Data) (v : Option Value) → IsCellName name → MeansValue d v → cell_of name d ≡ Ok (option_map (named_cell name) v)
cell_means name d None is h =
    let other : is_time name ≡ false = no_time name (is_time name) refl is.other in
    subst (λ (e : Data). cell_of name e ≡ Ok None) (sym h) (rw (other, good_name name is.some is.short) refl)
cell_means name d (Some v) is h =
    let other : is_time name ≡ false = no_time name (is_time name) refl is.other in
    rw (other, good_name name is.some is.short, h.0, h.1) refl

pub puts_none : (name : List ℕ) (value : Option Value) (cells : List Cell) (place : ℕ) → value ≡ None → IsCellName name → IsPlace cells name place → (d : Data) → MeansValue d value → Puts name d cells cells
puts_none name value cells place none named is d means =
    let made : cell_of name d ≡ Ok None = cell_means name d None named (subst (MeansValue d) none means) in
    puts_at name d None cells cells place made is (sym (take-append-drop place cells))

pub puts_some : (name : List ℕ) (value : Option Value) (cells after : List Cell) (place : ℕ) (c : Cell) → value ≡ Some c.value → c.name ≡ name → IsCellName name → IsPlace cells name place
    → after ≡ take place cells ++ c ∷ drop place cells → (d : Data) → MeansValue d value → Puts name d cells after
puts_some name value cells after place c some same named is put_in d means =
    let made : cell_of name d ≡ Ok (Some (named_cell name c.value)) = cell_means name d (Some c.value) named (subst (MeansValue d) some means) in
    let renamed : named_cell c.name c.value ≡ named_cell name c.value = ap (λ n. named_cell n c.value) same in
    puts_at name d (Some c) cells after place (made ∙ ap (λ x. Ok (Some x)) (sym renamed)) is put_in
