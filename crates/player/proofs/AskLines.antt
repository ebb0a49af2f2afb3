-- The lines of the leaves that were asked, by the lists of their replies.
use Rattle.std.proofs.Common.{◌≡◌, ◌≢◌, ℕ, zero, suc, ◌+◌, ◌<◌, ◌≤◌, if◌then◌else◌, Bool, List, [], ◌∷◌, ◌++◌, length, take, Option, Some, None, refl, sym, ap, subst, ◌∙◌, arith}
use Rattle.std.specs.Prelude.{slice_get}
use Rattle.std.specs.List.{AllByRecursion}
use Rattle.std.proofs.lemmas.Bool.{eq-eqb, ne_eqb}
use Rattle.std.proofs.lemmas.List.{take_all}
use Rattle.leaf_table.specs.declared.replies.Reply.{Reply}
use Rattle.leaf_table.specs.declared.replies.Reply.TheVariants as told
use Rattle.aggregator.specs.declared.lists.Named.{Named}
use Rattle.aggregator.specs.declared.fanned.Fanned.{Fanned}
use Rattle.aggregator.specs.Sorts.{Sorts, by_leaf, named_of, shut_of, starved_of, with_number}
use Rattle.aggregator.specs.Merges.{IsAnswer}
use Rattle.printed_lines.specs.declared.line.Line.{Line}
use Rattle.player.specs.Lines.{reply_line}
use Rattle.player.specs.Commands.{asked_line, asked_lines, number_in, said_line}
use Rattle.player.proofs.Columns.{element_at}
use Rattle.player.proofs.Columns.{same_some}

-- ---- the number of a leaf's entry

-- a leaf with its number, if it has one
abbrev pub numbered : ℕ → Option ℕ → List Named
numbered leaf None = []
numbered leaf (Some number) = with_number leaf number ∷ []

-- that of an answer, of a table that was shut, and where memory was refused
abbrev pub number_named : Reply → Option ℕ
number_named (told.Groups number gs) = Some number
number_named (told.Added number kept late) = None
number_named (told.Removed number rows) = None
number_named (told.Shut number) = None
number_named (told.Full number) = None
number_named (told.NoMemory number) = None
number_named told.Worn = None

abbrev number_shut : Reply → Option ℕ
number_shut (told.Shut number) = Some number
number_shut (told.Groups number gs) = None
number_shut (told.Added number kept late) = None
number_shut (told.Removed number rows) = None
number_shut (told.Full number) = None
number_shut (told.NoMemory number) = None
number_shut told.Worn = None

abbrev number_starved : Reply → Option ℕ
number_starved (told.NoMemory number) = Some number
number_starved (told.Groups number gs) = None
number_starved (told.Added number kept late) = None
number_starved (told.Removed number rows) = None
number_starved (told.Shut number) = None
number_starved (told.Full number) = None
number_starved told.Worn = None

pub named_numbered : (leaf : ℕ) (r : Reply) → named_of leaf r ≡ numbered leaf (number_named r)
named_numbered leaf (told.Groups number gs) = refl
named_numbered leaf (told.Added number kept late) = refl
named_numbered leaf (told.Removed number rows) = refl
named_numbered leaf (told.Shut number) = refl
named_numbered leaf (told.Full number) = refl
named_numbered leaf (told.NoMemory number) = refl
named_numbered leaf told.Worn = refl

shut_numbered : (leaf : ℕ) (r : Reply) → shut_of leaf r ≡ numbered leaf (number_shut r)
shut_numbered leaf (told.Groups number gs) = refl
shut_numbered leaf (told.Added number kept late) = refl
shut_numbered leaf (told.Removed number rows) = refl
shut_numbered leaf (told.Shut number) = refl
shut_numbered leaf (told.Full number) = refl
shut_numbered leaf (told.NoMemory number) = refl
shut_numbered leaf told.Worn = refl

starved_numbered : (leaf : ℕ) (r : Reply) → starved_of leaf r ≡ numbered leaf (number_starved r)
starved_numbered leaf (told.Groups number gs) = refl
starved_numbered leaf (told.Added number kept late) = refl
starved_numbered leaf (told.Removed number rows) = refl
starved_numbered leaf (told.Shut number) = refl
starved_numbered leaf (told.Full number) = refl
starved_numbered leaf (told.NoMemory number) = refl
starved_numbered leaf told.Worn = refl

-- another leaf is passed by
passed : (first leaf : ℕ) (o : Option ℕ) (others : List Named) → first ≢ leaf → number_in leaf (numbered first o ++ others) ≡ number_in leaf others
passed first leaf None others apart = refl
passed first leaf (Some number) others apart = ap (λ (b : Bool). if b then Some number else number_in leaf others) (ne_eqb first leaf apart)

here : (leaf : ℕ) (o : Option ℕ) (others : List Named) → number_in leaf others ≡ None → number_in leaf (numbered leaf o ++ others) ≡ o
here leaf None others none = none
here leaf (Some number) others none = ap (λ (b : Bool). if b then Some number else number_in leaf others) (eq-eqb leaf leaf refl)

module _ (gives : ℕ → Reply → List Named) (number : Reply → Option ℕ) (is : (leaf : ℕ) (r : Reply) → gives leaf r ≡ numbered leaf (number r)) where
  -- a leaf before the first is not in the list
  none_before : (first leaf : ℕ) (rs : List Reply) → leaf < first → number_in leaf (by_leaf gives first rs) ≡ None
  none_before first leaf [] below = refl
  none_before first leaf (r ∷ rs) below =
      ap (λ (ns : List Named). number_in leaf (ns ++ by_leaf gives (suc first) rs)) (is first r)
      ∙ (passed first leaf (number r) (by_leaf gives (suc first) rs) (λ same. omega (arith, same, below)) ∙ none_before (suc first) leaf rs (omega (arith, below)))

  pub number_found : (first i leaf : ℕ) (rs : List Reply) (r : Reply) → leaf ≡ first + i → slice_get rs i ≡ Some r → number_in leaf (by_leaf gives first rs) ≡ number r
  number_found first i leaf [] r at there = absurd cc
  number_found first zero leaf (x ∷ rs) r at there =
      let same : leaf ≡ first = omega (arith, at) in
      let one : number_in first (by_leaf gives first (x ∷ rs)) ≡ number x =
      ap (λ (ns : List Named). number_in first (ns ++ by_leaf gives (suc first) rs)) (is first x)
      ∙ here first (number x) (by_leaf gives (suc first) rs) (none_before (suc first) first rs (omega arith)) in
      ap (λ (n : ℕ). number_in n (by_leaf gives first (x ∷ rs))) same ∙ (one ∙ ap number (same_some x r there))
  number_found first (suc i) leaf (x ∷ rs) r at there =
      ap (λ (ns : List Named). number_in leaf (ns ++ by_leaf gives (suc first) rs)) (is first x)
      ∙ (passed first leaf (number x) (by_leaf gives (suc first) rs) (λ same. omega (arith, same, at)) ∙ number_found (suc first) i leaf rs r (omega (arith, at)) there)

-- ---- the line of a leaf

said_reply : (leaf table : ℕ) (r : Reply) → IsAnswer r → said_line leaf table (number_named r) (number_shut r) (number_starved r) ≡ reply_line leaf table r
said_reply leaf table (told.Groups number gs) answer = refl
said_reply leaf table (told.Shut number) answer = refl
said_reply leaf table (told.NoMemory number) answer = refl
said_reply leaf table told.Worn answer = refl
said_reply leaf table (told.Added number kept late) answer = absurd answer
said_reply leaf table (told.Removed number rows) answer = absurd answer
said_reply leaf table (told.Full number) answer = absurd answer

asked_is : (table leaf : ℕ) (rs : List Reply) (f : Fanned) (r : Reply) → Sorts rs f → IsAnswer r → slice_get rs leaf ≡ Some r → asked_line leaf table f ≡ reply_line leaf table r
asked_is table leaf rs f r sorts answer at =
    let named : number_in leaf f.named ≡ number_named r = ap (number_in leaf) sorts.named ∙ number_found named_of number_named named_numbered 0 leaf leaf rs r (omega arith) at in
    let shut : number_in leaf f.shut ≡ number_shut r = ap (number_in leaf) sorts.shut ∙ number_found shut_of number_shut shut_numbered 0 leaf leaf rs r (omega arith) at in
    let starved : number_in leaf f.starved ≡ number_starved r = ap (number_in leaf) sorts.starved ∙ number_found starved_of number_starved starved_numbered 0 leaf leaf rs r (omega arith) at in
    ap (λ (o : Option ℕ). said_line leaf table o (number_in leaf f.shut) (number_in leaf f.starved)) named
    ∙ (ap (λ (o : Option ℕ). said_line leaf table (number_named r) o (number_in leaf f.starved)) shut
    ∙ (ap (λ (o : Option ℕ). said_line leaf table (number_named r) (number_shut r) o) starved ∙ said_reply leaf table r answer))

-- ---- the lines of all

abbrev pub reply_lines : ℕ → ℕ → List Reply → List Line
reply_lines leaf table [] = []
reply_lines leaf table (r ∷ rs) = reply_line leaf table r ∷ reply_lines (suc leaf) table rs

reply_at : (first i leaf table : ℕ) (rs : List Reply) (r : Reply) → leaf ≡ first + i → slice_get rs i ≡ Some r → slice_get (reply_lines first table rs) i ≡ Some (reply_line leaf table r)
reply_at first i leaf table [] r at there = absurd cc
reply_at first zero leaf table (x ∷ rs) r at there =
    let same : first ≡ leaf = omega (arith, at) in
    ap (λ (n : ℕ). Some (reply_line n table x)) same ∙ ap (λ (y : Reply). Some (reply_line leaf table y)) (same_some x r there)
reply_at first (suc i) leaf table (x ∷ rs) r at there = reply_at (suc first) i leaf table rs r (omega (arith, at)) there

reply_count : (first table : ℕ) (rs : List Reply) → length (reply_lines first table rs) ≡ length rs
reply_count first table [] = refl
reply_count first table (r ∷ rs) = ap suc (reply_count (suc first) table rs)

take_one : {A : Type 0} (xs : List A) (i : ℕ) (x : A) → slice_get xs i ≡ Some x → take (suc i) xs ≡ take i xs ++ x ∷ []
take_one [] i x at = absurd cc
take_one (y ∷ ys) zero x at = ap (λ z. z ∷ []) (same_some y x at)
take_one (y ∷ ys) (suc i) x at = ap (λ zs. y ∷ zs) (take_one ys i x at)

all_at : {A : Type 0} (P : A → Type 0) (xs : List A) (i : ℕ) (x : A) → AllByRecursion P xs → slice_get xs i ≡ Some x → P x
all_at P [] i x all at = absurd cc
all_at P (y ∷ ys) zero x all at = subst P (same_some y x at) all.0
all_at P (y ∷ ys) (suc i) x all at = all_at P ys i x all.1 at

module _ (table : ℕ) (rs : List Reply) (f : Fanned) (sorts : Sorts rs f) (answers : AllByRecursion IsAnswer rs) where
  first_asked : (n : ℕ) → n ≤ length rs → asked_lines n table f ≡ take n (reply_lines 0 table rs)
  first_asked zero few = refl
  first_asked (suc n) few =
      let there = element_at rs n (omega (arith, few)) in
      let line_is = asked_is table n rs f there.0 sorts (all_at IsAnswer rs n there.0 answers there.1) there.1 in
      let stands : slice_get (reply_lines 0 table rs) n ≡ Some (asked_line n table f) =
      reply_at 0 n n table rs there.0 (omega arith) there.1 ∙ ap (λ (l : Line). Some l) (sym line_is) in
      ap (λ (ls : List Line). ls ++ asked_line n table f ∷ []) (first_asked n (omega (arith, few))) ∙ sym (take_one (reply_lines 0 table rs) n (asked_line n table f) stands)

  pub asked_are : (n : ℕ) → n ≡ length rs → asked_lines n table f ≡ reply_lines 0 table rs
  asked_are n all = first_asked n (omega (arith, all)) ∙ take_all n (reply_lines 0 table rs) (omega (arith, all, reply_count 0 table rs))
