-- What is heard of a table from the asks of a query: the one of its leaf, where the query names it.
use Rattle.std.proofs.Common.{◌≡◌, ◌≢◌, ℕ, zero, suc, ◌+◌, ◌<◌, ◌≤◌, ◌==◌, Bool, true, false, List, [], ◌∷◌, ◌++◌, length, refl, sym, subst, ◌∙◌, arith, eq-eqb, eqb-true}
use Rattle.std.specs.Prelude.{Some, bytes_eq, cond, option_to_list, slice_get}
use Rattle.std.specs.List.{AllZip, range_with_len}
use Rattle.std.proofs.Math.Dec.{eqb-suc-suc, eqb-suc-zero, eqb-zero-suc}
use Rattle.std.proofs.lemmas.Bool.{and_from, and_left, and_right, eqb-false, false_from_ne_true}
use Rattle.std.proofs.lemmas.Slice.Eq.{bytes_eq-Decides}
use Rattle.std.proofs.lemmas.Option.{same_Some}
use Rattle.leaf_model.specs.declared.queries.Query.{Query}
use Rattle.row_model.specs.Names.{AreDistinct}
use Rattle.leaf_history.specs.Calls as call
use Rattle.script_text.specs.declared.fleet.FleetShape.{FleetShape}
use Rattle.script_text.specs.Commands.{leaf_count}
use Rattle.printed_lines.specs.declared.line.Line.{Line}
use Rattle.printed_lines.specs.declared.line.Line.TheVariants as line
use Rattle.standing_feed.specs.declared.meant.Meant.{Meant}
use Rattle.standing_feed.specs.declared.meant.Meant.TheVariants as meant
use Rattle.standing_feed.specs.Hearing.{CallsLeft, TablePlace, is_at, no_call_yet, some_when}
use Rattle.transcript.specs.Pieces.{Piece, place_among}
use Rattle.transcript.specs.Shapes.{CallPiece, QueryPieces, named}
use Rattle.transcript_standing.proofs.Lists.{each_at}
use Rattle.transcript_standing.proofs.HeardPieces.{Hears, Takes, Uses, call_elsewhere, call_here, hears_more, hears_none, says_hears, told_by}

-- ---- names

differ : (name other : List ℕ) → (name ≡ other → ⊥) → bytes_eq name other ≡ false
differ name other apart = false_from_ne_true (bytes_eq name other) (λ e. apart ((bytes_eq-Decides name other).0 e))

-- A name is that of a table just where its place is the table's.
place_is : (names : List (List ℕ)) (name here : List ℕ) (k : ℕ) → AreDistinct names → slice_get names k ≡ Some here → bytes_eq name here ≡ (place_among name names == k)
place_is [] name here k distinct at = absurd cc
place_is (n ∷ ns) name here zero distinct at =
    subst (λ (m : List ℕ). bytes_eq name m ≡ (cond (bytes_eq name n) 0 (suc (place_among name ns)) == 0)) (same_Some n here at) (first (bytes_eq name n) (place_among name ns))
  where
    first : (b : Bool) (m : ℕ) → b ≡ (cond b 0 (suc m) == 0)
    first true m = sym (eq-eqb 0 0 refl)
    first false m = sym (eqb-suc-zero m)
place_is (n ∷ ns) name here (suc k) distinct at = by (bytes_eq name n) refl (place_is ns name here k distinct.1 at)
  where
    by : (b : Bool) → bytes_eq name n ≡ b → bytes_eq name here ≡ (place_among name ns == k) → bytes_eq name here ≡ (cond b 0 (suc (place_among name ns)) == suc k)
    by true e further =
        differ name here (λ same. each_at (λ other. other ≢ n) ns distinct.0 k here at (sym same ∙ (bytes_eq-Decides name n).0 e)) ∙ sym (eqb-zero-suc k)
    by false e further = further ∙ sym (eqb-suc-suc (place_among name ns) k)

-- ---- asks

-- a table is asked at each of these leaves
abbrev AreAsked : ℕ → Query → ℕ → ℕ → List Piece → Type 0
AreAsked table q n count asks = AllZip (λ leaf piece. CallPiece leaf table (call.Ask q) piece) (range_with_len n count) asks

pub ask_taken : (q : Query) (rest : List Meant) → Takes (no_call_yet (meant.Ask ∷ rest)) (call.Ask q) (no_call_yet rest)
ask_taken q rest told is = (refl, refl)

module _ (p : TablePlace) (table : ℕ) (q : Query) where
  -- at none of them is it this one
  asks_elsewhere : (n count : ℕ) (asks : List Piece) → ((leaf : ℕ) → n ≤ leaf → is_at p leaf table ≡ false) → AreAsked table q n count asks → (calls : CallsLeft) → Hears p calls asks calls
  asks_elsewhere n zero [] apart are calls = hears_none
  asks_elsewhere n zero (a ∷ asks) apart are calls = absurd are
  asks_elsewhere n (suc count) [] apart are calls = absurd are
  asks_elsewhere n (suc count) (a ∷ asks) apart are calls =
      hears_more (call_elsewhere are.0 (apart n (omega arith))) (asks_elsewhere (n + 1) count asks (λ leaf low. apart leaf (omega (arith, low))) are.1 calls)

  -- at one of them it is
  asks_here : (n count : ℕ) (asks : List Piece) → (table == p.table) ≡ true → n ≤ p.leaf → p.leaf < n + count → AreAsked table q n count asks
      → (rest : List Meant) → Hears p (no_call_yet (meant.Ask ∷ rest)) asks (no_call_yet rest)
  asks_here n zero asks same low high are rest = absurd (omega (arith, low, high))
  asks_here n (suc count) [] same low high are rest = absurd are
  asks_here n (suc count) (a ∷ asks) same low high are rest = by (n == p.leaf) refl (λ further. asks_here (n + 1) count asks same further (omega (arith, high)) are.1 rest)
    where
      by : (b : Bool) → (n == p.leaf) ≡ b → (n + 1 ≤ p.leaf → Hears p (no_call_yet (meant.Ask ∷ rest)) asks (no_call_yet rest)) → Hears p (no_call_yet (meant.Ask ∷ rest)) (a ∷ asks) (no_call_yet rest)
      by true e further =
          let at : n ≡ p.leaf = eqb-true n p.leaf e in
          let later : (leaf : ℕ) → n + 1 ≤ leaf → is_at p leaf table ≡ false =
          λ leaf above. and_left (leaf == p.leaf) (table == p.table) (false_from_ne_true (leaf == p.leaf) (λ here. omega (arith, at, above, eqb-true leaf p.leaf here))) in
          hears_more (call_here are.0 (and_from (n == p.leaf) (table == p.table) e same) (ask_taken q rest (told_by a))) (asks_elsewhere (n + 1) count asks later are.1 (no_call_yet rest))
      by false e further =
          let apart : n ≢ p.leaf = eqb-false n p.leaf e in
          hears_more (call_elsewhere are.0 (and_left (n == p.leaf) (table == p.table) e)) (further (omega (arith, low, apart)))

  asks_hear : (count : ℕ) (asks : List Piece) → p.leaf < count → AreAsked table q 0 count asks → Uses p (some_when (table == p.table) meant.Ask) asks
  asks_hear count asks below are rest = by (table == p.table) refl
    where
      by : (b : Bool) → (table == p.table) ≡ b → Hears p (no_call_yet (option_to_list (some_when b meant.Ask) ++ rest)) asks (no_call_yet rest)
      by true e = asks_here 0 count asks e (omega arith) (omega (arith, below)) are rest
      by false e = asks_elsewhere 0 count asks (λ leaf low. and_right (leaf == p.leaf) (table == p.table) e) are (no_call_yet rest)

-- ---- a query

pub query_hears : (p : TablePlace) (fleet : FleetShape) (q : Query) (pieces : List Piece) → AreDistinct fleet.names → p.leaf < leaf_count fleet → slice_get fleet.names p.table ≡ Some p.name
    → QueryPieces fleet q pieces → Uses p (some_when (bytes_eq q.table p.name) meant.Ask) pieces
query_hears p fleet q pieces distinct below at asked rest =
    let table : ℕ = place_among q.table fleet.names in
    let answer : Line = line.Answer (length (named asked.asks)) (leaf_count fleet) asked.rows in
    subst (λ (b : Bool). Hears p (no_call_yet (option_to_list (some_when b meant.Ask) ++ rest)) pieces (no_call_yet rest)) (sym (place_is fleet.names q.table p.name p.table distinct at))
    (subst (λ (ps : List Piece). Hears p (no_call_yet (option_to_list (some_when (table == p.table) meant.Ask) ++ rest)) ps (no_call_yet rest)) (sym asked.are)
    (hears_more (asks_hear p table q (leaf_count fleet) asked.asks below asked.each rest) (says_hears answer tt)))
