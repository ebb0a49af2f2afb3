-- The leaves of a crew are as they were, and their callers' seats stand in rows that are as long.
use Rattle.std.proofs.Common.{◌≡◌, ℕ, List, length, Option, Some, Result, Vec, Global, refl, sym, ap, subst, ◌∙◌, arith}
use Rattle.std.specs.Prelude.{Bool, IfOk, is_some, slice_get}
use Rattle.std.specs.List.{AllByRecursion}
use Rattle.berth_face.specs.Berth.{Meaning}
use Rattle.leaf_table.specs.Calls.{SeatView}
use Rattle.leaf_table.specs.Lists.{lists_in, row}
use Rattle.leaf_steward.proofs.Seating.{same_at}
use Rattle.printed_lines.specs.declared.line.Deed.{Deed}
use Rattle.printed_lines.specs.declared.line.Ending.{Ending}
use Rattle.printed_lines.specs.declared.line.Line.{Line}
use Rattle.printed_lines.specs.Lines.{IsOf}
use Rattle.transcript.specs.Pieces.{Piece, lines_in}
use Rattle.transcript.specs.Counts.{deeds_in}
use Rattle.leaf_moves.specs.Holds.{Hold}
use Rattle.leaf_moves.specs.Stage.{Leaf}
use Rattle.leaf_moves.specs.Plays.{Goes}
use Rattle.leaf_deeds.specs.declared.leaf.OneLeaf.{OneLeaf}
use Rattle.player.specs.declared.members.Members.{Members}
use Rattle.player.specs.Crew.{CountedIf, PassesIf}
use Rattle.player.specs.Stage.{held_of}
use Rattle.player.specs.Members.{GoesWith, holds_in}
use Rattle.player.proofs.Chains.{counted_calm, passes_if_none}
use Rattle.player.proofs.HoldLists.{holds_back, holds_count}
use Rattle.player.proofs.MemberSteps.{seats_of_rows, with_parts}

module _ {B : Type 0} (x : Members B) (now : Vec (Vec SeatView Global) Global)
    (lengths : (t : ℕ) → length (row (lists_in now.items) t) ≡ length (row (lists_in x.rows.items) t)) where
  abbrev xs : List (Hold B)
  xs = holds_in x

  abbrev ys : List (Hold B)
  ys = holds_in (with_parts x x.leaves now)

  held_same : (leaf : ℕ) (a b : Hold B) → slice_get xs leaf ≡ Some a → slice_get ys leaf ≡ Some b → a.held ≡ b.held
  held_same leaf a b was is =
      let one = holds_back 0 leaf leaf x.tables.now x.leaves.items a (lists_in x.rows.items) (omega arith) was in
      let two = holds_back 0 leaf leaf x.tables.now x.leaves.items b (lists_in now.items) (omega arith) is in
      ap (λ (h : Hold B). h.held) one.2 ∙ (ap (λ (z : Option (OneLeaf B)). held_of z) (same_at x.leaves.items leaf one.0 two.0 one.1 two.1) ∙ ap (λ (h : Hold B). h.held) (sym two.2))

  counts_same : length ys ≡ length xs
  counts_same = holds_count 0 x.tables.now x.leaves.items (lists_in now.items) ∙ sym (holds_count 0 x.tables.now x.leaves.items (lists_in x.rows.items))

  -- calls of callers alone, with their lines
  pub goes_calm : {E : Type 0} (meaning : B → Meaning) (result : Result (Vec Line Global) E) (pieces : List Piece) → Goes meaning xs pieces ys
      → ((test : Deed → Ending → Bool) (number : ℕ) → deeds_in test number pieces ≡ 0) → AllByRecursion (IsOf x.names) (lines_in pieces)
      → IfOk result (λ lines. lines.items ≡ lines_in pieces) → GoesWith meaning x.names xs result pieces ys
  goes_calm meaning result pieces goes calm fit told = record {
    goes = goes;
    counted = record {
      count = counts_same;
      each = λ leaf a b was here.
          subst (λ (z : Option (Leaf × B)). CountedIf meaning leaf pieces a.held z) (held_same leaf a b was here) (counted_calm meaning leaf pieces a.held (λ test. calm test leaf));
    };
    time = record {
      count = counts_same;
      each = λ leaf a b was here. subst (λ (z : Option (Leaf × B)). PassesIf meaning a.held z) (held_same leaf a b was here) (passes_if_none meaning a.held);
    };
    still = record {
      count = counts_same;
      each = λ leaf a b was here. (ap (λ (z : Option (Leaf × B)). is_some z) (sym (held_same leaf a b was here)), (seats_of_rows x.tables.now x.leaves.items x.leaves.items (lists_in x.rows.items) (lists_in now.items) refl lengths).each leaf a b was here);
    };
    fit = fit;
    lines_are = told;
  }
