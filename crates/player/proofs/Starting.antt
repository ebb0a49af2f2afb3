-- The leaves are started one after another.
use Rattle.std.proofs.Common.{◌≡◌, ℕ, zero, suc, ◌+◌, List, [], ◌∷◌, ◌++◌, Result, Ok, Vec, Global, sym, ap, subst, arith}
use Rattle.std.specs.Prelude.{IfOk}
use Rattle.std.specs.List.{range_with_len}
use Rattle.berth_face.specs.Berth.{Meaning}
use Rattle.printed_lines.specs.declared.line.Line.{Line}
use Rattle.script_text.specs.declared.fleet.FleetShape.{FleetShape}
use Rattle.printed_lines.specs.declared.line.Deed.{Deed}
use Rattle.printed_lines.specs.declared.line.Deed.TheVariants.{Start}
use Rattle.transcript.specs.Pieces.{Piece}
use Rattle.transcript.specs.Shapes.{ActPiece, EachActs}
use Rattle.player.specs.declared.members.Members.{Members}
use Rattle.player.specs.Lines.{AreJoined}
use Rattle.player.specs.Members.{GoesWith, SameFleet, holds_in}
use Rattle.player.specs.Commands.{ActsAt, StartsFirst}
use Rattle.player.proofs.Chains.{goes_with_more, goes_with_said, joined_lines}

one_more : (first k leaf : ℕ) (deed : Deed) (ps : List Piece) (p : Piece) → leaf ≡ first + k → EachActs deed (range_with_len first k) ps → ActPiece leaf deed p → EachActs deed (range_with_len first (suc k)) (ps ++ p ∷ [])
one_more first zero leaf deed [] p is none act =
    let same : leaf ≡ first = omega (arith, is) in
    (subst (λ (n : ℕ). ActPiece n deed p) same act, tt)
one_more first zero leaf deed (q ∷ qs) p is acts act = absurd acts
one_more first (suc k) leaf deed [] p is acts act = absurd acts
one_more first (suc k) leaf deed (q ∷ qs) p is acts act = (acts.0, one_more (first + 1) k leaf deed qs p (omega (arith, is)) acts.1 act)

module _ {B E : Type 0} (meaning : B → Meaning) where
  pub started_none : (x : Members B) (lines : Vec Line Global) → lines.items ≡ [] → StartsFirst {E = E} meaning 0 x (Ok lines) x
  started_none x lines empty = record { pieces = []; prints = tt; goes = goes_with_said meaning x.names (holds_in x) [] (Ok lines) tt empty }

  pub started_more : (k next : ℕ) (x y z : Members B) (first one both : Result (Vec Line Global) E) → next ≡ suc k → SameFleet x y → StartsFirst meaning k x first y → ActsAt meaning k Start y one z
      → IfOk both (λ lines. AreJoined first [] one lines.items) → StartsFirst meaning next x both z
  started_more k next x y z first one both is same so_far acts joined =
      subst (λ (n : ℕ). StartsFirst meaning n x both z) (sym is) (record {
        pieces = so_far.pieces ++ acts.piece ∷ [];
        prints = one_more 0 k k Start so_far.pieces acts.piece (omega arith) so_far.prints acts.prints;
        goes = goes_with_more meaning x.names (holds_in x) (holds_in y) (holds_in z) so_far.pieces (acts.piece ∷ []) first one both so_far.goes
            (subst (λ (names : List (List ℕ)). GoesWith meaning names (holds_in y) one (acts.piece ∷ []) (holds_in z)) (ap (λ (f : FleetShape). f.names) same.fleet) acts.goes)
            (joined_lines first one both [] so_far.pieces (acts.piece ∷ []) so_far.goes.lines_are acts.goes.lines_are joined);
      })
