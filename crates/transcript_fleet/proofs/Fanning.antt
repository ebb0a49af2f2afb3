-- A stretch of a run goes on by lanes beside one another.
use Rattle.std.proofs.Common.{◌≡◌, ◌⊎◌, ℕ, Bool, List, [], ◌∷◌, ◌++◌, length, map, inl, inr, Option, Some, sym, ap, subst, ◌∙◌}
use Rattle.std.specs.Prelude.{slice_get}
use Rattle.berth_face.specs.Berth.{Meaning}
use Rattle.leaf_history.specs.History.{Entry}
use Rattle.script_text.specs.declared.fleet.FleetShape.{FleetShape}
use Rattle.script_text.specs.Commands.{leaf_count}
use Rattle.transcript.specs.Pieces.{Piece, Played, One, Burst, all_pieces, pieces_in, plays_in}
use Rattle.transcript.specs.Transcript.{Known}
use Rattle.leaf_moves.specs.Holds.{Hold, seen_in}
use Rattle.leaf_moves.specs.Lanes.{CutsOff, CutsOffAt, Fans, TakesBack}
use Rattle.transcript_leaf.specs.Session.{AreSame, HasNoDeed, IsNoDeed, LeafSession}
use Rattle.transcript_fleet.specs.Session.{Stretch}
use Rattle.transcript_leaf.proofs.Backs.{plays_ones}
use Rattle.transcript_leaf.proofs.Leaf.{leaf_back, leaf_cuts}
use Rattle.transcript_leaf.proofs.Terms.{Grows}
use Rattle.transcript_fleet.proofs.Lists.{All-append, also_at, one_at, pieces-append, plays_of_lanes}
use Rattle.transcript_fleet.proofs.Growing.{AllGrow, Becomes, Longer, becomes_self, grows_still}
use Rattle.transcript_fleet.proofs.Going.{LeavesAlone}
use Rattle.transcript_fleet.proofs.Holding.{apart_on, none_off, none_rest, one_on, same_again, seen_of_part}
use Rattle.transcript_fleet.proofs.Playing.{AreRight, WentOn, lane_on, right_joined, right_of, right_still, stretch_of}

-- what it had seen when it was cut is seen again
grows_again : {B : Type 0} (needs : ℕ → Bool) (acts : Bool) (x o r o' r' y : Hold B) → CutsOffAt needs acts x o r → Grows r r' → Grows o o' → Grows r' y → Grows o' y → Grows x y
grows_again needs acts x o r o' r' y cut rest off rest_back off_back place = by (seen_of_part needs acts x o r cut place)
  where
    by : (seen_in r place ≡ seen_in x place) ⊎ (seen_in o place ≡ seen_in x place) → Longer (seen_in x place) (seen_in y place)
    by (inl seen) = subst (λ (es : List Entry). Longer es (seen_in y place)) seen (grows_still r r' y rest rest_back place)
    by (inr seen) = subst (λ (es : List Entry). Longer es (seen_in y place)) seen (grows_still o o' y off off_back place)

-- A leaf of which something was given to a lane and taken back: it was x, and is y. The lane left `off`, and what
-- played beside it left `rest`.
record IsBack {B : Type 0} (meaning : B → Meaning) (fleet : FleetShape) (known : ℕ → Option Known) (olds : List B) (before : List Piece) (start : ℕ → ℕ → List Entry)
    (lanes : List (List Played)) (xs offs rests : List (Hold B)) (leaf : ℕ) (y : Hold B) : Type 0 where
  old : B
  x : Hold B
  off : Hold B
  rest : Hold B
  at_old : slice_get olds leaf ≡ Some old
  at_x : slice_get xs leaf ≡ Some x
  at_off : slice_get offs leaf ≡ Some off
  at_rest : slice_get rests leaf ≡ Some rest
  now : LeafSession meaning leaf fleet.names (known leaf) (meaning old) before (start leaf) (Burst lanes ∷ []) y
  grows : Grows x y
  same : AreSame x y
  rest_grows : Grows rest y
  off_grows : Grows off y

module _ {B : Type 0} {meaning : B → Meaning} {fleet : FleetShape} {known : ℕ → Option Known} {olds : List B} {before : List Piece} {start : ℕ → ℕ → List Entry} where
  -- ---- what was cut off, and the rest

  module _ {needs acts : ℕ → Bool} {xs off rest : List (Hold B)} (s : Stretch meaning fleet known olds before start (Burst [] ∷ []) xs) (cut : CutsOff needs acts xs off rest) where
    cut_off : Stretch meaning fleet known olds before start [] off
    cut_off = record {
      counts = (s.counts.0, cut.counts.0 ∙ s.counts.1);
      prints = tt;
      each = λ leaf old o at_old at_o.
          let x = also_at off xs leaf o (sym cut.counts.0) at_o in
          let r = also_at off rest leaf o (cut.counts.1 ∙ sym cut.counts.0) at_o in
          (leaf_cuts meaning leaf fleet.names (known leaf) (meaning old) before (start leaf) needs (acts leaf) x.0 o r.0 (s.each leaf old x.0 at_old x.1) (cut.each leaf x.0 o r.0 x.1 at_o r.1)).0;
      answered = λ histories on. tt;
      worn = λ histories on. tt;
    }

    cut_rest : Stretch meaning fleet known olds before start (Burst [] ∷ []) rest
    cut_rest = record {
      counts = (s.counts.0, cut.counts.1 ∙ s.counts.1);
      prints = tt;
      each = λ leaf old r at_old at_r.
          let x = also_at rest xs leaf r (sym cut.counts.1) at_r in
          let o = also_at rest off leaf r (cut.counts.0 ∙ sym cut.counts.1) at_r in
          (leaf_cuts meaning leaf fleet.names (known leaf) (meaning old) before (start leaf) needs (acts leaf) x.0 o.0 r (s.each leaf old x.0 at_old x.1) (cut.each leaf x.0 o.0 r x.1 o.1 at_r)).1;
      answered = λ histories on. tt;
      worn = λ histories on. tt;
    }

    -- ---- taken back

    module _ (first : List (List Played)) (lane : List Played) {off' rest' ys : List (Hold B)} (main : WentOn meaning fleet known olds before start (Burst first ∷ []) (all_pieces (Burst first ∷ [])) rest rest')
        (aside : WentOn meaning fleet known olds before start (map One lane) (pieces_in lane) off off') (back : TakesBack meaning rest' off' ys) where
      count : length ys ≡ leaf_count fleet
      count = sym back.counts.0 ∙ main.stretch.counts.1

      back_at : (leaf : ℕ) (y : Hold B) → slice_get ys leaf ≡ Some y → IsBack meaning fleet known olds before start (first ++ lane ∷ []) xs off' rest' leaf y
      back_at leaf y at =
          let old = also_at ys olds leaf y (s.counts.0 ∙ sym count) at in
          let x = also_at ys xs leaf y (s.counts.1 ∙ sym count) at in
          let o = also_at ys off leaf y (cut.counts.0 ∙ (s.counts.1 ∙ sym count)) at in
          let r = also_at ys rest leaf y (cut.counts.1 ∙ (s.counts.1 ∙ sym count)) at in
          let o' = also_at ys off' leaf y (aside.stretch.counts.1 ∙ sym count) at in
          let r' = also_at ys rest' leaf y (main.stretch.counts.1 ∙ sym count) at in
          let here = cut.each leaf x.0 o.0 r.0 x.1 o.1 r.1 in
          let parts = leaf_cuts meaning leaf fleet.names (known leaf) (meaning old.0) before (start leaf) needs (acts leaf) x.0 o.0 r.0 (s.each leaf old.0 x.0 old.1 x.1) here in
          let rest_same = main.becomes.same leaf r.0 r'.0 r.1 r'.1 in
          let off_same = aside.becomes.same leaf o.0 o'.0 o.1 o'.1 in
          let taken = leaf_back meaning leaf fleet.names (known leaf) (meaning old.0) before (start leaf) first lane r'.0 o'.0 y
          (main.stretch.each leaf old.0 r'.0 old.1 r'.1) (aside.stretch.each leaf old.0 o'.0 old.1 o'.1)
          (apart_on r.0 o.0 r'.0 o'.0 parts.2 rest_same off_same) (one_on r.0 o.0 r'.0 o'.0 parts.3.one rest_same off_same)
          (λ none. main.alone leaf r.0 r.1 (rest_same.held ∙ none)) (λ none. aside.alone leaf o.0 o.1 (off_same.held ∙ none)) (back.each leaf r'.0 o'.0 y r'.1 o'.1 at) in
          record {
            old = old.0;
            x = x.0;
            off = o'.0;
            rest = r'.0;
            at_old = old.1;
            at_x = x.1;
            at_off = o'.1;
            at_rest = r'.1;
            now = taken.0;
            grows = grows_again needs (acts leaf) x.0 o.0 r.0 o'.0 r'.0 y here (main.becomes.grow.each leaf r.0 r'.0 r.1 r'.1) (aside.becomes.grow.each leaf o.0 o'.0 o.1 o'.1) taken.2 taken.3;
            same = same_again x.0 r.0 o.0 r'.0 o'.0 y parts.3 rest_same off_same taken.1;
            rest_grows = taken.2;
            off_grows = taken.3;
          }

      rest_grows : AllGrow rest' ys
      rest_grows = record {
        count = sym back.counts.0;
        each = λ leaf r y at_r at_y.
            let b = back_at leaf y at_y in
            subst (λ (z : Hold B). Grows z y) (one_at rest' leaf b.rest r b.at_rest at_r) b.rest_grows;
      }

      off_grows : AllGrow off' ys
      off_grows = record {
        count = sym back.counts.1;
        each = λ leaf o y at_o at_y.
            let b = back_at leaf y at_y in
            subst (λ (z : Hold B). Grows z y) (one_at off' leaf b.off o b.at_off at_o) b.off_grows;
      }

      becomes : Becomes xs ys
      becomes = record {
        grow = record {
          count = count ∙ sym s.counts.1;
          each = λ leaf x y at_x at_y.
              let b = back_at leaf y at_y in
              subst (λ (z : Hold B). Grows z y) (one_at xs leaf b.x x b.at_x at_x) b.grows;
        };
        same = λ leaf x y at_x at_y.
            let b = back_at leaf y at_y in
            subst (λ (z : Hold B). AreSame z y) (one_at xs leaf b.x x b.at_x at_x) b.same;
      }

      alone_there : LeavesAlone xs (all_pieces (Burst (first ++ lane ∷ []) ∷ []))
      alone_there leaf x at none =
          let old = also_at xs olds leaf x (s.counts.0 ∙ sym s.counts.1) at in
          let o = also_at xs off leaf x cut.counts.0 at in
          let r = also_at xs rest leaf x cut.counts.1 at in
          let parts = leaf_cuts meaning leaf fleet.names (known leaf) (meaning old.0) before (start leaf) needs (acts leaf) x o.0 r.0
          (s.each leaf old.0 x old.1 at) (cut.each leaf x o.0 r.0 at o.1 r.1) in
          subst (λ (ps : List Piece). HasNoDeed leaf ps)
          (sym (ap (λ (ps : List Played). pieces_in ps) (plays_of_lanes first lane) ∙ pieces-append (plays_in (Burst first ∷ [])) lane))
          (All-append (IsNoDeed leaf) (all_pieces (Burst first ∷ [])) (pieces_in lane)
          (main.alone leaf r.0 r.1 (none_rest r.0 o.0 x parts.3 none)) (aside.alone leaf o.0 o.1 (none_off r.0 o.0 x parts.3 none)))

      right_there : AreRight fleet known (plays_in (Burst (first ++ lane ∷ []) ∷ [])) ys
      right_there =
          let others = right_still off_grows (right_of aside.stretch) in
          subst (λ (ps : List Played). AreRight fleet known ps ys) (sym (plays_of_lanes first lane))
          (right_joined (right_still rest_grows (right_of main.stretch)) (subst (λ (ps : List Played). AreRight fleet known ps ys) (plays_ones lane) others))

      taken_back : WentOn meaning fleet known olds before start (Burst (first ++ lane ∷ []) ∷ []) (all_pieces (Burst (first ++ lane ∷ []) ∷ [])) xs ys
      taken_back = record {
        stretch = stretch_of (record {
          counts = (s.counts.0, count);
          each = λ leaf old y at_old at_y.
              let b = back_at leaf y at_y in
              subst (λ (c : B). LeafSession meaning leaf fleet.names (known leaf) (meaning c) before (start leaf) (Burst (first ++ lane ∷ []) ∷ []) y) (one_at olds leaf b.old old b.at_old at_old) b.now;
        }) right_there;
        becomes = becomes;
        alone = alone_there;
      }

  -- ---- one lane after another

  pub fans_on : {xs : List (Hold B)} {lanes : List (List Played)} {ys : List (Hold B)} → Fans meaning fleet xs lanes ys → Stretch meaning fleet known olds before start (Burst [] ∷ []) xs
      → WentOn meaning fleet known olds before start (Burst lanes ∷ []) (all_pieces (Burst lanes ∷ [])) xs ys
  fans_on {xs} {lanes} {ys} (Fans.none ws ls zs empty same) s =
      subst (λ (ls : List (List Played)). WentOn meaning fleet known olds before start (Burst ls ∷ []) (all_pieces (Burst ls ∷ [])) xs ys) (sym empty)
      (subst (λ (zs : List (Hold B)). WentOn meaning fleet known olds before start (Burst [] ∷ []) [] xs zs) (sym same) (record { stretch = s; becomes = becomes_self; alone = λ leaf x at none. tt }))
  fans_on {xs} {lanes} {ys} (Fans.beside ws ls zs first lane needs acts off rest rest' off' cut fan on back is) s =
      subst (λ (ls : List (List Played)). WentOn meaning fleet known olds before start (Burst ls ∷ []) (all_pieces (Burst ls ∷ [])) xs ys) (sym is)
      (taken_back s cut first lane (fans_on fan (cut_rest s cut)) (lane_on on [] (cut_off s cut)) back)
