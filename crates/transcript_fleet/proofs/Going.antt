-- What is known of the leaves of a fleet, piece by piece of what a command does to them.
use Rattle.std.proofs.Common.{◌≡◌, ℕ, ◌<◌, ◌==◌, Bool, true, false, List, [], ◌∷◌, ◌++◌, length, inl, inr, refl, sym, ap, subst, ◌∙◌, Option, Some}
use Rattle.std.specs.Prelude.{is_some, slice_get, slice_set, ⊤}
use Rattle.std.specs.List.{AllByRecursion}
use Rattle.std.proofs.lemmas.Bool.{eqb-true, eqb-false, false_from_ne_true}
use Rattle.std.proofs.lemmas.List.{append-nil, append_assoc}
use Rattle.berth_face.specs.Berth.{Meaning}
use Rattle.leaf_history.specs.Calls.{Call}
use Rattle.leaf_history.specs.History.{Entry}
use Rattle.leaf_table.specs.Calls.{SeatView, name_of}
use Rattle.script_text.specs.declared.command.Command.{Command}
use Rattle.printed_lines.specs.declared.line.Line.{Line}
use Rattle.printed_lines.specs.declared.line.Said.{Said}
use Rattle.script_text.specs.declared.fleet.FleetShape.{FleetShape}
use Rattle.script_text.specs.Commands.{leaf_count}
use Rattle.printed_lines.specs.declared.line.Deed.{Deed}
use Rattle.transcript.specs.Pieces.{Acted, Called, Piece, PlayedItem, Says, Worn}
use Rattle.transcript.specs.Shapes.{CallPiece}
use Rattle.transcript.specs.Answers.{WornIsLong}
use Rattle.transcript.specs.Transcript.{Known}
use Rattle.leaf_moves.specs.Stage.{Leaf}
use Rattle.leaf_moves.specs.Holds.{GoOn, Hold, with_callers, with_leaf}
use Rattle.leaf_moves.specs.Steps.{CallStep, DeedStep}
use Rattle.leaf_moves.specs.Plays.{Goes}
use Rattle.leaf_moves.specs.Plays as going
use Rattle.transcript_leaf.specs.Session.{HasNoDeed, IsNoDeed, IsOthers, LeafSession}
use Rattle.transcript_leaf.proofs.Leaf.{call_grows, call_worn, deed_grows, deed_worn, leaf_acts, leaf_calls, leaf_opens, leaf_others, piece_of_call}
use Rattle.transcript_leaf.proofs.Lists.{get_set_other, get_set_same, length_mapped, length_set, same_some, within}
use Rattle.transcript_leaf.proofs.Terms.{with_pieces}
use Rattle.transcript_fleet.proofs.Lists.{All-append, also_at}
use Rattle.transcript_fleet.proofs.Growing.{Becomes, becomes_self, becomes_still, goes_on_here, touched, went_back}

-- a call's piece is of a table below so many
abbrev pub IsWithin : ℕ → Piece → Type 0
IsWithin tables (Called leaf table c n said) = table < tables
IsWithin tables (Worn leaf table) = ⊤
IsWithin tables (Acted leaf deed notes ending) = ⊤
IsWithin tables (Says line) = ⊤

-- none of these pieces is a deed of a leaf that is not held
abbrev pub LeavesAlone : {B : Type 0} → List (Hold B) → List Piece → Type 0
LeavesAlone {B} xs pieces = (leaf : ℕ) (x : Hold B) → slice_get xs leaf ≡ Some x → is_some x.held ≡ false → HasNoDeed leaf pieces

-- each leaf after these items
pub record Leaves {B : Type 0} (meaning : B → Meaning) (fleet : FleetShape) (known : ℕ → Option Known) (olds : List B) (before : List Piece) (start : ℕ → ℕ → List Entry)
    (items : List PlayedItem) (xs : List (Hold B)) : Type 0 where
  pub counts : (length olds ≡ leaf_count fleet) × (length xs ≡ leaf_count fleet)
  pub each : (leaf : ℕ) (old : B) (x : Hold B) → slice_get olds leaf ≡ Some old → slice_get xs leaf ≡ Some x
      → LeafSession meaning leaf fleet.names (known leaf) (meaning old) before (start leaf) items x

-- What is known behind more pieces of a command: of each leaf; that it grew, and who holds what stays; that seats that
-- are told as worn are; and of which leaves and tables they are.
pub record Behind {B : Type 0} (meaning : B → Meaning) (fleet : FleetShape) (known : ℕ → Option Known) (olds : List B) (before : List Piece) (start : ℕ → ℕ → List Entry)
    (items : List PlayedItem) (c0 : Command) (ps more : List Piece) (xs ys : List (Hold B)) : Type 0 where
  pub leaves : Leaves meaning fleet known olds before start (with_pieces items c0 (ps ++ more)) ys
  pub becomes : Becomes xs ys
  pub worn : (histories : ℕ → ℕ → List Entry) → GoOn ys histories → AllByRecursion (WornIsLong histories) more
  pub within_are : AllByRecursion (IsWithin (length fleet.names)) more
  pub alone : LeavesAlone xs more

-- two places that differ are told apart
differs : (a b : ℕ) → (a ≡ b → ⊥) → (a == b) ≡ false
differs a b other = false_from_ne_true (a == b) (λ e. other (eqb-true a b e))

-- ---- pieces

-- what holds of each piece that a call may print
pub of_call : (P : Piece → Type 0) (leaf table : ℕ) (c : Call) (p : Piece) → ((n : ℕ) (said : Said) → P (Called leaf table c n said)) → P (Worn leaf table) → CallPiece leaf table c p → P p
of_call P leaf table c p called worn (inl k) = subst P (sym k.2) (called k.0 k.1)
of_call P leaf table c p called worn (inr is) = subst P (sym is) worn

-- a leaf that is not held is not the one at that place
held_elsewhere : {B : Type 0} (xs : List (Hold B)) (here leaf : ℕ) (x y : Hold B) (l : Leaf × B) → slice_get xs here ≡ Some x → x.held ≡ Some l
    → slice_get xs leaf ≡ Some y → is_some y.held ≡ false → here ≡ leaf → ⊥
held_elsewhere {B} xs here leaf x y l at held at_y none same =
    let is : x ≡ y = same_some x y (sym at ∙ (ap (λ (n : ℕ). slice_get xs n) same ∙ at_y)) in
    let there : y.held ≡ Some l = sym (ap (λ (z : Hold B). z.held) is) ∙ held in
    cc

pub alone_on : {B : Type 0} {xs ys : List (Hold B)} (some others : List Piece) → Becomes xs ys → LeavesAlone xs some → LeavesAlone ys others → LeavesAlone xs (some ++ others)
alone_on {xs = xs} {ys = ys} some others becomes first then leaf x at none =
    let y = also_at xs ys leaf x becomes.grow.count at in
    All-append (IsNoDeed leaf) some others (first leaf x at none) (then leaf y.0 y.1 (sym (becomes.same leaf x y.0 at y.1).held ∙ none))

module _ {B : Type 0} (meaning : B → Meaning) (fleet : FleetShape) (known : ℕ → Option Known) (olds : List B) (before : List Piece) (start : ℕ → ℕ → List Entry)
    (items : List PlayedItem) (c0 : Command) where
  -- what is known of the leaf with that number
  abbrev Now : ℕ → B → List Piece → Hold B → Type 0
  Now leaf old ps x = LeafSession meaning leaf fleet.names (known leaf) (meaning old) before (start leaf) (with_pieces items c0 ps) x

  abbrev All : List Piece → List (Hold B) → Type 0
  All ps xs = Leaves meaning fleet known olds before start (with_pieces items c0 ps) xs

  abbrev Along : List Piece → List Piece → List (Hold B) → List (Hold B) → Type 0
  Along ps more xs ys = Behind meaning fleet known olds before start items c0 ps more xs ys

  now_here : (ps : List Piece) (xs : List (Hold B)) (leaf : ℕ) (x : Hold B) → All ps xs → slice_get xs leaf ≡ Some x → (old : B) × Now leaf old ps x
  now_here ps xs leaf x now at =
      let old = also_at xs olds leaf x (now.counts.0 ∙ sym now.counts.1) at in
      (old.0, now.each leaf old.0 x old.1 at)

  -- ---- one piece

  -- the leaf that it touches goes on, and it is of no other
  touches : (ps : List Piece) (xs : List (Hold B)) (here : ℕ) (x y : Hold B) (p : Piece) → All ps xs → slice_get xs here ≡ Some x
      → ((old : B) → Now here old ps x → Now here old (ps ++ p ∷ []) y)
      → ((leaf : ℕ) → (here ≡ leaf → ⊥) → IsOthers leaf p)
      → All (ps ++ p ∷ []) (slice_set xs here y)
  touches ps xs here x y p now at step others = record {
    counts = (now.counts.0, length_set xs here y ∙ now.counts.1);
    each = λ leaf old z at_old at_z. by leaf old z at_old at_z (here == leaf) refl;
  }
    where
      by : (leaf : ℕ) (old : B) (z : Hold B) → slice_get olds leaf ≡ Some old → slice_get (slice_set xs here y) leaf ≡ Some z
          → (b : Bool) → (here == leaf) ≡ b → Now leaf old (ps ++ p ∷ []) z
      by leaf old z at_old at_z true e =
          let same : here ≡ leaf = eqb-true here leaf e in
          let there : slice_get (slice_set xs here y) here ≡ Some z = subst (λ (n : ℕ). slice_get (slice_set xs here y) n ≡ Some z) (sym same) at_z in
          let is : y ≡ z = same_some y z (sym (get_set_same xs here x y at) ∙ there) in
          subst (λ (n : ℕ). Now n old (ps ++ p ∷ []) z) same
          (subst (λ (w : Hold B). Now here old (ps ++ p ∷ []) w) is
          (step old (now.each here old x (subst (λ (n : ℕ). slice_get olds n ≡ Some old) (sym same) at_old) at)))
      by leaf old z at_old at_z false e =
          let other = eqb-false here leaf e in
          leaf_others meaning leaf fleet.names (known leaf) (meaning old) before (start leaf) items c0 ps z p
          (others leaf other) (now.each leaf old z at_old (sym (get_set_other xs here leaf y other) ∙ at_z))

  calls : (ps : List Piece) (xs : List (Hold B)) (leaf table : ℕ) (c : Call) (x : Hold B) (callers : List (Option SeatView)) (p : Piece)
      → All ps xs → slice_get xs leaf ≡ Some x → CallStep leaf table c x.tables x.callers p callers
      → Along ps (p ∷ []) xs (slice_set xs leaf (with_callers x callers))
  calls ps xs leaf table c x callers p now at step =
      let y : Hold B = with_callers x callers in
      let here = now_here ps xs leaf x now at in
      let is = piece_of_call meaning leaf fleet.names (known leaf) (meaning here.0) before (start leaf) (with_pieces items c0 ps) table c x.tables x.callers callers p step in
      let tables : length x.tables ≡ length fleet.names = sym (length_mapped name_of x.tables) ∙ ap (λ (ns : List (List ℕ)). length ns) here.1.named in
      let below : table < length fleet.names = subst (λ (n : ℕ). table < n) tables (within x.tables table step.shared step.at) in
      record {
        leaves = touches ps xs leaf x y p now at
            (λ old was. leaf_calls meaning leaf fleet.names (known leaf) (meaning old) before (start leaf) items c0 ps x table c p callers was step)
            (λ l other. of_call (IsOthers l) leaf table c p (λ n said. differs leaf l other) (differs leaf l other) is);
        becomes = touched xs leaf x y at
            (call_grows meaning leaf fleet.names (known leaf) (meaning here.0) before (start leaf) (with_pieces items c0 ps) x table c p callers here.1 step);
        worn = λ histories on. (
          call_worn meaning leaf fleet.names (known leaf) (meaning here.0) before (start leaf) (with_pieces items c0 ps) x table c p callers histories here.1 step
              (λ place. goes_on_here (slice_set xs leaf y) leaf y histories (get_set_same xs leaf x y at) on place),
          tt,
        );
        within_are = (of_call (IsWithin (length fleet.names)) leaf table c p (λ n said. below) tt is, tt);
        alone = λ l z at_z none. (of_call (IsNoDeed l) leaf table c p (λ n said. tt) tt is, tt);
      }

  acts : (ps : List Piece) (xs : List (Hold B)) (leaf : ℕ) (deed : Deed) (x : Hold B) (l l' : Leaf) (b b' : B) (callers : List (Option SeatView)) (p : Piece)
      → All ps xs → slice_get xs leaf ≡ Some x → x.held ≡ Some (l, b) → DeedStep leaf deed (meaning b) (meaning b') l x.callers p l' callers
      → Along ps (p ∷ []) xs (slice_set xs leaf (with_leaf x l' b' callers))
  acts ps xs leaf deed x l l' b b' callers p now at held step =
      let y : Hold B = with_leaf x l' b' callers in
      let here = now_here ps xs leaf x now at in
      record {
        leaves = touches ps xs leaf x y p now at
            (λ old was. leaf_acts meaning leaf fleet.names (known leaf) (meaning old) before (start leaf) items c0 ps x deed l l' b b' p callers was held step)
            (λ m other. subst (λ (q : Piece). IsOthers m q) (sym step.piece_is) (differs leaf m other));
        becomes = touched xs leaf x y at
            (deed_grows meaning leaf fleet.names (known leaf) (meaning here.0) before (start leaf) (with_pieces items c0 ps) x deed l l' b b' p callers here.1 held step);
        worn = λ histories on. (
          deed_worn meaning leaf fleet.names (known leaf) (meaning here.0) before (start leaf) (with_pieces items c0 ps) x deed l l' b b' p callers histories here.1 held step
              (λ place. goes_on_here (slice_set xs leaf y) leaf y histories (get_set_same xs leaf x y at) on place),
          tt,
        );
        within_are = (subst (λ (q : Piece). IsWithin (length fleet.names) q) (sym step.piece_is) tt, tt);
        alone = λ m z at_z none. (
          subst (λ (q : Piece). IsNoDeed m q) (sym step.piece_is) (differs leaf m (held_elsewhere xs leaf m x z (l, b) at held at_z none)),
          tt,
        );
      }

  says : (ps : List Piece) (xs : List (Hold B)) (l : Line) → All ps xs → Along ps (Says l ∷ []) xs xs
  says ps xs l now = record {
    leaves = record {
      counts = now.counts;
      each = λ leaf old x at_old at. leaf_others meaning leaf fleet.names (known leaf) (meaning old) before (start leaf) items c0 ps x (Says l) tt (now.each leaf old x at_old at);
    };
    becomes = becomes_self;
    worn = λ histories on. (tt, tt);
    within_are = (tt, tt);
    alone = λ leaf x at none. (tt, tt);
  }

  -- ---- several of them

  nothing : (ps : List Piece) (xs : List (Hold B)) → All ps xs → Along ps [] xs xs
  nothing ps xs now = record {
    leaves = subst (λ (qs : List Piece). All qs xs) (sym (append-nil ps)) now;
    becomes = becomes_self;
    worn = λ histories on. tt;
    within_are = tt;
    alone = λ leaf x at none. tt;
  }

  joined : (ps some others : List Piece) (xs ys zs : List (Hold B)) → Along ps some xs ys → Along (ps ++ some) others ys zs → Along ps (some ++ others) xs zs
  joined ps some others xs ys zs first then = record {
    leaves = subst (λ (qs : List Piece). All qs zs) (append_assoc ps some others) then.leaves;
    becomes = becomes_still first.becomes then.becomes;
    worn = λ histories on. All-append (WornIsLong histories) some others (first.worn histories (went_back histories then.becomes.grow on)) (then.worn histories on);
    within_are = All-append (IsWithin (length fleet.names)) some others first.within_are then.within_are;
    alone = alone_on some others first.becomes first.alone then.alone;
  }

  goes_on : (xs : List (Hold B)) (more : List Piece) (ys : List (Hold B)) → Goes meaning xs more ys → (ps : List Piece) → All ps xs → Along ps more xs ys
  goes_on xs more ys (going.none ws qs zs empty same) ps now =
      subst (λ (qs : List Piece). Along ps qs xs ys) (sym empty)
      (subst (λ (zs : List (Hold B)). Along ps [] xs zs) (sym same) (nothing ps xs now))
  goes_on xs more ys (going.call ws qs zs leaf table c x callers p others at step rest is) ps now =
      let y : Hold B = with_callers x callers in
      let first = calls ps xs leaf table c x callers p now at step in
      subst (λ (qs : List Piece). Along ps qs xs ys) (sym is)
      (joined ps (p ∷ []) others xs (slice_set xs leaf y) ys first (goes_on (slice_set xs leaf y) others ys rest (ps ++ p ∷ []) first.leaves))
  goes_on xs more ys (going.act ws qs zs leaf deed x l l' b b' callers p others at held step rest is) ps now =
      let y : Hold B = with_leaf x l' b' callers in
      let first = acts ps xs leaf deed x l l' b b' callers p now at held step in
      subst (λ (qs : List Piece). Along ps qs xs ys) (sym is)
      (joined ps (p ∷ []) others xs (slice_set xs leaf y) ys first (goes_on (slice_set xs leaf y) others ys rest (ps ++ p ∷ []) first.leaves))
  goes_on xs more ys (going.say ws qs zs l others rest is) ps now =
      let first = says ps xs l now in
      subst (λ (qs : List Piece). Along ps qs xs ys) (sym is)
      (joined ps (Says l ∷ []) others xs xs ys first (goes_on xs others ys rest (ps ++ Says l ∷ []) first.leaves))

  -- those of a command that begins
  pub command_goes : (xs : List (Hold B)) (pieces : List Piece) (ys : List (Hold B)) → Leaves meaning fleet known olds before start items xs → Goes meaning xs pieces ys
      → Along [] pieces xs ys
  command_goes xs pieces ys now goes = goes_on xs pieces ys goes [] (record {
    counts = now.counts;
    each = λ leaf old x at_old at. leaf_opens meaning leaf fleet.names (known leaf) (meaning old) before (start leaf) items c0 x (now.each leaf old x at_old at);
  })
