-- What is marked of lanes, one command and one lane after another.
use Rattle.std.proofs.Common.{◌≡◌, ◌<◌, ◌≤◌, ◌==◌, ◌+◌, ◌++◌, ◌||◌, ℕ, zero, suc, List, [], ◌∷◌, length, take, refl, ap, sym, ◌∙◌, arith, Bool, true, false, true≢false, subst, eq-eqb}
use Rattle.std.specs.Prelude.{slice_index_or, slice_set}
use Rattle.std.specs.List.{list_any}
use Rattle.std.proofs.lemmas.Bool.{eqb-true}
use Rattle.std.proofs.lemmas.List.{get_or-set_other, get_or-set_same, take_more}
use Rattle.std.proofs.lemmas.List.Folds.{list_any-append}
use Rattle.script_text.specs.declared.command.Command.{Command}
use Rattle.script_text.specs.declared.marks.StewardMarks.{StewardMarks}
use Rattle.script_text.specs.Aims.{Aim, AtLeaf, AtLeaves, aim_of, is_for_some_steward, is_for_steward}
use Rattle.script_text.specs.Marks.{AreMarked, SameMarks, MarkIsSet, Marks, is_marked}
use Rattle.script_text.specs.Stewards.{has_steward, has_stewards, is_a_stewards, is_stewards}
use Rattle.script_text.proofs.Aimed.{some_stewards_by, stewards_by}

-- ---- marks by place

pub beyond : (marks : List Bool) (place : ℕ) → length marks ≤ place → slice_index_or marks place false ≡ false
beyond [] place past = refl
beyond (m ∷ marks) zero past = absurd (omega (arith, past))
beyond (m ∷ marks) (suc place) past = beyond marks place (omega (arith, past))

pub reach_none : (marks : List Bool) → SameMarks marks marks
reach_none marks place = refl

one_more : (marks : List Bool) (place : ℕ) → slice_index_or (marks ++ false ∷ []) place false ≡ slice_index_or marks place false
one_more [] zero = refl
one_more [] (suc place) = refl
one_more (m ∷ marks) zero = refl
one_more (m ∷ marks) (suc place) = one_more marks place

pub reach_more : (old marks more : List Bool) → SameMarks old marks → more ≡ marks ++ false ∷ [] → SameMarks old more
reach_more old marks more same is place = ap (λ (ms : List Bool). slice_index_or ms place false) is ∙ one_more marks place ∙ same place

or_true : (b : Bool) → true ≡ (b || true)
or_true true = refl
or_true false = refl

or_false : (b : Bool) → b ≡ (b || false)
or_false true = refl
or_false false = refl

or_assoc : (a b c : Bool) → ((a || b) || c) ≡ (a || (b || c))
or_assoc true b c = refl
or_assoc false b c = refl

set_one : (marks : List Bool) (place : ℕ) → place < length marks → MarkIsSet marks place (slice_set marks place true)
set_one marks place below other = by (place == other) refl
  where
    by : (b : Bool) → (place == other) ≡ b → slice_index_or (slice_set marks place true) other false ≡ (slice_index_or marks other false || b)
    by true e =
        let here : slice_index_or (slice_set marks place true) place false ≡ (slice_index_or marks place false || true) = get_or-set_same marks place true false below ∙ or_true (slice_index_or marks place false) in
        subst (λ i. slice_index_or (slice_set marks place true) i false ≡ (slice_index_or marks i false || true)) (eqb-true place other e) here
    by false e = get_or-set_other marks place other true false (λ same. true≢false (sym (eq-eqb place other (sym same)) ∙ e)) ∙ or_false (slice_index_or marks other false)

pub set_there : (old marks new : List Bool) (place : ℕ) → SameMarks old marks → place < length marks → new ≡ slice_set marks place true → MarkIsSet old place new
set_there old marks new place same below is other =
    ap (λ (ms : List Bool). slice_index_or ms other false) is ∙ set_one marks place below other ∙ ap (λ b. b || (place == other)) (same other)

-- ---- commands

pub none_marked : (marks : StewardMarks) → marks.leaves.items ≡ [] → marks.every ≡ false → marks.some ≡ false → AreMarked [] marks
none_marked marks leaves every some = record { each = λ leaf. rw (every, leaves); any = some }

or_mid : (e a b : Bool) → (e || (a || b)) ≡ ((e || a) || b)
or_mid true a b = refl
or_mid false a b = refl

-- one leaf
pub leaf_marked : (old new : StewardMarks) (leaf : ℕ) → MarkIsSet old.leaves.items leaf new.leaves.items → new.every ≡ old.every → new.some ≡ true → Marks old new (λ number. leaf == number) true
leaf_marked old new leaf set every some = record {
  each = λ number. rw (every, set number) (or_mid old.every (slice_index_or old.leaves.items number false) (leaf == number));
  any = some ∙ or_true old.some;
}

pub marks_nothing : (marks : StewardMarks) (c : Command) (aim : Aim) → aim ≡ aim_of c → is_for_some_steward aim ≡ false → Marks marks marks (λ leaf. is_stewards leaf c) (is_a_stewards c)
marks_nothing marks c aim is none = record {
  each = λ leaf. or_false (is_marked marks leaf) ∙ ap (λ b. is_marked marks leaf || b) (sym (stewards_by leaf c aim is ∙ never leaf aim none));
  any = or_false marks.some ∙ ap (λ b. marks.some || b) (sym (some_stewards_by c aim is ∙ none));
}
  where
    never : (leaf : ℕ) (a : Aim) → is_for_some_steward a ≡ false → is_for_steward leaf a ≡ false
    never leaf (AtLeaf number) e = absurd cc
    never leaf AtLeaves e = absurd cc
    never leaf _ e = refl

pub marks_leaf : (old new : StewardMarks) (c : Command) (leaf : ℕ) → AtLeaf leaf ≡ aim_of c → Marks old new (λ number. leaf == number) true → Marks old new (λ number. is_stewards number c) (is_a_stewards c)
marks_leaf old new c leaf is marks = record {
  each = λ number. marks.each number ∙ ap (λ b. is_marked old number || b) (sym (stewards_by number c (AtLeaf leaf) is));
  any = marks.any ∙ ap (λ b. old.some || b) (sym (some_stewards_by c (AtLeaf leaf) is));
}

pub marks_every : (old new : StewardMarks) (c : Command) → AtLeaves ≡ aim_of c → new.every ≡ true → new.some ≡ true → Marks old new (λ leaf. is_stewards leaf c) (is_a_stewards c)
marks_every old new c is every some = record {
  each = λ leaf. rw every (or_true (is_marked old leaf) ∙ ap (λ b. is_marked old leaf || b) (sym (stewards_by leaf c AtLeaves is)));
  any = some ∙ or_true old.some ∙ ap (λ b. old.some || b) (sym (some_stewards_by c AtLeaves is));
}

-- ---- lanes

pub marks_none : (marks : StewardMarks) → Marks marks marks (λ leaf. has_steward leaf []) (has_stewards [])
marks_none marks = record { each = λ leaf. or_false (is_marked marks leaf); any = or_false marks.some }

-- one command more of a lane
marks_next : (old mid new : StewardMarks) (front : List Command) (c : Command) → Marks old mid (λ leaf. has_steward leaf front) (has_stewards front) → Marks mid new (λ leaf. is_stewards leaf c) (is_a_stewards c)
    → Marks old new (λ leaf. has_steward leaf (front ++ c ∷ [])) (has_stewards (front ++ c ∷ []))
marks_next old mid new front c first next = record {
  each = λ leaf. next.each leaf ∙ ap (λ b. b || is_stewards leaf c) (first.each leaf) ∙ more (is_stewards leaf) (is_marked old leaf);
  any = next.any ∙ ap (λ b. b || is_a_stewards c) first.any ∙ more is_a_stewards old.some;
}
  where
    more : (p : Command → Bool) (b : Bool) → ((b || list_any p front) || p c) ≡ (b || list_any p (front ++ c ∷ []))
    more p b = or_assoc b (list_any p front) (p c) ∙ ap (λ d. b || d) (sym (list_any-append p front (c ∷ []) ∙ ap (λ d. list_any p front || d) (sym (or_false (p c)))))

pub marks_step : (old mid new : StewardMarks) (lane : List Command) (i : ℕ) (c : Command) → i < length lane → c ≡ slice_index_or lane i c
    → Marks old mid (λ leaf. has_steward leaf (take i lane)) (has_stewards (take i lane)) → Marks mid new (λ leaf. is_stewards leaf c) (is_a_stewards c)
    → Marks old new (λ leaf. has_steward leaf (take (i + 1) lane)) (has_stewards (take (i + 1) lane))
marks_step old mid new lane i c below is first next =
    let front : take i lane ++ c ∷ [] ≡ take (i + 1) lane = ap (λ x. take i lane ++ x ∷ []) is ∙ sym (take_more lane i c below) in
    subst (λ (cs : List Command). Marks old new (λ leaf. has_steward leaf cs) (has_stewards cs)) front (marks_next old mid new (take i lane) c first next)

-- one lane more
pub lane_marked : (lanes more : List (List Command)) (lane : List Command) (old new : StewardMarks) → AreMarked lanes old → Marks old new (λ leaf. has_steward leaf lane) (has_stewards lane) → more ≡ lanes ++ lane ∷ [] → AreMarked more new
lane_marked lanes more lane old new are marks is = subst (λ (ls : List (List Command)). AreMarked ls new) (sym is) (record {
  each = λ leaf. marks.each leaf ∙ ap (λ b. b || has_steward leaf lane) (are.each leaf) ∙ last (has_steward leaf);
  any = marks.any ∙ ap (λ b. b || has_stewards lane) are.any ∙ last has_stewards;
})
  where
    last : (p : List Command → Bool) → (list_any p lanes || p lane) ≡ list_any p (lanes ++ lane ∷ [])
    last p = sym (list_any-append p lanes (lane ∷ []) ∙ ap (λ d. list_any p lanes || d) (sym (or_false (p lane))))
