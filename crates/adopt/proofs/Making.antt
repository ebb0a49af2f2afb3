-- Things made one after another of the columns that are left.
use Rattle.std.proofs.Common.{◌≡◌, ℕ, List, [], ◌∷◌, ◌++◌, sym, ap, subst, ◌∙◌, append_assoc}
use Rattle.std.specs.List.{AllByRecursion}
use Rattle.adopt.specs.Finishing.{MadeSoFar, left_by, made_from}

module _ {T M : Type 0} (one : T → List (List ℕ) → M) (after : T → List (List ℕ) → List (List ℕ)) (P : M → Type 0) where
  pub begins : (all : List T) (columns : List (List ℕ)) (made : List M) (rest : List T) (left : List (List ℕ)) → made ≡ [] → rest ≡ all → left ≡ columns → MadeSoFar one after P all columns made rest left
  begins all columns made rest left none same own = record {
    made_is = ap (λ (l : List M). l ++ made_from one after rest left) none ∙ ap (λ (l : List T). made_from one after l left) same ∙ ap (made_from one after all) own;
    left_is = ap (λ (l : List T). left_by after l left) same ∙ ap (left_by after all) own;
    each = subst (AllByRecursion P) (sym none) tt;
  }

  each_last : (made : List M) (m : M) → AllByRecursion P made → P m → AllByRecursion P (made ++ m ∷ [])
  each_last [] m each here = (here, tt)
  each_last (x ∷ made) m each here = (each.0, each_last made m each.1 here)

  each_next : (made more : List M) → AllByRecursion P (made ++ more) → AllByRecursion P more
  each_next [] more each = each
  each_next (x ∷ made) more each = each_next made more each.1

  module _ (all : List T) (columns : List (List ℕ)) (made : List M) (rest : List T) (left : List (List ℕ)) (so_far : MadeSoFar one after P all columns made rest left) where
    module _ (t : T) (others : List T) (next : rest ≡ t ∷ others) where
      here : made ++ one t left ∷ made_from one after others (after t left) ≡ made_from one after all columns
      here = subst (λ (l : List T). made ++ made_from one after l left ≡ made_from one after all columns) next so_far.made_is

      pub goes_on : (m : M) (now : List M) (still : List (List ℕ)) → m ≡ one t left → P m → now ≡ made ++ m ∷ [] → still ≡ after t left → MadeSoFar one after P all columns now others still
      goes_on m now still is has put own = record {
        made_is =
            ap (λ (l : List M). l ++ made_from one after others still) put
            ∙ append_assoc made (m ∷ []) (made_from one after others still)
            ∙ ap (λ (x : M). made ++ x ∷ made_from one after others still) is
            ∙ ap (λ (l : List (List ℕ)). made ++ one t left ∷ made_from one after others l) own
            ∙ here;
        left_is = ap (left_by after others) own ∙ subst (λ (l : List T). left_by after l left ≡ left_by after all columns) next so_far.left_is;
        each = subst (AllByRecursion P) (sym put) (each_last made m so_far.each has);
      }

      pub refuses : (P (one t left) → ⊥) → AllByRecursion P (made_from one after all columns) → ⊥
      refuses fails each = fails (each_next made (one t left ∷ made_from one after others (after t left)) (subst (AllByRecursion P) (sym here) each)).0
