-- Lines of several seats at one table, put together.
use Rattle.std.proofs.Common.{◌≡◌, ◌⊎◌, inl, inr, ℕ, suc, ◌+◌, ◌≤◌, List, [], ◌∷◌, ◌++◌, length, refl, sym, ap, subst, ◌∙◌, arith, IsPermutation}
use Rattle.std.specs.List.{AllByRecursion}
use Rattle.std.proofs.lemmas.List.Sorted.{IsPermutation-refl, IsPermutation-cons, IsPermutation-middle, IsPermutation-trans, length_permutation}
use Rattle.leaf_history.specs.History.{Entry}
use Rattle.transcript.specs.Histories.{Rises, Shown, Tells}
use Rattle.transcript_leaf.specs.Session.{TellsOf}

-- ---- owners of ids

-- the ids of O are those of P
abbrev pub SameAll : (ℕ → Type 0) → (ℕ → Type 0) → Type 0
SameAll O P = (id : ℕ) → (O id → P id) × (P id → O id)

-- the ids of Q are those of O and those of P
abbrev pub AreBoth : (ℕ → Type 0) → (ℕ → Type 0) → (ℕ → Type 0) → Type 0
AreBoth O P Q = SameAll Q (λ id. O id ⊎ P id)

-- no entry is the owner's
abbrev pub AreOthers : (ℕ → Type 0) → List Entry → Type 0
AreOthers O es = AllByRecursion (λ (e : Entry). O e.caller → ⊥) es

pub all_refl : (O : ℕ → Type 0) → SameAll O O
all_refl O = λ id. (λ o. o, λ o. o)

pub all_back : (O P : ℕ → Type 0) → SameAll O P → SameAll P O
all_back O P same = λ id. ((same id).1, (same id).0)

pub all_then : (O P Q : ℕ → Type 0) → SameAll O P → SameAll P Q → SameAll O Q
all_then O P Q a b = λ id. (λ o. (b id).0 ((a id).0 o), λ q. (a id).1 ((b id).1 q))

pub all_swap : (O P : ℕ → Type 0) → SameAll (λ id. O id ⊎ P id) (λ id. P id ⊎ O id)
all_swap O P = λ id. (swap O P id, swap P O id)
  where
    swap : (O P : ℕ → Type 0) (id : ℕ) → O id ⊎ P id → P id ⊎ O id
    swap O P id (inl o) = inr o
    swap O P id (inr p) = inl p

either : (O P O' P' : ℕ → Type 0) (id : ℕ) → (O id → P id) → (O' id → P' id) → O id ⊎ O' id → P id ⊎ P' id
either O P O' P' id a b (inl o) = inl (a o)
either O P O' P' id a b (inr o) = inr (b o)

pub all_sum : (O P O' P' : ℕ → Type 0) → SameAll O P → SameAll O' P' → SameAll (λ id. O id ⊎ O' id) (λ id. P id ⊎ P' id)
all_sum O P O' P' a b = λ id. (either O P O' P' id (a id).0 (b id).0, either P O P' O' id (a id).1 (b id).1)

-- two owners of each
pub both_sum : (O P Q O' P' Q' : ℕ → Type 0) → AreBoth O P Q → AreBoth O' P' Q' → AreBoth (λ id. O id ⊎ O' id) (λ id. P id ⊎ P' id) (λ id. Q id ⊎ Q' id)
both_sum O P Q O' P' Q' a b = λ id. (λ q. to id (either Q (λ i. O i ⊎ P i) Q' (λ i. O' i ⊎ P' i) id (a id).0 (b id).0 q), λ o. either (λ i. O i ⊎ P i) Q (λ i. O' i ⊎ P' i) Q' id (a id).1 (b id).1 (from id o))
  where
    to : (id : ℕ) → (O id ⊎ P id) ⊎ (O' id ⊎ P' id) → (O id ⊎ O' id) ⊎ (P id ⊎ P' id)
    to id (inl (inl o)) = inl (inl o)
    to id (inl (inr p)) = inr (inl p)
    to id (inr (inl o)) = inl (inr o)
    to id (inr (inr p)) = inr (inr p)

    from : (id : ℕ) → (O id ⊎ O' id) ⊎ (P id ⊎ P' id) → (O id ⊎ P id) ⊎ (O' id ⊎ P' id)
    from id (inl (inl o)) = inl (inl o)
    from id (inl (inr o)) = inr (inl o)
    from id (inr (inl p)) = inl (inr p)
    from id (inr (inr p)) = inr (inr p)

neither : (O P : ℕ → Type 0) (id : ℕ) → (O id → ⊥) → (P id → ⊥) → O id ⊎ P id → ⊥
neither O P id a b (inl o) = a o
neither O P id a b (inr p) = b p

pub others_append : (O : ℕ → Type 0) (xs ys : List Entry) → AreOthers O xs → AreOthers O ys → AreOthers O (xs ++ ys)
others_append O [] ys g h = h
others_append O (x ∷ xs) ys g h = (g.0, others_append O xs ys g.1 h)

pub others_weaken : (O P : ℕ → Type 0) (xs : List Entry) → ((id : ℕ) → P id → O id) → AreOthers O xs → AreOthers P xs
others_weaken O P [] to h = tt
others_weaken O P (x ∷ xs) to h = ((λ p. h.0 (to x.caller p)), others_weaken O P xs to h.1)

-- nobody's
pub others_none : (xs : List Entry) → AreOthers (λ id. ⊥) xs
others_none [] = tt
others_none (x ∷ xs) = ((λ none. none), others_none xs)

-- ---- lines that tell entries

-- what two owners' lines tell, told together
pub record Merged (O P : ℕ → Type 0) (n : ℕ) (xs ys : List Shown) (es : List Entry) : Type 0 where
  pub lines : List Shown
  pub same : IsPermutation (xs ++ ys) lines
  pub tells : TellsOf (λ id. O id ⊎ P id) n lines es

pub tells_merge : (O P : ℕ → Type 0) (n : ℕ) (xs ys : List Shown) (es : List Entry)
    → ((id : ℕ) → O id → P id → ⊥) → TellsOf O n xs es → TellsOf P n ys es → Merged O P n xs ys es
tells_merge O P n xs ys [] apart g h = record { lines = []; same = rw (g, h) (IsPermutation-refl []); tells = refl }
tells_merge O P n xs ys (e ∷ es) apart (inl g) (inl h) =
    let rest = tells_merge O P (suc n) xs ys es apart g.1 h.1 in
    record { lines = rest.lines; same = rest.same; tells = inl (neither O P e.caller g.0 h.0, rest.tells) }
tells_merge O P n xs ys (e ∷ es) apart (inr g) (inl h) =
    let rest = tells_merge O P (suc n) g.2 ys es apart g.6 h.1 in
    record {
      lines = g.1 ∷ rest.lines;
      same = subst (λ (zs : List Shown). IsPermutation (zs ++ ys) (g.1 ∷ rest.lines)) (sym g.3) (IsPermutation-cons g.1 (g.2 ++ ys) rest.lines rest.same);
      tells = inr (inl g.0, g.1, rest.lines, refl, g.4, g.5, rest.tells);
    }
tells_merge O P n xs ys (e ∷ es) apart (inl g) (inr h) =
    let rest = tells_merge O P (suc n) xs h.2 es apart g.1 h.6 in
    record {
      lines = h.1 ∷ rest.lines;
      same = subst (λ (zs : List Shown). IsPermutation (xs ++ zs) (h.1 ∷ rest.lines)) (sym h.3)
          (IsPermutation-trans (xs ++ h.1 ∷ h.2) (h.1 ∷ (xs ++ h.2)) (h.1 ∷ rest.lines) (IsPermutation-middle xs h.1 h.2) (IsPermutation-cons h.1 (xs ++ h.2) rest.lines rest.same));
      tells = inr (inr h.0, h.1, rest.lines, refl, h.4, h.5, rest.tells);
    }
tells_merge O P n xs ys (e ∷ es) apart (inr g) (inr h) = absurd (apart e.caller g.0 h.0)

-- entries that are none of the owner's need no line
pub tells_others : (O : ℕ → Type 0) (n : ℕ) (xs : List Shown) (es fs : List Entry) → TellsOf O n xs es → AreOthers O fs → TellsOf O n xs (es ++ fs)
tells_others O n xs [] [] g h = g
tells_others O n xs [] (f ∷ fs) g h = inl (h.0, tells_others O (suc n) xs [] fs g h.1)
tells_others O n xs (e ∷ es) fs (inl g) h = inl (g.0, tells_others O (suc n) xs es fs g.1 h)
tells_others O n xs (e ∷ es) fs (inr g) h = inr (g.0, g.1, g.2, g.3, g.4, g.5, tells_others O (suc n) g.2 es fs g.6 h)

-- where each entry is the owner's, the lines tell all of them
pub tells_all : (O : ℕ → Type 0) (n : ℕ) (xs : List Shown) (es : List Entry) → TellsOf O n xs es → AllByRecursion (λ (e : Entry). O e.caller) es → Tells n xs es
tells_all O n xs [] g h = subst (λ (zs : List Shown). Tells n zs []) (sym g) tt
tells_all O n xs (e ∷ es) (inl g) h = absurd (g.0 h.0)
tells_all O n xs (e ∷ es) (inr g) h = subst (λ (zs : List Shown). Tells n zs (e ∷ es)) (sym g.3) (g.4, g.5, tells_all O (suc n) g.2 es g.6 h.1)

-- it is a matter of the ids alone
pub tells_same : (O P : ℕ → Type 0) (n : ℕ) (xs : List Shown) (es : List Entry) → SameAll O P → TellsOf O n xs es → TellsOf P n xs es
tells_same O P n xs [] same g = g
tells_same O P n xs (e ∷ es) same (inl g) = inl ((λ p. g.0 ((same e.caller).1 p)), tells_same O P (suc n) xs es same g.1)
tells_same O P n xs (e ∷ es) same (inr g) = inr ((same e.caller).0 g.0, g.1, g.2, g.3, g.4, g.5, tells_same O P (suc n) g.2 es same g.6)

-- more ids, of which no entry is one
pub tells_wider : (U O : ℕ → Type 0) (n : ℕ) (xs : List Shown) (es : List Entry) → AreOthers U es → TellsOf O n xs es → TellsOf (λ id. U id ⊎ O id) n xs es
tells_wider U O n xs [] none g = g
tells_wider U O n xs (e ∷ es) none (inl g) = inl (neither U O e.caller none.0 g.0, tells_wider U O (suc n) xs es none.1 g.1)
tells_wider U O n xs (e ∷ es) none (inr g) = inr (inr g.0, g.1, g.2, g.3, g.4, g.5, tells_wider U O (suc n) g.2 es none.1 g.6)

plus_zero : (n : ℕ) → n + 0 ≡ n
plus_zero n = omega arith

plus_suc : (n k : ℕ) → n + suc k ≡ suc n + k
plus_suc n k = omega arith

-- more lines tell more entries
pub tells_append : (O : ℕ → Type 0) (n : ℕ) (xs ys : List Shown) (es fs : List Entry) → TellsOf O n xs es → TellsOf O (n + length es) ys fs → TellsOf O n (xs ++ ys) (es ++ fs)
tells_append O n xs ys [] fs g h = subst (λ (zs : List Shown). TellsOf O n (zs ++ ys) fs) (sym g) (subst (λ (k : ℕ). TellsOf O k ys fs) (plus_zero n) h)
tells_append O n xs ys (e ∷ es) fs (inl g) h = inl (g.0, tells_append O (suc n) xs ys es fs g.1 (subst (λ (k : ℕ). TellsOf O k ys fs) (plus_suc n (length es)) h))
tells_append O n xs ys (e ∷ es) fs (inr g) h =
    inr (g.0, g.1, g.2 ++ ys, ap (λ (zs : List Shown). zs ++ ys) g.3, g.4, g.5, tells_append O (suc n) g.2 ys es fs g.6 (subst (λ (k : ℕ). TellsOf O k ys fs) (plus_suc n (length es)) h))

-- and back
pub record Split (O : ℕ → Type 0) (n : ℕ) (zs : List Shown) (es fs : List Entry) : Type 0 where
  pub front : List Shown
  pub rest : List Shown
  pub both : zs ≡ front ++ rest
  pub tells : TellsOf O n front es
  pub tells_rest : TellsOf O (n + length es) rest fs

pub tells_split : (O : ℕ → Type 0) (n : ℕ) (zs : List Shown) (es fs : List Entry) → TellsOf O n zs (es ++ fs) → Split O n zs es fs
tells_split O n zs [] fs g = record { front = []; rest = zs; both = refl; tells = refl; tells_rest = subst (λ (k : ℕ). TellsOf O k zs fs) (sym (plus_zero n)) g }
tells_split O n zs (e ∷ es) fs (inl g) =
    let s = tells_split O (suc n) zs es fs g.1 in
    record { front = s.front; rest = s.rest; both = s.both; tells = inl (g.0, s.tells); tells_rest = subst (λ (k : ℕ). TellsOf O k s.rest fs) (sym (plus_suc n (length es))) s.tells_rest }
tells_split O n zs (e ∷ es) fs (inr g) =
    let s = tells_split O (suc n) g.2 es fs g.6 in
    record {
      front = g.1 ∷ s.front;
      rest = s.rest;
      both = g.3 ∙ ap (λ (xs : List Shown). g.1 ∷ xs) s.both;
      tells = inr (g.0, g.1, s.front, refl, g.4, g.5, s.tells);
      tells_rest = subst (λ (k : ℕ). TellsOf O k s.rest fs) (sym (plus_suc n (length es))) s.tells_rest;
    }

-- of nothing nothing is told
pub tells_nothing : (O : ℕ → Type 0) (n : ℕ) (ss : List Shown) (es : List Entry) → es ≡ [] → TellsOf O n ss es → ss ≡ []
tells_nothing O n ss [] x h = h
tells_nothing O n ss (y ∷ ys) x h = absurd cc

-- where there are no lines, none of the entries is the owner's
pub tells_none : (O : ℕ → Type 0) (n : ℕ) (ss : List Shown) (es : List Entry) → ss ≡ [] → TellsOf O n ss es → AreOthers O es
tells_none O n ss [] none h = tt
tells_none O n ss (e ∷ es) none (inl h) = (h.0, tells_none O (suc n) ss es none h.1)
tells_none O n ss (e ∷ es) none (inr h) = absurd (clash h.1 h.2 ss none h.3)
  where
    clash : (s : Shown) (rest ss : List Shown) → ss ≡ [] → ss ≡ s ∷ rest → ⊥
    clash s rest ss a b = cc

-- the entries of others at the front need no line either
pub tells_past : (O : ℕ → Type 0) (n : ℕ) (ss : List Shown) (bs es : List Entry) → AreOthers O bs → TellsOf O (n + length bs) ss es → TellsOf O n ss (bs ++ es)
tells_past O n ss bs es others h = tells_append O n [] ss bs es (tells_others O n [] [] bs refl others) h

-- lines that are as many as none
pub empty_permutation : (xs ys : List Shown) → ys ≡ [] → IsPermutation xs ys → xs ≡ []
empty_permutation [] ys none h = refl
empty_permutation (x ∷ xs) ys none h = absurd (omega (arith, length_permutation (x ∷ xs) ys h, ap (λ (ss : List Shown). length ss) none))

-- ---- numbers that rise

pub rises_most : (low high : ℕ) (ss : List Shown) → Rises low ss high → low ≤ high
rises_most low high [] h = h
rises_most low high (s ∷ ss) h = let further = rises_most s.number high ss h.1 in omega (arith, h.0, further)

pub rises_lower : (low low' : ℕ) (ss : List Shown) (high : ℕ) → low ≤ low' → Rises low' ss high → Rises low ss high
rises_lower low low' [] high l h = omega (arith, l, h)
rises_lower low low' (s ∷ ss) high l h = (omega (arith, l, h.0), h.1)

pub rises_higher : (low : ℕ) (ss : List Shown) (high high' : ℕ) → high ≤ high' → Rises low ss high → Rises low ss high'
rises_higher low [] high high' l h = omega (arith, l, h)
rises_higher low (s ∷ ss) high high' l h = (h.0, rises_higher s.number ss high high' l h.1)

pub rises_append : (low middle high : ℕ) (xs ys : List Shown) → Rises low xs middle → Rises middle ys high → Rises low (xs ++ ys) high
rises_append low middle high [] ys g h = rises_lower low middle ys high g h
rises_append low middle high (x ∷ xs) ys g h = (g.0, rises_append x.number middle high xs ys g.1 h)

-- the numbers of lines that tell entries rise
pub tells_rises : (O : ℕ → Type 0) (n : ℕ) (ss : List Shown) (es : List Entry) → TellsOf O (suc n) ss es → Rises n ss (n + length es)
tells_rises O n ss [] h = subst (λ (xs : List Shown). Rises n xs (n + 0)) (sym h) (no_less n 0)
  where
    no_less : (n k : ℕ) → n ≤ n + k
    no_less n k = omega arith
tells_rises O n ss (e ∷ es) (inl h) =
    rises_lower n (suc n) ss (n + suc (length es)) (omega arith) (subst (λ (k : ℕ). Rises (suc n) ss k) (sym (plus_suc n (length es))) (tells_rises O (suc n) ss es h.1))
tells_rises O n ss (e ∷ es) (inr h) =
    subst (λ (xs : List Shown). Rises n xs (n + suc (length es))) (sym h.3) (
      omega (arith, h.4),
      subst (λ (k : ℕ). Rises k h.2 (n + suc (length es))) (sym h.4)
          (subst (λ (k : ℕ). Rises (suc n) h.2 k) (sym (plus_suc n (length es))) (tells_rises O (suc n) h.2 es h.6)),
    )
