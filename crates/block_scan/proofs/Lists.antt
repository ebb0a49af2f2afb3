-- Filters, maps and ranges.
use Rattle.std.proofs.Common.{sym, subst, get_or, take, ◌≡◌, ℕ, zero, suc, ◌+◌, ◌-◌, ◌<◌, ◌≤◌, Bool, true, false, ◌&&◌, ◌||◌, cond, List, [], ◌∷◌, ◌++◌, length, map, drop, filter, refl, ap, ap₂, ◌∙◌, arith}
use Rattle.std.specs.Prelude.{Result, Ok, Err, IfOk}
use Rattle.std.proofs.lemmas.List.{take_more}
use Rattle.std.specs.List.{AllByRecursion, AllZip, list_all, list_any, range_with_len}

module _ {X : Type 0} where
  -- a test within a test
  pub both_tests : (p r : X → Bool) (xs : List X) → filter r (filter p xs) ≡ filter (λ x. p x && r x) xs
  both_tests p r [] = refl
  both_tests p r (x ∷ xs) = by (p x) (both_tests p r xs)
    where
      by : (b : Bool) → filter r (filter p xs) ≡ filter (λ x. p x && r x) xs → filter r (cond b (x ∷ filter p xs) (filter p xs)) ≡ cond (b && r x) (x ∷ filter (λ x. p x && r x) xs) (filter (λ x. p x && r x) xs)
      by true rest = ap (λ (l : List X). cond (r x) (x ∷ l) l) rest
      by false rest = rest

  -- a weaker test takes nothing from what passes a test
  pub weaker_test : (p r : X → Bool) → ((x : X) → r x ≡ true → p x ≡ true) → (xs : List X) → filter r (filter p xs) ≡ filter r xs
  weaker_test p r weaker [] = refl
  weaker_test p r weaker (x ∷ xs) = by (p x) (r x) refl (weaker x) (weaker_test p r weaker xs)
    where
      by : (b c : Bool) → r x ≡ c → (c ≡ true → b ≡ true) → filter r (filter p xs) ≡ filter r xs → filter r (cond b (x ∷ filter p xs) (filter p xs)) ≡ cond c (x ∷ filter r xs) (filter r xs)
      by true c e w rest = ap (λ (d : Bool). cond d (x ∷ filter r (filter p xs)) (filter r (filter p xs))) e ∙ ap (λ (l : List X). cond c (x ∷ l) l) rest
      by false false e w rest = rest
      by false true e w rest = let no = w refl in absurd cc

  pub no_longer : (p : X → Bool) (xs : List X) → length (filter p xs) ≤ length xs
  no_longer p [] = omega arith
  no_longer p (x ∷ xs) = by (p x) (no_longer p xs)
    where
      by : (b : Bool) → length (filter p xs) ≤ length xs → length (cond b (x ∷ filter p xs) (filter p xs)) ≤ suc (length xs)
      by true rest = omega (arith, rest)
      by false rest = omega (arith, rest)

  pub none_passes : (p : X → Bool) (xs : List X) → AllByRecursion (λ x. p x ≡ false) xs → filter p xs ≡ []
  none_passes p [] none = refl
  none_passes p (x ∷ xs) none = ap (λ (b : Bool). cond b (x ∷ filter p xs) (filter p xs)) none.0 ∙ none_passes p xs none.1

  pub all_pass : (p : X → Bool) (xs : List X) → list_all p xs ≡ true → filter p xs ≡ xs
  all_pass p [] e = refl
  all_pass p (x ∷ xs) e = by (p x) (all_pass p xs) e
    where
      by : (b : Bool) → (list_all p xs ≡ true → filter p xs ≡ xs) → (b && list_all p xs) ≡ true → cond b (x ∷ filter p xs) (filter p xs) ≡ x ∷ xs
      by true rest f = ap (λ (l : List X). x ∷ l) (rest f)
      by false rest f = absurd cc

  pub filter_true : (xs : List X) → filter (λ x. true) xs ≡ xs
  filter_true [] = refl
  filter_true (x ∷ xs) = ap (λ (l : List X). x ∷ l) (filter_true xs)

  -- tests that agree where a fact holds
  pub filter_alike : (P : X → Type 0) (p r : X → Bool) → ((x : X) → P x → p x ≡ r x) → (xs : List X) → AllByRecursion P xs → filter p xs ≡ filter r xs
  filter_alike P p r same [] all = refl
  filter_alike P p r same (x ∷ xs) all =
      ap (λ (b : Bool). cond b (x ∷ filter p xs) (filter p xs)) (same x all.0) ∙ ap (λ (l : List X). cond (r x) (x ∷ l) l) (filter_alike P p r same xs all.1)

  pub all_filter : (P : X → Type 0) (p : X → Bool) (xs : List X) → AllByRecursion P xs → AllByRecursion P (filter p xs)
  all_filter P p [] all = tt
  all_filter P p (x ∷ xs) all = by (p x) (all_filter P p xs all.1)
    where
      by : (b : Bool) → AllByRecursion P (filter p xs) → AllByRecursion P (cond b (x ∷ filter p xs) (filter p xs))
      by true rest = (all.0, rest)
      by false rest = rest

  pub all_drop : (P : X → Type 0) (n : ℕ) (xs : List X) → AllByRecursion P xs → AllByRecursion P (drop n xs)
  all_drop P zero xs all = all
  all_drop P (suc n) [] all = tt
  all_drop P (suc n) (x ∷ xs) all = all_drop P n xs all.1

  pub all_weaker : (P Q : X → Type 0) → ((x : X) → P x → Q x) → (xs : List X) → AllByRecursion P xs → AllByRecursion Q xs
  all_weaker P Q more [] all = tt
  all_weaker P Q more (x ∷ xs) all = (more x all.0, all_weaker P Q more xs all.1)

  pub all_append : (P : X → Type 0) (xs ys : List X) → AllByRecursion P xs → AllByRecursion P ys → AllByRecursion P (xs ++ ys)
  all_append P [] ys mine theirs = theirs
  all_append P (x ∷ xs) ys mine theirs = (mine.0, all_append P xs ys mine.1 theirs)

  pub all_parts : (P : X → Type 0) (xs ys : List X) → AllByRecursion P (xs ++ ys) → AllByRecursion P xs × AllByRecursion P ys
  all_parts P [] ys all = (tt, all)
  all_parts P (x ∷ xs) ys all = let rest = all_parts P xs ys all.1 in ((all.0, rest.0), rest.1)

module _ {X Y : Type 0} where
  pub filter_mapped : (p : Y → Bool) (f : X → Y) (xs : List X) → filter p (map f xs) ≡ map f (filter (λ x. p (f x)) xs)
  filter_mapped p f [] = refl
  filter_mapped p f (x ∷ xs) = by (p (f x)) (filter_mapped p f xs)
    where
      by : (b : Bool) → filter p (map f xs) ≡ map f (filter (λ x. p (f x)) xs)
          → cond b (f x ∷ filter p (map f xs)) (filter p (map f xs)) ≡ map f (cond b (x ∷ filter (λ x. p (f x)) xs) (filter (λ x. p (f x)) xs))
      by true rest = ap (λ l. f x ∷ l) rest
      by false rest = rest

  pub map_map : {Z : Type 0} (g : Y → Z) (f : X → Y) (xs : List X) → map g (map f xs) ≡ map (λ x. g (f x)) xs
  map_map g f [] = refl
  map_map g f (x ∷ xs) = ap (λ l. g (f x) ∷ l) (map_map g f xs)

  pub map_alike : (f g : X → Y) → ((x : X) → f x ≡ g x) → (xs : List X) → map f xs ≡ map g xs
  map_alike f g same [] = refl
  map_alike f g same (x ∷ xs) = ap₂ (λ (y : Y) (l : List Y). y ∷ l) (same x) (map_alike f g same xs)

  zip_push : (R : X → Y → Type 0) (xs : List X) (ys : List Y) (x : X) (y : Y) → AllZip R xs ys → R x y → AllZip R (xs ++ x ∷ []) (ys ++ y ∷ [])
  zip_push R [] [] x y all r = (r, tt)
  zip_push R [] (w ∷ ys) x y all r = absurd all
  zip_push R (v ∷ xs) [] x y all r = absurd all
  zip_push R (v ∷ xs) (w ∷ ys) x y all r = (all.0, zip_push R xs ys x y all.1 r)

  pub zip_more : (R : X → Y → Type 0) (xs : List X) (ys : List Y) (k : ℕ) (x : X) (y : Y) → k < length xs → x ≡ get_or xs k x → AllZip R (take k xs) ys → R x y → AllZip R (take (k + 1) xs) (ys ++ y ∷ [])
  zip_more R xs ys k x y within at all r =
      subst (λ (l : List X). AllZip R l (ys ++ y ∷ [])) (ap (λ (z : X). take k xs ++ z ∷ []) at ∙ sym (take_more xs k x within)) (zip_push R (take k xs) ys x y all r)

-- ---- numbers from a on

pub map_within : {X : Type 0} (f g : ℕ → X) (p : ℕ → Bool) (a n : ℕ) → ((i : ℕ) → i < a + n → f i ≡ g i) → map f (filter p (range_with_len a n)) ≡ map g (filter p (range_with_len a n))
map_within f g p a zero same = refl
map_within {X} f g p a (suc n) same = by (p a) (map_within f g p (a + 1) n (λ i h. same i (omega (arith, h))))
  where
    by : (b : Bool) → map f (filter p (range_with_len (a + 1) n)) ≡ map g (filter p (range_with_len (a + 1) n))
        → map f (cond b (a ∷ filter p (range_with_len (a + 1) n)) (filter p (range_with_len (a + 1) n))) ≡ map g (cond b (a ∷ filter p (range_with_len (a + 1) n)) (filter p (range_with_len (a + 1) n)))
    by true rest = ap₂ (λ (x : X) (l : List X). x ∷ l) (same a (omega arith)) rest
    by false rest = rest

pub filter_within : (p r : ℕ → Bool) (a n : ℕ) → ((i : ℕ) → i < a + n → p i ≡ r i) → filter p (range_with_len a n) ≡ filter r (range_with_len a n)
filter_within p r a zero same = refl
filter_within p r a (suc n) same =
    let rest = filter_within p r (a + 1) n (λ i h. same i (omega (arith, h))) in
    let here : p a ≡ r a = same a (omega arith) in
    ap (λ (b : Bool). cond b (a ∷ filter p (range_with_len (a + 1) n)) (filter p (range_with_len (a + 1) n))) here
    ∙ ap (λ (l : List ℕ). cond (r a) (a ∷ l) l) rest

pub all_within : (p : ℕ → Bool) (a n m : ℕ) → a + n ≤ m → AllByRecursion (λ i. i < m) (filter p (range_with_len a n))
all_within p a zero m h = tt
all_within p a (suc n) m h = by (p a) (all_within p (a + 1) n m (omega (arith, h)))
  where
    by : (b : Bool) → AllByRecursion (λ i. i < m) (filter p (range_with_len (a + 1) n)) → AllByRecursion (λ i. i < m) (cond b (a ∷ filter p (range_with_len (a + 1) n)) (filter p (range_with_len (a + 1) n)))
    by true rest = (omega (arith, h), rest)
    by false rest = rest

pub drop_range : (k a n : ℕ) → drop k (range_with_len a n) ≡ range_with_len (a + k) (n - k)
drop_range zero a n =
    let from : a ≡ a + 0 = omega arith in
    let all : n ≡ n - 0 = omega arith in
    ap₂ range_with_len from all
drop_range (suc k) a zero = let none : 0 ≡ 0 - suc k = omega arith in ap (range_with_len (a + suc k)) none
drop_range (suc k) a (suc n) =
    let same : n - k ≡ suc n - suc k = omega arith in
    let from : (a + 1) + k ≡ a + suc k = omega arith in
    drop_range k (a + 1) n ∙ ap₂ range_with_len from same

-- one number more at the end
pub filter_range_more : (p : ℕ → Bool) (a n j : ℕ) → a + n ≡ j → filter p (range_with_len a (suc n)) ≡ filter p (range_with_len a n) ++ cond (p j) (j ∷ []) []
filter_range_more p a zero j e = let same : a ≡ j = omega (arith, e) in ap (λ (k : ℕ). cond (p k) (k ∷ []) []) same
filter_range_more p a (suc n) j e = by (p a) (filter_range_more p (a + 1) n j (omega (arith, e)))
  where
    by : (b : Bool) → filter p (range_with_len (a + 1) (suc n)) ≡ filter p (range_with_len (a + 1) n) ++ cond (p j) (j ∷ []) []
        → cond b (a ∷ filter p (range_with_len (a + 1) (suc n))) (filter p (range_with_len (a + 1) (suc n)))
        ≡ cond b (a ∷ filter p (range_with_len (a + 1) n)) (filter p (range_with_len (a + 1) n)) ++ cond (p j) (j ∷ []) []
    by true rest = ap (λ (l : List ℕ). a ∷ l) rest
    by false rest = rest

-- ---- tests of names

pub or_left : (a b : Bool) → a ≡ true → (a || b) ≡ true
or_left a b e = ap (λ (c : Bool). c || b) e

pub or_right : (a b : Bool) → b ≡ true → (a || b) ≡ true
or_right true b e = refl
or_right false b e = e

-- what holds of each name that some element answers to
pub any_within : {X : Type 0} (test : List ℕ → X → Bool) (P : List ℕ → Bool) (xs : List X) → ((name : List ℕ) → list_any (test name) xs ≡ true → P name ≡ true)
    → AllByRecursion (λ x. (name : List ℕ) → test name x ≡ true → P name ≡ true) xs
any_within test P [] all = tt
any_within test P (x ∷ xs) all =
    (λ name e. all name (or_left (test name x) (list_any (test name) xs) e), any_within test P xs (λ name e. all name (or_right (test name x) (list_any (test name) xs) e)))

-- what follows from what an answer promises
pub if_ok : {X E : Type 0} (P Q : X → Type 0) (r : Result X E) → IfOk r P → ((x : X) → P x → Q x) → IfOk r Q
if_ok P Q (Ok x) h more = more x h
if_ok P Q (Err e) h more = tt

-- and from two promises
pub both_ok : {X E : Type 0} (P Q R : X → Type 0) (r : Result X E) → IfOk r P → IfOk r Q → ((x : X) → P x → Q x → R x) → IfOk r R
both_ok P Q R (Ok x) h k more = more x h k
both_ok P Q R (Err e) h k more = tt
