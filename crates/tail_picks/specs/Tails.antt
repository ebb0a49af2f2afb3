-- The tries of a tail: which leaves are asked, which is picked, and when it ends. R is the type of a leaf's answer: a
-- reply, or the line that shows it.
use Rattle.std.specs.Prelude.{◌≡◌, ℕ, ◌%◌, ◌==◌, Bool, not, List, [], ◌∷◌, nat_lt, if◌then◌else◌, Option, Some, None, is_some, option_and_then}
use Rattle.rand_core.specs.Steps.{first_words}
use Rattle.rand_pcg.specs.Lcg.{Lcg, increment_of, started}
use Rattle.rand_pcg.specs.Pcg.{multiplier_64, pcg32}

-- a try: its two leaves, the answer of each that was asked, and the answer of the picked one to the add
pub record TryOf (R : Type 0) : Type 0 where
  pub first : ℕ
  pub second : ℕ
  pub one : R
  pub two : Option R
  pub added : Option R

-- the leaf with more free rows, the first in a tie; a leaf that did not tell its free rows is left out
abbrev pub picked : ℕ → Option ℕ → ℕ → Option ℕ → Option ℕ
picked first None second None = None
picked first (Some a) second None = Some first
picked first None second (Some b) = Some second
picked first (Some a) second (Some b) = Some (if nat_lt a b then second else first)

module _ {R : Type 0} (free : R → Option ℕ) (is_added : R → Bool) where
  abbrev pub pick_of : TryOf R → Option ℕ
  pick_of t = picked t.first (free t.one) t.second (option_and_then free t.two)

  -- a try over n leaves by the words u and v: the second leaf is asked exactly if it is another, and an add is made
  -- exactly if one is picked
  pub record IsTry (n u v : ℕ) (t : TryOf R) : Type 0 where
    pub first : t.first ≡ u % n
    pub second : t.second ≡ v % n
    pub two : is_some t.two ≡ not (t.first == t.second)
    pub add : is_some t.added ≡ is_some (pick_of t)

  -- the leaf that took the rows, if the add was accepted
  abbrev pub sent_by : TryOf R → Option ℕ
  sent_by t = option_and_then (λ r. if is_added r then pick_of t else None) t.added

  -- a tail ends after the try whose add was accepted
  abbrev pub TryGoesOn : Option ℕ → List (TryOf R) → Option ℕ → Type 0 → Type 0
  TryGoesOn (Some leaf) ts sent more = (ts ≡ []) × (sent ≡ Some leaf)
  TryGoesOn None ts sent more = more

  -- The tries over n leaves, two words each, and the leaf that took the rows: None if the words ran out first.
  abbrev pub Tails : ℕ → List ℕ → List (TryOf R) → Option ℕ → Type 0
  Tails n [] [] sent = sent ≡ None
  Tails n (u ∷ v ∷ words) (t ∷ ts) sent = IsTry n u v t × TryGoesOn (sent_by t) ts sent (Tails n words ts sent)
  Tails n _ _ sent = ⊥

-- the generator of a key's words
abbrev pub generator_of : ℕ → Lcg
generator_of key = started 64 multiplier_64 key (increment_of 64 1)

-- the 32 words of a key: two for each of 16 tries
abbrev pub words_of : ℕ → List ℕ
words_of key = first_words pcg32 32 (generator_of key)
