-- Who has which id and which ticket.
use Rattle.std.proofs.Common.{◌≡◌, ◌≢◌, ◌⊎◌, ℕ, zero, suc, ◌+◌, ◌<◌, ◌≤◌, List, [], ◌∷◌, ◌++◌, refl, ⊎_elim, inl, inr, arith}
use native.Mathlib.Decide.{ℕ_discrete}
use Rattle.turnstile.specs.Ids.{Among, run_of}

abbrev pick : {P : Type 0} → Dec P → ℕ → ℕ → ℕ
pick (yes _) a b = a
pick (no _) a b = b

-- the function f with the value c at i
pub put : (ℕ → ℕ) → ℕ → ℕ → ℕ → ℕ
put f i c j = pick (ℕ_discrete j i) c (f j)

pub put_here : (f : ℕ → ℕ) (i c : ℕ) → put f i c i ≡ c
unfolding put
put_here f i c = go (ℕ_discrete i i)
  where
    go : (d : Dec (i ≡ i)) → pick d c (f i) ≡ c
    go (yes _) = refl
    go (no n) = absurd (n refl)

pub put_else : (f : ℕ → ℕ) (i c j : ℕ) → j ≢ i → put f i c j ≡ f j
unfolding put
put_else f i c j other = go (ℕ_discrete j i)
  where
    go : (d : Dec (j ≡ i)) → pick d c (f j) ≡ f j
    go (yes e) = absurd (other e)
    go (no _) = refl

-- the ids of the seat u, or of a piece, go to the seat c
pub hand : {P : ℕ → Type 0} → ((x : ℕ) → Dec (P x)) → (ℕ → ℕ) → ℕ → ℕ → ℕ
hand p f c x = pick (p x) c (f x)

pub hand_in : {P : ℕ → Type 0} (p : (x : ℕ) → Dec (P x)) (f : ℕ → ℕ) (c x : ℕ) → P x → hand p f c x ≡ c
unfolding hand
hand_in {P} p f c x h = go (p x)
  where
    go : (d : Dec (P x)) → pick d c (f x) ≡ c
    go (yes _) = refl
    go (no n) = absurd (n h)

pub hand_out : {P : ℕ → Type 0} (p : (x : ℕ) → Dec (P x)) (f : ℕ → ℕ) (c x : ℕ) → ¬ P x → hand p f c x ≡ f x
unfolding hand
hand_out {P} p f c x h = go (p x)
  where
    go : (d : Dec (P x)) → pick d c (f x) ≡ f x
    go (yes y) = absurd (h y)
    go (no _) = refl

pub dec_both : {P Q : Type 0} → Dec P → Dec Q → Dec (P × Q)
dec_both (yes p) (yes q) = yes (p, q)
dec_both (no n) _ = no (λ h. n h.0)
dec_both (yes _) (no n) = no (λ h. n h.1)

pub among_append : (xs ys : List ℕ) (x : ℕ) → Among x (xs ++ ys) → Among x xs ⊎ Among x ys
among_append [] ys x h = inr h
among_append (y ∷ xs) ys x h = ⊎_elim (λ e. inl (inl e)) (λ t. ⊎_elim (λ a. inl (inr a)) (λ b. inr b) (among_append xs ys x t)) h

pub among_front : (xs ys : List ℕ) (x : ℕ) → Among x xs → Among x (xs ++ ys)
among_front [] ys x h = absurd h
among_front (y ∷ xs) ys x h = ⊎_elim (λ e. inl e) (λ t. inr (among_front xs ys x t)) h

pub among_run : (n k x : ℕ) → Among x (run_of n k) → (n ≤ x) × (x < n + k)
among_run n zero x h = absurd h
among_run n (suc k) x h = ⊎_elim (λ (e : x ≡ n). (omega arith, omega arith)) (λ t. let r = among_run (suc n) k x t in let a = r.0 in let b = r.1 in (omega arith, omega arith)) h
