-- What is put one after the other.
use Rattle.std.proofs.Common.{◌≡◌, ℕ, List, ◌++◌, ap, ◌∙◌, append_assoc}

pub three_put : (a b c before first second third : List ℕ) → first ≡ before ++ a → second ≡ first ++ b → third ≡ second ++ c → third ≡ before ++ (a ++ (b ++ c))
three_put a b c before first second third e1 e2 e3 =
    e3
    ∙ ap (λ (w : List ℕ). w ++ c) (e2 ∙ ap (λ (w : List ℕ). w ++ b) e1)
    ∙ append_assoc (before ++ a) b c
    ∙ append_assoc before a (b ++ c)
