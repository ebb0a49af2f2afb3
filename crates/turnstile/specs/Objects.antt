-- What a step of an object asks and leaves.
use Rattle.std.specs.Prelude.{◌≡◌, ℕ, ◌+◌, ◌≤◌, ◌^◌, List, [], ◌∷◌, ◌++◌, length}
use Rattle.turnstile.specs.declared.object.TurnEntry.{TurnEntry}

-- the entry of a call
abbrev pub entry_of : {C R : Type 0} → ℕ → ℕ → C → R → TurnEntry C R
entry_of by clock call reply = record { by = by; clock = clock; call = call; reply = reply }

module _ {B C R O : Type 0} (legal : B → List (TurnEntry C R) → Type 0) (stands : B → List (TurnEntry C R) → O → Type 0) (may : B → List (TurnEntry C R) → ℕ → C → Type 0) where
  -- the value stands for the history h, after which this id may make the call; its entry has this number
  pub record Ready (b : B) (h : List (TurnEntry C R)) (by : ℕ) (o : O) (call : C) (number : ℕ) : Type 0 where
    pub is_legal : legal b h
    pub value : stands b h o
    pub allowed : may b h by call
    pub count : length h + 1 ≡ number
    pub small : number ≤ 2 ^ 63

  -- some id may make the call, after some history
  abbrev pub MayStep : O → C → ℕ → Type 0
  MayStep o call number = (b : B) × (h : List (TurnEntry C R)) × (by : ℕ) × Ready b h by o call number

  -- for every such history and id the value then stands for the history with the call's entry
  abbrev pub StepsOnce : O → C → ℕ → R → O → Type 0
  StepsOnce o call number reply o' = (b : B) (h : List (TurnEntry C R)) (by clock : ℕ) → Ready b h by o call number
      → legal b (h ++ entry_of by clock call reply ∷ []) × stands b (h ++ entry_of by clock call reply ∷ []) o'
