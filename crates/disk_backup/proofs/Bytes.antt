-- What a write on the disk makes of a log's bytes, where it ends and where it is cut short.
use Rattle.std.proofs.Common.{◌≡◌, inl, inr, ℕ, ◌+◌, ◌-◌, ◌≤◌, min, List, [], ◌∷◌, ◌++◌, length, get_or, take, drop, refl, sym, ◌∙◌, ap, subst, arith, append_assoc, length-append, take-append-drop}
use Rattle.std.specs.Prelude.{replicate}
use Rattle.std.proofs.lemmas.List.{take_at, drop_at, drop_more, take-append-le}
use Rattle.std.proofs.lemmas.Bool.{cases_eq}
use Rattle.berth_face.specs.Berth.{Torn, written}
use Rattle.disk_backup.specs.Gates.{ClosedAfter, LaidAfter, OpenAfter, MaybeMore}

-- a write inside the content fills no gap
pub written_inside : (at : ℕ) (bytes old : List ℕ) → at ≤ length old → written at bytes old ≡ take at old ++ bytes ++ drop (at + length bytes) old
written_inside at bytes old inside = ap (λ (l : List ℕ). l ++ bytes ++ drop (at + length bytes) old) (take-append-le at old (replicate (at - length old) 0) inside)

min_front : (n m : ℕ) → n ≤ m → min n m ≡ n
min_front n m le = omega arith

module _ (front : List ℕ) where
  long : (gate : ℕ) (rest : List ℕ) → length (front ++ gate ∷ rest) ≡ length front + 1 + length rest
  long gate rest = omega (arith, length-append front (gate ∷ rest))

  gate_front : (gate : ℕ) (rest : List ℕ) → take (length front + 1) (front ++ gate ∷ rest) ≡ front ++ gate ∷ []
  gate_front gate rest = ap (λ (l : List ℕ). take (length front + 1) l) (sym (append_assoc front (gate ∷ []) rest)) ∙ take_at (front ++ gate ∷ []) rest (length front + 1) (omega (arith, length-append front (gate ∷ [])))

  -- what is written behind the gate leaves the log closed, however it is cut short
  pub torn_behind : (n : ℕ) (old new : List ℕ) → ClosedAfter front old → Torn (length front + 1) n old new → ClosedAfter front new
  torn_behind n old new closed torn =
      let reach : length front + 1 ≤ length old = omega (arith, ap length closed.is, long closed.gate closed.rest) in
      let kept : take (length front + 1) new ≡ front ++ closed.gate ∷ [] =
      subst (λ (k : ℕ). take k new ≡ take (length front + 1) old) (min_front (length front + 1) (length old) reach) torn.before ∙ ap (λ (l : List ℕ). take (length front + 1) l) closed.is ∙ gate_front closed.gate closed.rest in
      record {
        gate = closed.gate;
        rest = drop (length front + 1) new;
        is = sym (take-append-drop (length front + 1) new) ∙ ap (λ (l : List ℕ). l ++ drop (length front + 1) new) kept ∙ append_assoc front (closed.gate ∷ []) (drop (length front + 1) new);
        shut = closed.shut;
      }

  -- and where it ends, it is laid
  pub written_behind : (owed old new : List ℕ) → ClosedAfter front old → new ≡ written (length front + 1) owed old → LaidAfter front owed new
  written_behind owed old new closed is =
      let reach : length front + 1 ≤ length old = omega (arith, ap length closed.is, long closed.gate closed.rest) in
      let behind = drop (length front + 1 + length owed) old in
      let kept : take (length front + 1) old ≡ front ++ closed.gate ∷ [] = ap (λ (l : List ℕ). take (length front + 1) l) closed.is ∙ gate_front closed.gate closed.rest in
      record {
        gate = closed.gate;
        rest = behind;
        is = is ∙ written_inside (length front + 1) owed old reach ∙ ap (λ (l : List ℕ). l ++ owed ++ behind) kept
            ∙ append_assoc (front ++ closed.gate ∷ []) owed behind ∙ append_assoc front (closed.gate ∷ []) (owed ++ behind);
      }

  -- a write of the gate keeps all else
  pub torn_gate : (owed old new : List ℕ) → LaidAfter front owed old → Torn (length front) 1 old new → LaidAfter front owed new
  torn_gate owed old new laid torn =
      let size = ap length laid.is ∙ long laid.gate (owed ++ laid.rest) in
      let reach : length front ≤ length old = omega (arith, size) in
      let kept : take (length front) new ≡ front =
      subst (λ (k : ℕ). take k new ≡ take (length front) old) (min_front (length front) (length old) reach) torn.before ∙ ap (λ (l : List ℕ). take (length front) l) laid.is ∙ take_at front (laid.gate ∷ (owed ++ laid.rest)) (length front) refl in
      let behind : drop (length front + 1) new ≡ owed ++ laid.rest = torn.after ∙ after_gate old laid in
      let gate = get_or new (length front) 0 in
      let rest : drop (length front) new ≡ gate ∷ (owed ++ laid.rest) = drop_more new (length front) 0 (omega (arith, size, torn.no_shorter)) ∙ ap (λ (l : List ℕ). gate ∷ l) behind in
      record {
        gate = gate;
        rest = laid.rest;
        is = sym (take-append-drop (length front) new) ∙ ap (λ (l : List ℕ). l ++ drop (length front) new) kept ∙ ap (λ (l : List ℕ). front ++ l) rest;
      }
    where
      after_gate : (old : List ℕ) (laid : LaidAfter front owed old) → drop (length front + 1) old ≡ owed ++ laid.rest
      after_gate old laid = ap (λ (l : List ℕ). drop (length front + 1) l) (laid.is ∙ sym (append_assoc front (laid.gate ∷ []) (owed ++ laid.rest))) ∙ drop_at (front ++ laid.gate ∷ []) (owed ++ laid.rest) (length front + 1) (omega (arith, length-append front (laid.gate ∷ [])))

  pub written_gate : (owed old new : List ℕ) → LaidAfter front owed old → new ≡ written (length front) (1 ∷ []) old → OpenAfter front owed new
  written_gate owed old new laid is =
      let size = ap length laid.is ∙ long laid.gate (owed ++ laid.rest) in
      let kept : take (length front) old ≡ front = ap (λ (l : List ℕ). take (length front) l) laid.is ∙ take_at front (laid.gate ∷ (owed ++ laid.rest)) (length front) refl in
      let behind : drop (length front + 1) old ≡ owed ++ laid.rest =
      ap (λ (l : List ℕ). drop (length front + 1) l) (laid.is ∙ sym (append_assoc front (laid.gate ∷ []) (owed ++ laid.rest))) ∙ drop_at (front ++ laid.gate ∷ []) (owed ++ laid.rest) (length front + 1) (omega (arith, length-append front (laid.gate ∷ []))) in
      record {
        rest = laid.rest;
        is = is ∙ written_inside (length front) (1 ∷ []) old (omega (arith, size)) ∙ ap (λ (l : List ℕ). l ++ (1 ∷ []) ++ drop (length front + 1) old) kept
            ∙ ap (λ (l : List ℕ). front ++ (1 ∷ []) ++ l) behind ∙ append_assoc front (1 ∷ []) (owed ++ laid.rest);
      }

  -- an open gate, and a record with its own closed gate at its end
  pub open_closed : (body disk : List ℕ) → OpenAfter front (body ++ 0 ∷ []) disk → ClosedAfter (front ++ 1 ∷ body) disk
  open_closed body disk opened = record {
    gate = 0;
    rest = opened.rest;
    is = opened.is ∙ ap (λ (l : List ℕ). front ++ 1 ∷ l) (append_assoc body (0 ∷ []) opened.rest) ∙ sym (append_assoc front (1 ∷ body) (0 ∷ opened.rest));
    shut = omega arith;
  }

  -- laid is with or without, as the gate reads
  pub laid_either : (body disk : List ℕ) → LaidAfter front (body ++ 0 ∷ []) disk → MaybeMore front body disk
  laid_either body disk laid = elim (cases_eq laid.gate 1) [
    | inl opened ↦ inr (open_closed body disk (record { rest = laid.rest; is = laid.is ∙ ap (λ (g : ℕ). front ++ g ∷ ((body ++ 0 ∷ []) ++ laid.rest)) opened }))
    | inr shut ↦ inl (record { gate = laid.gate; rest = (body ++ 0 ∷ []) ++ laid.rest; is = laid.is; shut = shut })
  ]
