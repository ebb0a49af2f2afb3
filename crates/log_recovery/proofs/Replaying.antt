-- Many writes, one after another.
use Rattle.std.proofs.Common.{◌≡◌, ℕ, ◌+◌, ◌<◌, ◌≤◌, ◌^◌, inl, inr, List, [], ◌∷◌, ◌++◌, length, take, refl, sym, ap, ap₂, subst, ◌∙◌, append_assoc, arith}
use Rattle.std.proofs.lemmas.Bool.{cases_lt}
use Rattle.std.proofs.lemmas.List.{take-append-le, take_all, take_at, length_push}
use Rattle.std.proofs.lemmas.List.Sums.{fold-append}
use Rattle.std.specs.Prelude.{Err}
use Rattle.std.specs.List.{AllByRecursion}
use Rattle.leaf_model.specs.declared.writes.Write.{Write}
use Rattle.leaf_model.specs.Writes.{IsWrite}
use Rattle.leaf_model.specs.Content.{Contents, content_after, content_from}
use Rattle.table_state.specs.Tables.{Table, bare, no_store, replayed, Replays}
use Rattle.table_state.specs.declared.fault.AddFault.{AddFault}
use Rattle.table_state.specs.declared.fault.AddFault.TheVariants as add
use Rattle.log_recovery.specs.Applying.{ReplaysAll}

-- a table after so many writes
abbrev pub table_after : Table → List Write → Table
table_after t writes = record { contents = content_from t.contents writes; writes = t.writes + length writes; pending = t.pending; store = no_store }

-- of all writes some are done, and the rest is left
pub record Replayed (from : Table) (all rest : List Write) (now : Table) : Type 0 where
  pub done : List Write
  pub is : all ≡ done ++ rest
  pub within : (k : ℕ) → length (content_from from.contents (take k done)).rows ≤ 2 ^ 40
  pub now_is : bare now ≡ table_after from done
  pub each : AllByRecursion IsWrite rest

-- a bare table with other contents and another count
abbrev pub with_both : Table → Contents → ℕ → Table
with_both t c n = record { contents = c; writes = n; pending = t.pending; store = no_store }

module _ (from : Table) (all rest : List Write) (w : Write) (mid : Table) (so_far : Replayed from all (w ∷ rest) mid) where
  abbrev pub next_done : List Write
  next_done = so_far.done ++ w ∷ []

  contents_are : content_after mid.contents w ≡ content_from from.contents next_done
  contents_are = ap (λ (t : Table). content_after t.contents w) so_far.now_is ∙ sym (fold-append content_after from.contents so_far.done (w ∷ []))

  all_are : all ≡ next_done ++ rest
  all_are = so_far.is ∙ sym (append_assoc so_far.done (w ∷ []) rest)

  within_more : length (content_after mid.contents w).rows ≤ 2 ^ 40 → (k : ℕ) → length (content_from from.contents (take k next_done)).rows ≤ 2 ^ 40
  within_more few k = elim (cases_lt k (length next_done)) [
    | inl before ↦
        let le : k ≤ length so_far.done = omega (arith, before, length_push so_far.done w) in
        subst (λ (l : List Write). length (content_from from.contents l).rows ≤ 2 ^ 40) (sym (take-append-le k so_far.done (w ∷ []) le)) (so_far.within k)
    | inr past ↦
        let now : length (content_from from.contents next_done).rows ≤ 2 ^ 40 = subst (λ (c : Contents). length c.rows ≤ 2 ^ 40) contents_are few in
        subst (λ (l : List Write). length (content_from from.contents l).rows ≤ 2 ^ 40) (sym (take_all k next_done past)) now
  ]

  pub replayed_more : (now : Table) → length (content_after mid.contents w).rows ≤ 2 ^ 40 → bare now ≡ replayed mid w → Replayed from all rest now
  replayed_more now few is =
      let count : from.writes + length so_far.done + 1 ≡ from.writes + length next_done = omega (arith, length_push so_far.done w) in
      record {
        done = next_done;
        is = all_are;
        within = within_more few;
        now_is = is ∙ ap (λ (t : Table). replayed t w) so_far.now_is ∙ ap₂ (with_both from) (sym (fold-append content_after from.contents so_far.done (w ∷ []))) count;
        each = so_far.each.1;
      }

  pub replayed_full : 2 ^ 40 < length (content_after mid.contents w).rows → (k : ℕ) × (2 ^ 40 < length (content_from from.contents (take k all)).rows)
  replayed_full many =
      let taken : take (length next_done) all ≡ next_done = ap (take (length next_done)) all_are ∙ take_at next_done rest (length next_done) refl in
      (length next_done, subst (λ (c : Contents). 2 ^ 40 < length c.rows) (contents_are ∙ ap (content_from from.contents) (sym taken)) many)

  pub replayed_err : (fault : AddFault) (now : Table) → Replays mid w (Err fault) now → ReplaysAll from all (Err fault) now
  replayed_err add.Full now refused = replayed_full refused.0
  replayed_err add.NoMemory now refused = tt
