use Rattle.std.proofs.Common.{◌≡◌, ◌≤◌, length, ◌∙◌, ◌∷◌, ◌++◌, [], ℕ, List, ap, decimal, drop, rules}
use Rattle.printed_lines.specs.Lines.{said_text}
use Rattle.printed_lines.proofs.Backward.{drop_past}
use Rattle.printed_lines.proofs.entry.write_told.Goals as goal

pub returns-clause-written : goal.returns-clause-written
returns-clause-written c =
    let short : length c.args.buffer.now ≤ 176 = search rules in
    let none : drop 176 c.args.buffer.now ≡ [] = drop_past 176 c.args.buffer.now short in
    c.write_bytes.ensures.written
    ∙ ap (λ (xs : List ℕ). 32 ∷ 35 ∷ xs) (c.write_number-number_at.ensures.written
    ∙ ap (λ (xs : List ℕ). decimal c.args.number ++ xs) (c.write_bytes-space.ensures.written
    ∙ ap (λ (xs : List ℕ). 32 ∷ xs) (c.write_said-said_at.ensures.written
    ∙ ap (λ (xs : List ℕ). said_text c.args.said ++ xs) (c.write_bytes-end.ensures.written
    ∙ ap (λ (xs : List ℕ). 10 ∷ xs) none))))
