-- A standing query that was read.
use Rattle.std.proofs.Common.{◌≡◌, ◌<◌, ◌≤◌, ℕ, refl, ap, sym, ◌∙◌, subst, arith, Bool, true, false, Option, Some, None, Result, Ok}
use Rattle.std.proofs.lemmas.Bool.Decides.{nat_tests}
use Rattle.std.specs.Prelude.{nat_lt}
use Rattle.std.specs.Option.{option_map}
use Rattle.leaf_model.specs.declared.queries.Query.{Query}
use Rattle.script_text.specs.declared.command.Command.{Command}
use Rattle.script_text.specs.declared.command.Command.TheVariants.{Standing}
use Rattle.row_model.specs.declared.script_fault.ScriptFault.{ScriptFault}
use Rattle.script_text.specs.declared.fleet.FleetShape.{FleetShape}
use Rattle.text_lines.specs.Numbers.{capped}
use Rattle.script_text.specs.Commands.{Fault, ◌>>=◌, leaf_count, leaf_in, or_words, standing_at, table_in}
use Rattle.script_text.specs.Script.{ParsesAs}

-- a number that is capped is no leaf either
leaf_capped : (n : ℕ) (fleet : FleetShape) (x : ℕ) → leaf_count fleet ≤ 256 → leaf_in n fleet (capped x) ≡ leaf_in n fleet x
leaf_capped n fleet x few = by (nat_lt x (leaf_count fleet)) refl
  where
    by : (b : Bool) → nat_lt x (leaf_count fleet) ≡ b → leaf_in n fleet (capped x) ≡ leaf_in n fleet x
    by true is =
        let below : x < leaf_count fleet = grind (arith, nat_tests, is) in
        let same : capped x ≡ x = omega (arith, below, few) in
        ap (leaf_in n fleet) same
    by false is =
        let above : leaf_count fleet ≤ x = grind (arith, nat_tests, is) in
        let high : leaf_count fleet ≤ capped x = omega (arith, above, few) in
        let other : nat_lt (capped x) (leaf_count fleet) ≡ false = grind (arith, nat_tests, high) in
        rw (is, other)

pub standing_read : (n : ℕ) (fleet : FleetShape) (o : Option ℕ) (leaf : ℕ) (q : Query) (read : Result Query Fault) (r : Result Command ScriptFault) → leaf_count fleet ≤ 256 → Some leaf ≡ option_map capped o → read ≡ Ok q
    → ParsesAs (λ c. c) r (standing_at n fleet leaf q) → ParsesAs (λ c. c) r (or_words n o >>= λ number. read >>= λ query. standing_at n fleet number query)
standing_read n fleet None leaf q read r few is found exact = absurd cc
standing_read n fleet (Some x) leaf q read r few is found exact =
    let same : leaf ≡ capped x = unsome leaf (capped x) is in
    let at : standing_at n fleet leaf q ≡ standing_at n fleet x q =
    ap (λ l. standing_at n fleet l q) same ∙ ap (λ found. found >>= λ l. table_in n fleet q.table >>= λ _. Ok (Standing l q)) (leaf_capped n fleet x few) in
    let whole : (read >>= λ query. standing_at n fleet x query) ≡ standing_at n fleet x q = ap (λ r. r >>= λ query. standing_at n fleet x query) found in
    subst (ParsesAs (λ c. c) r) (at ∙ sym whole) exact
  where
    unsome : (a b : ℕ) → Some a ≡ Some b → a ≡ b
    unsome a b e = cc
