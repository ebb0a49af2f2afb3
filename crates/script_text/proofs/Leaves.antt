-- Numbers of machines and of leaves.
use Rattle.std.proofs.Common.{◌≡◌, ◌≤◌, ◌*◌, ◌&&◌, ℕ, List, ap, ◌∙◌, subst, arith, true, Option, Some, None, ltb, leb}
use Rattle.std.proofs.lemmas.Bool.{and_parts}
use Rattle.std.proofs.lemmas.Bool.Decides.{nat_tests}
use Rattle.std.proofs.lemmas.Nat.{mul-le}
use Rattle.std.specs.Option.{option_map}
use Rattle.std.specs.Prelude.{if◌then◌else◌}
use Rattle.script_text.specs.Words.{are_tables}
use Rattle.text_lines.specs.Numbers.{capped}
use Rattle.script_text.specs.Commands.{fleet_with, leaves_in_range}
use Rattle.script_text.specs.Fits.{AreLeaves}

pub are_leaves : (machines per_machine : ℕ) → leaves_in_range machines per_machine ≡ true → AreLeaves machines per_machine
are_leaves machines per_machine is =
    let a = and_parts (ltb 0 machines && ltb 0 per_machine) (leb (machines * per_machine) 256) is in
    let b = and_parts (ltb 0 machines) (ltb 0 per_machine) a.0 in
    let some_machines : ltb 0 machines ≡ true = b.0 in
    let some_leaves : ltb 0 per_machine ≡ true = b.1 in
    let few : leb (machines * per_machine) 256 ≡ true = a.1 in
    record {
      some_machines = grind (arith, nat_tests, some_machines);
      some_leaves = grind (arith, nat_tests, some_leaves);
      few = grind (arith, nat_tests, few);
    }

pub few_machines : (machines per_machine : ℕ) → AreLeaves machines per_machine → machines ≤ 256
few_machines machines per_machine are =
    let one : 1 ≤ per_machine = omega (arith, are.some_leaves) in
    let product : machines * 1 ≤ machines * per_machine = mul-le machines 1 machines per_machine (omega arith) one in
    omega (arith, product, are.few)

pub few_of_each : (machines per_machine : ℕ) → AreLeaves machines per_machine → per_machine ≤ 256
few_of_each machines per_machine are =
    let one : 1 ≤ machines = omega (arith, are.some_machines) in
    let product : 1 * per_machine ≤ machines * per_machine = mul-le 1 per_machine machines per_machine one (omega arith) in
    omega (arith, product, are.few)

-- a number at which none is capped is the number that was read
uncapped : (n : ℕ) → capped n ≤ 256 → capped n ≡ n
uncapped n few = omega (arith, few)

unsome : (x y : ℕ) → Some x ≡ Some y → x ≡ y
unsome x y is = ap (λ o. elim o [ None ↦ 0 | Some z ↦ z ]) is

-- a fleet of these sizes
pub fleet_sizes : (a b : Option ℕ) (machines per_machine : ℕ) (names : List (List ℕ)) → Some machines ≡ option_map capped a → Some per_machine ≡ option_map capped b → leaves_in_range machines per_machine ≡ true → fleet_with a b names ≡ (if are_tables names then Some (record { machines = machines; per_machine = per_machine; names = names }) else None)
fleet_sizes (Some x) (Some y) machines per_machine names one two is =
    let are = are_leaves machines per_machine is in
    let first : machines ≡ capped x = unsome machines (capped x) one in
    let second : per_machine ≡ capped y = unsome per_machine (capped y) two in
    let x_is : machines ≡ x = first ∙ uncapped x (subst (λ n. n ≤ 256) first (few_machines machines per_machine are)) in
    let y_is : per_machine ≡ y = second ∙ uncapped y (subst (λ n. n ≤ 256) second (few_of_each machines per_machine are)) in
    let same : leaves_in_range x y ≡ true = subst (λ n. leaves_in_range n y ≡ true) x_is (subst (λ n. leaves_in_range machines n ≡ true) y_is is) in
    rw (x_is, y_is, same)
fleet_sizes (Some x) None machines per_machine names one two is = absurd (grind (arith, two))
fleet_sizes None b machines per_machine names one two is = absurd (grind (arith, one))
