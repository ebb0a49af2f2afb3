use Rattle.std.proofs.Common.{ℕ, ◌<◌, ◌≤◌, ◌||◌, Bool, [], List, length, sym, ap, ap₂, ◌∙◌, arith}
use Rattle.std.specs.Prelude.{bytes_eq}
use Rattle.std.proofs.lemmas.List.{take_all}
use Rattle.std.proofs.lemmas.List.Folds.{list_any_at, list_any_more}
use Rattle.row_model.specs.Names.{is_among}
use Rattle.block_scan.proofs.narrowing.is_member.Goals as goal

pub loop-i-preserved : goal.loop-i-preserved
loop-i-preserved c =
    let members = c.args.members.now in let text = c.args.text.now in let i = c.loop-i.i in
    let inside : i < length members = omega (arith, c.loop-i-test.true, c.len-i-end.ensures) in
    list_any_more (λ (other : List ℕ). bytes_eq other text) members i [] inside
    ∙ ap₂ (λ (a b : Bool). a || b) c.loop-i.invariant (ap (λ (other : List ℕ). bytes_eq other text) (sym c.text.ensures) ∙ sym c.eq.ensures ∙ c.if-eq.false)

pub returns-then-eq : goal.returns-then-eq
returns-then-eq c =
    let members = c.args.members.now in let text = c.args.text.now in let i = c.loop-i.i in
    let inside : i < length members = omega (arith, c.loop-i-test.true, c.len-i-end.ensures) in
    sym (list_any_at (λ (other : List ℕ). bytes_eq other text) members i [] inside (ap (λ (other : List ℕ). bytes_eq other text) (sym c.text.ensures) ∙ sym c.eq.ensures ∙ c.if-eq.true))

pub returns : goal.returns
returns c =
    let past : length c.args.members.now ≤ c.loop-i.i = omega (arith, c.loop-i-test.false, c.len-i-end.ensures) in
    sym (ap (λ (l : List (List ℕ)). is_among l c.args.text.now) (sym (take_all c.loop-i.i c.args.members.now past)) ∙ c.loop-i.invariant)
