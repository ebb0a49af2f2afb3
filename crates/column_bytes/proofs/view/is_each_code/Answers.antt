use Rattle.std.proofs.Common.{rules, sym, subst, ◌∙◌, IsTrue, arith}
use Rattle.column_bytes.specs.Cells.{IsCode, book_of}
use Rattle.column_bytes.proofs.Parts.{are_codes-from_each, each-from_are_codes}
use Rattle.column_bytes.proofs.view.is_each_code.Goals as goal

pub returns : goal.returns
returns c =
    let e = c.loop-i-test.false in let auto = c.loop-i.auto.i-end in
    (λ yes. are_codes-from_each c.args.form c.args.count c.args.presence.now c.args.packed.now c.args.extra.now (λ j within. c.loop-i.invariant j (omega arith)), λ are. search rules)

pub returns-then-not-is_code : goal.returns-then-not-is_code
returns-then-not-is_code c =
    let form = c.args.form in let packed = c.args.packed.now in let extra = c.args.extra.now in (
      λ no. let never : ⊥ = cc in absurd never,
      λ are.
          let is = each-from_are_codes form c.args.count c.args.presence.now packed extra are c.loop-i.i c.loop-i-test.true (sym c.is_there.ensures ∙ c.if-is_there.true) in
          subst IsTrue c.if-not-is_code.true (c.is_code.ensures.1 (subst (IsCode (book_of form c.args.count extra)) (sym c.get.ensures.code) is)),
    )
