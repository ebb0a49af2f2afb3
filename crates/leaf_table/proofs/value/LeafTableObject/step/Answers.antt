use Rattle.std.proofs.Common.{rules, refl, length}
use Rattle.leaf_table.specs.Turns.{is_founded, state_after}
use Rattle.leaf_table.proofs.Going.{steps_on, added, copied, expired, cut_to, asked, taken, shut, flushed, done, reopened}
use Rattle.leaf_table.proofs.value.LeafTableObject.step.Goals as goal

pub returns-in-Add : goal.returns-in-Add
returns-in-Add g c = λ b h by clock r. let name = b.name.value in let base = b.base in
    steps_on name base h by clock _ _ _ _ _ _ _ c.in-Add.is refl refl r.is_legal r.value r.allowed (λ n i may. added name (is_founded base) (state_after base h) (length h) by clock _ _ _ _ n i may c.add.ensures)

pub returns-in-AddCopy : goal.returns-in-AddCopy
returns-in-AddCopy g c = λ b h by clock r. let name = b.name.value in let base = b.base in
    steps_on name base h by clock _ _ _ _ _ _ _ c.in-AddCopy.is refl refl r.is_legal r.value r.allowed (λ n i may. copied name (is_founded base) (state_after base h) (length h) by clock _ _ _ _ _ n i may c.add_copy.ensures)

pub returns-in-Expire : goal.returns-in-Expire
returns-in-Expire g c = λ b h by clock r. let name = b.name.value in let base = b.base in
    steps_on name base h by clock _ _ _ _ _ _ _ c.in-Expire.is refl refl r.is_legal r.value r.allowed (λ n i may. expired name (is_founded base) (state_after base h) (length h) by clock c.args.self.now c.in-Expire.horizon c.expire.result c.expire.new.self n i may (search rules))

pub returns-in-Keep : goal.returns-in-Keep
returns-in-Keep g c = λ b h by clock r. let name = b.name.value in let base = b.base in
    steps_on name base h by clock _ _ _ _ _ _ _ c.in-Keep.is refl refl r.is_legal r.value r.allowed (λ n i may. cut_to name (is_founded base) (state_after base h) (length h) by clock _ _ _ _ n i may c.keep.ensures)

pub returns-in-Ask : goal.returns-in-Ask
returns-in-Ask g c = λ b h by clock r. let name = b.name.value in let base = b.base in
    steps_on name base h by clock _ _ _ _ _ _ _ c.in-Ask.is refl refl r.is_legal r.value r.allowed (λ n i may. asked name (is_founded base) (state_after base h) (length h) by clock _ _ _ _ i may c.ask.ensures)

pub returns-in-Take : goal.returns-in-Take
returns-in-Take g c = λ b h by clock r. let name = b.name.value in let base = b.base in
    steps_on name base h by clock _ _ _ _ _ _ _ c.in-Take.is c.take.ensures.0 c.take.ensures.1 r.is_legal r.value r.allowed (λ n i may. taken name (is_founded base) (state_after base h) (length h) by clock _ i may)

pub returns-in-Flushed : goal.returns-in-Flushed
returns-in-Flushed g c = λ b h by clock r. let name = b.name.value in let base = b.base in
    steps_on name base h by clock _ _ _ _ _ _ _ c.in-Flushed.is refl refl r.is_legal r.value r.allowed (λ n i may. flushed name (is_founded base) (state_after base h) (length h) by clock _ _ i may)

pub returns-in-Shut : goal.returns-in-Shut
returns-in-Shut g c = λ b h by clock r. let name = b.name.value in let base = b.base in
    steps_on name base h by clock _ _ _ _ _ _ _ c.in-Shut.is c.shut.ensures.0 c.shut.ensures.1 r.is_legal r.value r.allowed (λ n i may. shut name (is_founded base) (state_after base h) (length h) by clock _ i may)

pub returns-in-Done : goal.returns-in-Done
returns-in-Done g c = λ b h by clock r. let name = b.name.value in let base = b.base in
    steps_on name base h by clock _ _ _ _ _ _ _ c.in-Done.is refl refl r.is_legal r.value r.allowed (λ n i may. done name (is_founded base) (state_after base h) (length h) by clock _ i may)

pub returns : goal.returns
returns g c = λ b h by clock r. let name = b.name.value in let base = b.base in
    steps_on name base h by clock _ _ _ _ _ _ _ c.in-Open.is c.open.ensures.answer c.open.ensures.value r.is_legal r.value r.allowed (λ n i may. reopened name (is_founded base) (state_after base h) (length h) by clock _ _ _ n i may)
