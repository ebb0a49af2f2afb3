use Rattle.std.proofs.Common.{rules, ◌≡◌, ◌≤◌, List, ℕ, length, sym, subst, arith}
use Rattle.drain_copy.specs.declared.step.Next.TheVariants as next
use Rattle.drain_copy.proofs.Moments.{drains_closed, drains_opened, in_room}
use Rattle.drain_copy.proofs.Standing.{begun_told, opened_told, opened_or_shut, on_err, flag_behind, flag_length, flag_in_room, long_enough, later_copy, later_nothing}
use Rattle.drain_copy.proofs.drain.Drain.step.Goals as goal

pub returns-in_err-begin-in-Begin-clause-moments : goal.returns-in_err-begin-in-Begin-clause-moments
returns-in_err-begin-in-Begin-clause-moments g c =
    λ told stands all.
    let d = c.args.self.now in
    let a = g.B.Berth.meaning c.args.berth.now in
    let b = g.B.Berth.meaning c.begin.new.berth in
    drains_closed d a b (c.begin.ensures.moments told all)

pub returns-in_err-begin-in-Begin-clause-inside : goal.returns-in_err-begin-in-Begin-clause-inside
returns-in_err-begin-in-Begin-clause-inside g c =
    λ told stands later.
    let d = c.args.self.now in
    let a = g.B.Berth.meaning c.args.berth.now in
    let begins : d.next ≡ next.Begin = search rules in
    absurd (later begins)

pub returns-in_ok-begin-in-Begin-clause-told : goal.returns-in_ok-begin-in-Begin-clause-told
returns-in_ok-begin-in-Begin-clause-told g c =
    λ told stands.
    let d = c.args.self.now in
    let a = g.B.Berth.meaning c.args.berth.now in
    let b = g.B.Berth.meaning c.begin.new.berth in
    let begins : d.next ≡ next.Begin = search rules in
    begun_told d c.go_on.new.self b.held.region c.go_on.ensures.next c.go_on.ensures.image c.go_on.ensures.heap (c.is_planned.ensures.whole begins) (c.in_ok-begin-in-Begin.ensures.done told)

pub returns-in_ok-begin-in-Begin-clause-room : goal.returns-in_ok-begin-in-Begin-clause-room
returns-in_ok-begin-in-Begin-clause-room g c =
    λ told stands.
    let d = c.args.self.now in
    let a = g.B.Berth.meaning c.args.berth.now in
    let b = g.B.Berth.meaning c.begin.new.berth in
    let begins : d.next ≡ next.Begin = search rules in
    let later = begun_told d c.go_on.new.self b.held.region c.go_on.ensures.next c.go_on.ensures.image c.go_on.ensures.heap (c.is_planned.ensures.whole begins) (c.in_ok-begin-in-Begin.ensures.done told) in
    let long : 16 ≤ length (c.go_on.new.self).image = subst (λ (i : List ℕ). 16 ≤ length i) (sym c.go_on.ensures.image) c.is_planned.ensures.long in
    long_enough (c.go_on.new.self) b.held.region long (later_copy c.go_on.new.self c.go_on.ensures.next) later

pub returns-in_ok-begin-in-Begin-clause-moments : goal.returns-in_ok-begin-in-Begin-clause-moments
returns-in_ok-begin-in-Begin-clause-moments g c =
    λ told stands all.
    let d = c.args.self.now in
    let a = g.B.Berth.meaning c.args.berth.now in
    let b = g.B.Berth.meaning c.begin.new.berth in
    drains_closed d a b (c.begin.ensures.moments told all)

pub returns-in_ok-begin-in-Begin-clause-inside : goal.returns-in_ok-begin-in-Begin-clause-inside
returns-in_ok-begin-in-Begin-clause-inside g c =
    λ told stands later.
    let d = c.args.self.now in
    let a = g.B.Berth.meaning c.args.berth.now in
    let begins : d.next ≡ next.Begin = search rules in
    absurd (later begins)

pub returns-in_err-open-in-Flag-clause-failed : goal.returns-in_err-open-in-Flag-clause-failed
returns-in_err-open-in-Flag-clause-failed g c =
    λ told stands closed.
    let d = c.args.self.now in
    let a = g.B.Berth.meaning c.args.berth.now in
    let b = g.B.Berth.meaning c.open.new.berth in
    let flags : d.next ≡ next.Flag = search rules in
    on_err c.from_residual-in_err-open-in-Flag.result _ (opened_or_shut d a.held.region b.held.region c.is_planned.ensures.flag flags stands (c.in_err-open-in-Flag.ensures.failed told))

pub returns-in_err-open-in-Flag-clause-moments : goal.returns-in_err-open-in-Flag-clause-moments
returns-in_err-open-in-Flag-clause-moments g c =
    λ told stands all.
    let d = c.args.self.now in
    let a = g.B.Berth.meaning c.args.berth.now in
    let b = g.B.Berth.meaning c.open.new.berth in
    let flags : d.next ≡ next.Flag = search rules in
    drains_opened d a b flags c.is_planned.ensures.flag (flag_behind d a.held.region flags stands) (c.open.ensures.moments told all)

pub returns-in_err-open-in-Flag-clause-inside : goal.returns-in_err-open-in-Flag-clause-inside
returns-in_err-open-in-Flag-clause-inside g c =
    λ told stands later.
    let d = c.args.self.now in
    let a = g.B.Berth.meaning c.args.berth.now in
    let b = g.B.Berth.meaning c.open.new.berth in
    let flags : d.next ≡ next.Flag = search rules in
    let some : 1 ≤ length a.held.region = omega (arith, flag_length d a.held.region c.is_planned.ensures.long flags stands, c.is_planned.ensures.long) in
    in_room (length a.held.region) d a b (flag_in_room d a.held.region c.is_planned.ensures.long flags stands) (c.open.ensures.inside told some)

pub returns-in_ok-open-in-Flag-clause-told : goal.returns-in_ok-open-in-Flag-clause-told
returns-in_ok-open-in-Flag-clause-told g c =
    λ told stands.
    let d = c.args.self.now in
    let a = g.B.Berth.meaning c.args.berth.now in
    let b = g.B.Berth.meaning c.open.new.berth in
    let flags : d.next ≡ next.Flag = search rules in
    opened_told d c.go_on-in-Flag.new.self a.held.region b.held.region c.is_planned.ensures.flag flags c.go_on-in-Flag.ensures.next c.go_on-in-Flag.ensures.image c.go_on-in-Flag.ensures.heap stands (c.in_ok-open-in-Flag.ensures.done told)

pub returns-in_ok-open-in-Flag-clause-room : goal.returns-in_ok-open-in-Flag-clause-room
returns-in_ok-open-in-Flag-clause-room g c =
    λ told stands.
    let d = c.args.self.now in
    let a = g.B.Berth.meaning c.args.berth.now in
    let b = g.B.Berth.meaning c.open.new.berth in
    let flags : d.next ≡ next.Flag = search rules in
    let later = opened_told d c.go_on-in-Flag.new.self a.held.region b.held.region c.is_planned.ensures.flag flags c.go_on-in-Flag.ensures.next c.go_on-in-Flag.ensures.image c.go_on-in-Flag.ensures.heap stands (c.in_ok-open-in-Flag.ensures.done told) in
    let long : 16 ≤ length (c.go_on-in-Flag.new.self).image = subst (λ (i : List ℕ). 16 ≤ length i) (sym c.go_on-in-Flag.ensures.image) c.is_planned.ensures.long in
    long_enough (c.go_on-in-Flag.new.self) b.held.region long (later_nothing c.go_on-in-Flag.new.self c.go_on-in-Flag.ensures.next) later

pub returns-in_ok-open-in-Flag-clause-moments : goal.returns-in_ok-open-in-Flag-clause-moments
returns-in_ok-open-in-Flag-clause-moments g c =
    λ told stands all.
    let d = c.args.self.now in
    let a = g.B.Berth.meaning c.args.berth.now in
    let b = g.B.Berth.meaning c.open.new.berth in
    let flags : d.next ≡ next.Flag = search rules in
    drains_opened d a b flags c.is_planned.ensures.flag (flag_behind d a.held.region flags stands) (c.open.ensures.moments told all)

pub returns-in_ok-open-in-Flag-clause-inside : goal.returns-in_ok-open-in-Flag-clause-inside
returns-in_ok-open-in-Flag-clause-inside g c =
    λ told stands later.
    let d = c.args.self.now in
    let a = g.B.Berth.meaning c.args.berth.now in
    let b = g.B.Berth.meaning c.open.new.berth in
    let flags : d.next ≡ next.Flag = search rules in
    let some : 1 ≤ length a.held.region = omega (arith, flag_length d a.held.region c.is_planned.ensures.long flags stands, c.is_planned.ensures.long) in
    in_room (length a.held.region) d a b (flag_in_room d a.held.region c.is_planned.ensures.long flags stands) (c.open.ensures.inside told some)

pub returns-in_err-begin-in-Begin-clause-begun : goal.returns-in_err-begin-in-Begin-clause-begun
returns-in_err-begin-in-Begin-clause-begun g c =
    λ told begins.
    c.begin.ensures.begun told

pub returns-in_ok-begin-in-Begin-clause-begun : goal.returns-in_ok-begin-in-Begin-clause-begun
returns-in_ok-begin-in-Begin-clause-begun g c =
    λ told begins.
    c.begin.ensures.begun told
