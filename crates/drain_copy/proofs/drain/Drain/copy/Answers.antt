use Rattle.std.proofs.Common.{◌≡◌, ◌+◌, ◌++◌, ◌≤◌, List, ℕ, length, drop, sym, ap, ◌∙◌, subst, inl, arith}
use Rattle.drain_copy.specs.Draining.{directory_of}
use Rattle.drain_copy.proofs.Moments.{drains_closed, in_room}
use Rattle.drain_copy.proofs.Standing.{copy_ends, column_told, directory_told, column_in_room, directory_in_room, long_enough, later_copy, later_flag, on_err}
use Rattle.drain_copy.proofs.drain.Drain.copy.Goals as goal

pub returns-in_err-append-in-Some-clause-failed : goal.returns-in_err-append-in-Some-clause-failed
returns-in_err-append-in-Some-clause-failed g c =
    λ told stands closed.
    let d = c.args.self.now in
    let a = g.B.Berth.meaning c.args.berth.now in
    let at = c.written_to-at.result in
    on_err c.from_residual.result _ (inl (c.in_err-append-in-Some.ensures.failed told (copy_ends d at a.held.region c.requires.copies c.written_to-at.ensures.place c.written_to-at.ensures.head stands)))

pub returns-in_err-append-in-Some-clause-moments : goal.returns-in_err-append-in-Some-clause-moments
returns-in_err-append-in-Some-clause-moments g c =
    λ told stands all.
    let d = c.args.self.now in
    let a = g.B.Berth.meaning c.args.berth.now in
    let at = c.written_to-at.result in
    let b = g.B.Berth.meaning c.append.new.berth in
    drains_closed d a b (c.append.ensures.moments told (copy_ends d at a.held.region c.requires.copies c.written_to-at.ensures.place c.written_to-at.ensures.head stands) all)

pub returns-in_err-append-in-Some-clause-inside : goal.returns-in_err-append-in-Some-clause-inside
returns-in_err-append-in-Some-clause-inside g c =
    λ told stands later.
    let d = c.args.self.now in
    let a = g.B.Berth.meaning c.args.berth.now in
    let at = c.written_to-at.result in
    let b = g.B.Berth.meaning c.append.new.berth in
    in_room (at + length c.as_slice.result.now) d a b (column_in_room d c.in-Some.column c.take_column.new.self.heap at (length c.as_slice.result.now) c.in-Some.ensures.some c.written_to-at.ensures.place (ap (λ (l : List ℕ). length l) c.as_slice.ensures)) (c.append.ensures.inside told (copy_ends d at a.held.region c.requires.copies c.written_to-at.ensures.place c.written_to-at.ensures.head stands))

pub returns-in_ok-append-in-Some-clause-told : goal.returns-in_ok-append-in-Some-clause-told
returns-in_ok-append-in-Some-clause-told g c =
    λ told stands.
    let d = c.args.self.now in
    let a = g.B.Berth.meaning c.args.berth.now in
    let at = c.written_to-at.result in
    let b = g.B.Berth.meaning c.append.new.berth in
    let now_is : b.held.region ≡ a.held.region ++ c.in-Some.column = c.in_ok-append-in-Some.ensures.done told (copy_ends d at a.held.region c.requires.copies c.written_to-at.ensures.place c.written_to-at.ensures.head stands) ∙ ap (λ (l : List ℕ). a.held.region ++ l) c.as_slice.ensures in
    column_told d c.take_column.new.self c.in-Some.column a.held.region b.held.region c.requires.copies c.take_column.ensures.next c.take_column.ensures.image c.in-Some.ensures.some stands now_is

pub returns-in_ok-append-in-Some-clause-room : goal.returns-in_ok-append-in-Some-clause-room
returns-in_ok-append-in-Some-clause-room g c =
    λ told stands.
    let d = c.args.self.now in
    let a = g.B.Berth.meaning c.args.berth.now in
    let at = c.written_to-at.result in
    let b = g.B.Berth.meaning c.append.new.berth in
    let now_is : b.held.region ≡ a.held.region ++ c.in-Some.column = c.in_ok-append-in-Some.ensures.done told (copy_ends d at a.held.region c.requires.copies c.written_to-at.ensures.place c.written_to-at.ensures.head stands) ∙ ap (λ (l : List ℕ). a.held.region ++ l) c.as_slice.ensures in
    let later = column_told d c.take_column.new.self c.in-Some.column a.held.region b.held.region c.requires.copies c.take_column.ensures.next c.take_column.ensures.image c.in-Some.ensures.some stands now_is in
    let whole : 16 ≤ length d.image = omega (arith, c.written_to-at.ensures.place, c.written_to-at.ensures.head) in
    let long : 16 ≤ length (c.take_column.new.self).image = subst (λ (i : List ℕ). 16 ≤ length i) (sym (c.take_column.ensures.image)) whole in
    long_enough (c.take_column.new.self) b.held.region long (later_copy c.take_column.new.self (c.take_column.ensures.next ∙ c.requires.copies)) later

pub returns-in_ok-append-in-Some-clause-moments : goal.returns-in_ok-append-in-Some-clause-moments
returns-in_ok-append-in-Some-clause-moments g c =
    λ told stands all.
    let d = c.args.self.now in
    let a = g.B.Berth.meaning c.args.berth.now in
    let at = c.written_to-at.result in
    let b = g.B.Berth.meaning c.append.new.berth in
    drains_closed d a b (c.append.ensures.moments told (copy_ends d at a.held.region c.requires.copies c.written_to-at.ensures.place c.written_to-at.ensures.head stands) all)

pub returns-in_ok-append-in-Some-clause-inside : goal.returns-in_ok-append-in-Some-clause-inside
returns-in_ok-append-in-Some-clause-inside g c =
    λ told stands later.
    let d = c.args.self.now in
    let a = g.B.Berth.meaning c.args.berth.now in
    let at = c.written_to-at.result in
    let b = g.B.Berth.meaning c.append.new.berth in
    in_room (at + length c.as_slice.result.now) d a b (column_in_room d c.in-Some.column c.take_column.new.self.heap at (length c.as_slice.result.now) c.in-Some.ensures.some c.written_to-at.ensures.place (ap (λ (l : List ℕ). length l) c.as_slice.ensures)) (c.append.ensures.inside told (copy_ends d at a.held.region c.requires.copies c.written_to-at.ensures.place c.written_to-at.ensures.head stands))

pub returns-in_err-finish-in-None-clause-failed : goal.returns-in_err-finish-in-None-clause-failed
returns-in_err-finish-in-None-clause-failed g c =
    λ told stands closed.
    let d = c.args.self.now in
    let a = g.B.Berth.meaning c.args.berth.now in
    let at = c.written_to-at.result in
    on_err c.from_residual-in_err-finish-in-None.result _ (inl (c.in_err-finish-in-None.ensures.failed told (copy_ends d at a.held.region c.requires.copies c.written_to-at.ensures.place c.written_to-at.ensures.head stands)))

pub returns-in_err-finish-in-None-clause-moments : goal.returns-in_err-finish-in-None-clause-moments
returns-in_err-finish-in-None-clause-moments g c =
    λ told stands all.
    let d = c.args.self.now in
    let a = g.B.Berth.meaning c.args.berth.now in
    let at = c.written_to-at.result in
    let b = g.B.Berth.meaning c.finish.new.berth in
    drains_closed d a b (c.finish.ensures.moments told (copy_ends d at a.held.region c.requires.copies c.written_to-at.ensures.place c.written_to-at.ensures.head stands) all)

pub returns-in_err-finish-in-None-clause-inside : goal.returns-in_err-finish-in-None-clause-inside
returns-in_err-finish-in-None-clause-inside g c =
    λ told stands later.
    let d = c.args.self.now in
    let a = g.B.Berth.meaning c.args.berth.now in
    let at = c.written_to-at.result in
    let b = g.B.Berth.meaning c.finish.new.berth in
    in_room (at + length c.directory.result.now) d a b (directory_in_room d at (length c.directory.result.now) c.written_to-at.ensures.place (ap (λ (l : List ℕ). length l) (c.directory.ensures ∙ ap directory_of c.take_column.ensures.image))) (c.finish.ensures.inside told (copy_ends d at a.held.region c.requires.copies c.written_to-at.ensures.place c.written_to-at.ensures.head stands))

pub returns-in_ok-finish-in-None-clause-told : goal.returns-in_ok-finish-in-None-clause-told
returns-in_ok-finish-in-None-clause-told g c =
    λ told stands.
    let d = c.args.self.now in
    let a = g.B.Berth.meaning c.args.berth.now in
    let at = c.written_to-at.result in
    let b = g.B.Berth.meaning c.finish.new.berth in
    let s = c.take_column.new.self in
    let e = c.go_on.new.self in
    let now_is = c.in_ok-finish-in-None.ensures.done told (copy_ends d at a.held.region c.requires.copies c.written_to-at.ensures.place c.written_to-at.ensures.head stands) in
    directory_told d e c.head-head.result c.directory.result.now a.held.region b.held.region c.requires.copies c.in-None.ensures.none.0 c.go_on.ensures.next (c.go_on.ensures.image ∙ c.take_column.ensures.image) (c.go_on.ensures.heap ∙ c.in-None.ensures.none.1) (c.directory.ensures ∙ ap directory_of c.take_column.ensures.image) (subst (λ (i : List ℕ). c.head-head.result ++ drop 16 i ≡ drop 1 i) c.take_column.ensures.image c.head-head.ensures.head) stands now_is

pub returns-in_ok-finish-in-None-clause-room : goal.returns-in_ok-finish-in-None-clause-room
returns-in_ok-finish-in-None-clause-room g c =
    λ told stands.
    let d = c.args.self.now in
    let a = g.B.Berth.meaning c.args.berth.now in
    let at = c.written_to-at.result in
    let b = g.B.Berth.meaning c.finish.new.berth in
    let s = c.take_column.new.self in
    let e = c.go_on.new.self in
    let now_is = c.in_ok-finish-in-None.ensures.done told (copy_ends d at a.held.region c.requires.copies c.written_to-at.ensures.place c.written_to-at.ensures.head stands) in
    let later = directory_told d e c.head-head.result c.directory.result.now a.held.region b.held.region c.requires.copies c.in-None.ensures.none.0 c.go_on.ensures.next (c.go_on.ensures.image ∙ c.take_column.ensures.image) (c.go_on.ensures.heap ∙ c.in-None.ensures.none.1) (c.directory.ensures ∙ ap directory_of c.take_column.ensures.image) (subst (λ (i : List ℕ). c.head-head.result ++ drop 16 i ≡ drop 1 i) c.take_column.ensures.image c.head-head.ensures.head) stands now_is in
    let whole : 16 ≤ length d.image = omega (arith, c.written_to-at.ensures.place, c.written_to-at.ensures.head) in
    let long : 16 ≤ length (c.go_on.new.self).image = subst (λ (i : List ℕ). 16 ≤ length i) (sym (c.go_on.ensures.image ∙ c.take_column.ensures.image)) whole in
    long_enough (c.go_on.new.self) b.held.region long (later_flag c.go_on.new.self c.go_on.ensures.next) later

pub returns-in_ok-finish-in-None-clause-moments : goal.returns-in_ok-finish-in-None-clause-moments
returns-in_ok-finish-in-None-clause-moments g c =
    λ told stands all.
    let d = c.args.self.now in
    let a = g.B.Berth.meaning c.args.berth.now in
    let at = c.written_to-at.result in
    let b = g.B.Berth.meaning c.finish.new.berth in
    drains_closed d a b (c.finish.ensures.moments told (copy_ends d at a.held.region c.requires.copies c.written_to-at.ensures.place c.written_to-at.ensures.head stands) all)

pub returns-in_ok-finish-in-None-clause-inside : goal.returns-in_ok-finish-in-None-clause-inside
returns-in_ok-finish-in-None-clause-inside g c =
    λ told stands later.
    let d = c.args.self.now in
    let a = g.B.Berth.meaning c.args.berth.now in
    let at = c.written_to-at.result in
    let b = g.B.Berth.meaning c.finish.new.berth in
    in_room (at + length c.directory.result.now) d a b (directory_in_room d at (length c.directory.result.now) c.written_to-at.ensures.place (ap (λ (l : List ℕ). length l) (c.directory.ensures ∙ ap directory_of c.take_column.ensures.image))) (c.finish.ensures.inside told (copy_ends d at a.held.region c.requires.copies c.written_to-at.ensures.place c.written_to-at.ensures.head stands))

pub take_column-requires : goal.take_column-requires
take_column-requires g c =
    record { begun = later_copy c.args.self.now c.requires.copies }

pub finish-requires-clause-fits : goal.finish-requires-clause-fits
finish-requires-clause-fits g c =
    let n : length c.directory.result.now ≡ length (directory_of c.args.self.now.image) = ap (λ (l : List ℕ). length l) (c.directory.ensures ∙ ap directory_of c.take_column.ensures.image) in
    omega (arith, n, c.written_to-at.ensures.place, c.written_to-at.ensures.short)
