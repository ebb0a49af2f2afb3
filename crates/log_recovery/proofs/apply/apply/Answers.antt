use Rattle.std.proofs.Common.{rules, ◌≡◌, ◌∙◌, ◌+◌, ◌≤◌, ℕ, List, ◌∷◌, ◌++◌, [], get_or, set, position, map, Some, sym, ap, subst, length, Ok, Err, arith}
use Rattle.std.specs.Prelude.{Result, bytes_eq}
use Rattle.std.proofs.lemmas.List.{map-set}
use Rattle.std.proofs.lemmas.Result.{err_from_is_err_and}
use Rattle.std.proofs.Math.ListN.{get_or-map}
use Rattle.leaf_model.specs.declared.writes.Write.{Write}
use Rattle.table_state.specs.Tables.{Table, added_count, bare, columns_most}
use Rattle.table_state.specs.declared.fault.AddFault.{AddFault}
use Rattle.table_state.specs.declared.fault.AddFault.TheVariants as add
use Rattle.disk_backup.specs.Scanning.{record_is}
use Rattle.log_recovery.specs.declared.fault.RecoveryFault.{RecoveryFault}
use Rattle.log_recovery.specs.Applying.{Applies, HasApplied, ReplaysAll}
use Rattle.log_recovery.proofs.Places.{stands_at}
use Rattle.log_recovery.proofs.Applying.{before_few, before_room, applied_more, applies_err}
use Rattle.log_recovery.proofs.Counting.{few_more}
use Rattle.log_recovery.proofs.apply.apply.Goals as goal

read_bare : (items : List Table) (i : ℕ) (t : Table) → t ≡ get_or items i t → bare t ≡ get_or (map bare items) i (bare t)
read_bare items i t read = ap bare read ∙ sym (get_or-map bare items i t)

refused_bare : (t : Table) (writes : List Write) (fault : AddFault) (now : Table) → ReplaysAll t writes (Err fault) now → ReplaysAll (bare t) writes (Err fault) now
refused_bare t writes add.Full now refused = refused
refused_bare t writes add.NoMemory now refused = refused

pub replay_all-requires-clause-few : goal.replay_all-requires-clause-few
replay_all-requires-clause-few c =
    let names = c.args.names.now in
    let r = record_is c.args.flush in
    let items = c.args.tables.now.items in
    let tables = map bare items in
    let i = c.in-Some.place in
    let had = c.index_mut.result.now in
    let before = bare had in
    let found : position (bytes_eq r.name) names ≡ Some i = search rules in
    let at = stands_at r.name names i found in
    let read : before ≡ get_or tables i before = read_bare items i had c.index_mut.ensures.value in
    before_few c.requires.may.records r names tables c.requires.may.applied i at before read

pub replay_all-requires-clause-room : goal.replay_all-requires-clause-room
replay_all-requires-clause-room c =
    let names = c.args.names.now in
    let r = record_is c.args.flush in
    let items = c.args.tables.now.items in
    let tables = map bare items in
    let i = c.in-Some.place in
    let had = c.index_mut.result.now in
    let before = bare had in
    let found : position (bytes_eq r.name) names ≡ Some i = search rules in
    let at = stands_at r.name names i found in
    let read : before ≡ get_or tables i before = read_bare items i had c.index_mut.ensures.value in
    let room = before_room c.requires.may.records r names tables c.requires.may.applied i at before read c.requires.may.room in
    omega (arith, room, ap length c.into_inner.ensures)

pub returns-in_err-replay_all-in-Some-clause-does : goal.returns-in_err-replay_all-in-Some-clause-does
returns-in_err-replay_all-in-Some-clause-does c =
    λ records so_far.
    let names = c.args.names.now in
    let r = record_is c.args.flush in
    let items = c.args.tables.now.items in
    let tables = map bare items in
    let i = c.in-Some.place in
    let had = c.index_mut.result.now in
    let before = bare had in
    let found : position (bytes_eq r.name) names ≡ Some i = search rules in
    let at = stands_at r.name names i found in
    let read : before ≡ get_or tables i before = read_bare items i had c.index_mut.ensures.value in
    let now = c.replay_all.new.table in
    let left = map bare (set items i now) in
    let p = err_from_is_err_and c.from_residual.result c.from_residual.ensures.1 in
    let refused = subst (λ (l : List Write). ReplaysAll had l (Err c.in_err-replay_all-in-Some.field-0.0) now) c.into_inner.ensures c.in_err-replay_all-in-Some.ensures.does in
    let here = applies_err records r names tables so_far i at before read c.in_err-replay_all-in-Some.field-0.0 now left (refused_bare had r.writes c.in_err-replay_all-in-Some.field-0.0 now refused) in
    let told = subst (λ (fault : RecoveryFault). Applies names records r (Err fault) left) (sym p.2) here in
    subst (λ (result : Result (Unit {0}) RecoveryFault). Applies names records r result left) (sym p.1) told

pub returns-in_ok-replay_all-in-Some-clause-does : goal.returns-in_ok-replay_all-in-Some-clause-does
returns-in_ok-replay_all-in-Some-clause-does c =
    λ records so_far.
    let names = c.args.names.now in
    let r = record_is c.args.flush in
    let items = c.args.tables.now.items in
    let tables = map bare items in
    let i = c.in-Some.place in
    let had = c.index_mut.result.now in
    let before = bare had in
    let found : position (bytes_eq r.name) names ≡ Some i = search rules in
    let at = stands_at r.name names i found in
    let read : before ≡ get_or tables i before = read_bare items i had c.index_mut.ensures.value in
    let now = c.replay_all.new.table in
    let done = subst (λ (l : List Write). ReplaysAll had l (Ok tt) now) c.into_inner.ensures c.in_ok-replay_all-in-Some.ensures.does in
    let next = applied_more records r names tables so_far i at before read c.requires.distinct (bare now) done.0 done.1 in
    subst (HasApplied names (records ++ r ∷ [])) (sym (map-set bare items i now)) next

pub returns-in_ok-replay_all-in-Some-clause-columns : goal.returns-in_ok-replay_all-in-Some-clause-columns
returns-in_ok-replay_all-in-Some-clause-columns c =
    λ records so_far.
    let names = c.args.names.now in
    let r = record_is c.args.flush in
    let items = c.args.tables.now.items in
    let i = c.in-Some.place in
    let had = c.index_mut.result.now in
    let now = c.replay_all.new.table in
    let found : position (bytes_eq r.name) names ≡ Some i = search rules in
    let few = subst (λ (l : List Write). columns_most now.store ≤ columns_most had.store + added_count l) c.into_inner.ensures c.in_ok-replay_all-in-Some.ensures.columns in
    few_more records r names i (stands_at r.name names i found) items had now c.index_mut.ensures.value few so_far
