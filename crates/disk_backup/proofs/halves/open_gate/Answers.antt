use Rattle.std.proofs.Common.{◌≡◌, ℕ, List, [], ◌∷◌, length, refl, subst, sym, IsTrue}
use Rattle.berth_face.specs.Berth.{Torn, written}
use Rattle.disk_backup.specs.Gates.{LaidAfter, OpenAfter}
use Rattle.berth_face.proofs.Moments.{now_of}
use Rattle.disk_backup.proofs.Bytes.{torn_gate, written_gate}
use Rattle.berth_face.proofs.Steps.{syncs}
use Rattle.disk_backup.proofs.Results.{on_ok_map, on_ok_err}
use Rattle.disk_backup.specs.Came.{Came}
use Rattle.disk_backup.proofs.Came.{writes_come, synced_come}
use Rattle.disk_backup.proofs.halves.open_gate.Goals as goal

gate_torn : (end : ℕ) (owed front old new : List ℕ) → end ≡ length front → LaidAfter front owed old → Torn end 1 old new → LaidAfter front owed new
gate_torn end owed front old new is laid torn = torn_gate front owed old new laid (subst (λ (e : ℕ). Torn e 1 old new) is torn)

pub returns-in_err-disk_write-clause-crash : goal.returns-in_err-disk_write-clause-crash
returns-in_err-disk_write-clause-crash g c =
    λ owed told.
    let old = g.B.Berth.meaning c.args.berth.now in
    let mid = g.B.Berth.meaning c.disk_write.new.self in
    let end = c.args.end in (
      writes_come end end 1 (λ front. LaidAfter front owed) (gate_torn end owed) (1 ∷ []) c.disk_write.result old mid refl c.disk_write.ensures.time (c.disk_write.ensures.told told),
      on_ok_err _ c.from_residual.result c.from_residual.ensures.0,
    )

pub returns-clause-crash : goal.returns-clause-crash
returns-clause-crash g c =
    λ owed told.
    let old = g.B.Berth.meaning c.args.berth.now in
    let mid = g.B.Berth.meaning c.disk_write.new.self in
    let new = g.B.Berth.meaning c.disk_sync.new.self in
    let end = c.args.end in
    let laws = g.met.B.Berth g.world.𝓛 g.world.𝓜 g.world.𝓡 ((λ s x. x), (λ x. x), (λ x. x), λ x. x) in
    let wrote = c.disk_write.ensures.told told in
    let first = writes_come end end 1 (λ front. LaidAfter front owed) (gate_torn end owed) (1 ∷ []) c.disk_write.result old mid refl c.disk_write.ensures.time wrote in
    let told_mid : IsTrue mid.tells = subst IsTrue (sym c.disk_write.ensures.time.tells) told in
    let told_new : IsTrue new.tells = subst IsTrue (sym c.disk_sync.ensures.time.tells) told_mid in
    let sync = c.disk_sync.ensures.told told_mid in
    let ok = (c.in_ok-disk_write.ensures.told told).ok in (
      syncs c.disk_sync.result old mid new (Came end (λ front. LaidAfter front owed) (λ front. LaidAfter front owed) old) first (now_of old mid (Came end (λ front. LaidAfter front owed) (λ front. LaidAfter front owed) old) first) c.disk_sync.ensures.time sync,
      on_ok_map c.disk_sync.result
          (λ durable.
          synced_come end (λ front. LaidAfter front owed) (λ front. OpenAfter front owed) end (1 ∷ []) c.disk_write.result c.disk_sync.result old mid new (laws.stands c.args.berth.now told)
          (λ p left. laws.keeps_region c.disk_sync.new.self p told_new left) wrote sync durable
          (λ front is laid. written_gate front owed old.held.disk mid.held.disk laid (subst (λ (e : ℕ). mid.held.disk ≡ written e (1 ∷ []) old.held.disk) is ok)))
          sync.durable,
    )
