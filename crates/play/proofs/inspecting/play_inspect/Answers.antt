use Rattle.std.proofs.Common.{Some, None, Err, ap, ◌∙◌}
use Rattle.region_reading.specs.declared.fault.AdoptFault.{AdoptFault}
use Rattle.play.proofs.Looked.{ends_short}
use Rattle.play.proofs.inspecting.play_inspect.Goals as goal

pub returns-in-Ok-clause-done : goal.returns-in-Ok-clause-done
returns-in-Ok-clause-done g c = λ done. record { seen = Some c.in-Ok.seen; is = c.in-Ok.ensures.seen; written = c.tell_region.ensures.done done }

pub returns-in-Ok-clause-short : goal.returns-in-Ok-clause-short
returns-in-Ok-clause-short g c =
    ends_short g.B.Berth.meaning c.args.leaf c.args.berths.now.items _ _ _ c.tell_region.result (Some c.in-Ok.seen) c.in-Ok.ensures.seen c.tell_region.ensures.cut_short
    (λ none. ap (λ sink. g.K.Sink.written sink) (c.tell_region.ensures.unwritten none))

pub returns-in-Err-RegionFault-clause-done : goal.returns-in-Err-RegionFault-clause-done
returns-in-Err-RegionFault-clause-done g c = λ done. record { seen = None; is = c.look_at.ensures.failed (c.in-Err-RegionFault.is ∙ ap (λ (e : AdoptFault). Err e) c.in-Err-RegionFault.field-0-is); written = c.tell_region-in-Err-RegionFault.ensures.done done }

pub returns-in-Err-RegionFault-clause-short : goal.returns-in-Err-RegionFault-clause-short
returns-in-Err-RegionFault-clause-short g c =
    ends_short g.B.Berth.meaning c.args.leaf c.args.berths.now.items _ _ _ c.tell_region-in-Err-RegionFault.result None (c.look_at.ensures.failed (c.in-Err-RegionFault.is ∙ ap (λ (e : AdoptFault). Err e) c.in-Err-RegionFault.field-0-is)) c.tell_region-in-Err-RegionFault.ensures.cut_short
    (λ none. ap (λ sink. g.K.Sink.written sink) (c.tell_region-in-Err-RegionFault.ensures.unwritten none))
