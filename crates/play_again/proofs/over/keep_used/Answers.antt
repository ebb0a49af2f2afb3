use Rattle.std.specs.Prelude.{map, string_bytes}
use Rattle.play.specs.Played.{leaves_asked}
use Rattle.run_words.specs.Words.{request_of}
use Rattle.play_again.proofs.Begun.{all_kept}
use Rattle.play_again.proofs.over.keep_used.Goals as goal

pub keep_bases-requires : goal.keep_bases-requires
keep_bases-requires g c = all_kept (leaves_asked (request_of (map string_bytes c.args.words.now)) (g.S.Source.left c.args.source.now)) g.B.Berth.meaning c.args.berths.now.items c.requires
