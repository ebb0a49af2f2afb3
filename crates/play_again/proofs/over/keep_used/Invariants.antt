use Rattle.std.specs.Prelude.{map, string_bytes}
use Rattle.play.specs.Played.{leaves_asked}
use Rattle.run_words.specs.Words.{request_of}
use Rattle.play_again.specs.Over.{KeepsBases}
use Rattle.play_again.proofs.over.keep_used.Given as goal

abbrev pub ghosts-keep_bases : goal.ghosts-keep_bases
ghosts-keep_bases g a = record { fits = λ known. KeepsBases (leaves_asked (request_of (map string_bytes a._words.now)) (g.S.Source.left a._source.now)) g.B.Berth.meaning a._berths.now.items known }
