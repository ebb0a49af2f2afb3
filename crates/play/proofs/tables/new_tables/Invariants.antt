use Rattle.play.specs.Runs.{table_bases}
use Rattle.play.proofs.tables.new_tables.Given as goal

-- each table is founded with what the base of its leaf says of its name, where N knows it
abbrev pub ghosts-new : goal.ghosts-new
ghosts-new g a = record { base = table_bases g.N.Bases.base a.names.now }
