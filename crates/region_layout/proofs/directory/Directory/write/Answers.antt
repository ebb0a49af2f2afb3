use Rattle.std.proofs.Common.{◌≡◌, ◌∙◌, ◌++◌, List, ℕ, ap}
use Rattle.region_layout.specs.Directory.{directory_at}
use Rattle.region_layout.specs.Written.{directory_bytes}
use Rattle.region_layout.proofs.Entries.{directory_again}
use Rattle.region_layout.proofs.directory.Directory.write.Goals as goal

pub returns-clause-read : goal.returns-clause-read
returns-clause-read c =
    let all : c.put_directory.new.out.items ≡ directory_bytes c.args.self.now = c.in_ok-put_directory.ensures ∙ ap (λ (w : List ℕ). w ++ directory_bytes c.args.self.now) c.new-out.ensures.items in
    ap directory_at all ∙ directory_again c.args.self.now c.requires.fits
