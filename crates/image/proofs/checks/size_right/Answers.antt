use Rattle.image.proofs.Laws.Sections.{size-known}
use Rattle.image.proofs.checks.size_right.Goals as goal

pub returns : goal.returns
returns c = size-known c.args.img.now
