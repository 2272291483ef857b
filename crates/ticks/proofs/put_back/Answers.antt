use mathlib.Core.Path.{refl}
use Rattle.ticks.specs.PutBack.{put_back}
use Rattle.ticks.proofs.put_back.Goals as goal

pub returns : goal.returns
unfolding put_back
returns c = refl
