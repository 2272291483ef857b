use Rattle.std.proofs.Common.{rules, ◌≡◌, ℕ, length}
use Rattle.std.proofs.lemmas.List.{drop-replicate}
use Rattle.reads.specs.Held.{width, held}
use Rattle.reads.proofs.buffer.hold.Goals as goal

pub returns : goal.returns
unfolding held
returns g c =
    let n : length c.args.src ≡ g.row.N = search rules in
    rw (c.copy_from_slice.ensures.after, n, drop-replicate {X = ℕ} g.row.N width 0)
