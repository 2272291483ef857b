use Rattle.std.proofs.Common.{rules, ◌≡◌, ◌<◌, length, arith}
use lib.Seq.{take_all}
use Rattle.model.specs.Errors.{has_his, has_act}
use Rattle.errors.proofs.Laws.Bits.{any_next}
use Rattle.errors.proofs.words.any_errors.Goals as goal

pub loop-ch-preserved : goal.loop-ch-preserved
loop-ch-preserved c =
    let l = c.loop-ch in
    let cs = c.args.channels in
    let h : l.ch-index < length cs = search rules in (
      any_next has_his cs l.ch-index _ _ h l.invariant.0 c.any_bit-his.ensures,
      any_next has_act cs l.ch-index _ _ h l.invariant.1 c.any_bit-act.ensures,
    )

pub returns : goal.returns
returns c =
    let l = c.loop-ch in
    let cs = c.args.channels in
    let n : length cs ≡ 16 = search rules in
    rw (l.invariant.0, l.invariant.1, take_all l.ch-index cs (omega arith))
