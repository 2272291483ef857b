use Rattle.std.proofs.Common.{rules, arith}
use Rattle.charge.proofs.Laws.Blocks.{first, next, last}
use Rattle.charge.proofs.AllowedBlocks.fill.Goals as goal

pub loop-limit-init : goal.loop-limit-init
loop-limit-init c =
    let b = c.args.self.now in
    search (rules, first b.limits.now b.prices.now c.args.litres c.requires b.rise b.cheap b.one_more)

pub overflow_sub-limit : goal.overflow_sub-limit
overflow_sub-limit c =
    let s = c.in-Some.ensures.steps in
    let n = next _ _ _ _ _ _ _ _ _ _ (rw (s.0, s.1) at c.loop-limit.invariant) in
    n.room

pub overflow_mul-sum : goal.overflow_mul-sum
overflow_mul-sum c =
    let s = c.in-Some.ensures.steps in
    let n = next _ _ _ _ _ _ _ _ _ _ (rw (s.0, s.1) at c.loop-limit.invariant) in
    rw c.min-taken.ensures (omega (arith, n.turn.rest, n.turn.bounded))

pub overflow_add-sum : goal.overflow_add-sum
overflow_add-sum c =
    let s = c.in-Some.ensures.steps in
    let n = next _ _ _ _ _ _ _ _ _ _ (rw (s.0, s.1) at c.loop-limit.invariant) in
    rw c.min-taken.ensures (omega (arith, n.turn.rest, n.turn.bounded))

pub loop-limit-preserved : goal.loop-limit-preserved
loop-limit-preserved c =
    let s = c.in-Some.ensures.steps in
    let n = next _ _ _ _ _ _ _ _ _ _ (rw (s.0, s.1) at c.loop-limit.invariant) in
    rw c.min-taken.ensures n.turn

pub overflow_mul-result : goal.overflow_mul-result
overflow_mul-result c =
    let t = c.loop-limit.invariant in
    let e = last _ _ _ _ _ _ _ _ (λ a. a.1.0) (λ b. b.1.0) c.in-None.ensures.steps t in
    omega (arith, e, t.bounded)

pub overflow_add-result : goal.overflow_add-result
overflow_add-result c =
    let t = c.loop-limit.invariant in
    let e = last _ _ _ _ _ _ _ _ (λ a. a.1.0) (λ b. b.1.0) c.in-None.ensures.steps t in
    omega (arith, e, t.bounded)

pub returns : goal.returns
returns c =
    let t = c.loop-limit.invariant in
    let e = last _ _ _ _ _ _ _ _ (λ a. a.1.0) (λ b. b.1.0) c.in-None.ensures.steps t in
    (e, omega (arith, e, t.bounded))
