use Rattle.std.proofs.Common.{◌≡◌, ◌++◌, map, take, replicate}
use Rattle.model.specs.Hours.{window_of}
use Rattle.hours.proofs.timetable_of.Given as goal

abbrev pub invariant-loop-k : goal.invariant-loop-k
invariant-loop-k l = l.w-items ≡ map window_of (take l.count (take l.k l.ns ++ replicate 8 0))
