-- Tests: what a yes to both says of each. Assumes nothing.
use mathlib.Core.Bool.{Bool, true, false, ◌&&◌}
use lib.Dec.{T}

-- a conjunction of tests taken apart
pub both : (a b : Bool) → T (a && b) → T a × T b
both true b t = (tt, t)
both false b t = absurd t

-- and put together
pub join : (a b : Bool) → T a → T b → T (a && b)
join true b s t = t
join false b s t = absurd s
