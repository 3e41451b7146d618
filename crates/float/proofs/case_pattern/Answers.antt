-- `float::case_pattern` meets its contract: each arm is a clause of `case_pattern`. Assumes nothing.
use Rattle.float.specs.Narrowing.{case_pattern}
use Rattle.float.proofs.case_pattern.Goals as goal

pub returns-in-Nan : goal.returns-in-Nan
unfolding case_pattern
returns-in-Nan c = cc

pub returns-in-Infinite : goal.returns-in-Infinite
unfolding case_pattern
returns-in-Infinite c = cc

pub returns-in-TooLarge : goal.returns-in-TooLarge
unfolding case_pattern
returns-in-TooLarge c = cc

pub returns-in-Normal : goal.returns-in-Normal
unfolding case_pattern
returns-in-Normal c = cc

pub returns-in-Subnormal : goal.returns-in-Subnormal
unfolding case_pattern
returns-in-Subnormal c = cc

pub returns-in-Zero : goal.returns-in-Zero
unfolding case_pattern
returns-in-Zero c = cc
