-- `float::rounding_shift` meets its contract: below, above or at half the unit, the three cases of `closest`. Assumes nothing.
use Rattle.std.proofs.Common.{◌≡◌, ℕ, zero, suc, ◌*◌, ◌/◌, ◌%◌, ◌^◌, ◌<◌, sym, ◌∙◌, lt_of_lt_of_le, mod-eq_of_lt, div-lt_iff_lt-mul, mul-le-mul_left, one-mul, pow-suc, add-one, arith, pow_pos, pow_mono, rules}
use lib.Pow.{pow-lt}
use Rattle.float.proofs.Rounding.{closest_down, closest_tie, closest_up}
use Rattle.float.proofs.rounding_shift.Goals as goal
use Rattle.float.proofs.rounding_shift.Goals.{Start}

unit : (k : ℕ) → k < 64 → 1 * 2 ^ k % 2 ^ 64 ≡ 2 ^ k
unit k h = rw (one-mul (2 ^ k)) (mod-eq_of_lt (pow-lt h))

pub nonzero_rem-remainder : goal.nonzero_rem-remainder
nonzero_rem-remainder c = rw (unit c.args.k c.requires.1) (pow_pos c.args.k)

-- k is 1 at least
quotient-lt : (c : Start) → c.args.n / 2 ^ c.args.k < 2 ^ 63
quotient-lt c = (div-lt_iff_lt-mul (pow_pos c.args.k)).1 (lt_of_lt_of_le {m = 2 ^ 64} (search rules) (mul-le-mul_left (2 ^ 63) (pow_mono c.requires.0)))

pub overflow_add-result : goal.overflow_add-result
overflow_add-result c = omega (arith, quotient-lt (goal.at.overflow_add-result c).Start)

pub overflow_add-result-else-remainder-half-2 : goal.overflow_add-result-else-remainder-half-2
overflow_add-result-else-remainder-half-2 c = omega (arith, quotient-lt (goal.at.overflow_add-result-else-remainder-half-2 c).Start)

halved : (k : ℕ) → 0 < k → 2 ^ k / 2 * 2 ≡ 2 ^ k
halved zero h = omega arith
halved (suc k) h = rw (pow-suc 2 k) (omega arith)

pub returns-then-remainder-half : goal.returns-then-remainder-half
returns-then-remainder-half c =
    let a = c.args in
    let t = rw (unit a.k c.requires.1) at c.if-remainder-half.true in
    sym (closest_down a.n (2 ^ a.k) (omega arith))

pub returns-then-remainder-half-2 : goal.returns-then-remainder-half-2
returns-then-remainder-half-2 c =
    let a = c.args in
    let t = rw (unit a.k c.requires.1) at c.if-remainder-half-2.true in
    add-one (a.n / 2 ^ a.k) ∙ sym (closest_up a.n (2 ^ a.k) (omega arith))

pub returns-else-remainder-half-2 : goal.returns-else-remainder-half-2
returns-else-remainder-half-2 c =
    let a = c.args in
    let u = unit a.k c.requires.1 in
    let s = rw u at c.if-remainder-half.false in
    let t = rw u at c.if-remainder-half-2.false in
    sym (closest_tie a.n (2 ^ a.k) (omega (arith, halved a.k c.requires.0)))
