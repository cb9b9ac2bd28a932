use Rattle.std.proofs.Common.{◌≤◌, ◌<◌, ◌^◌, get_or, arith, refl, ℕ, lit<}
use Rattle.std.specs.Char.{IsAsciiDigit}
use Rattle.std.proofs.Math.Nat.{pow-le-pow_right}
use Rattle.s10_core.proofs.Decimals.{number_of-more, grows}
use Rattle.s10_jobs.proofs.delivery_line.number.Goals as goal

-- A number of at most nine digits.
below_a_billion : (number count : ℕ) → number < 10 ^ count → count < 10 → number < 1000000000
below_a_billion number count small few =
    let widest : 10 ^ count ≤ 10 ^ 9 =
    pow-le-pow_right (lit< tt) (let h : count ≤ 9 = omega arith in h) in
    omega arith

pub overflow_mul-number : goal.overflow_mul-number
overflow_mul-number c =
    let small = below_a_billion _ _ c.loop-digit.invariant.small (omega arith) in omega arith

pub overflow_add-number : goal.overflow_add-number
overflow_add-number c =
    let small = below_a_billion _ _ c.loop-digit.invariant.small (omega arith) in
    omega (arith, c.type_inv.digits c.loop-digit.digit-index)

pub loop-digit-preserved : goal.loop-digit-preserved
loop-digit-preserved c =
    let digit : IsAsciiDigit (get_or c.args.digits.now c.loop-digit.digit-index 0) =
    c.requires.digits c.loop-digit.digit-index 0 (omega arith) in
    record {
      value = rw (
        number_of-more c.args.digits.now c.loop-digit.digit-index (omega arith),
        ← c.loop-digit.invariant.value,
      ) refl;
      small = grows _ _ _ c.loop-digit.invariant.small digit.1;
    }
