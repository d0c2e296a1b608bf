-- `vectors::digits::read_number`: a number of fewer than sixteen digits has room for one more.
use Rattle.std.proofs.Common.{◌≡◌, ℕ, ◌+◌, ◌*◌, ◌/◌, ◌%◌, ◌<◌, ◌≤◌, ◌^◌, List, arith, lit<, length, get_or, take, add-one}
use Rattle.std.proofs.Math.Nat.{pow-le-pow_right}
use Rattle.std.proofs.lemmas.Grind.{common_steps}
use Rattle.vectors.specs.Text.{hex_digit_ascii, last_digits}
use Rattle.vectors.proofs.digits.read_number.Goals as goal

has_room : (i n : ℕ) → i < 16 → n < 16 ^ i → n < 2 ^ 60
has_room i n lt fits =
    let le : i ≤ 15 = omega arith in
    let h : 16 ^ i ≤ 16 ^ 15 = pow-le-pow_right (lit< tt) le in omega arith

spells_more : (i n d : ℕ) (s : List ℕ) → i < length s → d < 16 → hex_digit_ascii d ≡ get_or s i 0 → last_digits 16 i n ≡ take i s → last_digits 16 (i + 1) (16 * n + d) ≡ take (i + 1) s
spells_more i n d s lt small digit so_far =
    let q : (16 * n + d) / 16 ≡ n = omega arith in
    let r : (16 * n + d) % 16 ≡ d = omega arith in
    grind (arith, common_steps, q, r)

pub overflow_mul-n : goal.overflow_mul-n
overflow_mul-n c = let h = has_room _ _ (omega arith) c.loop-b.invariant.fits in omega arith

pub overflow_add-n : goal.overflow_add-n
overflow_add-n c =
    let h = has_room _ _ (omega arith) c.loop-b.invariant.fits in
    let d = c.in_ok-n.ensures.digit.0 in omega arith

pub loop-b-preserved : goal.loop-b-preserved
loop-b-preserved c =
    let d = c.in_ok-n.ensures.digit in
    record {
      fits = rw add-one (omega arith);
      spelled = spells_more _ _ _ _ (omega arith) d.0 d.1 c.loop-b.invariant.spelled;
    }
