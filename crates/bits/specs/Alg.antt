-- The operations that the definition of a register is written in. A definition is written once,
-- over any `Alg`. `plain` is the one that a contract cites: words are numbers and tests are Bools.
-- The proofs have another, of expressions. Source: arithmetic, and C's operators on words.
use Rattle.std.specs.Prelude.{Bool, not, ◌&&◌, ◌||◌, cond, ℕ, ◌-◌, ◌*◌, ◌/◌, ◌%◌, ◌^◌, eqb}
use Rattle.std.specs.Int.Bits.{bit_and, bit_or}

pub record Alg : Type 1 where
  infixl 60 ◌&◌
  infixl 50 ◌∣◌
  infix 40 ◌≐◌
  pub Word : Type 0
  pub Test : Type 0
  pub num : ℕ → Word
  pub ◌∣◌ : Word → Word → Word  -- the bits of either: `a | b`
  pub ◌&◌ : Word → Word → Word  -- the bits of both: `a & b`
  pub compl : Word → Word  -- `~a` at 64 bits
  pub field : ℕ → ℕ → Word → Word  -- `field o w v`: the w bits of v from bit o on
  pub at : ℕ → Word → Word  -- `at o x`: x, placed at bit o
  pub ones : ℕ → ℕ → Word  -- `ones o w`: the w bits from bit o on, all 1
  pub insert : ℕ → ℕ → Word → Word → Word  -- `insert o w x v`: v with x in the w bits from bit o on
  pub merged : Word → Word → Word → Word  -- `merged old v m`: of v where m has a 1, else of old
  pub when : Test → Word → Word  -- `when t x`: x where t, else 0
  pub choose : Test → Word → Word → Word  -- `choose t x y`: x where t, else y
  pub ◌≐◌ : Word → Word → Test  -- equal
  pub both : Test → Test → Test
  pub either : Test → Test → Test
  pub isnt : Test → Test

abbrev pub plain : Alg
plain =
    record {
      Word = ℕ;
      Test = Bool;
      num = λ n. n;
      ◌∣◌ = bit_or;
      ◌&◌ = bit_and;
      compl = λ m. (2 ^ 64 - 1) - m;
      field = λ o w v. v / 2 ^ o % 2 ^ w;
      at = λ o x. x * 2 ^ o;
      ones = λ o w. (2 ^ w - 1) * 2 ^ o;
      insert = λ o w x v.
          bit_or (bit_and v ((2 ^ 64 - 1) - (2 ^ w - 1) * 2 ^ o))
          (bit_and (x * 2 ^ o) ((2 ^ w - 1) * 2 ^ o));
      merged = λ old v m. bit_or (bit_and old ((2 ^ 64 - 1) - m)) (bit_and v m);
      when = λ t x. cond t x 0;
      choose = cond;
      ◌≐◌ = eqb;
      both = ◌&&◌;
      either = ◌||◌;
      isnt = not;
    }
