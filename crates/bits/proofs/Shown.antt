-- The operations of a definition as expressions: `eval (d shown (var 0)) ρ` computes to `d plain
-- v`.
use Prim.Native.Nat.{ℕ, ◌-◌, ◌*◌, ◌^◌}
use Rattle.bits.specs.Alg.{Alg}
use Rattle.bits.proofs.Decide.{W, B, lit, ◌&◌, ◌∣◌, inv, shr, shl, low, ite, ◌≐◌, both, either, isnt}

abbrev pub shown : Alg
shown =
    record {
      Word = W;
      Test = B;
      num = lit;
      ◌∣◌ = ◌∣◌;
      ◌&◌ = ◌&◌;
      compl = inv;
      field = λ o w v. low w (shr o v);
      at = shl;
      ones = λ o w. lit ((2 ^ w - 1) * 2 ^ o);
      insert = λ o w x v. (v & inv (lit ((2 ^ w - 1) * 2 ^ o))) ∣ (shl o x & lit ((2 ^ w - 1) * 2 ^ o));
      merged = λ old v m. (old & inv m) ∣ (v & m);
      when = λ t x. ite t x (lit 0);
      choose = ite;
      ◌≐◌ = ◌≐◌;
      both = both;
      either = either;
      isnt = isnt;
    }

-- `set_csr_field` as an expression: the filter f of w takes x, shifted to o
abbrev pub set_field : W → ℕ → ℕ → W → W
set_field w o f x = (w & inv (lit f)) ∣ (low 64 (shl o x) & lit f)
