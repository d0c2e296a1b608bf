-- One of two expressions, chosen by a test that no expression tells, evaluated is one of two words.
use Prim.Native.Nat.{ℕ}
use mathlib.Core.Bool.{Bool, true, false, cond}
use mathlib.Core.Path.{◌≡◌}
use Rattle.bits.proofs.Decide.{W, Env, eval}

pub either : (ρ : Env) (b : Bool) (x y : W) {m n : ℕ} → eval x ρ ≡ m → eval y ρ ≡ n → eval (cond b x y) ρ ≡ cond b m n
either ρ true x y p q = p
either ρ false x y p q = q
