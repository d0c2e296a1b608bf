-- A decision procedure for equations between words: `by_bits`. An equation is written down as two
-- expressions; antt computes, bit by bit, that they agree whatever the variables are, and `by_bits`
-- makes the equation of it.
use mathlib.Core.Path.{◌≡◌, refl, sym, subst}
use mathlib.Core.Bool.{Bool, true, false, ◌&&◌, beq, cond}
use mathlib.Core.List.{List, [], ◌∷◌}
use Prim.Native.Nat.{ℕ, zero, suc, ◌^◌, ◌<◌, max}
use native.Mathlib.Nat.{mod-lt}
use lib.Pow.{pow_pos}
use lib.Dec.{eqb, T, lit<}
use lib.ListN.{get_or}
use Rattle.bits.proofs.Bools.{and_l, and_r, T→≡, beq→≡}
use Rattle.bits.proofs.Expr.{wid, ok, ok_b}
use Rattle.bits.proofs.Run.{none, run_b, ok_g, each, check, always, alike}
use Rattle.bits.proofs.Sound.{Holds, s_each, s_b, whole}
pub use Rattle.bits.proofs.Expr.{W, B, Env, var, lit, ◌&◌, ◌∣◌, ◌⊕◌, inv, shr, shl, low, ite, flag, ◌≐◌, both, either, isnt, eval, test}
pub use Rattle.bits.proofs.Run.{Given, same, holds, fails}

-- the variables' values: words, each below 2 ^ 64, and flags
abbrev pub AllFit : List ℕ → Type 0
AllFit [] = Unit {0}
AllFit (w ∷ ws) = (w < 2 ^ 64) × AllFit ws

pub all_fit : (ws : List ℕ) → AllFit ws → (k : ℕ) → get_or ws k 0 < 2 ^ 64
all_fit [] h k = lit< tt
all_fit (w ∷ ws) h zero = h.0
all_fit (w ∷ ws) h (suc k) = all_fit ws h.1 k

abbrev pub env : (ws : List ℕ) (fs : List Bool) → AllFit ws → Env
env ws fs h = record { word = λ k. get_or ws k 0; flagged = λ k. get_or fs k false; fits = all_fit ws h }

abbrev pub env0 : List Bool → Env
env0 fs = env [] fs tt

abbrev pub env1 : (a : ℕ) → a < 2 ^ 64 → List Bool → Env
env1 a ha fs = env (a ∷ []) fs (ha, tt)

abbrev pub env2 : (a b : ℕ) → a < 2 ^ 64 → b < 2 ^ 64 → List Bool → Env
env2 a b ha hb fs = env (a ∷ b ∷ []) fs (ha, (hb, tt))

abbrev pub env3 : (a b c : ℕ) → a < 2 ^ 64 → b < 2 ^ 64 → c < 2 ^ 64 → List Bool → Env
env3 a b c ha hb hc fs = env (a ∷ b ∷ c ∷ []) fs (ha, (hb, (hc, tt)))

abbrev pub env4 : (a b c d : ℕ) → a < 2 ^ 64 → b < 2 ^ 64 → c < 2 ^ 64 → d < 2 ^ 64 → List Bool → Env
env4 a b c d ha hb hc hd fs = env (a ∷ b ∷ c ∷ d ∷ []) fs (ha, (hb, (hc, (hd, tt))))

-- where hs hold, the two are the same number, whatever the variables are
pub by_bits_if : (hs : List Given) (a b : W) → T (check hs a b) → (ρ : Env) → Holds ρ hs → eval a ρ ≡ eval b ρ
by_bits_if hs a b t ρ h =
    let n = max (wid a) (wid b) in
    let oo = and_l (ok_g hs && (ok a && ok b)) (each hs a b n) t in
    let o = and_r (ok_g hs) (ok a && ok b) oo in
    whole ρ a b o (s_each ρ hs a b (and_l (ok_g hs) (ok a && ok b) oo) (and_l (ok a) (ok b) o) (and_r (ok a) (ok b) o) h n (and_r (ok_g hs && (ok a && ok b)) (each hs a b n) t))

-- the same with nothing supposed
pub by_bits : (a b : W) → T (check [] a b) → (ρ : Env) → eval a ρ ≡ eval b ρ
by_bits a b t ρ = by_bits_if [] a b t ρ tt

-- a word that is its own 64 lowest bits
pub below_64 : (a : W) → T (check [] a (low 64 a)) → (ρ : Env) → eval a ρ < 2 ^ 64
below_64 a t ρ = subst (λ (x : ℕ). x < 2 ^ 64) (sym (by_bits a (low 64 a) t ρ)) (mod-lt (eval a ρ) (pow_pos 64))

-- a test that passes
pub by_test : (s : B) → T (always s) → (ρ : Env) → test s ρ ≡ true
by_test s t ρ =
    let u = s_b ρ s (and_l (ok_b s) (run_b s none (λ x p. x)) t) none (λ x p. x) tt (and_r (ok_b s) (run_b s none (λ x p. x)) t) in
    T→≡ (test s ρ) u.passed

-- two tests with the same outcome
pub by_tests : (s t : B) → T (alike s t) → (ρ : Env) → test s ρ ≡ test t ρ
by_tests s t h ρ =
    let run = run_b s none (λ x p. run_b t p (λ y q. beq x y)) in
    let o = and_l (ok_b s && ok_b t) run h in
    let u = s_b ρ s (and_l (ok_b s) (ok_b t) o) none (λ x p. run_b t p (λ y q. beq x y)) tt (and_r (ok_b s && ok_b t) run h) in
    let v = s_b ρ t (and_r (ok_b s) (ok_b t) o) u.seen (λ y q. beq (test s ρ) y) u.agrees u.passed in
    beq→≡ (test s ρ) (test t ρ) (T→≡ (beq (test s ρ) (test t ρ)) v.passed)

one_true : (b : Bool) → ◌≡◌ {A = ℕ} (cond b 1 0) 1 → b ≡ true
one_true true e = refl
one_true false e = absurd (subst (λ (n : ℕ). T (eqb n 0)) e tt)

-- a test that passes where hs hold
pub by_test_if : (hs : List Given) (s : B) → T (check hs (ite s (lit 1) (lit 0)) (lit 1)) → (ρ : Env) → Holds ρ hs → test s ρ ≡ true
by_test_if hs s t ρ h = one_true (test s ρ) (by_bits_if hs (ite s (lit 1) (lit 0)) (lit 1) t ρ h)
