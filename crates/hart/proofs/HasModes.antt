-- Which modes a hart has.
use mathlib.Core.Path.{◌≡◌, refl, sym, subst}
use mathlib.Core.Bool.{Bool, true, false, ◌&&◌, ◌||◌}
use Prim.Native.Nat.{ℕ}
use lib.Dec.{eqb}
use borrow.Author.Tests.{eqb-true}
use Rattle.bits.specs.Alg.{plain}
use Rattle.bits.proofs.Bools.{or_right}
use Rattle.rules.specs.Fields.{fields}
use Rattle.rules.proofs.Laws.{mpp_is_mode}
use Rattle.hart.specs.Modes.{mode_u, mode_s, mode_m, is_mode}
use Rattle.hart.specs.Laws.{ByMode, HasModes}
open fields plain use {MPP}

pub by_mode : ByMode
unfolding is_mode
by_mode P s n e u v m = go (eqb n mode_u) (eqb n mode_s) refl refl e
  where
    machine : (b : Bool) → eqb n mode_m ≡ b → b ≡ true → P n
    machine b q r = subst P (sym (eqb-true n mode_m (subst (λ (x : Bool). eqb n mode_m ≡ x) r q))) m

    supervisor : (b : Bool) → s ≡ b → eqb n mode_s ≡ true → (b || eqb n mode_m) ≡ true → P n
    supervisor true p q r = subst P (sym (eqb-true n mode_s q)) (v p)
    supervisor false p q r = machine (eqb n mode_m) refl r

    go : (a b : Bool) → eqb n mode_u ≡ a → eqb n mode_s ≡ b → (a || (b && s) || eqb n mode_m) ≡ true → P n
    go true b p q r = subst P (sym (eqb-true n mode_u p)) u
    go false true p q r = supervisor s refl q r
    go false false p q r = machine (eqb n mode_m) refl r

pub has_modes : (s : Bool) → HasModes s
unfolding is_mode
has_modes s = record {
  user = refl;
  supervisor = λ e. rw e;
  machine = or_right (eqb mode_m mode_s && s) true refl;
  mpp = λ fs vs m l. subst (λ (x : ℕ). is_mode s (MPP x) ≡ true) l.legal (mpp_is_mode s fs vs m l.fits);
}
