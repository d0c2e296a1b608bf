-- What the rows give as expressions, evaluated, is what they give as numbers: for any row, and so
-- for any table.
use Prim.Native.Nat.{ℕ}
use mathlib.Core.Bool.{Bool, cond}
use mathlib.Core.List.{List, [], ◌∷◌}
use mathlib.Core.Path.{◌≡◌, refl, ap, ap₂, ◌∙◌}
use lib.Bits.{bit_or}
use Rattle.bits.specs.Alg.{plain}
use Rattle.bits.proofs.Chosen.{either}
use Rattle.bits.proofs.Decide.{W, B, Env, lit, ◌∣◌, eval, test}
use Rattle.bits.proofs.Shown.{shown}
use Rattle.plain.specs.Row.{is_at, Asked, applies, shows_by, shows, takes_by, takes}
use Rattle.plain.specs.Engine.{joined, present_at, shows_at, takes_at, with_value, is_view, stores_at}
use Rattle.plain.specs.declared.row.Row.{Row}
use Rattle.plain.specs.declared.row.Rule.{Rule}
use Rattle.plain.specs.declared.row.Rule.TheVariants.{Copied}
open shown use {num, ◌&◌, when}

module _ (ρ : Env) where
  abbrev pub evaluated : Asked shown → Asked plain
  evaluated q =
      record {
        has = eval q.has ρ;
        raised = eval q.raised ρ;
        above = test q.above ρ;
        interrupts = eval q.interrupts ρ;
        mideleg = eval q.mideleg ρ;
        menvcfg = eval q.menvcfg ρ;
        old = eval q.old ρ;
        value = eval q.value ρ;
      }

  -- a row, by its rule
  module _ (q : Asked shown) where
    shown_by : (rule : Rule) (kept : ℕ) → eval (shows_by shown q rule kept) ρ ≡ shows_by plain (evaluated q) rule kept
    shown_by Copied kept = refl
    shown_by _ kept = refl

    pub shows_evaluated : (r : Row) → eval (shows shown q r) ρ ≡ shows plain (evaluated q) r
    shows_evaluated r = shown_by r.rule r.kept

    taken_by : (rule : Rule) (v : W) (kept forced : ℕ) → eval (takes_by shown q rule v kept forced) ρ ≡ takes_by plain (evaluated q) rule (eval v ρ) kept forced
    taken_by Copied v kept forced = refl
    taken_by _ v kept forced = refl

    pub takes_evaluated : (r : Row) → eval (takes shown q r) ρ ≡ takes plain (evaluated q) r
    takes_evaluated r = taken_by r.rule (q.value & num r.kept) r.kept r.forced

  -- what is joined of the rows
  joined_evaluated : (has : W) (f : Row → W) (g : Row → ℕ) → ((r : Row) → eval (f r) ρ ≡ g r) → (a : ℕ) (t : List Row) (w : W) (n : ℕ) → eval w ρ ≡ n
      → eval (joined shown has f a t w) ρ ≡ joined plain (eval has ρ) g a t n
  joined_evaluated has f g same a [] w n e = e
  joined_evaluated has f g same a (r ∷ rs) w n e =
      joined_evaluated has f g same a rs (cond (is_at r a) (w ∣ when (applies shown has r) (f r)) w) _
      (either ρ (is_at r a) _ _ (ap₂ bit_or e (ap (λ (x : ℕ). cond (applies plain (eval has ρ) r) x 0) (same r))) e)

  module _ (q : Asked shown) (a : ℕ) (t : List Row) where
    pub present_at_lem : eval (present_at shown q a t) ρ ≡ present_at plain (evaluated q) a t
    present_at_lem = joined_evaluated q.has (λ r. lit 1) (λ r. 1) (λ r. refl) a t (lit 0) 0 refl

    pub shows_at_lem : eval (shows_at shown q a t) ρ ≡ shows_at plain (evaluated q) a t
    shows_at_lem = joined_evaluated q.has (shows shown q) (shows plain (evaluated q)) (shows_evaluated q) a t (lit 0) 0 refl

    pub takes_at_lem : eval (takes_at shown q a t) ρ ≡ takes_at plain (evaluated q) a t
    takes_at_lem = joined_evaluated q.has (takes shown q) (takes plain (evaluated q)) (takes_evaluated q) a t (lit 0) 0 refl

  -- what is stored, where a flag says of the value that mstatus takes whether it lies above
  pub stores_at_lem : (q : Asked shown) (rule : Rule) (a : ℕ) (t : List Row) (above : B) (β : ℕ → Bool) → test above ρ ≡ β (takes_at plain (evaluated q) a t)
      → eval (stores_at shown q (λ w. above) rule a t) ρ ≡ stores_at plain (evaluated q) β rule a t
  stores_at_lem q rule a t above β e =
      either ρ (is_view rule) _ _
      (takes_at_lem (with_value shown q above (takes_at shown q a t)) 0x300 t
      ∙ ap₂ (λ (b : Bool) (v : ℕ). takes_at plain (with_value plain (evaluated q) b v) 0x300 t) e (takes_at_lem q a t))
      (takes_at_lem q a t)
