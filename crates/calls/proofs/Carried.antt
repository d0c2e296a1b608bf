-- A trap or a return changes no other words of the record than those that are stored after it.
use mathlib.Core.Path.{◌≡◌, refl, sym, subst}
use mathlib.Core.Bool.{Bool, true, false, cond}
use Rattle.hart.specs.Words.{put}
use Rattle.hart.specs.Caps.{has_s}
use Rattle.hart.specs.declared.caps.Caps.{Caps}
use Rattle.hart.specs.declared.record.Hart.{Hart}
use Rattle.hart.specs.declared.answer.Step.{Step}
use Rattle.trap.specs.Interrupts.{is_interrupt}
use Rattle.trap.specs.Steps.{is_m, is_interrupt_cause, is_trap}
use Rattle.calls.specs.Calls.{taken_step}
use Rattle.calls.specs.declared.steps.Taken.{Taken}
use Rattle.calls.specs.declared.steps.Taken.TheVariants.{Inject, Trap, Mret, Sret}
use Rattle.calls.specs.Inner.{carried}

-- a step that differs from h in those words alone
pub record Carried (h : Hart) (t : Step) : Type 0 where
  pub told : carried t.hart h ≡ t.hart

pub carried_as : {h : Hart} {t u : Step} → t ≡ u → Carried h u → Carried h t
carried_as {h} e p = subst (Carried h) (sym e) p

either : {h : Hart} {t u : Step} (b : Bool) → Carried h t → Carried h u → Carried h (cond b t u)
either true p q = p
either false p q = q

pub carried_step : (c : Caps) (h : Hart) (t : Taken) → Carried h (taken_step c h t)
unfolding put
carried_step c h (Inject n) = either (is_interrupt c.interrupts n) (record { told = refl }) (record { told = refl })
carried_step c h (Trap t) = either (is_interrupt_cause t) (record { told = refl }) (either (is_trap c h t) (record { told = refl }) (record { told = refl }))
carried_step c h Mret = either (is_m h) (record { told = refl }) (record { told = refl })
carried_step c h Sret = either (is_m h) (either (has_s c) (record { told = refl }) (record { told = refl })) (record { told = refl })
