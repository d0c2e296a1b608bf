-- What is proved of the trap part, over the definitions alone. The proofs are in proofs/Laws.antt.
use Rattle.std.specs.Prelude.{◌≡◌, ℕ, Bool, false, cond, not, ◌&&◌, ◌↔◌, List, [], ◌∷◌, ◌==◌, ◌≢◌, Ok}
use Rattle.bits.specs.Alg.{plain}
use Rattle.bits.specs.Word.{Fits}
use Rattle.first.specs.Laws.{Each, First}
use Rattle.first.specs.First.{first_of}
use Rattle.rules.specs.Fields.{fields}
use Rattle.hart.specs.Words.{put, puts}
use Rattle.rules.specs.Interrupts.{read_mip}
use Rattle.hart.specs.Caps.{has_s}
use Rattle.hart.specs.Modes.{mode_u, mode_m}
use Rattle.hart.specs.Answers.{done}
use Rattle.hart.specs.Laws.{Legal}
use Rattle.hart.specs.declared.caps.Caps.{Caps}
use Rattle.hart.specs.declared.record.Hart.{Hart}
use Rattle.hart.specs.declared.record.Word.{Word}
use Rattle.hart.specs.declared.record.Word.TheVariants.{Mstatus, Mip, Mepc, Mcause, Mtval}
use Rattle.hart.specs.declared.answer.Effect.TheVariants.{Nothing}
use Rattle.trap.specs.Restored.{restored_status}
use Rattle.trap.specs.Interrupts.{order, is_ready, cause_of}
use Rattle.trap.specs.Steps.{is_held, pending_of, injected, inject_step, trap_step, mret_step, sret_step}
use Rattle.trap.specs.declared.context.TrapInfo.{TrapInfo}
open fields plain use {MIE, MPIE, MPP, MPRV}

-- ---- injection then mret

-- mode and pc are as they were, mcause, mepc and mtval hold the injection, and every word that
-- isn't named is untouched
abbrev pub restored_changes : Hart → ℕ → List (Word × ℕ)
restored_changes h n =
    (Mstatus, restored_status h.mode h.mstatus) ∷
    (Mcause, cause_of n) ∷
    (Mepc, h.pc) ∷
    (Mtval, 0) ∷
    []

abbrev pub restored : Hart → ℕ → Hart
restored h n = puts (restored_changes h n) h

-- an accepted injection, followed at once by mret: the mret is done, and the record is the restored
-- one
abbrev pub InjectThenMret : Type 0
InjectThenMret = (c : Caps) (h : Hart) (n : ℕ) → Legal c h → (inject_step c h n).answer ≡ Ok (0, Nothing) → mret_step (inject_step c h n).hart ≡ done (restored h n)

-- what that leaves of mstatus
pub record StatusRestored (mode m : ℕ) : Type 0 where
  pub mie : MIE (restored_status mode m) ≡ MIE m
  pub mpie : MPIE (restored_status mode m) ≡ 1
  pub mpp : MPP (restored_status mode m) ≡ mode_u
  pub mprv : MPRV (restored_status mode m) ≡ cond (mode == mode_m) (MPRV m) 0

abbrev pub RestoredFields : Type 0
RestoredFields = (mode m : ℕ) → Fits m → StatusRestored mode m

-- ---- legal kept

-- whatever is injected, trapped or returned from, done or refused, a legal record stays legal
abbrev pub InjectKeepsLegal : Type 0
InjectKeepsLegal = (c : Caps) (h : Hart) (n : ℕ) → Legal c h → Fits n → Legal c (inject_step c h n).hart

pub record FitsTrap (t : TrapInfo) : Type 0 where
  pub mcause : Fits t.mcause
  pub mtval : Fits t.mtval
  pub mepc : Fits t.mepc
  pub mip : Fits t.mip
  pub mstatus : Fits t.mstatus

abbrev pub TrapKeepsLegal : Type 0
TrapKeepsLegal = (c : Caps) (h : Hart) (t : TrapInfo) → Legal c h → FitsTrap t → Legal c (trap_step c h t).hart

abbrev pub MretKeepsLegal : Type 0
MretKeepsLegal = (c : Caps) (h : Hart) → Legal c h → Legal c (mret_step h).hart

abbrev pub SretKeepsLegal : Type 0
SretKeepsLegal = (c : Caps) (h : Hart) → Legal c h → Legal c (sret_step c h).hart

-- ---- pending

-- interrupt n is enabled, pending and not delegated, and interrupts aren't held back
abbrev pub may_be_taken : Hart → ℕ → Bool
may_be_taken h n = not (is_held h) && is_ready h.mie h.mip h.mideleg n

-- the answer is 0 exactly if none may be taken ..
abbrev pub PendingNone : Type 0
PendingNone = (h : Hart) → (pending_of h ≡ 0) ↔ Each (λ n. may_be_taken h n ≡ false) order

-- .. and another number exactly if that is the first in the order that may be
abbrev pub PendingFirst : Type 0
PendingFirst = (h : Hart) (n : ℕ) → (n ≢ 0) → (pending_of h ≡ n) ↔ First (λ m. m) (may_be_taken h) n order

-- a pending interrupt can be injected: it isn't refused
abbrev pub PendingIsInjected : Type 0
PendingIsInjected = (c : Caps) (h : Hart) → Legal c h → (pending_of h ≢ 0) → inject_step c h (pending_of h) ≡ done (injected h (pending_of h))

-- on a legal record only interrupts of machine level are answered: those of supervisor level are
-- delegated, or the hart has none, and LCOFI isn't enabled
abbrev pub PendingIsMachine : Type 0
PendingIsMachine = (c : Caps) (h : Hart) → Legal c h → pending_of h ≡ first_of 0 (λ n. n) (may_be_taken h) (11 ∷ 3 ∷ 7 ∷ [])

-- so the question doesn't take the interrupt controller's line: asked of a record whose mip holds
-- what mip shows, up or down, it gives the same answer
abbrev pub PendingWithoutLine : Type 0
PendingWithoutLine = (c : Caps) (h : Hart) (up : Bool) → Legal c h → pending_of (put Mip (read_mip (up && has_s c) h.mip) h) ≡ pending_of h
