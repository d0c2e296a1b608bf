-- Any two outcomes that an entry's contract allows on the same arguments are the same: refusal,
-- answer, effect, and the bytes of the image, file or buffers, or the totals, that it may change;
-- or, of a check, the fault, of a settings file that is read its words, and of an explained write
-- the listing. It is said of the contract itself, as Rattle reads it from the source.
use mathlib.Core.Path.{◌≡◌, refl, sym, ap, ◌∙◌}
use mathlib.Core.List.{List}
use Prim.Native.Nat.{ℕ}
use seplogic.Ra.Ura.{Ura}
use base.Logic.{SProp}
use prog.Memory.{Memory}
use prog.Routine.{Routine}
use types.Logic.{Logic}
use contract.Lifetimes.{Lfts}
use contract.Monad.{Fun, fact}
use denote.MutBor.{MutBor}
use denote.Ref.{Bor}
use Rattle.lent.specs.declared.outcome.Outcome.{Outcome}
use Rattle.tally.specs.Totals.{tally_of}
use Rattle.tally.specs.declared.totals.Totals.{Totals}
use Rattle.vhart.proofs.vhart_fresh.Reads as fresh
use Rattle.vhart.proofs.vhart_read.Reads as read
use Rattle.vhart.proofs.vhart_write.Reads as write
use Rattle.vhart.proofs.vhart_csrrw.Reads as csrrw
use Rattle.vhart.proofs.vhart_csrrs.Reads as csrrs
use Rattle.vhart.proofs.vhart_csrrc.Reads as csrrc
use Rattle.vhart.proofs.vhart_csrrwi.Reads as csrrwi
use Rattle.vhart.proofs.vhart_csrrsi.Reads as csrrsi
use Rattle.vhart.proofs.vhart_csrrci.Reads as csrrci
use Rattle.vhart.proofs.vhart_pending.Reads as pending
use Rattle.vhart.proofs.vhart_inject.Reads as inject
use Rattle.vhart.proofs.vhart_trap.Reads as trap
use Rattle.vhart.proofs.vhart_mret.Reads as mret
use Rattle.vhart.proofs.vhart_sret.Reads as sret
use Rattle.vhart.proofs.vhart_check_caps.Reads as check-caps
use Rattle.vhart.proofs.vhart_check_hart.Reads as check-hart
use Rattle.vhart.proofs.vhart_settings_read.Reads as settings-read
use Rattle.vhart.proofs.vhart_settings_write.Reads as settings-write
use Rattle.vhart.proofs.vhart_plain_read.Reads as plain-read
use Rattle.vhart.proofs.vhart_plain_write.Reads as plain-write
use Rattle.vhart.proofs.vhart_explain.Reads as explain
use Rattle.vhart.proofs.vhart_replay.Reads as replay
use Rattle.vhart.proofs.vhart_replay_end.Reads as replay-end
use Rattle.vhart.specs.contracts.vhart_tally as tally

-- an equation with a definition allows one outcome
once {ℓ} : {A : Type ℓ} {d a b : A} → a ≡ d → b ≡ d → a ≡ b
once p q = p ∙ sym q

pub fresh_once : (κs : Lfts 2) (a : _) (r r' : _) (e e' : _) → fresh.Post κs a r e → fresh.Post κs a r' e' → ◌≡◌ {A = Outcome × List ℕ} (r, e.1.0.now) (r', e'.1.0.now)
fresh_once κs a r r' e e' = once

pub read_once : (κs : Lfts 2) (a : _) (r r' : _) (e e' : _) → read.Post κs a r e → read.Post κs a r' e' → r ≡ r'
read_once κs a r r' e e' p q = ap (λ (x : Outcome × List ℕ). x.0) (once p q)

pub write_once : (κs : Lfts 2) (a : _) (r r' : _) (e e' : _) → write.Post κs a r e → write.Post κs a r' e' → ◌≡◌ {A = Outcome × List ℕ} (r, e.1.0.now) (r', e'.1.0.now)
write_once κs a r r' e e' = once

pub csrrw_once : (κs : Lfts 2) (a : _) (r r' : _) (e e' : _) → csrrw.Post κs a r e → csrrw.Post κs a r' e' → ◌≡◌ {A = Outcome × List ℕ} (r, e.1.0.now) (r', e'.1.0.now)
csrrw_once κs a r r' e e' = once

pub csrrs_once : (κs : Lfts 2) (a : _) (r r' : _) (e e' : _) → csrrs.Post κs a r e → csrrs.Post κs a r' e' → ◌≡◌ {A = Outcome × List ℕ} (r, e.1.0.now) (r', e'.1.0.now)
csrrs_once κs a r r' e e' = once

pub csrrc_once : (κs : Lfts 2) (a : _) (r r' : _) (e e' : _) → csrrc.Post κs a r e → csrrc.Post κs a r' e' → ◌≡◌ {A = Outcome × List ℕ} (r, e.1.0.now) (r', e'.1.0.now)
csrrc_once κs a r r' e e' = once

pub csrrwi_once : (κs : Lfts 2) (a : _) (r r' : _) (e e' : _) → csrrwi.Post κs a r e → csrrwi.Post κs a r' e' → ◌≡◌ {A = Outcome × List ℕ} (r, e.1.0.now) (r', e'.1.0.now)
csrrwi_once κs a r r' e e' = once

pub csrrsi_once : (κs : Lfts 2) (a : _) (r r' : _) (e e' : _) → csrrsi.Post κs a r e → csrrsi.Post κs a r' e' → ◌≡◌ {A = Outcome × List ℕ} (r, e.1.0.now) (r', e'.1.0.now)
csrrsi_once κs a r r' e e' = once

pub csrrci_once : (κs : Lfts 2) (a : _) (r r' : _) (e e' : _) → csrrci.Post κs a r e → csrrci.Post κs a r' e' → ◌≡◌ {A = Outcome × List ℕ} (r, e.1.0.now) (r', e'.1.0.now)
csrrci_once κs a r r' e e' = once

pub pending_once : (κs : Lfts 2) (a : _) (r r' : _) (e e' : _) → pending.Post κs a r e → pending.Post κs a r' e' → r ≡ r'
pending_once κs a r r' e e' p q = ap (λ (x : Outcome × List ℕ). x.0) (once p q)

pub inject_once : (κs : Lfts 2) (a : _) (r r' : _) (e e' : _) → inject.Post κs a r e → inject.Post κs a r' e' → ◌≡◌ {A = Outcome × List ℕ} (r, e.1.0.now) (r', e'.1.0.now)
inject_once κs a r r' e e' = once

pub trap_once : (κs : Lfts 2) (a : _) (r r' : _) (e e' : _) → trap.Post κs a r e → trap.Post κs a r' e' → ◌≡◌ {A = Outcome × List ℕ} (r, e.1.0.now) (r', e'.1.0.now)
trap_once κs a r r' e e' = once

pub mret_once : (κs : Lfts 2) (a : _) (r r' : _) (e e' : _) → mret.Post κs a r e → mret.Post κs a r' e' → ◌≡◌ {A = Outcome × List ℕ} (r, e.1.0.now) (r', e'.1.0.now)
mret_once κs a r r' e e' = once

pub sret_once : (κs : Lfts 2) (a : _) (r r' : _) (e e' : _) → sret.Post κs a r e → sret.Post κs a r' e' → ◌≡◌ {A = Outcome × List ℕ} (r, e.1.0.now) (r', e'.1.0.now)
sret_once κs a r r' e e' = once

pub check_caps_once : (κs : Lfts 1) (a : _) (r r' : _) (e e' : _) → check-caps.Post κs a r e → check-caps.Post κs a r' e' → r ≡ r'
check_caps_once κs a r r' e e' = once

pub check_hart_once : (κs : Lfts 2) (a : _) (r r' : _) (e e' : _) → check-hart.Post κs a r e → check-hart.Post κs a r' e' → r ≡ r'
check_hart_once κs a r r' e e' = once

pub settings_read_once : (κs : Lfts 1) (a : _) (r r' : _) (e e' : _) → settings-read.Post κs a r e → settings-read.Post κs a r' e' → r ≡ r'
settings_read_once κs a r r' e e' = once

pub settings_write_once : (κs : Lfts 2) (a : _) (r r' : _) (e e' : _) → settings-write.Post κs a r e → settings-write.Post κs a r' e' → ◌≡◌ {A = Outcome × List ℕ} (r, e.1.0.now) (r', e'.1.0.now)
settings_write_once κs a r r' e e' = once

pub plain_read_once : (κs : Lfts 2) (a : _) (r r' : _) (e e' : _) → plain-read.Post κs a r e → plain-read.Post κs a r' e' → r ≡ r'
plain_read_once κs a r r' e e' p q = ap (λ (x : Outcome × List ℕ). x.0) (once p q)

pub plain_write_once : (κs : Lfts 2) (a : _) (r r' : _) (e e' : _) → plain-write.Post κs a r e → plain-write.Post κs a r' e' → ◌≡◌ {A = Outcome × List ℕ} (r, e.1.0.now) (r', e'.1.0.now)
plain_write_once κs a r r' e e' = once

pub explain_once : (κs : Lfts 2) (a : _) (r r' : _) (e e' : _) → explain.Post κs a r e → explain.Post κs a r' e' → r ≡ r'
explain_once κs a r r' e e' = once

pub replay_once : (κs : Lfts 5) (a : _) (r r' : _) (e e' : _) → replay.Post κs a r e → replay.Post κs a r' e'
    → ◌≡◌ {A = Outcome × List ℕ × List ℕ × List ℕ} (r, e.1.0.now, e.1.1.0.now, e.1.1.1.1.0.now) (r', e'.1.0.now, e'.1.1.0.now, e'.1.1.1.1.0.now)
replay_once κs a r r' e e' = once

pub replay_end_once : (κs : Lfts 3) (a : _) (r r' : _) (e e' : _) → replay-end.Post κs a r e → replay-end.Post κs a r' e' → r ≡ r'
replay_end_once κs a r r' e e' = once

-- of tally, whose totals lie behind a reference to a struct, it is said of the clause as Rattle has
-- it from the source: that is the fact which says this
abbrev TallySays : Bor (List ℕ) × (Bor (List ℕ) × (ℕ × (ℕ × (ℕ × (ℕ × (MutBor Totals × Unit {0})))))) → Outcome → Totals → Type 0
TallySays a r t = (r, t) ≡ tally_of a.1.1.1.1.0 a.1.1.1.1.1.0 a.1.1.0 a.1.1.1.0 a.0.now a.1.0.now a.1.1.1.1.1.1.0.now

pub tally_clause : {M : Type 1} {𝓤 : Ura M} (𝓛 : Logic 𝓤) (mem : Memory → SProp 𝓤) (run : Routine → Fun 𝓤) (κs : Lfts 3) (a : _) (r : _) (e : _) → (tally.clauses 𝓛 mem run κs a).ensures tt r e ≡ fact 𝓤 (TallySays a r e.1.1.1.1.1.1.0.now)
tally_clause 𝓛 mem run κs a r e = refl

pub tally_once : (a : _) (r r' : Outcome) (t t' : Totals) → TallySays a r t → TallySays a r' t' → ◌≡◌ {A = Outcome × Totals} (r, t) (r', t')
tally_once a r r' t t' = once

-- ---- two engines, one outcome: what the plain entry's contract allows on some arguments is what
-- the fast entry's allows on them

pub plain_read_is_read : (κs : Lfts 2) (a : _) (r r' : _) (e e' : _) → plain-read.Post κs a r e → read.Post κs a r' e' → r ≡ r'
plain_read_is_read κs a r r' e e' p q = ap (λ (x : Outcome × List ℕ). x.0) (once p q)

pub plain_write_is_write : (κs : Lfts 2) (a : _) (r r' : _) (e e' : _) → plain-write.Post κs a r e → write.Post κs a r' e' → ◌≡◌ {A = Outcome × List ℕ} (r, e.1.0.now) (r', e'.1.0.now)
plain_write_is_write κs a r r' e e' = once
