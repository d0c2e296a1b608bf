-- Which records are legal: one condition for each word. Source: docs/RULES.md, "Legal records".
use Rattle.std.specs.Prelude.{ℕ, Bool, true, not, ◌&&◌, ◌||◌, List, [], ◌∷◌, eqb, leb, get_or}
use Rattle.std.specs.Int.Bits.{bit_and}
use Rattle.rules.specs.Interrupts.{legal_mie, legal_mideleg, legal_medeleg}
use Rattle.rules.specs.Addresses.{is_tvec_mode, is_aligned, is_satp_mode}
use Rattle.rules.specs.Config.{legal_countinhibit}
use Rattle.hart.specs.Words.{words, get}
use Rattle.hart.specs.Modes.{is_mode}
use Rattle.hart.specs.Caps.{has_s, has_c, has_sstc, mstatus_of, menvcfg_of, senvcfg_of}
use Rattle.hart.specs.declared.caps.Caps.{Caps}
use Rattle.hart.specs.declared.record.Hart.{Hart}
use Rattle.hart.specs.declared.record.Word.{Word}
use Rattle.hart.specs.declared.record.Word.TheVariants.{Pc, Mode, Waiting, Mstatus, Mie, Mip, Mideleg, Medeleg, Mtvec, Mcounteren, Mcountinhibit, Menvcfg, Mscratch, Mepc, Mcause, Mtval, Mcycle, Minstret, Tselect, Stvec, Scounteren, Senvcfg, Sscratch, Sepc, Scause, Stval, Satp, Stimecmp}

-- 0 without S
abbrev if_s : Caps → ℕ → Bool
if_s c v = has_s c || eqb v 0

-- the condition of one word
unfoldable pub legal_word : Caps → Word → ℕ → Bool
legal_word c Pc v = is_aligned (has_c c) v
legal_word c Mode v = is_mode (has_s c) v
legal_word c Waiting v = eqb v 0 || eqb v 1
legal_word c Mstatus v = eqb (mstatus_of c v) v
legal_word c Mie v = eqb (legal_mie c.interrupts v) v
legal_word c Mip v = eqb (bit_and v c.interrupts) v
legal_word c Mideleg v = (not (has_s c) || eqb (legal_mideleg c.interrupts v) v) && if_s c v
legal_word c Medeleg v = eqb (legal_medeleg v) v && if_s c v
legal_word c Mtvec v = is_tvec_mode v
legal_word c Mcounteren v = leb v 7
legal_word c Mcountinhibit v = eqb (legal_countinhibit v) v
legal_word c Menvcfg v = eqb (menvcfg_of c v) v
legal_word c Mscratch v = true
legal_word c Mepc v = is_aligned (has_c c) v
legal_word c Mcause v = true
legal_word c Mtval v = true
legal_word c Mcycle v = true
legal_word c Minstret v = true
legal_word c Tselect v = true
legal_word c Stvec v = is_tvec_mode v && if_s c v
legal_word c Scounteren v = leb v 7 && if_s c v
legal_word c Senvcfg v = eqb (senvcfg_of c v) v && if_s c v
legal_word c Sscratch v = if_s c v
legal_word c Sepc v = is_aligned (has_c c) v && if_s c v
legal_word c Scause v = if_s c v
legal_word c Stval v = if_s c v
legal_word c Satp v = is_satp_mode v && if_s c v
legal_word c Stimecmp v = if_s c v && (has_sstc c || eqb v 0)

-- t, and each of these words of h is legal
abbrev pub each_legal : Caps → Hart → Bool → List Word → Bool
each_legal c h t [] = t
each_legal c h t (w ∷ ws) = each_legal c h (t && legal_word c w (get w h)) ws

abbrev pub x0_zero : Hart → Bool
x0_zero h = eqb (get_or h.x 0 0) 0

-- x0 is 0, and each word is legal
unfoldable pub legal_hart : Caps → Hart → Bool
legal_hart c h = each_legal c h (x0_zero h) words
