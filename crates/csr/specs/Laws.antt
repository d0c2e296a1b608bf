-- What is proved of reads and writes, over the definitions alone: first of each CSR, then of each
-- address. The proofs are in proofs/Laws.antt. `csr_at`, `read_of`, `stored_of` and `seip_change`
-- are shut: the instructions' laws are proved from these alone.
use Rattle.std.specs.Prelude.{ℕ, Bool, true, false, not, cond, ◌||◌, ◌≡◌, eqb, ltb, Some, None, Ok}
use Rattle.std.specs.Int.Bits.{bit_or}
use Rattle.bits.specs.Word.{Fits}
use Rattle.rules.specs.Status.{read_sstatus}
use Rattle.rules.specs.Interrupts.{read_delegated, read_mip}
use Rattle.rules.specs.Addresses.{is_tvec_mode, is_satp_mode}
use Rattle.rules.specs.Config.{read_tselect}
use Rattle.hart.specs.Words.{put}
use Rattle.hart.specs.Laws.{FitsHart, FitsHost, FitsCaps, Legal}
use Rattle.hart.specs.Caps.{has_s}
use Rattle.hart.specs.Answers.{done}
use Rattle.hart.specs.declared.caps.Caps.{Caps}
use Rattle.hart.specs.declared.record.Hart.{Hart}
use Rattle.hart.specs.declared.record.Host.{Host}
use Rattle.hart.specs.declared.record.Word.TheVariants as words
use Rattle.hart.specs.declared.answer.Effect.{Effect}
use Rattle.hart.specs.declared.answer.Effect.TheVariants.{Nothing}
use Rattle.csr.specs.Address.{address_of, csr_at, is_present, decode_of}
use Rattle.csr.specs.Line.{is_line, raises_seip, line_down}
use Rattle.csr.specs.Access.{read_of, stored_of, hart_after, effect_after, read_at, write_at}
use Rattle.csr.specs.declared.address.Csr.{Csr}
use Rattle.csr.specs.declared.address.Csr.TheVariants.{Mip, Sip, Tselect}
use Rattle.csr.specs.Access.{Change}

-- ---- addresses

-- a CSR is found at its own address alone
abbrev pub FoundAtItsAddress : Type 0
FoundAtItsAddress = (a : ℕ) (r : Csr) → csr_at a ≡ Some r → address_of r ≡ a

-- what is decoded stands at that address and is present
abbrev pub DecodedIsPresent : Type 0
DecodedIsPresent = (c : Caps) (a : ℕ) (r : Csr) → decode_of c a ≡ Ok r → (address_of r ≡ a) × (is_present c r ≡ true)

-- ---- legal kept

-- a write to a present CSR leaves a legal record legal, of 64-bit words
abbrev pub LegalKept : Type 0
LegalKept = (c : Caps) (h : Hart) (r : Csr) (v : ℕ) → Legal c h → Fits v → is_present c r ≡ true → Legal c (hart_after c h r v)

-- ---- write-back

-- writing what a present CSR reads changes no word, whatever the line, but for tselect and mip; and
-- for mip, too, while the line is down
abbrev pub WriteBack : Type 0
WriteBack =
    (c : Caps) (h : Hart) (o : Host) (r : Csr) → Legal c h → is_present c r ≡ true → (r ≡ Tselect → ⊥) → (r ≡ Mip → o.line ≡ 0)
    → hart_after c h r (read_of c h o r) ≡ h

-- of mip it is the stored word that is written back
abbrev pub MipBack : Type 0
MipBack = (c : Caps) (h : Hart) → Legal c h → hart_after c h Mip h.mip ≡ h

-- and asks for no effect, as no write does that leaves the record as it is
abbrev pub SameAsksNothing : Type 0
SameAsksNothing = (h : Hart) → effect_after h h ≡ Nothing

-- tselect stores the complement that it reads
abbrev pub TselectBack : Type 0
TselectBack = (c : Caps) (h : Hart) (o : Host) → hart_after c h Tselect (read_of c h o Tselect) ≡ put words.Tselect (read_tselect h.tselect) h

-- sip asks for no effect, whatever is written
abbrev pub SipAsksNothing : Type 0
SipAsksNothing = (c : Caps) (h : Hart) (v : ℕ) → FitsHart h → Fits v → effect_after h (hart_after c h Sip v) ≡ Nothing

-- ---- second write alone

-- the values that it is claimed for: not a reserved mode of mtvec and stvec, not above the highest
-- address for mepc and sepc, not another mode of satp
abbrev pub is_claimed_at : Caps → ℕ → ℕ → Bool
is_claimed_at c a v =
    cond (eqb a 0x305 || eqb a 0x105) (is_tvec_mode v)
    (cond (eqb a 0x341 || eqb a 0x141) (not (ltb c.highest v))
    (cond (eqb a 0x180) (is_satp_mode v) true))

abbrev pub is_claimed : Caps → Csr → ℕ → Bool
is_claimed c r v = is_claimed_at c (address_of r) v

-- after two writes to one CSR the record is that of the second alone
abbrev pub SecondAlone : Type 0
SecondAlone =
    (c : Caps) (h : Hart) (r : Csr) (v w : ℕ) → FitsCaps c → FitsHart h → Fits v → Fits w → is_claimed c r w ≡ true
    → hart_after c (hart_after c h r v) r w ≡ hart_after c h r w

-- ---- reads

-- what a CSR shows of the word that it is kept in: sstatus its fields, mip the controller's SEIP
-- too, sie and sip the delegated bits, tselect the complement, any other the word. `up` says
-- whether the controller raises SEIP
abbrev pub view_at : Bool → Hart → ℕ → ℕ → ℕ
view_at up h a x =
    cond (eqb a 0x100) (read_sstatus x)
    (cond (eqb a 0x344) (read_mip up x)
    (cond (eqb a 0x104) (read_delegated h.mideleg x)
    (cond (eqb a 0x144) (read_delegated h.mideleg (read_mip up x))
    (cond (eqb a 0x7A0) (read_tselect x) x))))

abbrev pub view : Caps → Hart → Host → Csr → ℕ → ℕ
view c h o r x = view_at (raises_seip c o) h (address_of r) x

abbrev pub read_after : Caps → Hart → Host → Csr → Change → ℕ
read_after c h o r None = read_of c h o r
read_after c h o r (Some (w, x)) = view c h o r x

-- a CSR reads what its rule makes of the written word; one whose write is ignored reads what it
-- read
abbrev pub ReadAfterWrite : Type 0
ReadAfterWrite = (c : Caps) (h : Hart) (o : Host) (r : Csr) (v : ℕ) → read_of c (hart_after c h r v) o r ≡ read_after c h o r (stored_of c h r v)

-- what is read has 64 bits
abbrev pub ReadFits : Type 0
ReadFits = (c : Caps) (h : Hart) (o : Host) (r : Csr) → FitsCaps c → FitsHart h → FitsHost o → Fits (read_of c h o r)

-- ---- the controller's line

-- all that the line changes of a read: while it is up, on a hart with S, mip (344) and on a legal
-- record sip (144) have bit 9 as well. While it is down mip reads the stored word
pub record LineShows (c : Caps) (h : Hart) (o : Host) : Type 0 where
  pub mip : has_s c ≡ true → o.line ≡ 1 → read_of c h o Mip ≡ bit_or h.mip 0x200
  pub sip : Legal c h → has_s c ≡ true → o.line ≡ 1 → read_of c h o Sip ≡ bit_or (read_of c h (line_down o) Sip) 0x200
  pub stored : o.line ≡ 0 → read_of c h o Mip ≡ h.mip
  pub without_s : (r : Csr) → has_s c ≡ false → read_of c h o r ≡ read_of c h (line_down o) r
  pub elsewhere : (r : Csr) → (address_of r ≡ 0x344 → ⊥) → (address_of r ≡ 0x144 → ⊥) → read_of c h o r ≡ read_of c h (line_down o) r

abbrev pub LineShowsSeip : Type 0
LineShowsSeip = (c : Caps) (h : Hart) (o : Host) → LineShows c h o

-- ---- by address, as the monitor calls

-- a read that is done is one of the CSR that the address gives, with a line of 0 or 1 ..
pub record ReadOfCsr (c : Caps) (h : Hart) (o : Host) (a v : ℕ) : Type 0 where
  pub csr : Csr
  pub decoded : decode_of c a ≡ Ok csr
  pub line : is_line o.line ≡ true
  pub value : read_of c h o csr ≡ v

abbrev pub ReadDone : Type 0
ReadDone = (c : Caps) (h : Hart) (o : Host) (a v : ℕ) (e : Effect) → read_at c h o a ≡ Ok (v, e) → ReadOfCsr c h o a v

-- .. and what it reads has 64 bits
abbrev pub ReadFitsAt : Type 0
ReadFitsAt = (c : Caps) (h : Hart) (o : Host) (a v : ℕ) (e : Effect) → FitsCaps c → FitsHart h → FitsHost o → read_at c h o a ≡ Ok (v, e) → Fits v

-- a write that is done changes the record by that CSR's rule, and asks for what the change of SEIP
-- is
abbrev pub WriteDone : Type 0
WriteDone =
    (c : Caps) (h : Hart) (a v : ℕ) (r : Csr) → decode_of c a ≡ Ok r
    → write_at c h a v ≡ record { hart = hart_after c h r v; answer = Ok (0, effect_after h (hart_after c h r v)) }

-- whatever is written where, a legal record stays legal
abbrev pub WriteKeepsLegal : Type 0
WriteKeepsLegal = (c : Caps) (h : Hart) (a v : ℕ) → Legal c h → Fits v → Legal c (write_at c h a v).hart

-- writing what an address reads is done, changes no word and asks for nothing, whatever the line,
-- but for tselect and mip; and for mip, too, while the line is down
abbrev pub WriteBackAt : Type 0
WriteBackAt =
    (c : Caps) (h : Hart) (o : Host) (a v : ℕ) (e : Effect) → Legal c h → read_at c h o a ≡ Ok (v, e) → (a ≡ 0x7A0 → ⊥) → (a ≡ 0x344 → o.line ≡ 0)
    → write_at c h a v ≡ done h

-- of mip it is the stored word
abbrev pub MipBackAt : Type 0
MipBackAt = (c : Caps) (h : Hart) → Legal c h → write_at c h 0x344 h.mip ≡ done h

-- two writes to one address leave the record of the second alone
abbrev pub SecondAloneAt : Type 0
SecondAloneAt =
    (c : Caps) (h : Hart) (a v w : ℕ) → FitsCaps c → FitsHart h → Fits v → Fits w → is_claimed_at c a w ≡ true
    → (write_at c (write_at c h a v).hart a w).hart ≡ (write_at c h a w).hart
