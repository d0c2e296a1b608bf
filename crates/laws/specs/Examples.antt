-- The examples a to q, as one list. Source: docs/RULES.md, "Examples, and errors that look right".
use Rattle.std.specs.Prelude.{ℕ, ◌≡◌, List, [], ◌∷◌, Ok}
use Rattle.hart.specs.Words.{put, set_x}
use Rattle.hart.specs.Modes.{mode_u, mode_s, mode_m}
use Rattle.hart.specs.Fresh.{fresh_of}
use Rattle.hart.specs.declared.caps.Caps.{Caps}
use Rattle.hart.specs.declared.record.Hart.{Hart}
use Rattle.hart.specs.declared.record.Host.{Host}
use Rattle.hart.specs.declared.record.Word.{Word}
use Rattle.hart.specs.declared.record.Word.TheVariants.{Pc, Mode, Mstatus, Mie, Mip, Mtvec, Menvcfg, Mepc, Mcause, Mtval}
use Rattle.hart.specs.declared.answer.Effect.TheVariants.{Nothing, SetSeip, ClearSeip}
use Rattle.hart.specs.Answers.{Answer}
use Rattle.instr.specs.declared.operation.Op.{Op}
use Rattle.instr.specs.declared.operation.Op.TheVariants.{Csrrs, Csrrc}
use Rattle.registers.specs.declared.Form.TheVariants.{Register}
use Rattle.calls.specs.Calls.{Call, Read, Write, Instruction, Pending, Take, host_of, trap_info_of, step_of}
use Rattle.calls.specs.declared.steps.Taken.{Taken}
use Rattle.calls.specs.declared.steps.Taken.TheVariants.{Inject, Trap, Mret, Sret}

-- a call on a record, the record that it leaves and what it answers
pub record Example : Type 0 where
  pub name : ℕ  -- the letter, as its number in ASCII
  pub caps : Caps
  pub before : Hart
  pub call : Call
  pub after : Hart
  pub answer : Answer

-- the call does just that
abbrev pub Holds : Example → Type 0
Holds e = step_of e.caps e.before e.call ≡ record { hart = e.after; answer = e.answer }

-- RV64 with A, C, I, M and U, and these letters, interrupts and flags
abbrev pub board : ℕ → ℕ → ℕ → Caps
board misa interrupts flags = record {
  misa = misa;
  interrupts = interrupts;
  highest = 0x80000000;
  flags = flags;
  mhartid = 0;
  mvendorid = 0;
  marchid = 0;
  mimpid = 0;
  mconfigptr = 0;
}

-- with S and Sstc, and with F too
abbrev pub s : Caps
s = board 0x8000000000141105 0xAAA 2

abbrev pub f : Caps
f = board 0x8000000000141125 0xAAA 2

-- without S: with neither F nor V, with F, with V
abbrev pub no_s : Caps
no_s = board 0x8000000000101105 0x888 0

abbrev no_sf : Caps
no_sf = board 0x8000000000101125 0x888 0

abbrev no_sv : Caps
no_sv = board 0x8000000000301105 0x888 0

-- a fresh record
abbrev pub fresh : Caps → Hart
fresh c = fresh_of c mode_m 0x80000000

-- in a fresh record, the word w set to `old` and then changed to `new` by a write of v at a
abbrev writing : ℕ → Caps → Hart → Word → ℕ → ℕ → ℕ → ℕ → Answer → Example
writing name c h w old a v new answer = record { name = name; caps = c; before = put w old h; call = Write a v; after = put w new h; answer = answer }

-- what an injection or a trap from M leaves in mstatus of a fresh record, and the rest of what it
-- leaves
abbrev entered : ℕ → ℕ → ℕ → ℕ → Hart → Hart
entered pc mcause mepc mtval h = put Pc pc (put Mcause mcause (put Mepc mepc (put Mtval mtval (put Mstatus 0xA00001800 h))))

-- what a trap or a return makes of a record of s
abbrev taking : ℕ → Hart → Taken → Hart → Example
taking name h t after = record { name = name; caps = s; before = h; call = Take t; after = after; answer = Ok (0, Nothing) }

-- what a call that changes nothing answers
abbrev asking : ℕ → Caps → Hart → Call → ℕ → Example
asking name c h call v = record { name = name; caps = c; before = h; call = call; after = h; answer = Ok (v, Nothing) }

-- while the controller raises SEIP
abbrev up : Host
up = host_of 0 0 1

-- an instruction on mip meanwhile, whose rs1 is x6 and holds x: mip is `old` and then `new`, and
-- rd, which is x5, takes 0x200
abbrev instructing : ℕ → Op → ℕ → ℕ → ℕ → Answer → Example
instructing name op x old new answer = record {
  name = name;
  caps = s;
  before = put Mip old (set_x 6 x (fresh s));
  call = Instruction Register op up 0x344 5 6;
  after = set_x 5 0x200 (put Mip new (set_x 6 x (fresh s)));
  answer = answer;
}

abbrev pub examples : List Example
examples =
    writing 97 s (fresh s) Mstatus 0xA00001888 0x300 0 0xA00000000 (Ok (0, Nothing)) ∷
    writing 97 no_s (fresh no_s) Mstatus 0x200001888 0x300 0 0x200000000 (Ok (0, Nothing)) ∷
    writing 98 s (fresh s) Mstatus 0xA00001888 0x300 0x1000 0xA00000000 (Ok (0, Nothing)) ∷
    writing 99 s (fresh s) Mstatus 0xA00000000 0x300 0x800 0xA00000800 (Ok (0, Nothing)) ∷
    writing 99 no_s (fresh no_s) Mstatus 0x200001800 0x300 0x800 0x200000000 (Ok (0, Nothing)) ∷
    writing 100 f (fresh f) Mstatus 0xA00000000 0x300 0x6000 0x8000000A00006000 (Ok (0, Nothing)) ∷
    writing 101 s (fresh s) Mtvec 0x80000001 0x305 0x80002002 0x80002001 (Ok (0, Nothing)) ∷
    taking 102 (put Mtvec 0x80002001 (fresh s)) (Inject 7) (entered 0x8000201C 0x8000000000000007 0x80000000 0 (put Mtvec 0x80002001 (fresh s))) ∷
    taking 103 (put Mtvec 0xFFFFFFFFFFFFFFFD (fresh s)) (Inject 3) (entered 8 0x8000000000000003 0x80000000 0 (put Mtvec 0xFFFFFFFFFFFFFFFD (fresh s))) ∷
    writing 104 s (fresh s) Mip 0 0x344 0xFFFF 0x222 (Ok (0, SetSeip)) ∷
    writing 104 s (put Menvcfg 0x8000000000000000 (fresh s)) Mip 0 0x344 0xFFFF 0x202 (Ok (0, SetSeip)) ∷
    writing 105 s (put Menvcfg 0x8000000000000000 (fresh s)) Mip 0x222 0x344 0 0x20 (Ok (0, ClearSeip)) ∷
    taking 106 (put Mip 0x208 (fresh s)) (Trap (trap_info_of 2 0x1234 0x80000300 0x2A2 0)) (entered 0 2 0x80000300 0x1234 (put Mip 0x22A (fresh s))) ∷
    taking 107 (put Mstatus 0xA00021880 (fresh s)) Mret (put Pc 0 (put Mode mode_m (put Mstatus 0xA00020088 (fresh s)))) ∷
    taking 108 (put Mstatus 0xA00020880 (fresh s)) Mret (put Pc 0 (put Mode mode_s (put Mstatus 0xA00000088 (fresh s)))) ∷
    taking 109 (put Mstatus 0xA00000120 (fresh s)) Sret (put Pc 0 (put Mode mode_s (put Mstatus 0xA00000022 (fresh s)))) ∷
    asking 110 s (put Mode mode_u (put Mie 0x88 (put Mip 0x888 (fresh s)))) Pending 3 ∷
    writing 111 no_s (fresh no_s) Mstatus 0x200000000 0x300 0x6000 0x200000000 (Ok (0, Nothing)) ∷
    writing 111 no_sf (fresh no_sf) Mstatus 0x200000000 0x300 0x6000 0x8000000200006000 (Ok (0, Nothing)) ∷
    writing 112 no_s (fresh no_s) Mstatus 0x200000000 0x300 0x600 0x200000000 (Ok (0, Nothing)) ∷
    writing 112 no_sv (fresh no_sv) Mstatus 0x200000000 0x300 0x600 0x8000000200000600 (Ok (0, Nothing)) ∷
    asking 113 s (fresh s) (Read up 0x344) 0x200 ∷
    asking 113 no_s (fresh no_s) (Read up 0x344) 0 ∷
    asking 113 s (fresh s) (Read up 0x144) 0x200 ∷
    instructing 113 Csrrs 0x2 0 0x2 (Ok (0x200, Nothing)) ∷
    instructing 113 Csrrc 0x200 0x200 0 (Ok (0x200, ClearSeip)) ∷
    []
