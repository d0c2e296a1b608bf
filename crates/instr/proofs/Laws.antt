-- The laws of the CSR instructions: from the promises of the register part.
use mathlib.Core.Path.{◌≡◌, refl, sym, ap, ap₂, ◌∙◌, subst}
use mathlib.Core.Bool.{Bool, true, false, cond, ◌||◌}
use mathlib.Core.List.{[]}
use Prim.Native.Nat.{ℕ}
use lib.Bits.{or_zero_r}
use lib.ListN.{get_or}
use lib.Dec.{eqb, ltb, lit<}
use borrow.Author.Tests.{eq-eqb}
use Rattle.std.specs.Prelude.{Ok, Err}
use Rattle.bits.specs.Word.{Fits}
use Rattle.bits.proofs.Bools.{≡→T}
use Rattle.bits.proofs.Decide.{var, lit, ◌&◌, ◌∣◌, inv, env1, env2, by_bits, below_64}
use Rattle.hart.specs.Words.{get_x, set_x}
use Rattle.hart.specs.Laws.{FitsHart, FitsHost, Legal}
use Rattle.hart.specs.Modes.{mode_m}
use Rattle.hart.specs.Answers.{done}
use Rattle.hart.proofs.Laws.{set_set, set_keeps_legal}
use Rattle.hart.specs.declared.caps.Caps.{Caps}
use Rattle.hart.specs.declared.record.Hart.{Hart}
use Rattle.hart.specs.declared.record.Host.{Host}
use Rattle.hart.specs.declared.answer.Refusal.TheVariants.{BadOperand, NotMachine, BadLine}
use Rattle.hart.specs.declared.answer.Effect.{Effect}
use Rattle.csr.specs.Address.{is_present, Decoded, decode_of}
use Rattle.csr.specs.Line.{is_line, line_down, line_to}
use Rattle.csr.specs.Access.{read_of, write_at}
use Rattle.csr.specs.Laws.{ReadOfCsr}
use Rattle.csr.proofs.Laws.{decoded_is_present, legal_kept, read_fits, same_asks_nothing, read_done, read_fits_at, write_done, write_back_at}
use Rattle.csr.specs.declared.address.Csr.{Csr}
use Rattle.instr.specs.Instructions.{is_written, written, written_if, read_into, performed, accepted_to, emulated_to, emulated}
use Rattle.instr.specs.Laws.{then_into, is_masking, ReadThenWrite, NoBitsNoWrite, ZeroWritesBack, SameButRd, LineReachesRdAlone, RegisterKeepsLegal, ImmediateKeepsLegal}
use Rattle.instr.specs.declared.operation.Op.{Op}
use Rattle.instr.specs.declared.operation.Op.TheVariants.{Csrrw, Csrrs, Csrrc}

-- what has 64 bits has them with the line down
down : {o : Host} → FitsHost o → FitsHost (line_down o)
down f = record { time = f.time; seed = f.seed }

-- ---- an instruction is its read and its write

pub read_then_write : ReadThenWrite
read_then_write op c h o a rd field x v old k =
    ap (λ (d : Decoded). emulated_to op c h o rd field x (line_to o.line (accepted_to h.mode rd field d))) of.decoded
    ∙ ap (emulated_to op c h o rd field x) accepts
    ∙ ap₂ (λ (u w : ℕ). read_into rd u h (written_if (is_written op field) c h r (written op w x))) of.value old_value
    ∙ wrote (is_written op field)
  where
    of : ReadOfCsr c h o a v
    of = read_done c h o a v k.effect k.reads

    r : Csr
    r = of.csr

    accepts : line_to o.line (accepted_to h.mode rd field (Ok r)) ≡ Ok r
    accepts = rw (k.numbers, eq-eqb h.mode mode_m k.mode, of.line)

    below : ReadOfCsr c h (line_down o) a old
    below = read_done c h (line_down o) a old k.effect k.reads_old

    -- both reads are of one CSR
    same : (s : Csr) → decode_of c a ≡ Ok s → decode_of c a ≡ Ok r → r ≡ s
    same s p q = cc

    old_value : read_of c h (line_down o) r ≡ old
    old_value = ap (read_of c h (line_down o)) (same below.csr below.decoded of.decoded) ∙ below.value

    -- what isn't written asks for nothing
    wrote : (w : Bool) → read_into rd v h (written_if w c h r (written op old x)) ≡ then_into rd v (cond w (write_at c h a (written op old x)) (done h))
    wrote true = ap (then_into rd v) (sym (write_done c h a (written op old x) r of.decoded))
    wrote false = ap (λ (e : Effect). record { hart = set_x rd v h; answer = Ok (v, e) }) (same_asks_nothing h)

-- ---- a mask of no bits

pub no_bits_no_write : NoBitsNoWrite
no_bits_no_write Csrrw c h o a rd x v old m k = absurd (≡→T false m)
no_bits_no_write Csrrs c h o a rd x v old m k = read_then_write Csrrs c h o a rd 0 x v old k
no_bits_no_write Csrrc c h o a rd x v old m k = read_then_write Csrrc c h o a rd 0 x v old k

-- a mask of no bits leaves the value
no_bits : (op : Op) (old : ℕ) → is_masking op ≡ true → Fits old → written op old 0 ≡ old
no_bits Csrrw old m q = absurd (≡→T false m)
no_bits Csrrs old m q = or_zero_r old
no_bits Csrrc old m q = by_bits (var 0 & inv (lit 0)) (var 0) tt (env1 old q [])

pub zero_writes_back : ZeroWritesBack
zero_writes_back op c h o a rd rs1 v old m l f n k = read_then_write op c h o a rd rs1 0 v old k ∙ ap (then_into rd v) (go (is_written op rs1))
  where
    go : (w : Bool) → cond w (write_at c h a (written op old 0)) (done h) ≡ done h
    go true =
        ap (write_at c h a) (no_bits op old m (read_fits_at c h (line_down o) a old k.effect l.caps_fit l.hart_fits (down f) k.reads_old))
        ∙ write_back_at c h (line_down o) a old k.effect l k.reads_old n (λ e. refl)
    go false = refl

-- ---- the controller's line

pub line_reaches_rd_alone : LineReachesRdAlone
line_reaches_rd_alone op c h o a rd field x e = go (accepted_to h.mode rd field (decode_of c a))
  where
    go : (d : Decoded) → SameButRd rd (emulated_to op c h o rd field x (line_to o.line d)) (emulated_to op c h (line_down o) rd field x (line_to 0 d))
    go (Err why) = record { hart = λ v. refl; answer = λ v. refl }
    go (Ok r) =
        subst (λ (b : Bool). SameButRd rd (emulated_to op c h o rd field x (cond b (Ok r) (Err BadLine))) (performed op c h (line_down o) r rd field x)) (sym e)
        (record { hart = λ v. set_set rd v (read_of c h o r) _ ∙ sym (set_set rd v (read_of c h (line_down o) r) _); answer = λ v. refl })

-- ---- legal kept

written_fits : (op : Op) (old x : ℕ) → Fits old → Fits x → Fits (written op old x)
written_fits Csrrw old x p q = q
written_fits Csrrs old x p q = below_64 (var 0 ∣ var 1) tt (env2 old x p q [])
written_fits Csrrc old x p q = below_64 (var 0 & inv (var 1)) tt (env2 old x p q [])

get_x_fits : (n : ℕ) (h : Hart) → FitsHart h → Fits (get_x n h)
get_x_fits n h f = go (ltb n 32)
  where
    go : (b : Bool) → Fits (cond b (get_or h.x n 0) 0)
    go true = f.registers n
    go false = lit< tt

module _ (op : Op) (c : Caps) (h : Hart) (o : Host) (a rd field x : ℕ) (l : Legal c h) (f : FitsHost o) (q : Fits x) where
  performed_legal : (r : Csr) → is_present c r ≡ true → Legal c (performed op c h o r rd field x).hart
  performed_legal r p = set_keeps_legal c (written_if (is_written op field) c h r v) rd (read_of c h o r) (next (is_written op field)) (read_fits c h o r l.caps_fit l.hart_fits f)
    where
      old : ℕ
      old = read_of c h (line_down o) r

      v : ℕ
      v = written op old x

      fits : Fits old
      fits = read_fits c h (line_down o) r l.caps_fit l.hart_fits (down f)

      next : (w : Bool) → Legal c (written_if w c h r v)
      next true = legal_kept c h r v l (written_fits op old x fits q) p
      next false = l

  emulated_legal : Legal c (emulated op c h o a rd field x).hart
  emulated_legal = go (decode_of c a) refl
    where
      found : (r : Csr) (b m i : Bool) → is_present c r ≡ true → is_line o.line ≡ i
          → Legal c (emulated_to op c h o rd field x (line_to o.line (cond b (Err BadOperand) (cond m (Ok r) (Err NotMachine))))).hart
      found r true m i p e = l
      found r false true true p e = rw e (performed_legal r p)
      found r false true false p e = rw e l
      found r false false i p e = l

      go : (d : Decoded) → decode_of c a ≡ d → Legal c (emulated_to op c h o rd field x (line_to o.line (accepted_to h.mode rd field d))).hart
      go (Ok r) e = found r (ltb 31 rd || ltb 31 field) (eqb h.mode mode_m) (is_line o.line) (decoded_is_present c a r e).1 refl
      go (Err why) e = l

pub register_keeps_legal : RegisterKeepsLegal
register_keeps_legal op c h o a rd rs1 l f = emulated_legal op c h o a rd rs1 (get_x rs1 h) l f (get_x_fits rs1 h l.hart_fits)

pub immediate_keeps_legal : ImmediateKeepsLegal
immediate_keeps_legal op c h o a rd imm l f q = emulated_legal op c h o a rd imm imm l f q
