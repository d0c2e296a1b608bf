-- Every CSR is lawful: its writes are ignored, or it has a rule that keeps a word legal and of 64
-- bits, gives back what is read, and forgets the first of two writes.
use mathlib.Core.Path.{◌≡◌, refl, ap, ◌∙◌}
use mathlib.Core.Bool.{true, not, ◌&&◌}
use Prim.Native.Nat.{ℕ}
use lib.Dec.{eqb, lit<}
use borrow.Author.Tests.{eqb-true, eq-eqb, not-true}
use Rattle.std.specs.Prelude.{Some, None}
use Rattle.bits.specs.Word.{Fits}
use Rattle.bits.proofs.Bools.{left, right, pair, or_left, or_right, implied}
use Rattle.rules.specs.Interrupts.{legal_mie, legal_mideleg, legal_medeleg, read_mip, written_sie, written_mip, written_sip}
use Rattle.rules.specs.Addresses.{written_tvec, written_satp}
use Rattle.rules.specs.Config.{legal_counteren, legal_countinhibit}
use Rattle.rules.proofs.StatusLaws.{mstatus_again, mstatus_fits, sstatus_fits, sstatus_legal, sstatus_back, sstatus_twice}
use Rattle.rules.proofs.InterruptLaws.{mie_again, mie_fits, mideleg_again, mideleg_fits, medeleg_again, medeleg_fits, sie_fits, sie_legal, sie_back, sie_twice, mip_down, mip_fits, mip_legal, mip_back, mip_twice, sip_fits, sip_legal, sip_back, sip_twice}
use Rattle.rules.proofs.AddressLaws.{tvec_fits, tvec_legal, tvec_back, tvec_twice, epc_fits, epc_legal, epc_back, epc_twice, satp_fits, satp_legal, satp_back, satp_twice}
use Rattle.rules.proofs.ConfigLaws.{counteren_fits, counteren_legal, counteren_back, countinhibit_fits, countinhibit_again, menvcfg_fits, menvcfg_again, senvcfg_fits, senvcfg_again}
use Rattle.hart.specs.Words.{get, put}
use Rattle.hart.specs.Laws.{FitsHart, FitsHost, FitsCaps, Legal}
use Rattle.hart.specs.Caps.{has_s, has_c, has_fs, has_vs, has_sstc, has_zicbom, has_zicboz, has_svpbmt, mstatus_of, sstatus_of, epc_of, menvcfg_of, senvcfg_of}
use Rattle.hart.specs.Legal.{legal_word}
use Rattle.hart.proofs.Put.{get_same}
use Rattle.hart.proofs.Legal.{legal_word_lem}
use Rattle.hart.proofs.Capable.{caps_222}
use Rattle.hart.specs.declared.caps.Caps.{Caps}
use Rattle.hart.specs.declared.record.Hart.{Hart}
use Rattle.hart.specs.declared.record.Host.{Host}
use Rattle.hart.specs.declared.record.Word.{Word}
use Rattle.hart.specs.declared.record.Word.TheVariants as words
use Rattle.csr.specs.Address.{is_present}
use Rattle.csr.specs.Line.{raises_seip, line_down}
use Rattle.csr.specs.Access.{read_of, stored_of}
use Rattle.csr.specs.Laws.{is_claimed, view}
use Rattle.csr.specs.declared.address.Csr.{Csr}
use Rattle.csr.specs.declared.address.Csr.TheVariants.{Mstatus, Misa, Medeleg, Mideleg, Mie, Mtvec, Mcounteren, Menvcfg, Mcountinhibit, Mscratch, Mepc, Mcause, Mtval, Mip, Sstatus, Sie, Stvec, Scounteren, Senvcfg, Sscratch, Sepc, Scause, Stval, Sip, Stimecmp, Satp, Scontext, Tselect, Mcycle, Minstret, Cycle, Time, Instret, Mvendorid, Marchid, Mimpid, Mhartid, Mconfigptr, Seed, Mhpmcounter, Mhpmevent}

-- a rule by which the CSR r stores a word
pub record Rule (r : Csr) : Type 0 where
  pub word : Word
  pub stores : Caps → Hart → ℕ → ℕ
  pub is : (c : Caps) (h : Hart) (v : ℕ) → stored_of c h r v ≡ Some (word, stores c h v)
  pub shows : (c : Caps) (h : Hart) (o : Host) (x : ℕ) → read_of c (put word x h) o r ≡ view c h o r x
  pub legal : (c : Caps) (h : Hart) (v : ℕ) → Legal c h → Fits v → is_present c r ≡ true → legal_word c word (stores c h v) ≡ true
  pub fits : (c : Caps) (h : Hart) (v : ℕ) → FitsCaps c → FitsHart h → Fits v → Fits (stores c h v)
  pub back : (c : Caps) (h : Hart) (o : Host) → Legal c h → is_present c r ≡ true → (r ≡ Tselect → ⊥) → (r ≡ Mip → o.line ≡ 0) → stores c h (view c h o r (get word h)) ≡ get word h
  pub second : (c : Caps) (h : Hart) (v w : ℕ) → FitsCaps c → FitsHart h → Fits v → Fits w → is_claimed c r w ≡ true
      → stores c (put word (stores c h v) h) w ≡ stores c h w

-- the writes to r are ignored, and it reads 64 bits, whatever the line; or it has a rule, and shows
-- the word
pub data Lawful (r : Csr) : Type 0 where
  ignores : ((c : Caps) (h : Hart) (v : ℕ) → stored_of c h r v ≡ None)
      → ((c : Caps) (h : Hart) (o : Host) → FitsCaps c → FitsHart h → FitsHost o → Fits (read_of c h o r))
      → ((c : Caps) (h : Hart) (o : Host) → read_of c h o r ≡ read_of c h (line_down o) r) → Lawful r
  has : Rule r → Lawful r

-- a CSR that stores into its word w what f makes of the old word and the written one
module _ {r : Csr} (w : Word) (f : Caps → ℕ → ℕ → ℕ) (is : (c : Caps) (h : Hart) (v : ℕ) → stored_of c h r v ≡ Some (w, f c (get w h) v))
    (shows : (c : Caps) (h : Hart) (o : Host) (x : ℕ) → read_of c (put w x h) o r ≡ view c h o r x) where
  own : ((c : Caps) (m v : ℕ) → FitsCaps c → Fits m → Fits v → Fits (f c m v))
      → ((c : Caps) (m v : ℕ) → FitsCaps c → Fits m → Fits v → is_present c r ≡ true → legal_word c w m ≡ true → legal_word c w (f c m v) ≡ true)
      → ((c : Caps) (h : Hart) (o : Host) (m : ℕ) → Fits m → is_present c r ≡ true → (r ≡ Tselect → ⊥) → legal_word c w m ≡ true → f c m (view c h o r m) ≡ m)
      → ((c : Caps) (m v x : ℕ) → Fits m → Fits v → Fits x → is_claimed c r x ≡ true → f c (f c m v) x ≡ f c m x) → Lawful r
  own fits legal back second = has (record {
    word = w;
    stores = λ c h v. f c (get w h) v;
    is = is;
    shows = shows;
    legal = λ c h v l q p. legal c (get w h) v l.caps_fit (l.hart_fits.words w) q p (legal_word_lem c h l.hart w);
    fits = λ c h v fc fh q. fits c (get w h) v fc (fh.words w) q;
    back = λ c h o l p n d. back c h o (get w h) (l.hart_fits.words w) p n (legal_word_lem c h l.hart w);
    second = λ c h v x fc fh a b p. ap (λ (m : ℕ). f c m x) (get_same w (f c (get w h) v) h) ∙ second c (get w h) v x (fh.words w) a b p;
  })

-- one that the capabilities legalize, whatever the old word
module _ {r : Csr} (w : Word) (f : Caps → ℕ → ℕ) (is : (c : Caps) (h : Hart) (v : ℕ) → stored_of c h r v ≡ Some (w, f c v))
    (shows : (c : Caps) (h : Hart) (o : Host) (x : ℕ) → read_of c (put w x h) o r ≡ view c h o r x) where
  legalized : ((c : Caps) (v : ℕ) → FitsCaps c → Fits v → Fits (f c v))
      → ((c : Caps) (v : ℕ) → FitsCaps c → Fits v → is_present c r ≡ true → legal_word c w (f c v) ≡ true)
      → ((c : Caps) (h : Hart) (o : Host) (v : ℕ) → Fits v → is_present c r ≡ true → (r ≡ Tselect → ⊥) → legal_word c w v ≡ true → f c (view c h o r v) ≡ v) → Lawful r
  legalized fits legal back =
      own w (λ c m v. f c v) is shows (λ c m v fc fm q. fits c v fc q) (λ c m v fc fm q p e. legal c v fc q p) back (λ c m v x fm a b p. refl)

-- one that is stored whole
module _ {r : Csr} (w : Word) (is : (c : Caps) (h : Hart) (v : ℕ) → stored_of c h r v ≡ Some (w, v))
    (shows : (c : Caps) (h : Hart) (o : Host) (x : ℕ) → read_of c (put w x h) o r ≡ view c h o r x) where
  whole : ((c : Caps) (h : Hart) (o : Host) (v : ℕ) → (r ≡ Tselect → ⊥) → view c h o r v ≡ v) → ((c : Caps) (v : ℕ) → is_present c r ≡ true → legal_word c w v ≡ true) → Lawful r
  whole plain legal = legalized w (λ c v. v) is shows (λ c v fc q. q) (λ c v fc q p. legal c v p) (λ c h o v q p n e. plain c h o v n)

-- while the line is down mip reads the stored word
pub stored_read : (c : Caps) (o : Host) (m : ℕ) → o.line ≡ 0 → read_mip (raises_seip c o) m ≡ m
stored_read c o m e = ap (λ (n : ℕ). read_mip (eqb n 1 && has_s c) m) e ∙ mip_down m

pub lawful : (r : Csr) → Lawful r
unfolding read_of stored_of put legal_word mstatus_of
lawful Mstatus =
    legalized words.Mstatus (λ c v. mstatus_of c v) (λ c h v. refl) (λ c h o x. refl)
    (λ c v fc q. mstatus_fits (has_s c) (has_fs c) (has_vs c) v q)
    (λ c v fc q p. eq-eqb _ _ (mstatus_again (has_s c) (has_fs c) (has_vs c) v q))
    (λ c h o v q p n e. eqb-true _ _ e)
lawful Misa = ignores (λ c h v. refl) (λ c h o fc fh fo. fc.misa) (λ c h o. refl)
lawful Medeleg =
    legalized words.Medeleg (λ c v. legal_medeleg v) (λ c h v. refl) (λ c h o x. refl)
    (λ c v fc q. medeleg_fits v q)
    (λ c v fc q p. pair _ _ (eq-eqb _ _ (medeleg_again v q)) (or_left _ _ (left (has_s c) true p)))
    (λ c h o v q p n e. eqb-true _ _ (left _ _ e))
lawful Mideleg =
    legalized words.Mideleg (λ c v. legal_mideleg c.interrupts v) (λ c h v. refl) (λ c h o x. refl)
    (λ c v fc q. mideleg_fits c.interrupts fc.interrupts v q)
    (λ c v fc q p. pair _ _ (or_right (not (has_s c)) _ (eq-eqb _ _ (mideleg_again c.interrupts fc.interrupts v q))) (or_left _ _ (left (has_s c) true p)))
    (λ c h o v q p n e. eqb-true _ _ (implied (has_s c) _ (left _ _ e) (left (has_s c) true p)))
lawful Mie =
    legalized words.Mie (λ c v. legal_mie c.interrupts v) (λ c h v. refl) (λ c h o x. refl)
    (λ c v fc q. mie_fits c.interrupts fc.interrupts v q)
    (λ c v fc q p. eq-eqb _ _ (mie_again c.interrupts fc.interrupts v q))
    (λ c h o v q p n e. eqb-true _ _ e)
lawful Mtvec =
    own words.Mtvec (λ c m v. written_tvec m v) (λ c h v. refl) (λ c h o x. refl)
    (λ c m v fc fm q. tvec_fits m fm v q)
    (λ c m v fc fm q p e. tvec_legal m fm v q e)
    (λ c h o m fm p n e. tvec_back m fm)
    (λ c m v x fm a b p. tvec_twice m fm v x a b p)
lawful Mcounteren =
    legalized words.Mcounteren (λ c v. legal_counteren v) (λ c h v. refl) (λ c h o x. refl)
    (λ c v fc q. counteren_fits v q)
    (λ c v fc q p. counteren_legal v q)
    (λ c h o v q p n e. counteren_back v q e)
lawful Menvcfg =
    legalized words.Menvcfg (λ c v. menvcfg_of c v) (λ c h v. refl) (λ c h o x. refl)
    (λ c v fc q. menvcfg_fits (has_zicbom c) (has_zicboz c) (has_svpbmt c) (has_sstc c) v q)
    (λ c v fc q p. eq-eqb _ _ (menvcfg_again (has_zicbom c) (has_zicboz c) (has_svpbmt c) (has_sstc c) v q))
    (λ c h o v q p n e. eqb-true _ _ e)
lawful Mcountinhibit =
    legalized words.Mcountinhibit (λ c v. legal_countinhibit v) (λ c h v. refl) (λ c h o x. refl)
    (λ c v fc q. countinhibit_fits v q)
    (λ c v fc q p. eq-eqb _ _ (countinhibit_again v q))
    (λ c h o v q p n e. eqb-true _ _ e)
lawful Mscratch = whole words.Mscratch (λ c h v. refl) (λ c h o x. refl) (λ c h o v n. refl) (λ c v p. refl)
lawful Mepc =
    own words.Mepc epc_of (λ c h v. refl) (λ c h o x. refl)
    (λ c m v fc fm q. epc_fits c.highest (has_c c) m fm v q)
    (λ c m v fc fm q p e. epc_legal c.highest (has_c c) m fm v q e)
    (λ c h o m fm p n e. epc_back c.highest (has_c c) m fm e)
    (λ c m v x fm a b p. epc_twice c.highest (has_c c) m fm v x a b (not-true _ p))
lawful Mcause = whole words.Mcause (λ c h v. refl) (λ c h o x. refl) (λ c h o v n. refl) (λ c v p. refl)
lawful Mtval = whole words.Mtval (λ c h v. refl) (λ c h o x. refl) (λ c h o v n. refl) (λ c v p. refl)
lawful Mip =
    has (record {
      word = words.Mip;
      stores = λ c h v. written_mip c.interrupts h.menvcfg h.mip v;
      is = λ c h v. refl;
      shows = λ c h o x. refl;
      legal = λ c h v l q p. eq-eqb _ _ (mip_legal c.interrupts h.menvcfg h.mip l.caps_fit.interrupts (l.hart_fits.words words.Menvcfg) (l.hart_fits.words words.Mip) v q (eqb-true _ _ (legal_word_lem c h l.hart words.Mip)));
      fits = λ c h v fc fh q. mip_fits c.interrupts h.menvcfg h.mip fc.interrupts (fh.words words.Menvcfg) (fh.words words.Mip) v q;
      back = λ c h o l p n d. ap (written_mip c.interrupts h.menvcfg h.mip) (stored_read c o h.mip (d refl)) ∙ mip_back c.interrupts h.menvcfg h.mip l.caps_fit.interrupts (l.hart_fits.words words.Menvcfg) (l.hart_fits.words words.Mip);
      second = λ c h v x fc fh a b p. mip_twice c.interrupts h.menvcfg h.mip fc.interrupts (fh.words words.Menvcfg) (fh.words words.Mip) v x a b;
    })
lawful Sstatus =
    own words.Mstatus sstatus_of (λ c h v. refl) (λ c h o x. refl)
    (λ c m v fc fm q. sstatus_fits (has_s c) (has_fs c) (has_vs c) m v fm q)
    (λ c m v fc fm q p e. eq-eqb _ _ (sstatus_legal (has_s c) (has_fs c) (has_vs c) m v fm q))
    (λ c h o m fm p n e. sstatus_back (has_s c) (has_fs c) (has_vs c) m fm (eqb-true _ _ e))
    (λ c m v x fm a b p. sstatus_twice (has_s c) (has_fs c) (has_vs c) m v x fm a b)
lawful Sie =
    has (record {
      word = words.Mie;
      stores = λ c h v. written_sie h.mideleg h.mie v;
      is = λ c h v. refl;
      shows = λ c h o x. refl;
      legal = λ c h v l q p. eq-eqb _ _ (sie_legal h.mideleg h.mie (l.hart_fits.words words.Mideleg) (l.hart_fits.words words.Mie) c.interrupts v l.caps_fit.interrupts q (caps_222 c l.caps (left (has_s c) true p)) (eqb-true _ _ (legal_word_lem c h l.hart words.Mie)));
      fits = λ c h v fc fh q. sie_fits h.mideleg h.mie (fh.words words.Mideleg) (fh.words words.Mie) v q;
      back = λ c h o l p n d. sie_back h.mideleg h.mie (l.hart_fits.words words.Mideleg) (l.hart_fits.words words.Mie);
      second = λ c h v x fc fh a b p. sie_twice h.mideleg h.mie (fh.words words.Mideleg) (fh.words words.Mie) v x a b;
    })
lawful Stvec =
    own words.Stvec (λ c m v. written_tvec m v) (λ c h v. refl) (λ c h o x. refl)
    (λ c m v fc fm q. tvec_fits m fm v q)
    (λ c m v fc fm q p e. pair _ _ (tvec_legal m fm v q (left _ _ e)) (or_left _ _ (left (has_s c) true p)))
    (λ c h o m fm p n e. tvec_back m fm)
    (λ c m v x fm a b p. tvec_twice m fm v x a b p)
lawful Scounteren =
    legalized words.Scounteren (λ c v. legal_counteren v) (λ c h v. refl) (λ c h o x. refl)
    (λ c v fc q. counteren_fits v q)
    (λ c v fc q p. pair _ _ (counteren_legal v q) (or_left _ _ (left (has_s c) true p)))
    (λ c h o v q p n e. counteren_back v q (left _ _ e))
lawful Senvcfg =
    legalized words.Senvcfg (λ c v. senvcfg_of c v) (λ c h v. refl) (λ c h o x. refl)
    (λ c v fc q. senvcfg_fits (has_zicbom c) (has_zicboz c) v q)
    (λ c v fc q p. pair _ _ (eq-eqb _ _ (senvcfg_again (has_zicbom c) (has_zicboz c) v q)) (or_left _ _ (left (has_s c) true p)))
    (λ c h o v q p n e. eqb-true _ _ (left _ _ e))
lawful Sscratch = whole words.Sscratch (λ c h v. refl) (λ c h o x. refl) (λ c h o v n. refl) (λ c v p. or_left _ _ (left (has_s c) true p))
lawful Sepc =
    own words.Sepc epc_of (λ c h v. refl) (λ c h o x. refl)
    (λ c m v fc fm q. epc_fits c.highest (has_c c) m fm v q)
    (λ c m v fc fm q p e. pair _ _ (epc_legal c.highest (has_c c) m fm v q (left _ _ e)) (or_left _ _ (left (has_s c) true p)))
    (λ c h o m fm p n e. epc_back c.highest (has_c c) m fm (left _ _ e))
    (λ c m v x fm a b p. epc_twice c.highest (has_c c) m fm v x a b (not-true _ p))
lawful Scause = whole words.Scause (λ c h v. refl) (λ c h o x. refl) (λ c h o v n. refl) (λ c v p. or_left _ _ (left (has_s c) true p))
lawful Stval = whole words.Stval (λ c h v. refl) (λ c h o x. refl) (λ c h o v n. refl) (λ c v p. or_left _ _ (left (has_s c) true p))
lawful Sip =
    has (record {
      word = words.Mip;
      stores = λ c h v. written_sip h.mip v;
      is = λ c h v. refl;
      shows = λ c h o x. refl;
      legal = λ c h v l q p. eq-eqb _ _ (sip_legal h.mip (l.hart_fits.words words.Mip) c.interrupts v l.caps_fit.interrupts q (caps_222 c l.caps (left (has_s c) true p)) (eqb-true _ _ (legal_word_lem c h l.hart words.Mip)));
      fits = λ c h v fc fh q. sip_fits h.mip (fh.words words.Mip) v q;
      back = λ c h o l p n d. sip_back h.mip (l.hart_fits.words words.Mip) (raises_seip c o) c.interrupts h.mideleg l.caps_fit.interrupts (l.hart_fits.words words.Mideleg) (eqb-true _ _ (implied (has_s c) _ (left _ _ (legal_word_lem c h l.hart words.Mideleg)) (left (has_s c) true p)));
      second = λ c h v x fc fh a b p. sip_twice h.mip (fh.words words.Mip) v x a b;
    })
lawful Stimecmp = whole words.Stimecmp (λ c h v. refl) (λ c h o x. refl) (λ c h o v n. refl) (λ c v p. pair _ _ (or_left _ _ (left (has_s c) (has_sstc c) p)) (or_left _ _ (right (has_s c) (has_sstc c) p)))
lawful Satp =
    own words.Satp (λ c m v. written_satp m v) (λ c h v. refl) (λ c h o x. refl)
    (λ c m v fc fm q. satp_fits m fm v q)
    (λ c m v fc fm q p e. pair _ _ (satp_legal m fm v q (left _ _ e)) (or_left _ _ (left (has_s c) true p)))
    (λ c h o m fm p n e. satp_back m fm)
    (λ c m v x fm a b p. satp_twice m fm v x a b p)
lawful Scontext = ignores (λ c h v. refl) (λ c h o fc fh fo. lit< tt) (λ c h o. refl)
lawful Tselect = whole words.Tselect (λ c h v. refl) (λ c h o x. refl) (λ c h o v n. absurd (n refl)) (λ c v p. refl)
lawful Mcycle = whole words.Mcycle (λ c h v. refl) (λ c h o x. refl) (λ c h o v n. refl) (λ c v p. refl)
lawful Minstret = whole words.Minstret (λ c h v. refl) (λ c h o x. refl) (λ c h o v n. refl) (λ c v p. refl)
lawful Cycle = ignores (λ c h v. refl) (λ c h o fc fh fo. fh.words words.Mcycle) (λ c h o. refl)
lawful Time = ignores (λ c h v. refl) (λ c h o fc fh fo. fo.time) (λ c h o. refl)
lawful Instret = ignores (λ c h v. refl) (λ c h o fc fh fo. fh.words words.Minstret) (λ c h o. refl)
lawful Mvendorid = ignores (λ c h v. refl) (λ c h o fc fh fo. fc.mvendorid) (λ c h o. refl)
lawful Marchid = ignores (λ c h v. refl) (λ c h o fc fh fo. fc.marchid) (λ c h o. refl)
lawful Mimpid = ignores (λ c h v. refl) (λ c h o fc fh fo. fc.mimpid) (λ c h o. refl)
lawful Mhartid = ignores (λ c h v. refl) (λ c h o fc fh fo. fc.mhartid) (λ c h o. refl)
lawful Mconfigptr = ignores (λ c h v. refl) (λ c h o fc fh fo. fc.mconfigptr) (λ c h o. refl)
lawful Seed = ignores (λ c h v. refl) (λ c h o fc fh fo. fo.seed) (λ c h o. refl)
lawful (Mhpmcounter n) = ignores (λ c h v. refl) (λ c h o fc fh fo. lit< tt) (λ c h o. refl)
lawful (Mhpmevent n) = ignores (λ c h v. refl) (λ c h o fc fh fo. lit< tt) (λ c h o. refl)
