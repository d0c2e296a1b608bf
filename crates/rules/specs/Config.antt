-- mcounteren (306), scounteren (106), mcountinhibit (320), menvcfg (30A), senvcfg (10A), tselect
-- (7A0).
-- Source: RISC-V manual 20240411, Volume II, "Machine Counter-Enable (mcounteren) Register",
-- "Machine Counter-Inhibit (mcountinhibit) Register", "Machine Environment Configuration (menvcfg)
-- Register", "Supervisor Environment Configuration (senvcfg) Register"; the Debug Specification,
-- "Trigger Select"; docs/RULES.md, "Registers".
use Rattle.std.specs.Prelude.{Bool, ℕ}
use Rattle.bits.specs.Alg.{Alg, plain}

module _ (A : Alg) where
  open A use {Word, Test, num, ◌∣◌, ◌&◌, compl, ◌≐◌, field, at, ones, when, choose}

  -- mcounteren (306), scounteren (106): CY, TM and IR
  abbrev pub counteren : Word → Word
  counteren v = v & (ones 0 1 ∣ ones 1 1 ∣ ones 2 1)

  -- mcountinhibit (320): CY and IR. Bit 1 is 0: the time isn't inhibited
  abbrev pub countinhibit : Word → Word
  countinhibit v = v & (ones 0 1 ∣ ones 2 1)

  -- senvcfg (10A): CBIE 2 is reserved and becomes 0
  abbrev pub senvcfg : Test → Test → Word → Word
  senvcfg zicbom zicboz v =
      at 0 (field 0 1 v)  -- FIOM
      ∣ at 4 (when zicbom (choose (field 4 2 v ≐ num 2) (num 0) (field 4 2 v)))  -- CBIE
      ∣ at 6 (when zicbom (field 6 1 v))  -- CBCFE
      ∣ at 7 (when zicboz (field 7 1 v))  -- CBZE

  -- menvcfg (30A): the same, and
  abbrev pub menvcfg : Test → Test → Test → Test → Word → Word
  menvcfg zicbom zicboz svpbmt sstc v =
      senvcfg zicbom zicboz v
      ∣ at 62 (when svpbmt (field 62 1 v))  -- PBMTE
      ∣ at 63 (when sstc (field 63 1 v))  -- STCE

  -- tselect (7A0) reads as its complement
  abbrev pub tselect_read : Word → Word
  tselect_read = compl

unfoldable pub legal_counteren : ℕ → ℕ
legal_counteren = counteren plain

unfoldable pub legal_countinhibit : ℕ → ℕ
legal_countinhibit = countinhibit plain

-- Zicbom, Zicboz, the word written
unfoldable pub legal_senvcfg : Bool → Bool → ℕ → ℕ
legal_senvcfg = senvcfg plain

-- Zicbom, Zicboz, Svpbmt, Sstc, the word written
unfoldable pub legal_menvcfg : Bool → Bool → Bool → Bool → ℕ → ℕ
legal_menvcfg = menvcfg plain

-- what tselect reads, of the stored word
abbrev pub read_tselect : ℕ → ℕ
read_tselect = tselect_read plain
