-- The fields of mstatus (300) that traps and returns move, by the manual's names: each read, and
-- each set to a value.
-- Source: RISC-V manual 20240411, Volume II, "Machine Status (mstatus and mstatush) Registers".
use Rattle.bits.specs.Alg.{Alg}

pub record Fields (A : Alg) : Type 0 where
  pub MIE : A.Word → A.Word
  pub SPIE : A.Word → A.Word
  pub MPIE : A.Word → A.Word
  pub SPP : A.Word → A.Word
  pub MPP : A.Word → A.Word
  pub MPRV : A.Word → A.Word
  -- the value, the word
  pub set_sie : A.Word → A.Word → A.Word
  pub set_mie : A.Word → A.Word → A.Word
  pub set_spie : A.Word → A.Word → A.Word
  pub set_mpie : A.Word → A.Word → A.Word
  pub set_spp : A.Word → A.Word → A.Word
  pub set_mpp : A.Word → A.Word → A.Word
  pub set_mprv : A.Word → A.Word → A.Word

abbrev pub fields : (A : Alg) → Fields A
fields A =
    record {
      MIE = A.field 3 1;
      SPIE = A.field 5 1;
      MPIE = A.field 7 1;
      SPP = A.field 8 1;
      MPP = A.field 11 2;
      MPRV = A.field 17 1;
      set_sie = A.insert 1 1;
      set_mie = A.insert 3 1;
      set_spie = A.insert 5 1;
      set_mpie = A.insert 7 1;
      set_spp = A.insert 8 1;
      set_mpp = A.insert 11 2;
      set_mprv = A.insert 17 1;
    }
