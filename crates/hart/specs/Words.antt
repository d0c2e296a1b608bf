-- The words of the hart's record: the list of them, the place of each in the image, and the record
-- with words or a general register changed. Source: docs/RULES.md, "Images".
use Rattle.std.specs.Prelude.{ℕ, ◌+◌, ◌-◌, cond, List, [], ◌∷◌, map, eqb, ltb, length, get_or, set}
use Rattle.hart.specs.declared.record.Hart.{Hart}
use Rattle.hart.specs.declared.record.Word.{Word}
use Rattle.hart.specs.declared.record.Word.TheVariants.{Pc, Mode, Waiting, Mstatus, Mie, Mip, Mideleg, Medeleg, Mtvec, Mcounteren, Mcountinhibit, Menvcfg, Mscratch, Mepc, Mcause, Mtval, Mcycle, Minstret, Tselect, Stvec, Scounteren, Senvcfg, Sscratch, Sepc, Scause, Stval, Satp, Stimecmp}

-- the names of the words after x0 to x31, in the image's order. `Word-back` (hart/proofs/Put.antt)
-- proves that this order and that of `at_places` are the same
abbrev pub words : List Word
words =
    Pc ∷ Mode ∷ Waiting ∷ Mstatus ∷ Mie ∷ Mip ∷ Mideleg ∷ Medeleg ∷ Mtvec ∷ Mcounteren ∷
    Mcountinhibit ∷ Menvcfg ∷ Mscratch ∷ Mepc ∷ Mcause ∷ Mtval ∷ Mcycle ∷ Minstret ∷ Tselect ∷
    Stvec ∷ Scounteren ∷ Senvcfg ∷ Sscratch ∷ Sepc ∷ Scause ∷ Stval ∷ Satp ∷ Stimecmp ∷ []

-- how many words the image has
abbrev pub image_words : ℕ
image_words = 32 + length words

abbrev pub get : Word → Hart → ℕ
get Pc h = h.pc
get Mode h = h.mode
get Waiting h = h.waiting
get Mstatus h = h.mstatus
get Mie h = h.mie
get Mip h = h.mip
get Mideleg h = h.mideleg
get Medeleg h = h.medeleg
get Mtvec h = h.mtvec
get Mcounteren h = h.mcounteren
get Mcountinhibit h = h.mcountinhibit
get Menvcfg h = h.menvcfg
get Mscratch h = h.mscratch
get Mepc h = h.mepc
get Mcause h = h.mcause
get Mtval h = h.mtval
get Mcycle h = h.mcycle
get Minstret h = h.minstret
get Tselect h = h.tselect
get Stvec h = h.stvec
get Scounteren h = h.scounteren
get Senvcfg h = h.senvcfg
get Sscratch h = h.sscratch
get Sepc h = h.sepc
get Scause h = h.scause
get Stval h = h.stval
get Satp h = h.satp
get Stimecmp h = h.stimecmp

-- the record of these general registers, and in each word f of its place in the image
abbrev pub at_places : List ℕ → (ℕ → ℕ) → Hart
at_places xs f = record {
  x = xs;
  pc = f 32;
  mode = f 33;
  waiting = f 34;
  mstatus = f 35;
  mie = f 36;
  mip = f 37;
  mideleg = f 38;
  medeleg = f 39;
  mtvec = f 40;
  mcounteren = f 41;
  mcountinhibit = f 42;
  menvcfg = f 43;
  mscratch = f 44;
  mepc = f 45;
  mcause = f 46;
  mtval = f 47;
  mcycle = f 48;
  minstret = f 49;
  tselect = f 50;
  stvec = f 51;
  scounteren = f 52;
  senvcfg = f 53;
  sscratch = f 54;
  sepc = f 55;
  scause = f 56;
  stval = f 57;
  satp = f 58;
  stimecmp = f 59;
}

-- the place of a word: what is read where each word holds its place
abbrev pub place_of : Word → ℕ
place_of w = get w (at_places [] (λ place. place))

-- the name of the word at a place
abbrev pub name_at : ℕ → Word
name_at place = get_or words (place - 32) Pc

-- the record of these general registers and words
abbrev pub hart_of : List ℕ → (Word → ℕ) → Hart
hart_of xs f = at_places xs (λ place. f (name_at place))

-- the record with the word w changed to v
unfoldable pub put : Word → ℕ → Hart → Hart
put w v h = hart_of h.x (λ u. cond (eqb (place_of w) (place_of u)) v (get u h))

-- with these words changed. No list here names a word twice, so their order doesn't matter
abbrev pub puts : List (Word × ℕ) → Hart → Hart
puts [] h = h
puts (k ∷ ks) h = put k.0 k.1 (puts ks h)

-- all the words of a record
abbrev pub words_of : Hart → List ℕ
words_of h = map (λ u. get u h) words

-- general register n; 0 where there is none of this number
abbrev pub get_x : ℕ → Hart → ℕ
get_x n h = cond (ltb n 32) (get_or h.x n 0) 0

-- the record with other general registers
abbrev pub with_x : List ℕ → Hart → Hart
with_x xs h = hart_of xs (λ u. get u h)

-- the record with general register n changed to v; x0 stays as it is, and there is none above 31
abbrev pub set_x : ℕ → ℕ → Hart → Hart
set_x n v h = cond (eqb n 0) h (cond (ltb n 32) (with_x (set h.x n v) h) h)
