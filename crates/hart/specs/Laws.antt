-- What others know of the record and of legality: what changes of words leave, which modes there
-- are, what a word's condition says, which changes keep a record legal, and that a fresh one is.
-- `put`, `legal_word`, `is_mode` and `mstatus_of` are shut: the trap part is proved from these
-- laws. The proofs are in proofs/Laws.antt.
use Rattle.std.specs.Prelude.{ℕ, Bool, true, cond, List, [], ◌∷◌, map, ◌↔◌, ◌≡◌, eqb, get_or}
use Rattle.std.specs.Int.Bits.{bit_and}
use Rattle.bits.specs.Alg.{plain}
use Rattle.bits.specs.Word.{Fits}
use Rattle.rules.specs.Addresses.{is_aligned}
use Rattle.rules.specs.Fields.{fields}
use Rattle.rules.specs.Interrupts.{legal_mie, legal_mideleg}
use Rattle.rules.specs.Laws.{LegalMstatus}
use Rattle.hart.specs.Words.{words, get, place_of, put, puts, words_of, set_x}
use Rattle.hart.specs.Modes.{mode_u, mode_s, mode_m, is_mode}
use Rattle.hart.specs.Caps.{has_c, has_s, has_fs, has_vs, mstatus_of, legal_caps}
use Rattle.hart.specs.Legal.{x0_zero, legal_word, legal_hart}
use Rattle.hart.specs.Fresh.{fresh_of}
use Rattle.hart.specs.declared.caps.Caps.{Caps}
use Rattle.hart.specs.declared.record.Hart.{Hart}
use Rattle.hart.specs.declared.record.Host.{Host}
use Rattle.hart.specs.declared.record.Word.{Word}
use Rattle.hart.specs.declared.record.Word.TheVariants.{Pc, Mode, Mstatus, Mie, Mip, Mideleg, Mepc, Mcause, Mtval, Sepc}
open fields plain use {MPP}

-- ---- numbers of 64 bits

-- each word of a record
pub record FitsHart (h : Hart) : Type 0 where
  pub words : (w : Word) → Fits (get w h)
  pub registers : (i : ℕ) → Fits (get_or h.x i 0)

-- what the host hands in
pub record FitsHost (o : Host) : Type 0 where
  pub time : Fits o.time
  pub seed : Fits o.seed

-- each word of the capabilities
pub record FitsCaps (c : Caps) : Type 0 where
  pub misa : Fits c.misa
  pub interrupts : Fits c.interrupts
  pub highest : Fits c.highest
  pub flags : Fits c.flags
  pub mhartid : Fits c.mhartid
  pub mvendorid : Fits c.mvendorid
  pub marchid : Fits c.marchid
  pub mimpid : Fits c.mimpid
  pub mconfigptr : Fits c.mconfigptr

-- ---- the record

-- what a word then is that was v: the first of its changes in the list
abbrev pub word_after : List (Word × ℕ) → Word → ℕ → ℕ
word_after [] u v = v
word_after (k ∷ ks) u v = cond (eqb (place_of k.0) (place_of u)) k.1 (word_after ks u v)

abbrev pub words_after : List (Word × ℕ) → Hart → List ℕ
words_after ks h = map (λ u. word_after ks u (get u h)) words

-- after changes a word reads as the first of its changes in the list, or as it was ..
abbrev pub GetPuts : Type 0
GetPuts = (ks : List (Word × ℕ)) (u : Word) (h : Hart) → get u (puts ks h) ≡ word_after ks u (get u h)

-- .. and the general registers are as they were
abbrev pub PutsX : Type 0
PutsX = (ks : List (Word × ℕ)) (h : Hart) → (puts ks h).x ≡ h.x

-- a record of which that is so is h with these changes
abbrev pub IsPuts : Type 0
IsPuts = (h next : Hart) (ks : List (Word × ℕ)) → next.x ≡ h.x → words_of next ≡ words_after ks h → next ≡ puts ks h

-- changes that leave the same words are the same
abbrev pub SamePuts : Type 0
SamePuts = (h : Hart) (ks js : List (Word × ℕ)) → words_after ks h ≡ words_after js h → puts ks h ≡ puts js h

-- a word changed to what it is; and changed twice
abbrev pub PutGet : Type 0
PutGet = (w : Word) (h : Hart) → put w (get w h) h ≡ h

abbrev pub PutPut : Type 0
PutPut = (w : Word) (a b : ℕ) (h : Hart) → put w a (put w b h) ≡ put w a h

-- a general register changed twice
abbrev pub SetSet : Type 0
SetSet = (n a b : ℕ) (h : Hart) → set_x n a (set_x n b h) ≡ set_x n a h

-- ---- modes

-- a mode that the hart has is U, S, with S alone, or M
abbrev pub ByMode : Type 1
ByMode = (P : ℕ → Type 0) (s : Bool) (n : ℕ) → is_mode s n ≡ true → P mode_u → (s ≡ true → P mode_s) → P mode_m → P n

-- these are modes of the hart; and so is MPP of a legal mstatus
pub record HasModes (s : Bool) : Type 0 where
  pub user : is_mode s mode_u ≡ true
  pub supervisor : s ≡ true → is_mode s mode_s ≡ true
  pub machine : is_mode s mode_m ≡ true
  pub mpp : (fs vs : Bool) (m : ℕ) → LegalMstatus s fs vs m → is_mode s (MPP m) ≡ true

-- ---- legality

-- legal capabilities and a legal record, of 64-bit words: what the laws of every call suppose
pub record Legal (c : Caps) (h : Hart) : Type 0 where
  pub caps : legal_caps c ≡ true
  pub hart : legal_hart c h ≡ true
  pub caps_fit : FitsCaps c
  pub hart_fits : FitsHart h

-- the test says, both ways, that x0 is 0 and every word is legal
abbrev pub LegalIsWords : Type 0
LegalIsWords = (c : Caps) (h : Hart) → (legal_hart c h ≡ true) ↔ ((x0_zero h ≡ true) × ((w : Word) → legal_word c w (get w h) ≡ true))

-- what the conditions of the words say that traps and returns read and move
pub record Conditions (c : Caps) : Type 0 where
  pub pc : (v : ℕ) → (legal_word c Pc v ≡ true) ↔ (is_aligned (has_c c) v ≡ true)
  pub mode : (v : ℕ) → (legal_word c Mode v ≡ true) ↔ (is_mode (has_s c) v ≡ true)
  pub mstatus : (v : ℕ) → Fits v → (legal_word c Mstatus v ≡ true) ↔ LegalMstatus (has_s c) (has_fs c) (has_vs c) v
  pub legalized : (v : ℕ) → (legal_word c Mstatus v ≡ true) ↔ (mstatus_of c v ≡ v)
  pub mie : (v : ℕ) → (legal_word c Mie v ≡ true) ↔ (legal_mie c.interrupts v ≡ v)
  pub mip : (v : ℕ) → (legal_word c Mip v ≡ true) ↔ (bit_and v c.interrupts ≡ v)
  pub mideleg : has_s c ≡ true → (v : ℕ) → (legal_word c Mideleg v ≡ true) ↔ (legal_mideleg c.interrupts v ≡ v)
  pub mepc : (v : ℕ) → (legal_word c Mepc v ≡ true) ↔ (is_aligned (has_c c) v ≡ true)
  pub sepc : has_s c ≡ true → (v : ℕ) → (legal_word c Sepc v ≡ true) ↔ (is_aligned (has_c c) v ≡ true)
  -- any value will do
  pub mcause : (v : ℕ) → legal_word c Mcause v ≡ true
  pub mtval : (v : ℕ) → legal_word c Mtval v ≡ true

-- a legal record with one word changed is legal exactly if the new word is
abbrev pub LegalPut : Type 0
LegalPut = (c : Caps) (h : Hart) (w : Word) (v : ℕ) → legal_hart c h ≡ true → legal_hart c (put w v h) ≡ legal_word c w v

-- so a change to a legal word keeps all that is supposed of a record ..
abbrev pub PutKeepsLegal : Type 0
PutKeepsLegal = (c : Caps) (h : Hart) (w : Word) (v : ℕ) → Legal c h → Fits v → legal_word c w v ≡ true → Legal c (put w v h)

-- .. and so does any change of a general register
abbrev pub SetKeepsLegal : Type 0
SetKeepsLegal = (c : Caps) (h : Hart) (n v : ℕ) → Legal c h → Fits v → Legal c (set_x n v h)

-- a fresh record with an aligned pc is legal, whatever the capabilities
abbrev pub FreshLegal : Type 0
FreshLegal = (c : Caps) (pc : ℕ) → FitsCaps c → is_aligned (has_c c) pc ≡ true → legal_hart c (fresh_of c mode_m pc) ≡ true

-- and of 64-bit words
abbrev pub FreshFits : Type 0
FreshFits = (c : Caps) (pc : ℕ) → Fits pc → FitsHart (fresh_of c mode_m pc)
