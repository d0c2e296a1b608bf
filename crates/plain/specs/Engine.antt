-- What the rows of a table give together, and the read and the write that go by them: for any
-- table. Source: docs/RULES.md, "Registers" and "The plain engine".
use Rattle.std.specs.Prelude.{ℕ, Bool, true, false, cond, List, [], ◌∷◌, eqb, ltb, Some, None, Ok, Err}
use Rattle.std.specs.List.{find}
use Rattle.std.specs.declared.option.Option.{Option}
use Rattle.bits.specs.Alg.{Alg, plain}
use Rattle.bits.specs.Masks.{only_if}
use Rattle.hart.specs.Caps.{has_c, has_f, has_s, has_v, has_zfinx, has_sstc, has_zicbom, has_zicboz, has_svpbmt}
use Rattle.hart.specs.Answers.{refused}
use Rattle.hart.specs.declared.caps.Caps.{Caps}
use Rattle.hart.specs.declared.record.Hart.{Hart}
use Rattle.hart.specs.declared.record.Host.{Host}
use Rattle.hart.specs.declared.answer.Refusal.TheVariants.{NoSuchCsr, CsrAbsent, BadLine}
use Rattle.hart.specs.declared.answer.Effect.TheVariants.{Nothing}
use Rattle.hart.specs.Answers.{Answer}
use Rattle.hart.specs.declared.answer.Step.{Step}
use Rattle.csr.specs.Line.{is_line, raises_seip}
use Rattle.csr.specs.Access.{step_to}
use Rattle.plain.specs.Row.{is_at, Asked, applies, shows, takes, asked}
use Rattle.plain.specs.Words.{word_of, put_word}
use Rattle.plain.specs.declared.row.Row.{Row}
use Rattle.plain.specs.declared.row.Rule.{Rule}
use Rattle.plain.specs.declared.row.Rule.TheVariants.{Sstatus}
use Rattle.plain.specs.declared.words.Source.{Source}
use Rattle.plain.specs.declared.row.Asked as declared

-- the first row at the address
abbrev pub first_at : ℕ → List Row → Option Row
first_at a t = find (λ r. is_at r a) t

abbrev pub is_view : Rule → Bool
is_view Sstatus = true
is_view _ = false

module _ (A : Alg) where
  open A use {Word, Test, num, ◌∣◌, when, isnt}

  -- the set of extensions that a hart has, a bit each
  abbrev pub extensions : (s c f v zfinx sstc zicbom zicboz svpbmt : Test) → Word
  extensions s c f v zfinx sstc zicbom zicboz svpbmt =
      when s (num 1) ∣ when c (num 2) ∣ when f (num 4) ∣ when v (num 8) ∣ when (isnt zfinx) (num 0x10)
      ∣ when sstc (num 0x20) ∣ when zicbom (num 0x40) ∣ when zicboz (num 0x80) ∣ when svpbmt (num 0x100)

  -- w with what f gives of each row at the address that applies
  abbrev pub joined : Word → (Row → Word) → ℕ → List Row → Word → Word
  joined has f a [] w = w
  joined has f a (r ∷ rs) w = joined has f a rs (cond (is_at r a) (w ∣ when (applies A has r) (f r)) w)

  -- 1 if a row at the address applies, else 0
  abbrev pub present_at : Asked A → ℕ → List Row → Word
  present_at q a t = joined q.has (λ r. num 1) a t (num 0)

  -- what the rows at the address show of the register's word, and what they make of the value
  abbrev pub shows_at : Asked A → ℕ → List Row → Word
  shows_at q a t = joined q.has (shows A q) a t (num 0)

  abbrev pub takes_at : Asked A → ℕ → List Row → Word
  takes_at q a t = joined q.has (takes A q) a t (num 0)

  -- asked with another value, and whether that lies above the highest valid address
  abbrev pub with_value : Asked A → Test → Word → Asked A
  with_value q above v = record q { above = above; value = v }

  -- what a write stores, by the rule of the register's first row. Of a view, whose rule is Sstatus,
  -- it is what mstatus (300) takes of that
  abbrev pub stores_at : Asked A → (Word → Test) → Rule → ℕ → List Row → Word
  stores_at q above rule a t =
      let v = takes_at q a t in
      cond (is_view rule) (takes_at (with_value q (above v) v) 0x300 t) v

-- what a row is asked with: of the register's word, and the value written
abbrev pub extensions_of : Caps → ℕ
extensions_of c =
    extensions plain (has_s c) (has_c c) (has_f c) (has_v c) (has_zfinx c) (has_sstc c) (has_zicbom c) (has_zicboz c)
    (has_svpbmt c)

abbrev pub asked_of : Caps → Hart → Host → Source → ℕ → declared.Asked
asked_of c h o source v =
    record {
      has = extensions_of c;
      raised = only_if (raises_seip c o) 0x200;
      interrupts = c.interrupts;
      highest = c.highest;
      mideleg = h.mideleg;
      menvcfg = h.menvcfg;
      old = word_of c h o source;
      value = v;
    }

-- a read, by the first row at the address
abbrev pub plain_read_by : List Row → Caps → Hart → Host → ℕ → Option Row → Answer
plain_read_by t c h o a None = Err NoSuchCsr
plain_read_by t c h o a (Some first) =
    let q = asked (asked_of c h o first.word 0) in
    cond (eqb (present_at plain q a t) 0) (Err CsrAbsent)
    (cond (is_line o.line) (Ok (shows_at plain q a t, Nothing)) (Err BadLine))

abbrev pub plain_read : List Row → Caps → Hart → Host → ℕ → Answer
plain_read t c h o a = plain_read_by t c h o a (first_at a t)

-- a write
abbrev pub no_host : Host
no_host = record { time = 0; seed = 0; line = 0 }

abbrev pub plain_write_by : List Row → Caps → Hart → ℕ → ℕ → Option Row → Step
plain_write_by t c h a v None = refused h NoSuchCsr
plain_write_by t c h a v (Some first) =
    let q = asked (asked_of c h no_host first.word v) in
    cond (eqb (present_at plain q a t) 0) (refused h CsrAbsent)
    (step_to h (put_word first.word (stores_at plain q (ltb c.highest) first.rule a t) h))

abbrev pub plain_write : List Row → Caps → Hart → ℕ → ℕ → Step
plain_write t c h a v = plain_write_by t c h a v (first_at a t)
