-- What is proved of the table. The proof is in proofs/Right.antt.
use Rattle.std.specs.Prelude.{ℕ, List, ◌≡◌, MatchOption, ⊤}
use Rattle.std.specs.declared.option.Option.{Option}
use Rattle.bits.specs.Word.{Fits}
use Rattle.hart.specs.declared.caps.Caps.{Caps}
use Rattle.hart.specs.declared.record.Hart.{Hart}
use Rattle.hart.specs.declared.record.Host.{Host}
use Rattle.csr.specs.Access.{read_at, write_at}
use Rattle.plain.specs.Engine.{first_at, asked_of, no_host, plain_read, plain_write}
use Rattle.plain.specs.Table.{table}
use Rattle.plain.specs.declared.row.Row.{Row}
use Rattle.plain.specs.declared.row.Asked as declared

-- what a row is asked with has words of 64 bits
pub record FitsAsked (q : declared.Asked) : Type 0 where
  pub interrupts : Fits q.interrupts
  pub mideleg : Fits q.mideleg
  pub menvcfg : Fits q.menvcfg
  pub old : Fits q.old
  pub value : Fits q.value

-- a row that stands at the address is asked with such words
abbrev pub Fitting : Caps → Hart → Host → ℕ → Option Row → Type 0
Fitting c h o v first = MatchOption first ⊤ (λ r. FitsAsked (asked_of c h o r.word v))

-- a table is right if its rows give what the definitions of the registers do
pub record Right (t : List Row) : Type 0 where
  pub reads : (c : Caps) (h : Hart) (o : Host) (a : ℕ) → Fitting c h o 0 (first_at a t) → plain_read t c h o a ≡ read_at c h o a
  pub writes : (c : Caps) (h : Hart) (a v : ℕ) → Fitting c h no_host v (first_at a t) → plain_write t c h a v ≡ write_at c h a v

abbrev pub TableIsRight : Type 0
TableIsRight = Right table
