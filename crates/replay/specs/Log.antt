-- A call log: entries of three words, each a call on the record, and what is left behind the last
-- whole one. Source: docs/RULES.md, "Call logs".
use Rattle.std.specs.Prelude.{ℕ, zero, suc, ◌+◌, ◌*◌, ◌/◌, cond, ◌&&◌, List, [], ◌∷◌, eqb, length, drop, Option, Some, None}
use Rattle.image.specs.Word.{word_at}
use Rattle.calls.specs.Calls.{Call, Read, Write, Take, host_of}
use Rattle.calls.specs.declared.steps.Taken.TheVariants.{Inject, Mret, Sret}
use Rattle.replay.specs.declared.log.Entry.{Entry}

abbrev pub entry_bytes : ℕ
entry_bytes = 24

-- the call that an entry is, if it is one (refusal 17): a word that the call doesn't use must be 0
unfoldable pub call_of : Entry → Option Call
call_of e =
    cond (eqb e.kind 0 && eqb e.second 0) (Some (Read (host_of 0 0 0) e.first))
    (cond (eqb e.kind 1) (Some (Write e.first e.second))
    (cond (eqb e.kind 2 && eqb e.second 0) (Some (Take (Inject e.first)))
    (cond (eqb e.kind 3 && (eqb e.first 0 && eqb e.second 0)) (Some (Take Mret))
    (cond (eqb e.kind 4 && (eqb e.first 0 && eqb e.second 0)) (Some (Take Sret))
    None))))

-- the entry whose lowest byte stands at `at`
abbrev pub entry_at : List ℕ → ℕ → Entry
entry_at l at = record { kind = word_at l at; first = word_at l (at + 8); second = word_at l (at + 16) }

-- the n entries from `at` on
abbrev pub entries_from : List ℕ → ℕ → ℕ → List Entry
entries_from l at zero = []
entries_from l at (suc n) = entry_at l at ∷ entries_from l (at + entry_bytes) n

-- how many entries of a log are whole
abbrev pub whole_in : List ℕ → ℕ
whole_in l = length l / entry_bytes

-- these entries, and the bytes behind them
abbrev pub entries_of : List ℕ → List Entry
entries_of l = entries_from l 0 (whole_in l)

abbrev pub rest_of : List ℕ → List ℕ
rest_of l = drop (entry_bytes * whole_in l) l
