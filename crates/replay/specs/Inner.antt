-- The code's own notions of a replay: no entry's contract rests on them.
use Rattle.std.specs.Prelude.{ℕ, ◌+◌, cond, eqb, List, [], ◌∷◌, Result, Ok, Err}
use Rattle.image.specs.Inner.{put_run}
use Rattle.hart.specs.declared.caps.Caps.{Caps}
use Rattle.hart.specs.declared.record.Hart.{Hart}
use Rattle.hart.specs.declared.answer.Refusal.{Refusal}
use Rattle.hart.specs.declared.answer.Refusal.TheVariants.{BadEntry}
use Rattle.lent.specs.Outcome.{outcome_of}
use Rattle.replay.specs.Log.{entry_bytes}
use Rattle.replay.specs.Replay.{entry_step, result_words}
use Rattle.replay.specs.declared.log.Entry.{Entry}
use Rattle.replay.specs.declared.log.Kind.{Kind}
use Rattle.replay.specs.declared.log.Kind.TheVariants.{Read, Write, Inject, Mret, Sret}

-- the number of a kind of entries, and the kind of a number
abbrev pub kind_number : Kind → ℕ
kind_number Read = 0
kind_number Write = 1
kind_number Inject = 2
kind_number Mret = 3
kind_number Sret = 4

abbrev pub kind_of : ℕ → Result Kind Refusal
kind_of n =
    cond (eqb n 0) (Ok Read)
    (cond (eqb n 1) (Ok Write)
    (cond (eqb n 2) (Ok Inject)
    (cond (eqb n 3) (Ok Mret)
    (cond (eqb n 4) (Ok Sret)
    (Err BadEntry)))))

-- an entry made: the record after it, and out with its words at `at`
abbrev pub made : Caps → Entry → ℕ → Hart × List ℕ → Hart × List ℕ
made c e at p = ((entry_step c p.0 e).hart, put_run p.1 at (result_words (outcome_of (entry_step c p.0 e).answer)))

-- entries made one after the other
abbrev pub ran : Caps → List Entry → ℕ → Hart × List ℕ → Hart × List ℕ
ran c [] at p = p
ran c (e ∷ es) at p = ran c es (at + entry_bytes) (made c e at p)
