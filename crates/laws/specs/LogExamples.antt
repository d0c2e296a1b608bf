-- Examples of entries, of bytes that wait and of logs, as one list. Source: docs/RULES.md, "Call
-- logs".
use Rattle.std.specs.Prelude.{ℕ, Bool, true, false, List, [], ◌∷◌, ◌++◌, ◌≡◌, replicate, Option, Some, None}
use Rattle.calls.specs.Calls.{Call, Read, Write, Take, host_of}
use Rattle.calls.specs.declared.steps.Taken.TheVariants.{Inject, Mret, Sret}
use Rattle.replay.specs.Log.{call_of, whole_in, entries_of, rest_of}
use Rattle.replay.specs.Replay.{waiting, is_wait, wait_of}
use Rattle.replay.specs.declared.log.Entry.{Entry}

pub data Example : Type 0 where
  Calls : Entry → Option Call → Example  -- an entry, and the call that it is
  Accepts : List ℕ → Bool → Example  -- what is lent to wait, and whether it may
  Waits : List ℕ → List ℕ → Example  -- what is lent to wait, and the bytes that wait there
  Keeps : List ℕ → List ℕ → Example  -- bytes, and what lets them wait
  Parts : List ℕ → ℕ → List ℕ → Example  -- a log, how many entries are whole, and what is left
  Entries : List ℕ → List Entry → Example  -- a log, and its entries

-- it is just that
abbrev pub Holds : Example → Type 0
Holds (Calls e call) = call_of e ≡ call
Holds (Accepts w t) = is_wait w ≡ t
Holds (Waits w l) = waiting w ≡ l
Holds (Keeps l w) = wait_of l ≡ w
Holds (Parts l n rest) = (whole_in l ≡ n) × (rest_of l ≡ rest)
Holds (Entries l es) = entries_of l ≡ es

abbrev entry : ℕ → ℕ → ℕ → Entry
entry kind first second = record { kind = kind; first = first; second = second }

-- a write of 0x123456789ABCDEF0 to mstatus, as it is logged
abbrev written : List ℕ
written =
    1 ∷ 0 ∷ 0 ∷ 0 ∷ 0 ∷ 0 ∷ 0 ∷ 0 ∷
    0x00 ∷ 0x03 ∷ 0 ∷ 0 ∷ 0 ∷ 0 ∷ 0 ∷ 0 ∷
    0xF0 ∷ 0xDE ∷ 0xBC ∷ 0x9A ∷ 0x78 ∷ 0x56 ∷ 0x34 ∷ 0x12 ∷
    []

abbrev pub examples : List Example
examples =
    Calls (entry 0 0x300 0) (Some (Read (host_of 0 0 0) 0x300)) ∷
    Calls (entry 1 0x300 0x1888) (Some (Write 0x300 0x1888)) ∷
    Calls (entry 1 0x300 0) (Some (Write 0x300 0)) ∷
    Calls (entry 2 7 0) (Some (Take (Inject 7))) ∷
    Calls (entry 3 0 0) (Some (Take Mret)) ∷
    Calls (entry 4 0 0) (Some (Take Sret)) ∷
    Calls (entry 5 0 0) None ∷
    Calls (entry 0x100000001 0x300 0) None ∷
    Calls (entry 0 0x300 1) None ∷
    Calls (entry 2 7 1) None ∷
    Calls (entry 3 1 0) None ∷
    Calls (entry 3 0 1) None ∷
    Calls (entry 4 1 0) None ∷
    Calls (entry 4 0 1) None ∷
    Accepts (replicate 24 0) true ∷
    Accepts (23 ∷ replicate 23 7) true ∷
    Accepts (24 ∷ replicate 23 7) false ∷
    Accepts (0 ∷ replicate 22 0) false ∷
    Accepts (0 ∷ replicate 24 0) false ∷
    Waits (replicate 24 0) [] ∷
    Waits (2 ∷ 5 ∷ 6 ∷ replicate 21 9) (5 ∷ 6 ∷ []) ∷
    Waits (23 ∷ replicate 23 7) (replicate 23 7) ∷
    Keeps [] (replicate 24 0) ∷
    Keeps (5 ∷ 6 ∷ []) (2 ∷ 5 ∷ 6 ∷ replicate 21 0) ∷
    Keeps (replicate 23 7) (23 ∷ replicate 23 7) ∷
    Parts (replicate 23 7) 0 (replicate 23 7) ∷
    Parts (replicate 24 7) 1 [] ∷
    Parts (replicate 24 7 ++ (9 ∷ [])) 1 (9 ∷ []) ∷
    Parts (replicate 48 7 ++ (9 ∷ [])) 2 (9 ∷ []) ∷
    Entries written (entry 1 0x300 0x123456789ABCDEF0 ∷ []) ∷
    Entries (replicate 24 0 ++ written ++ (9 ∷ [])) (entry 0 0 0 ∷ entry 1 0x300 0x123456789ABCDEF0 ∷ []) ∷
    []
