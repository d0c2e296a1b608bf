-- Examples of lost bits, as one list. Source: docs/RULES.md, "Lost bits".
use Rattle.std.specs.Prelude.{ℕ, List, [], ◌∷◌, map, ◌≡◌, length}
use Rattle.hart.specs.Words.{put}
use Rattle.hart.specs.declared.caps.Caps.{Caps}
use Rattle.hart.specs.declared.record.Hart.{Hart}
use Rattle.hart.specs.declared.record.Word.TheVariants.{Mtvec, Menvcfg}
use Rattle.calls.specs.Calls.{host_of}
use Rattle.explain.specs.Explain.{padded, listing, found_at}
use Rattle.laws.specs.Examples.{board, s, f, no_s, fresh}

-- a write of a value at an address, and the bits that it loses, each with its reason
pub record Example : Type 0 where
  pub caps : Caps
  pub before : Hart
  pub address : ℕ
  pub value : ℕ
  pub lost : List (ℕ × ℕ)

-- the listing is just that
abbrev pub Holds : Example → Type 0
Holds e =
    listing (found_at e.caps e.before (host_of 0 0 0) e.address e.value)
    ≡ record {
      refusal = 0;
      count = length e.lost;
      bits = padded (map (λ (k : ℕ × ℕ). k.0) e.lost);
      reasons = padded (map (λ (k : ℕ × ℕ). k.1) e.lost);
    }

abbrev writing : Caps → Hart → ℕ → ℕ → List (ℕ × ℕ) → Example
writing c h a v lost = record { caps = c; before = h; address = a; value = v; lost = lost }

-- with Zicbom, with the interrupts of S alone, without C
abbrev zicbom : Caps
zicbom = board 0x8000000000141105 0xAAA 6

abbrev of_s : Caps
of_s = board 0x8000000000141105 0x222 2

abbrev no_c : Caps
no_c = board 0x8000000000141101 0xAAA 2

abbrev pub examples : List Example
examples =
    writing s (fresh s) 0x300 0 ((33, 5) ∷ (35, 3) ∷ []) ∷
    writing f (fresh f) 0x300 0xA00006000 ((63, 3) ∷ []) ∷
    writing s (fresh s) 0x300 0x1000 ((12, 4) ∷ (33, 5) ∷ (35, 3) ∷ []) ∷
    writing no_s (fresh no_s) 0x300 0x2 ((1, 3) ∷ (33, 5) ∷ []) ∷
    writing s (fresh s) 0x180 0x9000000000000000 ((60, 6) ∷ (63, 6) ∷ []) ∷
    writing s (put Mtvec 0x80000001 (fresh s)) 0x305 0x80002002 ((0, 4) ∷ (1, 4) ∷ []) ∷
    writing no_c (fresh no_c) 0x341 0x3 ((0, 2) ∷ (1, 3) ∷ []) ∷
    writing s (put Menvcfg 0x8000000000000000 (fresh s)) 0x344 0x20 ((5, 7) ∷ []) ∷
    writing s (fresh s) 0x344 0x8 ((3, 2) ∷ []) ∷
    writing s (fresh s) 0x303 0 ((1, 5) ∷ (5, 5) ∷ (9, 5) ∷ []) ∷
    writing of_s (fresh of_s) 0x304 0x888 ((3, 3) ∷ (7, 3) ∷ (11, 3) ∷ []) ∷
    writing s (fresh s) 0x301 0x8000000000141105 [] ∷
    writing zicbom (fresh zicbom) 0x30A 0x20 ((5, 4) ∷ []) ∷
    writing s (fresh s) 0x30A 0x10 ((4, 3) ∷ []) ∷
    writing s (fresh s) 0x144 0x200 ((9, 2) ∷ []) ∷
    writing s (fresh s) 0x104 0x1 [] ∷
    writing s (fresh s) 0xF11 0x1 ((0, 1) ∷ []) ∷
    []
