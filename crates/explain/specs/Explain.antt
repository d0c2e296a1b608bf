-- The listing of a write's lost bits, and what the entry gives for any bytes and any numbers.
-- Source: docs/RULES.md, "Lost bits" and "Refusals".
use Rattle.std.specs.Prelude.{ℕ, ◌-◌, cond, List, ◌++◌, map, length, replicate, Result, Ok, Err}
use Rattle.std.specs.Int.Count.{ones}
use Rattle.hart.specs.Answers.{refusal_number}
use Rattle.hart.specs.declared.caps.Caps.{Caps}
use Rattle.hart.specs.declared.record.Hart.{Hart}
use Rattle.hart.specs.declared.record.Host.{Host}
use Rattle.hart.specs.declared.answer.Refusal.{Refusal}
use Rattle.hart.specs.declared.answer.Refusal.TheVariants.{BadCaps, BadHart}
use Rattle.csr.specs.Address.{Decoded, decode_of}
use Rattle.csr.specs.declared.address.Csr.{Csr}
use Rattle.lent.specs.Images.{caps_at, hart_at, is_caps, is_hart}
use Rattle.explain.specs.Lost.{lost_of, bits_below}
use Rattle.explain.specs.Reason.{reason_at}
use Rattle.explain.specs.Reasons.{reasons_of}
use Rattle.explain.specs.declared.explanation.Loss.{Loss}
use Rattle.explain.specs.declared.listing.Listing.{Listing}
use Rattle.explain.specs.declared.reasons.Reasons.{Reasons}

-- the entries of a list of 64: 0 behind those that there are
abbrev pub padded : List ℕ → List ℕ
padded l = l ++ replicate (64 - length l) 0

-- the bits of w, lowest first, with the reason of each; their number is the ones of w
unfoldable pub listed : ℕ → Reasons → Listing
listed w why =
    record {
      refusal = 0;
      count = ones w;
      bits = padded (bits_below w 64);
      reasons = padded (map (reason_at why) (bits_below w 64));
    }

-- refused with a number: all else is 0
abbrev pub refused_with : ℕ → Listing
refused_with n = record { refusal = n; count = 0; bits = replicate 64 0; reasons = replicate 64 0 }

-- the bits that a write of v to the CSR loses, and why
abbrev pub loss_of : Caps → Hart → Host → Csr → ℕ → Loss
loss_of c h o r v = record { bits = lost_of c h o r v; why = reasons_of c h r v }

-- what is found of a write, or why it is refused
abbrev pub Explanation : Type 0
Explanation = Result Loss Refusal

-- that, listed
abbrev pub listing : Explanation → Listing
listing (Ok l) = listed l.bits l.why
listing (Err why) = refused_with (refusal_number why)

-- what is found, by the CSR that the address gives
abbrev pub found_to : Caps → Hart → Host → ℕ → Decoded → Explanation
found_to c h o v (Ok r) = Ok (loss_of c h o r v)
found_to c h o v (Err why) = Err why

abbrev pub found_at : Caps → Hart → Host → ℕ → ℕ → Explanation
found_at c h o a v = found_to c h o v (decode_of c a)

-- on the bytes c of the capability image and s of the hart image: refusal 1, then 2, then those of
-- the address
unfoldable pub found_of : Host → ℕ → ℕ → List ℕ → List ℕ → Explanation
found_of o a v c s =
    cond (is_caps c)
    (cond (is_hart (caps_at c) s) (found_at (caps_at c) (hart_at s) o a v)
    (Err BadHart))
    (Err BadCaps)

-- the entry
unfoldable pub explain_of : Host → ℕ → ℕ → List ℕ → List ℕ → Listing
explain_of o a v c s = listing (found_of o a v c s)
