-- `hart::caps::Caps::misa_faults` meets its contract.
use mathlib.Core.Path.{◌≡◌}
use mathlib.Core.List.{[]}
use native.Mathlib.Omega.{arith}
use lib.Dec.{eqb}
use lib.Bits.{bit_and, bit_xor}
use Rattle.bits.specs.Word.{Fits}
use Rattle.bits.proofs.Decide.{var, lit, ◌&◌, ◌⊕◌, shr, ◌≐◌, both, isnt, env1, by_tests}
use Rattle.hart.specs.Caps.{legal_misa}
use Rattle.hart.specs.declared.caps.Caps.{Caps}
use Rattle.hart.proofs.CapsBits.{has}
use Rattle.hart.proofs.caps.Caps.misa_faults.Goals as goal

right : (c : Caps) → Fits c.misa → eqb (bit_xor (bit_and c.misa 0xC000000000102080) 0x8000000000100000) 0 ≡ legal_misa c
right c f =
    by_tests (((var 0 & lit 0xC000000000102080) ⊕ lit 0x8000000000100000) ≐ lit 0)
    (both (both (both (shr 62 (var 0) ≐ lit 2) (has 20 (var 0))) (isnt (has 7 (var 0)))) (isnt (has 13 (var 0)))) tt
    (env1 c.misa f [])

pub returns : goal.returns
returns c = right c.args.self (omega arith)
