-- `csr::address::counter_at` meets its contract.
use borrow.Author.Tests.{le-leb, lt-leb}
use native.Mathlib.Omega.{arith}
use Rattle.csr.proofs.address.counter_at.Goals as goal

pub returns-in-803-to-831 : goal.returns-in-803-to-831
returns-in-803-to-831 c =
    let a = c.args.address in
    simp (lt-leb 0xB03 a (omega arith), le-leb 0x323 a (omega arith), le-leb a 0x33F (omega arith))

pub returns-in-2819-to-2847 : goal.returns-in-2819-to-2847
returns-in-2819-to-2847 c =
    let a = c.args.address in
    simp (le-leb 0xB03 a (omega arith), le-leb a 0xB1F (omega arith))

pub returns-in_default : goal.returns-in_default
returns-in_default c =
    let a = c.args.address in
    simp (lt-leb 0xB03 a (omega arith), lt-leb 0x323 a (omega arith))

pub returns-in_default-2 : goal.returns-in_default-2
returns-in_default-2 c =
    let a = c.args.address in
    simp (lt-leb 0xB03 a (omega arith), le-leb 0x323 a (omega arith), lt-leb a 0x33F (omega arith))

pub returns-in_default-3 : goal.returns-in_default-3
returns-in_default-3 c =
    let a = c.args.address in
    simp
    (le-leb 0xB03 a (omega arith), lt-leb a 0xB1F (omega arith), le-leb 0x323 a (omega arith), lt-leb a 0x33F (omega arith))
