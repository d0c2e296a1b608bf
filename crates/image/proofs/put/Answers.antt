-- `image::put` meets its contract.
use mathlib.Core.Path.{◌∙◌}
use native.Mathlib.Omega.{arith}
use Rattle.std.proofs.lemmas.List.Edits.{paste_more}
use Rattle.image.proofs.Bytes.{pasted}
use Rattle.image.proofs.put.Goals as goal

pub loop-i-preserved : goal.loop-i-preserved
loop-i-preserved c =
    let a = c.args in
    let l = c.loop-i in
    rw l.invariant (paste_more a.s.now a.at a.b.now l.i 0 (omega arith) (omega arith))

pub returns : goal.returns
returns c = c.loop-i.invariant ∙ pasted c.args.s.now c.args.at c.args.b.now c.loop-i.i (omega arith) (omega arith)
