-- `image::set_word` meets its contract.
use mathlib.Core.Path.{◌∙◌}
use native.Mathlib.Omega.{arith}
use Rattle.image.proofs.Bytes.{sets_part, length_bytes, bytes_of}
use Rattle.image.specs.Inner.{put_at}
use Rattle.image.specs.Word.{bytes}
use Rattle.image.proofs.set_word.Goals as goal

pub returns : goal.returns
unfolding put_at
returns c =
    let e = c.copy_from_slice.ensures.after ∙ c.to_le_bytes.ensures ∙ bytes_of c.args.v in
    sets_part c.args.at _ c.args.s.now _ (bytes 8 c.args.v) e (omega (arith, length_bytes 8 c.args.v)) (omega (arith, length_bytes 8 c.args.v))
