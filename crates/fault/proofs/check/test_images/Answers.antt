-- `fault::check::test_images` meets its contract.
use Rattle.std.proofs.Common.{rules, sym, ◌∙◌}
use Rattle.fault.proofs.Laws.{nothing_where_judged, caps_where_judged}
use Rattle.fault.proofs.check.test_images.Goals as goal

pub returns-in-Ok : goal.returns-in-Ok
returns-in-Ok c = sym (nothing_where_judged c.args.caps.now c.args.hart.now (search rules))

pub returns-in-Err-BadCaps : goal.returns-in-Err-BadCaps
returns-in-Err-BadCaps c = c.test_caps_image.ensures ∙ sym (caps_where_judged c.args.caps.now c.args.hart.now (search rules))
