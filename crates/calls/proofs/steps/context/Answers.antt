-- `calls::steps::context` meets its contract.
use Rattle.calls.proofs.steps.context.Goals as goal

pub returns : goal.returns
returns c = rw (c.hart_at.ensures, c.caps_at.ensures)
