use Rattle.tokens.proofs.Looking.{special_letter}
use Rattle.tokens.proofs.wordy.Goals as goal

pub returns : goal.returns
returns c h = rw c.past.ensures.is (special_letter _ _ _ _ c.past-i.ensures.is h)
