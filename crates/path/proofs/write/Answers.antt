use Rattle.std.proofs.Common.{arith}
use Rattle.path.proofs.Emitting.{emits_one}
use Rattle.path.proofs.write.Goals as goal

pub returns : goal.returns
returns c = emits_one _ _ _ _ _ c.args.command (omega (arith, c.min-start.ensures, c.saturating_mul.ensures)) c.words.ensures c.put.ensures
