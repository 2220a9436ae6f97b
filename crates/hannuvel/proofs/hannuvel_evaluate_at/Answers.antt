use mir.Syntax.{w32}
use mir.ValLaws.{to_z-of_z}
use Rattle.evaluate.proofs.Depth.{evaluated-stored}
use Rattle.evaluate.proofs.Opacity.{opacity_word}
use Rattle.hannuvel.proofs.Unpacked.{evaluated_says}
use Rattle.hannuvel.proofs.hannuvel_evaluate_at.Goals as goal

pub returns : goal.returns
returns c =
    let k = rw (to_z-of_z w32 c.args.t c.ranges.t, to_z-of_z w32 c.args.duration c.ranges.duration) at c.write_at.ensures in
    record {
      answered = evaluated_says c.args.table.now c.args.t c.args.duration k.ground c.packed.ensures;
      state = k.state;
      stored = evaluated-stored c.args.table.now c.args.t c.args.duration;
      opacity = opacity_word c.args.table.now c.args.t c.args.duration _ k.state;
    }
