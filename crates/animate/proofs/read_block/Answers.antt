use Rattle.animate.proofs.read_block.Goals as goal

pub returns-then-raw : goal.returns-then-raw
returns-then-raw c = rw c.if-raw.true c.hannuvel_parse_raw_block.ensures

pub returns-else-raw : goal.returns-else-raw
returns-else-raw c = rw c.if-raw.false c.hannuvel_parse_overrides.ensures
