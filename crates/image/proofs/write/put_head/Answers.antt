-- Nine stores; the level and the mission of a sound state fit their bytes.
use Rattle.image.proofs.Putting.{sound-small}
use Rattle.image.proofs.write.put_head.Goals as goal

pub narrow-requires : goal.narrow-requires
narrow-requires c = (sound-small c.args.state c.requires.1).level

pub narrow-requires-2 : goal.narrow-requires-2
narrow-requires-2 c = (sound-small c.args.state c.requires.1).mission
