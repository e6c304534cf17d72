-- The character is stored.
use Rattle.std.proofs.Common.{refl, rules}
use Rattle.text.proofs.Putting.{put_byte}
use Rattle.text.proofs.put_byte.Goals as goal

pub returns : goal.returns
returns c = (refl, put_byte _ _ _ (search rules))
