-- The character, then the digits.
use Rattle.std.proofs.Common.{[], ◌∷◌}
use Rattle.text.specs.Texts.{decimal}
use Rattle.text.proofs.Putting.{putting-start, putting-next, putting-last}
use Rattle.text.proofs.put_field.Goals as goal

pub returns : goal.returns
returns c =
    let at = c.args.at in
    let buffer = c.args.buffer.now in
    let digits = decimal c.args.n in
    let text = c.args.before ∷ digits in
    let left = putting-next text at buffer (c.args.before ∷ []) digits at buffer (putting-start text at buffer c.requires) in
    putting-last text at buffer digits _ _ (left _ _ c.put_byte-begun.ensures) _ _ c.put_number.ensures
