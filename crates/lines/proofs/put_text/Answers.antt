use mathlib.Core.Path.{refl}
use Rattle.lines.proofs.Puts.{put_part}
use Rattle.lines.proofs.put_text.Goals as goal

pub returns : goal.returns
returns c = (refl, put_part c.args.out.now c.args.text.now _ c.args.at c.copy_from_slice.ensures.after c.requires)
