use Rattle.model.proofs.Facts.{method_facts}
use Rattle.readers.proofs.InsideLaws.{count_inside}
use Rattle.objects.proofs.Bodies.{holds_laid}
use Rattle.objects.proofs.argument_count.Goals as goal

pub argument_count-requires : goal.argument_count-requires
argument_count-requires c =
    let p = c.requires in
    let f = method_facts p.right.1 c.args.m.0 p.kinds in
    count_inside (holds_laid p) p.kinds f.holds (λ e. (f.extended e).two)
