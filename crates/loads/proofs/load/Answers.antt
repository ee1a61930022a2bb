use Rattle.std.proofs.lemmas.Result.{err_from_is_err_and}
use Rattle.loads.proofs.Loading.{load_accepted, load_refused}
use Rattle.loads.proofs.load.Goals as goal

pub returns-in_err-header : goal.returns-in_err-header
returns-in_err-header c =
    let a = c.args in
    let p = err_from_is_err_and c.from_residual.result c.from_residual.ensures.1 in
    let read = c.in_err-header.ensures in
    λ g stack. rw (p.1, p.2) (load_refused a.image.now a.contents.now a.bodies.now a.cache.now _ _ g stack _ read.0 read.2)

pub returns : goal.returns
returns c =
    let a = c.args in
    let read = c.in_ok-header.ensures in
    λ g stack. load_accepted a.image.now a.contents.now a.bodies.now a.cache.now _ _ g stack _ _ read.0 read.1 read.2 (c.fill.ensures.after (λ y q. q))
