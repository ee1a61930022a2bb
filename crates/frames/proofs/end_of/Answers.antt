use native.Mathlib.Omega.{arith}
use Rattle.model.specs.Objects.{objects_at}
use Rattle.readers.proofs.HeaderLaws.{frame_is}
use Rattle.plain.proofs.RunningLaws.{words_cases}
use Rattle.frames.proofs.end_of.Goals as goal

pub overflow_add-result : goal.overflow_add-result
overflow_add-result c =
    let args = c.args in
    let o = objects_at args.memory.now.n args.memory.now.b args.memory.now.contents.now args.memory.now.bodies.now in
    let e = frame_is o args.method.0 c.header.ensures c.frame_words-words.ensures in
    let w = words_cases o args.method.0 in
    omega arith

pub overflow_add-result-2 : goal.overflow_add-result-2
overflow_add-result-2 c =
    let args = c.args in
    let o = objects_at args.memory.now.n args.memory.now.b args.memory.now.contents.now args.memory.now.bodies.now in
    let e = frame_is o args.method.0 c.header.ensures c.frame_words-words.ensures in
    let w = words_cases o args.method.0 in
    let p = c.requires.1 in
    omega arith

pub returns : goal.returns
returns c =
    let args = c.args in
    let o = objects_at args.memory.now.n args.memory.now.b args.memory.now.contents.now args.memory.now.bodies.now in
    let e = frame_is o args.method.0 c.header.ensures c.frame_words-words.ensures in
    let w = words_cases o args.method.0 in
    (omega arith, omega arith)
