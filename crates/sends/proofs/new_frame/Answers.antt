use Prim.Native.Nat.{◌+◌}
use mathlib.Core.Path.{refl, sym, ap, ap₂, ◌∙◌}
use native.Mathlib.Omega.{arith}
use Rattle.model.specs.Objects.{objects_at}
use Rattle.model.specs.Method.{frame_size}
use Rattle.readers.specs.Header.{temporaries_of}
use Rattle.plain.proofs.RunningLaws.{words_cases}
use Rattle.sends.proofs.Placing.{fits_not, fits_over, fits_both}
use Rattle.sends.proofs.new_frame.Goals.{then-room-end-via-then-room-end, then-room-end-via-else-room-end+then-end-gt-MOST_STACK_WORDS}
use Rattle.sends.proofs.new_frame.Goals as goal

pub runs_on-requires : goal.runs_on-requires
runs_on-requires c = c.requires.guarded

pub returns-then-not-runs_on : goal.returns-then-not-runs_on
returns-then-not-runs_on c = sym c.runs_on.ensures ∙ c.if-not-runs_on.true

pub end_of-requires : goal.end_of-requires
end_of-requires c =
    (record { right = c.requires.guarded.right; kinds = c.requires.below }, let l = c.requires.low in omega arith)

pub end_of-end-requires : goal.end_of-end-requires
end_of-end-requires c = (
  record { right = c.requires.guarded.right; kinds = c.requires.guarded.method },
  let l = c.requires.low in let e = c.end_of.ensures.1 in
      omega arith,
)

pub returns-then-room-end : goal.returns-then-room-end
returns-then-room-end c =
    let args = c.args in
    let o = objects_at args.memory.now.n args.memory.now.b args.memory.now.contents.now args.memory.now.bodies.now in
    let e = c.end_of.ensures.0 in
    let e2 = c.end_of-end.ensures.0 in
    let below = args.top.0 + frame_size o args.running.0 in
    let size = frame_size o args.method.0 in
    record {
      chain = sym c.runs_on.ensures ∙ c.if-not-runs_on.false;
      fits = elim c.then-room-end.branch [
        | then-room-end-via-then-room-end w ↦ fits_not args.room below size (let q = w.if-room-end.true in omega arith)
        | then-room-end-via-else-room-end+then-end-gt-MOST_STACK_WORDS w ↦
            fits_over args.room below size (let q = w.if-room-end.false in omega arith) (let q = w.if-end-gt-MOST_STACK_WORDS.true in omega arith)
      ];
    }

pub code_of-code-requires : goal.code_of-code-requires
code_of-code-requires c =
    record { right = c.requires.guarded.right; kinds = c.requires.guarded.method }

pub header-requires : goal.header-requires
header-requires c =
    record { right = c.requires.guarded.right; kinds = c.requires.guarded.method }

pub first_temporary-requires : goal.first_temporary-requires
first_temporary-requires c =
    let args = c.args in
    let o = objects_at args.memory.now.n args.memory.now.b args.memory.now.contents.now args.memory.now.bodies.now in
    let e = c.end_of.ensures.0 in
    let e2 = c.end_of-end.ensures.0 in
    let q = c.if-end-gt-MOST_STACK_WORDS.false in
    let w = words_cases o args.method.0 in
    omega arith

pub overflow_add-operands : goal.overflow_add-operands
overflow_add-operands c =
    let args = c.args in
    let o = objects_at args.memory.now.n args.memory.now.b args.memory.now.contents.now args.memory.now.bodies.now in
    let e2 = c.end_of-end.ensures.0 in
    let q = c.if-end-gt-MOST_STACK_WORDS.false in
    let f = c.first_temporary.ensures in
    let t = c.temporary_count-temporaries.ensures in
    let w = words_cases o args.method.0 in
    omega arith

pub returns : goal.returns
returns c =
    let args = c.args in
    let o = objects_at args.memory.now.n args.memory.now.b args.memory.now.contents.now args.memory.now.bodies.now in
    let e = c.end_of.ensures.0 in
    let e2 = c.end_of-end.ensures.0 in
    let h = c.temporary_count-temporaries.ensures ∙ ap temporaries_of c.header.ensures in
    record {
      chain = sym c.runs_on.ensures ∙ c.if-not-runs_on.false;
      above = e;
      holds = h;
      fits = fits_both args.room (args.top.0 +
          frame_size o args.running.0) (frame_size o args.method.0) (let q = c.if-room-end.false in omega arith) (let q = c.if-end-gt-MOST_STACK_WORDS.false in omega arith);
      ends
          = e2;
      fresh = record {
        code = c.code_of-code.ensures.from;
        limit = c.code_of-code.ensures.end;
        operands = ap₂ ◌+◌ c.first_temporary.ensures h;
        position = refl;
        none = refl;
      };
    }
