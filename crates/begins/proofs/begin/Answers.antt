use native.Mathlib.Omega.{arith}
use Prim.Native.Nat.{ℕ, ◌/◌, ◌%◌}
use mathlib.Core.Path.{sym, ap, ◌∙◌}
use Rattle.model.specs.Objects.{objects_at, class_of}
use Rattle.model.specs.Lookup.{lookup}
use Rattle.model.proofs.SendFacts.{lookup_facts}
use Rattle.model.proofs.Lent.{contents_room}
use Rattle.readers.proofs.HeaderLaws.{frame_is, small_frame}
use Rattle.begins.proofs.Beginnings.{refused_8, refused_9, refused_10, receiver_valid, class_starts, begun_answer, begun_unfit, begun_full, begun_room, begun_enters}
use Rattle.begins.proofs.Beginnings.{first_words}
use Rattle.begins.proofs.begin.Goals as goal

pub words_fine-requires : goal.words_fine-requires
words_fine-requires c =
    let args = c.args in
    contents_room args.n args.b args.contents.now args.bodies.now c.requires.right

pub returns-then-not-words_fine : goal.returns-then-not-words_fine
returns-then-not-words_fine c =
    let args = c.args in
    refused_8 c.requires (sym (c.words_fine.ensures args.b args.bodies.now) ∙ c.if-not-words_fine.true)

pub class_of-class-requires : goal.class_of-class-requires
class_of-class-requires c =
    let args = c.args in (
      receiver_valid c.requires (sym (c.words_fine.ensures args.b args.bodies.now) ∙ c.if-not-words_fine.false),
      contents_room
          args.n args.b args.contents.now args.bodies.now c.requires.right,
    )

pub lookup-search-requires : goal.lookup-search-requires
lookup-search-requires c =
    let args = c.args in (
      (_, c.requires.right),
      class_starts c.requires (sym (c.words_fine.ensures args.b args.bodies.now) ∙ c.if-not-words_fine.false) _
          (c.class_of-class.ensures args.b args.bodies.now),
    )

pub returns-in_default : goal.returns-in_default
returns-in_default c =
    let args = c.args in
    refused_9 c.requires (sym (c.words_fine.ensures args.b args.bodies.now) ∙ c.if-not-words_fine.false)
    ((ap (lookup (objects_at args.n args.b args.contents.now args.bodies.now) args.selector)
    (sym (c.class_of-class.ensures args.b args.bodies.now)) ∙ sym c.lookup-search.ensures.finds) ∙ c.in_default.is)

pub argument_count-count-requires : goal.argument_count-count-requires
argument_count-count-requires c =
    let args = c.args in
    record {
      right = (_, c.requires.right);
      kinds = (lookup_facts c.requires.right args.selector
          (class_of (objects_at args.n args.b args.contents.now args.bodies.now) args.receiver) c.in-Some.method.0
          ((ap (lookup (objects_at args.n args.b args.contents.now args.bodies.now) args.selector)
          (sym (c.class_of-class.ensures args.b args.bodies.now)) ∙ sym c.lookup-search.ensures.finds) ∙ c.in-Some.is)).method;
    }

pub returns-then-count-arguments : goal.returns-then-count-arguments
returns-then-count-arguments c =
    let args = c.args in
    refused_10 c.requires (sym (c.words_fine.ensures args.b args.bodies.now) ∙ c.if-not-words_fine.false) _
    ((ap (lookup (objects_at args.n args.b args.contents.now args.bodies.now) args.selector)
    (sym (c.class_of-class.ensures args.b args.bodies.now)) ∙ sym c.lookup-search.ensures.finds) ∙ c.in-Some.is)
    (λ q. c.if-count-arguments.true (c.argument_count-count.ensures ∙ q))

pub header-header-requires : goal.header-header-requires
header-header-requires c =
    let args = c.args in
    record {
      right = (_, c.requires.right);
      kinds = (lookup_facts c.requires.right args.selector
          (class_of (objects_at args.n args.b args.contents.now args.bodies.now) args.receiver) c.in-Some.method.0
          ((ap (lookup (objects_at args.n args.b args.contents.now args.bodies.now) args.selector)
          (sym (c.class_of-class.ensures args.b args.bodies.now)) ∙ sym c.lookup-search.ensures.finds) ∙ c.in-Some.is)).method;
    }

pub activate-requires : goal.activate-requires
activate-requires c =
    let args = c.args in
    record {
      right = (_, c.requires.right);
      method = (lookup_facts c.requires.right args.selector
          (class_of (objects_at args.n args.b args.contents.now args.bodies.now) args.receiver) c.in-Some.method.0
          ((ap (lookup (objects_at args.n args.b args.contents.now args.bodies.now) args.selector)
          (sym (c.class_of-class.ensures args.b args.bodies.now)) ∙ sym c.lookup-search.ensures.finds) ∙ c.in-Some.is)).method;
      valid =
          receiver_valid c.requires (sym (c.words_fine.ensures args.b args.bodies.now) ∙ c.if-not-words_fine.false);
    }

pub overflow_add-frame_words : goal.overflow_add-frame_words
overflow_add-frame_words c = let k = small_frame _ _ c.frame_words.ensures in omega arith

pub returns-then-stack-frame_words : goal.returns-then-stack-frame_words
returns-then-stack-frame_words c =
    let args = c.args in
    begun_full (record {
      starts = c.requires;
      words = (sym (c.words_fine.ensures args.b args.bodies.now) ∙ c.if-not-words_fine.false);
      finds = ((ap (lookup (objects_at args.n args.b args.contents.now args.bodies.now) args.selector)
          (sym (c.class_of-class.ensures args.b args.bodies.now)) ∙ sym c.lookup-search.ensures.finds) ∙ c.in-Some.is);
      count =
          (sym c.argument_count-count.ensures ∙ c.if-count-arguments.false);
    }) _ _ _ _ _ c.activate.ensures c.argument-x.ensures
    c.argument-y.ensures c.in-Frame.is
    (let k = frame_is (objects_at args.n args.b args.contents.now args.bodies.now) c.in-Some.method.0
    c.header-header.ensures c.frame_words.ensures in let t = c.if-stack-frame_words.true in omega arith)

pub write_frame-requires : goal.write_frame-requires
write_frame-requires c =
    let args = c.args in
    let z = begun_room (record {
      starts = c.requires;
      words = (sym (c.words_fine.ensures args.b args.bodies.now)
          ∙ c.if-not-words_fine.false);
      finds = ((ap (lookup (objects_at args.n args.b args.contents.now args.bodies.now) args.selector)
          (sym (c.class_of-class.ensures args.b args.bodies.now)) ∙ sym c.lookup-search.ensures.finds) ∙ c.in-Some.is);
      count =
          (sym c.argument_count-count.ensures ∙ c.if-count-arguments.false);
    }) _ _ _ _ _ c.activate.ensures c.argument-x.ensures
    c.argument-y.ensures c.in-Frame.is in let k = frame_is (objects_at args.n args.b args.contents.now
    args.bodies.now) c.in-Some.method.0 c.header-header.ensures c.frame_words.ensures in let t =
    c.if-stack-frame_words.false in let e = (c.temporary_count-temporaries.ensures ∙ ap (λ (h : ℕ). h / 256 % 32) c.header-header.ensures) in let c =
    c.if-count-arguments.false in (omega arith, omega arith, omega arith, omega arith)

pub returns-in-Answer : goal.returns-in-Answer
returns-in-Answer c =
    let args = c.args in
    begun_answer (record {
      starts = c.requires;
      words = (sym (c.words_fine.ensures args.b args.bodies.now) ∙ c.if-not-words_fine.false);
      finds = ((ap (lookup (objects_at args.n args.b args.contents.now args.bodies.now) args.selector)
          (sym (c.class_of-class.ensures args.b args.bodies.now)) ∙ sym c.lookup-search.ensures.finds) ∙ c.in-Some.is);
      count =
          (sym c.argument_count-count.ensures ∙ c.if-count-arguments.false);
    }) _ _ _ _ _ c.activate.ensures c.argument-x.ensures
    c.argument-y.ensures _ _ _ c.in-Answer.is

pub returns-in-Unfit : goal.returns-in-Unfit
returns-in-Unfit c =
    let args = c.args in
    begun_unfit (record {
      starts = c.requires;
      words = (sym (c.words_fine.ensures args.b args.bodies.now) ∙ c.if-not-words_fine.false);
      finds = ((ap (lookup (objects_at args.n args.b args.contents.now args.bodies.now) args.selector)
          (sym (c.class_of-class.ensures args.b args.bodies.now)) ∙ sym c.lookup-search.ensures.finds) ∙ c.in-Some.is);
      count =
          (sym c.argument_count-count.ensures ∙ c.if-count-arguments.false);
    }) _ _ _ _ _ c.activate.ensures c.argument-x.ensures
    c.argument-y.ensures c.in-Unfit.is

pub returns-else-stack-frame_words : goal.returns-else-stack-frame_words
returns-else-stack-frame_words c =
    let args = c.args in
    begun_enters (record {
      starts = c.requires;
      words = (sym (c.words_fine.ensures args.b args.bodies.now) ∙ c.if-not-words_fine.false);
      finds = ((ap (lookup (objects_at args.n args.b args.contents.now args.bodies.now) args.selector)
          (sym (c.class_of-class.ensures args.b args.bodies.now)) ∙ sym c.lookup-search.ensures.finds) ∙ c.in-Some.is);
      count =
          (sym c.argument_count-count.ensures ∙ c.if-count-arguments.false);
    }) _ _ _ _ _ c.activate.ensures c.argument-x.ensures
    c.argument-y.ensures c.in-Frame.is
    (let k = frame_is (objects_at args.n args.b args.contents.now args.bodies.now) c.in-Some.method.0
    c.header-header.ensures c.frame_words.ensures in let t = c.if-stack-frame_words.false in omega arith) _ (c.write_frame.ensures
    ∙ first_words args.stack.now c.in-Some.method.0 args.receiver _ _ _ args.arguments.now
    (c.temporary_count-temporaries.ensures ∙ ap (λ (h : ℕ). h / 256 % 32) c.header-header.ensures) c.if-count-arguments.false)
