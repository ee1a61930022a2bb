use mathlib.Core.Path.{refl, sym, ap, ◌∙◌}
use native.Mathlib.Omega.{arith}
use Rattle.bytecode.proofs.TestLaws.{true→T}
use Rattle.readers.specs.Header.{flag_of, temporaries_of}
use Rattle.objects.proofs.Bodies.{holds_entry, field_inside}
use Rattle.activation.proofs.Activations.{holds_method, entries_room, answers_same, by_receiver, by_code, no_fields, no_field, the_field, performed, primitive_led}
use Rattle.activation.proofs.activate.Goals as goal

pub header-header-requires : goal.header-header-requires
header-header-requires c = holds_method c.requires

pub returns-in-5 : goal.returns-in-5
returns-in-5 c =
    λ arguments p q room s t. answers_same c.requires _ _ (by_receiver c.requires _ room arguments _ (c.flag-flag.ensures
    ∙ ap flag_of c.header-header.ensures) c.in-5.is)

pub is_kind-requires : goal.is_kind-requires
is_kind-requires c = entries_room c.requires

pub returns-then-not-is_kind : goal.returns-then-not-is_kind
returns-then-not-is_kind c =
    λ arguments p q room s t. record {
      leads = no_fields c.requires _ room arguments _ (c.flag-flag.ensures ∙ ap flag_of c.header-header.ensures)
          c.in-6.is (sym (c.is_kind.ensures c.args.b c.args.bodies.now) ∙ c.if-not-is_kind.true);
      entries = refl;
      words = refl;
    }

pub size-size-requires : goal.size-size-requires
size-size-requires c =
    holds_entry (record {
      right = c.requires.right;
      kinds = true→T
          (sym (c.is_kind.ensures c.args.b c.args.bodies.now) ∙ c.if-not-is_kind.false);
    })

pub returns-then-size-i : goal.returns-then-size-i
returns-then-size-i c =
    λ arguments p q room s t. record {
      leads = no_field c.requires _ room arguments _ (c.flag-flag.ensures ∙ ap flag_of c.header-header.ensures)
          c.in-6.is (sym (c.is_kind.ensures c.args.b c.args.bodies.now)
          ∙ c.if-not-is_kind.false) (let i = c.temporary_count-i.ensures
          ∙ ap temporaries_of c.header-header.ensures in let z = c.size-size.ensures in let l = c.if-size-i.true in omega arith);
      entries = refl;
      words = refl;
    }

pub word_of-word-requires : goal.word_of-word-requires
word_of-word-requires c =
    field_inside _ (let z = c.size-size.ensures in let l = c.if-size-i.false in omega arith)
    (record {
      right = c.requires.right;
      kinds = true→T (sym (c.is_kind.ensures c.args.b c.args.bodies.now)
          ∙ c.if-not-is_kind.false);
    })

pub returns-else-size-i : goal.returns-else-size-i
returns-else-size-i c =
    λ arguments p q room s t. answers_same c.requires _ _ (the_field c.requires _ room arguments _ (c.flag-flag.ensures
    ∙ ap flag_of c.header-header.ensures) c.in-6.is (sym (c.is_kind.ensures c.args.b c.args.bodies.now)
    ∙ c.if-not-is_kind.false) _ (c.temporary_count-i.ensures ∙ ap temporaries_of c.header-header.ensures) _ c.word_of-word.ensures
    (let i = c.temporary_count-i.ensures ∙ ap temporaries_of c.header-header.ensures in let z = c.size-size.ensures in let l =
    c.if-size-i.false in omega arith))

pub returns-in_default : goal.returns-in_default
returns-in_default c =
    λ arguments p q room s t. record {
      leads = by_code c.requires _ room arguments _ (c.flag-flag.ensures ∙ ap flag_of c.header-header.ensures)
          (λ e. omega arith) (λ e. omega arith) (λ e. omega arith);
      entries = refl;
      words = refl;
    }

pub primitive_number-k-requires : goal.primitive_number-k-requires
primitive_number-k-requires c =
    (holds_method c.requires, sym (c.flag-flag.ensures ∙ ap flag_of c.header-header.ensures) ∙ c.in-7.is)

pub argument_count-count-requires : goal.argument_count-count-requires
argument_count-count-requires c = holds_method c.requires

pub try_primitive-done-requires : goal.try_primitive-done-requires
try_primitive-done-requires c =
    record { right = c.requires.right; valid = c.requires.valid }

pub returns-in-7 : goal.returns-in-7
returns-in-7 c =
    λ arguments p q room s t. primitive_led c.requires _ room arguments _ (c.flag-flag.ensures ∙ ap flag_of c.header-header.ensures)
    c.in-7.is s t _ _ _ (performed c.requires _ arguments c.primitive_number-k.ensures
    c.argument_count-count.ensures p q c.try_primitive-done.ensures) _ c.outcome.ensures
