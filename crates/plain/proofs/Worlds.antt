-- The model's laws give what a step needs of right objects.
use Prim.Native.Nat.{ℕ, ◌+◌, ◌/◌}
use mathlib.Core.Path.{sym, ap, ◌∙◌, subst}
use mathlib.Core.Bool.{Bool, ◌&&◌}
use mathlib.Core.List.{List, [], ◌∷◌}
use native.Mathlib.Omega.{arith}
use lib.Dec.{T, ltb, ltb→lt, lt→ltb}
use lib.ListN.{length}
use Rattle.bytecode.specs.Test.{every}
use Rattle.bytecode.proofs.TestLaws.{and_left, and_right, and_both}
use Rattle.model.specs.Limits.{fields_kind, method_kind}
use Rattle.model.specs.Word.{is_valid, object_number}
use Rattle.model.specs.Objects.{Objects, class_of, is_kind, size}
use Rattle.model.specs.Method.{home}
use Rattle.model.specs.Depth.{note_at}
use Rattle.model.specs.Lookup.{in_chain}
use Rattle.model.specs.Image.{Room}
use Rattle.model.specs.Primitive.{store_word}
use Rattle.model.proofs.ChainLaws.{named}
use Rattle.model.proofs.Facts.{Right, least, method_facts, failure_count_lem}
use Rattle.model.proofs.Extends.{Extends, extends_refl, extends_trans, valid_grows, kind_kept, class_same, home_same, temporaries_same, frame_same}
use Rattle.model.proofs.Unchanged.{lookup_same, chain_same, table_same}
use Rattle.model.proofs.SendFacts.{lookup_facts, receiver_fields, field_valid_lem, class_valid_lem}
use Rattle.model.proofs.StoreLaws.{stored_extends, stored_right}
use Rattle.model.proofs.PrimitiveLaws.{ValidWord, arithmetic_valid, primitive_law}
use Rattle.model.proofs.MessageLaws.{message_room, message_law}
use Rattle.plain.specs.State.{Frame}
use Rattle.plain.proofs.FrameLaws.{FrameRight}
use Rattle.plain.proofs.After.{After}
use Rattle.plain.proofs.RunLaws.{Worlds}

-- a right frame is right in later objects
frame_kept : {e : ℕ} (o o' : Objects) → Right e o → Extends o o' → (b : Bool) (f : Frame) → FrameRight e o b f → FrameRight e o' b f
frame_kept o o' r x b f g =
    record {
      is_method = kind_kept x method_kind f.method g.is_method;
      unmarked = g.unmarked;
      receiver = valid_grows x f.receiver g.receiver;
      chain =
          chain';
      note = ap (λ t. note_at t f.position) (table_same x r f.method g.is_method) ∙ g.note;
      temporaries = g.temporaries
          ∙ sym (temporaries_same x r f.method g.is_method);
      depth = g.depth;
      valid_temporaries = grown f.temporaries g.valid_temporaries;
      valid_operands =
          grown f.operands g.valid_operands;
    }
  where
    grown : (ws : List ℕ) → T (every (is_valid o.n) ws) → T (every (is_valid o'.n) ws)
    grown [] t = tt
    grown (w ∷ ws) t =
        and_both (is_valid o'.n w) (every (is_valid o'.n) ws) (valid_grows x w (and_left (is_valid o.n w) (every (is_valid o.n) ws) t))
        (grown ws (and_right (is_valid o.n w) (every (is_valid o.n) ws) t))

    chain' : T (in_chain o' (home o' f.method) (class_of o' f.receiver))
    chain' =
        subst (λ (h : ℕ). T (in_chain o' h (class_of o' f.receiver))) (sym (home_same x r f.method g.is_method))
        (subst (λ (c : ℕ). T (in_chain o' (home o f.method) c)) (sym (class_same x f.receiver g.receiver))
        (subst T (sym (chain_same x r (home o f.method) (class_of o f.receiver))) g.chain))

pub worlds : (room : Room) → Worlds room
unfolding store_word
worlds room e o r c b =
    record {
      least = let l = least r in omega arith;
      self = record { extends = extends_refl o; right = r; contents = c; bodies = b };
      keeps = λ o' a x f g.
          frame_kept o o' r a.extends x f g;
      tables = λ o' a m t. table_same a.extends r m t;
      sizes = λ o' a m t. ap (λ (k : ℕ). 6 + k)
          (frame_same a.extends r m t);
      grows = λ o' a w v. valid_grows a.extends w v;
      field_valid = λ w i t. field_valid_lem r w i
          (and_left (is_kind o fields_kind w) (ltb i (size o (w / 2))) t) (ltb→lt i (size o (w / 2)) (and_right (is_kind o fields_kind w) (ltb i (size o (w / 2))) t));
      literal_valid = λ m i t l. (method_facts r m t).literals i l;
      class_valid = class_valid_lem r;
      fields = λ w h i v t l. let q = receiver_fields r w h i v t
          l in and_both (is_kind o fields_kind w) (ltb i (size o (w / 2))) q.0 (lt→ltb i (size o (w / 2)) q.1);
      lookup_method = λ s k m e. (lookup_facts r s k m
          e).method;
      lookup_count = λ s k m n e t. (lookup_facts r s k m e).counts n t;
      arguments = λ m t. (method_facts r m t).arguments;
      runs = λ m t. (method_facts r
          m t).sound;
      computes = λ k v w x e. subst (ValidWord o) e (arithmetic_valid r k v w);
      stores = store;
      trans = λ o' o'' x y. record { extends = extends_trans x.extends y.extends; right = y.right; contents = y.contents; bodies = y.bodies };
      lookups = λ o' x s k. lookup_same x.extends r s k;
      failure_count = failure_count_lem r;
      messages = λ t selector arguments v va h. let q = message_law r t room selector arguments v va (message_room room o (length arguments) h) in
          (record { extends = q.extends; right = q.right; contents = q.contents c; bodies = q.bodies b }, q.valid);
      performs = λ k n w arguments v o' vw va l p. let q =
          primitive_law room k n w v arguments r l vw va p in (record { extends = q.extends; right = q.right; contents = q.contents c; bodies = q.bodies b }, q.valid);
    }
  where
    store : (w i v : ℕ) → T (is_kind o fields_kind w && ltb i (size o (object_number w))) → T (is_valid o.n v) → After e room o (store_word o (object_number w) i v)
    store w i v t u =
        let h = named o fields_kind w (and_left (is_kind o fields_kind w) (ltb i (size o (w / 2))) t) in
        let l = ltb→lt i (size o (w / 2)) (and_right (is_kind o fields_kind w) (ltb i (size o (w / 2))) t) in
        record { extends = stored_extends r (w / 2) i v h.least h.most h.kinds l; right = stored_right r (w / 2) i v h.least h.most h.kinds l u; contents = c; bodies = b }
