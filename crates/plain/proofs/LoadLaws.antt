-- An accepted load leaves a right state.
use Prim.Native.Nat.{ℕ, suc, ◌+◌, ◌*◌, ◌/◌, ◌≤◌}
use mathlib.Core.Path.{◌≡◌, refl, sym, ap, ◌∙◌, subst}
use mathlib.Core.Bool.{◌&&◌}
use mathlib.Core.List.{List, [], ◌∷◌}
use native.Mathlib.Omega.{arith}
use lib.Dec.{T, leb, eqb, leb→le, eqb→eq}
use lib.ListN.{length}
use Rattle.bytecode.proofs.TestLaws.{and_left, and_right, rule}
use Rattle.model.specs.Limits.{is_edition, header_words, entry_words, cache_words}
use Rattle.model.specs.Rules.{sizes_fine, rule4, rule5, rule14, rule6, rule7, rule8}
use Rattle.model.specs.Image.{Room, words_of, image_header, image_objects, objects_in, image_bytes, accepted, tests_of, length_fine, buffers_fine, load_tests, load_verdict}
use Rattle.model.proofs.Parts.{length_part}
use Rattle.model.proofs.OrderLaws.{load_passes}
use Rattle.plain.specs.Calls.{loaded}
use Rattle.plain.proofs.StateLaws.{PlainRight, rests}
use Rattle.plain.proofs.RunLaws.{Stood}

pub length_words : (bytes : List ℕ) → length (words_of bytes) ≡ length bytes / 2
unfolding words_of
length_words [] = refl
length_words (h ∷ []) = refl
length_words (h ∷ l ∷ bytes) = ap suc (length_words bytes) ∙ omega arith

pub record Accepted (room : Room) (bytes : List ℕ) : Type 0 where
  pub long : length bytes ≡ image_bytes (image_header bytes).n (image_header bytes).b
  pub edition : T (is_edition (image_header bytes).edition)
  pub sizes : T (sizes_fine (image_header bytes).edition (image_header bytes).n (image_header bytes).b)
  pub contents : entry_words * (image_header bytes).n ≤ room.contents
  pub bodies : (image_header bytes).b ≤ room.bodies
  pub cache : room.cache ≡ cache_words
  pub rule_4 : T (rule4 (image_header bytes).edition (image_objects bytes))
  pub rule_5 : T (rule5 (image_header bytes).edition (image_objects bytes))
  pub rule_14 : T (rule14 (image_objects bytes))
  pub rule_6 : T (rule6 (image_header bytes).edition (image_objects bytes))
  pub rule_7 : T (rule7 (image_header bytes).edition (image_objects bytes))
  pub rule_8 : T (rule8 (image_objects bytes) (image_header bytes).receiver (image_header bytes).selector [])

pub accepts : (room : Room) (bytes : List ℕ) → load_verdict room bytes ≡ accepted → Accepted room bytes
unfolding length_fine buffers_fine
accepts room bytes a =
    let h = image_header bytes in
    let r = rule (tests_of (load_tests room bytes)) (load_passes room bytes a) in
    let c = leb (entry_words * h.n) room.contents in
    let b = leb h.b room.bodies in
    let k = eqb room.cache cache_words in
    record {
      long = eqb→eq (length bytes) (image_bytes h.n h.b) (and_right (leb (2 * header_words) (length bytes))
          (eqb (length bytes) (image_bytes h.n h.b)) (r 0));
      edition = and_left (is_edition h.edition) (sizes_fine h.edition h.n h.b) (r 1);
      sizes = and_right (is_edition h.edition) (sizes_fine h.edition h.n h.b)
          (r 1);
      contents = leb→le (entry_words * h.n) room.contents (and_left c (b && k) (r 2));
      bodies = leb→le h.b room.bodies
          (and_left b k (and_right c (b && k) (r 2)));
      cache = eqb→eq room.cache cache_words (and_right b k (and_right c (b && k) (r 2)));
      rule_4 = r 3;
      rule_5 = r 4;
      rule_14 = r 5;
      rule_6 = r 6;
      rule_7 = r 7;
      rule_8 = r 8;
    }

pub loaded_right : (room : Room) (bytes : List ℕ) → Accepted room bytes → PlainRight room (loaded bytes)
unfolding loaded image_objects objects_in
loaded_right room bytes a =
    let n = (image_header bytes).n in
    let b = (image_header bytes).b in
    let w : length (words_of bytes) ≡ length bytes / 2 = length_words bytes in
    let l = a.long in
    record {
      image = record {
        edition = a.edition;
        contents = length_part (words_of bytes) 5 (entry_words * n) (omega arith);
        bodies = length_part (words_of bytes)
            (5 + entry_words * n) b (omega arith);
        sizes = a.sizes;
        rule_4 = a.rule_4;
        rule_5 = a.rule_5;
        rule_14 = a.rule_14;
        rule_6 = a.rule_6;
        rule_7 = a.rule_7;
      };
      contents =
          a.contents;
      bodies = a.bodies;
      starts = a.rule_8;
      stands = rests refl refl refl refl;
    }

pub loaded_stood : (bytes stack : List ℕ) → Stood (loaded bytes) stack
unfolding loaded
loaded_stood bytes stack e = absurd (subst T (sym e) tt)
