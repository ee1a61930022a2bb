-- Save and load undo each other. The proofs are save-then-load, load-then-save, saved-loaded and loaded-saved of proofs/SavedLoaded.antt.
use Rattle.std.specs.Prelude.{ℕ, ◌≤◌, ◌<◌, ◌≡◌, true, List, ◌++◌, length, get_or, take, drop, Result, Ok}
use Rattle.model.specs.declared.numbers.Refusal.{Refusal}
use Rattle.model.specs.Objects.{objects_at}
use Rattle.model.specs.Image.{accepted, buffers_fine, image_bytes}
use Rattle.store.specs.Answer.{room_for}
use Rattle.plain.specs.Registers.{with_phase, idle}
use Rattle.plain.specs.Flat.{Flat, room_of, flat_objects}
use Rattle.plain.specs.Cache.{empty_cache}
use Rattle.plain.specs.Check.{check}
use Rattle.plain.specs.Calls.{done, wrote}
use Rattle.plain.specs.FlatCalls.{gives, saved, flat_load, flat_save}
use Rattle.machine.specs.declared.Registers.{Registers}
use Rattle.machine.specs.State.{state}
use Rattle.loads.specs.Answers.{PromisedLoad, saveGives}

-- The length of the image of a state
abbrev pub saved_bytes : Flat → ℕ
saved_bytes s = image_bytes s.registers.n s.registers.b

-- What a u8 slice holds
abbrev pub Bytes : List ℕ → Type 0
Bytes bytes = (i : ℕ) → i < length bytes → get_or bytes i 0 < 256

-- Save, then load. `s` is saved to `output`, which is `output'` afterwards, and the image in its front is loaded into the buffers of `t`, which
-- leaves `t'`: N, B, start words and all words of the objects are those of `s`; phase, top and value are 0; the cache is empty.
pub record Reloaded (s : Flat) (output : List ℕ) (t : Flat) (output' : List ℕ) (t' : Flat) : Type 0 where
  pub saves : flat_save s output ≡ saved (wrote (saved_bytes s)) output'
  pub loads : flat_load t (take (saved_bytes s) output') ≡ gives done t'
  pub registers : t'.registers ≡ with_phase s.registers idle 0 0
  pub objects : flat_objects t' ≡ flat_objects s
  pub stack : t'.stack ≡ t.stack
  pub cache : t'.cache ≡ empty_cache
  pub checks : check t' ≡ accepted

-- From every state that check accepts, with an output that is long enough and any buffers that hold the objects
abbrev pub SaveThenLoad : Type 0
SaveThenLoad =
    (s t : Flat) (output : List ℕ) → check s ≡ accepted → saved_bytes s ≤ length output → buffers_fine (room_of t) s.registers.n s.registers.b ≡ true
    → (output' : List ℕ) × (t' : Flat) × Reloaded s output t output' t'

-- Load, then save: the image that load accepted stands at the front of the output, byte for byte, and the rest is as it was.
pub record Resaved (image : List ℕ) (s : Flat) (output : List ℕ) : Type 0 where
  pub checks : check s ≡ accepted
  pub bytes : saved_bytes s ≡ length image
  pub saves : flat_save s output ≡ saved (wrote (length image)) (image ++ drop (length image) output)

abbrev pub LoadThenSave : Type 0
LoadThenSave =
    (t s : Flat) (image output : List ℕ) → Bytes image → flat_load t image ≡ gives done s → length image ≤ length output → Resaved image s output

-- The same of the answers of `save` and `load` (src/lib.rt), by what the two promise: `PromisedSave` of the answer and the output afterwards,
-- `PromisedLoad` (State) of the answer and the buffers afterwards.
abbrev pub PromisedSave : Registers → (contents bodies stack cache output : List ℕ) → Result ℕ Refusal → List ℕ → Type 0
PromisedSave r contents bodies stack cache output a output' = saveGives a output' ≡ flat_save (state r contents bodies stack cache) output

-- The registers of a state that was saved, as load gives them
abbrev pub idle_again : Registers → Registers
idle_again r = record { n = r.n; b = r.b; receiver = r.receiver; selector = r.selector; phase = 0; top = 0; value = 0; edition = r.edition }

-- Save answers with the length, load of so many bytes with the registers.
pub record LoadedAgain (r : Registers) (contents bodies : List ℕ) (a : Result ℕ Refusal) (l : Result Registers Refusal) (contents' bodies' cache' : List ℕ) : Type 0 where
  pub wrote : a ≡ Ok (image_bytes r.n r.b)
  pub accepts : l ≡ Ok (idle_again r)
  pub objects : objects_at r.n r.b contents' bodies' ≡ objects_at r.n r.b contents bodies
  pub cache : cache' ≡ empty_cache
  pub checks : (stack : List ℕ) → check (state (idle_again r) contents' bodies' stack cache') ≡ accepted

abbrev pub SavedLoaded : Type 0
SavedLoaded =
    (r : Registers) (contents bodies stack cache output : List ℕ) (a : Result ℕ Refusal) (output' : List ℕ)
    (contents₁ bodies₁ cache₁ : List ℕ) (l : Result Registers Refusal) (contents' bodies' cache' : List ℕ)
    → PromisedSave r contents bodies stack cache output a output'
    → PromisedLoad (take (image_bytes r.n r.b) output') contents₁ bodies₁ cache₁ l contents' bodies' cache'
    → check (state r contents bodies stack cache) ≡ accepted
    → image_bytes r.n r.b ≤ length output
    → buffers_fine (room_for (length contents₁) (length bodies₁) (length cache₁)) r.n r.b ≡ true
    → LoadedAgain r contents bodies a l contents' bodies' cache'

-- Load answers with registers, save of the state that they are with the image's length, and the output begins with the image.
abbrev pub LoadedSaved : Type 0
LoadedSaved =
    (image contents bodies cache : List ℕ) (r : Registers) (contents' bodies' cache' stack output : List ℕ) (a : Result ℕ Refusal) (output' : List ℕ)
    → Bytes image
    → PromisedLoad image contents bodies cache (Ok r) contents' bodies' cache'
    → PromisedSave r contents' bodies' stack cache' output a output'
    → length image ≤ length output
    → (a ≡ Ok (length image)) × (output' ≡ image ++ drop (length image) output)
