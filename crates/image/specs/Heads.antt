-- The code's header as that of model's specs/Image.antt, and a header's words in their order.
use Rattle.std.specs.Prelude.{ℕ, List, [], ◌∷◌}
use Rattle.model.specs.Image as Image
use Rattle.image.specs.declared.Header.{Header}

abbrev pub as_header : Header → Image.Header
as_header h = record { edition = h.edition; n = h.n; b = h.b; receiver = h.receiver; selector = h.selector }

abbrev pub head_words : Image.Header → List ℕ
head_words h = h.edition ∷ h.n ∷ h.b ∷ h.receiver ∷ h.selector ∷ []
