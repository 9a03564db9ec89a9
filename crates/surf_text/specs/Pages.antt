-- A page and what is put on it.
use Rattle.std.specs.Prelude.{◌≡◌, ◌<◌, ◌≤◌, ◌+◌, ℕ, List, ◌++◌, length, take, Result, Ok, Err}
use Rattle.surf_text.specs.declared.page.PageFault.{PageFault}
use Rattle.surf_text.specs.declared.page.PageFault.TheVariants.{Full, Memory}

-- the bytes of a page, and how many it may hold
pub record PageState : Type 0 where
  pub bytes : List ℕ
  pub most : ℕ

-- the page with a text behind its bytes
abbrev pub grown : PageState → List ℕ → PageState
grown page text = record page { bytes = page.bytes ++ text }

-- the page with a front of the text behind its bytes
abbrev pub HasFront : PageState → PageState → List ℕ → Type 0
HasFront old new text = (n : ℕ) × (new ≡ grown old (take n text))

-- why a text isn't on the page whole: full only where the page would hold too much
abbrev pub Stops : PageState → List ℕ → PageFault → Type 0
Stops old text Full = old.most < length old.bytes + length text
Stops old text Memory = Unit {0}

-- What putting a text on a page does: the whole text is on it, or a front of the text and a fault.
abbrev pub Puts : {A : Type 0} → PageState → PageState → List ℕ → Result A PageFault → Type 0
Puts old new text (Ok x) = (new ≡ grown old text) × (length old.bytes + length text ≤ old.most)
Puts old new text (Err fault) = HasFront old new text × Stops old text fault
