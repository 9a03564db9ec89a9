-- A text that is put on a page.
use Rattle.std.specs.Prelude.{◌≡◌, List, ℕ, Result, Ok, Err}
use Rattle.surf_text.specs.Pages.{PageState, grown, HasFront, Stops}
use Rattle.surf_text.specs.declared.page.PageFault.{PageFault}

-- The whole text is behind what the page held, or a front of it is and this is why.
abbrev pub Fills : {A : Type 0} → PageState → PageState → List ℕ → Result A PageFault → Type 0
Fills old new text (Ok x) = new ≡ grown old text
Fills old new text (Err fault) = HasFront old new text × Stops old text fault
