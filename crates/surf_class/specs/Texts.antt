-- The texts of evidence.
use Rattle.std.specs.Prelude.{◌≡◌, ◌<◌, ℕ, true, List, [], ◌∷◌, ◌++◌, length, flat_map, codes, decimal, All, AllPairs}
use Rattle.std.specs.Prelude.{Ok}
use Rattle.surf_surfaces.specs.Mesh.{pair_lt}
use Rattle.surf_records.specs.Fits.{IsNumber, IsPair}
use Rattle.surf_text.specs.Numbers.{numbers_text}
use Rattle.surf_classes.specs.Evidence.{Evidence, null_faces, odd_pairs}
use Rattle.surf_class.specs.Evidences.{evidence_in}

-- a word, and how many there are
abbrev pub evidence_head_text : List ℕ → ℕ → List ℕ
evidence_head_text word count = word ++ (codes " " ++ decimal count)

-- a line that begins so and goes on with numbers
abbrev pub counted_text : List ℕ → ℕ → List ℕ → List ℕ
counted_text word count numbers = evidence_head_text word count ++ (numbers_text numbers ++ codes "\n")

-- both numbers of each pair
abbrev pub both_ends : List (ℕ × ℕ) → List ℕ
both_ends pairs = flat_map (λ p. p.0 ∷ p.1 ∷ []) pairs

-- the line of evidence, which begins with one of two words
abbrev pub evidence_text : List ℕ → List ℕ → Evidence → List ℕ
evidence_text null_word odd_word (null_faces faces) = counted_text null_word (length faces) faces
evidence_text null_word odd_word (odd_pairs pairs) = counted_text odd_word (length pairs) (both_ends pairs)

-- faces by numbers of a text, increasing
pub record FacesFit (faces : List ℕ) : Type 0 where
  pub count : IsNumber (length faces)
  pub numbers : All IsNumber faces
  pub rises : AllPairs (λ f g. f < g) faces

-- edges by numbers of a text, increasing, each by its lesser end and its greater
pub record PairsFit (pairs : List (ℕ × ℕ)) : Type 0 where
  pub count : IsNumber (length pairs)
  pub ends : All IsPair pairs
  pub rises : AllPairs (λ p q. pair_lt p q ≡ true) pairs

-- evidence that can be read
abbrev pub EvidenceFits : Evidence → Type 0
EvidenceFits (null_faces faces) = FacesFit faces
EvidenceFits (odd_pairs pairs) = PairsFit pairs

-- Written evidence that fits its lines is read back as it was.
abbrev pub EvidenceIsReread : Type 0
EvidenceIsReread = (evidence : Evidence) → EvidenceFits evidence →
    evidence_in (evidence_text (codes "null") (codes "odd") evidence) ≡ Ok evidence
