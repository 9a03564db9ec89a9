-- What a file of vertices says, stage by stage.
use Rattle.surf_cert.proofs.Common.{◌≡◌, ℕ, ◌<◌, nat_le, List, [], ◌∷◌, get_or, None, Ok, Err, refl, ap, ◌∙◌, All, position, All-from_get_or, Mesh, leb-false, TextLine, tokens_of, lines_of}
use Rattle.surf_class.proofs.Common.{numbers_from}
use Rattle.surf_class.specs.Points.{points_of, points_in, if_alone}
use Rattle.surf_class.specs.declared.points.PointFault.TheVariants.{Trailing}
use Rattle.surf_class.proofs.Lists.{none_passes}

module _ (mesh : Mesh) (text : List ℕ) (line : TextLine) (lines : List TextLine) (is : lines_of text ≡ line ∷ lines)
    (list : List ℕ) (read : numbers_from 0 (tokens_of line.bytes) ≡ Ok list)
    (vertices : position (λ v. nat_le mesh.vertices v) list ≡ None) where
  begun : points_in mesh text ≡ if_alone lines list
  begun = ap (points_of mesh) is ∙ rw (read, vertices) refl

  pub trailing : (l : TextLine) (ls : List TextLine) → lines ≡ l ∷ ls → points_in mesh text ≡ Err (Trailing l.number)
  trailing l ls more = begun ∙ rw more refl

  pub alone : lines ≡ [] → points_in mesh text ≡ Ok list
  alone none = begun ∙ rw none refl

  pub inside : All (λ v. v < mesh.vertices) list
  inside = All-from_get_or (λ v. v < mesh.vertices) list 0 (λ k l. leb-false mesh.vertices (get_or list k 0)
      (none_passes (λ v. nat_le mesh.vertices v) list 0 vertices k l))
