use Rattle.std.proofs.Common.{◌∙◌, sym}
use Rattle.surf_graphs.specs.Graphs.{walk_chain}
use Rattle.surf_graphs.specs.Cells.{primal}
use Rattle.surf_graphs.proofs.Graphs.{walk_even}
use Rattle.surf_graphs.proofs.CellLaws.{null_signature, signature_null, walk_signature_is}
use Rattle.surf_graphs.proofs.law_of_null_walks.Goals as goal

pub returns : goal.returns
returns c s d cells ok a w walk = (
  λ null k l. walk_signature_is s d a w a k walk ∙ null_signature s d cells ok (walk_chain (primal s) a w) null k l,
  λ zeros. signature_null s d cells ok (walk_chain (primal s) a w) (walk_even (primal s) a w walk)
      (λ k l. sym (walk_signature_is s d a w a k walk) ∙ zeros k l),
)
