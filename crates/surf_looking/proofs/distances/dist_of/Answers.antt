use Rattle.surf_answers.proofs.Common.{◌≡◌, ◌∙◌, ℕ, List, refl, ap, subst, Mesh, TreeTables, tree_of, Outcome, tables_are_texts, GivesDistances, Says, page_answered, page_stopped}
use Rattle.surf_tree.specs.Grown.{IsGrown}
use Rattle.surf_texts.specs.TreeTexts.{tables_text}
use Rattle.surf_looking.proofs.distances.dist_of.Goals as goal

gives : (mesh : Mesh) (lengths : List ℕ) (base : ℕ) (t : TreeTables) (n : ℕ) → n ≡ mesh.vertices → IsGrown mesh lengths base t → (o : Outcome) →
    Says (tables_text t n) o → GivesDistances mesh lengths base o
gives mesh lengths base t n count grown o says = record {
  tree = tree_of t;
  shortest = grown.shortest;
  says = subst (λ (text : List ℕ). Says text o) (ap (λ k. tables_text t k) count ∙ tables_are_texts mesh lengths base t grown) says;
}

pub returns-in_err-put_distances : goal.returns-in_err-put_distances
returns-in_err-put_distances c =
    page_stopped (GivesDistances c.args.mesh.now c.args.lengths.now c.args.base) (tables_text c.grow.new.self c.vertices.result) c.make-page.result c.make-page.ensures.empty
    (gives c.args.mesh.now c.args.lengths.now c.args.base c.grow.new.self c.vertices.result c.vertices.ensures.count c.grow.ensures.grown)
    c.in_err-put_distances.field-0.0 c.in_err-put_distances.ensures.1 c.from_residual-in_err-put_distances.result c.from_residual-in_err-put_distances.ensures.1

pub returns : goal.returns
returns c =
    page_answered (GivesDistances c.args.mesh.now c.args.lengths.now c.args.base) (tables_text c.grow.new.self c.vertices.result) c.make-page.result c.make-page.ensures.empty
    (gives c.args.mesh.now c.args.lengths.now c.args.base c.grow.new.self c.vertices.result c.vertices.ensures.count c.grow.ensures.grown)
    c.put_distances.new.page c.in_ok-put_distances.ensures c.yes.result _ c.yes.ensures refl c.into_bytes.ensures.bytes c.into_bytes.ensures.within
