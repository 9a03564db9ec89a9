-- A desk that found loops and then signed the edges, and a mesh with two loops.
use Rattle.surf_surfaces.proofs.Common.{◌≡◌, ◌≤◌, ◌+◌, ◌*◌, ◌^◌, map, sym, ap, ◌∙◌, subst, arith, range_with_len, IsSplit, Tree, cells_of, Mesh, edge_signature, edge_count, face_count, loop_count}
use Rattle.surf_cotree.specs.Grown.{IsGrownOn}
use Rattle.surf_cotree.specs.Tables.{AreCotreeTables, parent_edge_of, split_with}
use Rattle.surf_loops.specs.Loops.{LoopTables}
use Rattle.surf_cover.specs.Grown.{IsSigned}
use Rattle.surf_cover.specs.Tables.{IsSmall}

-- Nothing but its signatures is new, so what it had grown it still has.
pub desk_signed : (mesh : Mesh) (t new : LoopTables) → IsGrownOn mesh t.cotree →
    new ≡ record t { cotree = record t.cotree { signatures = new.cotree.signatures } } →
    AreCotreeTables mesh new.cotree →
    ((tree : Tree) → IsSplit (cells_of mesh) (split_with tree new.cotree) →
    new.cotree.signatures ≡ map (edge_signature mesh (split_with tree new.cotree)) (range_with_len 0 (edge_count mesh))) →
    IsSigned mesh new.cotree
desk_signed mesh t new grown rest made signed = record {
  grown = record {
    made = made;
    root = ap (λ (x : LoopTables). parent_edge_of x.cotree 0) rest ∙ grown.root;
    tree = grown.tree;
    split = subst (IsSplit (cells_of mesh)) (sym (ap (λ (x : LoopTables). split_with grown.tree x.cotree) rest)) grown.split;
  };
  signatures = signed;
}

-- With two loops there are four sets of left edges.
pub two_loops_small : (mesh : Mesh) → mesh.vertices ≤ 16384 → edge_count mesh ≡ mesh.vertices + face_count mesh → IsSmall mesh
two_loops_small mesh few same =
    let two : loop_count mesh ≡ 2 = omega (arith, same) in
    record {
      loops = omega (arith, two);
      nodes = subst (λ n. mesh.vertices * 2 ^ n ≤ 16777216) (sym two) (omega (arith, few));
    }
