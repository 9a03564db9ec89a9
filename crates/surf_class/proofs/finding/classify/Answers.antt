use Rattle.surf_cert.proofs.Common.{◌≡◌, ◌<◌, ◌∙◌, ℕ, List, Bool, Option, true, false, map, filter, length, get_or, sym, subst, ap, arith, range_with_len, get_or_default, Chain, dual, IsSplit, Tree, cells_of, Mesh, edge_count, ends, option_copied, IsBoundary}
use Rattle.surf_class.proofs.Common.{has_left, CotreeTables, cotree_of, split_with, AreFlags, joint_parity, IsChosenOdd, IsChosenNull, odd_choice_is_right, IsParted, AreAllSidesOf, differs}
use Rattle.surf_class.proofs.Choosing.{odd_ways, ways_part, odd_chosen, bounds_something, null_found}
use Rattle.surf_class.proofs.finding.classify.Goals as goal
use Rattle.surf_class.proofs.finding.classify.Goals.{After-first_differing, After-index-left-k}

-- ---- what is asked at the left edges

abbrev mesh_of : After-first_differing → Mesh
mesh_of c = c.args.mesh.now

abbrev chain_of : After-first_differing → Chain
chain_of c = joint_parity c.args.mesh.now c.args.first.now (option_copied c.args.second)

abbrev Splits : After-first_differing → Tree → Type 0
Splits c tree = IsSplit (cells_of (mesh_of c)) (split_with tree c.args.cotree.now)

flagged : (c : After-first_differing) → AreFlags (edge_count (mesh_of c)) (chain_of c) c.deref.result.now
flagged c =
    subst (λ (xs : List Bool). AreFlags (edge_count (mesh_of c)) (chain_of c) xs) (sym c.deref.ensures.value)
    c.in_ok-flags.ensures.flags

abbrev inside : (c : After-first_differing) (tree : Tree) → Splits c tree → ℕ → Bool
inside c tree split =
    odd_ways (mesh_of c) c.law_of_surface.ensures.surface tree c.args.cotree.now split c.args.first.now
    (option_copied c.args.second) c.requires.closed c.deref.result.now (flagged c)

all_sides_of : (c : After-first_differing) (tree : Tree) (split : Splits c tree) →
    AreAllSidesOf (inside c tree split) c.deref-2.result.now
all_sides_of c tree split =
    let set = inside c tree split in
    let parted : IsParted (mesh_of c) c.args.cotree.now c.deref.result.now set =
    ways_part (mesh_of c) c.law_of_surface.ensures.surface tree c.args.cotree.now split c.args.first.now
    (option_copied c.args.second) c.requires.closed c.deref.result.now (flagged c) in
    subst (λ (xs : List (Option Bool)). AreAllSidesOf set xs) (sym c.deref-2.ensures.value)
    (c.in_ok-sides.ensures.sides set parted)

-- at left edge k they differ, and at none before
record DiffersFirst (mesh : Mesh) (t : CotreeTables) (flags : List Bool) (set : ℕ → Bool) (k : ℕ) : Type 0 where
  within : k < length t.left
  here : differs mesh flags set (get_or t.left k 0) ≡ true
  before : (j : ℕ) → j < k → differs mesh flags set (get_or t.left j 0) ≡ false

found : (mesh : Mesh) (t : CotreeTables) (flags : List Bool) (set : ℕ → Bool) (left : List ℕ) (k : ℕ) → left ≡ t.left →
    (k < length left) × (differs mesh flags set (get_or left k 0) ≡ true)
    × ((j : ℕ) → j < k → differs mesh flags set (get_or left j 0) ≡ false) → DiffersFirst mesh t flags set k
found mesh t flags set left k is h = record {
  within = subst (λ xs. k < length xs) is h.0;
  here = subst (λ xs. differs mesh flags set (get_or xs k 0) ≡ true) is h.1;
  before = subst (λ xs. (j : ℕ) → j < k → differs mesh flags set (get_or xs j 0) ≡ false) is h.2;
}

-- ---- where they differ

pub bounds-left-k : goal.bounds-left-k
bounds-left-k c =
    let i = (goal.at.bounds-left-k c).After-first_differing in
    let g = c.requires.grown in
    let h = c.in-Some.ensures.first (inside i g.tree g.split) (all_sides_of i g.tree g.split) in
    subst (λ xs. c.in-Some.k < length xs) (c.left.ensures.left ∙ sym c.left-in-Some.ensures.left) h.0

pub offset_bounds-left-k : goal.offset_bounds-left-k
offset_bounds-left-k c =
    let l : c.in-Some.k < length c.left-in-Some.result.now = bounds-left-k c in
    omega (arith, l, c.left-in-Some.type_inv.1)

edge_is : (c : After-index-left-k) → c.in-Some.k < length c.args.cotree.now.left →
    c.index-left-k.result ≡ get_or c.args.cotree.now.left c.in-Some.k 0
edge_is c l =
    c.index-left-k.is ∙ ap (λ xs. get_or xs c.in-Some.k c.index-left-k.result) c.left-in-Some.ensures.left
    ∙ get_or_default c.args.cotree.now.left c.in-Some.k c.index-left-k.result 0 l

pub list_signed-requires-clause-edge : goal.list_signed-requires-clause-edge
list_signed-requires-clause-edge c =
    let i = (goal.at.list_signed-requires-clause-edge c).After-first_differing in
    let g = c.requires.grown in
    let h = found c.args.mesh.now c.args.cotree.now c.deref.result.now (inside i g.tree g.split) c.left.result.now c.in-Some.k
    c.left.ensures.left (c.in-Some.ensures.first (inside i g.tree g.split) (all_sides_of i g.tree g.split)) in
    subst (λ n. n < edge_count c.args.mesh.now) (sym (edge_is c h.within)) (g.split.left_in c.in-Some.k h.within)

pub returns-in-Some-clause-chosen : goal.returns-in-Some-clause-chosen
returns-in-Some-clause-chosen c = λ tree split.
    let i = (goal.at.returns-in-Some-clause-chosen c).After-first_differing in
    let j = (goal.at.returns-in-Some-clause-chosen c).After-index-left-k in
    let mesh = c.args.mesh.now in
    let t = c.args.cotree.now in
    let k = c.in-Some.k in
    let h = found mesh t c.deref.result.now (inside i tree split) c.left.result.now k
    c.left.ensures.left (c.in-Some.ensures.first (inside i tree split) (all_sides_of i tree split)) in
    odd_chosen mesh c.law_of_surface.ensures.surface tree t split c.args.first.now (option_copied c.args.second)
    c.requires.closed c.deref.result.now (flagged i) k c.in_ok-list_signed-in-Some.field-0 h.within h.here h.before
    (subst (λ n. c.in_ok-list_signed-in-Some.field-0
    ≡ map (ends mesh) (filter (has_left (dual (cells_of mesh)) (cotree_of t) n) (range_with_len 0 (edge_count mesh))))
    (edge_is j h.within) c.in_ok-list_signed-in-Some.ensures.list)

pub returns-in-Some-clause-right : goal.returns-in-Some-clause-right
returns-in-Some-clause-right c =
    let g = c.requires.grown in
    let mesh = c.args.mesh.now in
    let chain = joint_parity mesh c.args.first.now (option_copied c.args.second) in
    let chosen : IsChosenOdd mesh (split_with g.tree c.args.cotree.now) chain c.in_ok-list_signed-in-Some.field-0 =
    returns-in-Some-clause-chosen c g.tree g.split in
    odd_choice_is_right mesh (split_with g.tree c.args.cotree.now) c.law_of_surface.ensures.surface g.split chain
    c.in_ok-list_signed-in-Some.field-0 chosen

-- ---- where they don't

pub returns-clause-chosen : goal.returns-clause-chosen
returns-clause-chosen c = λ tree split.
    let i = (goal.at.returns-clause-chosen c).After-first_differing in
    let mesh = c.args.mesh.now in
    let t = c.args.cotree.now in
    let set = inside i tree split in
    let none : (k : ℕ) → k < length t.left → differs mesh c.deref.result.now set (get_or t.left k 0) ≡ false =
    subst (λ xs. (k : ℕ) → k < length xs → differs mesh c.deref.result.now set (get_or xs k 0) ≡ false)
    c.left.ensures.left (c.in-None.ensures.first set (all_sides_of i tree split)) in
    let some : IsBoundary mesh (chain_of i) =
    bounds_something mesh c.law_of_surface.ensures.surface tree t split c.args.first.now (option_copied c.args.second)
    c.requires.closed c.deref.result.now (flagged i) none in
    null_found mesh c.law_of_surface.ensures.surface tree t split (chain_of i) c.deref.result.now
    (subst (λ (xs : List Bool). AreFlags (edge_count mesh) (chain_of i) xs) (sym c.deref.ensures.value)
    c.in_ok-flags.ensures.flags) some c.in_ok-sides.sides.items c.deref-2.result.now
    c.in_ok-list_inside-in-None.field-0 c.deref-2.ensures.value c.in_ok-sides.ensures.count
    c.in_ok-sides.ensures.sides c.in_ok-list_inside-in-None.ensures.list

pub returns-clause-right : goal.returns-clause-right
returns-clause-right c =
    let g = c.requires.grown in
    let chosen : IsChosenNull c.args.mesh.now (joint_parity c.args.mesh.now c.args.first.now (option_copied c.args.second))
    c.in_ok-list_inside-in-None.field-0 = returns-clause-chosen c g.tree g.split in
    chosen.evidence
