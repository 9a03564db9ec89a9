use Rattle.surf_slit.proofs.Common.{◌≡◌, ◌<◌, ℕ, length, get_or, replicate, refl, inl, inr, ap, sym, ◌∙◌, subst, arith, get_or_default, length-set, set}
use Rattle.surf_cutter.proofs.Common.{nobody, corners_of, AreReaches, sides_of, with_reach}
use Rattle.surf_cutter.proofs.BorderTables.{corners_in}
use Rattle.surf_cutter.proofs.RimTables.{AreRimsTo}
use Rattle.surf_cutter.proofs.Rims.{rims_none, rims_more, rims_done, sides_none, sides_size, sides_with, reaches_none, reaches_with}
use Rattle.surf_cutter.proofs.border.fill_rims.Goals as goal

pub loop-side-init : goal.loop-side-init
loop-side-init c =
    let disc = c.args.border.now in
    let n = disc.vertices in
    let sides : sides_of c.args.rims.now ≡ replicate n (nobody, nobody) = ap sides_of c.requires ∙ sides_none n in
    record {
      rims = subst (AreRimsTo disc c.sides-side-items.result.now 0) (sym sides) (rims_none disc c.sides-side-items.result.now n refl);
      reaches = subst (AreReaches disc) (sym c.requires) (reaches_none disc n);
    }

pub corners-tail-requires : goal.corners-tail-requires
corners-tail-requires c =
    let border = c.sides-side-items.result.now in
    let i = c.loop-side.side-index in
    let s : c.side-item.result ≡ get_or border i 0 = c.side-item.is ∙ get_or_default border i c.side-item.result 0 c.loop-side-test.true in
    let b = (c.sides-side-items.ensures.border i c.loop-side-test.true).0 in
    omega (arith, s, b)

pub add_at-requires : goal.add_at-requires
add_at-requires c =
    let mesh = c.args.border.now in
    let border = c.sides-side-items.result.now in
    let i = c.loop-side.side-index in
    let s : c.side-item.result ≡ get_or border i 0 = c.side-item.is ∙ get_or_default border i c.side-item.result 0 c.loop-side-test.true in
    let b = c.sides-side-items.ensures.border i c.loop-side-test.true in
    let both = corners_in mesh c.law_of_border.ensures.disc.is_mesh (get_or border i 0) b.0 in
    let tail : c.corners-tail.result.0 ≡ (corners_of mesh (get_or border i 0)).0 = ap (λ (p : ℕ × ℕ). p.0) (c.corners-tail.ensures ∙ ap (corners_of mesh) s) in
    omega (arith, both.0, c.loop-side.invariant.rims.size, sides_size c.loop-side.rims)

pub add_at-requires-in-loop-side : goal.add_at-requires-in-loop-side
add_at-requires-in-loop-side c =
    let mesh = c.args.border.now in
    let border = c.sides-side-items.result.now in
    let i = c.loop-side.side-index in
    let s : c.side-item.result ≡ get_or border i 0 = c.side-item.is ∙ get_or_default border i c.side-item.result 0 c.loop-side-test.true in
    let b = c.sides-side-items.ensures.border i c.loop-side-test.true in
    let both = corners_in mesh c.law_of_border.ensures.disc.is_mesh (get_or border i 0) b.0 in
    let head : c.corners-tail.result.1 ≡ (corners_of mesh (get_or border i 0)).1 = ap (λ (p : ℕ × ℕ). p.1) (c.corners-tail.ensures ∙ ap (corners_of mesh) s) in
    let size = ap length c.add_at.ensures ∙ length-set c.loop-side.rims c.corners-tail.result.0 (with_reach (get_or c.loop-side.rims c.corners-tail.result.0 ((0, 0), (0, 0))) (c.number.result, c.corners-tail.result.1)) in
    omega (arith, both.1, size, c.loop-side.invariant.rims.size, sides_size c.loop-side.rims)

pub loop-side-preserved : goal.loop-side-preserved
loop-side-preserved c =
    let mesh = c.args.border.now in
    let border = c.sides-side-items.result.now in
    let rims = c.loop-side.rims in
    let i = c.loop-side.side-index in
    let lt = c.loop-side-test.true in
    let s : c.side-item.result ≡ get_or border i 0 = c.side-item.is ∙ get_or_default border i c.side-item.result 0 lt in
    let b = c.sides-side-items.ensures.border i lt in
    let both = corners_in mesh c.law_of_border.ensures.disc.is_mesh (get_or border i 0) b.0 in
    let corners : c.corners-tail.result ≡ corners_of mesh (get_or border i 0) = c.corners-tail.ensures ∙ ap (corners_of mesh) s in
    let tail = c.corners-tail.result.0 in
    let head = c.corners-tail.result.1 in
    let tail_is : tail ≡ (corners_of mesh (get_or border i 0)).0 = ap (λ (p : ℕ × ℕ). p.0) corners in
    let head_is : head ≡ (corners_of mesh (get_or border i 0)).1 = ap (λ (p : ℕ × ℕ). p.1) corners in
    let few = c.law_of_border.ensures.few in
    let here : ℕ = get_or border i 0 in
    let middle = c.add_at.new.rims in
    let new = c.add_at-in-loop-side.new.rims in
    let middle_is : middle ≡ set rims tail (with_reach (get_or rims tail ((0, 0), (0, 0))) (here, head)) =
    c.add_at.ensures ∙ ap (λ (n : ℕ). set rims tail (with_reach (get_or rims tail ((0, 0), (0, 0))) (n, head))) (c.number.ensures ∙ s) in
    let new_is : new ≡ set middle head (with_reach (get_or middle head ((0, 0), (0, 0))) (here, tail)) =
    c.add_at-in-loop-side.ensures ∙ ap (λ (n : ℕ). set middle head (with_reach (get_or middle head ((0, 0), (0, 0))) (n, tail))) (c.number-in-loop-side.ensures ∙ s) in
    let same = sides_size rims in
    let size = c.loop-side.invariant.rims.size in
    let long = ap length middle_is ∙ length-set rims tail (with_reach (get_or rims tail ((0, 0), (0, 0))) (here, head)) in
    let tail_in : tail < length rims = omega (arith, both.0, tail_is, size, same) in
    let head_in : head < length middle = omega (arith, both.1, head_is, size, same, long) in
    let apart = c.law_of_border.ensures.paired.apart here b in
    record {
      rims = rims_more mesh border c.law_of_border.ensures.paired c.sides-side-items.ensures few i lt (sides_of rims) tail head c.loop-side.invariant.rims corners
          (subst (λ t. t < mesh.vertices) (sym tail_is) both.0) (subst (λ t. t < mesh.vertices) (sym head_is) both.1)
          (sides_of middle) (sides_of new)
          (ap sides_of middle_is ∙ sides_with rims tail here head tail_in)
          (ap sides_of new_is ∙ sides_with middle head here tail head_in);
      reaches = subst (AreReaches mesh) (sym new_is)
          (reaches_with mesh middle head here tail
          (subst (AreReaches mesh) (sym middle_is) (reaches_with mesh rims tail here head c.loop-side.invariant.reaches tail_in (inr head_is) (λ e. apart (sym tail_is ∙ sym e ∙ head_is))))
          head_in (inl tail_is) (λ e. apart (sym tail_is ∙ e ∙ head_is)));
    }

pub returns-clause-rims : goal.returns-clause-rims
returns-clause-rims c =
    let mesh = c.args.border.now in
    let end = c.loop-side.auto.side-index-end in
    let all : c.loop-side.side-index ≡ length c.sides-side-items.result.now = omega (arith, c.loop-side-test.false) in
    rims_done mesh c.sides-side-items.result.now c.law_of_border.ensures.disc.is_mesh c.sides-side-items.ensures c.loop-side.side-index all (sides_of c.loop-side.rims) c.loop-side.invariant.rims
