use Rattle.surf_surfaces.proofs.Common.{◌≡◌, ℕ, List, length, drop, sym, subst, ◌∙◌, arith, take_at}
use Rattle.surf_soup.specs.Apart.{AreFaceRoots}
use Rattle.surf_soup.proofs.ApartLaws.{none_apart, least_apart}
use Rattle.surf_soup.proofs.apart.find_apart.Goals as goal

pub returns-in-None : goal.returns-in-None
returns-in-None c =
    let mesh = c.args.soup.now in
    let now = c.deref.result.now in
    let made = c.join_faces.new.parents in
    let R : List ℕ → Type 0 = λ parents. (root : ℕ → ℕ) × AreFaceRoots mesh parents root in
    let size : length made ≡ c.in_ok-parents.parents.len = omega arith in
    let whole : now ≡ made = c.deref.ensures.value
    ∙ take_at made (drop (length made) c.in_ok-parents.parents.items) c.in_ok-parents.parents.len size in
    let roots = subst R (sym whole) c.join_faces.ensures in
    none_apart mesh now roots.0 roots.1 c.in-None.ensures

pub returns : goal.returns
returns c =
    let mesh = c.args.soup.now in
    let now = c.deref.result.now in
    let made = c.join_faces.new.parents in
    let R : List ℕ → Type 0 = λ parents. (root : ℕ → ℕ) × AreFaceRoots mesh parents root in
    let size : length made ≡ c.in_ok-parents.parents.len = omega arith in
    let whole : now ≡ made = c.deref.ensures.value
    ∙ take_at made (drop (length made) c.in_ok-parents.parents.items) c.in_ok-parents.parents.len size in
    let roots = subst R (sym whole) c.join_faces.ensures in
    let h = c.in-Some.ensures in
    rw c.new.ensures (least_apart mesh now roots.0 roots.1 _ h.0 h.1 h.2 h.3)
