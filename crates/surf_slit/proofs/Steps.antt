-- What labelling a vertex, and cutting one more edge, does to the labels.
use Rattle.surf_slit.proofs.Common.{◌≡◌, ◌≢◌, ℕ, ◌+◌, ◌-◌, ◌<◌, ◌≤◌, ◌↔◌, max, sym, refl, subst, ap, ◌∙◌, List, length, get_or, Bool, true, false, arith, count_below, Joined, here, over, Mesh, pair, edge_count, ends, touches, IsSurface, side_count, owners, IsFaceOf, set, get_or-set_same, get_or-set_other, touches_first, joined_lift, joined_trans, ShareUncutAt, pigeons, BeginsAt, face_of_side, corners_below, corners_len, corner_at, IsUncut, AgreeAt, AreNumbers, AreLabels, run_of}
use Rattle.surf_slit.proofs.Runs.{Linked, run_below, run_used, runs_along, runs_join, closed_agree, split_agree, chain, chain_round}
use Rattle.surf_slit.proofs.Fans.{IsFan, agree_placed, placed_agree}

-- no more labels than sides
pub labels_few : (mesh : Mesh) (labels : List ℕ) (count : ℕ) → ((l : ℕ) → l < count → (s : ℕ) × (s < side_count mesh) × (get_or labels s 0 ≡ l)) → count ≤ side_count mesh
labels_few mesh labels count used = pigeons count (side_count mesh) (λ l s. get_or labels s 0 ≡ l) used (λ k l s a b e f. sym e ∙ f)

pub corner_below : {mesh : Mesh} → IsSurface mesh → (s : ℕ) → s < side_count mesh → corner_at mesh s < mesh.vertices
corner_below {mesh} surface s h = corners_below mesh surface.is_mesh s 0 (let n = corners_len mesh in omega arith)

-- labels at each vertex, and for all
pub all_labels : {mesh : Mesh} → IsSurface mesh → (cut : List Bool) (labels : List ℕ) (count : ℕ) → AreNumbers mesh labels count → ((v : ℕ) → v < mesh.vertices → AgreeAt mesh cut labels v) → AreLabels mesh cut labels count
all_labels {mesh} surface cut labels count numbers agree = record {
  size = numbers.size;
  below = numbers.below;
  used = numbers.used;
  agree = λ s t f g a b.
      let v = corner_at mesh s in
      let in_s = side_in s f a in
      let in_t = side_in t g b in
      let at = agree v (corner_below surface s in_s) in (
        (λ e. let same = numbers.one_vertex s t in_s in_t e in (same, (at s t f g (in_s, refl) (in_t, sym same) a b).0 e)),
        (λ m. (at s t f g (in_s, refl) (in_t, sym m.0) a b).1 m.1),
      );
}
  where
    side_in : (s f : ℕ) → IsFaceOf mesh s f → s < side_count mesh
    side_in s f a = let sp = Rattle.surf_soup.proofs.HalfLaws.spans mesh.faces f a.is_face in omega (arith, sp.0, sp.1, a.upto)

pub their_numbers : {mesh : Mesh} {cut : List Bool} {labels : List ℕ} {count : ℕ} → AreLabels mesh cut labels count → AreNumbers mesh labels count
their_numbers {mesh} {cut} {labels} {count} are = record {
  size = are.size;
  below = are.below;
  used = are.used;
  one_vertex = λ s t a b e. ((are.agree s t _ _ (face_of_side mesh (owners 0 mesh.faces) s 0 refl a) (face_of_side mesh (owners 0 mesh.faces) t 0 refl b)).0 e).0;
}

pub each_vertex : {mesh : Mesh} {cut : List Bool} {labels : List ℕ} {count : ℕ} → AreLabels mesh cut labels count → (v : ℕ) → AgreeAt mesh cut labels v
each_vertex {mesh} {cut} {labels} {count} are v s t f g b c a d =
    let k = are.agree s t f g a d in
    let move : (x y : ℕ) → x ≡ y → Joined (ShareUncutAt mesh (IsUncut mesh cut) x) f g → Joined (ShareUncutAt mesh (IsUncut mesh cut) y) f g = λ x y e. subst (λ x. Joined (ShareUncutAt mesh (IsUncut mesh cut) x) f g) e in
    ((λ e. move (corner_at mesh s) v b.1 (k.0 e).1), (λ p. k.1 (b.1 ∙ sym c.1, move v (corner_at mesh s) (sym b.1) p)))

-- only labels at the vertex matter
pub agree_kept : (mesh : Mesh) (cut : List Bool) (old new : List ℕ) (v : ℕ) → ((s : ℕ) → BeginsAt mesh v s → get_or new s 0 ≡ get_or old s 0) → AgreeAt mesh cut old v → AgreeAt mesh cut new v
agree_kept mesh cut old new v kept agree s t f g b c a d =
    let k = agree s t f g b c a d in
    ((λ e. k.0 (sym (kept s b) ∙ e ∙ kept t c)), (λ p. kept s b ∙ k.1 p ∙ sym (kept t c)))

-- only flags of edges at the vertex matter
pub agree_elsewhere : (mesh : Mesh) (old new : List Bool) (labels : List ℕ) (v : ℕ) → ((e : ℕ) → e < edge_count mesh → touches v (ends mesh e) ≡ true → get_or new e false ≡ get_or old e false) → AgreeAt mesh old labels v → AgreeAt mesh new labels v
agree_elsewhere mesh old new labels v same agree s t f g b c a d =
    let k = agree s t f g b c a d in
    let at : (e w : ℕ) → ends mesh e ≡ pair v w → touches v (ends mesh e) ≡ true = λ e w is. ap (touches v) is ∙ touches_first v w in
    let to : (x y : ℕ) → ShareUncutAt mesh (IsUncut mesh old) v x y → Joined (ShareUncutAt mesh (IsUncut mesh new) v) x y =
    λ x y u. over (u.0, u.1, u.2, (u.3.0, u.3.1, u.3.2, same u.3.0 u.3.1 (at u.3.0 u.0 u.3.2) ∙ u.3.3)) here in
    let from : (x y : ℕ) → ShareUncutAt mesh (IsUncut mesh new) v x y → Joined (ShareUncutAt mesh (IsUncut mesh old) v) x y =
    λ x y u. over (u.0, u.1, u.2, (u.3.0, u.3.1, u.3.2, sym (same u.3.0 u.3.1 (at u.3.0 u.0 u.3.2)) ∙ u.3.3)) here in
    ((λ e. joined_lift to (k.0 e)), (λ p. k.1 (joined_lift from p)))

module _ {mesh : Mesh} (surface : IsSurface mesh) {v n : ℕ} {ring edge : ℕ → ℕ} (fan : IsFan mesh v n ring edge) where
  -- labels by runs
  module _ (cut : List Bool) (labels : List ℕ) (first : ℕ) (are : (k : ℕ) → k < n → get_or labels (ring k) 0 ≡ first + run_of n (λ k. get_or cut (edge k) false) k) where
    abbrev flag : ℕ → Bool
    flag k = get_or cut (edge k) false

    pub runs_agree : AgreeAt mesh cut labels v
    runs_agree = placed_agree surface fan cut labels (λ i j h l.
        ((λ e. runs_join n flag i j h l (drop_first (sym (are i h) ∙ e ∙ are j l))), (λ p. are i h ∙ ap (λ r. first + r) (runs_along n flag p) ∙ sym (are j l))))
      where
        drop_first : {a b : ℕ} → first + a ≡ first + b → a ≡ b
        drop_first e = omega arith

    pub runs_between : (s : ℕ) → BeginsAt mesh v s → (first ≤ get_or labels s 0) × (get_or labels s 0 < first + max 1 (count_below n flag))
    runs_between s b =
        let k = fan.all s b in
        let in' : k.0 < n = k.1 in
        let is : get_or labels s 0 ≡ first + run_of n flag k.0 = ap (λ s. get_or labels s 0) (sym k.2) ∙ are k.0 k.1 in
        let below : run_of n flag k.0 < max 1 (count_below n flag) = run_below n flag k.0 (omega arith) in
        (sandwich (get_or labels s 0) first (run_of n flag k.0) (max 1 (count_below n flag)) is below)
      where
        sandwich : (x a r m : ℕ) → x ≡ a + r → r < m → (a ≤ x) × (x < a + m)
        sandwich x a r m e h = (omega arith, omega arith)

    pub runs_used : (l : ℕ) → l < max 1 (count_below n flag) → (s : ℕ) × BeginsAt mesh v s × (get_or labels s 0 ≡ first + l)
    runs_used l h = let k = run_used n flag l fan.some h in (ring k.0, fan.begin k.0 k.1, are k.0 k.1 ∙ ap (λ r. first + r) k.2)

  -- the edge at the last place is cut besides
  module _ (cut : List Bool) (e : ℕ) (is_edge : e < length cut) (is_cut : get_or cut e false ≡ true) (is_last : edge (n - 1) ≡ e) (old : List ℕ) (agree : AgreeAt mesh (set cut e false) old v) where
    abbrev was : List Bool
    was = set cut e false

    last_was : get_or was (edge (n - 1)) false ≡ false
    last_was = ap (λ e. get_or was e false) is_last ∙ get_or-set_same cut e false false is_edge

    last_is : get_or cut (edge (n - 1)) false ≡ true
    last_is = ap (λ e. get_or cut e false) is_last ∙ is_cut

    rest : (k : ℕ) → k + 1 < n → get_or cut (edge k) false ≡ get_or was (edge k) false
    rest k h =
        let ne : edge k ≢ e = λ i. (let z : k ≡ n - 1 = fan.once k (n - 1) (omega arith) (omega arith) (i ∙ sym is_last) in omega arith) in
        sym (get_or-set_other cut e (edge k) false false ne)

    placed : (i j : ℕ) → i < n → j < n → (get_or old (ring i) 0 ≡ get_or old (ring j) 0) ↔ Joined (Linked n (λ k. get_or was (edge k) false)) i j
    placed = agree_placed surface fan was old agree

    pub agree_closed : ((k : ℕ) → k + 1 < n → get_or cut (edge k) false ≡ false) → AgreeAt mesh cut old v
    agree_closed free = placed_agree surface fan cut old
        (closed_agree n 0 0 (λ k. get_or was (edge k) false) (λ k. get_or cut (edge k) false) (λ k. get_or old (ring k) 0) (λ k. get_or old (ring k) 0) last_was last_is rest placed fan.some free)

    module _ (new : List ℕ) (q fresh : ℕ) (q_in : q + 1 < n) (q_cut : get_or cut (edge q) false ≡ true) (free : (k : ℕ) → k < q → get_or cut (edge k) false ≡ false)
        (is_new : (k : ℕ) → k < n → get_or old (ring k) 0 ≢ fresh) (split : (k : ℕ) → k ≤ q → get_or new (ring k) 0 ≡ fresh) (kept : (k : ℕ) → q < k → k < n → get_or new (ring k) 0 ≡ get_or old (ring k) 0) where
      pub agree_split : AgreeAt mesh cut new v
      agree_split = placed_agree surface fan cut new
          (split_agree n q fresh (λ k. get_or was (edge k) false) (λ k. get_or cut (edge k) false) (λ k. get_or old (ring k) 0) (λ k. get_or new (ring k) 0) last_was last_is rest placed q_in q_cut free is_new split kept)

    -- before, the place and those after it up to the next cut had one label
    pub old_same : (q : ℕ) → q + 1 < n → ((k : ℕ) → k < q → get_or cut (edge k) false ≡ false) → (k : ℕ) → k ≤ q → get_or old (ring (n - 1)) 0 ≡ get_or old (ring k) 0
    old_same q q_in free k h =
        let first : Joined (Linked n (λ k. get_or was (edge k) false)) (n - 1) 0 = chain_round n (λ k. get_or was (edge k) false) (n - 1) (omega arith) (λ i a b. subst (λ i. get_or was (edge i) false ≡ false) (let z : n - 1 ≡ i = omega arith in z) last_was) in
        let up = chain n (λ k. get_or was (edge k) false) 0 k (omega arith) (omega arith) (λ i a b. sym (rest i (omega arith)) ∙ free i (omega arith)) in
        (placed (n - 1) k (omega arith) (omega arith)).1 (joined_trans first up)
