-- The loops of which kept candidates tell.
use Rattle.surf_search.proofs.Common.{◌≡◌, ℕ, zero, suc, ◌<◌, ◌++◌, Bool, List, [], ◌∷◌, length, get_or, map, set, All, IsPermutation, refl, sym, ap, ◌∙◌, subst, arith, numbers, is_nothing, greedy, IsInOrder, Split, Tree, Mesh, class_of, map-map, map-append, length-map, get_or-map, recursion_from_All, AllByRecursion, Found, walks_found, comes_no_later, map-set, Signed, independent_of, signatures, stands_before, greedy_mapped, IsFound, found_of, told_of, told_by}
use Rattle.std.specs.List.{swap}
use Rattle.std.specs.List.Sorted.{apply_swaps, SwapsInRange}

-- ---- elements that change places with their images

mapped_swap : {A B : Type 0} (f : A → B) (xs : List A) (i j : ℕ) → map f (swap xs i j) ≡ swap (map f xs) i j
mapped_swap f [] i j = refl
mapped_swap f (x ∷ xs) i j =
    map-set f (set (x ∷ xs) i (get_or (x ∷ xs) j x)) j (get_or (x ∷ xs) i x)
    ∙ ap (λ ys. set ys j (f (get_or (x ∷ xs) i x))) (map-set f (x ∷ xs) i (get_or (x ∷ xs) j x)
    ∙ ap (set (f x ∷ map f xs) i) (sym (read f (x ∷ xs) j x)))
    ∙ ap (set (set (f x ∷ map f xs) i (get_or (f x ∷ map f xs) j (f x))) j) (sym (read f (x ∷ xs) i x))
  where
    read : {A B : Type 0} (f : A → B) (xs : List A) (k : ℕ) (d : A) → get_or (map f xs) k (f d) ≡ f (get_or xs k d)
    read f [] k d = refl
    read f (x ∷ xs) zero d = refl
    read f (x ∷ xs) (suc k) d = read f xs k d

mapped_swaps : {A B : Type 0} (f : A → B) (xs : List A) (ms : List (ℕ × ℕ)) →
    map f (apply_swaps xs ms) ≡ apply_swaps (map f xs) ms
mapped_swaps f xs [] = refl
mapped_swaps f xs (m ∷ ms) = mapped_swap f (apply_swaps xs ms) m.0 m.1 ∙ ap (λ ys. swap ys m.0 m.1) (mapped_swaps f xs ms)

module _ (mesh : Mesh) (d : Split) where
  abbrev Tells : List Found → List Signed → Type 0
  Tells loops kept = map (told_of mesh d) loops ≡ map told_by kept

  abbrev class : Found → ℕ
  class k = class_of mesh d k.walk

  pub tells_sizes : (loops : List Found) (kept : List Signed) → Tells loops kept →
      map (λ k. k.size) loops ≡ map (λ c. c.candidate.length) kept
  tells_sizes loops kept h = sym (map-map (λ (t : ℕ × (ℕ × ℕ)). t.0) (told_of mesh d) loops)
      ∙ ap (map (λ (t : ℕ × (ℕ × ℕ)). t.0)) h ∙ map-map (λ (t : ℕ × (ℕ × ℕ)). t.0) told_by kept

  pub tells_classes : (loops : List Found) (kept : List Signed) → Tells loops kept → map class loops ≡ signatures kept
  tells_classes loops kept h = sym (map-map (λ (t : ℕ × (ℕ × ℕ)). t.1.1) (told_of mesh d) loops)
      ∙ ap (map (λ (t : ℕ × (ℕ × ℕ)). t.1.1)) h ∙ map-map (λ (t : ℕ × (ℕ × ℕ)). t.1.1) told_by kept

  pub tells_walks : (loops : List Found) (kept : List Signed) → Tells loops kept →
      map (class_of mesh d) (walks_found loops) ≡ signatures kept
  tells_walks loops kept h = map-map (class_of mesh d) (λ (k : Found). k.walk) loops ∙ tells_classes loops kept h

  pub tells_long : (loops : List Found) (kept : List Signed) → Tells loops kept → length loops ≡ length kept
  tells_long loops kept h =
      sym (length-map loops (told_of mesh d)) ∙ ap length h ∙ length-map kept told_by

  -- a candidate that tells of a loop
  pub signed_of : Found → Signed
  signed_of k = record { candidate = record { length = k.size; base = k.through; edge = 0 }; from = 0; signature = class k }

  pub tells_at : (loops : List Found) (kept : List Signed) → Tells loops kept → (i : ℕ) (k : Found) → i < length loops →
      told_of mesh d (get_or loops i k) ≡ told_by (get_or kept i (signed_of k))
  unfolding signed_of
  tells_at loops kept h i k l =
      let i_in : i < length kept = (let n = tells_long loops kept h in omega (arith, l, n)) in
      sym (get_or-map (told_of mesh d) loops i k (told_of mesh d k) l)
      ∙ ap (λ ts. get_or ts i (told_of mesh d k)) h ∙ get_or-map told_by kept i (signed_of k) (told_of mesh d k) i_in

  pub tells_order : (loops : List Found) (kept : List Signed) → Tells loops kept → IsInOrder stands_before kept →
      IsInOrder comes_no_later loops
  tells_order loops kept h order i j k before l =
      let n = tells_long loops kept h in
      let at = tells_at loops kept h i k (omega (arith, before, l)) in
      let there = tells_at loops kept h j k l in
      (λ t. nat_lt_or (at t) (there t)) ∙ order i j (signed_of k) before (omega (arith, l, n))
    where
      nat_lt_or : ℕ × (ℕ × ℕ) → ℕ × (ℕ × ℕ) → Bool
      nat_lt_or a b = comes_no_later (record { size = a.0; through = a.1.0; walk = [] }) (record { size = b.0; through = b.1.0; walk = [] })

  -- the choice among loops is that among what tells of them
  pub tells_chosen : (loops : List Found) (cs : List Signed) → Tells loops cs →
      Tells (greedy numbers is_nothing class loops) (independent_of cs)
  tells_chosen loops cs h =
      sym (greedy_mapped class (told_of mesh d) (λ (t : ℕ × (ℕ × ℕ)). t.1.1) [] loops
      (recursion_from_All (λ k. class k ≡ (told_of mesh d k).1.1) loops (λ i k l. refl)))
      ∙ ap (greedy numbers is_nothing (λ (t : ℕ × (ℕ × ℕ)). t.1.1)) h
      ∙ greedy_mapped (λ (c : Signed). c.signature) told_by (λ (t : ℕ × (ℕ × ℕ)). t.1.1) [] cs
      (recursion_from_All (λ c. c.signature ≡ (told_by c).1.1) cs (λ i c l. refl))

  -- loops in the order of what tells of them
  pub record AreTurned (front back : List Found) (cs : List Signed) : Type 0 where
    pub all : List Found
    pub same : IsPermutation (front ++ back) all
    pub tells : Tells all cs

  pub turned : (front back : List Found) (kept list cs : List Signed) → Tells front kept → Tells back list →
      IsPermutation (kept ++ list) cs → AreTurned front back cs
  turned front back kept list cs h k p =
      let both : map (told_of mesh d) (front ++ back) ≡ map told_by (kept ++ list) = map-append (told_of mesh d) front back
      ∙ (λ t. h t ++ k t) ∙ sym (map-append told_by kept list) in
      let long : length (kept ++ list) ≡ length (front ++ back) = sym (length-map (kept ++ list) told_by)
      ∙ ap length (sym both) ∙ length-map (front ++ back) (told_of mesh d) in record {
        all = apply_swaps (front ++ back) p.moves;
        same = record { moves = p.moves; below = subst (λ n. SwapsInRange n p.moves) long p.below; is = refl };
        tells = mapped_swaps (told_of mesh d) (front ++ back) p.moves ∙ ap (λ ts. apply_swaps ts p.moves) both
            ∙ sym (mapped_swaps told_by (kept ++ list) p.moves) ∙ ap (map told_by) (sym p.is);
      }

  -- loops that a search found
  pub founds_told : (lengths : List ℕ) (trees : ℕ → Tree) (cs : List Signed) → All (IsFound mesh lengths trees d) cs →
      Tells (map (found_of mesh trees) cs) cs
  founds_told lengths trees cs h = of cs (recursion_from_All (IsFound mesh lengths trees d) cs h)
    where
      of : (cs : List Signed) → AllByRecursion (IsFound mesh lengths trees d) cs → Tells (map (found_of mesh trees) cs) cs
      of [] h = refl
      of (c ∷ cs) h =
          ap (λ v. (c.candidate.length, (c.candidate.base, v)) ∷ map (told_of mesh d) (map (found_of mesh trees) cs))
          (sym h.0.signature) ∙ ap (λ ts. told_by c ∷ ts) (of cs h.1)
