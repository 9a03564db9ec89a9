-- Labels that vertices share.
use Rattle.surf_surfaces.proofs.Common.{◌≡◌, ◌≢◌, ℕ, zero, suc, ◌<◌, ◌++◌, List, [], ◌∷◌, length, map, get_or, set, replicate, refl, sym, ap, ◌∙◌, subst, arith, inl, inr, Option, Some, None, cases_eq, eq-eqb, ne_eqb, get_or_append_left, get_or-map}
use Rattle.surf_base.specs.Tables.{at, nobody}
use Rattle.surf_sheetcheck.specs.Labels.{shared_label, AreShared}

pub map_set : {X Y : Type 0} (f : X → Y) (xs : List X) (k : ℕ) (x : X) → map f (set xs k x) ≡ set (map f xs) k (f x)
map_set f [] k x = refl
map_set f (y ∷ ys) zero x = refl
map_set f (y ∷ ys) (suc k) x = ap (λ zs. f y ∷ zs) (map_set f ys k x)

pub map_replicate : {X Y : Type 0} (f : X → Y) (n : ℕ) (x : X) → map f (replicate n x) ≡ replicate n (f x)
map_replicate f zero x = refl
map_replicate f (suc n) x = ap (λ zs. f x ∷ zs) (map_replicate f n x)

-- two lists of rows that agree where the numbers are
pub same_shared : (ids rows others : List ℕ) →
    ((v : ℕ) → v < length ids → shared_label rows (at ids v) ≡ shared_label others (at ids v)) →
    map (shared_label rows) ids ≡ map (shared_label others) ids
same_shared [] rows others same = refl
same_shared (id ∷ ids) rows others same =
    ap (λ x. x ∷ map (shared_label rows) ids) (same zero (omega arith))
    ∙ ap (λ xs. shared_label others id ∷ xs) (same_shared ids rows others (λ v l. same (suc v) (omega (arith, l))))

-- no number is nobody, or the rows that are added behind don't matter
pub pushed : (ids rows : List ℕ) (x : ℕ) → AreShared ids rows →
    map (shared_label (rows ++ x ∷ [])) ids ≡ map (shared_label rows) ids
pushed ids rows x shared = same_shared ids (rows ++ x ∷ []) rows (λ v l. elim (cases_eq (at ids v) nobody) [
  | inl none ↦ rw (eq-eqb (at ids v) nobody none) refl
  | inr some ↦ rw (ne_eqb (at ids v) nobody some) (ap Some (get_or_append_left rows (x ∷ []) 0 (at ids v) (shared v l some)))
])

-- the label of a new row
pub new_row : (rows : List ℕ) (x : ℕ) → length rows ≢ nobody → shared_label (rows ++ x ∷ []) (length rows) ≡ Some x
new_row rows x few = rw (ne_eqb (length rows) nobody few) (ap Some (last rows))
  where
    last : (ys : List ℕ) → get_or (ys ++ x ∷ []) (length ys) 0 ≡ x
    last [] = refl
    last (y ∷ ys) = last ys

pub put_is : (ids rows : List ℕ) (v x : ℕ) → AreShared ids rows → length rows ≢ nobody →
    map (shared_label (rows ++ x ∷ [])) (set ids v (length rows)) ≡ set (map (shared_label rows) ids) v (Some x)
put_is ids rows v x shared few =
    map_set (shared_label (rows ++ x ∷ [])) ids v (length rows)
    ∙ ap (λ xs. set xs v (shared_label (rows ++ x ∷ []) (length rows))) (pushed ids rows x shared)
    ∙ ap (set (map (shared_label rows) ids) v) (new_row rows x few)

pub share_is : (ids rows : List ℕ) (v u : ℕ) → u < length ids →
    map (shared_label rows) (set ids v (at ids u))
    ≡ set (map (shared_label rows) ids) v (get_or (map (shared_label rows) ids) u None)
share_is ids rows v u l =
    map_set (shared_label rows) ids v (at ids u)
    ∙ ap (set (map (shared_label rows) ids) v) (sym (get_or-map (shared_label rows) ids u 0 None l))

is_none : Option ℕ → Type 0
is_none None = Unit {0}
is_none (Some x) = ⊥

some_none : (x : ℕ) → ◌≡◌ {A = Option ℕ} (Some x) None → ⊥
unfolding is_none
some_none x e = subst is_none (sym e) tt

-- where no vertex has a label the rows don't matter
pub no_label : (ids rows : List ℕ) (v : ℕ) → v < length ids → get_or (map (shared_label rows) ids) v None ≡ None →
    at ids v ≡ nobody
no_label ids rows v l none = elim (cases_eq (at ids v) nobody) [
  | inl is ↦ is
  | inr some ↦
      let there : shared_label rows (at ids v) ≡ Some (at rows (at ids v)) = rw (ne_eqb (at ids v) nobody some) refl in
      absurd (some_none (at rows (at ids v)) (sym there ∙ sym (get_or-map (shared_label rows) ids v 0 None l) ∙ none))
]

pub forgotten : (ids rows others : List ℕ) → ((v : ℕ) → v < length ids → at ids v ≡ nobody) →
    map (shared_label rows) ids ≡ map (shared_label others) ids
forgotten ids rows others none = same_shared ids rows others (λ v l. rw (eq-eqb (at ids v) nobody (none v l)) refl)
