-- Sets of edges by their numbers, and lists of the edges outside them.
use Rattle.surf_surfaces.proofs.Common.{◌≡◌, ℕ, zero, suc, ◌<◌, inl, inr, sym, refl, subst, ap, ◌∙◌, cond, true, false, not, List, [], ◌∷◌, arith, ◌↔◌, cases_eq, cases_Bool, both_ways, Chain, Tree, tree_edges, cotree_edges, Mesh, pair, edge_count, ends, IsSurface, HasEdge}
use Rattle.surf_opening.specs.Laws.{TellsCut}
use Rattle.surf_opening.specs.Rim.{Among, along}
use Rattle.surf_opening.specs.Side.{Side}
use Rattle.surf_opening.specs.Uncut.{Uncut, CutEdge, AreEdges}
use Rattle.surf_opening.specs.Named.{IsTrimmedByGreatest, whole, leaf}
use Rattle.surf_opening.specs.ChosenCut.{AreDivided, full_cut, SameEdges, IsUncutEdge}
use Rattle.surf_opening.proofs.gluing.Cotrees.{ends_pair, uncut_among}
use Rattle.surf_opening.proofs.sides.Edges.{edge_of, face_of, edge_one}
use Rattle.surf_opening.proofs.sides.Polygons.{pair_among, among_pair}
use Rattle.surf_opening.proofs.openings.Slits.{uncut_cases}

-- the edges below a number that are not in the set
abbrev pub outside_below : Mesh → Chain → ℕ → List (ℕ × ℕ)
outside_below mesh cut zero = []
outside_below mesh cut (suc n) = cond (cut n) (outside_below mesh cut n) (ends mesh n ∷ outside_below mesh cut n)

abbrev pub outside : Mesh → Chain → List (ℕ × ℕ)
outside mesh cut = outside_below mesh cut (edge_count mesh)

has_outside : (mesh : Mesh) (cut : Chain) (n e : ℕ) → e < n → cut e ≡ false →
    Uncut (outside_below mesh cut n) (ends mesh e).0 (ends mesh e).1
has_outside mesh cut zero e h out = absurd (omega arith)
has_outside mesh cut (suc n) e h out = elim (cases_eq e n) [
  | inl same ↦ rw (sym (ap cut same) ∙ out)
      (subst (λ n. Uncut (ends mesh n ∷ outside_below mesh cut n) (ends mesh e).0 (ends mesh e).1) same
      (inl (along refl refl)))
  | inr differ ↦
      let rest = has_outside mesh cut n e (omega arith) out in
      elim (cases_Bool (cut n)) [
        | inl held ↦ rw held rest
        | inr free ↦ rw free (inr rest)
      ]
]

is_outside : (mesh : Mesh) (cut : Chain) (n v w : ℕ) → Uncut (outside_below mesh cut n) v w →
    (e : ℕ) × (e < n) × (cut e ≡ false) × Among (ends mesh e).0 (ends mesh e).1 v w
is_outside mesh cut zero v w u = elim u [ ]
is_outside mesh cut (suc n) v w u = elim (cases_Bool (cut n)) [
  | inl held ↦
      let rest = is_outside mesh cut n v w (rw held at u) in
      let h : rest.0 < n = rest.1 in
      (rest.0, omega arith, rest.2, rest.3)
  | inr free ↦
      let u' : Uncut (ends mesh n ∷ outside_below mesh cut n) v w = rw free at u in
      elim u' [
        | inl m ↦ (n, omega arith, free, m)
        | inr more ↦
            let rest = is_outside mesh cut n v w more in
            let h : rest.0 < n = rest.1 in
            (rest.0, omega arith, rest.2, rest.3)
      ]
]

module _ {mesh : Mesh} (surface : IsSurface mesh) where
  -- the list tells the set
  pub outside_told : (cut : Chain) → TellsCut mesh (outside mesh cut) cut
  outside_told cut e h = (
    (λ held u.
        let o = is_outside mesh cut (edge_count mesh) (ends mesh e).0 (ends mesh e).1 u in
        let same : o.0 ≡ e = edge_one mesh o.0 e o.1 h
        (sym (ends_pair surface o.0 o.1) ∙ pair_among o.3 ∙ ends_pair surface e h) in
        both_ways (cut e) (subst (λ e. cut e ≡ false) same o.2) held),
    (λ none. elim (cases_Bool (cut e)) [
      | inl held ↦ held
      | inr free ↦ absurd (none (has_outside mesh cut (edge_count mesh) e h free))
    ]),
  )

  -- a set that a list tells, by the ends of an edge
  module _ (uncut : List (ℕ × ℕ)) (cut : Chain) (told : TellsCut mesh uncut cut) where
    pub told_edge : (v w e : ℕ) → e < edge_count mesh → ends mesh e ≡ pair v w → cut e ≡ true →
        CutEdge (Side mesh) uncut v w
    told_edge v w e h is held =
        let f = face_of mesh e h in (
          f.0,
          (
            record { has = subst (λ p. HasEdge mesh f.0 p) is f.1 },
            λ u. (told e h).0 held (uncut_among surface uncut v w (ends mesh e).0 (ends mesh e).1 u
                (among_pair (sym is ∙ sym (ends_pair surface e h)))),
          ),
        )

    pub edge_told : (v w : ℕ) → CutEdge (Side mesh) uncut v w →
        (e : ℕ) × (e < edge_count mesh) × (ends mesh e ≡ pair v w) × (cut e ≡ true)
    edge_told v w c =
        let e = edge_of mesh c.0 (pair v w) c.1.0.has in (
          e.0,
          e.1,
          e.2,
          (told e.0 e.1).1 (λ u. c.1.1 (uncut_among surface uncut (ends mesh e.0).0 (ends mesh e.0).1 v w u
              (among_pair (ends_pair surface e.0 e.1 ∙ e.2)))),
        )

    -- which edges are uncut
    pub uncut_told : AreEdges (Side mesh) uncut → (v w : ℕ) → IsUncutEdge mesh cut v w ↔ Uncut uncut v w
    uncut_told are v w = (
      (λ u. elim (uncut_cases uncut v w) [
        | inl held ↦ held
        | inr none ↦ absurd (both_ways (cut u.0) u.3
            ((told u.0 u.1).1 (λ k. none (uncut_among surface uncut (ends mesh u.0).0 (ends mesh u.0).1 v w k
            (among_pair (ends_pair surface u.0 u.1 ∙ u.2))))))
      ]),
      (λ u.
          let f = side_of uncut are u in
          let e = edge_of mesh f.0 (pair v w) f.1.has in (
            e.0,
            e.1,
            e.2,
            elim (cases_Bool (cut e.0)) [
              | inr free ↦ free
              | inl held ↦ absurd ((told e.0 e.1).0 held
                  (uncut_among surface uncut v w (ends mesh e.0).0 (ends mesh e.0).1 u
                  (among_pair (sym e.2 ∙ sym (ends_pair surface e.0 e.1)))))
            ],
          )),
    )
      where
        side_at : {p q f : ℕ} → Side mesh f p q → Among p q v w → Side mesh f v w
        side_at {p} {q} {f} s m = record { has = subst (λ p. HasEdge mesh f p) (pair_among m) s.has }

        side_of : (uncut : List (ℕ × ℕ)) → AreEdges (Side mesh) uncut → Uncut uncut v w → (f : ℕ) × Side mesh f v w
        side_of [] are u = elim u [ ]
        side_of (s ∷ rest) are (inl m) = (are.0.0, side_at are.0.1 m)
        side_of (s ∷ rest) are (inr u) = side_of rest are.2 u

  -- trimming leaves more uncut
  pub trimmed_keeps : {list uncut : List (ℕ × ℕ)} → IsTrimmedByGreatest (Side mesh) list uncut → (v w : ℕ) →
      Uncut list v w → Uncut uncut v w
  trimmed_keeps whole v w u = u
  trimmed_keeps (leaf a p q trimmed r only greatest more) v w u = inr (trimmed_keeps trimmed v w u)

-- the full cut is what is outside the tree of faces
pub full_is : (mesh : Mesh) (tree cotree : Tree) → AreDivided mesh tree cotree → (e : ℕ) → e < edge_count mesh →
    full_cut mesh tree cotree e ≡ not (cotree_edges mesh cotree e)
full_is mesh tree cotree split e h = elim (cases_Bool (tree_edges mesh tree e)) [
  | inl held ↦ rw (held, split.apart e h held) refl
  | inr free ↦ rw free refl
]

-- a set with the same edges is told by the same list
pub same_told : (mesh : Mesh) (uncut : List (ℕ × ℕ)) (cut other : Chain) → SameEdges mesh cut other →
    TellsCut mesh uncut other → TellsCut mesh uncut cut
same_told mesh uncut cut other same told e h = (
  (λ held. (told e h).0 (sym (same e h) ∙ held)),
  (λ none. same e h ∙ (told e h).1 none),
)
