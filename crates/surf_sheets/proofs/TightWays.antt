-- Walks of a graph that are just as long as they must be, and the least nodes on them.
use Rattle.surf_surfaces.proofs.Common.{◌≡◌, ℕ, ◌+◌, ◌<◌, ◌≤◌, ◌⊎◌, true, false, List, [], ◌∷◌, ◌++◌, refl, sym, ap, ◌∙◌, subst, arith, inl, inr, AllByRecursion, cases_Bool, cases_lt, false≢true, xor, odd_below-none, Chain, Graph, IsGraphWalk, IsJoined, edge_between, walk_chain, graph_walk_length}
use Rattle.surf_graphs.proofs.Graphs.{edge_between_is}
use Rattle.surf_graphs.proofs.Trees.{one_of}
use Rattle.surf_sheets.proofs.Oddness.{odd_in, odd_step}
use Rattle.surf_sheets.proofs.Ways.{HasSlack, step_slack, walk_slack}

-- along an edge by the whole length of which the distance rises, the bound doesn't rise
abbrev pub HasBounds : Graph → (ℕ → ℕ) → (ℕ → ℕ) → (ℕ → ℕ) → Type 0
HasBounds g len far least = (e : ℕ) → e < g.edges →
    (far (g.to e) ≡ far (g.from e) + len e → least (g.to e) ≤ least (g.from e))
    × (far (g.from e) ≡ far (g.to e) + len e → least (g.from e) ≤ least (g.to e))

-- a way over an edge is just as long as it must be, and both ends are bounded
pub record IsJust (margin need way bound one other : ℕ) : Type 0 where
  pub none : margin ≡ 0
  pub same : need ≡ way
  pub first_low : bound ≤ one
  pub second_low : bound ≤ other

-- the end of the first of two walks is a node of both together
pub end_passes : (g : Graph) (P : ℕ → Type 0) (x : ℕ) (u v : List ℕ) (a : ℕ) → IsGraphWalk g x u a →
    AllByRecursion P (x ∷ (u ++ v)) → P a
end_passes g P x [] v a walk all = subst P walk all.0
end_passes g P x (c ∷ u) v a walk all = end_passes g P c u v a walk.1 all.1

module _ (g : Graph) (len far least : ℕ → ℕ) (slack : HasSlack g len far)
    (own : (v : ℕ) → v < g.nodes → least v ≤ v) (bounds : HasBounds g len far least) where
  step_bounds : (a c : ℕ) → IsJoined g a c →
      (far c ≡ far a + len (edge_between g a c) → least c ≤ least a)
      × (far a ≡ far c + len (edge_between g a c) → least a ≤ least c)
  step_bounds a c joined =
      let m = edge_between g a c in
      let is = edge_between_is g a c joined in
      let both = bounds m is.0 in
      elim (one_of g a c m is.1) [
        | inl at ↦ turned (g.from m) (g.to m) a c at.0 at.1 both.0 both.1
        | inr at ↦ turned (g.to m) (g.from m) a c at.1 at.0 both.1 both.0
      ]
    where
      turned : (u v a c : ℕ) → u ≡ a → v ≡ c → (far v ≡ far u + len (edge_between g a c) → least v ≤ least u) →
          (far u ≡ far v + len (edge_between g a c) → least u ≤ least v) →
          (far c ≡ far a + len (edge_between g a c) → least c ≤ least a)
          × (far a ≡ far c + len (edge_between g a c) → least a ≤ least c)
      turned u v a c one two there back =
          let f_one : far u ≡ far a = ap far one in
          let f_two : far v ≡ far c = ap far two in
          let l_one : least u ≡ least a = ap least one in
          let l_two : least v ≡ least c = ap least two in (
            (λ h. let low = there (omega (arith, h, f_one, f_two)) in omega (arith, low, l_one, l_two)),
            (λ h. let low = back (omega (arith, h, f_one, f_two)) in omega (arith, low, l_one, l_two)),
          )

  -- a walk along which the distance falls by its whole length has no node below the bound of its first
  all_low : (bound c : ℕ) (w : List ℕ) (b : ℕ) → IsGraphWalk g c w b → AllByRecursion (λ n. n < g.nodes) (c ∷ w) →
      far c ≡ far b + graph_walk_length g len c w → bound ≤ least c → AllByRecursion (λ y. bound ≤ y) (c ∷ w)
  all_low bound c [] b walk inside tight low = let mine = own c inside.0 in (omega arith, tt)
  all_low bound c (e ∷ w) b walk inside tight low =
      let mine = own c inside.0 in
      let step = (step_slack g len far slack c e walk.0).0 in
      let rest = walk_slack g len far slack e w b walk.1 in
      let falls = (step_bounds c e walk.0).1 (omega (arith, step, rest, tight)) in
      (omega arith, all_low bound e w b walk.1 inside.1 (omega (arith, step, rest, tight)) (omega (arith, falls, low)))

  module _ (set : Chain) (need margin bound : ℕ)
      (each : (e : ℕ) → e < g.edges → set e ≡ true → (need < far (g.from e) + len e + far (g.to e))
      ⊎ IsJust margin need (far (g.from e) + len e + far (g.to e)) bound (least (g.from e)) (least (g.to e))) where
    -- a walk is just as long as it must be, and has no node below the bound
    pub record IsJustWalk (a : ℕ) (w : List ℕ) (b : ℕ) : Type 0 where
      pub none : margin ≡ 0
      pub same : need ≡ far a + graph_walk_length g len a w + far b
      pub low : bound ≤ least a
      pub all : AllByRecursion (λ y. bound ≤ y) (a ∷ w)

    step_past : (a c : ℕ) → IsJoined g a c → set (edge_between g a c) ≡ true →
        (need < far a + len (edge_between g a c) + far c)
        ⊎ IsJust margin need (far a + len (edge_between g a c) + far c) bound (least a) (least c)
    step_past a c joined on =
        let m = edge_between g a c in
        let is = edge_between_is g a c joined in
        elim (one_of g a c m is.1) [
          | inl at ↦
              let tail : far (g.from m) ≡ far a = ap far at.0 in
              let head : far (g.to m) ≡ far c = ap far at.1 in
              let low_tail : least (g.from m) ≡ least a = ap least at.0 in
              let low_head : least (g.to m) ≡ least c = ap least at.1 in
              elim (each m is.0 on) [
                | inl more ↦ inl (omega (arith, more, tail, head))
                | inr just ↦ inr (record {
                  none = just.none;
                  same = let is_just = just.same in omega (arith, is_just, tail, head);
                  first_low = let l = just.first_low in omega (arith, l, low_tail);
                  second_low = let l = just.second_low in omega (arith, l, low_head);
                })
              ]
          | inr at ↦
              let tail : far (g.from m) ≡ far c = ap far at.0 in
              let head : far (g.to m) ≡ far a = ap far at.1 in
              let low_tail : least (g.from m) ≡ least c = ap least at.0 in
              let low_head : least (g.to m) ≡ least a = ap least at.1 in
              elim (each m is.0 on) [
                | inl more ↦ inl (omega (arith, more, tail, head))
                | inr just ↦ inr (record {
                  none = just.none;
                  same = let is_just = just.same in omega (arith, is_just, tail, head);
                  first_low = let l = just.second_low in omega (arith, l, low_head);
                  second_low = let l = just.first_low in omega (arith, l, low_tail);
                })
              ]
        ]

    -- a walk that is odd on the set is longer than it must be, or just as long
    pub walk_past : (a : ℕ) (w : List ℕ) (b : ℕ) → IsGraphWalk g a w b → AllByRecursion (λ n. n < g.nodes) (a ∷ w) →
        odd_in g.edges set (walk_chain g a w) ≡ true →
        (need < far a + graph_walk_length g len a w + far b) ⊎ IsJustWalk a w b
    walk_past a [] b walk inside on =
        absurd (false≢true (sym (odd_below-none g.edges (λ e. false) (λ e l. refl)) ∙ on))
    walk_past a (c ∷ w) b walk inside on = elim (cases_Bool (set (edge_between g a c))) [
      | inl here_on ↦
          let rest = walk_slack g len far slack c w b walk.1 in
          elim (step_past a c walk.0 here_on) [
            | inl more ↦ inl (omega (arith, more, rest))
            | inr just ↦
                let is_just = just.same in
                elim (cases_lt (far c) (far b + graph_walk_length g len c w)) [
                  | inl less ↦ inl (omega (arith, is_just, less))
                  | inr no_less ↦
                      let low = just.first_low in
                      let mine = own a inside.0 in
                      inr (record {
                        none = just.none;
                        same = omega (arith, is_just, rest, no_less);
                        low = low;
                        all = (
                          omega (arith, low, mine),
                          all_low bound c w b walk.1 inside.1 (omega (arith, rest, no_less)) just.second_low,
                        );
                      })
                ]
          ]
      | inr off ↦
          let later : odd_in g.edges set (walk_chain g c w) ≡ true =
          ap (λ t. xor t (odd_in g.edges set (walk_chain g c w))) (sym off) ∙ sym (odd_step g set a c w walk.0) ∙ on in
          let step = (step_slack g len far slack a c walk.0).1 in
          elim (walk_past c w b walk.1 inside.1 later) [
            | inl more ↦ inl (omega (arith, more, step))
            | inr just ↦
                let is_just = just.same in
                elim (cases_lt (far c) (far a + len (edge_between g a c))) [
                  | inl less ↦ inl (omega (arith, is_just, less))
                  | inr no_less ↦
                      let falls = (step_bounds a c walk.0).0 (omega (arith, step, no_less)) in
                      let low = just.low in
                      let mine = own a inside.0 in
                      inr (record {
                        none = just.none;
                        same = omega (arith, is_just, step, no_less);
                        low = omega (arith, falls, low);
                        all = (omega (arith, falls, low, mine), just.all);
                      })
                ]
          ]
    ]
