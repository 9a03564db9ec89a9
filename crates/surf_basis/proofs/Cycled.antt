-- Walks that cycles had before, for the loops that are still kept.
use Rattle.surf_basis.proofs.Common.{ArePutIn, Cycle, HaveWalks, cycle_with, cycles_with, ◌≡◌, ℕ, zero, suc, ◌<◌, ◌++◌, ◌∷◌, [], List, length, get_or, set, refl, sym, ap, ◌∙◌, subst, arith, inl, inr, All-contains, All-from_recursion, AllByRecursion, Contains, cases_eq, get_or-replicate, get_or-set_other, get_or_default, length-set, replicate, Mesh, Signed, AreWalksOf}
use Rattle.std.proofs.lemmas.List.Elements.{Contains-append_left, Contains-append_right}
use Rattle.surf_surfaces.proofs.Common.{get_or-set_same, length-replicate}
use Rattle.surf_finder.specs.Walks.{AreWrittenTo, IsLoopWalk}

module _ (cycles : List Cycle) (kept : List Signed) where
  -- at first no walk is there
  pub put_none : (walks : List (List ℕ)) → walks ≡ replicate (length kept) [] → ArePutIn cycles kept walks
  put_none walks none = record {
    count = ap (λ (ws : List (List ℕ)). length ws) none ∙ length-replicate (length kept) [];
    each = λ k s l. inl (ap (λ (ws : List (List ℕ)). get_or ws k []) none ∙ get_or-replicate (length kept) k [] [] l);
  }

  -- the walk of one of them is put at the place of its loop
  pub put_more : (k : ℕ) (s : Signed) (cycle : Cycle) (walks next : List (List ℕ)) → ArePutIn cycles kept walks → Contains cycles cycle →
      k < length kept → (get_or kept k s).candidate ≡ record { length = cycle.length; base = cycle.base; edge = cycle.edge } →
      next ≡ set walks k cycle.walk → ArePutIn cycles kept next
  put_more k s cycle walks next p has l is e = record {
    count = ap (λ (ws : List (List ℕ)). length ws) e ∙ length-set walks k cycle.walk ∙ p.count;
    each = λ j t j_in. elim (cases_eq j k) [
      | inl same ↦
          let inside : k < length walks = omega (arith, l, p.count) in
          let walk : get_or next j [] ≡ cycle.walk =
          ap (λ (ws : List (List ℕ)). get_or ws j []) e ∙ ap (λ n. get_or (set walks k cycle.walk) n []) same ∙ get_or-set_same walks k cycle.walk [] inside in
          let own : (get_or kept j t).candidate ≡ record { length = cycle.length; base = cycle.base; edge = cycle.edge } =
          ap (λ n. (get_or kept n t).candidate) same ∙ ap (λ (x : Signed). x.candidate) (get_or_default kept k t s l) ∙ is in
          let here : cycle_with (get_or kept j t, get_or next j []) ≡ cycle =
          λ i. record { base = (own i).base; edge = (own i).edge; length = (own i).length; walk = walk i } in
          inr (subst (Contains cycles) (sym here) has)
      | inr ne ↦
          let elsewhere : get_or next j [] ≡ get_or walks j [] =
          ap (λ (ws : List (List ℕ)). get_or ws j []) e ∙ get_or-set_other walks k j cycle.walk [] ne in
          elim (p.each j t j_in) [
            | inl none ↦ inl (elsewhere ∙ none)
            | inr in_list ↦ inr (subst (λ w. Contains cycles (cycle_with (get_or kept j t, w))) (sym elsewhere) in_list)
          ]
    ];
  }

  -- so each loop has its walk or none yet
  pub put_written : (mesh : Mesh) (lengths : List ℕ) (walks : List (List ℕ)) → HaveWalks mesh lengths cycles → ArePutIn cycles kept walks →
      AreWrittenTo mesh lengths kept 0 walks
  put_written mesh lengths walks have p = record {
    count = p.count;
    either = λ k s l. elim (p.each k s l) [
      | inl none ↦ inl none
      | inr has ↦ inr (All-contains (λ (c : Cycle). IsLoopWalk mesh lengths c.base c.edge c.walk) cycles (cycle_with (get_or kept k s, get_or walks k [])) have has)
    ];
    written = λ k s lt l. absurd (omega (arith, lt));
  }

-- of a list whose last one is taken off each one was there
pub last_off : (cycles rest : List Cycle) (last : Cycle) → cycles ≡ rest ++ last ∷ [] → ((c : Cycle) → Contains rest c → Contains cycles c) × Contains cycles last
last_off cycles rest last is = (
  λ c has. subst (λ cs. Contains cs c) (sym is) (Contains-append_left rest (last ∷ []) c has),
  subst (λ cs. Contains cs last) (sym is) (Contains-append_right rest (last ∷ []) last (0, omega arith, refl)),
)

-- candidates with the walks of their loops have these as cycles
each_walk : (mesh : Mesh) (lengths : List ℕ) (cs : List Signed) (walks : List (List ℕ)) → AreWalksOf mesh lengths cs walks →
    AllByRecursion (λ (c : Cycle). IsLoopWalk mesh lengths c.base c.edge c.walk) (cycles_with cs walks)
each_walk mesh lengths [] walks are = tt
each_walk mesh lengths (c ∷ cs) [] are = absurd (let none : zero ≡ suc (length cs) = are.count in omega (arith, none))
each_walk mesh lengths (c ∷ cs) (w ∷ ws) are = (
  are.each 0 c (omega arith),
  each_walk mesh lengths cs ws (record {
    count = let more : suc (length ws) ≡ suc (length cs) = are.count in omega (arith, more);
    each = λ k s l. are.each (suc k) s (omega (arith, l));
  }),
)

pub cycles_have : (mesh : Mesh) (lengths : List ℕ) (cs : List Signed) (walks : List (List ℕ)) → AreWalksOf mesh lengths cs walks →
    HaveWalks mesh lengths (cycles_with cs walks)
cycles_have mesh lengths cs walks are =
    All-from_recursion (λ (c : Cycle). IsLoopWalk mesh lengths c.base c.edge c.walk) (cycles_with cs walks) (each_walk mesh lengths cs walks are)
