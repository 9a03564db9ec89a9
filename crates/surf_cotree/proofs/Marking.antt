-- A search that marks edges has tables.
use Rattle.surf_cotree.proofs.Common.{ℕ, ◌<◌, ◌≤◌, ◌≡◌, ◌≢◌, ◌+◌, ◌-◌, refl, sym, ap, ◌∙◌, subst, arith, inl, inr, List, length, set, replicate, None, Bool, true, false, not, ◌&&◌, eqb, ne_eqb, get_or-set_same, get_or-set_other, length-set, length-replicate, cases_eq, cases_Bool, and_parts, false≢true, get_or-replicate, count_below, Graph, IsGraph, joins, one_of, Entries, IsLeastEntry, IsEmpty, nobody, at, heaviest, flag, outside, reached, spanned_tree, IsOffered, IsWaiting, leads_up, IsMarking}
use Rattle.surf_cotree.proofs.Growing.{first_count, first_only, prim_begins, depth_fits, turn_keeps}
use Rattle.surf_cotree.proofs.Hanging.{other_end}
use Rattle.surf_cotree.proofs.Leaves.{outside_set}
use Rattle.surf_cotree.proofs.Marks.{up_found, marks_set, marks_first, unmarked_allowed, allowed_unmarked}

joined_in : (g : Graph) → IsGraph g → (v w e : ℕ) → e < g.edges → joins g v w e ≡ true → w < g.nodes
joined_in g graph v w e le join = elim (one_of g v w e join) [
  | inl (_, to_w) ↦ subst (λ x. x < g.nodes) to_w (graph e le).1
  | inr (from_w, _) ↦ subst (λ x. x < g.nodes) from_w (graph e le).0
]

-- what is offered by marks and flags is what is offered by tables
offered_over : (g : Graph) → IsGraph g → (allowed free : ℕ → Bool) (weight : ℕ → ℕ) (seen there : ℕ → Bool) (v : ℕ) (old new : Entries) →
    ((w : ℕ) → w < g.nodes → seen w ≡ there w) → ((e : ℕ) → free e ≡ true → allowed e ≡ true) → ((w e : ℕ) → e < g.edges → allowed e ≡ true → joins g v w e ≡ true → there w ≡ false → free e ≡ true) →
    IsOffered g free weight seen v old new → IsOffered g allowed weight there v old new
offered_over g graph allowed free weight seen there v old new same fewer more done = record {
  same_length = done.same_length;
  came = λ w k t h. elim (done.came w k t h) [
    | inl was ↦ inl was
    | inr (lw, out, (e, b)) ↦ inr (
      lw,
      sym (same w lw) ∙ out,
      (e, record { edge_in = b.edge_in; allowed_edge = fewer e b.allowed_edge; joined = b.joined; key_is = b.key_is; tie_is = b.tie_is }),
    )
  ];
  kept = done.kept;
  offered = λ w e le al join out. done.offered w e le (more w e le al join out) join (same w (joined_in g graph v w e le join) ∙ out);
}

-- before the first edge is taken
pub marking_begins : (g : Graph) (weight : ℕ → ℕ) → IsGraph g → g.edges ≤ nobody → ((e : ℕ) → weight e ≤ heaviest) → (marks fresh : List Bool) (old new : Entries) → 0 < g.nodes → length fresh ≡ g.nodes → ((f : ℕ) → f < g.nodes → flag fresh f ≡ false) → IsEmpty old → length old ≡ g.nodes →
    IsOffered g (outside marks) weight (flag (set fresh 0 true)) 0 old new → IsMarking g (outside marks) weight marks (set fresh 0 true) new
marking_begins g weight graph few light marks fresh old new some long none empty places done =
    let table : List ℕ = replicate g.nodes nobody in
    let depth : List ℕ = set table 0 0 in
    let many : length table ≡ g.nodes = length-replicate g.nodes nobody in
    let deep : length depth ≡ g.nodes = length-set table 0 0 ∙ many in
    let all : (f : ℕ) → f < g.nodes → at table f ≡ nobody = λ f l. get_or-replicate g.nodes f nobody 0 l in
    let zero_depth : at depth 0 ≡ 0 = get_or-set_same table 0 0 0 (omega arith) in
    let first : reached depth 0 ≡ true = ap (λ d. not (eqb d nobody)) zero_depth in
    let same : (w : ℕ) → w < g.nodes → flag (set fresh 0 true) w ≡ reached depth w = λ w l. elim (cases_eq w 0) [
      | inl is ↦ ap (flag (set fresh 0 true)) is ∙ (get_or-set_same fresh 0 true false (omega arith) ∙ sym (ap (reached depth) is ∙ first))
      | inr ne ↦ get_or-set_other fresh 0 w true false ne ∙ (none w l ∙ sym (ap (λ d. not (eqb d nobody)) (get_or-set_other table 0 w 0 0 ne ∙ all w l)))
    ] in
    let shallow : at depth 0 + count_below g.nodes (λ v. eqb (at depth v) nobody) < g.nodes = let l = first_count g.nodes table some (sym many) all in omega (arith, l, zero_depth) in
    record {
      parent = table;
      up = table;
      depth = depth;
      parents = many;
      ups = many;
      depths = deep;
      places = done.same_length ∙ places;
      root = all 0 some;
      free = λ f l out. all f l;
      flags = same;
      prim = prim_begins g (outside marks) weight graph few light (reached depth) (spanned_tree 0 table table depth) old new _ some first (first_only g.nodes table all) zero_depth shallow empty
          (offered_over g graph (outside marks) (outside marks) weight (flag (set fresh 0 true)) (reached depth) 0 old new same (λ e h. h) (λ w e le al join out. al) done);
      marked = marks_first g.nodes table marks all;
    }

module _ (g : Graph) (allowed : ℕ → Bool) (weight : ℕ → ℕ) (graph : IsGraph g) (few : g.edges ≤ nobody) (light : (e : ℕ) → weight e ≤ heaviest) (small : g.nodes ≤ nobody)
    (marks there : List Bool) (heap : Entries) (s : IsMarking g allowed weight marks there heap) (f k t : ℕ) (least : IsLeastEntry heap f k t) where
  abbrev w : IsWaiting g allowed weight (reached s.depth) f k t
  w = s.prim.waiting f k t least.holds

  pub face_in : f < g.nodes
  face_in = w.within

  -- the edge of the entry
  pub edge_in : nobody - t < g.edges
  edge_in = let l = w.bridge.edge_in in let is = w.bridge.tie_is in omega arith

  edge_is : nobody - t ≡ w.edge
  edge_is = let is = w.bridge.tie_is in omega arith

  pub not_there : outside there f ≡ true
  not_there = ap not (s.flags f w.within ∙ w.free)

  -- the ends of an edge that leads up are reached
  closed : (e : ℕ) → leads_up g.nodes s.up e ≡ true → (a b : ℕ) → joins g a b e ≡ true → reached s.depth b ≡ true
  closed e on a b join =
      let (u, lu, some, same) = up_found g.nodes s.up e on in
      let ru : reached s.depth u ≡ true = elim (cases_Bool (reached s.depth u)) [
        | inl here ↦ here
        | inr out ↦ absurd (some (s.free u lu out))
      ] in
      let ne : u ≢ 0 = λ is. some (ap (at s.up) is ∙ s.root) in
      let above : reached s.depth (at s.parent u) ≡ true = (s.prim.grown.inside u lu ru ne).1 in
      elim (other_end g u (at s.parent u) a b e (subst (λ x. joins g u (at s.parent u) x ≡ true) same (s.prim.grown.joined u lu ru ne)) join) [
        | inl (_, is) ↦ ap (reached s.depth) is ∙ above
        | inr (_, is) ↦ ap (reached s.depth) is ∙ ru
      ]

  abbrev d : ℕ
  d = at s.depth w.before + 1

  abbrev deeper : List ℕ
  deeper = set s.depth f d

  d_some : d ≢ nobody
  d_some = let fits = depth_fits g allowed weight graph few light small 0 s.parent s.up s.depth heap f k t s.parents s.ups s.depths s.prim least in omega arith

  here : reached deeper f ≡ true
  here = ap (λ x. not (eqb x nobody)) (get_or-set_same s.depth f d 0 (let l = w.within in let long = s.depths in omega arith)) ∙ ap not (ne_eqb d nobody d_some)

  elsewhere : (v : ℕ) → v ≢ f → reached deeper v ≡ reached s.depth v
  elsewhere v ne = ap (λ x. not (eqb x nobody)) (get_or-set_other s.depth f v d 0 ne)

  stays : (v : ℕ) → reached s.depth v ≡ true → reached deeper v ≡ true
  stays v rv = elsewhere v (λ is. false≢true (sym w.free ∙ (ap (reached s.depth) (sym is) ∙ rv))) ∙ rv

  module _ (mid new : Entries) (wide : length marks ≡ g.edges) (all : length there ≡ g.nodes) (took : mid ≡ set heap f None)
      (done : IsOffered g (outside (set marks (nobody - t) true)) weight (flag (set there f true)) f mid new) where
    abbrev x : ℕ
    x = nobody - t

    unmarked : (e : ℕ) → outside (set marks x true) e ≡ (outside marks e && not (eqb e x))
    unmarked e = outside_set marks x e (let l = edge_in in omega arith)

    same : (v : ℕ) → v < g.nodes → flag (set there f true) v ≡ reached deeper v
    same v l = elim (cases_eq v f) [
      | inl is ↦ ap (flag (set there f true)) is ∙ (get_or-set_same there f true false (let lf = w.within in omega arith) ∙ sym (ap (reached deeper) is ∙ here))
      | inr ne ↦ get_or-set_other there f v true false ne ∙ (s.flags v l ∙ sym (elsewhere v ne))
    ]

    fewer : (e : ℕ) → outside (set marks x true) e ≡ true → allowed e ≡ true
    fewer e h = unmarked_allowed g.nodes allowed s.up marks s.marked e (and_parts (outside marks e) (not (eqb e x)) (sym (unmarked e) ∙ h)).0

    more : (v e : ℕ) → e < g.edges → allowed e ≡ true → joins g f v e ≡ true → reached deeper v ≡ false → outside (set marks x true) e ≡ true
    more v e le al join out = elim (cases_eq e x) [
      | inl is ↦ elim (other_end g f w.before f v e (subst (λ y. joins g f w.before y ≡ true) (sym (is ∙ edge_is)) w.bridge.joined) join) [
        | inl (_, v_is) ↦ absurd (false≢true (sym out ∙ (ap (reached deeper) v_is ∙ stays w.before w.before_reached)))
        | inr (f_is, _) ↦ absurd (false≢true (sym w.free ∙ (ap (reached s.depth) f_is ∙ w.before_reached)))
      ]
      | inr ne ↦ elim (cases_Bool (leads_up g.nodes s.up e)) [
        | inl on ↦ absurd (false≢true (sym out ∙ stays v (closed e on f v join)))
        | inr off ↦
            let free : outside marks e ≡ true = allowed_unmarked g.nodes allowed s.up marks s.marked e al off in
            unmarked e ∙ rw (free, ne_eqb e x ne)
      ]
    ]

    -- one turn of the search
    pub marking_goes_on : IsMarking g allowed weight (set marks x true) (set there f true) new
    marking_goes_on =
        let lf : f < g.nodes = w.within in
        let lu : f < length s.up = let long = s.ups in omega arith in
        let out : at s.up f ≡ nobody = s.free f w.within w.free in
        let some : x ≢ nobody = let l = edge_in in omega arith in
        let apart : 0 ≢ f = λ is. false≢true (sym w.free ∙ (ap (reached s.depth) (sym is) ∙ s.prim.grown.root_reached)) in
        record {
          parent = set s.parent f w.before;
          up = set s.up f x;
          depth = deeper;
          parents = length-set s.parent f w.before ∙ s.parents;
          ups = length-set s.up f x ∙ s.ups;
          depths = length-set s.depth f d ∙ s.depths;
          places = done.same_length ∙ (ap length took ∙ (length-set heap f None ∙ s.places));
          root = get_or-set_other s.up f 0 x 0 apart ∙ s.root;
          free = λ v l away. elim (cases_eq v f) [
            | inl is ↦ absurd (false≢true (sym away ∙ (ap (reached deeper) is ∙ here)))
            | inr ne ↦ get_or-set_other s.up f v x 0 ne ∙ s.free v l (sym (elsewhere v ne) ∙ away)
          ];
          flags = same;
          prim = turn_keeps g allowed weight graph few light small 0 s.parent s.up s.depth heap f k t s.parents s.ups s.depths s.prim least w.before x d mid new refl edge_is refl took
              (offered_over g graph allowed (outside (set marks x true)) weight (flag (set there f true)) (reached deeper) f mid new same fewer more done);
          marked = marks_set g.nodes s.up f x lf lu out some allowed marks (let l = edge_in in omega arith) s.marked;
        }
