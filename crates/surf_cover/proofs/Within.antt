-- Searches that go no farther than a radius: what is listed, and what they have reached at the end.
use Rattle.surf_cotree.proofs.Common.{ℕ, ◌<◌, ◌≤◌, ◌≡◌, ◌≢◌, ◌+◌, ◌*◌, ◌++◌, refl, sym, ap, ◌∙◌, arith, inl, inr, List, [], ◌∷◌, length, set, get_or-set_same, get_or-set_other, cases_eq, cases_lt, Graph, length-set, length-append, get_or_append_left, at, Entries}
use Rattle.surf_cover.proofs.Common.{longest, far, IsSearchable, IsSettled, IsSearch, all_or_none, ArePast, AreListed, IsReachedWithin}
use Rattle.std.proofs.lemmas.List.{get_or_at}

-- where nothing is settled, nothing is listed
pub none_listed : (distances settled : List ℕ) → ((n : ℕ) → n < length distances → at distances n ≡ far) →
    settled ≡ [] → AreListed distances settled
none_listed distances settled free none = record {
  inside = λ i l. let empty : length settled ≡ 0 = ap (λ (xs : List ℕ). length xs) none in absurd (omega arith);
  all = λ n l some. absurd (some (free n l));
}

-- one node more
pub one_listed : (distances settled : List ℕ) (v k : ℕ) → v < length distances → k ≢ far → AreListed distances settled →
    AreListed (set distances v k) (settled ++ v ∷ [])
one_listed distances settled v k v_in near are =
    let long : length (set distances v k) ≡ length distances = length-set distances v k in
    let more : length (settled ++ v ∷ []) ≡ length settled + 1 = length-append settled (v ∷ []) in
    let last : at (settled ++ v ∷ []) (length settled) ≡ v = get_or_at settled v [] 0 (length settled) refl in
    let here : at (set distances v k) v ≡ k = get_or-set_same distances v k 0 v_in in
    record {
      inside = λ i l. elim (cases_lt i (length settled)) [
        | inl before ↦
            let same : at (settled ++ v ∷ []) i ≡ at settled i = get_or_append_left settled (v ∷ []) 0 i before in
            let was = are.inside i before in
            let w = at settled i in
            let stays : at (set distances v k) w ≢ far = elim (cases_eq w v) [
              | inl is ↦ λ e. near (sym here ∙ ap (at (set distances v k)) (sym is) ∙ e)
              | inr ne ↦ λ e. was.1 (sym (get_or-set_other distances v w k 0 ne) ∙ e)
            ] in
            rw same (omega (arith, was.0, long), stays)
        | inr past ↦
            let is : i ≡ length settled = omega (arith, l, more, past) in
            let same : at (settled ++ v ∷ []) i ≡ v = ap (at (settled ++ v ∷ [])) is ∙ last in
            rw same (omega (arith, v_in, long), λ e. near (sym here ∙ e))
      ];
      all = λ n l some. elim (cases_eq n v) [
        | inl is ↦ (length settled, omega (arith, more), last ∙ sym is)
        | inr ne ↦
            let (i, i_in, there) = are.all n (omega (arith, l, long)) (λ e. some (get_or-set_other distances v n k 0 ne ∙ e)) in
            (i, omega (arith, i_in, more), get_or_append_left settled (v ∷ []) 0 i i_in ∙ there)
      ];
    }

-- where all entries that are left are past the radius, the search is done
pub within_ends : (g : Graph) (len : ℕ → ℕ) (base radius : ℕ) (dist : ℕ → ℕ) (heap : Entries) (last left : ℕ) →
    IsSearch g len base dist heap last left → last ≤ radius → ArePast radius heap → IsReachedWithin g len base radius dist
within_ends g len base radius dist heap last left s last_in past = record {
  at_base = elim s.base_first [
    | inl is ↦ is
    | inr (_, key) ↦
        let low : key.key ≤ 0 = key.bound in
        let high : radius < key.key = past base key.key key.tie key.entry in
        absurd (omega arith)
  ];
  within = λ u l settled. let low : dist u ≤ last = s.settled u l settled in omega arith;
  fits = s.fits;
  near = λ u w e lu lw le join settled reach. elim (cases_eq (dist w) far) [
    | inl free ↦
        let key = s.offered u w e lu lw le join settled free in
        let low : key.key ≤ dist u + len e = key.bound in
        let high : radius < key.key = past w key.key key.tie key.entry in
        absurd (omega arith)
    | inr some ↦ (some, s.near u w e lu lw le join settled some)
  ];
  tight = s.tight;
}

-- a radius that no distance exceeds lets all be settled
module _ (g : Graph) (len : ℕ → ℕ) (can : IsSearchable g len) (base radius : ℕ) (base_in : base < g.nodes) (dist : ℕ → ℕ)
    (reached : IsReachedWithin g len base radius dist) (far_off : g.nodes * longest ≤ radius) where
  pub all_reached : (u : ℕ) → u < g.nodes → dist u ≢ far
  all_reached =
      all_or_none g dist base can.is_graph can.connected base_in
      (λ none. let z : dist base ≡ 0 = reached.at_base in absurd (omega arith))
      (λ u w e lu lw le join settled.
      let room : dist u + longest ≤ g.nodes * longest = reached.fits u lu settled in
      let short : len e ≤ longest = can.short e in
      (reached.near u w e lu lw le join settled (omega arith)).0)

  pub within_all : IsSettled g len base dist
  within_all = record {
    at_base = reached.at_base;
    fits = λ u lu. reached.fits u lu (all_reached u lu);
    near = λ u w e lu lw le join.
        let settled = all_reached u lu in
        let room : dist u + longest ≤ g.nodes * longest = reached.fits u lu settled in
        let short : len e ≤ longest = can.short e in
        (reached.near u w e lu lw le join settled (omega arith)).1;
    tight = λ w lw off. reached.tight w lw off (all_reached w lw);
  }
