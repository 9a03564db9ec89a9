-- A loop that was found has its own place.
use Rattle.surf_search.proofs.Common.{◌≡◌, zero, suc, ◌<◌, Bool, true, false, eqb, eq-eqb, cond, List, [], ◌∷◌, length, get_or, map, filter, Contains, refl, sym, ap, ◌∙◌, subst, arith, or_right, Split, Mesh, Found, place_of_found, Contains-get_or, Signed, place_of, lengths_at, has_length, is_placed, told_of, told_by}
use Rattle.surf_search.proofs.Looped.{tells_at, tells_long, signed_of}

-- a candidate has its own place
placed_own : (ks : List Signed) (c : Signed) → Contains ks c → is_placed ks (place_of c.candidate) ≡ true
placed_own [] c (j, l, e) = absurd (omega arith)
placed_own (k ∷ ks) c (zero, l, e) = subst (λ (x : Signed). is_placed (k ∷ ks) (place_of x.candidate) ≡ true) e own
  where
    own : is_placed (k ∷ ks) (k.candidate.length, k.candidate.base) ≡ true
    own = rw (eq-eqb k.candidate.base k.candidate.base refl, eq-eqb k.candidate.length k.candidate.length refl) refl
placed_own (k ∷ ks) c (suc j, l, e) =
    more (eqb k.candidate.base c.candidate.base) (placed_own ks c (j, omega arith, e))
  where
    more : (b : Bool) → has_length (lengths_at ks c.candidate.base) c.candidate.length ≡ true →
        has_length (map (λ (s : Signed). s.candidate.length) (cond b (k ∷ filter (λ (s : Signed). eqb s.candidate.base c.candidate.base) ks)
        (filter (λ (s : Signed). eqb s.candidate.base c.candidate.base) ks))) c.candidate.length ≡ true
    more true h = or_right (eqb k.candidate.length c.candidate.length) (has_length (lengths_at ks c.candidate.base) c.candidate.length) h
    more false h = h

-- and so has a loop of which it tells
pub placed_found : (mesh : Mesh) (d : Split) (loops : List Found) (ks : List Signed) → map (told_of mesh d) loops ≡ map told_by ks →
    (k : Found) → Contains loops k → is_placed ks (place_of_found k) ≡ true
placed_found mesh d loops ks told k (i, l, e) =
    let at = tells_at mesh d loops ks told i k l in
    let i_in : i < length ks = (let n = tells_long mesh d loops ks told in omega (arith, l, n)) in
    ap (λ (x : Found). is_placed ks (place_of_found x)) (sym e)
    ∙ (λ t. is_placed ks ((at t).0, (at t).1.0))
    ∙ placed_own ks (get_or ks i (signed_of mesh d k)) (Contains-get_or ks i (signed_of mesh d k) i_in)
