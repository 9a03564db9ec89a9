-- The kinds of edges, edge by edge.
use Rattle.surf_finder.proofs.Common.{◌≡◌, ℕ, ◌<◌, ◌≤◌, ◌+◌, ◌++◌, ◌∷◌, [], List, length, slice_index, sym, ap, ◌∙◌, arith, inl, inr, cases_eq, eq-eqb, ◌==◌, subst, map, length-map, get_or-map, CotreeTables, SignTables, signs_of}
use Rattle.std.proofs.Math.Seq.{get_or-append_seam}
use Rattle.surf_surfaces.proofs.Common.{ne_eqb}
use Rattle.std.proofs.lemmas.List.{get_or_append_left, length-append}
use Rattle.std.proofs.lemmas.Grind.{same_number_lists}
use Rattle.surf_finder.specs.Kinds.{AreKinds, KindTables, signs_by}

-- those of the first so many edges
pub record AreKindsTo (s : SignTables) (count : ℕ) (kinds signatures : List ℕ) : Type 0 where
  pub count_is : length kinds ≡ count
  pub kind_in : (e : ℕ) → e < count → slice_index kinds e < length signatures
  pub same : (e : ℕ) → e < count → slice_index signatures (slice_index kinds e) ≡ slice_index s.signatures e
  pub some : 0 < length signatures
  pub none : slice_index signatures 0 ≡ 0
  pub plain : (e : ℕ) → e < count → slice_index s.signatures e ≡ 0 → slice_index kinds e ≡ 0
  pub few : length signatures ≤ count + 1

-- one more
pub kinds_more : (s : SignTables) (e k : ℕ) (kinds next signatures more : List ℕ) → AreKindsTo s e kinds signatures →
    next ≡ kinds ++ k ∷ [] → k < length more → slice_index more k ≡ slice_index s.signatures e →
    (slice_index s.signatures e ≡ 0 → k ≡ 0) → length signatures ≤ length more → length more ≤ length signatures + 1 →
    ((j : ℕ) → j < length signatures → slice_index more j ≡ slice_index signatures j) → AreKindsTo s (e + 1) next more
kinds_more s e k kinds next signatures more are push k_in is plain grown one stay =
    let count = are.count_is in
    let long : length next ≡ length kinds + 1 = ap (λ (xs : List ℕ). length xs) push ∙ length-append kinds (k ∷ []) in
    let before : (f : ℕ) → f < e → slice_index next f ≡ slice_index kinds f =
    λ f l. ap (λ (xs : List ℕ). slice_index xs f) push ∙ get_or_append_left kinds (k ∷ []) 0 f (omega (arith, count, l)) in
    let last : (f : ℕ) → f ≡ e → slice_index next f ≡ k = λ f at.
    ap (slice_index next) at ∙ ap (λ (xs : List ℕ). slice_index xs e) push ∙ ap (slice_index (kinds ++ k ∷ [])) (sym count)
    ∙ get_or-append_seam kinds k [] 0 in
    record {
      count_is = omega (arith, long, count);
      kind_in = λ f l. elim (cases_eq f e) [
        | inl at ↦ let kind = last f at in omega (arith, kind, k_in)
        | inr ne ↦ let kind = before f (omega arith) in let was = are.kind_in f (omega arith) in omega (arith, kind, was, grown)
      ];
      same = λ f l. elim (cases_eq f e) [
        | inl at ↦ ap (slice_index more) (last f at) ∙ is ∙ ap (slice_index s.signatures) (sym at)
        | inr ne ↦ ap (slice_index more) (before f (omega arith)) ∙ stay (slice_index kinds f) (are.kind_in f (omega arith)) ∙ are.same f (omega arith)
      ];
      some = let some = are.some in omega (arith, some, grown);
      none = stay 0 are.some ∙ are.none;
      plain = λ f l zero. elim (cases_eq f e) [
        | inl at ↦ last f at ∙ plain (ap (slice_index s.signatures) (sym at) ∙ zero)
        | inr ne ↦ before f (omega arith) ∙ are.plain f (omega arith) zero
      ];
      few = let few = are.few in omega (arith, few, one);
    }

pub kinds_all : (s : SignTables) (count : ℕ) (kinds signatures : List ℕ) → AreKindsTo s count kinds signatures →
    count ≡ length s.signatures → AreKinds s (record { kinds = kinds; signatures = signatures })
kinds_all s count kinds signatures are is = record {
  count = are.count_is ∙ is;
  kind_in = λ e l. are.kind_in e (omega (arith, is, l));
  same = λ e l. are.same e (omega (arith, is, l));
  none = are.none;
  plain = λ e l. are.plain e (omega (arith, is, l));
}

-- kinds tell all signatures
pub kinds_sign : (s : SignTables) (t : KindTables) → AreKinds s t → map (slice_index t.signatures) t.kinds ≡ s.signatures
kinds_sign s t are =
    let long : length (map (slice_index t.signatures) t.kinds) ≡ length s.signatures =
    length-map t.kinds (slice_index t.signatures) ∙ are.count in
    same_number_lists (map (slice_index t.signatures) t.kinds) s.signatures long
    (λ e l. let e_in : e < length s.signatures = omega (arith, l, long) in
    get_or-map (slice_index t.signatures) t.kinds e 0 0 (let n = are.count in omega (arith, n, e_in)) ∙ are.same e e_in)

-- so the signatures by kinds are those that the kinds are of
pub signs_by_kinds : (t : CotreeTables) (k : KindTables) (left : List ℕ) → left ≡ t.left → AreKinds (signs_of t) k →
    signs_by left k ≡ signs_of t
signs_by_kinds t k left is are =
    ap (λ (xs : List ℕ). record { left = xs; signatures = map (slice_index k.signatures) k.kinds }) is
    ∙ ap (λ (xs : List ℕ). record { left = t.left; signatures = xs }) (kinds_sign (signs_of t) k are)

-- and kinds of those are kinds of these
pub kinds_by : (t : CotreeTables) (k : KindTables) (left : List ℕ) → left ≡ t.left → AreKinds (signs_of t) k →
    AreKinds (signs_by left k) k
kinds_by t k left is are = subst (λ (s : SignTables). AreKinds s k) (sym (signs_by_kinds t k left is are)) are

-- an edge without a signature is known by its kind
pub plain_kind : (s : SignTables) (t : KindTables) (e : ℕ) → AreKinds s t → e < length s.signatures →
    (slice_index t.kinds e == 0) ≡ (slice_index s.signatures e == 0)
plain_kind s t e are e_in = elim (cases_eq (slice_index t.kinds e) 0) [
  | inl plain ↦
      let none : slice_index s.signatures e ≡ 0 = sym (are.same e e_in) ∙ ap (slice_index t.signatures) plain ∙ are.none in
      eq-eqb (slice_index t.kinds e) 0 plain ∙ sym (eq-eqb (slice_index s.signatures e) 0 none)
  | inr signed ↦
      ne_eqb (slice_index t.kinds e) 0 signed
      ∙ sym (ne_eqb (slice_index s.signatures e) 0 (λ none. signed (are.plain e e_in none)))
]
