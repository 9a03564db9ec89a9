use Rattle.surf_sew.proofs.Common.{◌≡◌, ◌<◌, ◌≤◌, ◌+◌, ℕ, List, [], ◌∷◌, ◌++◌, Option, Some, None, Ok, Err, length, get_or, take, drop, sym, ◌∙◌, ap, subst, arith, length-map, get_or-map, take_more, take_all, Mesh, IsFace, ◌≢◌, AllPairs, IfNone, sum_by_more_le, first_repeat, written_back, SewFault, FaceRepeat, sewn_face, sewn_faces, unless}
use Rattle.surf_sew.proofs.Faults.{sewn_is_face, sewn_sides, repeat_here, repeat_next, repeat_never, mesh_is}
use Rattle.surf_sew.proofs.sewing.sew_faces.Goals as goal

pub returns-in-Some-clause-faces : goal.returns-in-Some-clause-faces
returns-in-Some-clause-faces c =
    let origins = c.args.origins.now in
    let faces = c.args.soup.now.faces in
    let fs = sewn_faces origins faces in
    let f = c.loop-f.f in
    let few : f < length faces = omega (arith, c.faces-f-end.ensures.count, c.loop-f-test.true) in
    let lt : f < length fs = omega (arith, length-map faces (sewn_face origins), few) in
    let face : c.face.result.now ≡ get_or faces f [] = c.face.ensures.corners ∙ ap (λ (k : ℕ). get_or faces k []) c.new-face.ensures in
    let sewn : get_or fs f [] ≡ sewn_face origins c.face.result.now = get_or-map (sewn_face origins) faces f [] [] few ∙ ap (sewn_face origins) (sym face) in
    let again : first_repeat [] (get_or fs f []) ≡ Some c.in-Some.v = ap (first_repeat []) sewn ∙ sym c.in_ok-v.ensures.first ∙ c.in-Some.is in
    let here = repeat_here fs f c.loop-f.invariant.so_far c.in-Some.v lt again in
    λ other. ap (λ (o : Option SewFault). unless o (Ok (record { vertices = c.args.vertices; faces = fs }))) here ∙ ap (λ (k : ℕ). Err (FaceRepeat k c.in-Some.v)) (sym c.new-face.ensures)

pub push_face-requires-clause-face : goal.push_face-requires-clause-face
push_face-requires-clause-face c =
    let origins = c.args.origins.now in
    let faces = c.args.soup.now.faces in
    let fs = sewn_faces origins faces in
    let f = c.loop-f.f in
    let few : f < length faces = omega (arith, c.faces-f-end.ensures.count, c.loop-f-test.true) in
    let lt : f < length fs = omega (arith, length-map faces (sewn_face origins), few) in
    let face : c.face.result.now ≡ get_or faces f [] = c.face.ensures.corners ∙ ap (λ (k : ℕ). get_or faces k []) c.new-face.ensures in
    let sewn : get_or fs f [] ≡ sewn_face origins c.face.result.now = get_or-map (sewn_face origins) faces f [] [] few ∙ ap (sewn_face origins) (sym face) in
    let corners : c.deref.result.now ≡ sewn_face origins c.face.result.now = c.deref.ensures.value ∙ subst (λ (o : Option ℕ). IfNone o (c.sew_face.new.corners.items ≡ sewn_face origins c.face.result.now)) c.in-None.is c.in_ok-v.ensures.corners in
    let distinct : AllPairs (λ u v. u ≢ v) c.sew_face.new.corners.items = subst (λ (o : Option ℕ). IfNone o (AllPairs (λ u v. u ≢ v) c.sew_face.new.corners.items)) c.in-None.is c.in_ok-v.ensures.distinct in
    let apart : AllPairs (λ u v. u ≢ v) (sewn_face origins c.face.result.now) = subst (λ (xs : List ℕ). AllPairs (λ u v. u ≢ v) xs) (sym c.deref.ensures.value ∙ corners) distinct in
    let good : IsFace (length origins) c.face.result.now = subst (λ (n : ℕ). IsFace n c.face.result.now) (sym c.requires.copies) c.face.ensures.face in
    rw (corners, c.loop-f.invariant.vertices) (sewn_is_face origins c.face.result.now c.args.vertices c.requires.within good apart)

pub push_face-requires-clause-few : goal.push_face-requires-clause-few
push_face-requires-clause-few c =
    let origins = c.args.origins.now in
    let faces = c.args.soup.now.faces in
    let fs = sewn_faces origins faces in
    let f = c.loop-f.f in
    let few : f < length faces = omega (arith, c.faces-f-end.ensures.count, c.loop-f-test.true) in
    let lt : f < length fs = omega (arith, length-map faces (sewn_face origins), few) in
    let face : c.face.result.now ≡ get_or faces f [] = c.face.ensures.corners ∙ ap (λ (k : ℕ). get_or faces k []) c.new-face.ensures in
    let sewn : get_or fs f [] ≡ sewn_face origins c.face.result.now = get_or-map (sewn_face origins) faces f [] [] few ∙ ap (sewn_face origins) (sym face) in
    let corners : c.deref.result.now ≡ sewn_face origins c.face.result.now = c.deref.ensures.value ∙ subst (λ (o : Option ℕ). IfNone o (c.sew_face.new.corners.items ≡ sewn_face origins c.face.result.now)) c.in-None.is c.in_ok-v.ensures.corners in
    let most = sum_by_more_le length fs f [] lt in
    let all = sewn_sides origins faces in
    let count : length c.deref.result.now ≡ length (get_or fs f []) = ap length (corners ∙ sym sewn) in
    rw c.loop-f.invariant.faces (omega (arith, most, all, count, c.law_of_soup.ensures.few))

pub loop-f-preserved : goal.loop-f-preserved
loop-f-preserved c =
    let origins = c.args.origins.now in
    let faces = c.args.soup.now.faces in
    let fs = sewn_faces origins faces in
    let f = c.loop-f.f in
    let few : f < length faces = omega (arith, c.faces-f-end.ensures.count, c.loop-f-test.true) in
    let lt : f < length fs = omega (arith, length-map faces (sewn_face origins), few) in
    let face : c.face.result.now ≡ get_or faces f [] = c.face.ensures.corners ∙ ap (λ (k : ℕ). get_or faces k []) c.new-face.ensures in
    let sewn : get_or fs f [] ≡ sewn_face origins c.face.result.now = get_or-map (sewn_face origins) faces f [] [] few ∙ ap (sewn_face origins) (sym face) in
    let corners : c.deref.result.now ≡ sewn_face origins c.face.result.now = c.deref.ensures.value ∙ subst (λ (o : Option ℕ). IfNone o (c.sew_face.new.corners.items ≡ sewn_face origins c.face.result.now)) c.in-None.is c.in_ok-v.ensures.corners in
    let again : first_repeat [] (get_or fs f []) ≡ None = ap (first_repeat []) sewn ∙ sym c.in_ok-v.ensures.first ∙ c.in-None.is in
    let pushed : c.push_face.new.self.faces ≡ take (f + 1) fs =
    ap (λ (m : Mesh). m.faces) c.in_ok-push_face-in-None.ensures.ok ∙ ap (λ (gs : List (List ℕ)). gs ++ c.deref.result.now ∷ []) c.loop-f.invariant.faces ∙ ap (λ (g : List ℕ). take f fs ++ g ∷ []) (corners ∙ sym sewn) ∙ sym (take_more fs f [] lt) in
    let same : length c.sew_face.new.marks ≡ length c.loop-f.marks.items = c.sew_face.auto.marks ∙ ap length c.deref_mut.ensures.value in
    let table : take c.loop-f.marks.len (c.sew_face.new.marks ++ drop (length c.sew_face.new.marks) c.loop-f.marks.items) ≡ c.sew_face.new.marks =
    written_back c.loop-f.marks.len c.sew_face.new.marks c.loop-f.marks.items same (sym c.loop-f.marks.ok.0) in
    record {
      vertices = ap (λ (m : Mesh). m.vertices) c.in_ok-push_face-in-None.ensures.ok ∙ c.loop-f.invariant.vertices;
      faces = pushed;
      room = ap length table ∙ same ∙ c.loop-f.invariant.room;
      earlier = subst (λ (marks : List ℕ). (k : ℕ) → k < length marks → get_or marks k 0 ≤ f + 1) (sym table) c.sew_face.ensures.marks;
      so_far = repeat_next fs f c.loop-f.invariant.so_far lt again;
    }

pub returns-clause-faces : goal.returns-clause-faces
returns-clause-faces c =
    let origins = c.args.origins.now in
    let faces = c.args.soup.now.faces in
    let fs = sewn_faces origins faces in
    let f = c.loop-f.f in
    let le : length fs ≤ f = omega (arith, length-map faces (sewn_face origins), c.faces-f-end.ensures.count, c.loop-f-test.false) in
    let none = repeat_never fs f c.loop-f.invariant.so_far le in
    let whole : c.loop-f.sewn.faces ≡ fs = c.loop-f.invariant.faces ∙ take_all f fs le in
    ap (λ (o : Option SewFault). unless o (Ok (record { vertices = c.args.vertices; faces = fs }))) none ∙ ap (λ (m : Mesh). Ok m) (mesh_is c.loop-f.sewn c.args.vertices fs c.loop-f.invariant.vertices whole)

pub returns-clause-count : goal.returns-clause-count
returns-clause-count c =
    let faces = c.args.soup.now.faces in
    let fs = sewn_faces c.args.origins.now faces in
    let le : length fs ≤ c.loop-f.f = omega (arith, length-map faces (sewn_face c.args.origins.now), c.faces-f-end.ensures.count, c.loop-f-test.false) in
    ap length (c.loop-f.invariant.faces ∙ take_all c.loop-f.f fs le) ∙ length-map faces (sewn_face c.args.origins.now)
