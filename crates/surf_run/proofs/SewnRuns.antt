-- What `sew` writes of what `cut` wrote is read as the mesh that was cut.
use Rattle.surf_surfaces.proofs.Common.{◌≡◌, ◌<◌, ◌≤◌, ◌+◌, ◌*◌, ◌++◌, ℕ, Bool, true, false, List, [], ◌∷◌, length, Option, Some, None, Result, Ok, Err, refl, sym, ap, ◌∙◌, subst, arith, inr, AllByRecursion, sum_by, zip, bytes_eq, length-append, recursion_from_All, sum_by-cons, Mesh, IsFace, side_count, face_count, edge_count, loop_count, IsSurface, ltb-false, length-decimal-le, IsOpening}
use Rattle.std.specs.Prelude.{nat_lt, ◌&&◌, if◌then◌else◌, option_map, codes, decimal}
use Rattle.surf_answers.proofs.Commands.{Files, bytes_of, numbers_text, OnRequest, off_cause, copy_cause, sew_cause}
use Rattle.surf_answers.proofs.Commands.{Reads, within_text, goes}
use Rattle.surf_base.specs.declared.limits.LimitKind.TheVariants.{Text, Loops}
use Rattle.surf_disc.proofs.TableLaws.{edges_within}
use Rattle.surf_off.specs.Off.{OffParts, off_of, off_without_limits}
use Rattle.surf_off.specs.Keywords.{keyword}
use Rattle.surf_off.specs.Written.{head_text, lines_text, colour_text, face_text, faces_text, mesh_text}
use Rattle.surf_off.specs.declared.header.Header.{Header}
use Rattle.surf_off.specs.declared.header.Header.TheVariants.{Off, Coff, Noff, Cnoff, Stoff, Stcoff, Stnoff, Stcnoff}
use Rattle.surf_sew.specs.Copies.{copies_in}
use Rattle.surf_sew.specs.Laws.{WasCut, opened, opened_parts}
use Rattle.surf_sew.specs.Sewing.{gap_fault, line_fault, repeat_from, sewn_faces, unless, sewn_mesh, sewn_of}
use Rattle.surf_sew.specs.Texts.{sewn_text, RereadsSewn}
use Rattle.surf_sew.specs.declared.fault.SewFault.{SewFault}
use Rattle.surf_sew.proofs.CutLaws.{opened_are_reread, copies_are_reread, opened_are_sewn, lines_are_sewn, sewn_are_reread}
use Rattle.surf_sew.proofs.Faults.{sewn_sides}
use Rattle.surf_sew.proofs.Limits.{limits_are_kept}
use Rattle.surf_texts.specs.Cause.{misused, refused_by}
use Rattle.surf_answers.specs.Cuts.{cut_text}
use Rattle.surf_cutter.specs.Opened.{OpenMesh}
use Rattle.surf_run.specs.Leads.{Answer, Leads}
use Rattle.surf_texts.specs.Limits.{beyond}
use Rattle.surf_texts.specs.Outcome.{Outcome, answers, status_of, Shows}
use Rattle.surf_run.specs.TwoRuns.{CanBeRead, IsSewnBack, CutsAreSewn, CutsThroughAreSewn}
use Rattle.surf_words.specs.Words.{Extent, fully, trimmed, through, word_number, cut as cut_request, request_of}
use Rattle.surf_run.proofs.CertSizes.{length_of_three, length_of_four}
use Rattle.surf_run.proofs.MeshReads.{IsRead, mesh_texts_are_read}
use Rattle.surf_run.proofs.Refusing.{reads_refuses, surface_refuses, limit_refuses, lengths_refuse, base_refuses, kind_refuses, cut_refuses, goes_on, shown_low, shown_text}
use Rattle.surf_answers.proofs.Saying.{says_whole}
use Rattle.surf_run.proofs.TextLaws.{mesh_texts_are_few}
use Rattle.surf_run.proofs.TwoRuns.{read_back, read_again}

-- ---- how long the text of a mesh is

keyword_short : (header : Header) → length (keyword header) ≤ 7
keyword_short Off = omega arith
keyword_short Coff = omega arith
keyword_short Noff = omega arith
keyword_short Cnoff = omega arith
keyword_short Stoff = omega arith
keyword_short Stcoff = omega arith
keyword_short Stnoff = omega arith
keyword_short Stcnoff = omega arith

count_short : (n : ℕ) → n ≤ 6000000 → length (decimal n) ≤ 7
count_short n few = length-decimal-le 7 n (omega arith) (omega (arith, few)) (omega (arith, few))

head_short : (header : Header) (v f e : ℕ) → v ≤ 6000000 → f ≤ 6000000 → e ≤ 6000000 →
    length (head_text header v f e) ≤ 40
head_short header v f e few_v few_f few_e =
    let word = keyword_short header in
    let first = length_of_four (keyword header) (codes "\n") (decimal v)
    (codes " " ++ (decimal f ++ (codes " " ++ (decimal e ++ codes "\n")))) in
    let second = length_of_four (codes " ") (decimal f) (codes " ") (decimal e ++ codes "\n") in
    let third = length-append (decimal e) (codes "\n") in
    let v_short = count_short v few_v in
    let f_short = count_short f few_f in
    let e_short = count_short e few_e in
    omega (arith, word, first, second, third, v_short, f_short, e_short)

lines_short : (lines : List (List ℕ)) → length (lines_text lines) ≤ sum_by length lines + length lines
lines_short [] = omega arith
lines_short (line ∷ lines) =
    let whole = length-append (line ++ codes "\n") (lines_text lines) in
    let here = length-append line (codes "\n") in
    let more = sum_by-cons length line lines in
    let rest = lines_short lines in
    omega (arith, whole, here, more, rest)

numbers_short : (ns : List ℕ) → AllByRecursion (λ n. n < 1000000) ns → length (numbers_text ns) ≤ 8 * length ns
numbers_short [] all = omega arith
numbers_short (n ∷ ns) all =
    let whole = length-append (codes " " ++ decimal n) (numbers_text ns) in
    let front = length-append (codes " ") (decimal n) in
    let below = all.0 in
    let here = count_short n (omega (arith, below)) in
    let rest = numbers_short ns all.1 in
    omega (arith, whole, front, here, rest)

colour_short : (colour : List ℕ) → length (colour_text colour) ≤ 1 + length colour
colour_short [] = omega arith
colour_short (b ∷ bs) = let whole = length-append (codes " ") (b ∷ bs) in omega (arith, whole)

-- a face of few vertices
abbrev pub IsSmallFace : List ℕ → Type 0
IsSmallFace face = AllByRecursion (λ n. n < 1000000) face × (length face ≤ 6000000)

face_short : (face colour : List ℕ) → IsSmallFace face →
    length (face_text face colour) ≤ 9 + 8 * length face + length colour
face_short face colour small =
    let line = length_of_four (decimal (length face)) (numbers_text face) (colour_text colour) (codes "\n") in
    let size = count_short (length face) small.1 in
    let numbers = numbers_short face small.0 in
    let last = colour_short colour in
    omega (arith, line, size, numbers, last)

faces_short : (faces colours : List (List ℕ)) → AllByRecursion IsSmallFace faces →
    length (faces_text (zip faces colours)) ≤ 9 * length faces + 8 * sum_by length faces + sum_by length colours
faces_short [] colours all = omega arith
faces_short (face ∷ faces) [] all = omega arith
faces_short (face ∷ faces) (colour ∷ colours) all =
    let whole = length-append (face_text face colour) (faces_text (zip faces colours)) in
    let here = face_short face colour all.0 in
    let rest = faces_short faces colours all.1 in
    let more = sum_by-cons length face faces in
    let colours_more = sum_by-cons length colour colours in
    omega (arith, whole, here, rest, more, colours_more)

small_faces : (v : ℕ) (faces : List (List ℕ)) → v ≤ 1000000 → sum_by length faces ≤ 6000000 →
    AllByRecursion (IsFace v) faces →
    AllByRecursion IsSmallFace faces
small_faces v [] few sides all = tt
small_faces v (face ∷ faces) few sides all =
    let more = sum_by-cons length face faces in
    let here : IsSmallFace face =
    (inside face (recursion_from_All (λ n. n < v) face all.0.inside), omega (arith, more, sides)) in
    (here, small_faces v faces few (omega (arith, more, sides)) all.1)
  where
    inside : (ns : List ℕ) → AllByRecursion (λ n. n < v) ns → AllByRecursion (λ n. n < 1000000) ns
    inside [] ok = tt
    inside (n ∷ ns) ok = (let below = ok.0 in omega (arith, below, few), inside ns ok.1)

-- what is written of a mesh that was read isn't too long an answer
mesh_text_short : (bytes : List ℕ) (read : OffParts × Mesh) → length bytes ≤ 268435456 → off_of bytes ≡ Ok read →
    IsSurface read.1 →
    length (mesh_text read.0 read.1.faces (edge_count read.1)) ≤ 1073741824
mesh_text_short bytes read within is surface =
    let few = mesh_texts_are_few bytes read is in
    let so = mesh_texts_are_read bytes read is in
    let few_v : read.1.vertices ≤ 1000000 = few.0 in
    let few_f : length read.1.faces ≤ 2000000 = few.1 in
    let few_s : sum_by length read.1.faces ≤ 6000000 = so.few_sides in
    let few_e : edge_count read.1 ≤ sum_by length read.1.faces = edges_within read.1 in
    let count = so.lines in
    let pieces = so.short in
    let head = head_text read.0.header (length read.0.vertex_lines) (length read.1.faces) (edge_count read.1) in
    let all = length_of_three head (lines_text read.0.vertex_lines) (faces_text (zip read.1.faces read.0.colours)) in
    let front = head_short read.0.header (length read.0.vertex_lines) (length read.1.faces) (edge_count read.1)
    (omega (arith, count, few_v)) (omega (arith, few_f))
    (omega (arith, few_e, few_s)) in
    let lines = lines_short read.0.vertex_lines in
    let small = small_faces read.1.vertices read.1.faces few_v few_s
    (recursion_from_All (IsFace read.1.vertices) read.1.faces surface.is_mesh) in
    let faces = faces_short read.1.faces read.0.colours small in
    omega (arith, all, front, lines, faces, count, pieces, few_v, few_f, few_s, within)

-- ---- one cut

-- what a file holds that was read
held_is : (files : Files) (name bytes : List ℕ) → Reads name files (Ok bytes) →
    (bytes_of files name ≡ Some bytes) × (length bytes ≤ 268435456)
held_is files name bytes reads = at (bytes_of files name) reads
  where
    item : Result (List ℕ) Outcome → List ℕ
    item (Ok b) = b
    item (Err o) = []

    WasRead : Result (List ℕ) Outcome → Type 0
    WasRead (Ok b) = Unit {0}
    WasRead (Err o) = ⊥

    kept : (long : Bool) (b : List ℕ) → long ≡ nat_lt 268435456 (length b) →
        Ok bytes ≡ (if long then Err (beyond Text) else Ok b) →
        (Some b ≡ Some bytes) × (length bytes ≤ 268435456)
    kept true b same is = absurd (subst WasRead is tt)
    kept false b same is =
        let back : b ≡ bytes = sym (ap item is) in
        (ap Some back, subst (λ (x : List ℕ). length x ≤ 268435456) back (ltb-false _ _ (sym same)))

    at : (found : Option (List ℕ)) → Ok bytes ≡ within_text found → (found ≡ Some bytes) × (length bytes ≤ 268435456)
    at None is = absurd (subst WasRead is tt)
    at (Some b) is = kept (nat_lt 268435456 (length b)) b refl is

-- what was sewn had no fault
unless_sewn : (fault : Option SewFault) (r : Result Mesh SewFault) (mesh : Mesh) → unless fault r ≡ Ok mesh →
    r ≡ Ok mesh
unless_sewn None r mesh is = is
unless_sewn (Some fault) r mesh is = absurd cc

abbrev faces_in : Result Mesh SewFault → List (List ℕ)
faces_in (Ok mesh) = mesh.faces
faces_in (Err fault) = []

sewn_are_faces : (lines : List (List ℕ)) (copies : Mesh) (origins : List ℕ) (mesh : Mesh) →
    sewn_of lines copies origins ≡ Ok mesh →
    sewn_faces origins copies.faces ≡ mesh.faces
sewn_are_faces lines copies origins mesh is =
    let last : Result Mesh SewFault = unless (repeat_from 0 (sewn_faces origins copies.faces))
    (Ok (sewn_mesh origins copies.faces)) in
    let middle = unless (line_fault lines origins) last in
    ap faces_in
    (unless_sewn (repeat_from 0 (sewn_faces origins copies.faces)) (Ok (sewn_mesh origins copies.faces)) mesh
    (unless_sewn (line_fault lines origins) last mesh (unless_sewn (gap_fault origins) middle mesh is)))

module _ (bytes : List ℕ) (read : OffParts × Mesh) (within : length bytes ≤ 268435456)
    (is_read : off_of bytes ≡ Ok read) (surface : IsSurface read.1)
    (opened_to : OpenMesh) (is_opening : IsOpening read.1 opened_to.origins opened_to.faces) where
  abbrev parts : OffParts
  parts = read.0

  abbrev mesh : Mesh
  mesh = read.1

  abbrev origins : List ℕ
  origins = opened_to.origins

  abbrev faces : List (List ℕ)
  faces = opened_to.faces

  so : IsRead bytes read
  so = mesh_texts_are_read bytes read is_read

  cut : WasCut parts mesh origins faces
  cut = record {
    clean = so.clean;
    lines = so.lines;
    colours = so.colours;
    is_mesh = surface.is_mesh;
    few_sides = let few = so.few_sides in omega (arith, few);
    opening = is_opening;
  }

  few : (mesh.vertices ≤ 1000000) × (face_count mesh ≤ 2000000) × (side_count mesh ≤ 6000000)
  few = let counts = mesh_texts_are_few bytes read is_read in (counts.0, counts.1, so.few_sides)

  -- the mesh of the copies has as many faces and sides
  opened_sides : side_count (opened origins faces) ≡ side_count mesh
  opened_sides =
      sym (sewn_sides origins faces)
      ∙ ap (sum_by length)
      (sewn_are_faces (opened_parts parts origins).vertex_lines (opened origins faces) origins mesh
      (opened_are_sewn parts mesh origins faces cut).0)

  module _ (text : List ℕ) (text_is : text ≡ cut_text parts origins faces) (can : CanBeRead text) where
    opened_read : off_of text ≡ Ok (opened_parts parts origins, opened origins faces)
    opened_read =
        let again = opened_are_reread parts mesh origins faces cut in
        let there : off_without_limits text ≡ Ok (opened_parts parts origins, opened origins faces) =
        ap off_without_limits text_is ∙ again in
        let copies : length origins ≤ 1000000 = can.few (opened_parts parts origins, opened origins faces) there in
        let as_many : length faces ≡ face_count mesh = is_opening.same_faces in
        let few_faces : face_count mesh ≤ 2000000 = few.1 in
        let few_sides : side_count mesh ≤ 6000000 = few.2 in
        let sides = opened_sides in
        limits_are_kept text (opened_parts parts origins) (opened origins faces) there copies
        (omega (arith, as_many, few_faces)) (omega (arith, sides, few_sides))

    abbrev sewn_back : List ℕ
    sewn_back = sewn_text (opened_parts parts origins) origins mesh

    sewn_read : off_of sewn_back ≡ Ok read
    sewn_read = limits_are_kept sewn_back parts mesh (sewn_are_reread parts mesh origins faces cut) few.0 few.1 few.2

    sewn_short : length sewn_back ≤ 1073741824
    sewn_short =
        subst (λ (t : List ℕ). length t ≤ 1073741824) (sym (lines_are_sewn parts mesh origins faces cut).1)
        (mesh_text_short bytes read within is_read surface)

    sewn_rereads : RereadsSewn (opened_parts parts origins) origins mesh
    sewn_rereads =
        sewn_are_reread parts mesh origins faces cut
        ∙ ap (λ (lines : List (List ℕ)). Ok (record parts { vertex_lines = lines }, mesh))
        (sym (lines_are_sewn parts mesh origins faces cut).0)

    sews_back : (later : Files) (disc : List ℕ) → bytes_of later disc ≡ Some text →
        Answer (codes "sew" ∷ disc ∷ []) later 0 sewn_back []
    unfolding Leads request_of
    sews_back later disc held =
        let read_is : Ok (opened_parts parts origins, opened origins faces) ≡ refused_by off_cause (off_of text) =
        sym (ap (refused_by off_cause) opened_read) in
        let copies_are : Ok origins ≡ refused_by (copy_cause (length origins)) (copies_in text (length origins)) =
        sym (ap (λ (t : List ℕ). refused_by (copy_cause (length origins)) (copies_in t (length origins))) text_is
        ∙ ap (refused_by (copy_cause (length origins))) (copies_are_reread parts mesh origins faces cut)) in
        let sewn_is :
        Ok mesh ≡ refused_by sew_cause (sewn_of (opened_parts parts origins).vertex_lines (opened origins faces) origins) =
        sym (ap (refused_by sew_cause) (opened_are_sewn parts mesh origins faces cut).0) in (
          answers 0 sewn_back,
          goes text (read_again later disc text held can.short)
              (goes (opened_parts parts origins, opened origins faces) read_is (goes origins copies_are (goes mesh sewn_is
              (inr (
                is_opening.is_disc,
                goes mesh (refl, surface)
                    (record { says = says_whole sewn_back sewn_back refl sewn_short; rereads = sewn_rereads }),
              ))))),
          (refl, refl, refl),
        )

-- ---- the laws

-- words of no row answer nothing
misuse_is_sewn : (files later : Files) (mesh disc text : List ℕ) (o : Outcome) → Shows o 0 text [] → o ≡ misused →
    IsSewnBack files mesh later disc
misuse_is_sewn files later mesh disc text o shows is =
    absurd (let low = shown_low o text [] shows in let status = ap status_of is in omega (arith, low, status))

cut_is_sewn : (files later : Files) (mesh lengths disc text : List ℕ) (o : Outcome) → Shows o 0 text [] →
    bytes_of later disc ≡ Some text → CanBeRead text → (extent : Extent) (x : Option ℕ) →
    OnRequest (option_map (cut_request extent mesh lengths) x) files o → IsSewnBack files mesh later disc
cut_is_sewn files later mesh lengths disc text o shows held can extent None on =
    misuse_is_sewn files later mesh disc text o shows on
cut_is_sewn files later mesh lengths disc text o shows held can extent (Some b) on =
    let low = shown_low o text [] shows in
    let (bytes, reads, on_text) = goes_on o on (reads_refuses mesh files) low in
    let (read, is_surface, on_surface) = goes_on o on_text (surface_refuses bytes) low in
    let (_, few, on_few) = goes_on o on_surface (limit_refuses Loops 1024 (loop_count read.1)) low in
    let (values, measured, on_lengths) = goes_on o on_few (lengths_refuse lengths read.1 files) low in
    let (vertex, based, on_base) = goes_on o on_lengths (base_refuses b read.1) low in
    let (kind, has, on_kind) = goes_on o on_base (kind_refuses extent read.1 files) low in
    let (opened, is_cut, gives) = goes_on o on_kind (cut_refuses kind read.1 values vertex) low in
    let text_is = shown_text (cut_text read.0 opened.origins opened.faces) o text gives.says shows in
    let is_read = read_back off_cause read (off_of bytes) is_surface.0 in
    let here = held_is files mesh bytes reads in
    let surface : IsSurface read.1 = is_surface.1 in
    record {
      bytes = bytes;
      held = here.0;
      read = read;
      is_read = is_read;
      text = sewn_back bytes read here.1 is_read surface opened is_cut.opening text text_is can;
      sews = sews_back bytes read here.1 is_read surface opened is_cut.opening text text_is can later disc held;
      reads_so = sewn_read bytes read here.1 is_read surface opened is_cut.opening text text_is can;
    }

pub cuts_are_sewn : CutsAreSewn
unfolding Leads request_of
cuts_are_sewn files later mesh lengths base kind disc text (o, leads, shows) held can =
    of_kind (bytes_eq kind (codes "full")) (bytes_eq kind (codes "trim")) leads
  where
    of_kind : (full trim : Bool) → OnRequest (if full && true then option_map (cut_request fully mesh lengths) (word_number base)
        else (if trim && true then option_map (cut_request trimmed mesh lengths) (word_number base) else None)) files o →
        IsSewnBack files mesh later disc
    of_kind true trim on = cut_is_sewn files later mesh lengths disc text o shows held can fully (word_number base) on
    of_kind false true on = cut_is_sewn files later mesh lengths disc text o shows held can trimmed (word_number base) on
    of_kind false false on = misuse_is_sewn files later mesh disc text o shows on

pub cuts_through_are_sewn : CutsThroughAreSewn
unfolding Leads request_of
cuts_through_are_sewn files later mesh lengths base kind points disc text (o, leads, shows) held can =
    of_kind (bytes_eq kind (codes "through")) leads
  where
    of_kind : (named : Bool) → OnRequest (if named && true then option_map (cut_request (through points) mesh lengths) (word_number base) else None) files o →
        IsSewnBack files mesh later disc
    of_kind true on = cut_is_sewn files later mesh lengths disc text o shows held can (through points) (word_number base) on
    of_kind false on = misuse_is_sewn files later mesh disc text o shows on
