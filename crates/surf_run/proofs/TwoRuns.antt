-- What `certify` writes passes `check`.
use Rattle.surf_surfaces.proofs.Common.{◌≡◌, ◌<◌, ◌≤◌, ℕ, false, List, [], ◌∷◌, length, Option, Some, None, Result, Ok, Err, refl, sym, ap, ◌∙◌, subst, arith, inl, le-ltb, Mesh, IsSurface, face_count, edge_count, loop_count, ArePositive, Loop, loops_at, IsChosenBasis, IsLoopCount, All-get_or, All-nil}
use Rattle.std.specs.Prelude.{nat_lt, option_map, codes}
use Rattle.surf_answers.proofs.Commands.{Files, bytes_of, cert_cause, off_cause, OffParts, off_of, OnRequest, named}
use Rattle.surf_answers.proofs.Commands.{Reads, within_text, IsSurfaceText, HasLengths, HasBase, goes}
use Rattle.surf_base.specs.declared.limits.LimitKind.TheVariants.{CertificateVertices}
use Rattle.surf_base.specs.declared.limits.LimitKind.TheVariants as limits
use Rattle.surf_cert.specs.Grammar.{parsed_cert}
use Rattle.surf_cert.specs.Written.{loop_text, basis_text}
use Rattle.surf_records.specs.declared.cert.Cert.TheVariants.{Loops, Basis}
use Rattle.surf_records.proofs.ChosenFits.{AreNumbers, chosen_loops_fit, chosen_basis_fits}
use Rattle.surf_cert.proofs.ChosenReread.{chosen_loops_again, chosen_basis_again}
use Rattle.surf_texts.specs.Cause.{Cause, refused_by}
use Rattle.surf_texts.specs.MeasuredTexts.{measured_text}
use Rattle.surf_texts.specs.CountLines.{count_line}
use Rattle.surf_surfaces.proofs.walks.ShortestWalkLaws.{first_of_basis_is_shortest_not_null}
use Rattle.surf_lengths.specs.Lengths.{IsLength, AreLengths}
use Rattle.surf_lengths.proofs.Positive.{lengths_positive}
use Rattle.surf_validity.specs.Chosen.{chosen_cert, basis_cert_of}
use Rattle.surf_validity.proofs.BasisLaws.{valid_bases_are_least}
use Rattle.surf_validity.proofs.ChosenTotals.{chosen_loops_total, chosen_basis_total}
use Rattle.surf_validity.proofs.LoopLaws.{valid_loops_are_least}
use Rattle.surf_validity.proofs.PlaceLaws.{valid_loops_are_least_in_order, valid_bases_are_least_in_order, valid_bases_measure_shortest}
use Rattle.surf_answers.specs.Certificates.{GivesLoopCert, GivesBasisCert}
use Rattle.surf_run.specs.Leads.{Answer, Leads}
use Rattle.surf_run.specs.Named.{AgreeOn}
use Rattle.surf_texts.specs.Outcome.{Outcome, answers, status_of}
use Rattle.surf_answers.specs.Says.{Says}
use Rattle.surf_answers.specs.Summaries.{total_size}
use Rattle.surf_run.specs.TwoRuns.{LoopsPass, BasisPasses, CertifiedLoopsPass, CertifiedBasesPass}
use Rattle.surf_words.specs.Words.{word_number, loops as loops_request, certify_loops, request_of}
use Rattle.surf_run.proofs.CertSizes.{loop_text_short, basis_text_short}
use Rattle.surf_run.proofs.CycleLaws.{few_loops}
use Rattle.surf_run.proofs.Named.{answers_depend_on_named_files}
use Rattle.surf_run.proofs.Refusing.{reads_refuses, surface_refuses, limit_refuses, lengths_refuse, base_refuses, goes_on, shown_low, shown_text}
use Rattle.surf_run.proofs.TextLaws.{mesh_texts_are_few}

-- ---- what is known of what was read

-- what was read went on with a value
pub read_back : {A E : Type 0} (cause : E → Cause) (value : A) (r : Result A E) → Ok value ≡ refused_by cause r → r ≡ Ok value
read_back {A} cause value (Ok x) is = ap Ok (sym (ap value_in is))
  where
    value_in : Result A Outcome → A
    value_in (Ok y) = y
    value_in (Err o) = value
read_back {A} cause value (Err fault) is = absurd (subst WasRead is tt)
  where
    WasRead : Result A Outcome → Type 0
    WasRead (Ok y) = Unit {0}
    WasRead (Err o) = ⊥

-- counts and lengths are numbers of a text
numbers_of : (bytes : List ℕ) (read : OffParts × Mesh) (values : List ℕ) → IsSurfaceText bytes (Ok read) → loop_count read.1 ≤ 1024 →
    AreLengths values → length values ≡ edge_count read.1 → AreNumbers read.1 values
numbers_of bytes read values surface few_loops_are are sized =
    let few = mesh_texts_are_few bytes read (read_back off_cause read (off_of bytes) surface.0) in
    let vertices : read.1.vertices ≤ 1000000 = few.0 in
    let faces : face_count read.1 ≤ 2000000 = few.1 in
    let loops = few_loops read.1 few_loops_are in
    record {
      vertices = omega (arith, vertices);
      faces = omega (arith, faces);
      edges = omega (arith, vertices, faces, loops);
      sizes = λ e l. (All-get_or IsLength values e 0 (subst (λ (n : ℕ). e < n) (sym sized) l) are).fits;
    }

-- ---- a file that holds a text

pub read_again : (files : Files) (cert text : List ℕ) → bytes_of files cert ≡ Some text → length text ≤ 268435456 → Reads cert files (Ok text)
read_again files cert text held short =
    let t : nat_lt 268435456 (length text) ≡ false = le-ltb _ _ short in
    let within : within_text (Some text) ≡ Ok text = rw t refl in
    sym (ap within_text held ∙ within)

module _ (files : Files) (mesh lengths cert text : List ℕ) (held : bytes_of files cert ≡ Some text) where
  -- ---- loops

  module _ (base : List ℕ) (o : Outcome) (b : ℕ) (is_base : word_number base ≡ Some b) (bytes : List ℕ) (reads : Reads mesh files (Ok bytes))
      (read : OffParts × Mesh) (surface : IsSurfaceText bytes (Ok read)) (few : loop_count read.1 ≤ 1024)
      (values : List ℕ) (measured : HasLengths lengths read.1 files (Ok values)) (vertex : ℕ) (based : HasBase b read.1 (Ok vertex))
      (gives : GivesLoopCert read.1 values vertex o) (text_is : text ≡ loop_text (chosen_cert read.1 gives.found.trees)) where
    loops_long : ArePositive read.1 values
    loops_long = lengths_positive read.1 values measured.1 measured.2

    -- the certificate isn't too long to be read
    loops_short : length text ≤ 268435456
    loops_short =
        let c = chosen_cert read.1 gives.found.trees in
        let counts = mesh_texts_are_few bytes read (read_back off_cause read (off_of bytes) surface.0) in
        let shape = gives.valid.shape in
        let distances : length c.tree.distance ≡ read.1.vertices = shape.vertices.distances in
        let depths : length c.dual.depth ≡ face_count read.1 = shape.faces.depths in
        let full : IsLoopCount read.1 (length c.left) = shape.loops in
        let loops = few_loops read.1 few in
        let vertices : read.1.vertices ≤ 1000000 = counts.0 in
        let faces : face_count read.1 ≤ 2000000 = counts.1 in
        subst (λ (t : List ℕ). length t ≤ 268435456) (sym text_is)
        (loop_text_short c
        (chosen_loops_fit read.1 values surface.1 loops_long (numbers_of bytes read values surface few measured.1 measured.2) vertex gives.found.trees gives.found.chosen)
        (omega (arith, distances, vertices)) (omega (arith, depths, faces)) (omega (arith, full, loops)))

    abbrev the_loops : List Loop
    the_loops = loops_at read.1 values vertex gives.found.trees

    loops_said : (outcome : Outcome) → Says (measured_text "loops " "loop " the_loops) outcome → Leads (codes "loops" ∷ mesh ∷ lengths ∷ base ∷ []) files outcome
    unfolding Leads request_of
    loops_said outcome says =
        subst (λ (x : Option ℕ). OnRequest (option_map (loops_request mesh lengths) x) files outcome) (sym is_base)
        (goes bytes reads (goes read surface (goes tt few (goes values measured (goes vertex based (record {
          found = gives.found;
          says = says;
        }))))))

    loops_pass : Answer (codes "check" ∷ mesh ∷ lengths ∷ cert ∷ []) files 0 (count_line "valid loops " (total_size the_loops)) []
    unfolding Leads request_of
    loops_pass =
        let c = chosen_cert read.1 gives.found.trees in
        let again =
        chosen_loops_again read.1 values vertex gives.found.trees surface.1 loops_long (numbers_of bytes read values surface few measured.1 measured.2) gives.found.chosen in
        let least = valid_loops_are_least read.1 values c surface.1 loops_long again.1 in
        let cert_is : Ok (Loops c) ≡ refused_by cert_cause (parsed_cert text) =
        sym (ap (λ (t : List ℕ). refused_by cert_cause (parsed_cert t)) text_is ∙ ap (refused_by cert_cause) again.0) in (
          answers 0 (count_line "valid loops " (total_size the_loops)),
          goes bytes reads (goes read surface (goes tt few (goes values measured
              (goes text (read_again files cert text held loops_short) (goes (Loops c) cert_is (goes tt (omega arith) (inl (record {
                valid = again.1;
                least = least.0;
                least_in_order = valid_loops_are_least_in_order read.1 values c surface.1 loops_long again.1;
                text = ap (λ n. answers 0 (count_line "valid loops " n)) (sym (least.1 ∙ chosen_loops_total read.1 values vertex gives.found.trees surface.1 loops_long gives.found.chosen));
              })))))))),
          (refl, refl, refl),
        )

  -- ---- a basis

  module _ (o : Outcome) (bytes : List ℕ) (reads : Reads mesh files (Ok bytes)) (read : OffParts × Mesh) (is_surface : IsSurfaceText bytes (Ok read))
      (few_loops_are : loop_count read.1 ≤ 1024) (few : read.1.vertices ≤ 1000) (values : List ℕ) (measured : HasLengths lengths read.1 files (Ok values))
      (gives : GivesBasisCert read.1 values o) (text_is : text ≡ basis_text (basis_cert_of read.1 gives.found.trees gives.found.basis)) where
    abbrev m : Mesh
    m = read.1

    surface : IsSurface m
    surface = is_surface.1

    basis_long : ArePositive m values
    basis_long = lengths_positive m values measured.1 measured.2

    -- the certificate isn't too long to be read
    basis_short : length text ≤ 268435456
    basis_short =
        let c = basis_cert_of read.1 gives.found.trees gives.found.basis in
        let mesh_few = mesh_texts_are_few bytes read (read_back off_cause read (off_of bytes) is_surface.0) in
        let shape = gives.valid.shape in
        let trees : length c.trees ≡ m.vertices = shape.vertices.trees in
        let depths : length c.dual.depth ≡ face_count m = shape.faces.depths in
        let full : IsLoopCount m (length c.left) = shape.loops.left in
        let loops = few_loops m few_loops_are in
        let vertices = few in
        let faces : face_count m ≤ 2000000 = mesh_few.1 in
        subst (λ (t : List ℕ). length t ≤ 268435456) (sym text_is)
        (basis_text_short m c
        (chosen_basis_fits m values surface basis_long (numbers_of bytes read values is_surface few_loops_are measured.1 measured.2) gives.found.trees gives.found.basis gives.found.chosen
        gives.found.is_basis)
        few (omega (arith, trees, vertices)) (omega (arith, depths, faces)) (omega (arith, full, loops)) gives.found.least.simple)

    basis_said : (outcome : Outcome) → Says (measured_text "cycles " "cycle " gives.found.basis) outcome → Leads (codes "basis" ∷ mesh ∷ lengths ∷ []) files outcome
    unfolding Leads request_of
    basis_said outcome says =
        goes bytes reads (goes read is_surface (goes tt few_loops_are (goes tt (let small = few in omega (arith, small)) (goes values measured (record {
          found = gives.found;
          shortest = λ first rest same.
              first_of_basis_is_shortest_not_null m values gives.found.trees first rest surface basis_long gives.found.chosen
              (subst (IsChosenBasis m values gives.found.trees) same gives.found.is_basis);
          says = says;
        })))))

    basis_pass : Answer (codes "check" ∷ mesh ∷ lengths ∷ cert ∷ []) files 0 (count_line "valid basis " (total_size gives.found.basis)) []
    unfolding Leads request_of
    basis_pass =
        let c = basis_cert_of read.1 gives.found.trees gives.found.basis in
        let again =
        chosen_basis_again m values gives.found.trees gives.found.basis surface basis_long (numbers_of bytes read values is_surface few_loops_are measured.1 measured.2) gives.found.chosen
        gives.found.is_basis in
        let cert_is : Ok (Basis c) ≡ refused_by cert_cause (parsed_cert text) =
        sym (ap (λ (t : List ℕ). refused_by cert_cause (parsed_cert t)) text_is ∙ ap (refused_by cert_cause) again.0) in (
          answers 0 (count_line "valid basis " (total_size gives.found.basis)),
          goes bytes reads (goes read is_surface (goes tt few_loops_are (goes values measured
              (goes text (read_again files cert text held basis_short) (goes (Basis c) cert_is (goes tt few (inl (record {
                valid = again.1;
                least = valid_bases_are_least m values c surface basis_long again.1;
                least_in_order = valid_bases_are_least_in_order m values c surface basis_long again.1;
                shortest = valid_bases_measure_shortest m values c surface basis_long again.1;
                text = ap (λ n. answers 0 (count_line "valid basis " n)) (sym (chosen_basis_total m values gives.found.trees gives.found.basis surface basis_long gives.found.chosen gives.found.is_basis));
              })))))))),
          (refl, refl, refl),
        )

-- ---- the laws

loops_pass_there : (files : Files) (mesh lengths base cert text : List ℕ) →
    Answer (codes "certify" ∷ mesh ∷ lengths ∷ base ∷ []) files 0 text [] → bytes_of files cert ≡ Some text →
    LoopsPass files mesh lengths base cert
unfolding Leads request_of
loops_pass_there files mesh lengths base cert text (o, leads, shows) held = at (word_number base) refl leads
  where
    low : status_of o ≤ 1
    low = shown_low o text [] shows

    at : (x : Option ℕ) → word_number base ≡ x → OnRequest (option_map (certify_loops mesh lengths) x) files o → LoopsPass files mesh lengths base cert
    at None is on = absurd (let low_status = low in let status = ap status_of on in omega (arith, low_status, status))
    at (Some b) is on =
        let (bytes, reads, on_text) = goes_on o on (reads_refuses mesh files) low in
        let (read, surface, on_surface) = goes_on o on_text (surface_refuses bytes) low in
        let (_, few, on_few) = goes_on o on_surface (limit_refuses limits.Loops 1024 (loop_count read.1)) low in
        let (values, measured, on_lengths) = goes_on o on_few (lengths_refuse lengths read.1 files) low in
        let (vertex, based, gives) = goes_on o on_lengths (base_refuses b read.1) low in
        let text_is = shown_text (loop_text (chosen_cert read.1 gives.found.trees)) o text gives.says shows in (
          the_loops files mesh lengths cert text held base o b is bytes reads read surface few values measured vertex based gives text_is,
          loops_said files mesh lengths cert text held base o b is bytes reads read surface few values measured vertex based gives text_is,
          loops_pass files mesh lengths cert text held base o b is bytes reads read surface few values measured vertex based gives text_is,
        )

basis_passes_there : (files : Files) (mesh lengths cert text : List ℕ) →
    Answer (codes "certify" ∷ mesh ∷ lengths ∷ []) files 0 text [] → bytes_of files cert ≡ Some text →
    BasisPasses files mesh lengths cert
unfolding Leads request_of
basis_passes_there files mesh lengths cert text (o, leads, shows) held =
    let low = shown_low o text [] shows in
    let (bytes, reads, on_text) = goes_on o leads (reads_refuses mesh files) low in
    let (read, surface, on_surface) = goes_on o on_text (surface_refuses bytes) low in
    let (_, loops, on_loops) = goes_on o on_surface (limit_refuses limits.Loops 1024 (loop_count read.1)) low in
    let (_, few, on_few) = goes_on o on_loops (limit_refuses CertificateVertices 1000 read.1.vertices) low in
    let (values, measured, gives) = goes_on o on_few (lengths_refuse lengths read.1 files) low in
    let text_is = shown_text (basis_text (basis_cert_of read.1 gives.found.trees gives.found.basis)) o text gives.says shows in (
      gives.found.basis,
      basis_said files mesh lengths cert text held o bytes reads read surface loops few values measured gives text_is,
      basis_pass files mesh lengths cert text held o bytes reads read surface loops few values measured gives text_is,
    )

-- ---- over other files

-- what is answered is answered over files that agree on those that the words name
pub answered_there : (words : List (List ℕ)) (files later : Files) (text : List ℕ) → Answer words files 0 text [] →
    AgreeOn (named (request_of words)) files later → Answer words later 0 text []
answered_there words files later text (o, leads, shows) same =
    (o, answers_depend_on_named_files words files later same o leads, shows)

pub certified_loops_pass : CertifiedLoopsPass
unfolding request_of
certified_loops_pass files later mesh lengths base cert text answer same held =
    loops_pass_there later mesh lengths base cert text
    (answered_there (codes "certify" ∷ mesh ∷ lengths ∷ base ∷ []) files later text answer (at (word_number base)))
    held
  where
    at : (x : Option ℕ) → AgreeOn (named (option_map (certify_loops mesh lengths) x)) files later
    at None = All-nil (λ name. bytes_of files name ≡ bytes_of later name)
    at (Some b) = same

pub certified_bases_pass : CertifiedBasesPass
unfolding request_of
certified_bases_pass files later mesh lengths cert text answer same held =
    basis_passes_there later mesh lengths cert text
    (answered_there (codes "certify" ∷ mesh ∷ lengths ∷ []) files later text answer same) held
