-- No test of words and files answers: where one ends, it refuses.
use Rattle.surf_answers.proofs.Common.{◌≡◌, ◌<◌, ◌≤◌, inl, inr, ℕ, Bool, true, false, List, [], length, Option, Some, None, Result, Ok, Err, sym, ap, subst, arith, nat_lt, if◌then◌else◌, codes, replicate, bytes_eq, Mesh, edge_count, Cause, due, unread, starved, outcome_of, refused_by, beyond, Outcome, answers, refuses, misses, status_of, Shows, CutsAt, Says, Kind, through, point_cause}
use Rattle.surf_answers.proofs.Commands.{Files, bytes_of, LimitKind, lengths_in, off_of, off_cause, Reads}
use Rattle.surf_answers.proofs.Commands.{within_text, EndsInFault, IsSurfaceText, lengths_for, HasLengths, HasBase}
use Rattle.surf_answers.proofs.Commands.{walk_named, HasWalk, HasKind, kind_named, Extent, fully, Ends, stops, goes}
use Rattle.surf_answers.proofs.Commands.{AtMost, and_then, surface_cause, length_cause, points_in, walk_in}
use Rattle.surf_answers.proofs.Commands.{walk_cause, WalkFile}
use Rattle.surf_base.specs.declared.limits.LimitKind.TheVariants as limits
use Rattle.surf_words.specs.Words.{trimmed as trimmed_words, through as through_words}
use Rattle.surf_run.proofs.Refusals.{off_proper, surface_proper, length_proper, walk_proper, point_proper}
use Rattle.surf_run.proofs.Running.{IsDue}

-- where a step ends, its status is above 1
abbrev pub Refusing : {A : Type 0} → (Result A Outcome → Type 0) → Type 0
Refusing step = (o : Outcome) → step (Err o) → 1 < status_of o

-- the status of a result that ended
abbrev pub end_status : {A : Type 0} → Result A Outcome → ℕ
end_status (Ok a) = 9
end_status (Err o) = status_of o

-- a step with a stated result
stated : {A : Type 0} (r : Result A Outcome) → 1 < end_status r → Refusing (λ x. x ≡ r)
stated r high o is = subst (λ n. 1 < n) (sym (ap end_status is)) high

due_refuses : (c : Cause) → IsDue c → 1 < status_of (outcome_of c)
due_refuses (due (answers s t)) is = absurd is
due_refuses (due (refuses s l)) is = is.0
due_refuses (due misses) is = absurd is
due_refuses unread is = omega arith
due_refuses starved is = omega arith

-- what is read, or the fault of it, whose cause is due
refused_high : {A E : Type 0} (cause : E → Cause) → ((fault : E) → IsDue (cause fault)) → (r : Result A E) → 1 < end_status (refused_by cause r)
refused_high cause all_due (Ok value) = omega arith
refused_high cause all_due (Err fault) = due_refuses (cause fault) (all_due fault)

then_high : {A B : Type 0} (next : A → Result B Outcome) → ((a : A) → 1 < end_status (next a)) → (r : Result A Outcome) → 1 < end_status r →
    1 < end_status (and_then next r)
then_high next all_high (Ok a) high = all_high a
then_high next all_high (Err o) high = high

limited : {A : Type 0} (b : Bool) (o : Outcome) (a : A) → 1 < status_of o → 1 < end_status (if b then Err o else Ok a)
limited true o a high = high
limited false o a high = omega arith

within_high : (b : Option (List ℕ)) → 1 < end_status (within_text b)
within_high None = omega arith
within_high (Some bytes) = limited (nat_lt 268435456 (length bytes)) (beyond limits.Text) bytes (omega arith)

pub reads_refuses : (name : List ℕ) (files : Files) → Refusing (Reads name files)
reads_refuses name files = stated (within_text (bytes_of files name)) (within_high (bytes_of files name))

fault_refuses : (mesh : Mesh) (o : Outcome) → EndsInFault mesh o → 1 < status_of o
fault_refuses mesh o ends = subst (λ (x : Outcome). 1 < status_of x) (sym ends.is) (due_refuses (surface_cause ends.fault) (surface_proper ends.fault).0)

pub surface_refuses : (bytes : List ℕ) → Refusing (IsSurfaceText bytes)
surface_refuses bytes o (inl is) = stated (refused_by off_cause (off_of bytes)) (refused_high off_cause (λ fault. (off_proper fault).0) (off_of bytes)) o is
surface_refuses bytes o (inr (read, is, ends)) = fault_refuses read.1 o ends

pub limit_refuses : (kind : LimitKind) (most count : ℕ) → Refusing (AtMost kind most count)
limit_refuses kind most count o is = subst (λ (x : Outcome). 1 < status_of x) (sym is.1) (omega arith)

for_high : (b : Bool) (r : Result (List ℕ) Outcome) (lengths : List ℕ) → 1 < end_status r → 1 < end_status (if b then Ok lengths else r)
for_high true r lengths high = omega arith
for_high false r lengths high = high

pub lengths_refuse : (word : List ℕ) (mesh : Mesh) (files : Files) → Refusing (HasLengths word mesh files)
lengths_refuse word mesh files o is =
    stated (lengths_for word mesh files)
    (for_high (bytes_eq word (codes "unit")) _ (replicate (edge_count mesh) 1)
    (then_high (λ bytes. refused_by length_cause (lengths_in mesh bytes)) (λ bytes. refused_high length_cause (λ fault. (length_proper fault).0) (lengths_in mesh bytes))
    (within_text (bytes_of files word)) (within_high (bytes_of files word)))) o is

pub base_refuses : (base : ℕ) (mesh : Mesh) → Refusing (HasBase base mesh)
base_refuses base mesh o is = subst (λ (x : Outcome). 1 < status_of x) (sym is.1) (omega arith)

pub walk_refuses : (file : WalkFile) (name : List ℕ) (mesh : Mesh) (files : Files) → Refusing (HasWalk file name mesh files)
walk_refuses file name mesh files o is =
    stated (walk_named file name mesh files)
    (then_high (λ bytes. refused_by (walk_cause file) (walk_in mesh bytes)) (λ bytes. refused_high (walk_cause file) (λ fault. (walk_proper file fault).0) (walk_in mesh bytes))
    (within_text (bytes_of files name)) (within_high (bytes_of files name))) o is

kind_high : (extent : Extent) (mesh : Mesh) (files : Files) → 1 < end_status (kind_named extent mesh files)
kind_high fully mesh files = omega arith
kind_high trimmed_words mesh files = omega arith
kind_high (through_words name) mesh files =
    then_high (λ bytes. and_then (λ points. Ok (through points)) (refused_by point_cause (points_in mesh bytes)))
    (λ bytes. then_high (λ points. Ok (through points)) (λ points. omega arith) (refused_by point_cause (points_in mesh bytes))
    (refused_high point_cause (λ fault. (point_proper fault).0) (points_in mesh bytes)))
    (within_text (bytes_of files name)) (within_high (bytes_of files name))

pub kind_refuses : (extent : Extent) (mesh : Mesh) (files : Files) → Refusing (HasKind extent mesh files)
kind_refuses extent mesh files o is = stated (kind_named extent mesh files) (kind_high extent mesh files) o is

pub cut_refuses : (kind : Kind) (mesh : Mesh) (lengths : List ℕ) (base : ℕ) → Refusing (CutsAt kind mesh lengths base)
cut_refuses kind mesh lengths base o near = subst (λ (x : Outcome). 1 < status_of x) (sym near.is) (omega arith)

-- so what ends with status 0 or 1 ends in the second step
pub goes_on : {A : Type 0} {first : Result A Outcome → Type 0} {second : A → Outcome → Type 0} (o : Outcome) → Ends first second o → Refusing first → status_of o ≤ 1 →
    (a : A) × first (Ok a) × second a o
goes_on o (stops ended) refusing low = absurd (let high = refusing o ended in omega (arith, low, high))
goes_on o (goes a went end) refusing low = (a, went, end)

-- ---- answers with status 0

pub shown_low : (o : Outcome) (text line : List ℕ) → Shows o 0 text line → status_of o ≤ 1
shown_low (answers s t) text line shows = omega (arith, shows.0)
shown_low (refuses s l) text line shows = omega (arith, shows.0)
shown_low misses text line shows = absurd shows

-- the text of an answer is what is said
pub shown_text : (said : List ℕ) (o : Outcome) (text : List ℕ) → Says said o → Shows o 0 text [] → text ≡ said
shown_text said o text says shows = at (nat_lt 1073741824 (length said)) (subst (λ (x : Outcome). Shows x 0 text []) says shows)
  where
    at : (b : Bool) → Shows (if b then beyond limits.Answer else answers 0 said) 0 text [] → text ≡ said
    at true shown = absurd (omega (arith, shown.0))
    at false shown = shown.1
