-- The words of a command line, and the command that they are.
use Rattle.std.specs.Prelude.{◌≡◌, ℕ, ◌-◌, ◌==◌, ◌&&◌, ◌||◌, Bool, List, [], ◌∷◌, ◌++◌, length, map, flat_map, String}
use Rattle.std.specs.Prelude.{Option, Some, None, MatchOption, option_map, option_and_then, nat_le, nat_lt, zip}
use Rattle.std.specs.Prelude.{if◌then◌else◌, codes, string_bytes}
use Rattle.std.specs.List.{list_all, repeat}
use Rattle.std.specs.Str.{bytes_eq}
use Prim.Native.String.{String as Literal}
use Rattle.surf_text.specs.Text.{whole, words_of}
use Rattle.surf_words.specs.declared.cuts.CutWords.{CutWords}
use Rattle.surf_words.specs.declared.cuts.CutWords.TheVariants.{Full, Trimmed, Through}
use Rattle.surf_words.specs.Shapes.{Shape, shape_named}
use Rattle.surf_words.specs.declared.words.Command.{Command}
use Rattle.surf_words.specs.declared.words.Command.TheVariants.{Help, Version, Info, Dist, Loops, Basis, Cycle}
use Rattle.surf_words.specs.declared.words.Command.TheVariants.{CutFull, CutTrimmed, CutThrough, Sew, Disc, Class, Same}
use Rattle.surf_words.specs.declared.words.Command.TheVariants.{Confirm, Shortest, CertifyLoops, CertifyBasis, Check}
use Rattle.surf_words.specs.declared.words.Command.TheVariants.{Lengths, Gen, Try}
use Rattle.surf_words.specs.declared.words.Command.TheVariants.{LargeBasis, LargeCycle, LargeShortest}
use Rattle.std.specs.declared.alloc.Global.{Global}

-- the bytes of each word
abbrev pub texts : List (String Global) → List (List ℕ)
texts words = map string_bytes words

-- how far a surface is to be cut: along the full cut, the trimmed one, or the one through the vertices of a file
pub data Extent : Type 0 where
  fully : Extent
  trimmed : Extent
  through : List ℕ → Extent

-- a row of the command table, with the words that are given in it: names of files, the word of lengths, numbers
pub data Request : Type 0 where
  help : Request
  version : Request
  info : List ℕ → Request
  dist : List ℕ → List ℕ → ℕ → Request
  loops : List ℕ → List ℕ → ℕ → Request
  basis : List ℕ → List ℕ → Request
  cycle : List ℕ → List ℕ → Request
  large_basis : List ℕ → List ℕ → Request
  large_cycle : List ℕ → List ℕ → Request
  cut : Extent → List ℕ → List ℕ → ℕ → Request
  sew : List ℕ → Request
  disc : List ℕ → Request
  class : List ℕ → List ℕ → Request
  same : List ℕ → List ℕ → List ℕ → Request
  confirm : List ℕ → List ℕ → List ℕ → Request
  shortest : List ℕ → List ℕ → List ℕ → Request
  large_shortest : List ℕ → List ℕ → List ℕ → Request
  certify_loops : List ℕ → List ℕ → ℕ → Request
  certify_basis : List ℕ → List ℕ → Request
  check : List ℕ → List ℕ → List ℕ → Request
  lengths : List ℕ → ℕ → Request
  gen_shape : Shape → Request
  try_shape : Shape → ℕ → Request

-- ---- the command table

-- a number word: digits of a value at most 4,294,967,295
abbrev pub word_number : List ℕ → Option ℕ
word_number word = option_and_then (λ n. if nat_lt 4294967295 n then None else Some n) (whole word)

-- a unit of length has at most 9 decimals
abbrev pub few_decimals : ℕ → Option ℕ
few_decimals n = if nat_le n 9 then Some n else None

-- A row of the table: its words and what they ask for, as the help has them, and the request that they are with the
-- words that are given for its names.
pub data Row : Type 0 where
  row : Literal → Literal → ((Literal → List ℕ) → Option Request) → Row

-- what is asked of a mesh with lengths, and of one with lengths at a base
abbrev pub with_lengths : (List ℕ → List ℕ → Request) → (Literal → List ℕ) → Option Request
with_lengths asked w = Some (asked (w "M") (w "L"))

abbrev pub at_base : (List ℕ → List ℕ → ℕ → Request) → (Literal → List ℕ) → Option Request
at_base asked w = option_map (asked (w "M") (w "L")) (word_number (w "x"))

-- the torus of two numbers, and the chain of three
abbrev pub torus_of : (Literal → List ℕ) → Option Shape
torus_of w = shape_named 3 (Some 1) (word_number (w "a")) (word_number (w "b"))

abbrev pub chain_of : (Literal → List ℕ) → Option Shape
chain_of w = shape_named 4 (word_number (w "g")) (word_number (w "a")) (word_number (w "b"))

-- a shape with a scatter
abbrev pub tried : Option Shape → Option ℕ → Option Request
tried shape scatter = option_and_then (λ s. option_map (try_shape s) scatter) shape

abbrev pub command_table : List Row
command_table =
    row "info M" "counts, Euler characteristic, genus or crosscaps" (λ w. Some (info (w "M")))
    ∷ row "dist M L x" "the distance of each vertex from vertex x" (at_base dist)
    ∷ row "loops M L x" "a shortest system of independent loops at x" (at_base loops)
    ∷ row "basis M L" "a shortest homology basis (mod 2)" (with_lengths basis)
    ∷ row "cycle M L" "a shortest cycle that doesn't separate the surface" (with_lengths cycle)
    ∷ row "basis M L large" "the same as basis M L on a mesh of any size" (with_lengths large_basis)
    ∷ row "cycle M L large" "the same as cycle M L on a mesh of any size" (with_lengths large_cycle)
    ∷ row "cut M L x full" "the mesh cut into one disc" (at_base (cut fully))
    ∷ row "cut M L x trim" "the same with the cut's loose ends left uncut" (at_base (cut trimmed))
    ∷ row "cut M L x through P" "the mesh cut into one disc through the vertices of P"
    (λ w. at_base (cut (through (w "P"))) w)
    ∷ row "sew M" "the mesh that was cut, from what cut wrote" (λ w. Some (sew (w "M")))
    ∷ row "disc M" "whether a mesh is a disc" (λ w. Some (disc (w "M")))
    ∷ row "class M W" "whether a closed walk is a boundary, with evidence" (λ w. Some (class (w "M") (w "W")))
    ∷ row "same M W W2" "whether two closed walks are homologous (mod 2)" (λ w. Some (same (w "M") (w "W") (w "W2")))
    ∷ row "confirm M W C" "whether the evidence that class wrote is right"
    (λ w. Some (confirm (w "M") (w "W") (w "C")))
    ∷ row "shortest M L W" "a shortest closed walk homologous to W"
    (λ w. Some (shortest (w "M") (w "L") (w "W")))
    ∷ row "shortest M L W large" "the same as shortest M L W on larger meshes"
    (λ w. Some (large_shortest (w "M") (w "L") (w "W")))
    ∷ row "certify M L x" "a certificate of loops at vertex x" (at_base certify_loops)
    ∷ row "certify M L" "a certificate of a basis" (with_lengths certify_basis)
    ∷ row "check M L C" "whether a certificate is valid, and its total" (λ w. Some (check (w "M") (w "L") (w "C")))
    ∷ row "lengths M k" "the lengths of the edges from coordinates, in units of 10^-k"
    (λ w. option_map (lengths (w "M")) (option_and_then few_decimals (word_number (w "k"))))
    ∷ row "gen torus a b" "a torus of a by b squares" (λ w. option_map gen_shape (torus_of w))
    ∷ row "gen chain g a b" "a chain of g such tori" (λ w. option_map gen_shape (chain_of w))
    ∷ row "try torus a b s" "a summary of a torus with lengths scattered by s"
    (λ w. tried (torus_of w) (word_number (w "s")))
    ∷ row "try chain g a b s" "the same of a chain" (λ w. tried (chain_of w) (word_number (w "s")))
    ∷ []

-- Words fit those of a row if they are as many, and each is the row's own or stands where the row has a name: a word of
-- one letter or two.
abbrev pub fits : List (List ℕ) → List (List ℕ) → Bool
fits names words =
    length names == length words && list_all (λ p. nat_le (length p.0) 2 || bytes_eq p.1 p.0) (zip names words)

-- the word that is given for a name
abbrev pub given_for : List ℕ → List (List ℕ) → List (List ℕ) → List ℕ
given_for sought (name ∷ names) (word ∷ words) = if bytes_eq name sought then word else given_for sought names words
given_for sought names words = []

-- the request of the first row that words fit
abbrev pub request_in : List Row → List (List ℕ) → Option Request
request_in [] words = None
request_in (row call effect asked ∷ others) words =
    if fits (words_of (codes call)) words
    then asked (λ name. given_for (codes name) (words_of (codes call)) words)
    else request_in others words

-- the request that words are: one of the table, or of two more rows, which the help has on a line of their own
unfoldable pub request_of : List (List ℕ) → Option Request
request_of words =
    request_in (row "--help" "" (λ w. Some help) ∷ row "--version" "" (λ w. Some version) ∷ command_table) words

-- how far a surface is to be cut, of the code
abbrev pub extent_of : CutWords → Extent
extent_of Full = fully
extent_of Trimmed = trimmed
extent_of (Through points) = through points.now

-- a command of the code as a row of the command table
abbrev pub request : Command → Request
request Help = help
request Version = version
request (Info mesh) = info mesh.now
request (Dist mesh word base) = dist mesh.now word.now base
request (Loops mesh word base) = loops mesh.now word.now base
request (Basis mesh word) = basis mesh.now word.now
request (Cycle mesh word) = cycle mesh.now word.now
request (LargeBasis mesh word) = large_basis mesh.now word.now
request (LargeCycle mesh word) = large_cycle mesh.now word.now
request (CutFull mesh word base) = cut fully mesh.now word.now base
request (CutTrimmed mesh word base) = cut trimmed mesh.now word.now base
request (CutThrough mesh word base points) = cut (through points.now) mesh.now word.now base
request (Sew mesh) = sew mesh.now
request (Disc mesh) = disc mesh.now
request (Class mesh walk) = class mesh.now walk.now
request (Same mesh first second) = same mesh.now first.now second.now
request (Confirm mesh walk cert) = confirm mesh.now walk.now cert.now
request (Shortest mesh word walk) = shortest mesh.now word.now walk.now
request (LargeShortest mesh word walk) = large_shortest mesh.now word.now walk.now
request (CertifyLoops mesh word base) = certify_loops mesh.now word.now base
request (CertifyBasis mesh word) = certify_basis mesh.now word.now
request (Check mesh word cert) = check mesh.now word.now cert.now
request (Lengths mesh decimals) = lengths mesh.now decimals
request (Gen shape) = gen_shape shape
request (Try shape scatter) = try_shape shape scatter

-- The command that was found is what is asked. Where none was found, nothing is.
abbrev pub IsAsked : Option Command → Option Request → Type 0
IsAsked found asked = MatchOption found (asked ≡ None) (λ c. asked ≡ Some (request c))

-- The command that was found is the request that words are.
abbrev pub Asks : Option Command → List (List ℕ) → Type 0
Asks found words = IsAsked found (request_of words)

-- ---- the fixed texts

abbrev pub version_text : List ℕ
version_text = codes "surf 1.0.0\n"

-- the line of a row in the help, and the blanks before the next
abbrev pub usage_line : Row → List ℕ
usage_line (row call effect asked) =
    codes "surf " ++ codes call ++ repeat (22 - length (codes call)) (codes " ") ++ codes effect ++ codes "\n       "

-- how the program is called, line by line
abbrev pub help_text : List ℕ
help_text =
    codes "surf: shortest loops, least bases and cuts of closed surface meshes\n"
    ++ codes "\n"
    ++ codes "usage: "
    ++ flat_map usage_line command_table
    ++ codes "surf --help | --version\n"
    ++ codes "\n"
    ++ codes "files: M  a mesh in OFF, one vertex or face a line\n"
    ++ codes "       L  the word unit, or a file with a line u v n for each edge: its ends and its length\n"
    ++ codes "       C  what certify or class wrote\n"
    ++ codes "       W  a closed walk: its vertices on one line, the first at the end again\n"
    ++ codes "       P  vertices on one line\n"
    ++ codes "numbers: x a vertex from 0; k from 0 to 9; lengths whole, from 1 to 4294967295\n"
    ++ codes "\n"
    ++ codes "status: 0 done, 1 no, 2 words, 3 mesh text, 4 no surface, 5 lengths, 6 limit, 7 vertex,\n"
    ++ codes "        8 certificate or evidence text, 9 file, 10 output, 11 memory, 12 coordinates,\n"
    ++ codes "        13 walk, 14 copies, 15 vertices; from 2 on with a line on standard error\n"
    ++ codes "limits: 1000000 vertices, 2000000 faces, 1024 loops; 20000 vertices for basis and cycle,\n"
    ++ codes "        1000 for certify M L; 8 loops for shortest, and 65536 vertices times 2^loops,\n"
    ++ codes "        or 16 and 16777216 with large\n"
    ++ codes "example: surf lengths eight.off 6 > eight.len; surf basis eight.off eight.len\n"
    ++ codes "manual: docs/guide.md of the repository\n"
