-- The keyword of an OFF text, which the Geomview manual writes `[ST][C][N][4][n]OFF`: those without `4` and `n`.
use Rattle.std.specs.Prelude.{ℕ, List, [], ◌∷◌, Option, codes, find}
use Rattle.std.specs.Str.{bytes_eq}
use Rattle.surf_off.specs.declared.header.Header.{Header}
use Rattle.surf_off.specs.declared.header.Header.TheVariants.{Off, Coff, Noff, Cnoff, Stoff, Stcoff, Stnoff, Stcnoff}

abbrev pub keyword : Header → List ℕ
keyword Off = codes "OFF"
keyword Coff = codes "COFF"
keyword Noff = codes "NOFF"
keyword Cnoff = codes "CNOFF"
keyword Stoff = codes "STOFF"
keyword Stcoff = codes "STCOFF"
keyword Stnoff = codes "STNOFF"
keyword Stcnoff = codes "STCNOFF"

abbrev pub headers : List Header
headers = Off ∷ Coff ∷ Noff ∷ Cnoff ∷ Stoff ∷ Stcoff ∷ Stnoff ∷ Stcnoff ∷ []

-- the header of which a word is the keyword
abbrev pub header_of : List ℕ → Option Header
header_of word = find (λ header. bytes_eq word (keyword header)) headers
