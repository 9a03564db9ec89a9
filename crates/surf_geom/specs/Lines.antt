-- The line of a fault of coordinates.
use Rattle.std.specs.Prelude.{ℕ, List, [], ◌∷◌, Option, Some, None, codes}
use Rattle.surf_text.specs.Numbers.{numbered}
use Rattle.surf_geom.specs.declared.fault.GeomFault.{GeomFault}
use Rattle.surf_geom.specs.declared.fault.GeomFault.TheVariants.{Form, Range, Zero, Great, Memory}

-- a fault by the vertex and the place, or by the ends of the edge. Want of memory has no line of its own
abbrev pub fault_line : GeomFault → Option (List ℕ)
fault_line (Form vertex place) = Some (numbered (codes "coordinates: form") (vertex ∷ place ∷ []))
fault_line (Range vertex place) = Some (numbered (codes "coordinates: range") (vertex ∷ place ∷ []))
fault_line (Zero u v) = Some (numbered (codes "coordinates: zero") (u ∷ v ∷ []))
fault_line (Great u v) = Some (numbered (codes "coordinates: great") (u ∷ v ∷ []))
fault_line Memory = None
