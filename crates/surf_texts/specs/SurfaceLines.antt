-- The line of the first fault for which a mesh is no surface.
use Rattle.std.specs.Prelude.{[], ◌∷◌, slice_index}
use Rattle.surf_check.specs.declared.checking.SurfaceFault.{SurfaceFault}
use Rattle.surf_check.specs.declared.checking.SurfaceFault.TheVariants.{Empty, Border, Crowded, Isolated, Pinched}
use Rattle.surf_check.specs.declared.checking.SurfaceFault.TheVariants.{Apart, Memory}
use Rattle.surf_texts.specs.Cause.{Cause, starved, told}

-- the cause that a fault is
abbrev pub surface_cause : SurfaceFault → Cause
surface_cause Empty = told 4 "surface: empty" []
surface_cause (Border u v face) = told 4 "surface: border" (u ∷ v ∷ face ∷ [])
surface_cause (Crowded u v faces) =
    told 4 "surface: crowded" (u ∷ v ∷ slice_index faces 0 ∷ slice_index faces 1 ∷ slice_index faces 2 ∷ [])
surface_cause (Isolated v) = told 4 "surface: isolated" (v ∷ [])
surface_cause (Pinched v first second) = told 4 "surface: pinched" (v ∷ first ∷ second ∷ [])
surface_cause (Apart face) = told 4 "surface: apart" (face ∷ [])
surface_cause Memory = starved
