-- Links as a chain lists them.
use Rattle.surf_surfaces.specs.Turning.{Link}
use Rattle.surf_check.specs.declared.answers.ChainLink.{ChainLink}

-- the face of a link, and the ends of its edge
abbrev pub link_of : ChainLink → Link
link_of link = record { face = link.face; ends = (link.u, link.v) }
