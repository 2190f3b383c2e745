-- What contracts see of a program's segments: the letters of their names, and their modules.
use Rattle.std.specs.Prelude.{ℕ, List, map}
use Rattle.mpe_segmenter.specs.declared.parts.Part as declared
use Rattle.mpe_segmenter.specs.Names.{Part}

abbrev pub part_of : declared.Part → Part
part_of p = record { name = p.name.text.items; modules = p.modules.items }

abbrev pub parts_in : List declared.Part → List Part
parts_in ps = map part_of ps

-- the names of segments
abbrev pub names_of : List Part → List (List ℕ)
names_of ps = map (λ p. p.name) ps

abbrev pub names_in : List declared.Part → List (List ℕ)
names_in ps = names_of (parts_in ps)
