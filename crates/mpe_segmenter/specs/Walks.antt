-- How lists are made one element after the other. These serve the proofs alone.
use Rattle.std.specs.Prelude.{ℕ, ◌+◌, ◌&&◌, not, nat_eq, if◌then◌else◌, List, [], ◌∷◌, ◌++◌, is_some}
use Rattle.std.specs.Cmp.Lexicographic.{pointwise}
use Rattle.spl_branch.specs.declared.modules.Define.{Define}
use Rattle.spl_branch.specs.declared.modules.Module.{Module}
use Rattle.mpe_segmenter.specs.Names.{Part, segment_of}
use Rattle.mpe_segmenter.specs.Places.{place_of, with_place}
use Rattle.mpe_segmenter.specs.Entries.{Wanted, with_want, own_count}

-- segments with one module more, in the segment of its name or in a new one behind all
abbrev pub with_module : List Part → Module → List Part
with_module [] m = record { name = segment_of m; modules = m ∷ [] } ∷ []
with_module (p ∷ ps) m = if pointwise nat_eq (segment_of m) p.name then record { name = p.name; modules = p.modules ++ m ∷ [] } ∷ ps else p ∷ with_module ps m

-- names with those of the defines that may be called, whose places begin at k
abbrev pub with_defines : List (List ℕ × ℕ) → ℕ → List Define → List (List ℕ × ℕ)
with_defines es k [] = es
with_defines es k (d ∷ ds) = with_defines (if d.callable then with_place es d.name.text.items k else es) (k + 1) ds

-- with those of modules
abbrev pub with_modules : List (List ℕ × ℕ) → ℕ → List Module → List (List ℕ × ℕ)
with_modules es k [] = es
with_modules es k (m ∷ ms) = with_modules (with_defines es k m.defines.items) (k + own_count m) ms

-- the names that a segment wants with one more, unless it is there or one of these procedures meets it
abbrev pub with_unmet : List (List ℕ × ℕ) → List Wanted → Wanted → List Wanted
with_unmet called vs w = if not w.gate && is_some (place_of w.name called) then vs else with_want vs w

abbrev pub with_wants : List (List ℕ × ℕ) → List Wanted → List Wanted → List Wanted
with_wants called vs [] = vs
with_wants called vs (w ∷ ws) = with_wants called (with_unmet called vs w) ws
