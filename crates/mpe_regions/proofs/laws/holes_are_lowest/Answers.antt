-- The hole lies in the area and meets no region, and each lower place does.
use Rattle.std.proofs.Common.{◌+◌, arith}
use Rattle.std.proofs.lemmas.Bool.{and_from, le-leb}
use Rattle.std.proofs.lemmas.Option.{same_Some}
use Rattle.mpe_regions.proofs.PlaceLemmas.{hole-within, hole-free, hole-lowest}
use Rattle.mpe_regions.proofs.laws.holes_are_lowest.Goals as goal

pub returns : goal.returns
returns c = λ a want at sound found.
    let inside = hole-within a.size want 0 at a.list sound.laid_out found in (
      and_from _ _ (le-leb (at + want) a.size inside.1) (hole-free a.size want 0 at a.list sound.laid_out found),
      λ p lower. hole-lowest a.size want 0 p a.list _ sound.laid_out found (λ x is. rw (← same_Some _ _ is) lower) (omega arith),
    )
