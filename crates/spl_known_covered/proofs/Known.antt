-- Known programs, computed.
use Rattle.std.proofs.Common.{refl, true, false}
use Rattle.spl_known.proofs.Computing.{all}
use Rattle.spl_known_covered.specs.Programs.{AllSo, EachSo, EachInnerSo, covered_texts, other_texts, calling_texts, uncalled_texts, inner_texts, uncalled_inners}

pub all_covered : AllSo true covered_texts
unfolding all
all_covered = (refl, (refl, (refl, (refl, (refl, (refl, (refl, (refl, (refl, (refl, (refl, (refl, (refl, (refl, (refl, (refl, (refl, (refl, (refl, (refl, (refl, (refl, (refl, (refl, (refl, (refl, (refl, (refl, (refl, (refl, (refl, (refl, tt))))))))))))))))))))))))))))))))

pub none_covered : AllSo false other_texts
unfolding all
none_covered = (refl, tt)

pub all_calling : EachSo true calling_texts
unfolding all
all_calling = (refl, (refl, (refl, (refl, (refl, (refl, (refl, (refl, (refl, (refl, (refl, (refl, tt))))))))))))

pub none_calling : EachSo false uncalled_texts
unfolding all
none_calling = (refl, (refl, (refl, tt)))

pub all_inner : EachInnerSo true inner_texts
unfolding all
all_inner = (refl, (refl, (refl, (refl, (refl, (refl, (refl, (refl, (refl, (refl, (refl, (refl, (refl, (refl, (refl, (refl, (refl, tt)))))))))))))))))

pub none_inner : EachInnerSo false uncalled_inners
unfolding all
none_inner = (refl, (refl, tt))
