-- A heading that passes no limit has a result and parameters of at most 59 words.
use Rattle.std.specs.Prelude.{◌+◌, ◌≡◌, ◌≤◌, []}
use Rattle.spl_tree.specs.DeclarationTrees.{Heading}
use Rattle.spl_sorts.specs.spl_meaning.Names.{formals_of, profile_of}
use Rattle.spl_sorts.specs.spl_meaning.Pending.{formals_words, result_words}
use Rattle.spl_sorts.specs.spl_meaning.Limits.{heading_limits, most_parameters}

abbrev pub HeadingsHaveFewWords : Type 0
HeadingsHaveFewWords = (h : Heading) → heading_limits h ≡ [] → result_words (profile_of h) + formals_words (formals_of h) ≤ most_parameters
