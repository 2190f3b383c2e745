-- The words of a call, as parts of what waits in an expression.
use Rattle.std.specs.Prelude.{ℕ, ◌+◌, max, Option}
use Rattle.spl_tree.specs.Trees.{Trees}
use Rattle.spl_sorts.specs.spl_meaning.Names.{Names, Sort}
use Rattle.spl_sorts.specs.spl_meaning.Kinds.{callable}
use Rattle.spl_sorts.specs.spl_meaning.Pending.{formals_words, profile_formals, profile_result_words, link_words, most_of}

-- the result, the parameters and the link, where a name can be called
abbrev pub call_words : Option Sort → ℕ
call_words s = profile_result_words (callable s) + formals_words (profile_formals (callable s)) + link_words s

-- a name with what stands behind it
abbrev pub call_most : Names → Option Sort → Trees → ℕ
call_most names s es = max (most_of names (profile_formals (callable s)) (profile_result_words (callable s)) es) (call_words s)
