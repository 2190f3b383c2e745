-- What passes no number stays below it.
use Rattle.std.proofs.Common.{◌≡◌, ◌≤◌, ℕ, ◌+◌, Bool, true, false, List, [], ◌∷◌, Option, Some, None, refl, sym, ◌∙◌, arith}
use Rattle.std.specs.Prelude.{if◌then◌else◌, nat_lt}
use Rattle.std.proofs.lemmas.Bool.{ltb-false}
use Rattle.spl_tree.specs.declared.expressions.Kind.{Kind}
use Rattle.spl_tree.specs.declared.expressions.Kind.TheVariants as kind
use Rattle.spl_sorts.specs.spl_meaning.Names.{Formal, profile_of, formals_of}
use Rattle.spl_sorts.specs.spl_meaning.Kinds.{result_width}
use Rattle.spl_sorts.specs.spl_meaning.Pending.{formal_words, formals_words, result_words}
use Rattle.spl_sorts.specs.spl_meaning.Limits.{passing, parameter_sizes, most_parameters}
use Rattle.spl_depths.specs.HeadingLaws.{HeadingsHaveFewWords}
use Rattle.spl_depths.proofs.PassingWalks.{counted}

-- words behind some
none_passes : (most before : ℕ) (fs : List Formal) → before ≤ most → passing 3 most before (parameter_sizes fs) ≡ [] → before + formals_words fs ≤ most
none_passes most before [] l e = omega arith
none_passes most before (f ∷ fs) l e =
    by (λ k n. none_passes most (before + formal_words f) fs k n) (nat_lt most (before + formal_words f)) refl (sym (counted 3 most before f fs) ∙ e)
  where
    by : (before + formal_words f ≤ most → passing 3 most (before + formal_words f) (parameter_sizes fs) ≡ [] → before + formal_words f + formals_words fs ≤ most)
        → (b : Bool) → nat_lt most (before + formal_words f) ≡ b
        → (if b then record { limit = 3; at = f.at; count = before + formal_words f } ∷ [] else passing 3 most (before + formal_words f) (parameter_sizes fs)) ≡ []
        → before + (formal_words f + formals_words fs) ≤ most
    by others true h e = cc
    by others false h e = let r = others (ltb-false most (before + formal_words f) h) e in omega arith

-- a result has few words
few_of_result : (k : Option Kind) → result_width k ≤ 59
few_of_result None = omega arith
few_of_result (Some kind.Double) = omega arith
few_of_result (Some kind.Integer) = omega arith
few_of_result (Some kind.Logical) = omega arith
few_of_result (Some kind.Byte) = omega arith

pub few_in_heading : HeadingsHaveFewWords
few_in_heading h e = none_passes most_parameters (result_words (profile_of h)) (formals_of h) (few_of_result h.result) e
