-- Which calls by themselves are covered.
use Rattle.std.specs.Prelude.{is_some, ℕ, ◌+◌, ◌&&◌, ◌||◌, not, Bool, false, List, Option, Some}
use Rattle.spl_targets.specs.hp_word.declared.intrinsics.Intrinsic.{Intrinsic}
use Rattle.spl_targets.specs.spl_tree.Trees.{Trees}
use Rattle.spl_targets.specs.spl_meaning.Values.{Who, procedure, subroutine}
use Rattle.spl_targets.specs.spl_meaning.Names as n
use Rattle.spl_targets.specs.spl_meaning.Names.{Sort, intrinsic_profile}
use Rattle.spl_targets.specs.spl_meaning.Pending.{result_words}
use Rattle.spl_targets.specs.spl_meaning.References.{Setting}
use Rattle.spl_targets.specs.spl_code.Calls.{Scope}
use Rattle.spl_targets.specs.spl_whom.Whom.{is_gate}
use Rattle.spl_targets.specs.spl_covered.Covered.{are_covered_arguments}

-- a call of an intrinsic, in no split mode, whose arguments are covered
abbrev pub is_covered_question : (Who → Bool) → Scope → Setting → List ℕ → Intrinsic → Trees → ℕ → Bool
is_covered_question may c st x i es k =
    is_gate st x i && are_covered_arguments may c st (intrinsic_profile i).formals es (k + result_words (intrinsic_profile i))

-- a call of an intrinsic by itself
abbrev pub is_asked_call : (Who → Bool) → Scope → Setting → List ℕ → Option Sort → Trees → ℕ → Bool
is_asked_call may c st x (Some (n.intrinsic i)) es k = is_covered_question may c st x i es k
is_asked_call may c st x sort es k = false

-- one of a procedure that may be called in no split mode, or of a subroutine that may be called and has an entry, with a result or without
abbrev pub is_procedure_call : (Who → Bool) → Scope → Setting → List ℕ → Option Sort → Trees → ℕ → Bool
is_procedure_call may c st x (Some (n.procedure p)) es k = (may (procedure x) && not st.split) && are_covered_arguments may c st p.formals es (k + result_words p)
is_procedure_call may c st x (Some (n.subroutine p)) es k =
    (may (subroutine x) && is_some (c.subroutines x)) && are_covered_arguments may c st p.formals es (k + result_words p)
is_procedure_call may c st x sort es k = false

-- either
abbrev pub is_covered_call : (Who → Bool) → Scope → Setting → List ℕ → Option Sort → Trees → ℕ → Bool
is_covered_call may c st x sort es k = is_asked_call may c st x sort es k || is_procedure_call may c st x sort es k
