-- The law of this crate.
use Rattle.std.specs.Prelude.{ℕ, List}
use Rattle.spl_intrinsics.specs.hp_word.declared.intrinsics.Intrinsic.{Intrinsic}
use Rattle.spl_intrinsics.specs.hp_word.Intrinsics.{answer_words}
use Rattle.spl_intrinsics.specs.spl_meaning.Serving.{served}
use Rattle.spl_intrinsics.specs.spl_meaning.States.{State, Outcome, then_go, code_dropped}
use Rattle.spl_intrinsics.specs.spl_code.Code.{as_value}
use Rattle.spl_intrinsics.specs.spl_code.Parts.{Part, nothing, ◌⨟◌}
use Rattle.spl_intrinsics.specs.spl_follow.Simulating.{Surroundings, Simulates}
use Rattle.spl_intrinsics.specs.Calls.{asked, IsAsked}

-- A call of an intrinsic within an expression gives what it answers, over the code of its arguments; no condition code is known behind it.
abbrev pub AnswersSimulate : Type 0
AnswersSimulate = (z : Surroundings) (d k need : ℕ) (i : Intrinsic) (x : List ℕ) (a : Part) (words : State → Outcome (List ℕ)) → IsAsked z d k need i x a words
    → Simulates z d as_value (answer_words i) k need (asked i x a ⨟ nothing) (λ s. code_dropped (then_go (words s) (λ ws t. served i ws t)))
