-- Lines read one by one.
use Rattle.std.proofs.Common.{◌≡◌, ℕ, ◌+◌, Bool, List, [], ◌∷◌, None, Some, refl, sym, ap, ◌∙◌}
use Rattle.std.specs.Prelude.{Ok, Err}
use Rattle.job_lines.specs.Says.{end_of_text, said_at}
use Rattle.job_text.specs.States.{State, after}
use Rattle.job_text.specs.Rules.{broken}
use Rattle.job_text.specs.Verdicts.{going_on, verdict_from}

turn : (prep : Bool) (n : ℕ) (line : List ℕ) (ls : List (List ℕ)) (s : State)
    → verdict_from prep n (line ∷ ls) s ≡ going_on n (broken prep s (said_at s.place line)) (verdict_from prep (n + 1) ls (after (said_at s.place line) s))
unfolding verdict_from
turn prep n line ls s = refl

end : (prep : Bool) (n : ℕ) (s : State) → verdict_from prep n [] s ≡ going_on n (broken prep s end_of_text) (Ok s)
unfolding verdict_from
end prep n s = refl

-- a line that keeps the rules leads on
pub line_taken : (prep : Bool) (n : ℕ) (all : List (List ℕ)) (line : List ℕ) (ls : List (List ℕ)) (s new : State) → all ≡ line ∷ ls
    → broken prep s (said_at s.place line) ≡ None → new ≡ after (said_at s.place line) s
    → verdict_from prep n all s ≡ verdict_from prep (n + 1) ls new
line_taken prep n all line ls s new e b a =
    ap (λ x. verdict_from prep n x s) e ∙ turn prep n line ls s
    ∙ ap (λ x. going_on n x (verdict_from prep (n + 1) ls (after (said_at s.place line) s))) b ∙ ap (verdict_from prep (n + 1) ls) (sym a)

-- one that breaks a rule is the first fault
pub line_refused : (prep : Bool) (n : ℕ) (all : List (List ℕ)) (line : List ℕ) (ls : List (List ℕ)) (s : State) (rule : ℕ) → all ≡ line ∷ ls
    → broken prep s (said_at s.place line) ≡ Some rule → verdict_from prep n all s ≡ Err (record { line = n; rule = rule })
line_refused prep n all line ls s rule e b =
    ap (λ x. verdict_from prep n x s) e ∙ turn prep n line ls s
    ∙ ap (λ x. going_on n x (verdict_from prep (n + 1) ls (after (said_at s.place line) s))) b

-- the end of the text
pub text_taken : (prep : Bool) (n : ℕ) (all : List (List ℕ)) (s : State) → all ≡ [] → broken prep s end_of_text ≡ None → verdict_from prep n all s ≡ Ok s
text_taken prep n all s e b = ap (λ x. verdict_from prep n x s) e ∙ end prep n s ∙ ap (λ x. going_on n x (Ok s)) b

pub text_refused : (prep : Bool) (n : ℕ) (all : List (List ℕ)) (s : State) (rule : ℕ) → all ≡ [] → broken prep s end_of_text ≡ Some rule
    → verdict_from prep n all s ≡ Err (record { line = n; rule = rule })
text_refused prep n all s rule e b = ap (λ x. verdict_from prep n x s) e ∙ end prep n s ∙ ap (λ x. going_on n x (Ok s)) b

pub ruleset reading_turns = (line_taken, line_refused, text_taken, text_refused)
