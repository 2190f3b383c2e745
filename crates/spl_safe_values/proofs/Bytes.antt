-- Comparisons of bytes.
use Rattle.std.proofs.Common.{◌≡◌, ℕ, zero, suc, ◌==◌, Bool, true, false, List, [], ◌∷◌, refl, ◌∙◌}
use Rattle.spl_covered.specs.hp_word.Words.{signed, logically_compared}
use Rattle.spl_covered.specs.hp_word.declared.arithmetic.Code.{Code}
use Rattle.spl_covered.specs.hp_word.declared.arithmetic.Code.TheVariants.{Equal}
use Rattle.spl_covered.specs.spl_meaning.Names.{truth_word}
use Rattle.spl_covered.specs.spl_meaning.Kinds.{width}
use Rattle.spl_covered.specs.spl_meaning.Elements.{next_located, neighbour, count_size, is_upward, told_apart, compared, compared_by, compared_text, relation_told}
use Rattle.spl_covered.specs.spl_meaning.Operations.{related}
use Rattle.spl_covered.specs.spl_meaning.References.{Located}
use Rattle.spl_covered.specs.spl_meaning.States.{State, Outcome}
use Rattle.spl_safe_values.proofs.Came.{Comes, Free, One, comes_go, comes_step, comes_done, comes_if, comes_one}
use Rattle.spl_safe_values.proofs.Stores.{read_comes}

-- a location at which one word is read or stored
abbrev pub Narrow : Located → Type 0
Narrow p = width p.kind ≡ 1

pub neighbour_narrow : (up : Bool) (p : Located) → Narrow p → Narrow (neighbour up p)
neighbour_narrow true p e = e
neighbour_narrow false p e = e

-- ---- comparisons

told_comes : (b a : ℕ) (go : State → Outcome Code) → Comes Free go → Comes Free (λ s. told_apart b a s go)
told_comes b a go h = comes_if (b == a) h (comes_done (logically_compared b a) tt)

compared_comes : (up : Bool) (n : ℕ) (p q : Located) → Narrow p → Narrow q → Comes Free (compared up n p q)
compared_comes up zero p q one other = comes_done Equal tt
compared_comes up (suc n) p q one other =
    comes_step (comes_go (read_comes p) (λ bs x. comes_go (read_comes q) (λ cs y. comes_one bs (x ∙ one) (λ b. comes_one cs (y ∙ other) (λ a.
    told_comes b a (compared up n (neighbour up p) (neighbour up q))
    (compared_comes up n (neighbour up p) (neighbour up q) (neighbour_narrow up p one) (neighbour_narrow up q other)))))))

-- of bytes by a count
pub counted_comes : (count : ℕ) (p q : Located) → Narrow p → Narrow q → Comes Free (compared_by count p q)
counted_comes count p q one other = compared_comes (is_upward (signed count)) (count_size (signed count)) p q one other

-- and with a string
pub text_comes : (p : Located) (bytes : List ℕ) → Narrow p → Comes Free (compared_text p bytes)
text_comes p [] one = comes_done Equal tt
text_comes p (a ∷ as') one =
    comes_step (comes_go (read_comes p) (λ bs x. comes_one bs (x ∙ one) (λ b.
    told_comes b a (compared_text (next_located p) as') (text_comes (next_located p) as' one))))

-- their answers
pub told_word : (op : ℕ) (f : State → Outcome Code) → Comes Free f → Comes One (λ s. relation_told op (f s))
told_word op f h = comes_go h (λ c _. comes_done (truth_word (related op c) ∷ []) refl)
