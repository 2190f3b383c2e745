-- Parts of code: whole ones, put together; and parts that simulate what others do.
use Rattle.std.proofs.Common.{◌≡◌, ℕ, suc, ◌+◌, true, List, [], ◌∷◌, ◌++◌, refl, sym, ap, subst, ◌∙◌}
use Rattle.std.proofs.lemmas.List.{append-nil}
use Rattle.hp_yields.specs.spl_branch.declared.pieces.Piece.{Piece}
use Rattle.hp_yields.specs.spl_branch.declared.pieces.Piece.TheVariants.{Mark}
use Rattle.hp_yields.specs.spl_meaning.Laws.{IsFront}
use Rattle.hp_yields.specs.spl_meaning.States.{State, Outcome, done, leaves, spent, ends, strays, then_go}
use Rattle.hp_yields.specs.spl_code.Parts.{Part, pieces, piece, nothing, ◌⨟◌, with_fresh}
use Rattle.hp_yields.specs.spl_code.Code.{Aim}
use Rattle.hp_yields.specs.spl_follow.Standing.{Stands, IsClosed, due_after}
use Rattle.hp_yields.specs.spl_follow.Parts.{Gives}
use Rattle.hp_yields.specs.spl_follow.Simulating.{Surroundings, Simulates}
use Rattle.hp_yields.proofs.spl_follow_proofs.StandLemmas.{closed_last, due_add}
use Rattle.spl_values.specs.Reached.{IsWhole}
use Rattle.spl_values.proofs.SumLemmas.{front_on}

-- ---- whole parts

-- pieces that close
pub whole_pieces : (ps : List Piece) → IsClosed ps → IsWhole (pieces ps)
whole_pieces ps closed = record { closed = λ l ws. closed; keeps = λ l ws. record { rest = []; is = sym (append-nil ws) } }

-- one part, and then another
pub whole_then : (a b : Part) → IsWhole a → IsWhole b → IsWhole (a ⨟ b)
whole_then a b x y = record {
  closed = λ l ws. closed_last (a l ws).pieces (b (l + (a l ws).marks) (a l ws).wants).pieces (y.closed (l + (a l ws).marks) (a l ws).wants);
  keeps = λ l ws.
      front_on ws (a l ws).wants (b (l + (a l ws).marks) (a l ws).wants).wants (x.keeps l ws) (y.keeps (l + (a l ws).marks) (a l ws).wants);
}

-- with nothing before it, or behind it
pub whole_first : (a : Part) → IsWhole a → IsWhole (nothing ⨟ a)
whole_first a x = record { closed = λ l ws. x.closed (l + 0) ws; keeps = λ l ws. x.keeps (l + 0) ws }

pub whole_last : (a : Part) → IsWhole a → IsWhole (a ⨟ nothing)
whole_last a x = record {
  closed = λ l ws. ap (λ (ps : List Piece). due_after true ps) (append-nil (a l ws).pieces) ∙ x.closed l ws;
  keeps = λ l ws. x.keeps l ws;
}

-- a mark behind what closes
pub closed_mark : (ps : List Piece) (l : ℕ) → IsClosed ps → IsClosed (ps ++ Mark l ∷ [])
closed_mark ps l closed = due_add true ps (Mark l ∷ []) ∙ closed

pub whole_mark : (a : Part) (l : ℕ) → IsWhole a → IsWhole (a ⨟ piece (Mark l))
whole_mark a l x = record { closed = λ h ws. closed_mark (a h ws).pieces l (x.closed h ws); keeps = λ h ws. x.keeps h ws }

-- with a mark of its own
pub whole_fresh : (a : ℕ → Part) → ((l : ℕ) → IsWhole (a l)) → IsWhole (with_fresh a)
whole_fresh a x = record { closed = λ l ws. (x l).closed (suc l) ws; keeps = λ l ws. (x l).keeps (suc l) ws }

-- pieces that close, behind anything that keeps its names
pub whole_behind : (a : Part) (ps : List Piece) → IsWhole a → IsClosed ps → IsWhole (a ⨟ pieces ps)
whole_behind a ps x closed = whole_then a (pieces ps) x (whole_pieces ps closed)

-- ---- the same parts and meanings

-- what comes behind an outcome
pub then_same : {A B : Type 0} (o : Outcome A) (f g : A → State → Outcome B) → ((a : A) (s : State) → f a s ≡ g a s) → then_go o f ≡ then_go o g
then_same (done a s) f g same = same a s
then_same (leaves x s) f g same = refl
then_same (spent s) f g same = refl
then_same (ends e s) f g same = refl
then_same (strays s) f g same = refl

-- what is the same simulates the same
pub same_simulates : (z : Surroundings) (d : ℕ) (aim : Aim) (j k need : ℕ) (a b : Part) (f g : State → Outcome (List ℕ)) → a ≡ b → ((s : State) → f s ≡ g s)
    → Simulates z d aim j k need b g → Simulates z d aim j k need a f
same_simulates z d aim j k need a b f g code same x = record {
  does = λ h ws p q s l m stands front ready.
      subst (λ (o : Outcome (List ℕ)). Gives z.ground z.rate z.setting z.sites.marks aim j p q k s l m o) (sym (same s))
      (x.does h ws p q s l m (subst (λ (c : Part). Stands z.ground z.sites p (c h ws).pieces q) code stands)
      (subst (λ (c : Part). IsFront (c h ws).wants z.wants) code front) ready);
}

-- with nothing before it, or behind it
pub first_simulates : (z : Surroundings) (d : ℕ) (aim : Aim) (j k need : ℕ) (a : Part) (f : State → Outcome (List ℕ)) → Simulates z d aim j k need a f
    → Simulates z d aim j k need (nothing ⨟ a) f
first_simulates z d aim j k need a f x = record {
  does = λ h ws p q s l m stands front ready. x.does (h + 0) ws p q s l m stands front ready;
}

pub last_simulates : (z : Surroundings) (d : ℕ) (aim : Aim) (j k need : ℕ) (a : Part) (f : State → Outcome (List ℕ)) → Simulates z d aim j k need a f
    → Simulates z d aim j k need (a ⨟ nothing) f
last_simulates z d aim j k need a f x = record {
  does = λ h ws p q s l m stands front ready.
      x.does h ws p q s l m (subst (λ (ps : List Piece). Stands z.ground z.sites p ps q) (append-nil (a h ws).pieces) stands) front ready;
}
