-- Labels and jumps in a tree, by where the labels of its body lead.
use Rattle.std.proofs.Common.{◌≡◌, ℕ, ◌-◌, ◌≤◌, Bool, true, false, List, [], ◌∷◌, ◌++◌, Option, Some, None, refl, sym, ap, subst, ◌∙◌, arith}
use Rattle.std.specs.Prelude.{is_some, if◌then◌else◌}
use Rattle.std.proofs.lemmas.Bool.{false≢true, eqb-true}
use Rattle.spl_choices.specs.spl_branch.declared.pieces.Piece.TheVariants.{Begin, Mark}
use Rattle.spl_choices.specs.spl_tree.declared.names_and_places.At.{At}
use Rattle.spl_choices.specs.spl_tree.StatementTrees as stat
use Rattle.spl_choices.specs.spl_tree.StatementTrees.{Statement, Statements}
use Rattle.spl_choices.specs.spl_meaning.Names.{same_name}
use Rattle.spl_choices.specs.spl_meaning.StatementRules.{has_name, own_labels, list_labels}
use Rattle.spl_choices.specs.spl_meaning.States.{State, to_label, Outcome, leaves, beginning, stopping}
use Rattle.spl_choices.specs.spl_meaning.Statements.{bears, bears_among}
use Rattle.spl_choices.specs.spl_code.Instructions.{BR}
use Rattle.spl_choices.specs.spl_code.Parts.{Part, piece, nothing, ◌⨟◌}
use Rattle.spl_choices.specs.spl_statement_code.Landings.{Landing, dropped, jump, gone_to, landed}
use Rattle.spl_choices.specs.spl_statement_code.Instructions.{SUBS}
use Rattle.spl_choices.specs.spl_statement_code.Statements.{idle}
use Rattle.spl_choices.specs.spl_follow.Simulating.{Surroundings, Performs}
use Rattle.spl_choices.proofs.spl_follow_proofs.StandLemmas.{closed_last}
use Rattle.spl_choices.specs.spl_values.Reached.{IsWhole}
use Rattle.spl_choices.proofs.spl_values_proofs.VariableLemmas.{both}
use Rattle.spl_choices.proofs.spl_values_proofs.WholeLemmas.{whole_pieces, whole_then}
use Rattle.spl_jumps.specs.Landed.{is_landing, is_landed, are_landed, MayJump}
use Rattle.spl_jumps.specs.Laws.{PerformsAt, listing}
use Rattle.spl_jumps.proofs.JumpLemmas.{jumps}
use Rattle.spl_jumps.proofs.LabelLemmas.{same_letters, labelled, labelled_at}

-- ---- the labels of a list

-- those that a statement bears lead to where so many words wait
bears_landed : (at : List ℕ → Option Landing) (labels : List (List ℕ)) (s : Statement) (k : ℕ) → is_landed at labels s k ≡ true → (y : List ℕ) → bears s y ≡ true
    → is_landing (at y) k ≡ true
bears_landed at labels (stat.Statement.labelled x p s) k e y is =
    let two = both (is_landing (at x) k) (is_landed at labels s k) e in
    by (same_name y x) refl is two.0 (λ other. bears_landed at labels s k two.1 y other) where
      by : (b : Bool) → same_name y x ≡ b → (if b then true else bears s y) ≡ true → is_landing (at x) k ≡ true
          → (bears s y ≡ true → is_landing (at y) k ≡ true) → is_landing (at y) k ≡ true
      by true same is here rest = ap (λ (n : List ℕ). is_landing (at n) k) (same_letters y x same) ∙ here
      by false same is here rest = rest is
bears_landed at labels stat.Statement.empty k e y is = absurd (false≢true is)
bears_landed at labels (stat.Statement.block ss) k e y is = absurd (false≢true is)
bears_landed at labels (stat.Statement.if_test q s ss p) k e y is = absurd (false≢true is)
bears_landed at labels (stat.Statement.while_true v s p) k e y is = absurd (false≢true is)
bears_landed at labels (stat.Statement.until_true s v p) k e y is = absurd (false≢true is)
bears_landed at labels (stat.Statement.for_values x a b v s p) k e y is = absurd (false≢true is)
bears_landed at labels (stat.Statement.case_of v ss p) k e y is = absurd (false≢true is)
bears_landed at labels (stat.Statement.go_to x p) k e y is = absurd (false≢true is)
bears_landed at labels (stat.Statement.return p) k e y is = absurd (false≢true is)
bears_landed at labels (stat.Statement.assign to v p) k e y is = absurd (false≢true is)
bears_landed at labels (stat.Statement.assign_effect to v p) k e y is = absurd (false≢true is)
bears_landed at labels (stat.Statement.do_effect v p) k e y is = absurd (false≢true is)
bears_landed at labels (stat.Statement.call x es p) k e y is = absurd (false≢true is)

-- and so do those of a list
borne_landed : (at : List ℕ → Option Landing) (labels : List (List ℕ)) (ss : Statements) (k : ℕ) → are_landed at labels ss k ≡ true → (y : List ℕ)
    → bears_among ss y ≡ true → is_landing (at y) k ≡ true
borne_landed at labels stat.Statements.none k e y is = absurd (false≢true is)
borne_landed at labels (stat.Statements.and s ss) k e y is =
    let two = both (is_landed at labels s k) (are_landed at labels ss k) e in
    by (bears s y) refl is (λ one. bears_landed at labels s k two.0 y one) (λ others. borne_landed at labels ss k two.1 y others) where
      by : (b : Bool) → bears s y ≡ b → (if b then true else bears_among ss y) ≡ true → (bears s y ≡ true → is_landing (at y) k ≡ true)
          → (bears_among ss y ≡ true → is_landing (at y) k ≡ true) → is_landing (at y) k ≡ true
      by true here is one others = one here
      by false here is one others = others is

-- how many words wait there
words_there : (o : Option Landing) (l : Landing) (k : ℕ) → is_landing o k ≡ true → o ≡ Some l → l.pending ≡ k
words_there None l k e is = absurd (false≢true e)
words_there (Some x) l k e is = let same : x ≡ l = cc is in ap (λ (v : Landing). v.pending) (sym same) ∙ eqb-true x.pending k e

-- a name that stands among these and others
pub either_named : (xs ys : List (List ℕ)) (y : List ℕ) → has_name (xs ++ ys) y ≡ (if has_name xs y then true else has_name ys y)
either_named [] ys y = refl
either_named (x ∷ xs) ys y = by (same_name y x) (either_named xs ys y) where
  by : (b : Bool) → has_name (xs ++ ys) y ≡ (if has_name xs y then true else has_name ys y)
      → (if b then true else has_name (xs ++ ys) y) ≡ (if (if b then true else has_name xs y) then true else has_name ys y)
  by true rest = refl
  by false rest = rest

-- the names of a list's labels are those that it bears
own_borne : (s : Statement) (y : List ℕ) → has_name (own_labels s) y ≡ bears s y
own_borne (stat.Statement.labelled x p s) y = ap (λ (b : Bool). if same_name y x then true else b) (own_borne s y)
own_borne stat.Statement.empty y = refl
own_borne (stat.Statement.block ss) y = refl
own_borne (stat.Statement.if_test q s ss p) y = refl
own_borne (stat.Statement.while_true v s p) y = refl
own_borne (stat.Statement.until_true s v p) y = refl
own_borne (stat.Statement.for_values x a b v s p) y = refl
own_borne (stat.Statement.case_of v ss p) y = refl
own_borne (stat.Statement.go_to x p) y = refl
own_borne (stat.Statement.return p) y = refl
own_borne (stat.Statement.assign to v p) y = refl
own_borne (stat.Statement.assign_effect to v p) y = refl
own_borne (stat.Statement.do_effect v p) y = refl
own_borne (stat.Statement.call x es p) y = refl

list_borne : (ss : Statements) (y : List ℕ) → has_name (list_labels ss) y ≡ bears_among ss y
list_borne stat.Statements.none y = refl
list_borne (stat.Statements.and s ss) y =
    either_named (own_labels s) (list_labels ss) y ∙ ap (λ (b : Bool). if b then true else has_name (list_labels ss) y) (own_borne s y)
    ∙ ap (λ (b : Bool). if bears s y then true else b) (list_borne ss y)

-- one that the list does not bear is of those around it
named_around : (xs : List (List ℕ)) (ss : Statements) (y : List ℕ) → has_name (xs ++ list_labels ss) y ≡ true → bears_among ss y ≡ false → has_name xs y ≡ true
named_around xs ss y e out = by (has_name xs y) (sym (either_named xs (list_labels ss) y) ∙ e) where
  by : (b : Bool) → (if b then true else has_name (list_labels ss) y) ≡ true → b ≡ true
  by true is = refl
  by false is = absurd (false≢true (sym (list_borne ss y ∙ out) ∙ is))

-- ---- around statements

-- inside a list
pub jumps_inside : (at : List ℕ → Option Landing) (z : Surroundings) (labels : List (List ℕ)) (ss : Statements) (k : ℕ) → MayJump at z labels k
    → are_landed at (labels ++ list_labels ss) ss k ≡ true → MayJump at (listing (bears_among ss) k z) (labels ++ list_labels ss) k
jumps_inside at z labels ss k may landed' = record {
  marks = may.marks;
  held = λ y l named is. held_by y l named is (bears_among ss y) refl;
  few = λ y l named is. few_by y l named is (bears_among ss y) refl;
} where
  held_by : (y : List ℕ) (l : Landing) → has_name (labels ++ list_labels ss) y ≡ true → at y ≡ Some l → (b : Bool) → bears_among ss y ≡ b
      → (if b then k else z.exits.held (to_label y)) ≡ l.pending
  held_by y l named is true here = sym (words_there (at y) l k (borne_landed at (labels ++ list_labels ss) ss k landed' y here) is)
  held_by y l named is false here = may.held y l (named_around labels ss y named here) is

  few_by : (y : List ℕ) (l : Landing) → has_name (labels ++ list_labels ss) y ≡ true → at y ≡ Some l → (b : Bool) → bears_among ss y ≡ b → l.pending ≤ k
  few_by y l named is true here = let same = words_there (at y) l k (borne_landed at (labels ++ list_labels ss) ss k landed' y here) is in omega (arith, same)
  few_by y l named is false here = may.few y l (named_around labels ss y named here) is

-- ---- jumps

-- a GO TO that leads somewhere has whole code
pub gone_whole : (o : Option Landing) (at : At) (k : ℕ) → is_some o ≡ true → IsWhole (piece (Begin at) ⨟ gone_to o k)
gone_whole None at k e = absurd (false≢true e)
gone_whole (Some l) at k e = record {
  closed = λ h ws. closed_last (Begin at ∷ dropped (k - l.pending)) (BR l.mark ∷ []) refl;
  keeps = λ h ws. (whole_pieces (BR l.mark ∷ []) refl).keeps h ws;
}

-- and performs it
pub gone_performs : (at : List ℕ → Option Landing) (z : Surroundings) (labels : List (List ℕ)) (d k need number : ℕ) (y : List ℕ) (p : At)
    → MayJump at z labels k → has_name labels y ≡ true → is_some (at y) ≡ true
    → Performs z d k need (piece (Begin p) ⨟ gone_to (at y) k) (λ s. stopping number p s (λ u. leaves (to_label y) u))
gone_performs at z labels d k need number y p may named there = by (at y) refl there where
  by : (o : Option Landing) → at y ≡ o → is_some o ≡ true
      → Performs z d k need (piece (Begin p) ⨟ gone_to o k) (λ s. stopping number p s (λ u. leaves (to_label y) u))
  by None is e = absurd (false≢true e)
  by (Some l) is e =
      subst (λ (j : ℕ). Performs z d k need (piece (Begin p) ⨟ jump (k - j) l.mark) (λ s. stopping number p s (λ u. leaves (to_label y) u))) (may.held y l named is)
      (jumps z d k need number l.mark p (to_label y) (may.marks y l is))

-- ---- labels

-- a statement behind its label has whole code
pub labelled_whole : (o : Option Landing) (a : Part) → IsWhole a → IsWhole (landed o ⨟ idle ⨟ a)
labelled_whole None a x = whole_then (nothing ⨟ idle) a (record { closed = λ h ws. refl; keeps = λ h ws. (whole_pieces (SUBS 0 ∷ []) refl).keeps h ws }) x
labelled_whole (Some l) a x = whole_then (piece (Mark l.mark) ⨟ idle) a (record { closed = λ h ws. refl; keeps = λ h ws. (whole_pieces (SUBS 0 ∷ []) refl).keeps h ws }) x

-- which performs it
pub labelled_performs : (at : List ℕ → Option Landing) (z : Surroundings) (d k need : ℕ) (y : List ℕ) (a : Part) (one : State → Outcome (Unit {0}))
    → is_landing (at y) k ≡ true → Performs z d k need a one → Performs z d k need (landed (at y) ⨟ idle ⨟ a) (λ s. beginning s (λ u. one u))
labelled_performs at z d k need y a one e x = by (at y) e where
  by : (o : Option Landing) → is_landing o k ≡ true → Performs z d k need (landed o ⨟ idle ⨟ a) (λ s. beginning s (λ u. one u))
  by None e = absurd (false≢true e)
  by (Some l) e = labelled z d k need l.mark a one x

-- also from its labels on
pub labelled_from : (at : List ℕ → Option Landing) (z : Surroundings) (labels : List (List ℕ)) (d k need : ℕ) (y : List ℕ) (a : Part)
    (one : State → Outcome (Unit {0})) (has : List ℕ → Bool) (from : List ℕ → State → Outcome (Unit {0})) → MayJump at z labels k → is_landing (at y) k ≡ true
    → Performs z d k need a one → PerformsAt z d k need a has from
    → PerformsAt z d k need (landed (at y) ⨟ idle ⨟ a) (λ x. if same_name x y then true else has x)
    (λ x s. if same_name x y then beginning s (λ u. one u) else from x s)
labelled_from at z labels d k need y a one has from may e x others = by (at y) refl e where
  by : (o : Option Landing) → at y ≡ o → is_landing o k ≡ true
      → PerformsAt z d k need (landed o ⨟ idle ⨟ a) (λ x. if same_name x y then true else has x) (λ x s. if same_name x y then beginning s (λ u. one u) else from x s)
  by None is e = absurd (false≢true e)
  by (Some l) is e = labelled_at z d k need l.mark y a one has from (may.marks y l is) x others
