-- DOUBLE variables and parameters by value: what they stand for, and their code.
use Rattle.std.proofs.Common.{◌≡◌, ℕ, ◌+◌, ◌≤◌, true, false, List, refl, sym, ap, subst, ◌∙◌}
use Rattle.std.specs.Prelude.{Option, Some, None}
use Rattle.std.proofs.lemmas.Bool.{false≢true}
use Rattle.spl_statement_code.specs.spl_tree.declared.expressions.Kind.{Kind}
use Rattle.spl_statement_code.specs.spl_tree.declared.expressions.Kind.TheVariants as kind
use Rattle.spl_statement_code.specs.spl_tree.declared.names_and_places.At.{At}
use Rattle.spl_statement_code.specs.spl_tree.Trees as tree
use Rattle.spl_statement_code.specs.spl_meaning.Kinds.{of, named_operand}
use Rattle.spl_statement_code.specs.spl_meaning.Names as n
use Rattle.spl_statement_code.specs.spl_meaning.Names.{Sort}
use Rattle.spl_statement_code.specs.spl_meaning.Pending.{result_words}
use Rattle.spl_statement_code.specs.spl_meaning.Places.{Place}
use Rattle.spl_statement_code.specs.spl_meaning.References.{Here, Setting, Access, its_own, access_of, target_access, own_located, locate_by, read}
use Rattle.spl_statement_code.specs.spl_meaning.States.{State, Outcome, done, then_go}
use Rattle.spl_statement_code.specs.spl_meaning.Values.{Callee, Sense, a_variable, sense_of, named_value, value, arguments}
use Rattle.spl_statement_code.specs.spl_code.Calls.{Scope}
use Rattle.spl_statement_code.specs.spl_code.Code as made
use Rattle.spl_statement_code.specs.spl_code.Code.{as_value, code}
use Rattle.spl_statement_code.specs.spl_code.Operands.{mode_of, loaded, at_place}
use Rattle.spl_statement_code.specs.spl_code.Parts.{Part, pieces, nothing, ◌⨟◌}
use Rattle.spl_statement_code.specs.Assignments.{assigned_access}
use Rattle.spl_addresses.specs.spl_follow.Simulating.{Surroundings, Simulates}
use Rattle.spl_addresses.specs.spl_values.Reached.{IsWhole}
use Rattle.spl_addresses.proofs.spl_values_proofs.WholeLemmas.{whole_pieces, whole_first, whole_last, same_simulates, first_simulates, last_simulates}
use Rattle.spl_tops.specs.Seen.{is_seen}
use Rattle.spl_addresses.proofs.spl_variables_proofs.OwnLemmas.{own_words_give}
use Rattle.spl_names.specs.Names.{read_with, is_wide_name}

-- what such a name is
pub record IsWide (st : Setting) (x : List ℕ) (k : ℕ) (o : Option Sort) (pl : Option Place) : Type 0 where
  pub place : Place
  pub sense : sense_of x o ≡ a_variable
  pub access : access_of o ≡ its_own kind.Double
  pub target : target_access o ≡ its_own kind.Double
  pub made : assigned_access o ≡ its_own kind.Double
  pub operand : named_operand o ≡ of kind.Double
  pub is : pl ≡ Some place
  pub seen : is_seen st k place ≡ true

-- by what it stands for
pub wide_case : (st : Setting) (x : List ℕ) (k : ℕ) (o : Option Sort) (pl : Option Place) → is_wide_name st k o pl ≡ true → IsWide st x k o pl
wide_case st x k (Some (n.simple kind.Double own)) (Some place) e =
    record { place = place; sense = refl; access = refl; target = refl; made = refl; operand = refl; is = refl; seen = e }
wide_case st x k (Some (n.value kind.Double)) (Some place) e =
    record { place = place; sense = refl; access = refl; target = refl; made = refl; operand = refl; is = refl; seen = e }
wide_case st x k (Some (n.simple kind.Double own)) None e = absurd (false≢true e)
wide_case st x k (Some (n.value kind.Double)) None e = absurd (false≢true e)
wide_case st x k (Some (n.simple kind.Integer own)) pl e = absurd (false≢true e)
wide_case st x k (Some (n.simple kind.Logical own)) pl e = absurd (false≢true e)
wide_case st x k (Some (n.simple kind.Byte own)) pl e = absurd (false≢true e)
wide_case st x k (Some (n.value kind.Integer)) pl e = absurd (false≢true e)
wide_case st x k (Some (n.value kind.Logical)) pl e = absurd (false≢true e)
wide_case st x k (Some (n.value kind.Byte)) pl e = absurd (false≢true e)
wide_case st x k None pl e = absurd (false≢true e)
wide_case st x k (Some (n.equate v)) pl e = absurd (false≢true e)
wide_case st x k (Some (n.array t own low high)) pl e = absurd (false≢true e)
wide_case st x k (Some (n.view t own base)) pl e = absurd (false≢true e)
wide_case st x k (Some (n.pointer t own)) pl e = absurd (false≢true e)
wide_case st x k (Some (n.by_reference t)) pl e = absurd (false≢true e)
wide_case st x k (Some (n.array_parameter t)) pl e = absurd (false≢true e)
wide_case st x k (Some n.label) pl e = absurd (false≢true e)
wide_case st x k (Some (n.intrinsic i)) pl e = absurd (false≢true e)
wide_case st x k (Some (n.procedure p)) pl e = absurd (false≢true e)
wide_case st x k (Some (n.subroutine p)) pl e = absurd (false≢true e)
wide_case st x k (Some n.unknown) pl e = absurd (false≢true e)

-- the code of such a name
name_code : (c : Scope) (st : Setting) (x : List ℕ) (at : At) (k : ℕ) (r : IsWide st x k (c.names x) (c.places x))
    → code c (tree.Tree.named x tree.Trees.none at) as_value k ≡ nothing ⨟ pieces (loaded (its_own kind.Double) false (mode_of k r.place)) ⨟ nothing
name_code c st x at k r =
    ap (λ (s : Sense). made.named c x s (λ p. made.arguments c p.formals tree.Trees.none (k + result_words p)) (nothing ⨟ pieces (at_place (c.places x) (λ place. loaded (access_of (c.names x)) false (mode_of k place)))) ⨟ nothing)
    r.sense
    ∙ ap (λ (a : Access). nothing ⨟ pieces (at_place (c.places x) (λ place. loaded a false (mode_of k place))) ⨟ nothing) r.access
    ∙ ap (λ (o : Option Place). nothing ⨟ pieces (at_place o (λ place. loaded (its_own kind.Double) false (mode_of k place))) ⨟ nothing) r.is

pub name_whole : (c : Scope) (st : Setting) (x : List ℕ) (at : At) (k : ℕ) → IsWide st x k (c.names x) (c.places x)
    → IsWhole (code c (tree.Tree.named x tree.Trees.none at) as_value k)
name_whole c st x at k r =
    subst (λ (a : Part). IsWhole a) (sym (name_code c st x at k r))
    (whole_last (nothing ⨟ pieces (loaded (its_own kind.Double) false (mode_of k r.place)))
    (whole_first (pieces (loaded (its_own kind.Double) false (mode_of k r.place))) (whole_pieces (loaded (its_own kind.Double) false (mode_of k r.place)) refl)))

pub name_simulates : (c : Scope) (results : List ℕ → Option (Kind × Place)) (z : Surroundings) (call : Callee) (d : ℕ) (x : List ℕ) (at : At) (k need : ℕ)
    → IsWide z.setting x k (c.names x) (c.places x) → 2 ≤ need
    → Simulates z d as_value 2 k need (code c (tree.Tree.named x tree.Trees.none at) as_value k)
    (λ s. value (read_with c results z.setting) call (tree.Tree.named x tree.Trees.none at) k s)
name_simulates c results z call d x at k need r enough =
    same_simulates z d as_value 2 k need (code c (tree.Tree.named x tree.Trees.none at) as_value k) (nothing ⨟ pieces (loaded (its_own kind.Double) false (mode_of k r.place)) ⨟ nothing)
    (λ s. value h call (tree.Tree.named x tree.Trees.none at) k s) (λ s. then_go (own_located kind.Double (Some r.place) None s) (λ p t. read p t)) (name_code c z.setting x at k r)
    (λ s. ap (λ (t : Sense). valued t s) r.sense ∙ ap (λ (a : Access). then_go (locate_by h x a None s) (λ p t. read p t)) r.access
    ∙ ap (λ (o : Option Place). then_go (own_located kind.Double o None s) (λ p t. read p t)) r.is)
    (last_simulates z d as_value 2 k need (nothing ⨟ pieces (loaded (its_own kind.Double) false (mode_of k r.place))) (λ s. then_go (own_located kind.Double (Some r.place) None s) (λ p t. read p t))
    (first_simulates z d as_value 2 k need (pieces (loaded (its_own kind.Double) false (mode_of k r.place))) (λ s. then_go (own_located kind.Double (Some r.place) None s) (λ p t. read p t))
    (own_words_give z d k need kind.Double r.place r.seen enough))) where
      h : Here
      h = read_with c results z.setting

      valued : Sense → State → Outcome (List ℕ)
      valued t s =
          named_value h x t (λ s1. done None s1) (λ p s1. arguments h call p.formals tree.Trees.none (k + result_words p) s1) call k s
