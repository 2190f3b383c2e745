-- Results on the left of :=: what their names stand for, and where they are.
use Rattle.std.proofs.Common.{◌≡◌, ℕ, true, false, List, refl, sym, ap, ◌∙◌}
use Rattle.std.specs.Prelude.{Option, Some, None, unwrap_or}
use Rattle.std.proofs.lemmas.Bool.{false≢true}
use Rattle.spl_covered.specs.spl_tree.declared.expressions.Kind.{Kind}
use Rattle.spl_covered.specs.spl_tree.declared.expressions.Kind.TheVariants as kind
use Rattle.spl_covered.specs.spl_meaning.Names as n
use Rattle.spl_covered.specs.spl_meaning.Names.{Sort}
use Rattle.spl_covered.specs.spl_meaning.Places.{Place}
use Rattle.spl_covered.specs.spl_meaning.References.{Setting, its_own, its_result, target_access, own_located, result_located, locate_by, locate_target}
use Rattle.spl_covered.specs.spl_meaning.States.{State}
use Rattle.spl_covered.specs.spl_code.Calls.{Scope}
use Rattle.spl_covered.specs.spl_statement_code.Assignments.{result_access, assigned_access}
use Rattle.spl_covered.specs.spl_tops.Seen.{is_seen}
use Rattle.spl_covered.proofs.spl_values_proofs.VariableLemmas.{both}
use Rattle.spl_covered.specs.spl_names.Names.{read_with}
use Rattle.spl_targets.specs.Results.{result_kind, same_kind, is_result, ResultsAgree}

kinds_same : (t u : Kind) → same_kind t u ≡ true → t ≡ u
kinds_same kind.Integer kind.Integer e = refl
kinds_same kind.Logical kind.Logical e = refl
kinds_same kind.Byte kind.Byte e = refl
kinds_same kind.Double kind.Double e = refl
kinds_same kind.Integer kind.Logical e = absurd (false≢true e)
kinds_same kind.Integer kind.Byte e = absurd (false≢true e)
kinds_same kind.Integer kind.Double e = absurd (false≢true e)
kinds_same kind.Logical kind.Integer e = absurd (false≢true e)
kinds_same kind.Logical kind.Byte e = absurd (false≢true e)
kinds_same kind.Logical kind.Double e = absurd (false≢true e)
kinds_same kind.Byte kind.Integer e = absurd (false≢true e)
kinds_same kind.Byte kind.Logical e = absurd (false≢true e)
kinds_same kind.Byte kind.Double e = absurd (false≢true e)
kinds_same kind.Double kind.Integer e = absurd (false≢true e)
kinds_same kind.Double kind.Logical e = absurd (false≢true e)
kinds_same kind.Double kind.Byte e = absurd (false≢true e)

-- what such a name means
pub record IsResult (st : Setting) (k : ℕ) (o : Option Kind) (r : Option (Kind × Place)) (pl : Option Place) : Type 0 where
  pub type : Kind
  pub at : Place
  pub place : Place
  pub kind' : o ≡ Some type
  pub result : r ≡ Some (type, at)
  pub is : pl ≡ Some place
  pub seen : is_seen st k place ≡ true

pub result_case : (st : Setting) (k : ℕ) (o : Option Kind) (r : Option (Kind × Place)) (pl : Option Place) → is_result st k o r pl ≡ true → IsResult st k o r pl
result_case st k (Some t) (Some r) (Some place) e =
    let two = both (same_kind t r.0) (is_seen st k place) e in
    record {
      type = t;
      at = r.1;
      place = place;
      kind' = refl;
      result = ap (λ (u : Kind). Some (u, r.1)) (sym (kinds_same t r.0 two.0));
      is = refl;
      seen = two.1;
    }
result_case st k (Some t) (Some r) None e = absurd (false≢true (both (same_kind t r.0) false e).1)
result_case st k (Some t) None pl e = absurd (false≢true e)
result_case st k None r pl e = absurd (false≢true e)

-- it is stored as a variable of its kind
pub result_made : (o : Option Sort) (t : Kind) → result_kind o ≡ Some t → assigned_access o ≡ its_own t
result_made (Some (n.procedure p)) t e = ap result_access e
result_made (Some (n.subroutine p)) t e = ap result_access e
result_made None t e = cc
result_made (Some (n.equate v)) t e = cc
result_made (Some (n.simple u own)) t e = cc
result_made (Some (n.array u own low high)) t e = cc
result_made (Some (n.view u own base)) t e = cc
result_made (Some (n.pointer u own)) t e = cc
result_made (Some (n.value u)) t e = cc
result_made (Some (n.by_reference u)) t e = cc
result_made (Some (n.array_parameter u)) t e = cc
result_made (Some n.label) t e = cc
result_made (Some (n.intrinsic i)) t e = cc
result_made (Some n.unknown) t e = cc

result_target : (o : Option Sort) (t : Kind) → result_kind o ≡ Some t → target_access o ≡ its_result
result_target (Some (n.procedure p)) t e = refl
result_target (Some (n.subroutine p)) t e = refl
result_target None t e = cc
result_target (Some (n.equate v)) t e = cc
result_target (Some (n.simple u own)) t e = cc
result_target (Some (n.array u own low high)) t e = cc
result_target (Some (n.view u own base)) t e = cc
result_target (Some (n.pointer u own)) t e = cc
result_target (Some (n.value u)) t e = cc
result_target (Some (n.by_reference u)) t e = cc
result_target (Some (n.array_parameter u)) t e = cc
result_target (Some n.label) t e = cc
result_target (Some (n.intrinsic i)) t e = cc
result_target (Some n.unknown) t e = cc

-- where places agree with results it is located as that variable
pub result_leads : (c : Scope) (results : List ℕ → Option (Kind × Place)) (st : Setting) (x : List ℕ) (k : ℕ) → ResultsAgree c results
    → (r : IsResult st k (result_kind (c.names x)) (results x) (c.places x)) → (v : State)
    → locate_target (read_with c results st) x None v ≡ own_located r.type (Some r.place) None v
result_leads c results st x k agrees r v =
    ap (λ a. locate_by (read_with c results st) x a None v) (result_target (c.names x) r.type r.kind')
    ∙ ap (λ o. result_located o None v) r.result
    ∙ ap (λ p. own_located r.type (Some p) None v) (same r.at r.place (sym (agrees.agree x r.type r.type r.at r.kind' r.result) ∙ r.is)) where
      same : (p q : Place) → Some p ≡ Some q → p ≡ q
      same p q e = ap (λ o. unwrap_or o p) e
