-- The variable of a FOR.
use Rattle.std.proofs.Common.{◌≡◌, ℕ, true, List, length, Option, Some, None, refl, sym, ap, ◌∙◌}
use Rattle.std.specs.Prelude.{not}
use Rattle.std.proofs.lemmas.Bool.{false≢true}
use Rattle.spl_safe_values.specs.spl_tree.declared.expressions.Kind.{Kind}
use Rattle.spl_safe_values.specs.spl_tree.declared.expressions.Kind.TheVariants as kind
use Rattle.spl_safe_values.specs.spl_meaning.Kinds.{width}
use Rattle.spl_safe_values.specs.spl_meaning.Names as n
use Rattle.spl_safe_values.specs.spl_meaning.Names.{Sort}
use Rattle.spl_safe_values.specs.spl_meaning.Places.{Place}
use Rattle.spl_safe_values.specs.spl_meaning.References.{Setting, Located, access_of, read, store, locate}
use Rattle.spl_safe_values.specs.spl_meaning.Statements.{raised}
use Rattle.spl_safe_values.specs.spl_code.Calls.{Scope}
use Rattle.spl_safe_values.specs.spl_names.Names.{read_with, has_seen}
use Rattle.spl_stores.specs.Covered.{is_counted_name}
use Rattle.spl_safe_values.proofs.spl_values_proofs.VariableLemmas.{both}
use Rattle.spl_safe_values.proofs.Came.{Comes, Free, came_safe, came_done, comes_go, comes_more, comes_one}
use Rattle.spl_safe_values.proofs.Stores.{read_comes, store_comes}
use Rattle.spl_safe_values.proofs.Operators.{sum_comes}
use Rattle.spl_safe_values.proofs.Locations.{led_kind, has_location, name_comes}
use Rattle.spl_safe_values.proofs.Names.{seen_some}
use Rattle.spl_safe_effects.specs.Laws.{CountersAreSafe}

-- a location of an INTEGER
abbrev pub Counts : Located → Type 0
Counts p = p.kind ≡ kind.Integer

-- a name that is counted has one
counter_is : (st : Setting) (k : ℕ) (o : Option Sort) (place : Option Place) → is_counted_name st k o place ≡ true
    → (led_kind (access_of o) ≡ Some kind.Integer) × (has_location (access_of o) place ≡ true)
counter_is st k (Some (n.simple kind.Integer own)) place e = (refl, seen_some st k place e)
counter_is st k (Some (n.value kind.Integer)) place e = (refl, seen_some st k place e)
counter_is st k (Some (n.by_reference kind.Integer)) place e = (refl, seen_some st k place (both (not st.split) (has_seen st k place) e).1)
counter_is st k o place e = absurd (false≢true e)

pub counters_come : (c : Scope) (results : List ℕ → Option (Kind × Place)) (st : Setting) (x : List ℕ) (k : ℕ)
    → is_counted_name st k (c.names x) (c.places x) ≡ true → Comes Counts (locate (read_with c results st) x None)
counters_come c results st x k e =
    let r = counter_is st k (c.names x) (c.places x) e in
    comes_more (name_comes (read_with c results st) x (access_of (c.names x)) r.1) (λ p led. by (led_kind (access_of (c.names x))) p.kind r.0 led)
  where
    by : (o : Option Kind) (t : Kind) → o ≡ Some kind.Integer → o ≡ Some t → t ≡ kind.Integer
    by o t e f = let q : kind.Integer ≡ t = cc in sym q

-- it is raised by a step
pub raised_comes : (p : Located) (step : ℕ) → Counts p → Comes Free (raised p step)
raised_comes p step e =
    comes_go (read_comes p) (λ vs x. comes_one vs (x ∙ ap width e) (λ v. comes_go (sum_comes v step) (λ ws y. store_comes p ws (y ∙ sym (ap width e)))))

pub counters_safe : CountersAreSafe
counters_safe = record {
  found = λ c results st x k s e whole. came_safe Counts (locate (read_with c results st) x None s) ((counters_come c results st x k e).is s whole);
  counts = λ c results st x k s e whole. came_done Counts (locate (read_with c results st) x None s) ((counters_come c results st x k e).is s whole);
  read' = λ p s e whole. came_safe (λ vs. length vs ≡ width p.kind) (read p s) ((read_comes p).is s whole);
  stored = λ p vs s e one whole. came_safe Free (store p vs s) ((store_comes p vs (one ∙ sym (ap width e))).is s whole);
  raised' = λ p step s e whole. came_safe Free (raised p step s) ((raised_comes p step e).is s whole);
}
