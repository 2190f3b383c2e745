-- Where names lead, by how they do: names that have a place have a location of their kind.
use Rattle.std.proofs.Common.{◌≡◌, ℕ, Bool, true, false, List, Option, Some, None, refl, sym, subst}
use Rattle.std.specs.Prelude.{is_some, ◌&&◌}
use Rattle.std.proofs.lemmas.Bool.{false≢true}
use Rattle.spl_covered.specs.spl_tree.declared.expressions.Kind.{Kind}
use Rattle.spl_covered.specs.spl_meaning.Places.{Place}
use Rattle.spl_covered.specs.spl_meaning.References.{Here, Located, Access, its_own, by_address, by_cell, its_result, nowhere, address_of, element_located, own_located, led_located, result_located, index_or_zero, locate_by}
use Rattle.spl_covered.specs.spl_meaning.States.{done}
use Rattle.spl_safe_values.proofs.Came.{Comes, came_go, comes_done}
use Rattle.spl_safe_values.proofs.Stores.{word_comes}

-- the kind of what a name leads to
abbrev pub led_kind : Access → Option Kind
led_kind (its_own t) = Some t
led_kind (by_address t) = Some t
led_kind (by_cell is_pointer t) = Some t
led_kind its_result = None
led_kind nowhere = None

-- a location of that kind
abbrev pub IsLed : Access → Located → Type 0
IsLed a p = led_kind a ≡ Some p.kind

-- a name with a place of its own
own_comes : (t : Kind) (o : Option Place) → is_some o ≡ true → Comes (IsLed (its_own t)) (own_located t o None)
own_comes t (Some p) e = record { is = λ s h. (h, refl) }
own_comes t None e = absurd (false≢true e)

-- one whose word leads on
led_comes : (far : Bool) (t : Kind) (o : Option Place) (i : ℕ) → is_some o ≡ true → Comes (λ (p : Located). Some t ≡ Some p.kind) (led_located far t o i)
led_comes far t (Some p) i e = record {
  is = λ s h. came_go _ (λ (q : Located). Some t ≡ Some q.kind) _ (λ cell s1. done (element_located far t cell i) s1)
      ((word_comes false (address_of p s.now)).is s h) (λ cell _. comes_done (element_located far t cell i) refl);
}
led_comes far t None i e = absurd (false≢true e)

-- without an index, by any of them
abbrev pub has_location : Access → Option Place → Bool
has_location (its_own t) o = is_some o
has_location (by_address t) o = is_some o
has_location (by_cell is_pointer t) o = is_some o
has_location a o = false

pub name_comes : (h : Here) (x : List ℕ) (a : Access) → has_location a (h.places x) ≡ true → Comes (IsLed a) (locate_by h x a None)
name_comes h x (its_own t) e = own_comes t (h.places x) e
name_comes h x (by_address t) e = led_comes false t (h.places x) 0 e
name_comes h x (by_cell is_pointer t) e = led_comes (is_pointer && h.setting.split) t (h.places x) 0 e
name_comes h x a e = absurd (false≢true e)

-- and elements, at an index or none
abbrev pub has_elements : Access → Option Place → Bool
has_elements (by_cell is_pointer t) o = is_some o
has_elements a o = false

pub element_comes : (h : Here) (x : List ℕ) (a : Access) (i : Option ℕ) → has_elements a (h.places x) ≡ true → Comes (IsLed a) (locate_by h x a i)
element_comes h x (by_cell is_pointer t) i e = led_comes (is_pointer && h.setting.split) t (h.places x) (index_or_zero i) e
element_comes h x a i e = absurd (false≢true e)

-- a result that the body has
pub result_comes : (t : Kind) (o : Option (Kind × Place)) (r : Kind × Place) → o ≡ Some r → t ≡ r.0 → Comes (λ (p : Located). p.kind ≡ t) (result_located o None)
result_comes t o r is same =
    subst (λ (q : Option (Kind × Place)). Comes (λ (p : Located). p.kind ≡ t) (result_located q None)) (sym is) (record { is = λ s h. (h, sym same) })
