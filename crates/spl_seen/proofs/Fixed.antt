-- Which places do not move with the top: all outside subroutines, and in a subroutine those of items, which are declared around it.
use Rattle.std.proofs.Common.{◌≡◌, ℕ, Bool, true, false, if◌then◌else◌, List, [], ◌∷◌, Option, Some, None, refl, sym, ap, ◌∙◌}
use Rattle.spl_ruled_bodies.specs.spl_tree.declared.expressions.Kind.{Kind}
use Rattle.spl_ruled_bodies.specs.spl_meaning.Names.{Sort, Formal, find, same_name, parameters, sort_by}
use Rattle.spl_ruled_bodies.specs.spl_meaning.Places.{Place, data_word, above_base, below_base, below_return}
use Rattle.spl_ruled_bodies.specs.spl_meaning.References.{Setting}
use Rattle.spl_ruled_bodies.specs.spl_meaning.Bodies.{parameter_places}
use Rattle.spl_ruled_bodies.specs.spl_sound_names.Known.{is_item}
use Rattle.spl_ruled_bodies.proofs.spl_sound_names_proofs.Tables.{never}
use Rattle.spl_ruled_bodies.proofs.spl_sound_names_proofs.Levels.{some_same}
use Rattle.spl_sound_values.specs.spl_near_places.Near.{IsNear}
use Rattle.spl_sound_values.specs.spl_tops.Seen.{is_fixed}

-- nothing stands below a return word outside subroutines
pub near_fixed : (st : Setting) (p : Place) → st.inside ≡ false → IsNear st p → is_fixed p ≡ true
near_fixed st (data_word a) outer near = refl
near_fixed st (above_base n) outer near = refl
near_fixed st (below_base n) outer near = refl
near_fixed st (below_return n) outer near = never (sym outer ∙ near.1)

-- no parameter is an item
sorted_no_item : (k : Option Kind) (array value : Bool) → is_item (sort_by k array value) ≡ false
sorted_no_item None array value = refl
sorted_no_item (Some k) true value = refl
sorted_no_item (Some k) false true = refl
sorted_no_item (Some k) false false = refl

pub parameters_no_item : (fs : List Formal) (x : List ℕ) (s : Sort) → find (parameters fs) x ≡ Some s → is_item s ≡ false
parameters_no_item [] x s is = cc
parameters_no_item (f ∷ fs) x s is = by (same_name x f.name) (λ e. parameters_no_item fs x s e) is
  where
    by : (b : Bool) → (find (parameters fs) x ≡ Some s → is_item s ≡ false) → (if b then Some (sort_by f.kind f.array f.value) else find (parameters fs) x) ≡ Some s
        → is_item s ≡ false
    by true rest e = ap is_item (sym (some_same (sort_by f.kind f.array f.value) s e)) ∙ sorted_no_item f.kind f.array f.value
    by false rest e = rest e

-- where a name is no parameter, none has its place
pub no_spot : (fs : List Formal) (x : List ℕ) → find (parameters fs) x ≡ None → find (parameter_places below_return 0 fs) x ≡ None
no_spot [] x is = refl
no_spot (f ∷ fs) x is = by _ (same_name x f.name) (λ rest. no_spot fs x rest) is
  where
    by : (p : Place) (b : Bool) → (find (parameters fs) x ≡ None → find (parameter_places below_return 0 fs) x ≡ None)
        → (if b then Some (sort_by f.kind f.array f.value) else find (parameters fs) x) ≡ None → (if b then Some p else find (parameter_places below_return 0 fs) x) ≡ None
    by p true others there = cc
    by p false others there = others there
