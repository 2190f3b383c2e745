-- The modules of a program: among its units, and among its segments.
use Rattle.std.proofs.Common.{◌≡◌, ℕ, zero, suc, Bool, true, false, List, [], ◌∷◌, map, Some, refl, sym, subst}
use Rattle.std.specs.Prelude.{nat_eq, slice_get, if◌then◌else◌}
use Rattle.std.specs.Cmp.Lexicographic.{pointwise}
use Rattle.spl_ways.specs.spl_branch.declared.modules.Module.{Module}
use Rattle.spl_ways.specs.mpe_segmenter.Names.{segment_of, segment_names, modules_of, Part, part_from, parts}
use Rattle.spl_label_marks.specs.spl_scopes.Scopes.{Placed}
use Rattle.spl_label_marks.specs.spl_module_code.Modules.{IsModuleOf, AreOfUnit, AreOf}
use Rattle.spl_label_marks.specs.spl_module_code.Modules.{AreOfUnit as u}
use Rattle.spl_label_marks.specs.spl_module_code.Modules.{AreOf as a}
use Rattle.spl_routines.specs.Among.{IsIn, at_front, behind}
use Rattle.spl_routines.proofs.ListLemmas.{InEither, left, right, in_parts}

-- ---- modules

-- the modules of a segment are modules of the program
in_longer : (b : Bool) (x y : Module) (zs ms : List Module) → IsIn y (if b then x ∷ zs else zs) → (IsIn y zs → IsIn y ms) → IsIn y (x ∷ ms)
in_longer true x y zs ms (at_front e) rest = at_front e
in_longer true x y zs ms (behind k) rest = behind (rest k)
in_longer false x y zs ms k rest = behind (rest k)

in_modules : (name : List ℕ) (ms : List Module) (m : Module) → IsIn m (modules_of name ms) → IsIn m ms
in_modules name [] m k = k
in_modules name (x ∷ ms) m k = in_longer (pointwise nat_eq name (segment_of x)) x m (modules_of name ms) ms k (λ j. in_modules name ms m j)

-- a segment is that of its name
part_is : (ms : List Module) (names : List (List ℕ)) (i : ℕ) (p : Part) → slice_get (map (part_from ms) names) i ≡ Some p
    → (name : List ℕ) × (p ≡ part_from ms name)
part_is ms [] i p e = cc
part_is ms (name ∷ names) zero p e = let same : part_from ms name ≡ p = cc in (name, sym same)
part_is ms (name ∷ names) (suc i) p e = part_is ms names i p e

pub in_program : (ms : List Module) (i : ℕ) (p : Part) (m : Module) → slice_get (parts ms) i ≡ Some p → IsIn m p.modules → IsIn m ms
in_program ms i p m there k =
    let is = part_is ms (segment_names ms) i p there in
    in_modules is.0 ms m (by p (part_from ms is.0) is.1 k) where
      by : (p q : Part) → p ≡ q → IsIn m p.modules → IsIn m q.modules
      by p q same k = subst (λ (x : Part). IsIn m x.modules) same k

-- whose code a module has
pub record ModuleOf (ps : List Placed) (m : Module) : Type 0 where
  pub unit : Placed
  pub there : IsIn unit ps
  pub name : List ℕ
  pub number : ℕ
  pub is : IsModuleOf unit name number m

unit_module : (p : Placed) (taken : List ℕ) (names : List (List ℕ)) (ms : List Module) (m : Module) → AreOfUnit p taken names ms → IsIn m ms
    → (name : List ℕ) × (g : ℕ) × IsModuleOf p name g m
unit_module p taken [] ms m u.none k = elim k [ ]
unit_module p taken (name ∷ names) (x ∷ ms) m (u.more {g = g} e is rest) (at_front same) =
    (name, g, subst (λ (y : Module). IsModuleOf p name g y) (sym same) is)
unit_module p taken (name ∷ names) (x ∷ ms) m (u.more {g = g} e is rest) (behind k) = unit_module p (g ∷ taken) names ms m rest k
unit_module p taken (name ∷ names) ms m (u.skip e rest) k = unit_module p taken names ms m rest k

pub modules_of_units : (names : List (List ℕ)) (ps : List Placed) (ms : List Module) (m : Module) → AreOf names ps ms → IsIn m ms → ModuleOf ps m
modules_of_units names [] ms m a.none k = absurd (none_in m k) where
  none_in : (x : Module) → IsIn x [] → ⊥
  none_in x k = elim k [ ]
modules_of_units names (p ∷ ps) ms m (a.more {ms = xs} {ns = ns} one others) k = by (in_parts m xs ns k) (λ j. modules_of_units names ps ns m others j) where
  by : InEither m xs ns → (IsIn m ns → ModuleOf ps m) → ModuleOf (p ∷ ps) m
  by (left k) rest =
      let r = unit_module p [] names xs m one k in
      record { unit = p; there = at_front refl; name = r.0; number = r.1; is = r.2 }
  by (right k) rest =
      let r = rest k in
      record { unit = r.unit; there = behind r.there; name = r.name; number = r.number; is = r.is }
